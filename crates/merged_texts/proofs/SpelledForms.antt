-- Names that say what is meant at their place change nothing of what can be printed: neither that a function is good,
-- nor its height, nor its positions.
use Rattle.std.specs.Prelude.{◌≡◌, ◌+◌, max, List, [], ◌∷◌, map, All, Option, Some, None}
use Rattle.std.proofs.Common.{refl, sym, ap, ap₂, ◌∙◌, subst}
use Rattle.std.specs.Option.{option_map}
use Rattle.std.proofs.lemmas.List.Elements.{All-map, All-weaker}
use Rattle.c_lang.specs.Names.{Bytes}
use Rattle.c_lang.specs.Positions.{StatementHasPositions, StatementsHavePositions, FuncHasPositions}
use Rattle.c_lang.specs.Trees.{Expression, literal, variable, element, function, null, negation, logical_not, binary, Statement, Statements, skip, set, set_element, call, call_by, if_else, while_loop, break_loop, return_with, assert_that, input, output, point, choice, force, pick, none, more}
use Rattle.c_lang.specs.declared.program.Func.{Func}
use Rattle.c_lang.proofs.TreeLemmas.{statements_back}
use Rattle.c_types.specs.Bodies.{body_of}
use Rattle.version_names.specs.Parts.{Parts}
use Rattle.version_names.specs.declared.part.Origin.TheVariants as prefix
use Rattle.version_names.specs.declared.part.Part.{Part}
use Rattle.version_names.specs.declared.part.Part.TheVariants as part
use Rattle.version_names.specs.declared.part.Sort2.TheVariants as sort
use Rattle.client_specs.specs.declared.region.Region.{Region}
use Rattle.client_specs.specs.declared.region.Region.TheVariants.{Here, After, Before}
use Rattle.client_specs.specs.Spelled.{version_at, spelled_by, region_after, spelled, spelled_expression, spelled_statement, spelled_statements, spelled_func}
use Rattle.merged_program.specs.Expressions.{renamed}
use Rattle.merge_printer.specs.Heights.{expression_height, arguments_height, optional_height, statement_height, statements_height, funcs_height}
use Rattle.merge_printer.proofs.Words.{IsName}
use Rattle.written_laws.specs.Walk.{Context, told, told_all, in_loop, in_pick, past, past_all, start_of, Throughout, ThroughoutAll}
use Rattle.merged_texts.proofs.FunctionFits.{IsGoodFunc}
use Rattle.merged_texts.proofs.MergedHeights.{same_height}
use Rattle.merged_texts.proofs.NameFits.{name_in_word, merged_fits}
use Rattle.merged_texts.proofs.SourceStatements.{IsSound, AreSound, ReturnsSound, IsGood}

module _ (parts : Parts) where
  -- ---- names and expressions

  spelled_name : (region : Region) (f : Bytes) → IsName f → IsName (spelled parts region f)
  spelled_name region f h = by_part (parts (version_at region) sort.Code f)
    where
      by_part : (o : Option Part) → IsName (spelled_by o f)
      by_part None = h
      by_part (Some part.Both) = h
      by_part (Some part.Old) = merged_fits prefix.Old f (name_in_word f h)
      by_part (Some part.New) = merged_fits prefix.New f (name_in_word f h)

  sound : (region : Region) (e : Expression) → IsSound e → IsSound (spelled_expression parts region e)
  sound region (literal z) h = h
  sound region (variable x) h = h
  sound region (element a i) h = (h.0, sound region i h.1)
  sound region (function f) h = spelled_name region f h
  sound region null h = h
  sound region (negation e) h = sound region e h
  sound region (logical_not e) h = sound region e h
  sound region (binary o a b) h = (sound region a h.0, sound region b h.1)

  all_sound : (region : Region) (es : List Expression) → AreSound es → AreSound (map (spelled_expression parts region) es)
  all_sound region [] h = tt
  all_sound region (e ∷ es) h = (sound region e h.0, all_sound region es h.1)

  return_sound : (region : Region) (e : Option Expression) → ReturnsSound e → ReturnsSound (option_map (spelled_expression parts region) e)
  return_sound region None h = tt
  return_sound region (Some e) h = sound region e h

  -- ---- what is declared

  mutual
    told_spelled : (names : List Bytes) (region : Region) (s : Statement) → told names (spelled_statement parts region s) ≡ told names s
    told_spelled names region (if_else p e xs ys) =
        ap (λ (ns : List Bytes). told_all ns (spelled_statements parts region ys)) (told_all_spelled names region xs) ∙ told_all_spelled (told_all names xs) region ys
    told_spelled names region (while_loop p e xs) = told_all_spelled names region xs
    told_spelled names region (skip p) = refl
    told_spelled names region (set p d e) = refl
    told_spelled names region (set_element p a i e) = refl
    told_spelled names region (call p d f es) = refl
    told_spelled names region (call_by p d x es) = refl
    told_spelled names region (break_loop p) = refl
    told_spelled names region (return_with p e) = refl
    told_spelled names region (assert_that p e) = refl
    told_spelled names region (input p d) = refl
    told_spelled names region (output p e) = refl
    told_spelled names region (point p k) = refl
    told_spelled names region (choice p d k) = refl
    told_spelled names region (force p) = refl
    told_spelled names region (pick p a b) = refl

    told_all_spelled : (names : List Bytes) (region : Region) (ss : Statements) → told_all names (spelled_statements parts region ss) ≡ told_all names ss
    told_all_spelled names region none = refl
    told_all_spelled names region (more s ss) =
        ap (λ (ns : List Bytes). told_all ns (spelled_statements parts (region_after region s) ss)) (told_spelled names region s)
        ∙ told_all_spelled (told names s) (region_after region s) ss

  abbrev at_names : Context → List Bytes → Context
  at_names at names = record at { declared = names }

  -- ---- good statements

  mutual
    good : (at : Context) (region : Region) (s : Statement) → Throughout IsGood at s → Throughout IsGood at (spelled_statement parts region s)
    good at region (skip p) h = h
    good at region (set p d e) h = (h.0, sound region e h.1)
    good at region (set_element p a i e) h = (h.0, sound region i h.1, sound region e h.2)
    good at region (call p d f es) h = (h.0, spelled_name region f h.1, all_sound region es h.2)
    good at region (call_by p d x es) h = (h.0, h.1, all_sound region es h.2)
    good at region (if_else p e xs ys) h = (
      sound region e h.0,
      all_good at region xs h.1,
      subst (λ (ns : List Bytes). ThroughoutAll IsGood (at_names at ns) (spelled_statements parts region ys)) (sym (told_all_spelled at.declared region xs)) (all_good (past_all at xs) region ys h.2),
    )
    good at region (while_loop p e xs) h = (sound region e h.0, all_good (in_loop at) region xs h.1)
    good at region (break_loop p) h = h
    good at region (return_with p e) h = return_sound region e h
    good at region (assert_that p e) h = sound region e h
    good at region (input p d) h = h
    good at region (output p e) h = sound region e h
    good at region (point p k) h = h
    good at region (choice p d k) h = h
    good at region (force p) h = h
    good at region (pick p a b) h = (h.0, good (in_pick at) After a h.1, good (in_pick at) Before b h.2)

    all_good : (at : Context) (region : Region) (ss : Statements) → ThroughoutAll IsGood at ss → ThroughoutAll IsGood at (spelled_statements parts region ss)
    all_good at region none h = tt
    all_good at region (more s ss) h = (
      good at region s h.0,
      subst (λ (ns : List Bytes). ThroughoutAll IsGood (at_names at ns) (spelled_statements parts (region_after region s) ss)) (sym (told_spelled at.declared region s))
          (all_good (past at s) (region_after region s) ss h.1),
    )

  -- ---- heights

  spelled_is : (region : Region) (e : Expression) → spelled_expression parts region e ≡ renamed (λ (x : Bytes). x) (spelled parts region) e
  spelled_is region (literal z) = refl
  spelled_is region (variable x) = refl
  spelled_is region (element a i) = ap (element a) (spelled_is region i)
  spelled_is region (function f) = refl
  spelled_is region null = refl
  spelled_is region (negation e) = ap negation (spelled_is region e)
  spelled_is region (logical_not e) = ap logical_not (spelled_is region e)
  spelled_is region (binary o a b) = ap₂ (binary o) (spelled_is region a) (spelled_is region b)

  expression_as_high : (region : Region) (e : Expression) → expression_height (spelled_expression parts region e) ≡ expression_height e
  expression_as_high region e = ap expression_height (spelled_is region e) ∙ same_height (λ (x : Bytes). x) (spelled parts region) e

  arguments_as_high : (region : Region) (es : List Expression) → arguments_height (map (spelled_expression parts region) es) ≡ arguments_height es
  arguments_as_high region [] = refl
  arguments_as_high region (e ∷ es) = ap₂ max (expression_as_high region e) (arguments_as_high region es)

  optional_as_high : (region : Region) (e : Option Expression) → optional_height (option_map (spelled_expression parts region) e) ≡ optional_height e
  optional_as_high region None = refl
  optional_as_high region (Some e) = expression_as_high region e

  mutual
    as_high : (region : Region) (s : Statement) → statement_height (spelled_statement parts region s) ≡ statement_height s
    as_high region (skip p) = refl
    as_high region (set p d e) = ap (λ n. n + 1) (expression_as_high region e)
    as_high region (set_element p a i e) = rw (expression_as_high region i, expression_as_high region e) refl
    as_high region (call p d f es) = ap (λ n. n + 1 + 1) (arguments_as_high region es)
    as_high region (call_by p d x es) = ap (λ n. n + 1 + 1) (arguments_as_high region es)
    as_high region (if_else p e xs ys) = rw (expression_as_high region e, all_as_high region xs, all_as_high region ys) refl
    as_high region (while_loop p e xs) = rw (expression_as_high region e, all_as_high region xs) refl
    as_high region (break_loop p) = refl
    as_high region (return_with p e) = ap (λ n. n + 1) (optional_as_high region e)
    as_high region (assert_that p e) = ap (λ n. n + 1) (expression_as_high region e)
    as_high region (input p d) = refl
    as_high region (output p e) = ap (λ n. n + 1) (expression_as_high region e)
    as_high region (point p k) = refl
    as_high region (choice p d k) = refl
    as_high region (force p) = refl
    as_high region (pick p a b) = rw (as_high After a, as_high Before b) refl

    all_as_high : (region : Region) (ss : Statements) → statements_height (spelled_statements parts region ss) ≡ statements_height ss
    all_as_high region none = refl
    all_as_high region (more s ss) = ap₂ max (as_high region s) (all_as_high (region_after region s) ss)

  -- ---- positions

  mutual
    has_positions : (region : Region) (s : Statement) → StatementHasPositions s → StatementHasPositions (spelled_statement parts region s)
    has_positions region (if_else p e xs ys) h = (h.0, have_positions region xs h.1, have_positions region ys h.2)
    has_positions region (while_loop p e xs) h = (h.0, have_positions region xs h.1)
    has_positions region (pick p a b) h = (h.0, has_positions After a h.1, has_positions Before b h.2)
    has_positions region (skip p) h = h
    has_positions region (set p d e) h = h
    has_positions region (set_element p a i e) h = h
    has_positions region (call p d f es) h = h
    has_positions region (call_by p d x es) h = h
    has_positions region (break_loop p) h = h
    has_positions region (return_with p e) h = h
    has_positions region (assert_that p e) h = h
    has_positions region (input p d) h = h
    has_positions region (output p e) h = h
    has_positions region (point p k) h = h
    has_positions region (choice p d k) h = h
    has_positions region (force p) h = h

    have_positions : (region : Region) (ss : Statements) → StatementsHavePositions ss → StatementsHavePositions (spelled_statements parts region ss)
    have_positions region none h = tt
    have_positions region (more s ss) h = (has_positions region s h.0, have_positions (region_after region s) ss h.1)

  -- ---- functions

  abbrev body : Func → Statements
  body f = spelled_statements parts Here (body_of f.body)

  good_func : (f : Func) → IsGoodFunc f → IsGoodFunc (spelled_func parts f)
  good_func f h = record {
    name = h.name;
    params = h.params;
    body = subst (λ (ss : Statements). ThroughoutAll IsGood (start_of f) ss) (sym (statements_back (body f))) (all_good (start_of f) Here (body_of f.body) h.body);
  }

  func_positions : (f : Func) → FuncHasPositions f → FuncHasPositions (spelled_func parts f)
  func_positions f h = (h.0, subst StatementsHavePositions (sym (statements_back (body f))) (have_positions Here (body_of f.body) h.1))

  pub spelled_good : (fs : List Func) → All IsGoodFunc fs → All IsGoodFunc (map (spelled_func parts) fs)
  spelled_good fs h = All-map IsGoodFunc (spelled_func parts) fs (All-weaker IsGoodFunc (λ f. IsGoodFunc (spelled_func parts f)) good_func fs h)

  pub spelled_positions : (fs : List Func) → All FuncHasPositions fs → All FuncHasPositions (map (spelled_func parts) fs)
  spelled_positions fs h = All-map FuncHasPositions (spelled_func parts) fs (All-weaker FuncHasPositions (λ f. FuncHasPositions (spelled_func parts f)) func_positions fs h)

  pub spelled_heights : (fs : List Func) → funcs_height (map (spelled_func parts) fs) ≡ funcs_height fs
  spelled_heights [] = refl
  spelled_heights (f ∷ fs) = ap₂ max (ap statements_height (statements_back (body f)) ∙ all_as_high Here (body_of f.body)) (spelled_heights fs)
