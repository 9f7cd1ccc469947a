-- The texts of prototypes and functions are the tokens of trees of them, and so are lists of declarations.
use Rattle.std.specs.Prelude.{⊤, ◌≡◌, ℕ, max, true, false, List, [], ◌∷◌, ◌++◌, map, codes}
use Rattle.std.proofs.Common.{refl, sym, ap, subst, ◌∙◌, append_assoc}
use Rattle.std.specs.List.{flat_map}
use Rattle.c_lang.specs.Names.{Bytes}
use Rattle.c_lang.specs.Units.{IsPosition}
use Rattle.c_lang.specs.Trees.{Statement, Statements, statement_of, statements, skip, set, set_element, call, call_by, if_else, while_loop, break_loop, return_with, assert_that, input, output, point, choice, force, pick, none, more, stmts_of}
use Rattle.c_lang.specs.declared.unit.Unit.TheVariants.{Merge}
use Rattle.c_lang.specs.declared.stmt.Dest.{Dest}
use Rattle.c_lang.specs.declared.stmt.Dest.TheVariants.{Nowhere, Into, Fresh}
use Rattle.c_lang.specs.declared.program.Proto.{Proto}
use Rattle.c_lang.specs.declared.program.Func.{Func}
use Rattle.c_grammar.specs.declared.piece.Place.{Place}
use Rattle.c_grammar.specs.Tokens.{At}
use Rattle.c_grammar.specs.Scopes.{Scope, declare}
use Rattle.c_grammar.specs.Statements.{Pieces, pieces_scope}
use Rattle.c_parser.specs.declared.parts.Parts.{Parts}
use Rattle.c_grammar.specs.Units.{HeadTree, External, external_tokens, external_height, IsExternal, AreExternals, unit_tokens, unit_height, add, add_all, with_proto, with_func, body_start, all_declared}
use Rattle.merge_printer.specs.Heights.{statements_height}
use Rattle.c_lang.specs.Positions.{StatementsHavePositions, FuncHasPositions}
use Rattle.merge_printer.specs.Statements.{statements_text}
use Rattle.merge_printer.specs.Programs.{head_start, kinds_text, parameters_text, proto_text, func_text}
use Rattle.merge_printer.proofs.Chains.{Lines, before, above, as_lines, spaced_lines, ended, no_lines}
use Rattle.merge_printer.proofs.Words.{IsName, semicolon_mark, brace_opens}
use Rattle.merge_printer.proofs.PositionLaw.{positioned}
use Rattle.merge_printer.proofs.Fitting.{StatementsFit, KeepsAll, declared_by, scope_behind, scope_behind_all}
use Rattle.merge_printer.proofs.StatementLaw.{ArePiecesOf, prints_statements, closing}
use Rattle.merge_printer.proofs.HeadLaw.{Param, ParamsFit, KindsFit, IsHeadOf, prints_head, numbered_from, kinds_are_params, kinds_of_numbered, numbered_fit}

-- ---- prototypes

pub record ProtoFits (p : Proto) : Type 0 where
  pub name : IsName p.name
  pub kinds : KindsFit p.params

-- what a declaration's tree adds to the unit
pub record IsDeclared (step : Parts → Parts) (Room : Parts → Type 0) (height : ℕ) (t : External) : Type 0 where
  pub valid : IsExternal Merge t
  pub height_is : external_height t ≡ height
  pub added : (a : Parts) → Room a → add a t ≡ step a

abbrev pub proto_step : Proto → Parts → Parts
proto_step p a = with_proto a p []

module _ (p : Proto) (fits : ProtoFits p) (rest : Bytes) where
  abbrev numbered : List Param
  numbered = numbered_from 1 p.params

  abbrev PrintsProto : Place → Bytes → Type 0
  PrintsProto r z = Lines external_tokens (IsDeclared (proto_step p) (λ a. ⊤) 0) r z rest

  proto_is : (r : Place) → r.pos ≡ p.pos → (h : HeadTree) → IsHeadOf p.gives p.name numbered r h → (end : At) (a : Parts)
      → add a (External.prototype h end) ≡ proto_step p a
  proto_is r here h is end a =
      rw (is.name_is, is.gives_is, is.position ∙ here, is.kinds_are ∙ kinds_of_numbered 1 p.params, is.accepted p.pos) refl

  proto_lines : (r : Place) → r.pos ≡ p.pos → PrintsProto r (head_start p.gives p.name ++ (codes "(" ++ (kinds_text p.params ++ codes ");\n")))
  proto_lines r here =
      subst (λ (z : Bytes). PrintsProto r (head_start p.gives p.name ++ (codes "(" ++ (z ++ codes ");\n")))) (sym (kinds_are_params p.params))
      (subst (λ (z : Bytes). PrintsProto r z) (simp append_assoc)
      (as_lines (λ (y : HeadTree × At). External.prototype y.0 y.1) (λ y. refl)
      (λ y is. record { valid = tt; height_is = refl; added = λ a room. proto_is r here y.0 is.0 y.1 a })
      (before (prints_head p.gives p.name numbered fits.name (numbered_fit 1 p.params fits.kinds) _ _) (ended semicolon_mark))))

pub prints_proto : (p : Proto) → ProtoFits p × IsPosition p.pos → (q : Place) (rest : Bytes) → q.fresh ≡ true
    → Lines external_tokens (IsDeclared (proto_step p) (λ a. ⊤) 0) q (proto_text p) rest
prints_proto p fits q rest fresh = positioned p.pos fits.1 fresh (λ r here. proto_lines p fits.0 rest r here)

-- ---- functions

abbrev pub start_scope : List Param → Scope
start_scope params = body_start params []

abbrev pub body_of : Func → Statements
body_of f = statements (map statement_of f.body)

-- it is read again as it is
pub record FuncReads (f : Func) : Type 0 where
  pub name : IsName f.name
  pub params : ParamsFit f.params
  pub body : StatementsFit false (body_of f)
  pub keeps : KeepsAll (start_scope f.params) (body_of f)

-- and its body is what its mirror builds
abbrev pub IsBuilt : Func → Type 0
IsBuilt f = stmts_of (body_of f) ≡ f.body

abbrev pub FuncFits : Func → Type 0
FuncFits f = FuncReads f × IsBuilt f

declare_keeps : (d : Dest) (sc : Scope) → (declared_by d sc).early ≡ sc.early
declare_keeps Nowhere sc = refl
declare_keeps (Into x) sc = refl
declare_keeps (Fresh k x) sc = refl

mutual
  early_same : (s : Statement) (sc : Scope) → (scope_behind s sc).early ≡ sc.early
  early_same (set p d e) sc = declare_keeps d sc
  early_same (call p d f es) sc = declare_keeps d sc
  early_same (if_else p e a b) sc = all_early_same b (scope_behind_all a sc) ∙ all_early_same a sc
  early_same (while_loop p e a) sc = all_early_same a sc
  early_same (input p d) sc = declare_keeps d sc
  early_same (choice p d k) sc = declare_keeps d sc
  early_same (skip p) sc = refl
  early_same (set_element p a i e) sc = refl
  early_same (call_by p d x es) sc = refl
  early_same (break_loop p) sc = refl
  early_same (return_with p e) sc = refl
  early_same (assert_that p e) sc = refl
  early_same (output p e) sc = refl
  early_same (point p k) sc = refl
  early_same (force p) sc = refl
  early_same (pick p a b) sc = refl

  all_early_same : (ss : Statements) (sc : Scope) → (scope_behind_all ss sc).early ≡ sc.early
  all_early_same none sc = refl
  all_early_same (more s ss) sc = all_early_same ss (scope_behind s sc) ∙ early_same s sc

pub params_early : (params : List Param) (sc : Scope) → (all_declared params sc).early ≡ sc.early
params_early [] sc = refl
params_early (x ∷ xs) sc = params_early xs (declare sc x.1)

abbrev pub func_step : Func → Parts → Parts
func_step f a = with_func a f []

module _ (f : Func) (fits : FuncFits f) (rest : Bytes) where
  abbrev PrintsFunc : Place → Bytes → Type 0
  PrintsFunc r z = Lines external_tokens (IsDeclared (func_step f) (λ a. ⊤) (statements_height (body_of f))) r z rest

  func_is : (r : Place) → r.pos ≡ f.pos → (h : HeadTree) → IsHeadOf f.gives f.name f.params r h → (o c : At) (ts : Pieces) → ArePiecesOf false (body_of f) ts
      → (a : Parts) → add a (External.function h o ts c) ≡ func_step f a
  func_is r here h is o c ts pieces a =
      let became = pieces.become (start_scope f.params) fits.0.keeps in
      let early : (pieces_scope ts (start_scope f.params)).early ≡ [] =
      ap (λ (sc : Scope). sc.early) became.1 ∙ all_early_same (body_of f) (start_scope f.params) ∙ params_early f.params (record { count = 0; declared = []; early = [] }) in
      rw (is.name_is, is.gives_is, is.position ∙ here, is.params_are, is.accepted f.pos, became.0, fits.1, early) refl

  func_lines : StatementsHavePositions (body_of f) → (r : Place) → r.pos ≡ f.pos
      → PrintsFunc r (head_start f.gives f.name ++ (codes "(" ++ (parameters_text f.params ++ (codes ") {\n" ++ (statements_text (body_of f) ++ codes "}\n")))))
  func_lines at r here =
      subst (λ (z : Bytes). PrintsFunc r z) (simp append_assoc)
      (as_lines (λ (y : HeadTree × (At × (Pieces × At))). External.function y.0 y.1.0 y.1.1.0 y.1.1.1) (λ y. refl)
      (λ y is. record {
        valid = (is.0.named, is.1.1.0.valid);
        height_is = is.1.1.0.height_is;
        added = λ a room. func_is r here y.0 is.0 y.1.0 y.1.1.1 y.1.1.0 is.1.1.0 a;
      })
      (before (prints_head f.gives f.name f.params fits.0.name fits.0.params _ _) (spaced_lines
      (above (ended brace_opens) (λ q fresh. above (prints_statements (body_of f) false fits.0.body at q _ fresh) (λ q fresh. closing))))))

pub prints_func : (f : Func) → FuncFits f × FuncHasPositions f → (q : Place) (rest : Bytes) → q.fresh ≡ true
    → Lines external_tokens (IsDeclared (func_step f) (λ a. ⊤) (statements_height (body_of f))) q (func_text f) rest
prints_func f fits q rest fresh = positioned f.pos fits.1.0 fresh (λ r here. func_lines f fits.0 rest fits.1.1 r here)

-- ---- lists of declarations

module _ {T : Type 0} (step : T → Parts → Parts) (Room : T → Parts → Type 0) (height : T → ℕ) where
  abbrev pub steps : List T → Parts → Parts
  steps [] a = a
  steps (x ∷ xs) a = steps xs (step x a)

  abbrev pub Rooms : List T → Parts → Type 0
  Rooms [] a = ⊤
  Rooms (x ∷ xs) a = Room x a × Rooms xs (step x a)

  abbrev pub heights : List T → ℕ
  heights [] = 0
  heights (x ∷ xs) = max (height x) (heights xs)

  pub record AreDeclared (xs : List T) (ts : List External) : Type 0 where
    pub valid : AreExternals Merge ts
    pub height_is : unit_height ts ≡ heights xs
    pub added : (a : Parts) → Rooms xs a → add_all a ts ≡ steps xs a

  module _ (text : T → Bytes) (Good : T → Type 0)
      (each : (x : T) → Good x → (q : Place) (rest : Bytes) → q.fresh ≡ true → Lines external_tokens (IsDeclared (step x) (Room x) (height x)) q (text x) rest) where
    abbrev pub AllGood : List T → Type 0
    AllGood [] = ⊤
    AllGood (x ∷ xs) = Good x × AllGood xs

    pub prints_all : (xs : List T) → AllGood xs → (q : Place) (rest : Bytes) → q.fresh ≡ true → Lines unit_tokens (AreDeclared xs) q (flat_map text xs) rest
    prints_all [] h q rest fresh =
        as_lines (λ (x : ⊤). []) (λ x. refl) (λ x is. record { valid = tt; height_is = refl; added = λ a room. refl }) (no_lines fresh)
    prints_all (x ∷ xs) h q rest fresh =
        as_lines (λ (y : External × List External). y.0 ∷ y.1) (λ y. refl)
        (λ y is. record {
          valid = (is.0.valid, is.1.valid);
          height_is = rw (is.0.height_is, is.1.height_is) refl;
          added = λ a room. ap (λ (b : Parts). add_all b y.1) (is.0.added a room.0) ∙ is.1.added (step x a) room.1;
        })
        (above (each x h.0 q _ fresh) (λ r fresh. prints_all xs h.1 r rest fresh))
