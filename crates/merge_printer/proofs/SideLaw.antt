-- The texts of calls are the tokens of trees of these calls.
use Rattle.std.specs.Prelude.{⊤, ◌≡◌, ℕ, ◌+◌, ◌≤◌, max, List, [], ◌∷◌, ◌++◌, map, codes}
use Rattle.std.proofs.Common.{refl, sym, ap, ap₂, arith}
use Rattle.std.proofs.lemmas.List.{append-nil}
use Rattle.std.specs.Fmt.{decimal}
use Rattle.c_lang.specs.Names.{Bytes}
use Rattle.c_lang.specs.Trees.{Expression, expr_of}
use Rattle.c_lang.specs.declared.expr.Expr.{Expr}
use Rattle.c_lang.specs.declared.unit.Unit.TheVariants.{Merge}
use Rattle.c_grammar.specs.Bytes.{is_in_number, IsEnd}
use Rattle.c_grammar.specs.declared.piece.Place.{Place}
use Rattle.c_grammar.specs.Tokens.{At}
use Rattle.c_grammar.specs.Separated.{Separated, last, more, parts_of, separated_tokens, Each}
use Rattle.c_grammar.specs.Expressions as e
use Rattle.c_grammar.specs.Expressions.{Tree, tokens_of, IsGrouped}
use Rattle.c_grammar.specs.declared.right.Call.{Call}
use Rattle.c_grammar.specs.declared.right.Call.TheVariants as call
use Rattle.c_grammar.specs.declared.right.Right.{Right}
use Rattle.c_grammar.specs.declared.right.Right.TheVariants as right
use Rattle.c_grammar.specs.Statements.{Arguments, nothing, given, function, input, choice, CallTree, SideTree, value, called, argument_tokens, call_tokens, side_tokens, tallest, part_height, call_height, side_height, AreArguments, IsCall, IsSide, exprs_of, call_of, right_of, call_pos}
use Rattle.merge_printer.specs.Expressions.{expression_text, expressions_text, more_expressions}
use Rattle.merge_printer.specs.Heights.{expression_height, arguments_height}
use Rattle.merge_printer.specs.Statements.{call_text}
use Rattle.merge_printer.proofs.Chains.{Prints, followed, as_tree, spaced}
use Rattle.merge_printer.proofs.Chains as chains
use Rattle.merge_printer.proofs.Words.{IsName, name_word, number_word, client_in_word, dsu_choice_word, comma_mark, round_opens, round_closes}
use Rattle.merge_printer.proofs.ExpressionLaw.{ExpressionFits, prints}

abbrev pub ExpressionsFit : List Expression → Type 0
ExpressionsFit [] = ⊤
ExpressionsFit (e ∷ es) = ExpressionFits e × ExpressionsFit es

-- ---- arguments

record AreTreesOf (es : List Expression) (ts : Separated Tree) : Type 0 where
  grouped : Each IsGrouped ts
  programs : map e.expr_of (parts_of ts) ≡ map expr_of es
  height_is : max 1 (tallest ts) ≡ arguments_height es

prints_several : (a : Expression) (es : List Expression) → ExpressionFits a → ExpressionsFit es → (p : Place) (rest : Bytes) → IsEnd is_in_number rest
    → Prints (separated_tokens tokens_of) (AreTreesOf (a ∷ es)) p (expression_text a ++ more_expressions es) rest
prints_several a [] h hs p rest end =
    as_tree (λ (x : Tree × ⊤). last x.0) (λ x. sym (append-nil (tokens_of x.0)))
    (λ x is. record { grouped = is.0.grouped; programs = ap (λ (b : Expr). b ∷ []) is.0.program; height_is = omega (arith, is.0.height_is) })
    (followed (prints a h _ _ end) chains.nothing)
prints_several a (b ∷ es) h hs p rest end =
    as_tree (λ (x : Tree × (At × Separated Tree)). more x.0 x.1.0 x.1.1) (λ x. refl)
    (λ x is. record {
      grouped = (is.0.grouped, is.1.1.grouped);
      programs = ap₂ (λ (b : Expr) (bs : List Expr). b ∷ bs) is.0.program is.1.1.programs;
      height_is = omega (arith, is.0.height_is, is.1.1.height_is);
    })
    (followed (prints a h _ _ refl) (followed comma_mark (spaced (prints_several b es hs.0 hs.1 _ _ end))))

record AreArgumentsOf (es : List Expression) (a : Arguments) : Type 0 where
  are : AreArguments a
  programs : exprs_of a ≡ map expr_of es
  height_is : part_height a ≡ arguments_height es

prints_arguments : (es : List Expression) → ExpressionsFit es → (p : Place) (rest : Bytes) → IsEnd is_in_number rest
    → Prints argument_tokens (AreArgumentsOf es) p (expressions_text es) rest
prints_arguments [] hs p rest end =
    as_tree (λ (x : ⊤). nothing) (λ x. refl) (λ x is. record { are = tt; programs = refl; height_is = refl }) chains.nothing
prints_arguments (a ∷ es) hs p rest end =
    as_tree (λ (ts : Separated Tree). given ts) (λ ts. refl)
    (λ ts is. record { are = is.grouped; programs = is.programs; height_is = is.height_is })
    (prints_several a es hs.0 hs.1 p rest end)

-- ---- calls

pub record IsCallOf (c : Call) (height : ℕ) (p : Place) (t : CallTree) : Type 0 where
  pub valid : IsCall Merge t
  pub program : call_of t ≡ c
  pub height_is : call_height t ≡ height
  pub position : call_pos t ≡ p.pos

abbrev pub PrintsCall : Call → ℕ → Bytes → Place → Bytes → Type 0
PrintsCall c height z p rest = Prints call_tokens (IsCallOf c height p) p z rest

module _ (p : Place) (rest : Bytes) where
  pub prints_call : (f : Bytes) (es : List Expression) → IsName f → ExpressionsFit es
      → PrintsCall (call.Function f (map expr_of es)) (arguments_height es + 1) (call_text f es) p rest
  prints_call f es h hs =
      as_tree
      (λ (x : At × (At × (Arguments × At))). function (record { at = x.0; callee = f; opens = x.1.0; arguments = x.1.1.0; closes = x.1.1.1 })) (λ x. refl)
      (λ x is. let a = is.1.1.0 in
      record { valid = a.are; program = ap (call.Function f) a.programs; height_is = ap (λ (n : ℕ). n + 1) a.height_is; position = is.0 })
      (followed (name_word h refl) (followed round_opens (followed (prints_arguments es hs _ _ refl) round_closes)))

  pub prints_input : PrintsCall call.Input 1 (codes "client_in()") p rest
  prints_input =
      as_tree (λ (x : At × (At × At)). input x.0 x.1.0 x.1.1) (λ x. refl)
      (λ x is. record { valid = tt; program = refl; height_is = refl; position = is.0 })
      (followed (client_in_word refl) (followed round_opens round_closes))

  pub prints_choice : (k : ℕ) → k ≤ 2147483647 → PrintsCall (call.Choice k) 2 (codes "dsu_choice(" ++ (decimal k ++ codes ")")) p rest
  prints_choice k le =
      as_tree (λ (x : At × (At × (At × At))). choice x.0 x.1.0 x.1.1.0 k x.1.1.1) (λ x. refl)
      (λ x is. record { valid = refl; program = refl; height_is = refl; position = is.0 })
      (followed (dsu_choice_word refl) (followed round_opens (followed (number_word k le refl) round_closes)))

-- ---- right sides

pub record IsSideOf (r : Right) (height : ℕ) (t : SideTree) : Type 0 where
  pub valid : IsSide Merge t
  pub program : right_of t ≡ r
  pub height_is : side_height t ≡ height

abbrev pub PrintsSide : Right → ℕ → Bytes → Place → Bytes → Type 0
PrintsSide r height z p rest = Prints side_tokens (IsSideOf r height) p z rest

pub prints_value : (a : Expression) → ExpressionFits a → (p : Place) (rest : Bytes) → IsEnd is_in_number rest
    → PrintsSide (right.Value (expr_of a)) (expression_height a) (expression_text a) p rest
prints_value a h p rest end =
    as_tree (λ (t : Tree). value t) (λ t. refl)
    (λ t is. record { valid = is.grouped; program = ap right.Value is.program; height_is = is.height_is })
    (prints a h p rest end)

pub prints_called : {c : Call} {height : ℕ} {z : Bytes} {p : Place} {rest : Bytes} → PrintsCall c height z p rest → PrintsSide (right.Call c) height z p rest
prints_called x =
    as_tree (λ (t : CallTree). called t) (λ t. refl)
    (λ t is. record { valid = is.valid; program = ap right.Call is.program; height_is = is.height_is })
    x
