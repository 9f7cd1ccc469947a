-- A text is read exactly where it is a hints text.
use Rattle.std.proofs.Common.{◌≡◌, ℕ, ◌&&◌, List, Option, Some, None, refl, sym, ap, ◌∙◌, subst, inl, inr}
use Rattle.std.specs.Prelude.{flat_map}
use Rattle.std.specs.List.{list_all}
use Rattle.c_lang.specs.Names.{Bytes}
use Rattle.c_lexer.proofs.Cases.{chosen, and_both}
use Rattle.formula_texts.proofs.OperatorLaws.{bind_some}
use Rattle.hint_texts.specs.declared.hints.Item.{Item}
use Rattle.hint_texts.specs.Parts.{AreParts}
use Rattle.hint_texts.specs.Tokens.{IsPiece, placed}
use Rattle.hint_texts.specs.Grammar.{IsStatement}
use Rattle.hint_texts.specs.Texts.{statements_of, is_item, is_nested, AreHints}
use Rattle.hint_texts.specs.Code.Runs.{parts_in}
use Rattle.hint_texts.specs.Code.Lexing.{piece_at, tokens_in}
use Rattle.hint_texts.specs.Code.Reading.{statement_at, grouped, items_of, kept_by, hints_of, hints_in}
use Rattle.hint_texts.proofs.PartLaws.{read_again, read_is}
use Rattle.hint_texts.proofs.LexLaws.{pieces_again, pieces_are}
use Rattle.hint_texts.proofs.FrontLaws.{some_is}
use Rattle.hint_texts.proofs.StatementLaws.{statements_again, statements_are}
use Rattle.hint_texts.proofs.ItemLaws.{grouped_back, grouped_is}

module _ (number : Bytes → ℕ) where
  pub hints_again : (text : Bytes) (items : List Item) → AreHints number text items → hints_in number text ≡ Some items
  hints_again text items h =
      let pieces = read_again IsPiece piece_at pieces_again text h.pieces h.cut in
      let statements = read_again (IsStatement number) (statement_at number) (statements_again number) (placed 1 h.pieces) (flat_map statements_of items) h.statements in
      rw (pieces, statements, grouped_back items, h.nested, h.allowed) refl

  pub hints_is : (text : Bytes) (items : List Item) → hints_in number text ≡ Some items → AreHints number text items
  hints_is text items e =
      let t = bind_some (tokens_in text) (hints_of number) items e in
      let p = bind_some (parts_in piece_at text) (λ pieces. Some (placed 1 pieces)) t.0 t.1 in
      let same = some_is (placed 1 p.0) t.0 p.2 in
      let read : hints_of number (placed 1 p.0) ≡ Some items = ap (hints_of number) same ∙ t.2 in
      let i = bind_some (items_of number (placed 1 p.0)) (kept_by (placed 1 p.0)) items read in
      let s = bind_some (parts_in (statement_at number) (placed 1 p.0)) grouped i.0 i.1 in
      elim (chosen (is_nested 0 (placed 1 p.0) && list_all is_item i.0) (Some i.0) None (Some items) i.2) [
        | inl h ↦
            let both = and_both (is_nested 0 (placed 1 p.0)) (list_all is_item i.0) h.0 in
            let are = read_is (IsStatement number) (statement_at number) (statements_are number) (placed 1 p.0) s.0 s.1 in
            subst (AreHints number text) (some_is i.0 items h.1) (record {
              pieces = p.0;
              cut = read_is IsPiece piece_at pieces_are text p.0 p.1;
              nested = both.0;
              statements = subst (AreParts (IsStatement number) (placed 1 p.0)) (sym (grouped_is s.0 i.0 s.2)) are;
              allowed = both.1;
            })
        | inr h ↦ absurd (let f = h.1 in cc)
      ]

  no_value : {A : Type 0} (o : Option A) (x : A) → o ≡ None → o ≡ Some x → ⊥
  no_value o x n s = let f = sym n ∙ s in cc

  pub hints_never : (text : Bytes) → hints_in number text ≡ None → (items : List Item) → AreHints number text items → ⊥
  hints_never text e items h = no_value (hints_in number text) items e (hints_again text items h)

  pub one_list : (text : Bytes) (some other : List Item) → AreHints number text some → AreHints number text other → some ≡ other
  one_list text some other h k = some_is some other (sym (hints_again text some h) ∙ hints_again text other k)
