-- The text of a statement is the tokens of a tree that becomes that statement.
use Rattle.std.specs.Prelude.{⊤, ◌≡◌, ℕ, zero, suc, ◌+◌, ◌≤◌, Bool, true, false, cond, List, [], ◌∷◌, ◌++◌, map, length, Some, None, codes}
use Rattle.std.proofs.Common.{refl, sym, ap, ap₂, subst, ◌∙◌, append_assoc, arith}
use Rattle.std.proofs.lemmas.List.{append-nil}
use Rattle.std.specs.Fmt.{decimal}
use Rattle.c_lang.specs.Names.{Bytes}
use Rattle.c_lang.specs.Trees.{Expression, expr_of, Statement, Statements, skip, set, set_element, call, call_by, if_else, while_loop, break_loop, return_with, assert_that, input, output, point, choice, force, pick, none, more, stmt_of, stmts_of}
use Rattle.c_lang.specs.declared.expr.Expr.{Expr}
use Rattle.c_lang.specs.declared.unit.Pos.{Pos}
use Rattle.c_lang.specs.declared.unit.Unit.TheVariants.{Merge}
use Rattle.c_lang.specs.declared.stmt.Kind.TheVariants as kind
use Rattle.c_lang.specs.declared.stmt.Dest.{Dest}
use Rattle.c_lang.specs.declared.stmt.Dest.TheVariants.{Nowhere, Into, Fresh}
use Rattle.c_lang.specs.declared.stmt.Stmt.{Stmt}
use Rattle.c_lang.specs.declared.stmt.Stmt.TheVariants as stmt
use Rattle.c_grammar.specs.Bytes.{is_in_word, IsEnd}
use Rattle.c_grammar.specs.declared.piece.Place.{Place}
use Rattle.c_grammar.specs.declared.token.Token.{Token}
use Rattle.c_grammar.specs.Tokens.{At, mark, keyword, brace_open, brace_close, semicolon, equals, int_key, if_key, else_key}
use Rattle.c_grammar.specs.Separated.{Separated, last, parts_of, separated_tokens}
use Rattle.c_grammar.specs.Separated as separated
use Rattle.c_grammar.specs.Expressions.{Tree}
use Rattle.c_grammar.specs.declared.right.Call.{Call}
use Rattle.c_grammar.specs.declared.right.Call.TheVariants as c
use Rattle.c_grammar.specs.declared.right.Right.{Right}
use Rattle.c_grammar.specs.declared.right.Right.TheVariants as right
use Rattle.c_grammar.specs.Scopes.{Scope, is_declared, declare, refuse_arity}
use Rattle.c_grammar.specs.Statements.{CallTree, SideTree, PointerTree, Ints, ints_tokens, int_tokens, ints_count, pointer_tokens, arity, CondTree, cond_tokens, Piece, Body, Pieces, IsPiece, IsBody, ArePieces, body_tokens, pieces_tokens, body_height, pieces_height, body_scope, pieces_scope, body_stmts, pieces_stmts, set_stmts, set_scope, right_to, call_to, stmts, scope_after}
use Rattle.c_grammar.specs.Statements as tree
use Rattle.merge_printer.specs.Heights.{expression_height, arguments_height, statement_height, statements_height}
use Rattle.c_lang.specs.Positions.{StatementHasPositions, StatementsHavePositions}
use Rattle.merge_printer.specs.Expressions.{expression_text}
use Rattle.merge_printer.specs.Statements.{more_ints, ints, target, call_text, statement_text, statements_text}
use Rattle.merge_printer.proofs.Chains.{Prints, Lines, followed, before, above, as_tree, as_lines, space, spaced, spaced_lines, ended}
use Rattle.merge_printer.proofs.Chains as chains
use Rattle.merge_printer.proofs.Words.{IsName, name_word, int_word, void_word, if_word, else_word, while_word, break_word, return_word, assert_word, client_out_word, comma_mark, star_mark, equals_mark, semicolon_mark, round_opens, round_closes, square_opens, square_closes, brace_opens, brace_closes}
use Rattle.merge_printer.proofs.PositionLaw.{positioned}
use Rattle.merge_printer.proofs.ExpressionLaw.{ExpressionFits, IsTreeOf, prints}
use Rattle.merge_printer.proofs.SideLaw.{ExpressionsFit, PrintsCall, PrintsSide, prints_call, prints_input, prints_choice, prints_value, prints_called}
use Rattle.merge_printer.proofs.Fitting.{DestFits, TargetFits, StatementFits, StatementsFit, declared_by, scope_behind, scope_behind_all, MayGo, Keeps, KeepsAll, no_arity_refusals}

-- ---- pointers

prints_more_ints : (n : ℕ) (p : Place) (rest : Bytes) → IsEnd is_in_word rest
    → Prints (separated_tokens int_tokens) (λ (ts : Separated At). length (parts_of ts) ≡ n + 1) p (codes "int" ++ more_ints n) rest
prints_more_ints zero p rest end =
    as_tree (λ (x : At × ⊤). last x.0) (λ x. refl) (λ x is. refl) (followed (int_word end) chains.nothing)
prints_more_ints (suc n) p rest end =
    as_tree (λ (x : At × (At × Separated At)). separated.more x.0 x.1.0 x.1.1) (λ x. refl) (λ x is. omega (arith, is.1.1))
    (followed (int_word refl) (followed comma_mark (spaced (prints_more_ints n _ _ end))))

prints_ints : (n : ℕ) (p : Place) (rest : Bytes) → IsEnd is_in_word rest → Prints ints_tokens (λ (t : Ints). ints_count t ≡ n) p (ints n) rest
prints_ints zero p rest end = as_tree (λ (at : At). Ints.void at) (λ at. refl) (λ at is. refl) (void_word end)
prints_ints (suc n) p rest end = as_tree (λ (ts : Separated At). Ints.ints ts) (λ ts. refl) (λ ts is. omega (arith, is)) (prints_more_ints n p rest end)

-- a pointer of this name and so many parameters
pub record IsPointerOf (x : Bytes) (n : ℕ) (t : PointerTree) : Type 0 where
  pub name_is : t.name ≡ x
  pub arity_is : arity t ≡ n

pub prints_pointer : (x : Bytes) (n : ℕ) → IsName x → n ≤ 32 → (p : Place) (rest : Bytes)
    → Prints pointer_tokens (IsPointerOf x n) p (codes "(*" ++ (x ++ (codes ")(" ++ (ints n ++ codes ")")))) rest
prints_pointer x n h le p rest =
    as_tree
    (λ (y : At × (At × (At × (At × (At × (Ints × At)))))). record {
      opens = y.0;
      star = y.1.0;
      at = y.1.1.0;
      name = x;
      closes = y.1.1.1.0;
      params_open = y.1.1.1.1.0;
      params = y.1.1.1.1.1.0;
      params_close = y.1.1.1.1.1.1;
    })
    (λ y. refl)
    (λ y is. record { name_is = refl; arity_is = omega (arith, le, is.1.1.1.1.1.0) })
    (followed round_opens (followed star_mark (followed (name_word h refl) (followed round_closes (followed round_opens (followed (prints_ints n _ _ refl) round_closes))))))

-- ---- what a tree becomes

pub record IsPieceOf (in_loop : Bool) (s : Statement) (t : Piece) : Type 0 where
  pub valid : IsPiece Merge true in_loop t
  pub height_is : tree.height t ≡ statement_height s
  pub becomes : (sc : Scope) → Keeps sc s → (stmts t sc ≡ stmt_of s ∷ []) × (scope_after t sc ≡ scope_behind s sc)

pub record ArePiecesOf (in_loop : Bool) (ss : Statements) (ts : Pieces) : Type 0 where
  pub valid : ArePieces Merge in_loop ts
  pub height_is : pieces_height ts ≡ statements_height ss
  pub become : (sc : Scope) → KeepsAll sc ss → (pieces_stmts ts sc ≡ stmts_of ss) × (pieces_scope ts sc ≡ scope_behind_all ss sc)

abbrev pub PrintsStatement : Bool → Statement → Place → Bytes → Type 0
PrintsStatement in_loop s p rest = Lines tree.tokens (IsPieceOf in_loop s) p (statement_text s) rest

abbrev pub PrintsStatements : Bool → Statements → Place → Bytes → Type 0
PrintsStatements in_loop ss p rest = Lines pieces_tokens (ArePiecesOf in_loop ss) p (statements_text ss) rest

-- ---- right sides and where they go

record IsSided (in_loop : Bool) (given : Pos) (d : Dest) (r : Right) (height : ℕ) (t : Piece) : Type 0 where
  valid : IsPiece Merge true in_loop t
  height_is : tree.height t ≡ height + 1
  becomes : (sc : Scope) → MayGo sc d r → (stmts t sc ≡ right_to given d r ∷ []) × (scope_after t sc ≡ declared_by d sc)

cond_same : {A : Type 0} (b : Bool) (x : A) → cond b x x ≡ x
cond_same true x = refl
cond_same false x = refl

set_goes : (p : Pos) (x : Bytes) (sc : Scope) (r : Right) → MayGo sc (Into x) r
    → (set_stmts p x sc r ≡ right_to p (Into x) r ∷ []) × (set_scope p x sc r ≡ sc)
set_goes p x sc (right.Value a) h = (cond_same (is_declared sc x) _, cond_same (is_declared sc x) sc)
set_goes p x sc (right.Call a) h = rw h (refl, refl)

no_refusal : (sc : Scope) (p : Pos) (n : ℕ) → n ≤ 32 → refuse_arity sc p n ≡ sc
no_refusal sc p n le = ap (λ refusals. record { count = sc.count; declared = sc.declared; early = refusals }) (ap (λ refusals. sc.early ++ refusals) (no_arity_refusals p n le) ∙ append-nil sc.early)

-- a right side up to its semicolon
abbrev Ending : Bytes → Bytes
Ending rest = codes ";" ++ (codes "\n" ++ rest)

tokens_split : (first : Token) (ts : List Token) (between : Token) (us : List Token)
    → first ∷ (ts ++ (between ∷ us)) ≡ (first ∷ (ts ++ (between ∷ []))) ++ us
tokens_split first ts between us = ap (λ (z : List Token). first ∷ z) (sym (append_assoc ts (between ∷ []) us))

module _ (in_loop : Bool) (given : Pos) (r : Right) (height : ℕ) (z : Bytes) (q : Place) (rest : Bytes) (here : q.pos ≡ given) where
  abbrev Sided : Dest → Type 0
  Sided d = Lines tree.tokens (IsSided in_loop given d r height) q (target d ++ (z ++ codes ";\n")) rest

  module _ (side : (p : Place) → PrintsSide r height z p (Ending rest)) where
    set_lines : (x : Bytes) → IsName x → Sided (Into x)
    set_lines x h =
        as_lines (λ (y : (At × (At × ⊤)) × (SideTree × At)). tree.simple (tree.set y.0.0 x y.0.1.0 y.1.0 y.1.1)) (λ y. refl)
        (λ y is. record {
          valid = is.1.0.valid;
          height_is = ap (λ n. n + 1) is.1.0.height_is;
          becomes = λ sc may.
              let same = set_goes given x sc r may in (
                ap₂ (λ p a. set_stmts p x sc a) (is.0.0 ∙ here) is.1.0.program ∙ same.0,
                ap₂ (λ p a. set_scope p x sc a) (is.0.0 ∙ here) is.1.0.program ∙ same.1,
              );
        })
        (before (followed (name_word h refl) (spaced (followed equals_mark space))) (before (side _) (ended semicolon_mark)))

    declaration_lines : (x : Bytes) → IsName x → Sided (Fresh kind.Int x)
    declaration_lines x h =
        as_lines (λ (y : ((At × At) × (At × ⊤)) × (SideTree × At)). tree.simple (tree.declaration y.0.0.0 y.0.0.1 x y.0.1.0 y.1.0 y.1.1)) (λ y. refl)
        (λ y is. record {
          valid = (refl, is.1.0.valid);
          height_is = ap (λ n. n + 1) is.1.0.height_is;
          becomes = λ sc may. (ap₂ (λ p a. right_to p (Fresh kind.Int x) a ∷ []) (is.0.0.0 ∙ here) is.1.0.program, refl);
        })
        (before (followed (followed (int_word refl) (spaced (name_word h refl))) (spaced (followed equals_mark space))) (before (side _) (ended semicolon_mark)))

    pointer_lines : (x : Bytes) (n : ℕ) → IsName x → n ≤ 32 → Sided (Fresh (kind.Fp n) x)
    pointer_lines x n h le =
        as_lines (λ (y : ((At × PointerTree) × (At × ⊤)) × (SideTree × At)). tree.simple (tree.pointer y.0.0.0 y.0.0.1 y.0.1.0 y.1.0 y.1.1))
        (λ y. tokens_split (keyword int_key y.0.0.0) (pointer_tokens y.0.0.1) (mark equals y.0.1.0) (tree.side_tokens y.1.0 ++ (mark semicolon y.1.1 ∷ [])))
        (λ y is. let pointer = is.0.0.1 in record {
          valid = (refl, is.1.0.valid);
          height_is = ap (λ n. n + 1) is.1.0.height_is;
          becomes = λ sc may. (
            ap₂ (λ p a. right_to p (Fresh (kind.Fp (arity y.0.0.1)) y.0.0.1.name) a ∷ []) (is.0.0.0 ∙ here) is.1.0.program
                ∙ ap₂ (λ n x. right_to given (Fresh (kind.Fp n) x) r ∷ []) pointer.arity_is pointer.name_is,
            no_refusal (declare sc y.0.0.1.name) y.0.0.0.pos (arity y.0.0.1) (omega (arith, pointer.arity_is, le)) ∙ ap (declare sc) pointer.name_is,
          );
        })
        (before (followed (followed (int_word refl) (spaced (prints_pointer x n h le _ _))) (spaced (followed equals_mark space))) (before (side _) (ended semicolon_mark)))

    sided : (d : Dest) → TargetFits d → Sided d
    sided Nowhere h = absurd h
    sided (Into x) h = set_lines x h
    sided (Fresh kind.Int x) h = declaration_lines x h.1
    sided (Fresh (kind.Fp n) x) h = pointer_lines x n h.1 h.0

run_lines : (in_loop : Bool) (given : Pos) (a : Call) (height : ℕ) (z : Bytes) (q : Place) (rest : Bytes) → q.pos ≡ given
    → PrintsCall a height z q (Ending rest) → Lines tree.tokens (IsSided in_loop given Nowhere (right.Call a) height) q (z ++ codes ";\n") rest
run_lines in_loop given a height z q rest here x =
    as_lines (λ (y : CallTree × At). tree.simple (tree.run y.0 y.1)) (λ y. refl)
    (λ y is. record {
      valid = is.0.valid;
      height_is = ap (λ n. n + 1) is.0.height_is;
      becomes = λ sc may. (ap₂ (λ p b. call_to p Nowhere b ∷ []) (is.0.position ∙ here) is.0.program, refl);
    })
    (before x (ended semicolon_mark))

called_lines : (in_loop : Bool) (given : Pos) (a : Call) (height : ℕ) (z : Bytes) (q : Place) (rest : Bytes) → q.pos ≡ given
    → ((p : Place) → PrintsCall a height z p (Ending rest)) → (d : Dest) → DestFits d
    → Lines tree.tokens (IsSided in_loop given d (right.Call a) height) q (target d ++ (z ++ codes ";\n")) rest
called_lines in_loop given a height z q rest here x Nowhere h = run_lines in_loop given a height z q rest here (x q)
called_lines in_loop given a height z q rest here x (Into y) h = sided in_loop given (right.Call a) height z q rest here (λ p. prints_called (x p)) (Into y) h
called_lines in_loop given a height z q rest here x (Fresh k y) h = sided in_loop given (right.Call a) height z q rest here (λ p. prints_called (x p)) (Fresh k y) h

-- ---- conditions and blocks

record IsConditionOf (e : Expression) (t : CondTree) : Type 0 where
  tree_is : IsTreeOf e t.tree

prints_condition : (e : Expression) → ExpressionFits e → (p : Place) (rest : Bytes)
    → Prints cond_tokens (IsConditionOf e) p (codes "(" ++ (expression_text e ++ codes ")")) rest
prints_condition e h p rest =
    as_tree (λ (y : At × (Tree × At)). record { opens = y.0; tree = y.1.0; closes = y.1.1 }) (λ y. refl) (λ y is. record { tree_is = is.1.0 })
    (followed round_opens (followed (prints e h _ _ refl) round_closes))

record IsBlockOf (in_loop : Bool) (ss : Statements) (b : Body) : Type 0 where
  valid : IsBody Merge in_loop b
  closed : tree.body_open b ≡ false
  height_is : body_height b ≡ statements_height ss
  becomes : (sc : Scope) → KeepsAll sc ss → (body_stmts b sc ≡ stmts_of ss) × (body_scope b sc ≡ scope_behind_all ss sc)

-- a block up to its closing brace
block_of : (in_loop : Bool) (ss : Statements) (o c : At) (ts : Pieces) → ArePiecesOf in_loop ss ts → IsBlockOf in_loop ss (tree.block o ts c)
block_of in_loop ss o c ts is = record { valid = is.valid; closed = refl; height_is = is.height_is; becomes = is.become }

-- a closing brace at its line's end
pub closing : {q : Place} {rest : Bytes} → Lines (λ (at : At). mark brace_close at ∷ []) (λ (at : At). ⊤) q (codes "}\n") rest
closing = as_lines (λ (at : At). at) (λ at. refl) (λ at is. tt) (ended brace_closes)

prints_block : (in_loop : Bool) (ss : Statements) (rest : Bytes) → ((p : Place) → p.fresh ≡ true → PrintsStatements in_loop ss p (codes "}\n" ++ rest)) → (q : Place)
    → Lines body_tokens (IsBlockOf in_loop ss) q (codes "{\n" ++ (statements_text ss ++ codes "}\n")) rest
prints_block in_loop ss rest inner q =
    as_lines (λ (y : At × (Pieces × At)). tree.block y.0 y.1.0 y.1.1) (λ y. refl) (λ y is. block_of in_loop ss y.0 y.1.1 y.1.0 is.1.0)
    (above (ended brace_opens) (λ q fresh. above (inner q fresh) (λ q fresh. closing)))

-- ---- statements

ap₃ : {A B C D : Type 0} {a a' : A} {b b' : B} {c c' : C} (f : A → B → C → D) → a ≡ a' → b ≡ b' → c ≡ c' → f a b c ≡ f a' b' c'
ap₃ {A} {B} {C} {D} {a} {a'} {b} {b'} {c} {c'} f p q r = ap₂ (λ x y. f x y c) p q ∙ ap (λ z. f a' b' z) r

ap₄ : {A B C D E : Type 0} {a a' : A} {b b' : B} {c c' : C} {d d' : D} (f : A → B → C → D → E) → a ≡ a' → b ≡ b' → c ≡ c' → d ≡ d' → f a b c d ≡ f a' b' c' d'
ap₄ {A} {B} {C} {D} {E} {a} {a'} {b} {b'} {c} {c'} {d} {d'} f p q r s = ap₃ (λ x y z. f x y z d) p q r ∙ ap (λ z. f a' b' c' z) s

-- of a sided statement
goes_to : {in_loop : Bool} {given : Pos} {d : Dest} {r : Right} {height : ℕ} {s : Statement} {q : Place} {z rest : Bytes}
    → statement_height s ≡ height + 1 → stmt_of s ≡ right_to given d r → ((sc : Scope) → Keeps sc s → MayGo sc d r)
    → ((sc : Scope) → scope_behind s sc ≡ declared_by d sc)
    → Lines tree.tokens (IsSided in_loop given d r height) q z rest → Lines tree.tokens (IsPieceOf in_loop s) q z rest
goes_to height same may scope x =
    as_lines (λ (t : Piece). t) (λ t. refl)
    (λ t is. record {
      valid = is.valid;
      height_is = is.height_is ∙ sym height;
      becomes = λ sc keeps.
          let b = is.becomes sc (may sc keeps) in
          (b.0 ∙ ap (λ (s : Stmt). s ∷ []) (sym same), b.1 ∙ sym (scope sc));
    })
    x

module _ (in_loop : Bool) (given : Pos) (q : Place) (rest : Bytes) (here : q.pos ≡ given) where
  abbrev Printed : Statement → Bytes → Type 0
  Printed s z = Lines tree.tokens (IsPieceOf in_loop s) q z rest

  prints_skip : Printed (skip given) (codes ";\n")
  prints_skip =
      as_lines (λ (at : At). tree.simple (tree.skip at)) (λ at. refl)
      (λ at is. record { valid = tt; height_is = refl; becomes = λ sc k. (ap (λ p. stmt.Skip p ∷ []) (is ∙ here), refl) })
      (ended semicolon_mark)

  prints_set : (d : Dest) (e : Expression) → TargetFits d → ExpressionFits e → Printed (set given d e) (target d ++ (expression_text e ++ codes ";\n"))
  prints_set d e hd he =
      goes_to refl refl (λ sc k. tt) (λ sc. refl)
      (sided in_loop given (right.Value (expr_of e)) (expression_height e) (expression_text e) q rest here (λ p. prints_value e he p _ refl) d hd)

  prints_set_element : (a : Bytes) (i e : Expression) → IsName a → ExpressionFits i → ExpressionFits e
      → Printed (set_element given a i e) (a ++ (codes "[" ++ (expression_text i ++ (codes "] = " ++ (expression_text e ++ codes ";\n")))))
  prints_set_element a i e ha hi he =
      as_lines (λ (y : At × (At × (Tree × (At × (At × (SideTree × At)))))). tree.simple (tree.set_element y.0 a y.1.0 y.1.1.0 y.1.1.1.0 y.1.1.1.1.0 y.1.1.1.1.1.0 y.1.1.1.1.1.1))
      (λ y. refl)
      (λ y is. let index = is.1.1.0 in let side = is.1.1.1.1.1.0 in record {
        valid = (index.grouped, side.valid);
        height_is = rw (index.height_is, side.height_is) refl;
        becomes = λ sc k. element_is y.0 (is.0 ∙ here) _ index.program _ side.program sc;
      })
      (before (name_word ha refl) (before square_opens (before (prints i hi _ _ refl) (before square_closes (spaced_lines
      (before equals_mark (spaced_lines (before (prints_value e he _ _ refl) (ended semicolon_mark)))))))))
    where
      element_is : (at : At) → at.pos ≡ given → (x : Expr) → x ≡ expr_of i → (r : Right) → r ≡ right.Value (expr_of e) → (sc : Scope)
          → (tree.element_stmts at.pos a x sc r ≡ stmt.SetElem given a (expr_of i) (expr_of e) ∷ []) × ((tree.stored at.pos sc r).scope ≡ sc)
      element_is at p x is r same sc = rw (p, is, same) (refl, refl)

  prints_call_statement : (d : Dest) (f : Bytes) (es : List Expression) → DestFits d → IsName f → ExpressionsFit es
      → Printed (call given d f es) (target d ++ (call_text f es ++ codes ";\n"))
  prints_call_statement d f es hd hf hs =
      goes_to refl refl (λ sc k. k) (λ sc. refl)
      (called_lines in_loop given (c.Function f (map expr_of es)) (arguments_height es + 1) (call_text f es) q rest here (λ p. prints_call p _ f es hf hs) d hd)

  prints_input_statement : (d : Dest) → DestFits d → Printed (input given d) (target d ++ codes "client_in();\n")
  prints_input_statement d hd =
      goes_to refl refl (λ sc k. k) (λ sc. refl)
      (called_lines in_loop given c.Input 1 (codes "client_in()") q rest here (λ p. prints_input p _) d hd)

  prints_choice_statement : (d : Dest) (k : ℕ) → DestFits d → k ≤ 2147483647 → Printed (choice given d k) (target d ++ (codes "dsu_choice(" ++ (decimal k ++ codes ");\n")))
  prints_choice_statement d k hd le =
      subst (λ (z : Bytes). Printed (choice given d k) (target d ++ z)) (simp append_assoc)
      (goes_to refl refl (λ sc k. k) (λ sc. refl)
      (called_lines in_loop given (c.Choice k) 2 (codes "dsu_choice(" ++ (decimal k ++ codes ")")) q rest here (λ p. prints_choice p _ k le) d hd))

  prints_break : in_loop ≡ true → Printed (break_loop given) (codes "break;\n")
  prints_break h =
      as_lines (λ (y : At × At). tree.simple (tree.break_loop y.0 y.1)) (λ y. refl)
      (λ y is. record { valid = h; height_is = refl; becomes = λ sc k. (ap (λ p. stmt.Break p ∷ []) (is.0 ∙ here), refl) })
      (before (break_word refl) (ended semicolon_mark))

  prints_bare_return : Printed (return_with given None) (codes "return;\n")
  prints_bare_return =
      as_lines (λ (y : At × At). tree.simple (tree.return_off y.0 y.1)) (λ y. refl)
      (λ y is. record { valid = tt; height_is = refl; becomes = λ sc k. (ap (λ p. stmt.Return p None ∷ []) (is.0 ∙ here), refl) })
      (before (return_word refl) (ended semicolon_mark))

  prints_return : (e : Expression) → ExpressionFits e → Printed (return_with given (Some e)) (codes "return " ++ (expression_text e ++ codes ";\n"))
  prints_return e h =
      as_lines (λ (y : At × (SideTree × At)). tree.simple (tree.return_side y.0 y.1.0 y.1.1)) (λ y. refl)
      (λ y is. let side = is.1.0 in record {
        valid = side.valid;
        height_is = ap (λ n. n + 1) side.height_is;
        becomes = λ sc k. return_is y.0 (is.0 ∙ here) _ side.program sc;
      })
      (before (return_word refl) (spaced_lines (before (prints_value e h _ _ refl) (ended semicolon_mark))))
    where
      return_is : (at : At) → at.pos ≡ given → (r : Right) → r ≡ right.Value (expr_of e) → (sc : Scope)
          → (tree.return_stmts at.pos sc r ≡ stmt.Return given (Some (expr_of e)) ∷ []) × ((tree.stored at.pos sc r).scope ≡ sc)
      return_is at p r same sc = rw (p, same) (refl, refl)

  prints_assert : (e : Expression) → ExpressionFits e → Printed (assert_that given e) (codes "assert(" ++ (expression_text e ++ codes ");\n"))
  prints_assert e h =
      subst (λ (z : Bytes). Printed (assert_that given e) z) (simp append_assoc)
      (as_lines (λ (y : At × (CondTree × At)). tree.simple (tree.assert_that y.0 y.1.0 y.1.1)) (λ y. refl)
      (λ y is. let t = is.1.0.tree_is in record {
        valid = t.grouped;
        height_is = ap (λ n. n + 1) t.height_is;
        becomes = λ sc k. (ap₂ (λ p x. stmt.Assert p x ∷ []) (is.0 ∙ here) t.program, refl);
      })
      (before (assert_word refl) (before (prints_condition e h _ _) (ended semicolon_mark))))

  prints_output : (e : Expression) → ExpressionFits e → Printed (output given e) (codes "client_out(" ++ (expression_text e ++ codes ");\n"))
  prints_output e h =
      subst (λ (z : Bytes). Printed (output given e) z) (simp append_assoc)
      (as_lines (λ (y : At × (CondTree × At)). tree.simple (tree.output y.0 y.1.0 y.1.1)) (λ y. refl)
      (λ y is. let t = is.1.0.tree_is in record {
        valid = t.grouped;
        height_is = ap (λ n. n + 1) t.height_is;
        becomes = λ sc k. (ap₂ (λ p x. stmt.Output p x ∷ []) (is.0 ∙ here) t.program, refl);
      })
      (before (client_out_word refl) (before (prints_condition e h _ _) (ended semicolon_mark))))

  prints_while : (e : Expression) (ss : Statements) → ExpressionFits e → ((p : Place) → p.fresh ≡ true → PrintsStatements true ss p (codes "}\n" ++ rest))
      → Printed (while_loop given e ss) (codes "while (" ++ (expression_text e ++ (codes ") {\n" ++ (statements_text ss ++ codes "}\n"))))
  prints_while e ss h inner =
      subst (λ (z : Bytes). Printed (while_loop given e ss) z) (simp append_assoc)
      (as_lines (λ (y : At × (CondTree × Body)). tree.while_loop y.0 y.1.0 y.1.1) (λ y. refl)
      (λ y is. let t = is.1.0.tree_is in let b = is.1.1 in record {
        valid = (t.grouped, b.valid);
        height_is = rw (t.height_is, b.height_is) refl;
        becomes = λ sc k. let body = b.becomes sc k in (ap₃ (λ p x ss. stmt.While p x ss ∷ []) (is.0 ∙ here) t.program body.0, body.1);
      })
      (before (while_word refl) (spaced_lines (before (prints_condition e h _ _) (spaced_lines (prints_block true ss rest inner _))))))

  prints_if : (e : Expression) (ss : Statements) → ExpressionFits e → ((p : Place) → p.fresh ≡ true → PrintsStatements in_loop ss p (codes "}\n" ++ rest))
      → Printed (if_else given e ss none) (codes "if (" ++ (expression_text e ++ (codes ") {\n" ++ (statements_text ss ++ codes "}\n"))))
  prints_if e ss h inner =
      subst (λ (z : Bytes). Printed (if_else given e ss none) z) (simp append_assoc)
      (as_lines (λ (y : At × (CondTree × Body)). tree.if_only y.0 y.1.0 y.1.1) (λ y. refl)
      (λ y is. let t = is.1.0.tree_is in let b = is.1.1 in record {
        valid = (t.grouped, b.valid);
        height_is = rw (t.height_is, b.height_is) (omega arith);
        becomes = λ sc k. let body = b.becomes sc k.0 in (ap₃ (λ p x ss. stmt.If p x ss [] ∷ []) (is.0 ∙ here) t.program body.0, body.1);
      })
      (before (if_word refl) (spaced_lines (before (prints_condition e h _ _) (spaced_lines (prints_block in_loop ss rest inner _))))))

  prints_if_else : (e : Expression) (ss : Statements) (n : Statement) (ns : Statements) → ExpressionFits e
      → ((p : Place) (rest : Bytes) → p.fresh ≡ true → PrintsStatements in_loop ss p rest)
      → ((p : Place) (rest : Bytes) → p.fresh ≡ true → PrintsStatements in_loop (more n ns) p rest)
      → Printed (if_else given e ss (more n ns))
      (codes "if (" ++ (expression_text e ++ (codes ") {\n" ++ (statements_text ss ++ (codes "} else {\n" ++ (statements_text (more n ns) ++ codes "}\n"))))))
  prints_if_else e ss n ns h inner other =
      subst (λ (z : Bytes). Printed (if_else given e ss (more n ns)) z) (simp append_assoc)
      (as_lines (λ (y : At × (CondTree × (At × (Pieces × (At × (At × Body)))))). tree.if_else y.0 y.1.0 (tree.block y.1.1.0 y.1.1.1.0 y.1.1.1.1.0) y.1.1.1.1.1.0 y.1.1.1.1.1.1)
      (λ y. ap (λ ts. keyword if_key y.0 ∷ (cond_tokens y.1.0 ++ ts)) (block_split (mark brace_open y.1.1.0) (pieces_tokens y.1.1.1.0) (mark brace_close y.1.1.1.1.0) (keyword else_key y.1.1.1.1.1.0 ∷ body_tokens y.1.1.1.1.1.1)))
      (λ y is. let t = is.1.0.tree_is in let b = is.1.1.1.0 in let o = is.1.1.1.1 in record {
        valid = (t.grouped, b.valid, refl, o.valid);
        height_is = rw (t.height_is, b.height_is, o.height_is) refl;
        becomes = λ sc k.
            let first = b.become sc k.0 in
            let second = o.becomes (scope_behind_all ss sc) k.1 in
            (ap₄ (λ p x yes no. stmt.If p x yes no ∷ []) (is.0 ∙ here) t.program first.0 (ap (body_stmts y.1.1.1.1.1.1) first.1 ∙ second.0), ap (body_scope y.1.1.1.1.1.1) first.1 ∙ second.1);
      })
      (before (if_word refl) (spaced_lines (before (prints_condition e h _ _) (spaced_lines
      (above (ended brace_opens) (λ q fresh. above (inner q _ fresh) (λ q fresh. otherwise q))))))))
    where
      block_split : (o : Token) (ts : List Token) (c : Token) (us : List Token) → (o ∷ (ts ++ (c ∷ []))) ++ us ≡ o ∷ (ts ++ (c ∷ us))
      block_split o ts c us = ap (λ (z : List Token). o ∷ z) (append_assoc ts (c ∷ []) us)

      -- from the closing brace on
      otherwise : (q : Place) → Lines (λ (y : At × (At × Body)). mark brace_close y.0 ∷ (keyword else_key y.1.0 ∷ body_tokens y.1.1)) (λ (y : At × (At × Body)). IsBlockOf in_loop (more n ns) y.1.1) q (codes "} else {\n" ++ (statements_text (more n ns) ++ codes "}\n")) rest
      otherwise q =
          as_lines (λ (y : At × (At × Body)). y) (λ y. refl) (λ y is. is.1.1)
          (before brace_closes (spaced_lines (before (else_word refl) (spaced_lines (prints_block in_loop (more n ns) rest (λ p fresh. other p _ fresh) _)))))

-- ---- statements and what they hold

mutual
  pub prints_statement : (s : Statement) (in_loop : Bool) → StatementFits in_loop s → StatementHasPositions s → (p : Place) (rest : Bytes) → p.fresh ≡ true → PrintsStatement in_loop s p rest
  prints_statement (skip x) in_loop h at p rest fresh = positioned x at fresh (λ q here. prints_skip in_loop x q rest here)
  prints_statement (set x d e) in_loop h at p rest fresh = positioned x at fresh (λ q here. prints_set in_loop x q rest here d e h.0 h.1)
  prints_statement (set_element x a i e) in_loop h at p rest fresh = positioned x at fresh (λ q here. prints_set_element in_loop x q rest here a i e h.0 h.1 h.2)
  prints_statement (call x d f es) in_loop h at p rest fresh = positioned x at fresh (λ q here. prints_call_statement in_loop x q rest here d f es h.0 h.1 h.2)
  prints_statement (call_by x d y es) in_loop h at p rest fresh = absurd h
  prints_statement (if_else x e a none) in_loop h at p rest fresh =
      positioned x at.0 fresh (λ q here. prints_if in_loop x q rest here e a h.0 (λ p fresh. prints_statements a in_loop h.1 at.1 p _ fresh))
  prints_statement (if_else x e a (more n ns)) in_loop h at p rest fresh =
      positioned x at.0 fresh (λ q here. prints_if_else in_loop x q rest here e a n ns h.0
      (λ p rest fresh. prints_statements a in_loop h.1 at.1 p rest fresh)
      (λ p rest fresh. prints_statements (more n ns) in_loop h.2 at.2 p rest fresh))
  prints_statement (while_loop x e a) in_loop h at p rest fresh =
      positioned x at.0 fresh (λ q here. prints_while in_loop x q rest here e a h.0 (λ p fresh. prints_statements a true h.1 at.1 p _ fresh))
  prints_statement (break_loop x) in_loop h at p rest fresh = positioned x at fresh (λ q here. prints_break in_loop x q rest here h)
  prints_statement (return_with x None) in_loop h at p rest fresh = positioned x at fresh (λ q here. prints_bare_return in_loop x q rest here)
  prints_statement (return_with x (Some e)) in_loop h at p rest fresh = positioned x at fresh (λ q here. prints_return in_loop x q rest here e h)
  prints_statement (assert_that x e) in_loop h at p rest fresh = positioned x at fresh (λ q here. prints_assert in_loop x q rest here e h)
  prints_statement (input x d) in_loop h at p rest fresh = positioned x at fresh (λ q here. prints_input_statement in_loop x q rest here d h)
  prints_statement (output x e) in_loop h at p rest fresh = positioned x at fresh (λ q here. prints_output in_loop x q rest here e h)
  prints_statement (point x k) in_loop h at p rest fresh = absurd h
  prints_statement (choice x d k) in_loop h at p rest fresh = positioned x at fresh (λ q here. prints_choice_statement in_loop x q rest here d k h.0 h.1)
  prints_statement (force x) in_loop h at p rest fresh = absurd h
  prints_statement (pick x a b) in_loop h at p rest fresh = absurd h

  pub prints_statements : (ss : Statements) (in_loop : Bool) → StatementsFit in_loop ss → StatementsHavePositions ss → (p : Place) (rest : Bytes) → p.fresh ≡ true → PrintsStatements in_loop ss p rest
  prints_statements none in_loop h at p rest fresh =
      as_lines (λ (x : ⊤). tree.none) (λ x. refl) (λ x is. record { valid = tt; height_is = refl; become = λ sc k. (refl, refl) }) (chains.no_lines fresh)
  prints_statements (more s ss) in_loop h at p rest fresh =
      as_lines (λ (y : Piece × Pieces). tree.next y.0 y.1) (λ y. refl)
      (λ y is. record {
        valid = (is.0.valid, is.1.valid);
        height_is = rw (is.0.height_is, is.1.height_is) refl;
        become = λ sc k.
            let first = is.0.becomes sc k.0 in
            let others = is.1.become (scope_behind s sc) k.1 in
            (ap₂ (λ (a : List Stmt) (c : Scope). a ++ pieces_stmts y.1 c) first.0 first.1 ∙ ap (λ (b : List Stmt). stmt_of s ∷ b) others.0, ap (pieces_scope y.1) first.1 ∙ others.1);
      })
      (above (prints_statement s in_loop h.0 at.0 p _ fresh) (λ q fresh. prints_statements ss in_loop h.1 at.1 q rest fresh))
