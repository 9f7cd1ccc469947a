-- What is read of statements is in the grammar.
use Rattle.std.proofs.Common.{◌≡◌, ℕ, zero, suc, pos, ◌+◌, ◌-◌, ◌<◌, ◌≤◌, max, Bool, true, false, cond, ltb, eqb, List, [], ◌∷◌, ◌++◌, length, Option, Some, None, refl, sym, ap, ◌∙◌, subst, append_assoc, arith, inl, inr}
use Rattle.std.proofs.lemmas.List.{append-nil}
use Rattle.std.proofs.lemmas.Bool.{ltb-true, eqb-true}
use Rattle.c_lang.specs.Names.{Bytes}
use Rattle.c_lang.specs.declared.unit.Unit.{Unit}
use Rattle.c_lang.specs.declared.unit.Pos.{Pos}
use Rattle.c_lang.specs.declared.expr.Expr.{Expr}
use Rattle.c_lang.specs.declared.stmt.Kind.TheVariants as kind
use Rattle.c_lang.specs.declared.stmt.Dest.{Dest}
use Rattle.c_lang.specs.declared.stmt.Dest.TheVariants as dest
use Rattle.c_lang.specs.declared.stmt.Stmt.{Stmt}
use Rattle.c_lang.specs.declared.stmt.Stmt.TheVariants as s
use Rattle.c_grammar.specs.declared.token.Token.{Token}
use Rattle.c_grammar.specs.declared.token.Word.{Word}
use Rattle.c_grammar.specs.declared.token.Word.TheVariants as w
use Rattle.c_grammar.specs.Tokens.{At, token, mark, keyword, round_open, round_close, brace_open, brace_close, square_open, square_close, semicolon, equals, else_key, if_key, while_key, int_key, break_key, return_key, assert_key, client_out_key, client_in_key, dsu_choice_key, dsu_update_key, dsu_force_key, dsu_updated_key}
use Rattle.c_grammar.specs.Scopes.{Scope, declare, refuse_arity, is_client, is_merge}
use Rattle.c_expressions.specs.Code.ParseSteps.{◌>>=◌, after, after_key, named, name_at, number_at}
use Rattle.c_grammar.specs.Expressions.{tokens_of, expr_of, IsGrouped}
use Rattle.c_grammar.specs.Expressions as e
use Rattle.c_expressions.specs.Code.ExpressionReading.{Found, expr}
use Rattle.c_grammar.specs.Statements as g
use Rattle.c_expressions.specs.Code.SideReading.{Called, Side, right_side, call_at, input_at, choice_at, condition, Pointer, pointer_at}
use Rattle.c_statements.specs.Code.StatementReading.{Read, made, done, assign, assign_element, run, named_by, named_stmt, initialized, declare_pointer, declaration, declaration_by, return_by, return_at, checked, point_at, force_at, One, end_one, call_behind, one_by, one_at, side_of_pick_by, side_of_pick, pick_at, updated_at, keyword_stmt, chain, nothing, if_only, if_else, while_loop, items_by, items, body_by, body, else_by, branch, if_by, repeat, key_stmt, stmt_by, stmt_at, stmt}
use Rattle.c_expressions.proofs.OperatorLaws.{chosen}
use Rattle.c_expressions.proofs.ExpressionSound.{bind_some, some_is, after-is, at_of, reads_trees}
use Rattle.c_expressions.proofs.SideComplete.{found_side}
use Rattle.c_expressions.proofs.SideSound.{after_key-is, name_at-is, number_at-is, function-read, IsCallRead, named_call-read, input-read, choice-read, side-read, IsCondRead, cond-read, pointer-read}
use Rattle.c_statements.proofs.StatementComplete.{found, found_simple, found_body, found_one, found_pick, added, NoElse}

pub record IsSimpleRead (u : Unit) (d : ℕ) (m l : Bool) (sc : Scope) (ts : List Token) (x : Read) : Type 0 where
  pub tree : g.Simple
  pub valid : g.IsSimple u m l tree
  pub high : g.simple_height tree ≤ suc d
  pub parts : ts ≡ g.simple_tokens tree ++ x.rest
  pub same : found_simple tree sc x.rest ≡ x

record Ends (ts rest : List Token) : Type 0 where
  end : At
  split : ts ≡ mark semicolon end ∷ rest

done-is : (stmts : List Stmt) (h : ℕ) (sc : Scope) (ts : List Token) (x : Read) → done stmts h sc ts ≡ Some x → Ends ts x.rest × (made stmts h sc x.rest ≡ x)
done-is stmts h sc ts x q =
    let a = bind_some (after semicolon ts) (λ rest. Some (made stmts h sc rest)) x q in
    let z = after-is semicolon ts a.0 a.1 in
    let same : made stmts h sc a.0 ≡ x = some_is _ x a.2 in
    (record { end = z.0; split = z.1 ∙ ap (λ (y : Read). mark semicolon z.0 ∷ y.rest) same }, ap (λ (y : Read). made stmts h sc y.rest) (sym same) ∙ same)

-- a front and the semicolon behind it
ended : (ts front mid rest : List Token) (z : Ends mid rest) → ts ≡ front ++ mid → ts ≡ (front ++ mark semicolon z.end ∷ []) ++ rest
ended ts front mid rest z p = p ∙ ap (λ (r : List Token). front ++ r) z.split ∙ sym (append_assoc front (mark semicolon z.end ∷ []) rest)

module _ (u : Unit) (d : ℕ) where
  set-read : (m l : Bool) (at : At) (x : Bytes) (sc : Scope) (is : At) (ts : List Token) (r : Read) → assign u d at.pos x sc ts ≡ Some r → IsSimpleRead u d m l sc (token at (w.Ident x) ∷ mark equals is ∷ ts) r
  unfolding assign
  set-read m l at x sc is ts r q =
      let a = bind_some (right_side u d ts) (λ y. done (g.set_stmts at.pos x sc y.right) (y.height + 1) (g.set_scope at.pos x sc y.right) y.rest) r q in
      let y = side-read u d ts a.0 a.1 in
      let z = done-is (g.set_stmts at.pos x sc a.0.right) (a.0.height + 1) (g.set_scope at.pos x sc a.0.right) a.0.rest r a.2 in
      record {
        tree = g.set at x is y.side z.0.end;
        valid = y.valid;
        high = omega (arith, y.high);
        parts = ap (λ (us : List Token). token at (w.Ident x) ∷ mark equals is ∷ us) (ended ts (g.side_tokens y.side) a.0.rest r.rest z.0 y.parts);
        same = ap (λ (v : Side). made (g.set_stmts at.pos x sc v.right) (v.height + 1) (g.set_scope at.pos x sc v.right) r.rest) y.same ∙ z.1;
      }

  set_element-read : (m l : Bool) (at : At) (x : Bytes) (sc : Scope) (o : At) (ts : List Token) (r : Read) → assign_element u d at.pos x sc ts ≡ Some r → IsSimpleRead u d m l sc (token at (w.Ident x) ∷ mark square_open o ∷ ts) r
  unfolding assign_element
  set_element-read m l at x sc o ts r q =
      let make = λ (i : Expr) (n : ℕ) (v : Side) (rest : List Token). made (g.element_stmts at.pos x i sc v.right) (max n v.height + 1) (g.stored at.pos sc v.right).scope rest in
      let i = bind_some (expr d 1 ts) (λ i. after square_close i.rest >>= λ a. after equals a >>= λ b. right_side u d b >>= λ y. done (g.element_stmts at.pos x i.expr sc y.right) (max i.height y.height + 1) (g.stored at.pos sc y.right).scope y.rest) r q in
      let a = bind_some (after square_close i.0.rest) (λ a. after equals a >>= λ b. right_side u d b >>= λ y. done (g.element_stmts at.pos x i.0.expr sc y.right) (max i.0.height y.height + 1) (g.stored at.pos sc y.right).scope y.rest) r i.2 in
      let b = bind_some (after equals a.0) (λ b. right_side u d b >>= λ y. done (g.element_stmts at.pos x i.0.expr sc y.right) (max i.0.height y.height + 1) (g.stored at.pos sc y.right).scope y.rest) r a.2 in
      let v = bind_some (right_side u d b.0) (λ y. done (g.element_stmts at.pos x i.0.expr sc y.right) (max i.0.height y.height + 1) (g.stored at.pos sc y.right).scope y.rest) r b.2 in
      let t = (reads_trees d 1 ts i.0 (omega arith) i.1).part in
      let c = after-is square_close i.0.rest a.0 a.1 in
      let is = after-is equals a.0 b.0 b.1 in
      let y = side-read u d b.0 v.0 v.1 in
      let z = done-is (g.element_stmts at.pos x i.0.expr sc v.0.right) (max i.0.height v.0.height + 1) (g.stored at.pos sc v.0.right).scope v.0.rest r v.2 in
      let tail = g.side_tokens y.side ++ mark semicolon z.0.end ∷ [] in
      record {
        tree = g.set_element at x o t.tree c.0 is.0 y.side z.0.end;
        valid = (t.grouped, y.valid);
        high = omega (arith, t.high, y.high);
        parts = ap (λ (us : List Token). token at (w.Ident x) ∷ mark square_open o ∷ us) (t.parts ∙ ap (λ (us : List Token). tokens_of t.tree ++ us) (c.1 ∙ ap (λ (us : List Token). mark square_close c.0 ∷ us) (is.1 ∙ ap (λ (us : List Token). mark equals is.0 ∷ us) (ended b.0 (g.side_tokens y.side) v.0.rest r.rest z.0 y.parts))) ∙ sym (append_assoc (tokens_of t.tree) (mark square_close c.0 ∷ mark equals is.0 ∷ tail) r.rest));
        same = ap (λ (a : Expr). make a (e.height t.tree) (found_side y.side v.0.rest) r.rest) t.program
            ∙ ap (λ (n : ℕ). make i.0.expr n (found_side y.side v.0.rest) r.rest) (sym t.height_is)
            ∙ ap (λ (s : Side). make i.0.expr i.0.height s r.rest) y.same ∙ z.1;
      }

  run-read : (m l : Bool) (at : At) (sc : Scope) (ts : List Token) (c : Option Called) (r : Read) → ((k : Called) → c ≡ Some k → IsCallRead u d at ts k) → run at.pos sc c ≡ Some r → IsSimpleRead u d m l sc ts r
  run-read m l at sc ts c r read q =
      let a = bind_some c (λ x. done (g.call_to at.pos dest.Nowhere x.call ∷ []) (x.height + 1) sc x.rest) r q in
      let k = read a.0 a.1 in
      let z = done-is (g.call_to at.pos dest.Nowhere a.0.call ∷ []) (a.0.height + 1) sc a.0.rest r a.2 in
      record {
        tree = g.run k.tree z.0.end;
        valid = k.valid;
        high = omega (arith, k.high);
        parts = ended ts (g.call_tokens k.tree) a.0.rest r.rest z.0 k.parts;
        same = ap (λ (v : Pos). made (g.call_to v dest.Nowhere (g.call_of k.tree) ∷ []) (g.call_height k.tree + 1) sc r.rest) k.begins
            ∙ ap (λ (v : Called). made (g.call_to at.pos dest.Nowhere v.call ∷ []) (v.height + 1) sc r.rest) k.same ∙ z.1;
      }

  named_by-read : (m l : Bool) (at : At) (x : Bytes) (sc : Scope) (o : At) (what : Word) (ts : List Token) (r : Read) → named_by u d at.pos x sc what ts ≡ Some r → IsSimpleRead u d m l sc (token at (w.Ident x) ∷ token o what ∷ ts) r
  named_by-read m l at x sc o (w.Punct k) ts r q =
      let P = λ (n : ℕ). IsSimpleRead u d m l sc (token at (w.Ident x) ∷ mark n o ∷ ts) r in
      let third = cond (eqb k round_open) (run at.pos sc (call_at d x ts)) None in
      let second = cond (eqb k square_open) (assign_element u d at.pos x sc ts) third in
      elim (chosen (eqb k equals) (assign u d at.pos x sc ts) second (Some r) q) [
        | inl h ↦ subst P (sym (eqb-true k equals h.0)) (set-read m l at x sc o ts r h.1)
        | inr h ↦ elim (chosen (eqb k square_open) (assign_element u d at.pos x sc ts) third (Some r) h.1) [
          | inl i ↦ subst P (sym (eqb-true k square_open i.0)) (set_element-read m l at x sc o ts r i.1)
          | inr i ↦ elim (chosen (eqb k round_open) (run at.pos sc (call_at d x ts)) None (Some r) i.1) [
            | inl j ↦ subst P (sym (eqb-true k round_open j.0)) (run-read m l at sc (token at (w.Ident x) ∷ mark round_open o ∷ ts) (call_at d x ts) r (λ c e. named_call-read u d at x (mark round_open o ∷ ts) ts c refl e) j.1)
            | inr j ↦ absurd (let never = j.1 in cc)
          ]
        ]
      ]
  named_by-read m l at x sc o (w.Ident k) ts r q = absurd cc
  named_by-read m l at x sc o (w.Number k) ts r q = absurd cc
  named_by-read m l at x sc o (w.Key k) ts r q = absurd cc

  pub named-read : (m l : Bool) (at : At) (x : Bytes) (sc : Scope) (ts : List Token) (r : Read) → named_stmt u d at.pos x sc ts ≡ Some r → IsSimpleRead u d m l sc (token at (w.Ident x) ∷ ts) r
  unfolding named_stmt
  named-read m l at x sc [] r q = absurd cc
  named-read m l at x sc (t ∷ ts) r q = named_by-read m l at x sc (at_of t) t.what ts r q

  int-read : (l : Bool) (int at : At) (x : Bytes) (sc : Scope) (ts : List Token) (r : Read) → initialized u d int.pos kind.Int x sc ts ≡ Some r → IsSimpleRead u d true l sc (keyword int_key int ∷ token at (w.Ident x) ∷ ts) r
  unfolding initialized
  int-read l int at x sc ts r q =
      let make = λ (v : Side) (rest : List Token). made (g.right_to int.pos (dest.Fresh kind.Int x) v.right ∷ []) (v.height + 1) (declare sc x) rest in
      let a = bind_some (after equals ts) (λ a. right_side u d a >>= λ y. done (g.right_to int.pos (dest.Fresh kind.Int x) y.right ∷ []) (y.height + 1) (declare sc x) y.rest) r q in
      let v = bind_some (right_side u d a.0) (λ y. done (g.right_to int.pos (dest.Fresh kind.Int x) y.right ∷ []) (y.height + 1) (declare sc x) y.rest) r a.2 in
      let is = after-is equals ts a.0 a.1 in
      let y = side-read u d a.0 v.0 v.1 in
      let z = done-is (g.right_to int.pos (dest.Fresh kind.Int x) v.0.right ∷ []) (v.0.height + 1) (declare sc x) v.0.rest r v.2 in
      record {
        tree = g.declaration int at x is.0 y.side z.0.end;
        valid = (refl, y.valid);
        high = omega (arith, y.high);
        parts = ap (λ (us : List Token). keyword int_key int ∷ token at (w.Ident x) ∷ us) (is.1 ∙ ap (λ (us : List Token). mark equals is.0 ∷ us) (ended a.0 (g.side_tokens y.side) v.0.rest r.rest z.0 y.parts));
        same = ap (λ (s : Side). make s r.rest) y.same ∙ z.1;
      }

  declare_pointer-read : (l : Bool) (int : At) (sc : Scope) (ts : List Token) (r : Read) → declare_pointer u d int.pos sc ts ≡ Some r → IsSimpleRead u d true l sc (keyword int_key int ∷ ts) r
  unfolding declare_pointer initialized
  declare_pointer-read l int sc ts r q =
      let make = λ (f : Pointer) (v : Side) (rest : List Token). made (g.right_to int.pos (dest.Fresh (kind.Fp f.arity) f.name) v.right ∷ []) (v.height + 1) (refuse_arity (declare sc f.name) int.pos f.arity) rest in
      let go = λ (f : Pointer) (y : Side). done (g.right_to int.pos (dest.Fresh (kind.Fp f.arity) f.name) y.right ∷ []) (y.height + 1) (refuse_arity (declare sc f.name) int.pos f.arity) y.rest in
      let f = bind_some (pointer_at ts) (λ f. after equals f.rest >>= λ a. right_side u d a >>= λ y. go f y) r q in
      let a = bind_some (after equals f.0.rest) (λ a. right_side u d a >>= λ y. go f.0 y) r f.2 in
      let v = bind_some (right_side u d a.0) (λ y. go f.0 y) r a.2 in
      let p = pointer-read ts f.0 f.1 in
      let is = after-is equals f.0.rest a.0 a.1 in
      let y = side-read u d a.0 v.0 v.1 in
      let z = done-is (g.right_to int.pos (dest.Fresh (kind.Fp f.0.arity) f.0.name) v.0.right ∷ []) (v.0.height + 1) (refuse_arity (declare sc f.0.name) int.pos f.0.arity) v.0.rest r v.2 in
      let tail = g.side_tokens y.side ++ mark semicolon z.0.end ∷ [] in
      record {
        tree = g.pointer int p.tree is.0 y.side z.0.end;
        valid = (refl, y.valid);
        high = omega (arith, y.high);
        parts = ap (λ (us : List Token). keyword int_key int ∷ us) (p.parts ∙ ap (λ (us : List Token). g.pointer_tokens p.tree ++ us) (is.1 ∙ ap (λ (us : List Token). mark equals is.0 ∷ us) (ended a.0 (g.side_tokens y.side) v.0.rest r.rest z.0 y.parts)) ∙ sym (append_assoc (g.pointer_tokens p.tree) (mark equals is.0 ∷ tail) r.rest));
        same = ap (λ (k : Pointer). make k (found_side y.side v.0.rest) r.rest) p.same ∙ ap (λ (s : Side). make f.0 s r.rest) y.same ∙ z.1;
      }

  pub declaration-read : (l : Bool) (int : At) (sc : Scope) (ts : List Token) (r : Read) → declaration u d int.pos sc ts ≡ Some r → IsSimpleRead u d true l sc (keyword int_key int ∷ ts) r
  declaration-read l int sc ts r q = either (name_at ts) refl q
    where
      either : (o : Option (Bytes × List Token)) → name_at ts ≡ o → declaration_by u d int.pos sc ts o ≡ Some r → IsSimpleRead u d true l sc (keyword int_key int ∷ ts) r
      either None o q = declare_pointer-read l int sc ts r q
      either (Some x) o q =
          let n = name_at-is ts x o in
          subst (λ (us : List Token). IsSimpleRead u d true l sc (keyword int_key int ∷ us) r) (sym n.1) (int-read l int n.0 x.0 sc x.1 r q)

  return-read : (m l : Bool) (at : At) (sc : Scope) (ts : List Token) (r : Read) → return_at u d at.pos sc ts ≡ Some r → IsSimpleRead u d m l sc (keyword return_key at ∷ ts) r
  unfolding return_at
  return-read m l at sc ts r q = either (after semicolon ts) refl q
    where
      either : (o : Option (List Token)) → after semicolon ts ≡ o → return_by u d at.pos sc ts o ≡ Some r → IsSimpleRead u d m l sc (keyword return_key at ∷ ts) r
      either (Some rest) o q =
          let z = after-is semicolon ts rest o in
          subst (λ (y : Read). IsSimpleRead u d m l sc (keyword return_key at ∷ ts) y) (some_is _ r q) (record { tree = g.return_off at z.0; valid = tt; high = omega arith; parts = ap (λ (us : List Token). keyword return_key at ∷ us) z.1; same = refl })
      either None o q =
          let make = λ (v : Side) (rest : List Token). made (g.return_stmts at.pos sc v.right) (v.height + 1) (g.stored at.pos sc v.right).scope rest in
          let v = bind_some (right_side u d ts) (λ y. done (g.return_stmts at.pos sc y.right) (y.height + 1) (g.stored at.pos sc y.right).scope y.rest) r q in
          let y = side-read u d ts v.0 v.1 in
          let z = done-is (g.return_stmts at.pos sc v.0.right) (v.0.height + 1) (g.stored at.pos sc v.0.right).scope v.0.rest r v.2 in
          record {
            tree = g.return_side at y.side z.0.end;
            valid = y.valid;
            high = omega (arith, y.high);
            parts = ap (λ (us : List Token). keyword return_key at ∷ us) (ended ts (g.side_tokens y.side) v.0.rest r.rest z.0 y.parts);
            same = ap (λ (s : Side). make s r.rest) y.same ∙ z.1;
          }

  -- `assert(..);` and `client_out(..);`
  record IsCheckedRead (f : Expr → Stmt) (sc : Scope) (ts : List Token) (r : Read) : Type 0 where
    tree : g.CondTree
    valid : IsGrouped tree.tree
    high : e.height tree.tree ≤ d
    end : At
    parts : ts ≡ (g.cond_tokens tree ++ mark semicolon end ∷ []) ++ r.rest
    same : made (f (expr_of tree.tree) ∷ []) (e.height tree.tree + 1) sc r.rest ≡ r

  checked-read : (f : Expr → Stmt) (sc : Scope) (ts : List Token) (r : Read) → checked f d sc ts ≡ Some r → IsCheckedRead f sc ts r
  unfolding checked
  checked-read f sc ts r q =
      let a = bind_some (condition d ts) (λ c. done (f c.expr ∷ []) (c.height + 1) sc c.rest) r q in
      let c = cond-read d ts a.0 a.1 in
      let z = done-is (f a.0.expr ∷ []) (a.0.height + 1) sc a.0.rest r a.2 in
      record {
        tree = c.tree;
        valid = c.valid;
        high = c.high;
        end = z.0.end;
        parts = ended ts (g.cond_tokens c.tree) a.0.rest r.rest z.0 c.parts;
        same = ap (λ (v : Found). made (f v.expr ∷ []) (v.height + 1) sc r.rest) c.same ∙ z.1;
      }

  assert-read : (m l : Bool) (at : At) (sc : Scope) (ts : List Token) (r : Read) → checked (s.Assert at.pos) d sc ts ≡ Some r → IsSimpleRead u d m l sc (keyword assert_key at ∷ ts) r
  assert-read m l at sc ts r q =
      let c = checked-read (s.Assert at.pos) sc ts r q in
      record { tree = g.assert_that at c.tree c.end; valid = c.valid; high = omega (arith, c.high); parts = ap (λ (us : List Token). keyword assert_key at ∷ us) c.parts; same = c.same }

  output-read : (m l : Bool) (at : At) (sc : Scope) (ts : List Token) (r : Read) → checked (s.Output at.pos) d sc ts ≡ Some r → IsSimpleRead u d m l sc (keyword client_out_key at ∷ ts) r
  output-read m l at sc ts r q =
      let c = checked-read (s.Output at.pos) sc ts r q in
      record { tree = g.output at c.tree c.end; valid = c.valid; high = omega (arith, c.high); parts = ap (λ (us : List Token). keyword client_out_key at ∷ us) c.parts; same = c.same }

  abbrev point_rest : Pos → Scope → List Token → Option Read
  point_rest p sc ts = after round_open ts >>= λ a. number_at a >>= λ n. after round_close n.1 >>= λ b. done (s.Point p n.0 ∷ []) 2 sc b

  point_rest-read : (m l : Bool) (at : At) (sc : Scope) (ts : List Token) (r : Read) → is_merge u ≡ false → 0 < d → point_rest at.pos sc ts ≡ Some r → IsSimpleRead u d m l sc (keyword dsu_update_key at ∷ ts) r
  point_rest-read m l at sc ts r merge low q =
      let a = bind_some (after round_open ts) (λ a. number_at a >>= λ n. after round_close n.1 >>= λ b. done (s.Point at.pos n.0 ∷ []) 2 sc b) r q in
      let n = bind_some (number_at a.0) (λ n. after round_close n.1 >>= λ b. done (s.Point at.pos n.0 ∷ []) 2 sc b) r a.2 in
      let b = bind_some (after round_close n.0.1) (λ b. done (s.Point at.pos n.0.0 ∷ []) 2 sc b) r n.2 in
      let o = after-is round_open ts a.0 a.1 in
      let k = number_at-is a.0 n.0 n.1 in
      let c = after-is round_close n.0.1 b.0 b.1 in
      let z = done-is (s.Point at.pos n.0.0 ∷ []) 2 sc b.0 r b.2 in
      record {
        tree = g.point at o.0 k.0 n.0.0 c.0 z.0.end;
        valid = merge;
        high = omega (arith, low);
        parts = ap (λ (us : List Token). keyword dsu_update_key at ∷ us) (o.1 ∙ ap (λ (us : List Token). mark round_open o.0 ∷ us) (k.1 ∙ ap (λ (us : List Token). token k.0 (w.Number (pos n.0.0)) ∷ us) (c.1 ∙ ap (λ (us : List Token). mark round_close c.0 ∷ us) z.0.split)));
        same = z.1;
      }

  point-read : (m l : Bool) (at : At) (sc : Scope) (ts : List Token) (r : Read) → point_at u d at.pos sc ts ≡ Some r → IsSimpleRead u d m l sc (keyword dsu_update_key at ∷ ts) r
  unfolding point_at
  point-read m l at sc ts r q =
      elim (chosen (is_merge u) None (cond (ltb 0 d) (point_rest at.pos sc ts) None) (Some r) q) [
        | inl h ↦ absurd (let never = h.1 in cc)
        | inr h ↦ elim (chosen (ltb 0 d) (point_rest at.pos sc ts) None (Some r) h.1) [
          | inr i ↦ absurd (let never = i.1 in cc)
          | inl i ↦ point_rest-read m l at sc ts r h.0 (ltb-true _ _ i.0) i.1
        ]
      ]

  abbrev force_rest : Pos → Scope → List Token → Option Read
  force_rest p sc ts = after round_open ts >>= λ a. after round_close a >>= λ b. done (s.Force p ∷ []) 1 sc b

  force-read : (m l : Bool) (at : At) (sc : Scope) (ts : List Token) (r : Read) → force_at u at.pos sc ts ≡ Some r → IsSimpleRead u d m l sc (keyword dsu_force_key at ∷ ts) r
  unfolding force_at
  force-read m l at sc ts r q =
      elim (chosen (is_client u) (force_rest at.pos sc ts) None (Some r) q) [
        | inr h ↦ absurd (let never = h.1 in cc)
        | inl h ↦
            let a = bind_some (after round_open ts) (λ a. after round_close a >>= λ b. done (s.Force at.pos ∷ []) 1 sc b) r h.1 in
            let b = bind_some (after round_close a.0) (λ b. done (s.Force at.pos ∷ []) 1 sc b) r a.2 in
            let o = after-is round_open ts a.0 a.1 in
            let c = after-is round_close a.0 b.0 b.1 in
            let z = done-is (s.Force at.pos ∷ []) 1 sc b.0 r b.2 in
            record {
              tree = g.force at o.0 c.0 z.0.end;
              valid = h.0;
              high = omega arith;
              parts = ap (λ (us : List Token). keyword dsu_force_key at ∷ us) (o.1 ∙ ap (λ (us : List Token). mark round_open o.0 ∷ us) (c.1 ∙ ap (λ (us : List Token). mark round_close c.0 ∷ us) z.0.split));
              same = z.1;
            }
      ]

  -- a statement that begins with a keyword and has no bodies
  pub keyword-read : (m l : Bool) (at : At) (sc : Scope) (k : ℕ) (ts : List Token) (r : Read) → keyword_stmt u d at.pos sc k ts ≡ Some r → IsSimpleRead u d m l sc (keyword k at ∷ ts) r
  unfolding keyword_stmt
  keyword-read m l at sc k ts r q =
      let P = λ (n : ℕ). IsSimpleRead u d m l sc (keyword n at ∷ ts) r in
      let forced = cond (eqb k dsu_force_key) (force_at u at.pos sc ts) None in
      let pointed = cond (eqb k dsu_update_key) (point_at u d at.pos sc ts) forced in
      let chose = cond (eqb k dsu_choice_key) (run at.pos sc (choice_at u d ts)) pointed in
      let asked = cond (eqb k client_in_key) (run at.pos sc (input_at d ts)) chose in
      let put = cond (eqb k client_out_key) (checked (s.Output at.pos) d sc ts) asked in
      let asserted = cond (eqb k assert_key) (checked (s.Assert at.pos) d sc ts) put in
      elim (chosen (eqb k return_key) (return_at u d at.pos sc ts) asserted (Some r) q) [
        | inl h ↦ subst P (sym (eqb-true k return_key h.0)) (return-read m l at sc ts r h.1)
        | inr h ↦ elim (chosen (eqb k assert_key) (checked (s.Assert at.pos) d sc ts) put (Some r) h.1) [
          | inl i ↦ subst P (sym (eqb-true k assert_key i.0)) (assert-read m l at sc ts r i.1)
          | inr i ↦ elim (chosen (eqb k client_out_key) (checked (s.Output at.pos) d sc ts) asked (Some r) i.1) [
            | inl j ↦ subst P (sym (eqb-true k client_out_key j.0)) (output-read m l at sc ts r j.1)
            | inr j ↦ elim (chosen (eqb k client_in_key) (run at.pos sc (input_at d ts)) chose (Some r) j.1) [
              | inl a ↦ subst P (sym (eqb-true k client_in_key a.0)) (run-read m l at sc (keyword client_in_key at ∷ ts) (input_at d ts) r (λ c e. input-read u d at ts c e) a.1)
              | inr a ↦ elim (chosen (eqb k dsu_choice_key) (run at.pos sc (choice_at u d ts)) pointed (Some r) a.1) [
                | inl b ↦ subst P (sym (eqb-true k dsu_choice_key b.0)) (run-read m l at sc (keyword dsu_choice_key at ∷ ts) (choice_at u d ts) r (λ c e. choice-read u d at ts c e) b.1)
                | inr b ↦ elim (chosen (eqb k dsu_update_key) (point_at u d at.pos sc ts) forced (Some r) b.1) [
                  | inl c ↦ subst P (sym (eqb-true k dsu_update_key c.0)) (point-read m l at sc ts r c.1)
                  | inr c ↦ elim (chosen (eqb k dsu_force_key) (force_at u at.pos sc ts) None (Some r) c.1) [
                    | inl f ↦ subst P (sym (eqb-true k dsu_force_key f.0)) (force-read m l at sc ts r f.1)
                    | inr f ↦ absurd (let never = f.1 in cc)
                  ]
                ]
              ]
            ]
          ]
        ]
      ]

-- ---- picks

record IsOneRead (d : ℕ) (ts : List Token) (x : One) : Type 0 where
  tree : g.OneTree
  valid : g.IsOne tree
  high : g.one_height tree ≤ d + 1
  parts : ts ≡ g.one_tokens tree ++ x.rest
  same : found_one tree x.rest ≡ x

abbrev one_of : Stmt → ℕ → List Token → One
one_of stmt n rest = record { stmt = stmt; height = n; rest = rest }

end_one-is : (p : Pos) (dest : Dest) (c : Option Called) (x : One) → end_one p dest c ≡ Some x → (k : Called) × (c ≡ Some k) × Ends k.rest x.rest × (one_of (g.call_to p dest k.call) (k.height + 1) x.rest ≡ x)
end_one-is p dest c x q =
    let a = bind_some c (λ k. after semicolon k.rest >>= λ rest. Some (one_of (g.call_to p dest k.call) (k.height + 1) rest)) x q in
    let b = bind_some (after semicolon a.0.rest) (λ rest. Some (one_of (g.call_to p dest a.0.call) (a.0.height + 1) rest)) x a.2 in
    let z = after-is semicolon a.0.rest b.0 b.1 in
    let same : one_of (g.call_to p dest a.0.call) (a.0.height + 1) b.0 ≡ x = some_is _ x b.2 in
    (a.0, a.1, record { end = z.0; split = z.1 ∙ ap (λ (y : One). mark semicolon z.0 ∷ y.rest) same }, ap (λ (y : One). one_of (g.call_to p dest a.0.call) (a.0.height + 1) y.rest) (sym same) ∙ same)

one_by-read : (d : ℕ) (at : At) (x : Bytes) (ts : List Token) (r : One) (o : Option (List Token)) → after equals ts ≡ o → one_by d at.pos x ts o ≡ Some r → IsOneRead d (token at (w.Ident x) ∷ ts) r
one_by-read d at x ts r None o q =
    let k = end_one-is at.pos dest.Nowhere (call_behind d x ts) r q in
    let i = bind_some (after round_open ts) (λ inside. call_at d x inside) k.0 k.1 in
    let f = function-read d at x ts i.0 k.0 i.1 i.2 in
    let c : g.FunctionCall = record { at = at; callee = x; opens = f.1; arguments = f.0; closes = f.2 } in
    record {
      tree = g.ignored c k.2.end;
      valid = f.3;
      high = omega (arith, f.4);
      parts = ended (token at (w.Ident x) ∷ ts) (g.function_call_tokens c) k.0.rest r.rest k.2 f.5;
      same = ap (λ (v : Called). one_of (g.call_to at.pos dest.Nowhere v.call) (v.height + 1) r.rest) f.6 ∙ k.3;
    }
one_by-read d at x ts r (Some rest) o q =
    let n = bind_some (name_at rest) (λ f. end_one at.pos (dest.Into x) (call_behind d f.0 f.1)) r q in
    let k = end_one-is at.pos (dest.Into x) (call_behind d n.0.0 n.0.1) r n.2 in
    let i = bind_some (after round_open n.0.1) (λ inside. call_at d n.0.0 inside) k.0 k.1 in
    let is = after-is equals ts rest o in
    let called = name_at-is rest n.0 n.1 in
    let f = function-read d called.0 n.0.0 n.0.1 i.0 k.0 i.1 i.2 in
    let c : g.FunctionCall = record { at = called.0; callee = n.0.0; opens = f.1; arguments = f.0; closes = f.2 } in
    record {
      tree = g.kept at x is.0 c k.2.end;
      valid = f.3;
      high = omega (arith, f.4);
      parts = ap (λ (us : List Token). token at (w.Ident x) ∷ us) (is.1 ∙ ap (λ (us : List Token). mark equals is.0 ∷ us) (called.1 ∙ ended (token called.0 (w.Ident n.0.0) ∷ n.0.1) (g.function_call_tokens c) k.0.rest r.rest k.2 f.5));
      same = ap (λ (v : Called). one_of (g.call_to at.pos (dest.Into x) v.call) (v.height + 1) r.rest) f.6 ∙ k.3;
    }

named_word : (what : Word) (x : Bytes) → named what ≡ Some x → what ≡ w.Ident x
named_word (w.Ident y) x q = ap w.Ident (some_is y x q)
named_word (w.Number n) x q = absurd cc
named_word (w.Punct n) x q = absurd cc
named_word (w.Key n) x q = absurd cc

one-read : (d : ℕ) (ts : List Token) (r : One) → one_at d ts ≡ Some r → IsOneRead d ts r
unfolding one_at
one-read d [] r q = absurd cc
one-read d (t ∷ ts) r q =
    let x = bind_some (named t.what) (λ x. one_by d t.pos x ts (after equals ts)) r q in
    subst (λ (what : Word). IsOneRead d (token (at_of t) what ∷ ts) r) (sym (named_word t.what x.0 x.1)) (one_by-read d (at_of t) x.0 ts r (after equals ts) refl x.2)

record IsPickRead (d : ℕ) (ts : List Token) (x : One) : Type 0 where
  tree : g.PickTree
  valid : g.IsPick tree
  high : g.pick_height tree ≤ d + 1
  parts : ts ≡ g.pick_tokens tree ++ x.rest
  same : found_pick tree x.rest ≡ x

side_of_pick-read : (d : ℕ) (ts : List Token) (r : One) → side_of_pick d ts ≡ Some r → IsPickRead d ts r
unfolding side_of_pick
side_of_pick-read d ts r q = either (after brace_open ts) refl q
  where
    either : (o : Option (List Token)) → after brace_open ts ≡ o → side_of_pick_by d ts o ≡ Some r → IsPickRead d ts r
    either None o q = let p = one-read d ts r q in record { tree = g.bare p.tree; valid = p.valid; high = p.high; parts = p.parts; same = p.same }
    either (Some inside) o q =
        let a = bind_some (one_at d inside) (λ x. after brace_close x.rest >>= λ rest. Some (one_of x.stmt x.height rest)) r q in
        let b = bind_some (after brace_close a.0.rest) (λ rest. Some (one_of a.0.stmt a.0.height rest)) r a.2 in
        let k = after-is brace_open ts inside o in
        let p = one-read d inside a.0 a.1 in
        let z = after-is brace_close a.0.rest b.0 b.1 in
        subst (λ (y : One). IsPickRead d ts y) (some_is _ r b.2) (record {
          tree = g.braced k.0 p.tree z.0;
          valid = p.valid;
          high = p.high;
          parts = k.1 ∙ ap (λ (us : List Token). mark brace_open k.0 ∷ us) (p.parts ∙ ap (λ (us : List Token). g.one_tokens p.tree ++ us) z.1 ∙ sym (append_assoc (g.one_tokens p.tree) (mark brace_close z.0 ∷ []) b.0));
          same = ap (λ (v : One). one_of v.stmt v.height b.0) p.same;
        })

abbrev pick_rest : ℕ → Pos → Scope → List Token → Option Read
pick_rest d p sc ts =
    after round_open ts >>= λ a. after round_close a >>= λ b. after round_close b >>= λ c.
    side_of_pick (d - 1) c >>= λ x. after_key else_key x.rest >>= λ k. side_of_pick (d - 1) k >>= λ y.
    Some (made (s.Pick p x.stmt y.stmt ∷ []) (max x.height y.height + 1) sc y.rest)

pick_rest-read : (u : Unit) (d : ℕ) (m l : Bool) (at o v : At) (sc : Scope) (ts : List Token) (r : Read) → is_client u ≡ true → 2 < d → pick_rest d at.pos sc ts ≡ Some r
    → IsSimpleRead u d m l sc (keyword if_key at ∷ mark round_open o ∷ keyword dsu_updated_key v ∷ ts) r
pick_rest-read u d m l at o v sc ts r client low q =
    let make = λ (x y : One) (rest : List Token). made (s.Pick at.pos x.stmt y.stmt ∷ []) (max x.height y.height + 1) sc rest in
    let f4 = λ (x : One). after_key else_key x.rest >>= λ k. side_of_pick (d - 1) k >>= λ y. Some (make x y y.rest) in
    let a = bind_some (after round_open ts) (λ a. after round_close a >>= λ b. after round_close b >>= λ c. side_of_pick (d - 1) c >>= λ x. f4 x) r q in
    let b = bind_some (after round_close a.0) (λ b. after round_close b >>= λ c. side_of_pick (d - 1) c >>= λ x. f4 x) r a.2 in
    let c = bind_some (after round_close b.0) (λ c. side_of_pick (d - 1) c >>= λ x. f4 x) r b.2 in
    let x = bind_some (side_of_pick (d - 1) c.0) (λ x. f4 x) r c.2 in
    let k = bind_some (after_key else_key x.0.rest) (λ k. side_of_pick (d - 1) k >>= λ y. Some (make x.0 y y.rest)) r x.2 in
    let y = bind_some (side_of_pick (d - 1) k.0) (λ y. Some (make x.0 y y.rest)) r k.2 in
    let pa = after-is round_open ts a.0 a.1 in
    let pb = after-is round_close a.0 b.0 b.1 in
    let pc = after-is round_close b.0 c.0 c.1 in
    let px = side_of_pick-read (d - 1) c.0 x.0 x.1 in
    let pk = after_key-is else_key x.0.rest k.0 k.1 in
    let py = side_of_pick-read (d - 1) k.0 y.0 y.1 in
    subst (λ (z : Read). IsSimpleRead u d m l sc (keyword if_key at ∷ mark round_open o ∷ keyword dsu_updated_key v ∷ ts) z) (some_is _ r y.2) (record {
      tree = g.pick at o v pa.0 pb.0 pc.0 px.tree pk.0 py.tree;
      valid = (client, px.valid, py.valid);
      high = omega (arith, px.high, py.high, low);
      parts = ap (λ (us : List Token). keyword if_key at ∷ mark round_open o ∷ keyword dsu_updated_key v ∷ us) (pa.1 ∙ ap (λ (us : List Token). mark round_open pa.0 ∷ us) (pb.1 ∙ ap (λ (us : List Token). mark round_close pb.0 ∷ us) (pc.1 ∙ ap (λ (us : List Token). mark round_close pc.0 ∷ us)
          (px.parts ∙ ap (λ (us : List Token). g.pick_tokens px.tree ++ us) (pk.1 ∙ ap (λ (us : List Token). keyword else_key pk.0 ∷ us) py.parts) ∙ sym (append_assoc (g.pick_tokens px.tree) (keyword else_key pk.0 ∷ g.pick_tokens py.tree) y.0.rest)))));
      same = ap (λ (z : One). make z (found_pick py.tree y.0.rest) y.0.rest) px.same ∙ ap (λ (z : One). make x.0 z y.0.rest) py.same;
    })

pick-read : (u : Unit) (d : ℕ) (m l : Bool) (at o v : At) (sc : Scope) (ts : List Token) (r : Read) → pick_at u d at.pos sc ts ≡ Some r
    → IsSimpleRead u d m l sc (keyword if_key at ∷ mark round_open o ∷ keyword dsu_updated_key v ∷ ts) r
unfolding pick_at
pick-read u d m l at o v sc ts r q =
    elim (chosen (is_client u) (cond (ltb 2 d) (pick_rest d at.pos sc ts) None) None (Some r) q) [
      | inr h ↦ absurd (let never = h.1 in cc)
      | inl h ↦ elim (chosen (ltb 2 d) (pick_rest d at.pos sc ts) None (Some r) h.1) [
        | inr i ↦ absurd (let never = i.1 in cc)
        | inl i ↦ pick_rest-read u d m l at o v sc ts r h.0 (ltb-true _ _ i.0) i.1
      ]
    ]

-- ---- statements with bodies

pub record IsPieceRead (u : Unit) (d : ℕ) (m l : Bool) (sc : Scope) (ts : List Token) (x : Read) : Type 0 where
  pub tree : g.Piece
  pub valid : g.IsPiece u m l tree
  pub high : g.height tree ≤ d
  pub parts : ts ≡ g.tokens tree ++ x.rest
  pub same : found tree sc x.rest ≡ x
  pub closed : g.is_open tree ≡ true → NoElse x.rest

record IsBodyRead (u : Unit) (d : ℕ) (l : Bool) (sc : Scope) (ts : List Token) (x : Read) : Type 0 where
  tree : g.Body
  valid : g.IsBody u l tree
  high : g.body_height tree ≤ d
  parts : ts ≡ g.body_tokens tree ++ x.rest
  same : found_body tree sc x.rest ≡ x
  closed : g.body_open tree ≡ true → NoElse x.rest

pub record ArePiecesRead (u : Unit) (d : ℕ) (l : Bool) (acc x : Read) : Type 0 where
  pub trees : g.Pieces
  pub valid : g.ArePieces u l trees
  pub high : g.pieces_height trees ≤ d
  pub ends : At
  pub parts : acc.rest ≡ g.pieces_tokens trees ++ mark brace_close ends ∷ x.rest
  pub same : added acc trees x.rest ≡ x

-- a statement without bodies is a statement
whole_simple : (u : Unit) (d : ℕ) (m l : Bool) (sc : Scope) (ts : List Token) (x : Read) → IsSimpleRead u d m l sc ts x → IsPieceRead u (suc d) m l sc ts x
whole_simple u d m l sc ts x p = record { tree = g.simple p.tree; valid = p.valid; high = p.high; parts = p.parts; same = p.same; closed = λ e. absurd cc }

abbrev pub Reads : Unit → (Bool → Bool → Scope → List Token → Option Read) → ℕ → Type 0
Reads u inner d = (m l : Bool) (sc : Scope) (ts : List Token) (x : Read) → inner m l sc ts ≡ Some x → IsPieceRead u d m l sc ts x

module _ (u : Unit) (inner : Bool → Bool → Scope → List Token → Option Read) (d : ℕ) (reads : Reads u inner d) where
  if_only-read : (m l : Bool) (at : At) (sc : Scope) (ts : List Token) (c : Found) (y : Read) → IsCondRead d ts c → IsBodyRead u d l sc c.rest y → NoElse y.rest → IsPieceRead u (suc d) m l sc (keyword if_key at ∷ ts) (if_only at.pos c y)
  if_only-read m l at sc ts c y p b free = record {
    tree = g.if_only at p.tree b.tree;
    valid = (p.valid, b.valid);
    high = omega (arith, p.high, b.high);
    parts = ap (λ (t : List Token). keyword if_key at ∷ t) (p.parts ∙ ap (λ (t : List Token). g.cond_tokens p.tree ++ t) b.parts ∙ sym (append_assoc (g.cond_tokens p.tree) (g.body_tokens b.tree) y.rest));
    same = ap (λ (x : Found). if_only at.pos x (found_body b.tree sc y.rest)) (p.same) ∙ ap (λ (x : Read). if_only at.pos c x) b.same;
    closed = λ e. free;
  }

  while-read : (m l : Bool) (at : At) (sc : Scope) (ts : List Token) (c : Found) (y : Read) → IsCondRead d ts c → IsBodyRead u d true sc c.rest y → IsPieceRead u (suc d) m l sc (keyword while_key at ∷ ts) (while_loop at.pos c y)
  while-read m l at sc ts c y p b = record {
    tree = g.while_loop at p.tree b.tree;
    valid = (p.valid, b.valid);
    high = omega (arith, p.high, b.high);
    parts = ap (λ (t : List Token). keyword while_key at ∷ t) (p.parts ∙ ap (λ (t : List Token). g.cond_tokens p.tree ++ t) b.parts ∙ sym (append_assoc (g.cond_tokens p.tree) (g.body_tokens b.tree) y.rest));
    same = ap (λ (x : Found). while_loop at.pos x (found_body b.tree sc y.rest)) (p.same) ∙ ap (λ (x : Read). while_loop at.pos c x) b.same;
    closed = b.closed;
  }

  not_open : (b : Bool) (rest more : List Token) → (b ≡ true → NoElse rest) → after_key else_key rest ≡ Some more → b ≡ false
  not_open true rest more f q = let none = f refl in absurd cc
  not_open false rest more f q = refl

  else-read : (m l : Bool) (at : At) (sc : Scope) (ts rest : List Token) (c : Found) (y z : Read) → IsCondRead d ts c → IsBodyRead u d l sc c.rest y → after_key else_key y.rest ≡ Some rest → IsBodyRead u d l y.scope rest z
      → IsPieceRead u (suc d) m l sc (keyword if_key at ∷ ts) (if_else at.pos c y.stmts y.height z)
  else-read m l at sc ts rest c y z p b k n =
      let el = after_key-is else_key y.rest rest k in
      let word = keyword else_key el.0 in
      let moved : found_body n.tree (g.body_scope b.tree sc) z.rest ≡ z = ap (λ (x : Read). found_body n.tree x.scope z.rest) b.same ∙ n.same in
      record {
        tree = g.if_else at p.tree b.tree el.0 n.tree;
        valid = (p.valid, b.valid, not_open (g.body_open b.tree) y.rest rest b.closed k, n.valid);
        high = omega (arith, p.high, b.high, n.high);
        parts = ap (λ (t : List Token). keyword if_key at ∷ t) (p.parts ∙ ap (λ (t : List Token). g.cond_tokens p.tree ++ t) (b.parts ∙ ap (λ (t : List Token). g.body_tokens b.tree ++ t) (el.1 ∙ ap (λ (t : List Token). word ∷ t) n.parts) ∙ sym (append_assoc (g.body_tokens b.tree) (word ∷ g.body_tokens n.tree) z.rest)) ∙ sym (append_assoc (g.cond_tokens p.tree) (g.body_tokens b.tree ++ (word ∷ g.body_tokens n.tree)) z.rest));
        same = ap (λ (x : Found). if_else at.pos x (g.body_stmts b.tree sc) (g.body_height b.tree) (found_body n.tree (g.body_scope b.tree sc) z.rest)) p.same
            ∙ ap (λ (x : Read). if_else at.pos c x.stmts x.height (found_body n.tree (g.body_scope b.tree sc) z.rest)) b.same ∙ ap (λ (x : Read). if_else at.pos c y.stmts y.height x) moved;
        closed = n.closed;
      }

  none-read : (l : Bool) (acc x : Read) (rest : List Token) → after brace_close acc.rest ≡ Some rest → made acc.stmts acc.height acc.scope rest ≡ x → ArePiecesRead u d l acc x
  none-read l acc x rest k q =
      let z = after-is brace_close acc.rest rest k in
      subst (λ (y : Read). ArePiecesRead u d l acc y) q (record {
        trees = g.none;
        valid = tt;
        high = omega arith;
        ends = z.0;
        parts = z.1;
        same = ap (λ (s : List Stmt). made s (max acc.height 0) acc.scope rest) (append-nil acc.stmts) ∙ ap (λ (n : ℕ). made acc.stmts n acc.scope rest) (omega arith);
      })

  more-read : (l : Bool) (acc y x : Read) → IsPieceRead u d true l acc.scope acc.rest y → ArePiecesRead u d l (chain acc y) x → ArePiecesRead u d l acc x
  more-read l acc y x p q =
      let t = p.tree in
      let ts = q.trees in
      let make = λ (stmts : List Stmt) (n : ℕ). made stmts n (g.pieces_scope ts (g.scope_after t acc.scope)) x.rest in
      let later = g.pieces_stmts ts (g.scope_after t acc.scope) in
      record {
        trees = g.next t ts;
        valid = (p.valid, q.valid);
        high = omega (arith, p.high, q.high);
        ends = q.ends;
        parts = p.parts ∙ ap (λ (r : List Token). g.tokens t ++ r) q.parts ∙ sym (append_assoc (g.tokens t) (g.pieces_tokens ts) (mark brace_close q.ends ∷ x.rest));
        same = ap (λ (stmts : List Stmt). make stmts (max acc.height (max (g.height t) (g.pieces_height ts)))) (sym (append_assoc acc.stmts (g.stmts t acc.scope) later))
            ∙ ap (λ (n : ℕ). make ((acc.stmts ++ g.stmts t acc.scope) ++ later) n) (omega arith)
            ∙ ap (λ (r : Read). added (chain acc r) ts x.rest) p.same ∙ q.same;
      }

  pub pieces-read : (k : ℕ) (l : Bool) (acc x : Read) → items inner d k l acc ≡ Some x → ArePiecesRead u d l acc x
  unfolding items
  pieces-read zero l acc x q = absurd cc
  pieces-read (suc k) l acc x q = turn-read l acc x (items inner d k l) (λ a r. pieces-read k l a x r) (after brace_close acc.rest) refl q
    where
      turn-read : (l : Bool) (acc x : Read) (go : Read → Option Read) (ih : (a : Read) → go a ≡ Some x → ArePiecesRead u d l a x) (o : Option (List Token)) → after brace_close acc.rest ≡ o → items_by inner d go l acc o ≡ Some x → ArePiecesRead u d l acc x
      turn-read l acc x go ih (Some rest) k q = none-read l acc x rest k (some_is _ x q)
      turn-read l acc x go ih None k q =
          let a = bind_some (inner true l acc.scope acc.rest) (λ y. go (chain acc y)) x q in
          more-read l acc a.0 x (reads true l acc.scope acc.rest a.0 a.1) (ih (chain acc a.0) a.2)

  body-read : (l : Bool) (sc : Scope) (ts : List Token) (x : Read) → body inner d l sc ts ≡ Some x → IsBodyRead u d l sc ts x
  unfolding body
  body-read l sc ts x q = either l sc ts x (after brace_open ts) refl q
    where
      either : (l : Bool) (sc : Scope) (ts : List Token) (x : Read) (o : Option (List Token)) → after brace_open ts ≡ o → body_by inner d l sc ts o ≡ Some x → IsBodyRead u d l sc ts x
      either l sc ts x None k q = let p = reads false l sc ts x q in record { tree = g.single p.tree; valid = p.valid; high = p.high; parts = p.parts; same = p.same; closed = p.closed }
      either l sc ts x (Some inside) k q =
          let o = after-is brace_open ts inside k in
          let p = pieces-read (length inside + 1) l (nothing sc inside) x q in
          record {
            tree = g.block o.0 p.trees p.ends;
            valid = p.valid;
            high = p.high;
            parts = o.1 ∙ ap (λ (r : List Token). mark brace_open o.0 ∷ r) (p.parts ∙ sym (append_assoc (g.pieces_tokens p.trees) (mark brace_close p.ends ∷ []) x.rest));
            same = ap (λ (n : ℕ). made (g.pieces_stmts p.trees sc) n (g.pieces_scope p.trees sc) x.rest) (omega arith) ∙ p.same;
            closed = λ e. absurd cc;
          }

  branch-read : (m l : Bool) (at : At) (sc : Scope) (ts : List Token) (x : Read) → branch inner d l at.pos sc ts ≡ Some x → IsPieceRead u (suc d) m l sc (keyword if_key at ∷ ts) x
  unfolding branch
  branch-read m l at sc ts x q =
      let a = bind_some (condition d ts) (λ c. body inner d l sc c.rest >>= λ y. else_by inner d l at.pos c y (after_key else_key y.rest)) x q in
      let b = bind_some (body inner d l sc a.0.rest) (λ y. else_by inner d l at.pos a.0 y (after_key else_key y.rest)) x a.2 in
      either m l at sc ts x a.0 b.0 (cond-read d ts a.0 a.1) (body-read l sc a.0.rest b.0 b.1) (after_key else_key b.0.rest) refl b.2
    where
      either : (m l : Bool) (at : At) (sc : Scope) (ts : List Token) (x : Read) (c : Found) (y : Read) → IsCondRead d ts c → IsBodyRead u d l sc c.rest y → (o : Option (List Token)) → after_key else_key y.rest ≡ o
          → else_by inner d l at.pos c y o ≡ Some x → IsPieceRead u (suc d) m l sc (keyword if_key at ∷ ts) x
      either m l at sc ts x c y p b None k q = subst (λ (r : Read). IsPieceRead u (suc d) m l sc (keyword if_key at ∷ ts) r) (some_is _ x q) (if_only-read m l at sc ts c y p b k)
      either m l at sc ts x c y p b (Some rest) k q =
          let n = bind_some (body inner d l y.scope rest) (λ z. Some (if_else at.pos c y.stmts y.height z)) x q in
          subst (λ (r : Read). IsPieceRead u (suc d) m l sc (keyword if_key at ∷ ts) r) (some_is _ x n.2) (else-read m l at sc ts rest c y n.0 p b k (body-read l y.scope rest n.0 n.1))

  if_by-read : (m l : Bool) (at : At) (sc : Scope) (ts : List Token) (x : Read) (o : Option (List Token)) → updated_at ts ≡ o → if_by inner d u l at.pos sc ts o ≡ Some x → IsPieceRead u (suc d) m l sc (keyword if_key at ∷ ts) x
  if_by-read m l at sc ts x None o q = branch-read m l at sc ts x q
  if_by-read m l at sc ts x (Some rest) o q =
      let a = bind_some (after round_open ts) (λ inside. after_key dsu_updated_key inside) rest o in
      let p = after-is round_open ts a.0 a.1 in
      let v = after_key-is dsu_updated_key a.0 rest a.2 in
      let split : ts ≡ mark round_open p.0 ∷ keyword dsu_updated_key v.0 ∷ rest = p.1 ∙ ap (λ (us : List Token). mark round_open p.0 ∷ us) v.1 in
      subst (λ (us : List Token). IsPieceRead u (suc d) m l sc (keyword if_key at ∷ us) x) (sym split)
      (whole_simple u d m l sc (keyword if_key at ∷ mark round_open p.0 ∷ keyword dsu_updated_key v.0 ∷ rest) x (pick-read u d m l at p.0 v.0 sc rest x q))

  repeat-read : (m l : Bool) (at : At) (sc : Scope) (ts : List Token) (x : Read) → repeat inner d at.pos sc ts ≡ Some x → IsPieceRead u (suc d) m l sc (keyword while_key at ∷ ts) x
  unfolding repeat
  repeat-read m l at sc ts x q =
      let a = bind_some (condition d ts) (λ c. body inner d true sc c.rest >>= λ y. Some (while_loop at.pos c y)) x q in
      let b = bind_some (body inner d true sc a.0.rest) (λ y. Some (while_loop at.pos a.0 y)) x a.2 in
      subst (λ (r : Read). IsPieceRead u (suc d) m l sc (keyword while_key at ∷ ts) r) (some_is _ x b.2) (while-read m l at sc ts a.0 b.0 (cond-read d ts a.0 a.1) (body-read true sc a.0.rest b.0 b.1))

  break-read : (m : Bool) (at : At) (sc : Scope) (ts : List Token) (x : Read) → done (s.Break at.pos ∷ []) 1 sc ts ≡ Some x → IsPieceRead u (suc d) m true sc (keyword break_key at ∷ ts) x
  break-read m at sc ts x q =
      let z = done-is (s.Break at.pos ∷ []) 1 sc ts x q in
      record { tree = g.simple (g.break_loop at z.0.end); valid = refl; high = omega arith; parts = ap (λ (t : List Token). keyword break_key at ∷ t) z.0.split; same = z.1; closed = λ e. absurd cc }

  if_true : (P : Bool → Type 0) (b : Bool) (y : Option Read) (x : Read) → cond b y None ≡ Some x → (y ≡ Some x → P true) → P b
  if_true P true y x q f = f q
  if_true P false y x q f = absurd cc

  key-read : (m l : Bool) (at : At) (sc : Scope) (k : ℕ) (ts : List Token) (x : Read) → key_stmt inner d u m l at.pos sc k ts ≡ Some x → IsPieceRead u (suc d) m l sc (keyword k at ∷ ts) x
  key-read m l at sc k ts x q =
      let P = λ (n : ℕ). IsPieceRead u (suc d) m l sc (keyword n at ∷ ts) x in
      let others = keyword_stmt u d at.pos sc k ts in
      let broken = cond (eqb k break_key) (cond l (done (s.Break at.pos ∷ []) 1 sc ts) None) others in
      let declared = cond (eqb k int_key) (cond m (declaration u d at.pos sc ts) None) broken in
      let repeated = cond (eqb k while_key) (repeat inner d at.pos sc ts) declared in
      elim (chosen (eqb k if_key) (if_by inner d u l at.pos sc ts (updated_at ts)) repeated (Some x) q) [
        | inl h ↦ subst P (sym (eqb-true k if_key h.0)) (if_by-read m l at sc ts x (updated_at ts) refl h.1)
        | inr h ↦ elim (chosen (eqb k while_key) (repeat inner d at.pos sc ts) declared (Some x) h.1) [
          | inl i ↦ subst P (sym (eqb-true k while_key i.0)) (repeat-read m l at sc ts x i.1)
          | inr i ↦ elim (chosen (eqb k int_key) (cond m (declaration u d at.pos sc ts) None) broken (Some x) i.1) [
            | inl j ↦ subst P (sym (eqb-true k int_key j.0))
                (if_true (λ v. IsPieceRead u (suc d) v l sc (keyword int_key at ∷ ts) x) m (declaration u d at.pos sc ts) x j.1 (λ y. whole_simple u d true l sc (keyword int_key at ∷ ts) x (declaration-read u d l at sc ts x y)))
            | inr j ↦ elim (chosen (eqb k break_key) (cond l (done (s.Break at.pos ∷ []) 1 sc ts) None) others (Some x) j.1) [
              | inl f ↦ subst P (sym (eqb-true k break_key f.0))
                  (if_true (λ v. IsPieceRead u (suc d) m v sc (keyword break_key at ∷ ts) x) l (done (s.Break at.pos ∷ []) 1 sc ts) x f.1 (λ y. break-read m at sc ts x y))
              | inr f ↦ whole_simple u d m l sc (keyword k at ∷ ts) x (keyword-read u d m l at sc k ts x f.1)
            ]
          ]
        ]
      ]

  skip-read : (m l : Bool) (at : At) (sc : Scope) (k : ℕ) (ts : List Token) (x : Read) → stmt_by inner d u m l at.pos sc (w.Punct k) ts ≡ Some x → IsPieceRead u (suc d) m l sc (mark k at ∷ ts) x
  skip-read m l at sc k ts x q =
      elim (chosen (eqb k semicolon) (Some (made (s.Skip at.pos ∷ []) 1 sc ts)) None (Some x) q) [
        | inl h ↦ subst (λ (n : ℕ). IsPieceRead u (suc d) m l sc (mark n at ∷ ts) x) (sym (eqb-true k semicolon h.0))
            (subst (λ (r : Read). IsPieceRead u (suc d) m l sc (mark semicolon at ∷ ts) r) (some_is _ x h.1) (record { tree = g.simple (g.skip at); valid = tt; high = omega arith; parts = refl; same = refl; closed = λ e. absurd cc }))
        | inr h ↦ absurd (let never = h.1 in cc)
      ]

  stmt_by-read : (m l : Bool) (at : At) (sc : Scope) (what : Word) (ts : List Token) (x : Read) → stmt_by inner d u m l at.pos sc what ts ≡ Some x → IsPieceRead u (suc d) m l sc (token at what ∷ ts) x
  stmt_by-read m l at sc (w.Punct k) ts x q = skip-read m l at sc k ts x q
  stmt_by-read m l at sc (w.Ident y) ts x q = whole_simple u d m l sc (token at (w.Ident y) ∷ ts) x (named-read u d m l at y sc ts x q)
  stmt_by-read m l at sc (w.Key k) ts x q = key-read m l at sc k ts x q
  stmt_by-read m l at sc (w.Number n) ts x q = absurd cc

  stmt_at-read : (m l : Bool) (sc : Scope) (ts : List Token) (x : Read) → stmt_at inner d u m l sc ts ≡ Some x → IsPieceRead u (suc d) m l sc ts x
  unfolding stmt_at
  stmt_at-read m l sc [] x q = absurd cc
  stmt_at-read m l sc (t ∷ ts) x q = stmt_by-read m l (at_of t) sc t.what ts x q

-- what is read is in the grammar
pub reads_pieces_only : (u : Unit) (d : ℕ) → Reads u (stmt u d) d
unfolding stmt
reads_pieces_only u zero m l sc ts x q = absurd cc
reads_pieces_only u (suc d) m l sc ts x q = stmt_at-read u (stmt u d) d (reads_pieces_only u d) m l sc ts x q
