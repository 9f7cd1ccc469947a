-- Right sides, conditions and pointers that are read are in the grammar.
use Rattle.std.specs.Prelude.{⊤}
use Rattle.std.proofs.Common.{◌≡◌, ℕ, ℤ, pos, ◌+◌, ◌-◌, ◌<◌, ◌≤◌, cond, ltb, eqb, max, min, true, List, [], ◌∷◌, ◌++◌, length, map, Option, Some, None, refl, sym, ap, ◌∙◌, subst, append_assoc, arith, inl, inr}
use Rattle.std.proofs.lemmas.Bool.{ltb-true, eqb-true}
use Rattle.c_lang.specs.Names.{Bytes}
use Rattle.c_lang.specs.declared.unit.Unit.{Unit}
use Rattle.c_lang.specs.declared.expr.Expr.{Expr}
use Rattle.c_grammar.specs.declared.token.Token.{Token}
use Rattle.c_grammar.specs.declared.token.Word.{Word}
use Rattle.c_grammar.specs.declared.token.Word.TheVariants as w
use Rattle.c_grammar.specs.declared.right.Call.TheVariants as call
use Rattle.c_grammar.specs.declared.right.Right.TheVariants as right
use Rattle.c_grammar.specs.Tokens.{At, token, mark, keyword, round_open, round_close, star, client_in_key, dsu_choice_key, int_key, void_key}
use Rattle.c_grammar.specs.Separated.{Separated, last, more, parts_of, separated_tokens, Each}
use Rattle.c_grammar.specs.Scopes.{is_merge}
use Rattle.c_expressions.specs.Code.ParseSteps.{◌>>=◌, after, key_by, after_key, named, name_at, natural, numbered, number_at, separated}
use Rattle.c_grammar.specs.Expressions.{Tree, tokens_of, expr_of, IsGrouped}
use Rattle.c_grammar.specs.Expressions as e
use Rattle.c_expressions.specs.Code.ExpressionReading.{Found, expr}
use Rattle.c_grammar.specs.Statements as g
use Rattle.c_expressions.specs.Code.SideReading.{Args, argument, with_argument, no_args, close_call, call_by, Called, call_at, input_at, choice_at, Side, value_at, called, named_side, side_by, right_side, condition, Pointer, count_int, ints_by, ints_at, pointer_at}
use Rattle.c_expressions.proofs.OperatorLaws.{chosen}
use Rattle.c_expressions.proofs.ExpressionSound.{bind_some, some_is, after-is, at_of, reads_trees}
use Rattle.c_expressions.proofs.ExpressionComplete.{found as found_expr}
use Rattle.c_expressions.proofs.SeparatedLaws.{IsPart, parts_read}
use Rattle.c_expressions.proofs.SideComplete.{Fits, add_argument, added_are, found_call, found_side, count_part, counted_are}

-- ---- single tokens

key_by-is : (key : ℕ) (what : Word) (ts rest : List Token) → key_by key what ts ≡ Some rest → (what ≡ w.Key key) × (ts ≡ rest)
key_by-is key (w.Key k) ts rest q =
    elim (chosen (eqb k key) (Some ts) None (Some rest) q) [
      | inl h ↦ (ap w.Key (eqb-true k key h.0), some_is ts rest h.1)
      | inr h ↦ absurd (let f = h.1 in cc)
    ]
key_by-is key (w.Number n) ts rest q = absurd cc
key_by-is key (w.Ident n) ts rest q = absurd cc
key_by-is key (w.Punct n) ts rest q = absurd cc

pub after_key-is : (key : ℕ) (ts rest : List Token) → after_key key ts ≡ Some rest → (at : At) × (ts ≡ keyword key at ∷ rest)
after_key-is key [] rest q = absurd cc
after_key-is key (t ∷ ts) rest q =
    let p = key_by-is key t.what ts rest q in
    (at_of t, ap (λ (x : Word). token (at_of t) x ∷ ts) p.0 ∙ ap (λ (r : List Token). keyword key (at_of t) ∷ r) p.1)

named-is : (what : Word) (x : Bytes) → named what ≡ Some x → what ≡ w.Ident x
named-is (w.Ident y) x q = ap w.Ident (some_is y x q)
named-is (w.Number n) x q = absurd cc
named-is (w.Punct n) x q = absurd cc
named-is (w.Key n) x q = absurd cc

pub name_at-is : (ts : List Token) (x : Bytes × List Token) → name_at ts ≡ Some x → (at : At) × (ts ≡ token at (w.Ident x.0) ∷ x.1)
name_at-is [] x q = absurd cc
name_at-is (t ∷ ts) x q =
    let a = bind_some (named t.what) (λ y. Some (y, ts)) x q in
    let same : (a.0, ts) ≡ x = some_is (a.0, ts) x a.2 in
    (at_of t, ap (λ (k : Word). token (at_of t) k ∷ ts) (named-is t.what a.0 a.1) ∙ ap (λ (y : Bytes × List Token). token (at_of t) (w.Ident y.0) ∷ y.1) same)

natural-is : (z : ℤ) (n : ℕ) → natural z ≡ Some n → z ≡ pos n
natural-is (pos m) n q = ap pos (some_is m n q)
natural-is z n q = absurd cc

numbered-is : (what : Word) (n : ℕ) → numbered what ≡ Some n → what ≡ w.Number (pos n)
numbered-is (w.Number z) n q = ap w.Number (natural-is z n q)
numbered-is (w.Ident y) n q = absurd cc
numbered-is (w.Punct k) n q = absurd cc
numbered-is (w.Key k) n q = absurd cc

pub number_at-is : (ts : List Token) (x : ℕ × List Token) → number_at ts ≡ Some x → (at : At) × (ts ≡ token at (w.Number (pos x.0)) ∷ x.1)
number_at-is [] x q = absurd cc
number_at-is (t ∷ ts) x q =
    let a = bind_some (numbered t.what) (λ y. Some (y, ts)) x q in
    let same : (a.0, ts) ≡ x = some_is (a.0, ts) x a.2 in
    (at_of t, ap (λ (k : Word). token (at_of t) k ∷ ts) (numbered-is t.what a.0 a.1) ∙ ap (λ (y : ℕ × List Token). token (at_of t) (w.Number (pos y.0)) ∷ y.1) same)

-- ---- calls

abbrev args_of : List Expr → ℕ → Args
args_of es n = record { exprs = es; height = n }

one_argument-read : (d : ℕ) (acc : Args) (ts : List Token) (x : Args × List Token) → argument d acc ts ≡ Some x → IsPart (argument d) tokens_of add_argument (Fits d) acc ts x
one_argument-read d acc ts x q =
    let a = bind_some (expr d 1 ts) (λ y. Some (with_argument acc y, y.rest)) x q in
    let p = (reads_trees d 1 ts a.0 (omega arith) a.1).part in
    subst (λ (y : Args × List Token). IsPart (argument d) tokens_of add_argument (Fits d) acc ts y) (some_is _ x a.2) (record {
      part = p.tree;
      valid = (p.grouped, p.high);
      split = p.parts;
      same = ap (λ (y : Expr). args_of (acc.exprs ++ y ∷ []) (max acc.height (e.height p.tree))) p.program ∙ ap (λ (n : ℕ). args_of (acc.exprs ++ a.0.expr ∷ []) (max acc.height n)) (sym p.height_is);
    })

all_grouped : (d : ℕ) (ts : Separated Tree) → Each (Fits d) ts → Each IsGrouped ts × (g.tallest ts ≤ d)
all_grouped d (last t) h = h
all_grouped d (more t at ts) h = let later = all_grouped d ts h.1 in ((h.0.0, later.0), omega (arith, h.0.1, later.1))

abbrev called_of : Bytes → List Expr → ℕ → List Token → Called
called_of f es n rest = record { call = call.Function f es; height = n; rest = rest }

-- behind the opening bracket
pub record AreArgsRead (d : ℕ) (f : Bytes) (ts : List Token) (c : Called) : Type 0 where
  pub arguments : g.Arguments
  pub valid : g.AreArguments arguments
  pub high : g.part_height arguments + 1 ≤ d
  pub closes : At
  pub parts : ts ≡ g.argument_tokens arguments ++ (mark round_close closes ∷ c.rest)
  pub same : record { call = call.Function f (g.exprs_of arguments); height = g.part_height arguments + 1; rest = c.rest } ≡ c

given-read : (d : ℕ) (f : Bytes) (ts : List Token) (c : Called) → 1 < d → (separated (argument (d - 1)) (length ts + 1) no_args ts >>= close_call f) ≡ Some c → AreArgsRead d f ts c
given-read d f ts c low q =
    let a = bind_some (separated (argument (d - 1)) (length ts + 1) no_args ts) (close_call f) c q in
    let b = bind_some (after round_close a.0.1) (λ rest. Some (called_of f a.0.0.exprs (a.0.0.height + 1) rest)) c a.2 in
    let r = parts_read (argument (d - 1)) tokens_of add_argument (Fits (d - 1)) (one_argument-read (d - 1)) (length ts + 1) no_args ts a.0 a.1 in
    let z = after-is round_close a.0.1 b.0 b.1 in
    let fit = all_grouped (d - 1) r.parts r.valid in
    let sum : args_of (map expr_of (parts_of r.parts)) (max 1 (g.tallest r.parts)) ≡ a.0.0 = sym (added_are r.parts no_args) ∙ r.same in
    subst (λ (y : Called). AreArgsRead d f ts y) (some_is _ c b.2) (record {
      arguments = g.given r.parts;
      valid = fit.0;
      high = omega (arith, fit.1);
      closes = z.0;
      parts = r.split ∙ ap (λ (us : List Token). separated_tokens tokens_of r.parts ++ us) z.1;
      same = ap (λ (x : Args). called_of f x.exprs (x.height + 1) b.0) sum;
    })

call_at-read : (d : ℕ) (f : Bytes) (ts : List Token) (c : Called) → call_at d f ts ≡ Some c → AreArgsRead d f ts c
unfolding call_at
call_at-read d f ts c q =
    elim (chosen (ltb 1 d) (call_by (d - 1) f ts (after round_close ts)) None (Some c) q) [
      | inl h ↦ either (ltb-true _ _ h.0) (after round_close ts) refl h.1
      | inr h ↦ absurd (let never = h.1 in cc)
    ]
  where
    either : 1 < d → (o : Option (List Token)) → after round_close ts ≡ o → call_by (d - 1) f ts o ≡ Some c → AreArgsRead d f ts c
    either low None o q = given-read d f ts c low q
    either low (Some rest) o q =
        let z = after-is round_close ts rest o in
        subst (λ (y : Called). AreArgsRead d f ts y) (some_is _ c q) (record { arguments = g.nothing; valid = tt; high = omega (arith, low); closes = z.0; parts = z.1; same = refl })

-- a call that begins at this place
pub record IsCallRead (u : Unit) (d : ℕ) (at : At) (ts : List Token) (c : Called) : Type 0 where
  pub tree : g.CallTree
  pub begins : g.call_pos tree ≡ at.pos
  pub valid : g.IsCall u tree
  pub high : g.call_height tree ≤ d
  pub parts : ts ≡ g.call_tokens tree ++ c.rest
  pub same : found_call tree c.rest ≡ c

pub function-read : (d : ℕ) (at : At) (f : Bytes) (ts inside : List Token) (c : Called) → after round_open ts ≡ Some inside → call_at d f inside ≡ Some c
    → (arguments : g.Arguments) × (opens : At) × (closes : At) × g.AreArguments arguments × (g.part_height arguments + 1 ≤ d)
    × (token at (w.Ident f) ∷ ts ≡ g.function_call_tokens (record { at = at; callee = f; opens = opens; arguments = arguments; closes = closes }) ++ c.rest)
    × (record { call = call.Function f (g.exprs_of arguments); height = g.part_height arguments + 1; rest = c.rest } ≡ c)
function-read d at f ts inside c o q =
    let a = call_at-read d f inside c q in
    let p = after-is round_open ts inside o in (
      a.arguments,
      p.0,
      a.closes,
      a.valid,
      a.high,
      ap (λ (us : List Token). token at (w.Ident f) ∷ us) (p.1 ∙ ap (λ (us : List Token). mark round_open p.0 ∷ us) (a.parts ∙ sym (append_assoc (g.argument_tokens a.arguments) (mark round_close a.closes ∷ []) c.rest))),
      a.same,
    )

pub named_call-read : (u : Unit) (d : ℕ) (at : At) (f : Bytes) (ts inside : List Token) (c : Called) → after round_open ts ≡ Some inside → call_at d f inside ≡ Some c → IsCallRead u d at (token at (w.Ident f) ∷ ts) c
named_call-read u d at f ts inside c o q =
    let r = function-read d at f ts inside c o q in
    record { begins = refl; tree = g.function (record { at = at; callee = f; opens = r.1; arguments = r.0; closes = r.2 }); valid = r.3; high = r.4; parts = r.5; same = r.6 }

abbrev input_of : List Token → Called
input_of rest = record { call = call.Input; height = 1; rest = rest }

pub input-read : (u : Unit) (d : ℕ) (at : At) (ts : List Token) (c : Called) → input_at d ts ≡ Some c → IsCallRead u d at (keyword client_in_key at ∷ ts) c
unfolding input_at
input-read u d at ts c q =
    elim (chosen (ltb 0 d) (after round_open ts >>= λ inside. after round_close inside >>= λ rest. Some (input_of rest)) None (Some c) q) [
      | inr h ↦ absurd (let never = h.1 in cc)
      | inl h ↦
          let a = bind_some (after round_open ts) (λ inside. after round_close inside >>= λ rest. Some (input_of rest)) c h.1 in
          let b = bind_some (after round_close a.0) (λ rest. Some (input_of rest)) c a.2 in
          let o = after-is round_open ts a.0 a.1 in
          let z = after-is round_close a.0 b.0 b.1 in
          subst (λ (y : Called). IsCallRead u d at (keyword client_in_key at ∷ ts) y) (some_is _ c b.2) (record {
            tree = g.input at o.0 z.0;
            begins = refl;
            valid = tt;
            high = omega (arith, ltb-true _ _ h.0);
            parts = ap (λ (us : List Token). keyword client_in_key at ∷ us) (o.1 ∙ ap (λ (us : List Token). mark round_open o.0 ∷ us) z.1);
            same = refl;
          })
    ]

abbrev choice_of : ℕ → List Token → Called
choice_of k rest = record { call = call.Choice k; height = 2; rest = rest }

choice_rest-read : (u : Unit) (d : ℕ) (at : At) (ts : List Token) (c : Called) → is_merge u ≡ true → 1 < d
    → (after round_open ts >>= λ inside. number_at inside >>= λ n. after round_close n.1 >>= λ rest. Some (choice_of n.0 rest)) ≡ Some c → IsCallRead u d at (keyword dsu_choice_key at ∷ ts) c
choice_rest-read u d at ts c merge low q =
    let a = bind_some (after round_open ts) (λ inside. number_at inside >>= λ n. after round_close n.1 >>= λ rest. Some (choice_of n.0 rest)) c q in
    let n = bind_some (number_at a.0) (λ n. after round_close n.1 >>= λ rest. Some (choice_of n.0 rest)) c a.2 in
    let b = bind_some (after round_close n.0.1) (λ rest. Some (choice_of n.0.0 rest)) c n.2 in
    let o = after-is round_open ts a.0 a.1 in
    let k = number_at-is a.0 n.0 n.1 in
    let z = after-is round_close n.0.1 b.0 b.1 in
    subst (λ (y : Called). IsCallRead u d at (keyword dsu_choice_key at ∷ ts) y) (some_is _ c b.2) (record {
      tree = g.choice at o.0 k.0 n.0.0 z.0;
      begins = refl;
      valid = merge;
      high = omega (arith, low);
      parts = ap (λ (us : List Token). keyword dsu_choice_key at ∷ us) (o.1 ∙ ap (λ (us : List Token). mark round_open o.0 ∷ us) (k.1 ∙ ap (λ (us : List Token). token k.0 (w.Number (pos n.0.0)) ∷ us) z.1));
      same = refl;
    })

pub choice-read : (u : Unit) (d : ℕ) (at : At) (ts : List Token) (c : Called) → choice_at u d ts ≡ Some c → IsCallRead u d at (keyword dsu_choice_key at ∷ ts) c
unfolding choice_at
choice-read u d at ts c q =
    let inside = after round_open ts >>= λ inside. number_at inside >>= λ n. after round_close n.1 >>= λ rest. Some (choice_of n.0 rest) in
    elim (chosen (is_merge u) (cond (ltb 1 d) inside None) None (Some c) q) [
      | inr h ↦ absurd (let never = h.1 in cc)
      | inl h ↦ elim (chosen (ltb 1 d) inside None (Some c) h.1) [
        | inr i ↦ absurd (let never = i.1 in cc)
        | inl i ↦ choice_rest-read u d at ts c h.0 (ltb-true _ _ i.0) i.1
      ]
    ]

-- ---- right sides and conditions

abbrev side_of : Expr → ℕ → List Token → Side
side_of a n rest = record { right = right.Value a; height = n; rest = rest }

pub record IsSideRead (u : Unit) (d : ℕ) (ts : List Token) (y : Side) : Type 0 where
  pub side : g.SideTree
  pub valid : g.IsSide u side
  pub high : g.side_height side ≤ d
  pub parts : ts ≡ g.side_tokens side ++ y.rest
  pub same : found_side side y.rest ≡ y

value-read : (u : Unit) (d : ℕ) (ts : List Token) (y : Side) → value_at d ts ≡ Some y → IsSideRead u d ts y
value-read u d ts y q =
    let a = bind_some (expr d 1 ts) (λ x. Some (side_of x.expr x.height x.rest)) y q in
    let p = (reads_trees d 1 ts a.0 (omega arith) a.1).part in
    subst (λ (z : Side). IsSideRead u d ts z) (some_is _ y a.2) (record {
      side = g.value p.tree;
      valid = p.grouped;
      high = p.high;
      parts = p.parts;
      same = ap (λ (x : Expr). side_of x (e.height p.tree) a.0.rest) p.program ∙ ap (λ (n : ℕ). side_of a.0.expr n a.0.rest) (sym p.height_is);
    })

abbrev side_called : Called → Side
side_called x = record { right = right.Call x.call; height = x.height; rest = x.rest }

called-read : (u : Unit) (d : ℕ) (at : At) (ts : List Token) (r : Option Called) (y : Side) → ((c : Called) → r ≡ Some c → IsCallRead u d at ts c) → called r ≡ Some y → IsSideRead u d ts y
called-read u d at ts r y read q =
    let a = bind_some r (λ x. Some (side_called x)) y q in
    let p = read a.0 a.1 in
    subst (λ (z : Side). IsSideRead u d ts z) (some_is _ y a.2) (record { side = g.called p.tree; valid = p.valid; high = p.high; parts = p.parts; same = ap side_called p.same })

named_side-read : (u : Unit) (d : ℕ) (at : At) (f : Bytes) (ts : List Token) (y : Side) (o : Option (List Token)) → after round_open ts ≡ o → named_side d f (token at (w.Ident f) ∷ ts) o ≡ Some y → IsSideRead u d (token at (w.Ident f) ∷ ts) y
named_side-read u d at f ts y None o q = value-read u d (token at (w.Ident f) ∷ ts) y q
named_side-read u d at f ts y (Some inside) o q = called-read u d at (token at (w.Ident f) ∷ ts) (call_at d f inside) y (λ c e. named_call-read u d at f ts inside c o e) q

key_side-read : (u : Unit) (d : ℕ) (at : At) (k : ℕ) (ts : List Token) (y : Side) → side_by u d (w.Key k) ts (keyword k at ∷ ts) ≡ Some y → IsSideRead u d (keyword k at ∷ ts) y
key_side-read u d at k ts y q =
    elim (chosen (eqb k client_in_key) (called (input_at d ts)) (cond (eqb k dsu_choice_key) (called (choice_at u d ts)) None) (Some y) q) [
      | inl h ↦ subst (λ (n : ℕ). IsSideRead u d (keyword n at ∷ ts) y) (sym (eqb-true k client_in_key h.0)) (called-read u d at (keyword client_in_key at ∷ ts) (input_at d ts) y (λ c e. input-read u d at ts c e) h.1)
      | inr h ↦ elim (chosen (eqb k dsu_choice_key) (called (choice_at u d ts)) None (Some y) h.1) [
        | inl i ↦ subst (λ (n : ℕ). IsSideRead u d (keyword n at ∷ ts) y) (sym (eqb-true k dsu_choice_key i.0)) (called-read u d at (keyword dsu_choice_key at ∷ ts) (choice_at u d ts) y (λ c e. choice-read u d at ts c e) i.1)
        | inr i ↦ absurd (let never = i.1 in cc)
      ]
    ]

side_by-read : (u : Unit) (d : ℕ) (at : At) (what : Word) (ts : List Token) (y : Side) → side_by u d what ts (token at what ∷ ts) ≡ Some y → IsSideRead u d (token at what ∷ ts) y
side_by-read u d at (w.Ident f) ts y q = named_side-read u d at f ts y (after round_open ts) refl q
side_by-read u d at (w.Number n) ts y q = value-read u d (token at (w.Number n) ∷ ts) y q
side_by-read u d at (w.Punct n) ts y q = value-read u d (token at (w.Punct n) ∷ ts) y q
side_by-read u d at (w.Key k) ts y q = key_side-read u d at k ts y q

pub side-read : (u : Unit) (d : ℕ) (ts : List Token) (y : Side) → right_side u d ts ≡ Some y → IsSideRead u d ts y
unfolding right_side
side-read u d [] y q = absurd cc
side-read u d (t ∷ ts) y q = side_by-read u d (at_of t) t.what ts y q

pub record IsCondRead (d : ℕ) (ts : List Token) (c : Found) : Type 0 where
  pub tree : g.CondTree
  pub valid : IsGrouped tree.tree
  pub high : e.height tree.tree ≤ d
  pub parts : ts ≡ g.cond_tokens tree ++ c.rest
  pub same : found_expr tree.tree c.rest ≡ c

abbrev found_of : Expr → ℕ → List Token → Found
found_of a n rest = record { expr = a; height = n; rest = rest }

pub cond-read : (d : ℕ) (ts : List Token) (c : Found) → condition d ts ≡ Some c → IsCondRead d ts c
unfolding condition
cond-read d ts c q =
    let a = bind_some (after round_open ts) (λ inside. expr d 1 inside >>= λ x. after round_close x.rest >>= λ rest. Some (found_of x.expr x.height rest)) c q in
    let b = bind_some (expr d 1 a.0) (λ x. after round_close x.rest >>= λ rest. Some (found_of x.expr x.height rest)) c a.2 in
    let f = bind_some (after round_close b.0.rest) (λ rest. Some (found_of b.0.expr b.0.height rest)) c b.2 in
    let p = (reads_trees d 1 a.0 b.0 (omega arith) b.1).part in
    let o = after-is round_open ts a.0 a.1 in
    let z = after-is round_close b.0.rest f.0 f.1 in
    subst (λ (x : Found). IsCondRead d ts x) (some_is _ c f.2) (record {
      tree = record { opens = o.0; tree = p.tree; closes = z.0 };
      valid = p.grouped;
      high = p.high;
      parts = o.1 ∙ ap (λ (r : List Token). mark round_open o.0 ∷ r) (p.parts ∙ ap (λ (r : List Token). tokens_of p.tree ++ r) z.1 ∙ sym (append_assoc (tokens_of p.tree) (mark round_close z.0 ∷ []) f.0));
      same = ap (λ (x : Expr). found_of x (e.height p.tree) f.0) p.program ∙ ap (λ (n : ℕ). found_of b.0.expr n f.0) (sym p.height_is);
    })

-- ---- pointers

one_int-read : (n : ℕ) (ts : List Token) (x : ℕ × List Token) → count_int n ts ≡ Some x → IsPart count_int g.int_tokens count_part (λ at. ⊤) n ts x
one_int-read n ts x q =
    let a = bind_some (after_key int_key ts) (λ rest. Some (min (n + 1) 33, rest)) x q in
    let p = after_key-is int_key ts a.0 a.1 in
    subst (λ (y : ℕ × List Token). IsPart count_int g.int_tokens count_part (λ at. ⊤) n ts y) (some_is _ x a.2) (record { part = p.0; valid = tt; split = p.1; same = refl })

record AreIntsRead (ts : List Token) (x : ℕ × List Token) : Type 0 where
  params : g.Ints
  closes : At
  parts : ts ≡ g.ints_tokens params ++ (mark round_close closes ∷ x.1)
  same : (min (g.ints_count params) 33, x.1) ≡ x

abbrev Counted : Type 0
Counted = ℕ × List Token

counted : ℕ → List Token → Counted
counted n rest = (n, rest)

ints_by-read : (ts : List Token) (x : Counted) (o v : Option (List Token)) → after round_close ts ≡ o → after_key void_key ts ≡ v → ints_by ts o v ≡ Some x → AreIntsRead ts x
ints_by-read ts x (Some rest) v o k q =
    let z = after-is round_close ts rest o in
    subst (λ (y : Counted). AreIntsRead ts y) (some_is _ x q) (record { params = g.nothing; closes = z.0; parts = z.1; same = refl })
ints_by-read ts x None (Some inside) o k q =
    let a = bind_some (after round_close inside) (λ rest. Some (0, rest)) x q in
    let v = after_key-is void_key ts inside k in
    let z = after-is round_close inside a.0 a.1 in
    subst (λ (y : Counted). AreIntsRead ts y) (some_is _ x a.2) (record { params = g.void v.0; closes = z.0; parts = v.1 ∙ ap (λ (us : List Token). keyword void_key v.0 ∷ us) z.1; same = refl })
ints_by-read ts x None None o k q =
    let a = bind_some (separated count_int (length ts + 1) 0 ts) (λ x. after round_close x.1 >>= λ rest. Some (x.0, rest)) x q in
    let b = bind_some (after round_close a.0.1) (λ rest. Some (a.0.0, rest)) x a.2 in
    let r = parts_read count_int g.int_tokens count_part (λ at. ⊤) one_int-read (length ts + 1) 0 ts a.0 a.1 in
    let z = after-is round_close a.0.1 b.0 b.1 in
    let n : min (length (parts_of r.parts)) 33 ≡ a.0.0 = ap (λ (n : ℕ). min n 33) (omega arith) ∙ sym (counted_are r.parts 0 (omega arith)) ∙ r.same in
    subst (λ (y : Counted). AreIntsRead ts y) (some_is _ x b.2) (record {
      params = g.ints r.parts;
      closes = z.0;
      parts = r.split ∙ ap (λ (us : List Token). separated_tokens g.int_tokens r.parts ++ us) z.1;
      same = ap (λ (n : ℕ). (n, b.0)) n;
    })

ints_at-read : (ts : List Token) (x : Counted) → ints_at ts ≡ Some x → AreIntsRead ts x
unfolding ints_at
ints_at-read ts x q = ints_by-read ts x (after round_close ts) (after_key void_key ts) refl refl q

abbrev pub found_pointer : g.PointerTree → List Token → Pointer
found_pointer p rest = record { name = p.name; arity = g.arity p; rest = rest }

pub record IsPointerRead (ts : List Token) (x : Pointer) : Type 0 where
  pub tree : g.PointerTree
  pub parts : ts ≡ g.pointer_tokens tree ++ x.rest
  pub same : found_pointer tree x.rest ≡ x

abbrev pointer_of : Bytes → ℕ → List Token → Pointer
pointer_of x n rest = record { name = x; arity = n; rest = rest }

pub pointer-read : (ts : List Token) (x : Pointer) → pointer_at ts ≡ Some x → IsPointerRead ts x
unfolding pointer_at
pointer-read ts x q =
    let a = bind_some (after round_open ts) (λ a. after star a >>= λ b. name_at b >>= λ y. after round_close y.1 >>= λ c. after round_open c >>= λ d. ints_at d >>= λ n. Some (pointer_of y.0 n.0 n.1)) x q in
    let b = bind_some (after star a.0) (λ b. name_at b >>= λ y. after round_close y.1 >>= λ c. after round_open c >>= λ d. ints_at d >>= λ n. Some (pointer_of y.0 n.0 n.1)) x a.2 in
    let y = bind_some (name_at b.0) (λ y. after round_close y.1 >>= λ c. after round_open c >>= λ d. ints_at d >>= λ n. Some (pointer_of y.0 n.0 n.1)) x b.2 in
    let c = bind_some (after round_close y.0.1) (λ c. after round_open c >>= λ d. ints_at d >>= λ n. Some (pointer_of y.0.0 n.0 n.1)) x y.2 in
    let d = bind_some (after round_open c.0) (λ d. ints_at d >>= λ n. Some (pointer_of y.0.0 n.0 n.1)) x c.2 in
    let n = bind_some (ints_at d.0) (λ n. Some (pointer_of y.0.0 n.0 n.1)) x d.2 in
    let pa = after-is round_open ts a.0 a.1 in
    let pb = after-is star a.0 b.0 b.1 in
    let py = name_at-is b.0 y.0 y.1 in
    let pc = after-is round_close y.0.1 c.0 c.1 in
    let pd = after-is round_open c.0 d.0 d.1 in
    let pn = ints_at-read d.0 n.0 n.1 in
    subst (λ (z : Pointer). IsPointerRead ts z) (some_is _ x n.2) (record {
      tree = record { opens = pa.0; star = pb.0; at = py.0; name = y.0.0; closes = pc.0; params_open = pd.0; params = pn.params; params_close = pn.closes };
      parts = pa.1 ∙ ap (λ (us : List Token). mark round_open pa.0 ∷ us) (pb.1 ∙ ap (λ (us : List Token). mark star pb.0 ∷ us) (py.1 ∙ ap (λ (us : List Token). token py.0 (w.Ident y.0.0) ∷ us) (pc.1 ∙ ap (λ (us : List Token). mark round_close pc.0 ∷ us) (pd.1 ∙ ap (λ (us : List Token). mark round_open pd.0 ∷ us) (pn.parts ∙ sym (append_assoc (g.ints_tokens pn.params) (mark round_close pn.closes ∷ []) n.0.1))))));
      same = ap (λ (z : Counted). pointer_of y.0.0 z.0 z.1) pn.same;
    })
