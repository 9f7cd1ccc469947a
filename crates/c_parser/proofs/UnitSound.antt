-- Declarations that are read are in the grammar.
use Rattle.std.specs.Prelude.{⊤}
use Rattle.std.proofs.Common.{◌≡◌, ℕ, ℤ, pos, ◌+◌, ◌-ℤ◌, ◌≤◌, cond, eqb, true, false, Bool, List, [], ◌∷◌, ◌++◌, length, map, Option, Some, None, refl, sym, ap, ap₂, ◌∙◌, subst, append_assoc, arith, inl, inr}
use Rattle.std.proofs.lemmas.Bool.{eqb-true}
use Rattle.c_lang.specs.Names.{Bytes}
use Rattle.c_lang.specs.declared.unit.Unit.{Unit}
use Rattle.c_lang.specs.declared.unit.Pos.{Pos}
use Rattle.c_lang.specs.declared.stmt.Kind.{Kind}
use Rattle.c_lang.specs.declared.stmt.Kind.TheVariants as kind
use Rattle.c_grammar.specs.declared.token.Token.{Token}
use Rattle.c_grammar.specs.declared.token.Word.{Word}
use Rattle.c_grammar.specs.declared.token.Word.TheVariants as w
use Rattle.c_grammar.specs.Tokens.{At, token, mark, keyword, round_open, round_close, brace_open, brace_close, square_open, square_close, semicolon, equals, minus, int_key, void_key}
use Rattle.c_grammar.specs.Separated.{Separated, last, more, parts_of, separated_tokens, Each}
use Rattle.c_expressions.specs.Code.ParseSteps.{◌>>=◌, after, after_key, name_at, number_at, separated}
use Rattle.c_expressions.proofs.ExpressionSound.{bind_some, some_is, after-is, at_of}
use Rattle.c_expressions.proofs.OperatorLaws.{chosen}
use Rattle.c_expressions.proofs.SeparatedLaws.{IsPart, parts_read}
use Rattle.c_grammar.specs.Scopes.{arity_refusals}
use Rattle.c_grammar.specs.Statements as g
use Rattle.c_expressions.specs.Code.SideReading.{Pointer, pointer_at}
use Rattle.c_statements.specs.Code.StatementReading.{Read, nothing, items, stmt}
use Rattle.c_expressions.proofs.SideSound.{after_key-is, name_at-is, number_at-is, pointer-read}
use Rattle.c_statements.proofs.BlockLaws.{is_block}
use Rattle.c_grammar.specs.Units.{Parts}
use Rattle.c_parser.specs.declared.params.Param.{Param}
use Rattle.c_parser.specs.declared.params.Params.{Params}
use Rattle.c_grammar.specs.Units.{ParamTree, nameless, ParamsTree, several, SignedTree, plain, negative, ArrayInit, PointerInit, External, prototype, param_tokens, params_tokens, param_list, named_param, all_refusals, IsNamed, AreNamed, signed_tokens, signed_value, array_init_tokens, pointer_init_tokens, external_tokens, external_height, IsExternal, with_number, with_array, with_pointer, with_proto, with_func, values_of, target_of, body_start, add}
use Rattle.c_grammar.specs.Units as u
use Rattle.c_parser.specs.Code.UnitReading.{with_param, param_by, param, no_params, params_by, params_at, named_params, signed_by, signed_at, value, ended, initial_by, initial_at, number_global, values_by, values_at, array_global, zero_at, target_by, start_by, target_at, pointer_global, headed_by, headed, function_at, named_by, int_by, int_external, void_external, external_by, external}
use Rattle.c_parser.proofs.UnitComplete.{param_of, add_param, added_params, params_of, kinds_are, add_value, added_values}

-- ---- parameters

abbrev pointer_param : Pos → Params → Pointer → Params
pointer_param p acc f = with_param acc (record { kind = kind.Fp f.arity; name = Some f.name }) (arity_refusals p f.arity)

one_param-read : (p : Pos) (acc : Params) (ts : List Token) (x : Params × List Token) → param p acc ts ≡ Some x → IsPart (param p) param_tokens (add_param p) (λ (t : ParamTree). ⊤) acc ts x
unfolding param
one_param-read p acc ts x q =
    let a = bind_some (after_key int_key ts) (λ rest. param_by p acc rest (name_at rest) (after round_open rest)) x q in
    let k = after_key-is int_key ts a.0 a.1 in
    by k.0 a.0 k.1 (name_at a.0) (after round_open a.0) refl refl a.2
  where
    by : (int : At) (rest : List Token) → ts ≡ keyword int_key int ∷ rest → (n : Option (Bytes × List Token)) (o : Option (List Token)) → name_at rest ≡ n → after round_open rest ≡ o
        → param_by p acc rest n o ≡ Some x → IsPart (param p) param_tokens (add_param p) (λ (t : ParamTree). ⊤) acc ts x
    by int rest e (Some y) o named opens q =
        let n = name_at-is rest y named in
        subst (λ (z : Params × List Token). IsPart (param p) param_tokens (add_param p) (λ (t : ParamTree). ⊤) acc ts z) (some_is _ x q)
        (record { part = u.number int n.0 y.0; valid = tt; split = e ∙ ap (λ (us : List Token). keyword int_key int ∷ us) n.1; same = refl })
    by int rest e None None named opens q =
        subst (λ (z : Params × List Token). IsPart (param p) param_tokens (add_param p) (λ (t : ParamTree). ⊤) acc ts z) (some_is _ x q)
        (record { part = nameless int; valid = tt; split = e; same = refl })
    by int rest e None (Some inside) named opens q =
        let f = bind_some (pointer_at rest) (λ f. Some (pointer_param p acc f, f.rest)) x q in
        let r = pointer-read rest f.0 f.1 in
        subst (λ (z : Params × List Token). IsPart (param p) param_tokens (add_param p) (λ (t : ParamTree). ⊤) acc ts z) (some_is _ x f.2)
        (record { part = u.pointer int r.tree; valid = tt; split = e ∙ ap (λ (us : List Token). keyword int_key int ∷ us) r.parts; same = ap (pointer_param p acc) r.same })

record AreParamsRead (p : Pos) (ts : List Token) (x : Params × List Token) : Type 0 where
  tree : ParamsTree
  closes : At
  parts : ts ≡ params_tokens tree ++ mark round_close closes ∷ x.1
  same : params_of p tree ≡ x.0

params_by-read : (p : Pos) (ts : List Token) (x : Params × List Token) (o v : Option (List Token)) → after round_close ts ≡ o → after_key void_key ts ≡ v → params_by p ts o v ≡ Some x → AreParamsRead p ts x
params_by-read p ts x (Some rest) v closes void q =
    let z = after-is round_close ts rest closes in
    subst (λ (y : Params × List Token). AreParamsRead p ts y) (some_is _ x q) (record { tree = u.nothing; closes = z.0; parts = z.1; same = refl })
params_by-read p ts x None (Some inside) closes void q =
    let a = bind_some (after round_close inside) (λ rest. Some (no_params, rest)) x q in
    let v = after_key-is void_key ts inside void in
    let z = after-is round_close inside a.0 a.1 in
    subst (λ (y : Params × List Token). AreParamsRead p ts y) (some_is _ x a.2)
    (record { tree = u.void v.0; closes = z.0; parts = v.1 ∙ ap (λ (us : List Token). keyword void_key v.0 ∷ us) z.1; same = refl })
params_by-read p ts x None None closes void q =
    let a = bind_some (separated (param p) (length ts + 1) no_params ts) (λ x. after round_close x.1 >>= λ rest. Some (x.0, rest)) x q in
    let b = bind_some (after round_close a.0.1) (λ rest. Some (a.0.0, rest)) x a.2 in
    let r = parts_read (param p) param_tokens (add_param p) (λ (t : ParamTree). ⊤) (one_param-read p) (length ts + 1) no_params ts a.0 a.1 in
    let z = after-is round_close a.0.1 b.0 b.1 in
    subst (λ (y : Params × List Token). AreParamsRead p ts y) (some_is _ x b.2) (record {
      tree = several r.parts;
      closes = z.0;
      parts = r.split ∙ ap (λ (us : List Token). separated_tokens param_tokens r.parts ++ us) z.1;
      same = sym (added_params p r.parts no_params) ∙ r.same;
    })

params-read : (p : Pos) (ts : List Token) (x : Params × List Token) → params_at p ts ≡ Some x → AreParamsRead p ts x
unfolding params_at
params-read p ts x q = params_by-read p ts x (after round_close ts) (after_key void_key ts) refl refl q

each_named-read : (ts : Separated ParamTree) (acc y : List (Kind × Bytes)) → named_params acc (map param_of (parts_of ts)) ≡ Some y → Each IsNamed ts × (acc ++ map named_param (parts_of ts) ≡ y)
each_named-read (last (nameless int)) acc y q = absurd cc
each_named-read (last (u.number int at x)) acc y q = (tt, some_is _ y q)
each_named-read (last (u.pointer int f)) acc y q = (tt, some_is _ y q)
each_named-read (more (nameless int) at ts) acc y q = absurd cc
each_named-read (more (u.number int n x) at ts) acc y q =
    let one = (kind.Int, x) ∷ [] in
    let later = each_named-read ts (acc ++ one) y q in
    ((tt, later.0), sym (append_assoc acc one (map named_param (parts_of ts))) ∙ later.1)
each_named-read (more (u.pointer int f) at ts) acc y q =
    let one = (kind.Fp (g.arity f), f.name) ∷ [] in
    let later = each_named-read ts (acc ++ one) y q in
    ((tt, later.0), sym (append_assoc acc one (map named_param (parts_of ts))) ∙ later.1)

named-read : (x : ParamsTree) (y : List (Kind × Bytes)) → named_params [] (map param_of (param_list x)) ≡ Some y → AreNamed x × (map named_param (param_list x) ≡ y)
named-read u.nothing y q = (tt, some_is _ y q)
named-read (u.void at) y q = (tt, some_is _ y q)
named-read (several ts) y q = each_named-read ts [] y q

-- ---- globals

record IsSignedRead (ts : List Token) (x : ℤ × List Token) : Type 0 where
  tree : SignedTree
  parts : ts ≡ signed_tokens tree ++ x.1
  same : signed_value tree ≡ x.0

signed_by-read : (ts : List Token) (x : ℤ × List Token) (o : Option (List Token)) → after minus ts ≡ o → signed_by ts o ≡ Some x → IsSignedRead ts x
signed_by-read ts x (Some rest) sign q =
    let a = bind_some (number_at rest) (λ n. Some (pos 0 -ℤ pos n.0, n.1)) x q in
    let s = after-is minus ts rest sign in
    let n = number_at-is rest a.0 a.1 in
    subst (λ (y : ℤ × List Token). IsSignedRead ts y) (some_is _ x a.2)
    (record { tree = negative s.0 n.0 a.0.0; parts = s.1 ∙ ap (λ (us : List Token). mark minus s.0 ∷ us) n.1; same = refl })
signed_by-read ts x None sign q =
    let a = bind_some (number_at ts) (λ n. Some (pos n.0, n.1)) x q in
    let n = number_at-is ts a.0 a.1 in
    subst (λ (y : ℤ × List Token). IsSignedRead ts y) (some_is _ x a.2) (record { tree = plain n.0 a.0.0; parts = n.1; same = refl })

signed-read : (ts : List Token) (x : ℤ × List Token) → signed_at ts ≡ Some x → IsSignedRead ts x
unfolding signed_at
signed-read ts x q = signed_by-read ts x (after minus ts) refl q

one_value-read : (acc : List ℤ) (ts : List Token) (x : List ℤ × List Token) → value acc ts ≡ Some x → IsPart value signed_tokens add_value (λ (t : SignedTree). ⊤) acc ts x
one_value-read acc ts x q =
    let a = bind_some (signed_at ts) (λ y. Some (acc ++ y.0 ∷ [], y.1)) x q in
    let r = signed-read ts a.0 a.1 in
    subst (λ (y : List ℤ × List Token). IsPart value signed_tokens add_value (λ (t : SignedTree). ⊤) acc ts y) (some_is _ x a.2)
    (record { part = r.tree; valid = tt; split = r.parts; same = ap (λ (z : ℤ). acc ++ z ∷ []) r.same })

record AreValuesRead (ts : List Token) (x : List ℤ × List Token) : Type 0 where
  tree : ArrayInit
  parts : ts ≡ array_init_tokens tree ++ x.1
  same : values_of tree ≡ x.0

values_by-read : (ts : List Token) (x : List ℤ × List Token) (o : Option (List Token)) → after equals ts ≡ o → values_by ts o ≡ Some x → AreValuesRead ts x
values_by-read ts x None is q = subst (λ (y : List ℤ × List Token). AreValuesRead ts y) (some_is _ x q) (record { tree = u.nothing; parts = refl; same = refl })
values_by-read ts x (Some given) is q =
    let a = bind_some (after brace_open given) (λ inside. separated value (length inside + 1) [] inside >>= λ x. after brace_close x.1 >>= λ rest. Some (x.0, rest)) x q in
    let b = bind_some (separated value (length a.0 + 1) [] a.0) (λ x. after brace_close x.1 >>= λ rest. Some (x.0, rest)) x a.2 in
    let c = bind_some (after brace_close b.0.1) (λ rest. Some (b.0.0, rest)) x b.2 in
    let e = after-is equals ts given is in
    let o = after-is brace_open given a.0 a.1 in
    let r = parts_read value signed_tokens add_value (λ (t : SignedTree). ⊤) one_value-read (length a.0 + 1) [] a.0 b.0 b.1 in
    let z = after-is brace_close b.0.1 c.0 c.1 in
    subst (λ (y : List ℤ × List Token). AreValuesRead ts y) (some_is _ x c.2) (record {
      tree = u.given e.0 o.0 r.parts z.0;
      parts =
          e.1 ∙ ap (λ (us : List Token). mark equals e.0 ∷ us) (o.1 ∙ ap (λ (us : List Token). mark brace_open o.0 ∷ us)
          (r.split ∙ ap (λ (us : List Token). separated_tokens signed_tokens r.parts ++ us) z.1 ∙ sym (append_assoc (separated_tokens signed_tokens r.parts) (mark brace_close z.0 ∷ []) c.0)));
      same = sym (added_values r.parts []) ∙ r.same;
    })

values-read : (ts : List Token) (x : List ℤ × List Token) → values_at ts ≡ Some x → AreValuesRead ts x
unfolding values_at
values-read ts x q = values_by-read ts x (after equals ts) refl q

record IsTargetRead (ts : List Token) (x : Option Bytes × List Token) : Type 0 where
  tree : PointerInit
  parts : ts ≡ pointer_init_tokens tree ++ x.1
  same : target_of tree ≡ x.0

zero_at-is : (ts rest : List Token) → zero_at ts ≡ Some rest → (at : At) × (ts ≡ token at (w.Number (pos 0)) ∷ rest)
zero_at-is ts rest q =
    let a = bind_some (number_at ts) (λ n. cond (eqb n.0 0) (Some n.1) None) rest q in
    let n = number_at-is ts a.0 a.1 in
    elim (chosen (eqb a.0.0 0) (Some a.0.1) None (Some rest) a.2) [
      | inl h ↦ (n.0, n.1 ∙ ap₂ (λ (k : ℕ) (us : List Token). token n.0 (w.Number (pos k)) ∷ us) (eqb-true a.0.0 0 h.0) (some_is a.0.1 rest h.1))
      | inr h ↦ absurd (let never = h.1 in cc)
    ]

abbrev no_target : List Token → Option Bytes × List Token
no_target rest = (None, rest)

target_by-read : (is : At) (ts given : List Token) (x : Option Bytes × List Token) (o : Option (Bytes × List Token)) → ts ≡ mark equals is ∷ given → name_at given ≡ o → target_by given o ≡ Some x → IsTargetRead ts x
target_by-read is ts given x (Some y) e named q =
    let n = name_at-is given y named in
    subst (λ (z : Option Bytes × List Token). IsTargetRead ts z) (some_is _ x q)
    (record { tree = u.function is n.0 y.0; parts = e ∙ ap (λ (us : List Token). mark equals is ∷ us) n.1; same = refl })
target_by-read is ts given x None e named q =
    let a = bind_some (zero_at given) (λ rest. Some (no_target rest)) x q in
    let z = zero_at-is given a.0 a.1 in
    subst (λ (y : Option Bytes × List Token). IsTargetRead ts y) (some_is _ x a.2)
    (record { tree = u.null is z.0; parts = e ∙ ap (λ (us : List Token). mark equals is ∷ us) z.1; same = refl })

start_by-read : (ts : List Token) (x : Option Bytes × List Token) (o : Option (List Token)) → after equals ts ≡ o → start_by ts o ≡ Some x → IsTargetRead ts x
start_by-read ts x None is q = subst (λ (y : Option Bytes × List Token). IsTargetRead ts y) (some_is _ x q) (record { tree = u.nothing; parts = refl; same = refl })
start_by-read ts x (Some given) is q = let e = after-is equals ts given is in target_by-read e.0 ts given x (name_at given) e.1 refl q

target-read : (ts : List Token) (x : Option Bytes × List Token) → target_at ts ≡ Some x → IsTargetRead ts x
unfolding target_at
target-read ts x q = start_by-read ts x (after equals ts) refl q

ended-is : {A : Type 0} (x : A) (ts : List Token) (y : A × List Token) → ended x ts ≡ Some y → (end : At) × (ts ≡ mark semicolon end ∷ y.1) × (x ≡ y.0)
ended-is x ts y q =
    let a = bind_some (after semicolon ts) (λ rest. Some (x, rest)) y q in
    let e = after-is semicolon ts a.0 a.1 in
    let same : (x, a.0) ≡ y = some_is _ y a.2 in
    (e.0, e.1 ∙ ap (λ (z : _ × List Token). mark semicolon e.0 ∷ z.1) same, ap (λ (z : _ × List Token). z.0) same)

-- ---- declarations

module _ (unit : Unit) (d : ℕ) where
  pub record IsExternalRead (a : Parts) (ts : List Token) (x : Parts × List Token) : Type 0 where
    pub tree : External
    pub valid : IsExternal unit tree
    pub high : external_height tree ≤ d
    pub parts : ts ≡ external_tokens tree ++ x.1
    pub same : add a tree ≡ x.0

  number-read : (int at : At) (x : Bytes) (a : Parts) (ts : List Token) (y : Parts × List Token) (o : Option (List Token)) → after equals ts ≡ o → (initial_by ts o >>= λ z. ended (with_number a int.pos x z.0) z.1) ≡ Some y
      → IsExternalRead a (keyword int_key int ∷ token at (w.Ident x) ∷ ts) y
  number-read int at x a ts y None is q =
      let e = ended-is (with_number a int.pos x (pos 0)) ts y q in
      record { tree = u.number int at x u.nothing e.0; valid = tt; high = omega arith; parts = ap (λ (us : List Token). keyword int_key int ∷ token at (w.Ident x) ∷ us) e.1; same = e.2 }
  number-read int at x a ts y (Some given) is q =
      let z = bind_some (signed_at given) (λ z. ended (with_number a int.pos x z.0) z.1) y q in
      let s = after-is equals ts given is in
      let r = signed-read given z.0 z.1 in
      let e = ended-is (with_number a int.pos x z.0.0) z.0.1 y z.2 in
      record {
        tree = u.number int at x (u.given s.0 r.tree) e.0;
        valid = tt;
        high = omega arith;
        parts =
            ap (λ (us : List Token). keyword int_key int ∷ token at (w.Ident x) ∷ us)
            (s.1 ∙ ap (λ (us : List Token). mark equals s.0 ∷ us) (r.parts ∙ ap (λ (us : List Token). signed_tokens r.tree ++ us) e.1 ∙ sym (append_assoc (signed_tokens r.tree) (mark semicolon e.0 ∷ []) y.1)));
        same = ap (with_number a int.pos x) r.same ∙ e.2;
      }

  array-read : (int at o : At) (x : Bytes) (a : Parts) (ts : List Token) (y : Parts × List Token) → array_global a int.pos x ts ≡ Some y
      → IsExternalRead a (keyword int_key int ∷ token at (w.Ident x) ∷ mark square_open o ∷ ts) y
  unfolding array_global
  array-read int at o x a ts y q =
      let n = bind_some (number_at ts) (λ n. after square_close n.1 >>= λ b. values_at b >>= λ values. ended (with_array a int.pos x n.0 values.0) values.1) y q in
      let b = bind_some (after square_close n.0.1) (λ b. values_at b >>= λ values. ended (with_array a int.pos x n.0.0 values.0) values.1) y n.2 in
      let v = bind_some (values_at b.0) (λ values. ended (with_array a int.pos x n.0.0 values.0) values.1) y b.2 in
      let k = number_at-is ts n.0 n.1 in
      let c = after-is square_close n.0.1 b.0 b.1 in
      let r = values-read b.0 v.0 v.1 in
      let e = ended-is (with_array a int.pos x n.0.0 v.0.0) v.0.1 y v.2 in
      record {
        tree = u.array int at x o k.0 n.0.0 c.0 r.tree e.0;
        valid = tt;
        high = omega arith;
        parts =
            ap (λ (us : List Token). keyword int_key int ∷ token at (w.Ident x) ∷ mark square_open o ∷ us)
            (k.1 ∙ ap (λ (us : List Token). token k.0 (w.Number (pos n.0.0)) ∷ us)
            (c.1 ∙ ap (λ (us : List Token). mark square_close c.0 ∷ us) (r.parts ∙ ap (λ (us : List Token). array_init_tokens r.tree ++ us) e.1 ∙ sym (append_assoc (array_init_tokens r.tree) (mark semicolon e.0 ∷ []) y.1))));
        same = ap (with_array a int.pos x n.0.0) r.same ∙ e.2;
      }

  pointer_global-read : (int : At) (a : Parts) (ts : List Token) (y : Parts × List Token) → pointer_global a int.pos ts ≡ Some y → IsExternalRead a (keyword int_key int ∷ ts) y
  unfolding pointer_global
  pointer_global-read int a ts y q =
      let f = bind_some (pointer_at ts) (λ f. target_at f.rest >>= λ target. ended (with_pointer a int.pos f.name f.arity target.0) target.1) y q in
      let i = bind_some (target_at f.0.rest) (λ target. ended (with_pointer a int.pos f.0.name f.0.arity target.0) target.1) y f.2 in
      let p = pointer-read ts f.0 f.1 in
      let r = target-read f.0.rest i.0 i.1 in
      let e = ended-is (with_pointer a int.pos f.0.name f.0.arity i.0.0) i.0.1 y i.2 in
      let z = mark semicolon e.0 ∷ [] in
      record {
        tree = u.pointer int p.tree r.tree e.0;
        valid = tt;
        high = omega arith;
        parts =
            ap (λ (us : List Token). keyword int_key int ∷ us)
            (p.parts ∙ ap (λ (us : List Token). g.pointer_tokens p.tree ++ us) (r.parts ∙ ap (λ (us : List Token). pointer_init_tokens r.tree ++ us) e.1 ∙ sym (append_assoc (pointer_init_tokens r.tree) z y.1))
            ∙ sym (append_assoc (g.pointer_tokens p.tree) (pointer_init_tokens r.tree ++ z) y.1));
        same = ap₂ (λ (h : Pointer) (target : Option Bytes). with_pointer a int.pos h.name h.arity target) p.same r.same ∙ e.2;
      }

  -- ---- heads

  abbrev headed_tokens : At → Bool → At → Bytes → At → List Token → List Token
  headed_tokens at gives n x o ts = keyword (cond gives int_key void_key) at ∷ token n (w.Ident x) ∷ mark round_open o ∷ ts

  abbrev proto_of : Parts → Pos → Bool → Bytes → Params → Parts
  proto_of a p gives x y = with_proto a (record { name = x; params = map (λ (z : Param). z.kind) y.list; gives = gives; pos = p }) y.early

  prototype-read : (at n o c : At) (gives : Bool) (x : Bytes) (tree : ParamsTree) (a : Parts) (ts rest : List Token) → after semicolon ts ≡ Some rest
      → IsExternalRead a (headed_tokens at gives n x o (params_tokens tree ++ mark round_close c ∷ ts)) (proto_of a at.pos gives x (params_of at.pos tree), rest)
  prototype-read at n o c gives x tree a ts rest ends =
      let e = after-is semicolon ts rest ends in
      let close = mark round_close c ∷ [] in
      let end = mark semicolon e.0 ∷ [] in
      record {
        tree = prototype (record { at = at; gives = gives; name_at = n; name = x; opens = o; params = tree; closes = c }) e.0;
        valid = tt;
        high = omega arith;
        parts =
            ap (λ (us : List Token). headed_tokens at gives n x o (params_tokens tree ++ mark round_close c ∷ us)) e.1
            ∙ ap (headed_tokens at gives n x o) (sym (append_assoc (params_tokens tree ++ close) end rest ∙ append_assoc (params_tokens tree) close (end ++ rest)));
        same = ap (λ (kinds : List Kind). with_proto a (record { name = x; params = kinds; gives = gives; pos = at.pos }) (all_refusals at.pos (param_list tree))) (sym (kinds_are (param_list tree)));
      }

  abbrev func_of : Parts → Pos → Bool → Bytes → List (Kind × Bytes) → Read → Parts
  func_of a p gives x named r = with_func a (record { name = x; params = named; gives = gives; body = r.stmts; pos = p }) r.scope.early

  function-read : (at n o c b : At) (gives : Bool) (x : Bytes) (tree : ParamsTree) (a : Parts) (ts : List Token) (y : Parts × List Token)
      → function_at unit d a at.pos gives x (params_of at.pos tree) ts ≡ Some y
      → IsExternalRead a (headed_tokens at gives n x o (params_tokens tree ++ mark round_close c ∷ mark brace_open b ∷ ts)) y
  unfolding function_at
  function-read at n o c b gives x tree a ts y q =
      let early = all_refusals at.pos (param_list tree) in
      let names = bind_some (named_params [] (map param_of (param_list tree)))
      (λ named. items (stmt unit d) d (length ts + 1) false (nothing (body_start named early) ts) >>= λ r. Some (func_of a at.pos gives x named r, r.rest)) y q in
      let all = named-read tree names.0 names.1 in
      let body = bind_some (items (stmt unit d) d (length ts + 1) false (nothing (body_start names.0 early) ts)) (λ r. Some (func_of a at.pos gives x names.0 r, r.rest)) y names.2 in
      let start = body_start (map named_param (param_list tree)) early in
      let block = is_block unit d start ts body.0 (subst (λ (l : List (Kind × Bytes)). items (stmt unit d) d (length ts + 1) false (nothing (body_start l early) ts) ≡ Some body.0) (sym all.1) body.1) in
      let close = mark round_close c ∷ [] in
      let end = mark brace_close block.closes ∷ [] in
      subst (λ (z : Parts × List Token). IsExternalRead a (headed_tokens at gives n x o (params_tokens tree ++ mark round_close c ∷ mark brace_open b ∷ ts)) z) (some_is _ y body.2) (record {
        tree = u.function (record { at = at; gives = gives; name_at = n; name = x; opens = o; params = tree; closes = c }) b block.trees block.closes;
        valid = (all.0, block.valid);
        high = block.height_fits;
        parts =
            ap (λ (us : List Token). headed_tokens at gives n x o (params_tokens tree ++ mark round_close c ∷ mark brace_open b ∷ us)) (block.written ∙ sym (append_assoc (g.pieces_tokens block.trees) end body.0.rest))
            ∙ ap (headed_tokens at gives n x o)
            (sym (append_assoc (params_tokens tree ++ close) (mark brace_open b ∷ g.pieces_tokens block.trees ++ end) body.0.rest
            ∙ append_assoc (params_tokens tree) close (mark brace_open b ∷ (g.pieces_tokens block.trees ++ end) ++ body.0.rest)));
        same = ap (func_of a at.pos gives x (map named_param (param_list tree))) block.program ∙ ap (λ (l : List (Kind × Bytes)). func_of a at.pos gives x l body.0) all.1;
      })

  headed-read : (at n o : At) (gives : Bool) (x : Bytes) (a : Parts) (ts : List Token) (y : Parts × List Token) → headed unit d a at.pos gives x ts ≡ Some y → IsExternalRead a (headed_tokens at gives n x o ts) y
  unfolding headed
  headed-read at n o gives x a ts y q =
      let p = bind_some (params_at at.pos ts) (λ p. headed_by unit d a at.pos gives x p.0 (after semicolon p.1) (after brace_open p.1)) y q in
      let r = params-read at.pos ts p.0 p.1 in
      subst (λ (us : List Token). IsExternalRead a (headed_tokens at gives n x o us) y) (sym r.parts)
      (by r.tree r.closes p.0.1 (after semicolon p.0.1) (after brace_open p.0.1) refl refl (subst (λ (z : Params). headed_by unit d a at.pos gives x z (after semicolon p.0.1) (after brace_open p.0.1) ≡ Some y) (sym r.same) p.2))
    where
      by : (tree : ParamsTree) (c : At) (rest : List Token) (s b : Option (List Token)) → after semicolon rest ≡ s → after brace_open rest ≡ b → headed_by unit d a at.pos gives x (params_of at.pos tree) s b ≡ Some y
          → IsExternalRead a (headed_tokens at gives n x o (params_tokens tree ++ mark round_close c ∷ rest)) y
      by tree c rest (Some others) b ends opens q =
          subst (λ (z : Parts × List Token). IsExternalRead a (headed_tokens at gives n x o (params_tokens tree ++ mark round_close c ∷ rest)) z) (some_is _ y q) (prototype-read at n o c gives x tree a rest others ends)
      by tree c rest None (Some inside) ends opens q =
          let e = after-is brace_open rest inside opens in
          subst (λ (us : List Token). IsExternalRead a (headed_tokens at gives n x o (params_tokens tree ++ mark round_close c ∷ us)) y) (sym e.1) (function-read at n o c e.0 gives x tree a inside y q)
      by tree c rest None None ends opens q = absurd cc

  -- ---- any declaration

  named_by-read : (int at : At) (x : Bytes) (a : Parts) (ts : List Token) (y : Parts × List Token) (o s : Option (List Token)) → after round_open ts ≡ o → after square_open ts ≡ s
      → named_by unit d a int.pos x ts o s ≡ Some y → IsExternalRead a (keyword int_key int ∷ token at (w.Ident x) ∷ ts) y
  unfolding number_global initial_at
  named_by-read int at x a ts y (Some inside) s opens array q =
      let e = after-is round_open ts inside opens in
      subst (λ (us : List Token). IsExternalRead a (keyword int_key int ∷ token at (w.Ident x) ∷ us) y) (sym e.1) (headed-read int at e.0 true x a inside y q)
  named_by-read int at x a ts y None (Some inside) opens array q =
      let e = after-is square_open ts inside array in
      subst (λ (us : List Token). IsExternalRead a (keyword int_key int ∷ token at (w.Ident x) ∷ us) y) (sym e.1) (array-read int at e.0 x a inside y q)
  named_by-read int at x a ts y None None opens array q = number-read int at x a ts y (after equals ts) refl q

  int_by-read : (int : At) (a : Parts) (ts : List Token) (y : Parts × List Token) (o : Option (Bytes × List Token)) → name_at ts ≡ o → int_by unit d a int.pos ts o ≡ Some y → IsExternalRead a (keyword int_key int ∷ ts) y
  int_by-read int a ts y None named q = pointer_global-read int a ts y q
  int_by-read int a ts y (Some x) named q =
      let n = name_at-is ts x named in
      subst (λ (us : List Token). IsExternalRead a (keyword int_key int ∷ us) y) (sym n.1) (named_by-read int n.0 x.0 a x.1 y (after round_open x.1) (after square_open x.1) refl refl q)

  void-read : (at : At) (a : Parts) (ts : List Token) (y : Parts × List Token) → void_external unit d a at.pos ts ≡ Some y → IsExternalRead a (keyword void_key at ∷ ts) y
  unfolding void_external
  void-read at a ts y q =
      let x = bind_some (name_at ts) (λ x. after round_open x.1 >>= λ inside. headed unit d a at.pos false x.0 inside) y q in
      let i = bind_some (after round_open x.0.1) (λ inside. headed unit d a at.pos false x.0.0 inside) y x.2 in
      let n = name_at-is ts x.0 x.1 in
      let o = after-is round_open x.0.1 i.0 i.1 in
      subst (λ (us : List Token). IsExternalRead a (keyword void_key at ∷ us) y) (sym (n.1 ∙ ap (λ (us : List Token). token n.0 (w.Ident x.0.0) ∷ us) o.1)) (headed-read at n.0 o.0 false x.0.0 a i.0 y i.2)

  key-read : (at : At) (k : ℕ) (a : Parts) (ts : List Token) (y : Parts × List Token) → external_by unit d a at.pos (w.Key k) ts ≡ Some y → IsExternalRead a (keyword k at ∷ ts) y
  unfolding int_external
  key-read at k a ts y q =
      elim (chosen (eqb k int_key) (int_external unit d a at.pos ts) (cond (eqb k void_key) (void_external unit d a at.pos ts) None) (Some y) q) [
        | inl h ↦ subst (λ (n : ℕ). IsExternalRead a (keyword n at ∷ ts) y) (sym (eqb-true k int_key h.0)) (int_by-read at a ts y (name_at ts) refl h.1)
        | inr h ↦ elim (chosen (eqb k void_key) (void_external unit d a at.pos ts) None (Some y) h.1) [
          | inl i ↦ subst (λ (n : ℕ). IsExternalRead a (keyword n at ∷ ts) y) (sym (eqb-true k void_key i.0)) (void-read at a ts y i.1)
          | inr i ↦ absurd (let never = i.1 in cc)
        ]
      ]

  by_word : (at : At) (what : Word) (a : Parts) (ts : List Token) (y : Parts × List Token) → external_by unit d a at.pos what ts ≡ Some y → IsExternalRead a (token at what ∷ ts) y
  by_word at (w.Key k) a ts y q = key-read at k a ts y q
  by_word at (w.Ident x) a ts y q = absurd cc
  by_word at (w.Number n) a ts y q = absurd cc
  by_word at (w.Punct n) a ts y q = absurd cc

  pub external-read : (a : Parts) (ts : List Token) (y : Parts × List Token) → external unit d a ts ≡ Some y → IsExternalRead a ts y
  unfolding external
  external-read a [] y q = absurd cc
  external-read a (t ∷ ts) y q = by_word (at_of t) t.what a ts y q
