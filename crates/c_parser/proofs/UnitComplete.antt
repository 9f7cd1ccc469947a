-- Declarations of the grammar are read.
use Rattle.std.specs.Prelude.{⊤}
use Rattle.std.proofs.Common.{◌≡◌, ℕ, ℤ, ◌+◌, ◌≤◌, cond, true, false, Bool, List, [], ◌∷◌, ◌++◌, length, map, Option, Some, None, refl, sym, ap, ap₂, ◌∙◌, append_assoc, append-nil, arith}
use Rattle.std.proofs.lemmas.List.{length-append}
use Rattle.c_lang.specs.Names.{Bytes}
use Rattle.c_lang.specs.declared.unit.Unit.{Unit}
use Rattle.c_lang.specs.declared.unit.Pos.{Pos}
use Rattle.c_lang.specs.declared.refusal.Refusal.{Refusal}
use Rattle.c_lang.specs.declared.stmt.Kind.{Kind}
use Rattle.c_lang.specs.declared.stmt.Kind.TheVariants as kind
use Rattle.c_grammar.specs.declared.token.Token.{Token}
use Rattle.c_grammar.specs.declared.token.Word.TheVariants as w
use Rattle.c_grammar.specs.Tokens.{At, token, mark, keyword, round_open, round_close, brace_open, brace_close, semicolon, int_key, void_key}
use Rattle.c_grammar.specs.Separated.{Separated, last, more, parts_of, separated_tokens, Each}
use Rattle.c_expressions.specs.Code.ParseSteps.{◌>>=◌, after, after_key, name_at, separated}
use Rattle.c_expressions.proofs.SeparatedLaws.{all_added, reads_all_parts, size_fits}
use Rattle.c_grammar.specs.Statements as g
use Rattle.c_expressions.specs.Code.SideReading.{Pointer, pointer_at}
use Rattle.c_statements.specs.Code.StatementReading.{Read, made}
use Rattle.c_expressions.proofs.SideComplete.{pointer_again}
use Rattle.c_statements.proofs.BlockLaws.{is_read}
use Rattle.c_grammar.specs.Units.{Parts}
use Rattle.c_parser.specs.declared.params.Param.{Param}
use Rattle.c_parser.specs.declared.params.Params.{Params}
use Rattle.c_grammar.specs.Units.{ParamTree, nameless, ParamsTree, several, HeadTree, SignedTree, plain, negative, NumberInit, ArrayInit, PointerInit, External, prototype, param_tokens, params_tokens, param_list, param_kind, param_refusals, all_refusals, IsNamed, AreNamed, signed_tokens, signed_value, array_init_tokens, pointer_init_tokens, external_tokens, external_height, IsExternal, values_of, target_of, named_param, add, with_array, with_pointer, with_proto, function_start}
use Rattle.c_grammar.specs.Units as u
use Rattle.c_parser.specs.Code.UnitReading.{with_param, param, no_params, params_by, params_at, named_params, signed_at, value, ended, initial_at, number_global, values_at, array_global, target_at, pointer_global, headed_by, headed, function_at, int_external, void_external, external}

-- ---- parameters

abbrev pub param_of : ParamTree → Param
param_of (nameless int) = record { kind = kind.Int; name = None }
param_of (u.number int at x) = record { kind = kind.Int; name = Some x }
param_of (u.pointer int q) = record { kind = kind.Fp (g.arity q); name = Some q.name }

abbrev pub add_param : Pos → Params → ParamTree → Params
add_param p acc t = with_param acc (param_of t) (param_refusals p t)

abbrev pub EndsParam : List Token → Type 0
EndsParam rest = (name_at rest ≡ None) × (after round_open rest ≡ None)

one_param : (p : Pos) (t : ParamTree) (acc : Params) (rest : List Token) → ⊤ → EndsParam rest → param p acc (param_tokens t ++ rest) ≡ Some (add_param p acc t, rest)
unfolding param
one_param p (nameless int) acc rest h ends = rw (ends.0, ends.1) refl
one_param p (u.number int at x) acc rest h ends = refl
one_param p (u.pointer int q) acc rest h ends = rw (pointer_again q rest) refl

abbrev pub params_made : List Param → List Refusal → Params
params_made list early = record { list = list; early = early }

pub added_params : (p : Pos) (ts : Separated ParamTree) (acc : Params)
    → all_added (add_param p) acc ts ≡ params_made (acc.list ++ map param_of (parts_of ts)) (acc.early ++ all_refusals p (parts_of ts))
added_params p (last t) acc = ap (λ (early : List Refusal). params_made (acc.list ++ param_of t ∷ []) (acc.early ++ early)) (sym (append-nil (param_refusals p t)))
added_params p (more t at ts) acc =
    added_params p ts (add_param p acc t)
    ∙ ap₂ params_made (append_assoc acc.list (param_of t ∷ []) (map param_of (parts_of ts))) (append_assoc acc.early (param_refusals p t) (all_refusals p (parts_of ts)))

abbrev pub params_of : Pos → ParamsTree → Params
params_of p x = params_made (map param_of (param_list x)) (all_refusals p (param_list x))

every : (ts : Separated ParamTree) → Each (λ (t : ParamTree). ⊤) ts
every (last t) = tt
every (more t at ts) = (tt, every ts)

no_close : (ts : Separated ParamTree) (rest : List Token) → after round_close (separated_tokens param_tokens ts ++ rest) ≡ None
no_close (last (nameless int)) rest = refl
no_close (last (u.number int at x)) rest = refl
no_close (last (u.pointer int q)) rest = refl
no_close (more (nameless int) at ts) rest = refl
no_close (more (u.number int n x) at ts) rest = refl
no_close (more (u.pointer int q) at ts) rest = refl

no_void : (ts : Separated ParamTree) (rest : List Token) → after_key void_key (separated_tokens param_tokens ts ++ rest) ≡ None
no_void (last (nameless int)) rest = refl
no_void (last (u.number int at x)) rest = refl
no_void (last (u.pointer int q)) rest = refl
no_void (more (nameless int) at ts) rest = refl
no_void (more (u.number int n x) at ts) rest = refl
no_void (more (u.pointer int q) at ts) rest = refl

pub params_again : (x : ParamsTree) (p : Pos) (c : At) (rest : List Token) → params_at p (params_tokens x ++ mark round_close c ∷ rest) ≡ Some (params_of p x, rest)
unfolding params_at
params_again u.nothing p c rest = refl
params_again (u.void at) p c rest = refl
params_again (several ts) p c rest =
    let z = mark round_close c ∷ rest in
    let all = separated_tokens param_tokens ts ++ z in
    let read : separated (param p) (length all + 1) no_params all ≡ Some (all_added (add_param p) no_params ts, z) =
    reads_all_parts (param p) param_tokens (add_param p) (λ (t : ParamTree). ⊤) EndsParam (λ at us. (refl, refl)) (one_param p) ts (length all + 1) no_params z (every ts)
    (omega (arith, size_fits (param p) param_tokens (add_param p) ts, length-append (separated_tokens param_tokens ts) z)) (refl, refl) refl in
    ap (λ (o : Option (List Token)). params_by p all o (after_key void_key all)) (no_close ts z)
    ∙ ap (λ (o : Option (List Token)). params_by p all None o) (no_void ts z)
    ∙ ap (λ (r : Option (Params × List Token)). r >>= λ x. after round_close x.1 >>= λ rest. Some (x.0, rest)) read
    ∙ ap (λ (y : Params). Some (y, rest)) (added_params p ts no_params)

each_named : (ts : Separated ParamTree) (acc : List (Kind × Bytes)) → Each IsNamed ts → named_params acc (map param_of (parts_of ts)) ≡ Some (acc ++ map named_param (parts_of ts))
each_named (last (nameless int)) acc h = absurd h
each_named (last (u.number int at x)) acc h = refl
each_named (last (u.pointer int q)) acc h = refl
each_named (more (nameless int) at ts) acc h = absurd h.0
each_named (more (u.number int n x) at ts) acc h =
    let one = (kind.Int, x) ∷ [] in
    each_named ts (acc ++ one) h.1 ∙ ap (λ (l : List (Kind × Bytes)). Some l) (append_assoc acc one (map named_param (parts_of ts)))
each_named (more (u.pointer int q) at ts) acc h =
    let one = (kind.Fp (g.arity q), q.name) ∷ [] in
    each_named ts (acc ++ one) h.1 ∙ ap (λ (l : List (Kind × Bytes)). Some l) (append_assoc acc one (map named_param (parts_of ts)))

pub named_again : (x : ParamsTree) → AreNamed x → named_params [] (map param_of (param_list x)) ≡ Some (map named_param (param_list x))
named_again u.nothing h = refl
named_again (u.void at) h = refl
named_again (several ts) h = each_named ts [] h

kind_is : (t : ParamTree) → (param_of t).kind ≡ param_kind t
kind_is (nameless int) = refl
kind_is (u.number int at x) = refl
kind_is (u.pointer int q) = refl

pub kinds_are : (ts : List ParamTree) → map (λ (y : Param). y.kind) (map param_of ts) ≡ map param_kind ts
kinds_are [] = refl
kinds_are (t ∷ ts) = ap₂ ◌∷◌ (kind_is t) (kinds_are ts)

-- ---- globals

pub signed_again : (x : SignedTree) (rest : List Token) → signed_at (signed_tokens x ++ rest) ≡ Some (signed_value x, rest)
unfolding signed_at
signed_again (plain at n) rest = refl
signed_again (negative sign at n) rest = refl

abbrev pub add_value : List ℤ → SignedTree → List ℤ
add_value acc x = acc ++ signed_value x ∷ []

one_value : (x : SignedTree) (acc : List ℤ) (rest : List Token) → ⊤ → ⊤ → value acc (signed_tokens x ++ rest) ≡ Some (add_value acc x, rest)
one_value x acc rest h ends = ap (λ (r : Option (ℤ × List Token)). r >>= λ y. Some (acc ++ y.0 ∷ [], y.1)) (signed_again x rest)

pub added_values : (xs : Separated SignedTree) (acc : List ℤ) → all_added add_value acc xs ≡ acc ++ map signed_value (parts_of xs)
added_values (last x) acc = refl
added_values (more x at xs) acc = added_values xs (add_value acc x) ∙ append_assoc acc (signed_value x ∷ []) (map signed_value (parts_of xs))

every_value : (xs : Separated SignedTree) → Each (λ (x : SignedTree). ⊤) xs
every_value (last x) = tt
every_value (more x at xs) = (tt, every_value xs)

pub values_again : (i : ArrayInit) (end : At) (rest : List Token) → values_at (array_init_tokens i ++ mark semicolon end ∷ rest) ≡ Some (values_of i, mark semicolon end ∷ rest)
unfolding values_at
values_again u.nothing end rest = refl
values_again (u.given is o xs c) end rest =
    let z = mark semicolon end ∷ rest in
    let y = mark brace_close c ∷ z in
    let inside = separated_tokens signed_tokens xs ++ y in
    let split : (separated_tokens signed_tokens xs ++ mark brace_close c ∷ []) ++ z ≡ inside = append_assoc (separated_tokens signed_tokens xs) (mark brace_close c ∷ []) z in
    let read : separated value (length inside + 1) [] inside ≡ Some (all_added add_value [] xs, y) =
    reads_all_parts value signed_tokens add_value (λ (x : SignedTree). ⊤) (λ (us : List Token). ⊤) (λ at us. tt) one_value xs (length inside + 1) [] y (every_value xs)
    (omega (arith, size_fits value signed_tokens add_value xs, length-append (separated_tokens signed_tokens xs) y)) tt refl in
    ap (λ (us : List Token). separated value (length us + 1) [] us >>= λ x. after brace_close x.1 >>= λ rest. Some (x.0, rest)) split
    ∙ ap (λ (r : Option (List ℤ × List Token)). r >>= λ x. after brace_close x.1 >>= λ rest. Some (x.0, rest)) read
    ∙ ap (λ (values : List ℤ). Some (values, z)) (added_values xs [])

pub target_again : (i : PointerInit) (end : At) (rest : List Token) → target_at (pointer_init_tokens i ++ mark semicolon end ∷ rest) ≡ Some (target_of i, mark semicolon end ∷ rest)
unfolding target_at
target_again u.nothing end rest = refl
target_again (u.function is at f) end rest = refl
target_again (u.null is at) end rest = refl

-- ---- declarations

module _ (unit : Unit) (d : ℕ) where
  -- behind the name's opening bracket
  heads : (b : Bool) (at n o : At) (x : Bytes) (a : Parts) (ts : List Token)
      → external unit d a (keyword (cond b int_key void_key) at ∷ token n (w.Ident x) ∷ mark round_open o ∷ ts) ≡ headed unit d a at.pos b x ts
  unfolding external int_external void_external
  heads true at n o x a ts = refl
  heads false at n o x a ts = refl

  -- behind the head's closing bracket
  headed_again : (h : HeadTree) (a : Parts) (ts tail : List Token) → ts ≡ (params_tokens h.params ++ mark round_close h.closes ∷ []) ++ tail
      → headed unit d a h.at.pos h.gives h.name ts ≡ headed_by unit d a h.at.pos h.gives h.name (params_of h.at.pos h.params) (after semicolon tail) (after brace_open tail)
  unfolding headed
  headed_again h a ts tail e =
      ap (λ (r : Option (Params × List Token)). r >>= λ y. headed_by unit d a h.at.pos h.gives h.name y.0 (after semicolon y.1) (after brace_open y.1))
      (ap (params_at h.at.pos) (e ∙ append_assoc (params_tokens h.params) (mark round_close h.closes ∷ []) tail) ∙ params_again h.params h.at.pos h.closes tail)

  numbers_again : (int at : At) (x : Bytes) (i : NumberInit) (end : At) (a : Parts) (rest : List Token)
      → external unit d a (external_tokens (u.number int at x i end) ++ rest) ≡ Some (add a (u.number int at x i end), rest)
  unfolding external int_external number_global initial_at signed_at
  numbers_again int at x u.nothing end a rest = refl
  numbers_again int at x (u.given is (plain n k)) end a rest = refl
  numbers_again int at x (u.given is (negative sign n k)) end a rest = refl

  arrays_again : (int at : At) (x : Bytes) (o n : At) (size : ℕ) (c : At) (i : ArrayInit) (end : At) (a : Parts) (rest : List Token)
      → external unit d a (external_tokens (u.array int at x o n size c i end) ++ rest) ≡ Some (add a (u.array int at x o n size c i end), rest)
  unfolding external int_external array_global
  arrays_again int at x o n size c i end a rest =
      ap (λ (us : List Token). values_at us >>= λ values. ended (with_array a int.pos x size values.0) values.1) (append_assoc (array_init_tokens i) (mark semicolon end ∷ []) rest)
      ∙ ap (λ (r : Option (List ℤ × List Token)). r >>= λ values. ended (with_array a int.pos x size values.0) values.1) (values_again i end rest)

  pointers_again : (int : At) (p : g.PointerTree) (i : PointerInit) (end : At) (a : Parts) (rest : List Token)
      → external unit d a (external_tokens (u.pointer int p i end) ++ rest) ≡ Some (add a (u.pointer int p i end), rest)
  unfolding external int_external pointer_global
  pointers_again int p i end a rest =
      let z = mark semicolon end ∷ rest in
      let tail = pointer_init_tokens i ++ z in
      let split : (g.pointer_tokens p ++ (pointer_init_tokens i ++ mark semicolon end ∷ [])) ++ rest ≡ g.pointer_tokens p ++ tail =
      append_assoc (g.pointer_tokens p) (pointer_init_tokens i ++ mark semicolon end ∷ []) rest ∙ ap (λ (us : List Token). g.pointer_tokens p ++ us) (append_assoc (pointer_init_tokens i) (mark semicolon end ∷ []) rest) in
      ap (λ (us : List Token). pointer_at us >>= λ f. target_at f.rest >>= λ target. ended (with_pointer a int.pos f.name f.arity target.0) target.1) split
      ∙ ap (λ (r : Option Pointer). r >>= λ f. target_at f.rest >>= λ target. ended (with_pointer a int.pos f.name f.arity target.0) target.1) (pointer_again p tail)
      ∙ ap (λ (r : Option (Option Bytes × List Token)). r >>= λ target. ended (with_pointer a int.pos p.name (g.arity p) target.0) target.1) (target_again i end rest)

  prototypes_again : (h : HeadTree) (end : At) (a : Parts) (rest : List Token)
      → external unit d a (external_tokens (prototype h end) ++ rest) ≡ Some (add a (prototype h end), rest)
  prototypes_again h end a rest =
      let tail = mark semicolon end ∷ rest in
      let inside = ((params_tokens h.params ++ mark round_close h.closes ∷ []) ++ mark semicolon end ∷ []) ++ rest in
      heads h.gives h.at h.name_at h.opens h.name a inside
      ∙ headed_again h a inside tail (append_assoc (params_tokens h.params ++ mark round_close h.closes ∷ []) (mark semicolon end ∷ []) rest)
      ∙ ap (λ (kinds : List Kind). Some (with_proto a (record { name = h.name; params = kinds; gives = h.gives; pos = h.at.pos }) (all_refusals h.at.pos (param_list h.params)), rest))
      (kinds_are (param_list h.params))

  functions_again : (h : HeadTree) (o : At) (ts : g.Pieces) (c : At) (a : Parts) (rest : List Token) → AreNamed h.params → g.ArePieces unit false ts → g.pieces_height ts ≤ d
      → external unit d a (external_tokens (u.function h o ts c) ++ rest) ≡ Some (add a (u.function h o ts c), rest)
  unfolding function_at
  functions_again h o ts c a rest named valid high =
      let inside = g.pieces_tokens ts ++ mark brace_close c ∷ rest in
      let tail = mark brace_open o ∷ inside in
      let whole = (params_tokens h.params ++ mark round_close h.closes ∷ []) ++ (mark brace_open o ∷ g.pieces_tokens ts ++ (mark brace_close c ∷ [])) in
      let split : whole ++ rest ≡ (params_tokens h.params ++ mark round_close h.closes ∷ []) ++ tail =
      append_assoc (params_tokens h.params ++ mark round_close h.closes ∷ []) (mark brace_open o ∷ g.pieces_tokens ts ++ (mark brace_close c ∷ [])) rest
      ∙ ap (λ (us : List Token). (params_tokens h.params ++ mark round_close h.closes ∷ []) ++ mark brace_open o ∷ us) (append_assoc (g.pieces_tokens ts) (mark brace_close c ∷ []) rest) in
      let start = function_start h in
      let out : Read = made (g.pieces_stmts ts start) (g.pieces_height ts) (g.pieces_scope ts start) rest in
      let body = is_read unit d start inside out (record { trees = ts; valid = valid; height_fits = high; closes = c; written = refl; program = refl }) in
      heads h.gives h.at h.name_at h.opens h.name a (whole ++ rest)
      ∙ headed_again h a (whole ++ rest) tail split
      ∙ rw (named_again h.params named, body) refl

  pub external_again : (x : External) (a : Parts) (rest : List Token) → IsExternal unit x → external_height x ≤ d → external unit d a (external_tokens x ++ rest) ≡ Some (add a x, rest)
  external_again (u.number int at x i end) a rest h high = numbers_again int at x i end a rest
  external_again (u.array int at x o n size c i end) a rest h high = arrays_again int at x o n size c i end a rest
  external_again (u.pointer int p i end) a rest h high = pointers_again int p i end a rest
  external_again (prototype head end) a rest h high = prototypes_again head end a rest
  external_again (u.function head o ts c) a rest h high = functions_again head o ts c a rest h.0 h.1 high
