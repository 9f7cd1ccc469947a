-- How many brackets are open in what the grammar has: within a statement no more than it is high, within a
-- declaration two more than its statements are high at most.
use Rattle.std.specs.Prelude.{◌≡◌, ◌≤◌, ◌+◌, ◌-◌, ℕ, ℤ, pos, List, [], ◌∷◌, ◌++◌, None}
use Rattle.std.proofs.Common.{refl, ap, subst, ◌∙◌, append_assoc, arith}
use Rattle.std.proofs.lemmas.Bool.{le-ltb}
use Rattle.std.proofs.lemmas.List.{append-nil}
use Rattle.c_lang.specs.Names.{Bytes}
use Rattle.c_lang.specs.declared.expr.Op.{Op}
use Rattle.c_lang.specs.declared.expr.Op.TheVariants as op
use Rattle.c_lang.specs.declared.unit.Unit.{Unit}
use Rattle.c_lang.specs.declared.program.Program.{Program}
use Rattle.c_grammar.specs.declared.token.Token.{Token}
use Rattle.c_grammar.specs.declared.token.Word.{Word}
use Rattle.c_grammar.specs.declared.token.Word.TheVariants as w
use Rattle.c_grammar.specs.Tokens.{At, token, mark, keyword, operator_number, operator, round_open, round_close, brace_open, brace_close, square_open, square_close, semicolon, comma, equals, minus, star, bang, int_key, void_key, if_key, else_key, while_key, return_key, break_key, assert_key, client_in_key, client_out_key, dsu_choice_key, dsu_force_key, dsu_update_key, dsu_updated_key}
use Rattle.c_grammar.specs.Nesting.{opened_by, opened, too_deep, IsNested}
use Rattle.c_grammar.specs.Separated.{Separated, last, more, separated_tokens}
use Rattle.c_grammar.specs.Expressions.{Tree, tokens_of}
use Rattle.c_grammar.specs.Expressions as e
use Rattle.c_grammar.specs.Statements.{Arguments, nothing, given, argument_tokens, tallest, part_height, FunctionCall, function_call_tokens, CallTree, call_tokens, call_height, SideTree, side_tokens, side_height, Ints, ints_tokens, int_tokens, PointerTree, pointer_tokens, CondTree, cond_tokens, OneTree, one_tokens, one_height, PickTree, pick_tokens, pick_height, Simple, simple_tokens, simple_height, Piece, Body, Pieces, tokens, body_tokens, pieces_tokens, height, body_height, pieces_height}
use Rattle.c_grammar.specs.Statements as tree
use Rattle.c_grammar.specs.Units.{ParamTree, ParamsTree, HeadTree, param_tokens, params_tokens, head_tokens, SignedTree, signed_tokens, NumberInit, ArrayInit, PointerInit, number_init_tokens, array_init_tokens, pointer_init_tokens, External, external_tokens, unit_tokens, external_height, unit_height}
use Rattle.c_grammar.specs.Units as unit
use Rattle.c_grammar.specs.Grammar.{Gram}

-- at most d brackets may be open
module _ (d : ℕ) where
  -- the tokens open at most n more at once, and close what they open
  record Passes (n : ℕ) (ts : List Token) : Type 0 where
    over : (now : ℕ) → now + n ≤ d → (rest : List Token) → too_deep d now (ts ++ rest) ≡ too_deep d now rest

  empty : {n : ℕ} → Passes n []
  empty = record { over = λ now le rest. refl }

  weaker : {n m : ℕ} {ts : List Token} → Passes n ts → n ≤ m → Passes m ts
  weaker h fits = record { over = λ now le rest. h.over now (omega (arith, le, fits)) rest }

  both : {n : ℕ} {xs ys : List Token} → Passes n xs → Passes n ys → Passes n (xs ++ ys)
  both {n} {xs} {ys} h k = record {
    over = λ now le rest. ap (too_deep d now) (append_assoc xs ys rest) ∙ h.over now le (ys ++ rest) ∙ k.over now le rest;
  }

  -- it is no bracket
  abbrev Stays : Word → Type 0
  Stays what = (now : ℕ) → opened now what ≡ now

  step : (n : ℕ) (t : Token) (ts : List Token) → Stays t.what → Passes n ts → (now : ℕ) → now + n ≤ d → (rest : List Token) → too_deep d now (t ∷ ts ++ rest) ≡ too_deep d now rest
  step n t ts stays h now le rest = rw (stays now, le-ltb d now (omega (arith, le))) (h.over now le rest)

  one : {n : ℕ} {ts : List Token} (t : Token) → Stays t.what → Passes n ts → Passes n (t ∷ ts)
  one {n} {ts} t stays h = record { over = step n t ts stays h }

  closing : (c : ℕ) → ((now : ℕ) → opened_by now c ≡ now - 1) → (now : ℕ) → now ≤ d → (at : At) (rest : List Token) → too_deep d (now + 1) (mark c at ∷ rest) ≡ too_deep d now rest
  closing c closes now le at rest =
      let back : now + 1 - 1 ≡ now = omega arith in
      rw (closes (now + 1), back, le-ltb d now le) refl

  opening : (o : ℕ) → ((now : ℕ) → opened_by now o ≡ now + 1) → (now : ℕ) → now + 1 ≤ d → (at : At) (rest : List Token) → too_deep d now (mark o at ∷ rest) ≡ too_deep d (now + 1) rest
  opening o opens now le at rest = rw (opens now, le-ltb d (now + 1) le) refl

  within : (o c : ℕ) → ((now : ℕ) → opened_by now o ≡ now + 1) → ((now : ℕ) → opened_by now c ≡ now - 1)
      → {n m : ℕ} {xs ys : List Token} (at to : At) → Passes n xs → n + 1 ≤ m → Passes m ys → Passes m (mark o at ∷ xs ++ (mark c to ∷ ys))
  within o c opens closes {n} {m} {xs} {ys} at to h fits k = record {
    over = λ now le rest.
        opening o opens now (omega (arith, le, fits)) at ((xs ++ (mark c to ∷ ys)) ++ rest)
        ∙ ap (too_deep d (now + 1)) (append_assoc xs (mark c to ∷ ys) rest)
        ∙ h.over (now + 1) (omega (arith, le, fits)) (mark c to ∷ ys ++ rest)
        ∙ closing c closes now (omega (arith, le)) to (ys ++ rest)
        ∙ k.over now le rest;
  }

  in_round : {n m : ℕ} {xs ys : List Token} (at to : At) → Passes n xs → n + 1 ≤ m → Passes m ys → Passes m (mark round_open at ∷ xs ++ (mark round_close to ∷ ys))
  in_round = within round_open round_close (λ now. refl) (λ now. refl)

  in_square : {n m : ℕ} {xs ys : List Token} (at to : At) → Passes n xs → n + 1 ≤ m → Passes m ys → Passes m (mark square_open at ∷ xs ++ (mark square_close to ∷ ys))
  in_square = within square_open square_close (λ now. refl) (λ now. refl)

  in_braces : {n m : ℕ} {xs ys : List Token} (at to : At) → Passes n xs → n + 1 ≤ m → Passes m ys → Passes m (mark brace_open at ∷ xs ++ (mark brace_close to ∷ ys))
  in_braces = within brace_open brace_close (λ now. refl) (λ now. refl)

  name : {n : ℕ} {ts : List Token} (at : At) (x : Bytes) → Passes n ts → Passes n (token at (w.Ident x) ∷ ts)
  name at x = one (token at (w.Ident x)) (λ now. refl)

  key : {n : ℕ} {ts : List Token} (k : ℕ) (at : At) → Passes n ts → Passes n (keyword k at ∷ ts)
  key k at = one (keyword k at) (λ now. refl)

  number : {n : ℕ} {ts : List Token} (at : At) (z : ℤ) → Passes n ts → Passes n (token at (w.Number z) ∷ ts)
  number at z = one (token at (w.Number z)) (λ now. refl)

  end : {n : ℕ} (at : At) → Passes n (mark semicolon at ∷ [])
  end at = one (mark semicolon at) (λ now. refl) empty

  -- and then a semicolon
  ended : {n : ℕ} {ts : List Token} (at : At) → Passes n ts → Passes n (ts ++ (mark semicolon at ∷ []))
  ended at h = both h (end at)

  equals_then : {n : ℕ} {ts : List Token} (at : At) → Passes n ts → Passes n (mark equals at ∷ ts)
  equals_then at = one (mark equals at) (λ now. refl)

  -- ---- parts with commas between

  comma_then : {n : ℕ} {ts : List Token} (at : At) → Passes n ts → Passes n (mark comma at ∷ ts)
  comma_then at = one (mark comma at) (λ now. refl)

  each : {T : Type 0} (part_tokens : T → List Token) (n : ℕ) → ((t : T) → Passes n (part_tokens t)) → (ts : Separated T) → Passes n (separated_tokens part_tokens ts)
  each part_tokens n h (last t) = h t
  each part_tokens n h (more t at ts) = both (h t) (comma_then at (each part_tokens n h ts))

  -- ---- expressions

  is_operator : {n : ℕ} {ts : List Token} (o : Op) (at : At) → Passes n ts → Passes n (operator o at ∷ ts)
  is_operator o at = one (operator o at) (stays o)
    where
      stays : (o : Op) → (now : ℕ) → opened_by now (operator_number o) ≡ now
      stays op.Add now = refl
      stays op.Sub now = refl
      stays op.Mul now = refl
      stays op.Div now = refl
      stays op.Rem now = refl
      stays op.Lt now = refl
      stays op.Gt now = refl
      stays op.Le now = refl
      stays op.Ge now = refl
      stays op.Eq now = refl
      stays op.Ne now = refl
      stays op.And now = refl
      stays op.Or now = refl

  tree_passes : (t : Tree) → Passes (e.height t) (tokens_of t)
  tree_passes (e.number at z) = number at z empty
  tree_passes (e.name at x) = name at x empty
  tree_passes (e.element at x o t c) = name at x (in_square o c (tree_passes t) (omega arith) empty)
  tree_passes (e.brackets o t c) = in_round o c (tree_passes t) (omega arith) empty
  tree_passes (e.negation at t) = one (mark minus at) (λ now. refl) (weaker (tree_passes t) (omega arith))
  tree_passes (e.logical_not at t) = one (mark bang at) (λ now. refl) (weaker (tree_passes t) (omega arith))
  tree_passes (e.joined a at o b) = both (weaker (tree_passes a) (omega arith)) (is_operator o at (weaker (tree_passes b) (omega arith)))

  several_pass : (ts : Separated Tree) → Passes (tallest ts) (separated_tokens tokens_of ts)
  several_pass (last t) = tree_passes t
  several_pass (more t at ts) = both (weaker (tree_passes t) (omega arith)) (comma_then at (weaker (several_pass ts) (omega arith)))

  arguments_pass : (a : Arguments) → Passes (part_height a) (argument_tokens a)
  arguments_pass nothing = empty
  arguments_pass (given ts) = weaker (several_pass ts) (omega arith)

  -- ---- calls and right sides

  function_passes : (f : FunctionCall) → Passes (part_height f.arguments + 1) (function_call_tokens f)
  function_passes f = name f.at f.callee (in_round f.opens f.closes (arguments_pass f.arguments) (omega arith) empty)

  call_passes : (t : CallTree) → Passes (call_height t) (call_tokens t)
  call_passes (tree.function f) = function_passes f
  call_passes (tree.input at o c) = key client_in_key at (in_round o c (empty {n = 0}) (omega arith) empty)
  call_passes (tree.choice at o n k c) = key dsu_choice_key at (in_round o c (number {n = 0} n (pos k) empty) (omega arith) empty)

  side_passes : (y : SideTree) → Passes (side_height y) (side_tokens y)
  side_passes (tree.value t) = tree_passes t
  side_passes (tree.called t) = call_passes t

  -- a right side and the semicolon
  side_ends : {n : ℕ} (y : SideTree) (at : At) → side_height y ≤ n → Passes n (side_tokens y ++ (mark semicolon at ∷ []))
  side_ends y at le = ended at (weaker (side_passes y) le)

  -- ---- pointers

  ints_pass : (x : Ints) → Passes 0 (ints_tokens x)
  ints_pass tree.nothing = empty
  ints_pass (tree.void at) = key void_key at empty
  ints_pass (tree.ints ts) = each int_tokens 0 (λ at. key int_key at empty) ts

  pointer_passes : (p : PointerTree) → Passes 1 (pointer_tokens p)
  pointer_passes p =
      in_round {n = 0} p.opens p.closes (one (mark star p.star) (λ now. refl) (name p.at p.name empty)) (omega arith)
      (in_round p.params_open p.params_close (ints_pass p.params) (omega arith) empty)

  -- ---- single statements

  cond_passes : (c : CondTree) → Passes (e.height c.tree + 1) (cond_tokens c)
  cond_passes c = in_round c.opens c.closes (tree_passes c.tree) (omega arith) empty

  function_ends : (f : FunctionCall) (to : At) → Passes (part_height f.arguments + 1) (function_call_tokens f ++ (mark semicolon to ∷ []))
  function_ends f to = ended to (function_passes f)

  one_passes : {n : ℕ} (t : OneTree) → one_height t ≤ n + 1 → Passes n (one_tokens t)
  one_passes (tree.ignored f to) le = weaker (function_ends f to) (omega (arith, le))
  one_passes (tree.kept at x eq f to) le = name at x (equals_then eq (weaker (function_ends f to) (omega (arith, le))))

  pick_passes : {n : ℕ} (t : PickTree) → pick_height t + 1 ≤ n → Passes n (pick_tokens t)
  pick_passes (tree.bare a) le = one_passes a (omega (arith, le))
  pick_passes (tree.braced o a c) le = in_braces {n = one_height a} o c (one_passes a (omega arith)) (omega (arith, le)) empty

  pick_high : (t : PickTree) → 2 ≤ pick_height t
  pick_high (tree.bare (tree.ignored f to)) = omega arith
  pick_high (tree.bare (tree.kept at x eq f to)) = omega arith
  pick_high (tree.braced o (tree.ignored f to) c) = omega arith
  pick_high (tree.braced o (tree.kept at x eq f to) c) = omega arith

  simple_passes : (t : Simple) → Passes (simple_height t) (simple_tokens t)
  simple_passes (tree.skip at) = end at
  simple_passes (tree.set at x eq y to) = name at x (equals_then eq (side_ends y to (omega arith)))
  simple_passes (tree.set_element at x o t c eq y to) = name at x (in_square o c (tree_passes t) (omega arith) (equals_then eq (side_ends y to (omega arith))))
  simple_passes (tree.declaration int at x eq y to) = key int_key int (name at x (equals_then eq (side_ends y to (omega arith))))
  simple_passes (tree.pointer int p eq y to) = key int_key int (both (weaker (pointer_passes p) (omega arith)) (equals_then eq (side_ends y to (omega arith))))
  simple_passes (tree.run t to) = ended to (weaker (call_passes t) (omega arith))
  simple_passes (tree.break_loop at to) = key break_key at (end to)
  simple_passes (tree.return_off at to) = key return_key at (end to)
  simple_passes (tree.return_side at y to) = key return_key at (side_ends y to (omega arith))
  simple_passes (tree.assert_that at c to) = key assert_key at (ended to (cond_passes c))
  simple_passes (tree.output at c to) = key client_out_key at (ended to (cond_passes c))
  simple_passes (tree.point at o n k c to) = key dsu_update_key at (in_round o c (number {n = 0} n (pos k) empty) (omega arith) (end to))
  simple_passes (tree.force at o c to) = key dsu_force_key at (in_round o c (empty {n = 0}) (omega arith) (end to))
  simple_passes (tree.pick at o v vo vc c a el b) =
      let high = pick_high a in
      key if_key at
      (in_round {n = 1} o c (key dsu_updated_key v (in_round vo vc (empty {n = 0}) (omega arith) empty)) (omega (arith, high))
      (both (pick_passes a (omega arith)) (key else_key el (pick_passes b (omega arith)))))

  -- ---- statements

  mutual
    piece_passes : (t : Piece) → Passes (height t) (tokens t)
    piece_passes (tree.simple t) = simple_passes t
    piece_passes (tree.if_only at c b) = key if_key at (both (weaker (cond_passes c) (omega arith)) (body_passes b (omega arith)))
    piece_passes (tree.if_else at c b el n) =
        key if_key at (both (weaker (cond_passes c) (omega arith)) (both (body_passes b (omega arith)) (key else_key el (body_passes n (omega arith)))))
    piece_passes (tree.while_loop at c b) = key while_key at (both (weaker (cond_passes c) (omega arith)) (body_passes b (omega arith)))

    body_passes : {n : ℕ} (b : Body) → body_height b + 1 ≤ n → Passes n (body_tokens b)
    body_passes (tree.single t) le = weaker (piece_passes t) (omega (arith, le))
    body_passes (tree.block o ts c) le = in_braces o c (pieces_pass ts) le empty

    pieces_pass : (ts : Pieces) → Passes (pieces_height ts) (pieces_tokens ts)
    pieces_pass tree.none = empty
    pieces_pass (tree.next t ts) = both (weaker (piece_passes t) (omega arith)) (weaker (pieces_pass ts) (omega arith))

  -- ---- declarations

  param_passes : (t : ParamTree) → Passes 1 (param_tokens t)
  param_passes (unit.nameless int) = key int_key int empty
  param_passes (unit.number int at x) = key int_key int (name at x empty)
  param_passes (unit.pointer int p) = key int_key int (pointer_passes p)

  params_pass : (ps : ParamsTree) → Passes 1 (params_tokens ps)
  params_pass unit.nothing = empty
  params_pass (unit.void at) = key void_key at empty
  params_pass (unit.several ts) = each param_tokens 1 param_passes ts

  head_passes : (h : HeadTree) → Passes 2 (head_tokens h)
  head_passes h = key _ h.at (name h.name_at h.name (in_round h.opens h.closes (params_pass h.params) (omega arith) empty))

  signed_passes : (t : SignedTree) → Passes 0 (signed_tokens t)
  signed_passes (unit.plain at n) = number at (pos n) empty
  signed_passes (unit.negative sign at n) = one (mark minus sign) (λ now. refl) (number at (pos n) empty)

  number_passes : (i : NumberInit) → Passes 0 (number_init_tokens i)
  number_passes unit.nothing = empty
  number_passes (unit.given eq x) = equals_then eq (signed_passes x)

  array_passes : (i : ArrayInit) → Passes 1 (array_init_tokens i)
  array_passes unit.nothing = empty
  array_passes (unit.given eq o xs c) = equals_then eq (in_braces o c (each signed_tokens 0 signed_passes xs) (omega arith) empty)

  target_passes : (i : PointerInit) → Passes 0 (pointer_init_tokens i)
  target_passes unit.nothing = empty
  target_passes (unit.function eq at f) = equals_then eq (name at f empty)
  target_passes (unit.null eq at) = equals_then eq (number at (pos 0) empty)

  external_passes : {n : ℕ} (x : External) → external_height x + 2 ≤ n → Passes n (external_tokens x)
  external_passes (unit.number int at x i to) le = key int_key int (name at x (ended to (weaker (number_passes i) (omega arith))))
  external_passes (unit.array int at x o n size c i to) le =
      key int_key int (name at x (in_square {n = 0} o c (number n (pos size) empty) (omega (arith, le)) (ended to (weaker (array_passes i) (omega (arith, le))))))
  external_passes (unit.pointer int p i to) le =
      key int_key int (both (weaker (pointer_passes p) (omega (arith, le))) (ended to (weaker (target_passes i) (omega arith))))
  external_passes (unit.prototype h to) le = ended to (weaker (head_passes h) (omega (arith, le)))
  external_passes (unit.function h o ts c) le = both (weaker (head_passes h) (omega (arith, le))) (in_braces o c (pieces_pass ts) (omega (arith, le)) empty)

  unit_passes : {n : ℕ} (xs : List External) → unit_height xs + 2 ≤ n → Passes n (unit_tokens xs)
  unit_passes [] le = empty
  unit_passes (x ∷ xs) le = both (external_passes x (omega (arith, le))) (unit_passes xs (omega (arith, le)))

-- a function's brace is one more than its statements open, and a pointer in a function's head is open two deep
pub few_open : (u : Unit) (deep : ℕ) (ts : List Token) (P : Program) → Gram u deep ts P → IsNested (deep + 2) ts
few_open u deep ts P g =
    let d = deep + 2 in
    let le = g.height_fits in
    let whole = (unit_passes d {n = d} g.tree (omega (arith, le))).over 0 (omega arith) [] in
    subst (λ (ts : List Token). too_deep d 0 ts ≡ None) (append-nil (unit_tokens g.tree) ∙ g.written) whole
