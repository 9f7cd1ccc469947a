-- Right sides, conditions and pointers of the grammar are read.
use Rattle.std.specs.Prelude.{⊤}
use Rattle.std.proofs.Common.{◌≡◌, ℕ, pos, ◌+◌, ◌-◌, ◌<◌, ◌≤◌, max, min, List, [], ◌∷◌, ◌++◌, length, map, Option, Some, None, refl, sym, ap, ◌∙◌, subst, append_assoc, arith}
use Rattle.std.proofs.lemmas.List.{length-append}
use Rattle.std.proofs.lemmas.Bool.{lt-ltb}
use Rattle.c_lang.specs.Names.{Bytes}
use Rattle.c_lang.specs.declared.unit.Unit.{Unit}
use Rattle.c_lang.specs.declared.expr.Op.{Op}
use Rattle.c_lang.specs.declared.expr.Op.TheVariants as op
use Rattle.c_lang.specs.declared.expr.Expr.{Expr}
use Rattle.c_grammar.specs.declared.token.Token.{Token}
use Rattle.c_grammar.specs.declared.token.Word.TheVariants as w
use Rattle.c_grammar.specs.declared.right.Call.TheVariants as call
use Rattle.c_grammar.specs.declared.right.Right.TheVariants as right
use Rattle.c_grammar.specs.Tokens.{At, token, mark, operator, round_open, round_close, semicolon, comma, dsu_updated_key}
use Rattle.c_grammar.specs.Separated.{Separated, last, more, parts_of, separated_tokens, Each}
use Rattle.c_expressions.specs.Code.ParseSteps.{◌>>=◌, after, after_key, separated}
use Rattle.c_grammar.specs.Expressions.{Tree, number, name, element, brackets, negation, logical_not, joined, tokens_of, expr_of, IsGrouped}
use Rattle.c_grammar.specs.Expressions as e
use Rattle.c_expressions.specs.Code.ExpressionReading.{Found, next_operator, expr}
use Rattle.c_grammar.specs.Statements as g
use Rattle.c_expressions.specs.Code.SideReading.{Args, argument, with_argument, no_args, close_call, Called, call_at, input_at, choice_at, Side, value_at, right_side, condition, count_int, ints_by, ints_at, pointer_at}
use Rattle.c_expressions.proofs.ExpressionComplete.{reads_all, found as found_expr}
use Rattle.c_expressions.proofs.SeparatedLaws.{all_added, reads_all_parts, size_fits}

-- ---- how an expression begins

pub record Begins (ts : List Token) : Type 0 where
  pub no_close : after round_close ts ≡ None
  pub no_end : after semicolon ts ≡ None
  pub no_key : (k : ℕ) → after_key k ts ≡ None

pub begins_so : (t : Tree) (rest : List Token) → Begins (tokens_of t ++ rest)
begins_so (number at n) rest = record { no_close = refl; no_end = refl; no_key = λ k. refl }
begins_so (name at x) rest = record { no_close = refl; no_end = refl; no_key = λ k. refl }
begins_so (element at x o t c) rest = record { no_close = refl; no_end = refl; no_key = λ k. refl }
begins_so (brackets o t c) rest = record { no_close = refl; no_end = refl; no_key = λ k. refl }
begins_so (negation at t) rest = record { no_close = refl; no_end = refl; no_key = λ k. refl }
begins_so (logical_not at t) rest = record { no_close = refl; no_end = refl; no_key = λ k. refl }
begins_so (joined a at o b) rest =
    subst (λ (ts : List Token). Begins ts) (sym (append_assoc (tokens_of a) (operator o at ∷ tokens_of b) rest)) (begins_so a (operator o at ∷ (tokens_of b ++ rest)))

no_call_after : (o : Op) (at : At) (ts : List Token) → after round_open (operator o at ∷ ts) ≡ None
no_call_after op.Add at ts = refl
no_call_after op.Sub at ts = refl
no_call_after op.Mul at ts = refl
no_call_after op.Div at ts = refl
no_call_after op.Rem at ts = refl
no_call_after op.Lt at ts = refl
no_call_after op.Gt at ts = refl
no_call_after op.Le at ts = refl
no_call_after op.Ge at ts = refl
no_call_after op.Eq at ts = refl
no_call_after op.Ne at ts = refl
no_call_after op.And at ts = refl
no_call_after op.Or at ts = refl

-- no expression begins as a call does
is_value : (u : Unit) (d : ℕ) (t : Tree) (rest : List Token) → after round_open rest ≡ None → right_side u d (tokens_of t ++ rest) ≡ value_at d (tokens_of t ++ rest)
unfolding right_side
is_value u d (number at n) rest h = refl
is_value u d (name at x) rest h = rw h refl
is_value u d (element at x o t c) rest h = refl
is_value u d (brackets o t c) rest h = refl
is_value u d (negation at t) rest h = refl
is_value u d (logical_not at t) rest h = refl
is_value u d (joined a at o b) rest h =
    let split = append_assoc (tokens_of a) (operator o at ∷ tokens_of b) rest in
    ap (right_side u d) split ∙ is_value u d a (operator o at ∷ (tokens_of b ++ rest)) (no_call_after o at (tokens_of b ++ rest)) ∙ sym (ap (value_at d) split)

-- ---- arguments

abbrev pub add_argument : Args → Tree → Args
add_argument acc t = record { exprs = acc.exprs ++ expr_of t ∷ []; height = max acc.height (e.height t) }

abbrev pub Fits : ℕ → Tree → Type 0
Fits d t = IsGrouped t × (e.height t ≤ d)

abbrev pub EndsExpr : List Token → Type 0
EndsExpr rest = (after 4 rest ≡ None) × (next_operator rest ≡ None)

one_argument : (d : ℕ) (t : Tree) (acc : Args) (rest : List Token) → Fits d t → EndsExpr rest → argument d acc (tokens_of t ++ rest) ≡ Some (add_argument acc t, rest)
one_argument d t acc rest f h = ap (λ (r : Option Found). r >>= λ x. Some (with_argument acc x, x.rest)) (reads_all t d rest f.0 f.1 h.0 h.1)

pub added_are : (ts : Separated Tree) (acc : Args) → all_added add_argument acc ts ≡ record { exprs = acc.exprs ++ map expr_of (parts_of ts); height = max acc.height (g.tallest ts) }
added_are (last t) acc = refl
added_are (more t at ts) acc =
    added_are ts (add_argument acc t)
    ∙ ap (λ (es : List Expr). record { exprs = es; height = max (max acc.height (e.height t)) (g.tallest ts) }) (append_assoc acc.exprs (expr_of t ∷ []) (map expr_of (parts_of ts)))
    ∙ ap (λ (n : ℕ). record { exprs = acc.exprs ++ expr_of t ∷ map expr_of (parts_of ts); height = n }) (omega arith)

each_fits : (d : ℕ) (ts : Separated Tree) → Each IsGrouped ts → g.tallest ts ≤ d → Each (Fits d) ts
each_fits d (last t) h high = (h, high)
each_fits d (more t at ts) h high = ((h.0, omega arith), each_fits d ts h.1 (omega arith))

given_begin : (ts : Separated Tree) (rest : List Token) → Begins (separated_tokens tokens_of ts ++ rest)
given_begin (last t) rest = begins_so t rest
given_begin (more t at ts) rest =
    subst (λ (us : List Token). Begins us) (sym (append_assoc (tokens_of t) (mark comma at ∷ separated_tokens tokens_of ts) rest)) (begins_so t (mark comma at ∷ (separated_tokens tokens_of ts ++ rest)))

abbrev pub found_call : g.CallTree → List Token → Called
found_call c rest = record { call = g.call_of c; height = g.call_height c; rest = rest }

abbrev called_of : Bytes → List Expr → ℕ → List Token → Called
called_of f es n rest = record { call = call.Function f es; height = n; rest = rest }

pub args_again : (a : g.Arguments) (d : ℕ) (f : Bytes) (c : At) (rest : List Token) → g.AreArguments a → g.part_height a + 1 ≤ d
    → call_at d f (g.argument_tokens a ++ mark round_close c ∷ rest) ≡ Some (record { call = call.Function f (g.exprs_of a); height = g.part_height a + 1; rest = rest })
unfolding call_at
args_again g.nothing d f c rest h high = let lt : 1 < d = omega arith in rw (lt-ltb _ _ lt) refl
args_again (g.given ts) d f c rest h high =
    let lt : 1 < d = omega arith in
    let z = mark round_close c ∷ rest in
    let all : separated (argument (d - 1)) (length (separated_tokens tokens_of ts ++ z) + 1) no_args (separated_tokens tokens_of ts ++ z) ≡ Some (all_added add_argument no_args ts, z) =
    reads_all_parts (argument (d - 1)) tokens_of add_argument (Fits (d - 1)) EndsExpr (λ at us. (refl, refl)) (one_argument (d - 1)) ts (length (separated_tokens tokens_of ts ++ z) + 1) no_args z
    (each_fits (d - 1) ts h (omega arith)) (omega (arith, size_fits (argument (d - 1)) tokens_of add_argument ts, length-append (separated_tokens tokens_of ts) z)) (refl, refl) refl in
    rw (lt-ltb _ _ lt, (given_begin ts z).no_close) (ap (λ (r : Option (Args × List Token)). r >>= close_call f) all ∙ ap (λ (x : Args). close_call f (x, z)) (added_are ts no_args))

-- ---- right sides

-- behind its first token
abbrev pub call_start : Unit → ℕ → g.CallTree → List Token → Option Called
call_start u d (g.function c) rest = call_at d c.callee (g.argument_tokens c.arguments ++ mark round_close c.closes ∷ rest)
call_start u d (g.input at o c) rest = input_at d (mark round_open o ∷ mark round_close c ∷ rest)
call_start u d (g.choice at o n k c) rest = choice_at u d (mark round_open o ∷ token n (w.Number (pos k)) ∷ mark round_close c ∷ rest)

pub call_again : (c : g.CallTree) (u : Unit) (d : ℕ) (rest : List Token) → g.IsCall u c → g.call_height c ≤ d → call_start u d c rest ≡ Some (found_call c rest)
unfolding input_at choice_at
call_again (g.function c) u d rest h high = args_again c.arguments d c.callee c.closes rest h high
call_again (g.input at o c) u d rest h high = let lt : 0 < d = omega arith in rw (lt-ltb _ _ lt) refl
call_again (g.choice at o n k c) u d rest h high = let lt : 1 < d = omega arith in rw (h, lt-ltb _ _ lt) refl

abbrev pub found_side : g.SideTree → List Token → Side
found_side x rest = record { right = g.right_of x; height = g.side_height x; rest = rest }

abbrev side_of_call : Option Called → Option Side
side_of_call c = c >>= λ x. Some (record { right = right.Call x.call; height = x.height; rest = x.rest })

pub side_again : (x : g.SideTree) (u : Unit) (d : ℕ) (end : At) (rest : List Token) → g.IsSide u x → g.side_height x ≤ d
    → right_side u d (g.side_tokens x ++ mark semicolon end ∷ rest) ≡ Some (found_side x (mark semicolon end ∷ rest))
unfolding right_side
side_again (g.value t) u d end rest h high =
    let z = mark semicolon end in
    is_value u d t (z ∷ rest) refl ∙ ap (λ (r : Option Found). r >>= λ x. Some (record { right = right.Value x.expr; height = x.height; rest = x.rest })) (reads_all t d (z ∷ rest) h high refl refl)
side_again (g.called (g.function c)) u d end rest h high =
    let z = mark semicolon end ∷ rest in
    ap (λ (ts : List Token). side_of_call (call_at d c.callee ts)) (append_assoc (g.argument_tokens c.arguments) (mark round_close c.closes ∷ []) z)
    ∙ ap side_of_call (call_again (g.function c) u d z h high)
side_again (g.called (g.input at o c)) u d end rest h high = ap side_of_call (call_again (g.input at o c) u d (mark semicolon end ∷ rest) h high)
side_again (g.called (g.choice at o n k c)) u d end rest h high = ap side_of_call (call_again (g.choice at o n k c) u d (mark semicolon end ∷ rest) h high)

pub cond_again : (c : g.CondTree) (d : ℕ) (rest : List Token) → IsGrouped c.tree → e.height c.tree ≤ d → condition d (g.cond_tokens c ++ rest) ≡ Some (found_expr c.tree rest)
unfolding condition
cond_again c d rest h high =
    let z = mark round_close c.closes in
    let inside : expr d 1 ((tokens_of c.tree ++ z ∷ []) ++ rest) ≡ Some (found_expr c.tree (z ∷ rest)) = ap (expr d 1) (append_assoc (tokens_of c.tree) (z ∷ []) rest) ∙ reads_all c.tree d (z ∷ rest) h high refl refl in
    rw inside refl

-- no condition begins as a pick does
pub no_pick : (c : g.CondTree) (rest : List Token) → after_key dsu_updated_key ((tokens_of c.tree ++ mark round_close c.closes ∷ []) ++ rest) ≡ None
no_pick c rest = ap (after_key dsu_updated_key) (append_assoc (tokens_of c.tree) (mark round_close c.closes ∷ []) rest) ∙ (begins_so c.tree (mark round_close c.closes ∷ rest)).no_key dsu_updated_key

-- ---- pointers

abbrev pub count_part : ℕ → At → ℕ
count_part n at = min (n + 1) 33

one_int : (at : At) (n : ℕ) (rest : List Token) → ⊤ → ⊤ → count_int n (g.int_tokens at ++ rest) ≡ Some (count_part n at, rest)
one_int at n rest p h = refl

pub counted_are : (ts : Separated At) (n : ℕ) → n ≤ 33 → all_added count_part n ts ≡ min (n + length (parts_of ts)) 33
counted_are (last t) n le = refl
counted_are (more t at ts) n le = counted_are ts (min (n + 1) 33) (omega arith) ∙ omega arith

each_at : (ts : Separated At) → Each (λ (at : At). ⊤) ts
each_at (last t) = tt
each_at (more t at ts) = (tt, each_at ts)

no_close_int : (ts : Separated At) (rest : List Token) → after round_close (separated_tokens g.int_tokens ts ++ rest) ≡ None
no_close_int (last t) rest = refl
no_close_int (more t at ts) rest = refl

no_void_int : (ts : Separated At) (rest : List Token) → after_key 48 (separated_tokens g.int_tokens ts ++ rest) ≡ None
no_void_int (last t) rest = refl
no_void_int (more t at ts) rest = refl

pub ints_again : (x : g.Ints) (c : At) (rest : List Token) → ints_at (g.ints_tokens x ++ mark round_close c ∷ rest) ≡ Some (min (g.ints_count x) 33, rest)
unfolding ints_at
ints_again g.nothing c rest = refl
ints_again (g.void at) c rest = refl
ints_again (g.ints ts) c rest =
    let z = mark round_close c ∷ rest in
    let all = separated_tokens g.int_tokens ts ++ z in
    let read : separated count_int (length all + 1) 0 all ≡ Some (all_added count_part 0 ts, z) =
    reads_all_parts count_int g.int_tokens count_part (λ at. ⊤) (λ us. ⊤) (λ at us. tt) one_int ts (length all + 1) 0 z (each_at ts) (omega (arith, size_fits count_int g.int_tokens count_part ts, length-append (separated_tokens g.int_tokens ts) z)) tt refl in
    ap (λ (o : Option (List Token)). ints_by all o (after_key 48 all)) (no_close_int ts z)
    ∙ ap (λ (o : Option (List Token)). ints_by all None o) (no_void_int ts z)
    ∙ ap (λ (r : Option (ℕ × List Token)). r >>= λ x. after round_close x.1 >>= λ rest. Some (x.0, rest)) read
    ∙ ap (λ (n : ℕ). Some (n, rest)) (counted_are ts 0 (omega arith) ∙ ap (λ (n : ℕ). min n 33) (omega arith))

pub pointer_again : (p : g.PointerTree) (rest : List Token) → pointer_at (g.pointer_tokens p ++ rest) ≡ Some (record { name = p.name; arity = g.arity p; rest = rest })
unfolding pointer_at
pointer_again p rest =
    let inside : ints_at ((g.ints_tokens p.params ++ mark round_close p.params_close ∷ []) ++ rest) ≡ Some (min (g.ints_count p.params) 33, rest) =
    ap ints_at (append_assoc (g.ints_tokens p.params) (mark round_close p.params_close ∷ []) rest) ∙ ints_again p.params p.params_close rest in
    rw inside refl
