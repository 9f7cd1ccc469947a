-- Open brackets.
use Rattle.std.specs.Prelude.{◌≡◌, ℕ, ◌+◌, ◌-◌, nat_lt, ◌==◌, ◌||◌, if◌then◌else◌, List, [], ◌∷◌, Option, Some, None}
use Rattle.c_lang.specs.declared.unit.Pos.{Pos}
use Rattle.c_grammar.specs.declared.token.Token.{Token}
use Rattle.c_grammar.specs.declared.token.Word.{Word}
use Rattle.c_grammar.specs.declared.token.Word.TheVariants as w
use Rattle.c_grammar.specs.Tokens.{round_open, round_close, brace_open, brace_close, square_open, square_close}

abbrev pub opened_by : ℕ → ℕ → ℕ
opened_by open_now k =
    if k == round_open || k == brace_open || k == square_open then open_now + 1 else
    (if k == round_close || k == brace_close || k == square_close then open_now - 1 else open_now)

-- how many brackets are open after a token; a closing bracket closes one where one is open
abbrev pub opened : ℕ → Word → ℕ
opened open_now (w.Punct k) = opened_by open_now k
opened open_now _ = open_now

-- the position of the first token at which more than so many brackets are open
abbrev pub too_deep : ℕ → ℕ → List Token → Option Pos
too_deep deep open_now [] = None
too_deep deep open_now (t ∷ ts) =
    if nat_lt deep (opened open_now t.what) then Some t.pos else too_deep deep (opened open_now t.what) ts

-- at each token at most so many brackets are open
abbrev pub IsNested : ℕ → List Token → Type 0
IsNested deep ts = too_deep deep 0 ts ≡ None
