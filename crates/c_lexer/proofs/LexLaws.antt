-- The clauses of `lex`, from what its loop computes.
use Rattle.std.proofs.Common.{All, ◌≡◌, ◌≢◌, ◌<◌, ◌≤◌, ℕ, List, length, Result, Ok, Err, refl, sym, ap, subst, ◌∙◌, arith, inl, inr}
use Rattle.std.specs.Global.{Vec}
use Rattle.std.specs.Prelude.{MatchResult, IfOk, ◌⊎◌}
use Rattle.std.proofs.lemmas.Bool.{cases_lt}
use Rattle.c_lang.specs.Names.{Bytes}
use Rattle.c_lang.specs.Limits.{size_limit}
use Rattle.c_lang.specs.Units.{at}
use Rattle.c_lang.specs.declared.unit.Unit.{Unit}
use Rattle.c_lang.specs.declared.unit.Unit.TheVariants.{Old, New, Xform, Client, Merge, Hints, Certs}
use Rattle.c_lang.specs.declared.refusal.Fail.{Fail}
use Rattle.c_lang.specs.declared.refusal.Fail.TheVariants as fail
use Rattle.c_lang.specs.declared.refusal.Refusal.{Refusal}
use Rattle.c_grammar.specs.Pieces.{fault_number}
use Rattle.c_grammar.specs.Lexed.{Lexed, first_place, Refused, too_long, has_fault, IsRefusedAs, AreSpans}
use Rattle.c_lang.specs.Refusals.{refused_at, past_limit}
use Rattle.c_grammar.specs.Written.{MayBeWritten, IsGiven}
use Rattle.std.proofs.lemmas.List.Elements.{Contains-get_or}
use Rattle.c_lexer.specs.Code.Reading.{Outcome, Fails, reading}
use Rattle.c_grammar.specs.declared.token.Token.{Token}
use Rattle.c_lexer.proofs.Turns.{ok_is}
use Rattle.c_lexer.proofs.Complete.{cuts_again}
use Rattle.c_lexer.proofs.Sound.{Means, means, stops_again}
use Rattle.c_lexer.proofs.Spans.{spans}

-- the loop's answer
abbrev pub Reads : Unit → Bytes → Result (Vec Token) Fail → Type 0
Reads u z r = MatchResult r (λ tokens. reading u z ≡ Ok tokens.items) (λ f. Fails f (reading u z))

means_whole : (u : Unit) (z : Bytes) (o : Outcome) → reading u z ≡ o → Means u (first_place u) z o
means_whole u z o e = subst (Means u (first_place u) z) e (means u (length z) (first_place u) z (omega arith))

pub answers : (u : Unit) (z : Bytes) (r : Result (Vec Token) Fail) → length z ≤ size_limit u → Reads u z r → MatchResult r (λ tokens. (length z ≤ size_limit u) × Lexed u z tokens.items) (λ f. IsRefusedAs f u z)
answers u z (Ok tokens) within h = (within, means_whole u z (Ok tokens.items) h)
answers u z (Err fail.NoMemory) within h = tt
answers u z (Err (fail.Refused why)) within h =
    let m = means_whole u z (Err why) h in
    subst (Refused u z) (sym m.same) (has_fault m.fault m.position within m.stops)

pub only : (u : Unit) (z : Bytes) (r : Result (Vec Token) Fail) → Reads u z r → (tokens : List Token) → Lexed u z tokens → MatchResult r (λ answer. answer.items ≡ tokens) (λ f. f ≡ fail.NoMemory)
only u z (Ok answer) h tokens is = let e = cuts_again u (first_place u) z tokens is in ok_is answer.items tokens (sym h ∙ e)
only u z (Err fail.NoMemory) h tokens is = refl
only u z (Err (fail.Refused why)) h tokens is = let e = cuts_again u (first_place u) z tokens is in absurd cc

abbrev err : Refusal → Outcome
err why = Err why

err_is : (why other : Refusal) → err why ≡ err other → why ≡ other
err_is why other e = cc

-- within the limit the reason is the first fault
reads_refused : (u : Unit) (z : Bytes) (why : Refusal) → length z ≤ size_limit u → Refused u z why → reading u z ≡ err why
reads_refused u z why within (too_long long) = let never : ⊥ = omega arith in absurd never
reads_refused u z why within (has_fault f p le is) = stops_again u (first_place u) z f p is

pub first : (u : Unit) (z : Bytes) (r : Result (Vec Token) Fail) → length z ≤ size_limit u → Reads u z r → (why : Refusal) → Refused u z why → MatchResult r (λ _. ⊥) (λ f. f ≢ fail.NoMemory → f ≡ fail.Refused why)
first u z (Ok answer) within h why is = let e = reads_refused u z why within is in cc
first u z (Err fail.NoMemory) within h why is = λ other. absurd (other refl)
first u z (Err (fail.Refused given)) within h why is =
    let same = err_is given why (sym h ∙ reads_refused u z why within is) in
    λ other. ap (λ (w : Refusal). fail.Refused w) same

pub may_be_written : (u : Unit) (size : ℕ) → size ≤ size_limit u → MayBeWritten u size
may_be_written Old size h = h
may_be_written New size h = h
may_be_written Xform size h = h
may_be_written Client size h = h
may_be_written Merge size h = tt
may_be_written Hints size h = h
may_be_written Certs size h = h

pub given_by : (u : Unit) (z : Bytes) (r : Result (Vec Token) Fail) → length z ≤ size_limit u → Reads u z r → IfOk r (λ tokens. All (IsGiven u) tokens.items)
given_by u z (Ok tokens) within h =
    λ k d lt. record { bytes = z; size = may_be_written u (length z) within; tokens = tokens.items; lexed = means_whole u z (Ok tokens.items) h; there = Contains-get_or tokens.items k d lt }
given_by u z (Err f) within h = tt

pub spans_of : (u : Unit) (z : Bytes) (r : Result (Vec Token) Fail) → Reads u z r → IfOk r (λ tokens. AreSpans z 0 tokens.items)
spans_of u z (Ok tokens) h = spans u z tokens.items (means_whole u z (Ok tokens.items) h)
spans_of u z (Err f) h = tt

-- past the limit there is one reason
pub only_long : (u : Unit) (z : Bytes) (why : Refusal) → size_limit u < length z → Refused u z why → refused_at past_limit (at u 1) ≡ why
only_long u z why long (too_long _) = refl
only_long u z why long (has_fault f p le is) = let never : ⊥ = omega arith in absurd never

pub one_list : (u : Unit) (z : Bytes) (some other : List Token) → Lexed u z some → Lexed u z other → some ≡ other
one_list u z some other a b = ok_is some other (sym (cuts_again u (first_place u) z some a) ∙ cuts_again u (first_place u) z other b)

pub one_reason : (u : Unit) (z : Bytes) (why other : Refusal) → Refused u z why → Refused u z other → why ≡ other
one_reason u z why other (too_long long) b = only_long u z other long b
one_reason u z why other (has_fault f p within is) b =
    err_is why other (sym (reads_refused u z why within (has_fault f p within is)) ∙ reads_refused u z other within b)

pub either : (u : Unit) (z : Bytes) → ((length z ≤ size_limit u) × ((tokens : List Token) × Lexed u z tokens)) ⊎ ((why : Refusal) × Refused u z why)
either u z = by_size (cases_lt (size_limit u) (length z))
  where
    by_outcome : length z ≤ size_limit u → (o : Outcome) → Means u (first_place u) z o → ((length z ≤ size_limit u) × ((tokens : List Token) × Lexed u z tokens)) ⊎ ((why : Refusal) × Refused u z why)
    by_outcome within (Ok tokens) m = inl (within, (tokens, m))
    by_outcome within (Err why) m = inr (refused_at (fault_number m.fault) m.position, has_fault m.fault m.position within m.stops)

    by_size : (size_limit u < length z) ⊎ (length z ≤ size_limit u) → ((length z ≤ size_limit u) × ((tokens : List Token) × Lexed u z tokens)) ⊎ ((why : Refusal) × Refused u z why)
    by_size (inl long) = inr (refused_at past_limit (at u 1), too_long long)
    by_size (inr within) = by_outcome within (reading u z) (means_whole u z (reading u z) refl)

pub not_both : (u : Unit) (z : Bytes) (tokens : List Token) (why : Refusal) → length z ≤ size_limit u → Lexed u z tokens → Refused u z why → ⊥
not_both u z tokens why within is refused =
    let e = sym (cuts_again u (first_place u) z tokens is) ∙ reads_refused u z why within refused in cc
