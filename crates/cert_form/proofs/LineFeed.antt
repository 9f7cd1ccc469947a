-- A line feed at its end changes nothing in what a text is read as.
use Rattle.std.proofs.Common.{◌≡◌, ◌∙◌, ◌≤◌, ◌-◌, ℕ, List, [], ◌∷◌, ◌++◌, Option, None, Some, Bool, true, false, cond, ◌&&◌, ◌||◌, ◌==◌, length, drop, option_map, option_and_then, length-append, refl, ap, ap₂, arith, nat_eq}
use Rattle.std.specs.Prelude.{⊤}
use Rattle.std.proofs.Math.Bool.{and-false}
use Rattle.std.proofs.lemmas.List.{drop-append-le, take-append-le}
use Rattle.std.proofs.lemmas.List.Sums.{prefix_len-le-length}
use Rattle.std.specs.List.{prefix_len, starts_with}
use Rattle.std.specs.Char.{is_ascii_digit}
use Rattle.json.specs.Token.{Token}
use Rattle.json.specs.Text.{Within, plain, after_backslash, after_u, after_high, content, code_unit, short_escape}
use Rattle.json.specs.Word.{ends_word, after_digits, after_minus, after_sign, after_whole, after_fraction, after_exponent, after_number, number_before, literal, word}
use Rattle.json.specs.Lex.{Mode, between, in_word, in_string, in_escape, Class, quote, backslash, operator, space, other, class, lex, lex_byte, punctuate, fresh, operator_lexeme, Lexeme, token}
use Rattle.json.specs.Ascii as ascii
use Rattle.json.specs.Json as json
use Rattle.serde_json.specs.Read.{read, of_json, max_depth}

abbrev feed : List ℕ → List ℕ
feed text = text ++ 10 ∷ []

-- ---- strings

no-digit : (a b c : ℕ) → code_unit a b c 10 ≡ None
unfolding code_unit
no-digit a b c = rw and-false refl

same-units : (o : Option ℕ) (f g : ℕ → Option (List ℕ)) → ((u : ℕ) → f u ≡ g u) → option_and_then f o ≡ option_and_then g o
same-units None f g same = refl
same-units (Some u) f g same = same u

abbrev no_bytes : Option (List ℕ)
no_bytes = None

either-none : (b : Bool) → cond b no_bytes no_bytes ≡ no_bytes
either-none true = refl
either-none false = refl

content-feed : (w : Within) (xs : List ℕ) → content w (feed xs) ≡ content w xs
unfolding content short_escape
content-feed plain [] = refl
content-feed plain (x ∷ xs) = rw (content-feed after_backslash xs, content-feed plain xs) refl
content-feed after_backslash [] = refl
content-feed after_backslash (x ∷ xs) = rw (content-feed after_u xs, content-feed plain xs) refl
content-feed after_u [] = refl
content-feed after_u (a ∷ []) = refl
content-feed after_u (a ∷ b ∷ []) = refl
content-feed after_u (a ∷ b ∷ c ∷ []) = rw (no-digit a b c) refl
content-feed after_u (a ∷ b ∷ c ∷ d ∷ xs) =
    same-units (code_unit a b c d) _ _ (λ u. rw (content-feed (after_high u) xs, content-feed plain xs) refl)
content-feed (after_high h) [] = refl
content-feed (after_high h) (s ∷ []) = refl
content-feed (after_high h) (s ∷ u ∷ []) = refl
content-feed (after_high h) (s ∷ u ∷ a ∷ []) = refl
content-feed (after_high h) (s ∷ u ∷ a ∷ b ∷ []) = refl
content-feed (after_high h) (s ∷ u ∷ a ∷ b ∷ c ∷ []) = rw (no-digit a b c) (either-none _)
content-feed (after_high h) (s ∷ u ∷ a ∷ b ∷ c ∷ d ∷ xs) = rw (content-feed plain xs) refl

-- ---- numbers and literals

ends-feed : (t : List ℕ) → ends_word (feed t) ≡ ends_word t
ends-feed [] = refl
ends-feed (x ∷ xs) = refl

abbrev fed : Option (List ℕ) → Option (List ℕ)
fed o = option_map feed o

either-feed : (b : Bool) (s t : List ℕ) → cond b (feed s) (feed t) ≡ feed (cond b s t)
either-feed true s t = refl
either-feed false s t = refl

either-fed : (b : Bool) (o p : Option (List ℕ)) → cond b (fed o) (fed p) ≡ fed (cond b o p)
either-fed true o p = refl
either-fed false o p = refl

prefix-feed : (t : List ℕ) → prefix_len is_ascii_digit (feed t) ≡ prefix_len is_ascii_digit t
prefix-feed [] = refl
prefix-feed (x ∷ xs) = rw (prefix-feed xs) refl

digits-feed : (t : List ℕ) → after_digits (feed t) ≡ fed (after_digits t)
digits-feed t =
    let few = prefix_len-le-length is_ascii_digit t in
    rw (prefix-feed t, drop-append-le (prefix_len is_ascii_digit t) t (10 ∷ []) few) (either-fed (prefix_len is_ascii_digit t == 0) None (Some (drop (prefix_len is_ascii_digit t) t)))

minus-feed : (t : List ℕ) → after_minus (feed t) ≡ feed (after_minus t)
minus-feed [] = refl
minus-feed (x ∷ xs) = either-feed _ xs (x ∷ xs)

sign-feed : (t : List ℕ) → after_sign (feed t) ≡ feed (after_sign t)
sign-feed [] = refl
sign-feed (x ∷ xs) = either-feed _ xs (x ∷ xs)

whole-feed : (t : List ℕ) → after_whole (feed t) ≡ fed (after_whole t)
whole-feed [] = refl
whole-feed (x ∷ xs) = ap (cond (x == ascii.zero) (Some (feed xs))) (digits-feed (x ∷ xs)) ∙ either-fed (x == ascii.zero) (Some xs) (after_digits (x ∷ xs))

fraction-feed : (t : List ℕ) → after_fraction (feed t) ≡ fed (after_fraction t)
fraction-feed [] = refl
fraction-feed (x ∷ xs) = ap (λ o. cond (x == ascii.dot) o (Some (feed (x ∷ xs)))) (digits-feed xs) ∙ either-fed (x == ascii.dot) (after_digits xs) (Some (x ∷ xs))

exponent-feed : (t : List ℕ) → after_exponent (feed t) ≡ fed (after_exponent t)
exponent-feed [] = refl
exponent-feed (x ∷ xs) =
    let e = (x == ascii.lower_e) || (x == ascii.upper_e) in
    ap (λ o. cond e o (Some (feed (x ∷ xs)))) (ap after_digits (sign-feed xs) ∙ digits-feed (after_sign xs)) ∙ either-fed e (after_digits (after_sign xs)) (Some (x ∷ xs))

then-feed : (f : List ℕ → Option (List ℕ)) → ((t : List ℕ) → f (feed t) ≡ fed (f t)) → (o : Option (List ℕ)) → option_and_then f (fed o) ≡ fed (option_and_then f o)
then-feed f same None = refl
then-feed f same (Some t) = same t

number-feed : (t : List ℕ) → after_number (feed t) ≡ fed (after_number t)
unfolding after_number
number-feed t =
    ap (λ (s : List ℕ). option_and_then after_exponent (option_and_then after_fraction (after_whole s))) (minus-feed t)
    ∙ ap (λ o. option_and_then after_exponent (option_and_then after_fraction o)) (whole-feed (after_minus t))
    ∙ ap (option_and_then after_exponent) (then-feed after_fraction fraction-feed (after_whole (after_minus t)))
    ∙ then-feed after_exponent exponent-feed (option_and_then after_fraction (after_whole (after_minus t)))

before-feed : (t : List ℕ) (o : Option (List ℕ)) → number_before (feed t) (fed o) ≡ number_before t o
before-feed t None = refl
before-feed t (Some rest) =
    let same : length (feed t) - length (feed rest) ≡ length t - length rest = omega (arith, length-append t (10 ∷ []), length-append rest (10 ∷ [])) in
    let few : length t - length rest ≤ length t = omega arith in
    rw (ends-feed rest, same, take-append-le (length t - length rest) t (10 ∷ []) few) refl

abbrev HasNoFeed : List ℕ → Type 0
HasNoFeed [] = ⊤
HasNoFeed (n ∷ ns) = (nat_eq n 10 ≡ false) × HasNoFeed ns

abbrev stands : List ℕ → List ℕ → Bool
stands name t = starts_with nat_eq t name && ends_word (drop (length name) t)

both-tests : (a b c d e : Bool) → (b && c) ≡ (d && e) → ((a && b) && c) ≡ ((a && d) && e)
both-tests true b c d e same = same
both-tests false b c d e same = refl

never : (a b c : Bool) → a ≡ false → ((a && b) && c) ≡ false
never true b c h = absurd (cc)
never false b c h = refl

stands-feed : (name t : List ℕ) → HasNoFeed name → stands name (feed t) ≡ stands name t
stands-feed [] t h = ends-feed t
stands-feed (n ∷ ns) [] h = never (nat_eq n 10) _ _ h.0
stands-feed (n ∷ ns) (x ∷ xs) h = both-tests (nat_eq n x) _ _ _ _ (stands-feed ns xs h.1)

literal-feed : (name : List ℕ) (is : Token) (t : List ℕ) → HasNoFeed name → literal name is (feed t) ≡ literal name is t
literal-feed name is t h = ap (λ b. cond b is Token.bad) (stands-feed name t h)

choose : (b c d : Bool) (k l m n s t u v : Token) → k ≡ s → l ≡ t → m ≡ u → n ≡ v → cond b k (cond c l (cond d m n)) ≡ cond b s (cond c t (cond d u v))
choose b c d k l m n s t u v is_k is_l is_m is_n = cc

word-feed : (x : ℕ) (xs : List ℕ) → word (feed (x ∷ xs)) ≡ word (x ∷ xs)
unfolding word
word-feed x xs =
    let true_feed = literal-feed ascii.true_text (Token.boolean true) (x ∷ xs) (refl, (refl, (refl, (refl, tt)))) in
    let false_feed = literal-feed ascii.false_text (Token.boolean false) (x ∷ xs) (refl, (refl, (refl, (refl, (refl, tt))))) in
    let null_feed = literal-feed ascii.null_text Token.null (x ∷ xs) (refl, (refl, (refl, (refl, tt)))) in
    let number = ap (number_before (feed (x ∷ xs))) (number-feed (x ∷ xs)) ∙ before-feed (x ∷ xs) (after_number (x ∷ xs)) in
    choose (x == ascii.lower_t) (x == ascii.lower_f) (x == ascii.lower_n) _ _ _ _ _ _ _ _ true_feed false_feed null_feed number

-- ---- tokens

byte-feed : (m : Mode) (c : Class) (x : ℕ) (xs : List ℕ) → ((next : Mode) → lex next (feed xs) ≡ lex next xs)
    → lex_byte m c x (feed xs) (λ next. lex next (feed xs)) ≡ lex_byte m c x xs (λ next. lex next xs)
byte-feed between quote x xs same = rw (content-feed plain xs, same in_string) refl
byte-feed between backslash x xs same = ap (λ (ls : List Lexeme). token Token.bad ∷ ls) (same in_word)
byte-feed between operator x xs same = ap (λ (ls : List Lexeme). operator_lexeme x ∷ ls) (same between)
byte-feed between space x xs same = same between
byte-feed between other x xs same = ap₂ (λ (t : Token) (ls : List Lexeme). token t ∷ ls) (word-feed x xs) (same in_word)
byte-feed in_word quote x xs same = same in_word
byte-feed in_word backslash x xs same = same in_word
byte-feed in_word operator x xs same = ap (λ (ls : List Lexeme). operator_lexeme x ∷ ls) (same between)
byte-feed in_word space x xs same = same between
byte-feed in_word other x xs same = same in_word
byte-feed in_string quote x xs same = same between
byte-feed in_string backslash x xs same = same in_escape
byte-feed in_string operator x xs same = same in_string
byte-feed in_string space x xs same = same in_string
byte-feed in_string other x xs same = same in_string
byte-feed in_escape c x xs same = same in_string

lex-feed : (m : Mode) (text : List ℕ) → lex m (feed text) ≡ lex m text
unfolding lex
lex-feed between [] = refl
lex-feed in_word [] = refl
lex-feed in_string [] = refl
lex-feed in_escape [] = refl
lex-feed m (x ∷ xs) = byte-feed m (class x) x xs (λ next. lex-feed next xs)

pub read-feed : (text : List ℕ) → read (text ++ 10 ∷ []) ≡ read text
read-feed text =
    ap (λ (ls : List Lexeme). option_and_then of_json (option_and_then (λ p. json.if_last p.0 p.1) (json.value max_depth (punctuate fresh ls)))) (lex-feed between text)
