-- What is read is what the text is made of, and what is refused is its first fault.
use Rattle.std.proofs.Common.{◌≡◌, ℕ, zero, suc, ◌+◌, ◌≤◌, Bool, true, false, not, ◌||◌, cond, eqb, [], ◌∷◌, ◌++◌, length, take, drop, Option, Some, None, Ok, Err, refl, ap, subst, ◌∙◌, append_assoc, arith}
use Rattle.std.specs.Prelude.{slice_index}
use Rattle.std.specs.List.{prefix_len, list_all}
use Rattle.std.proofs.lemmas.List.{take_at, drop_at, length-append, take-append-drop, length-take, length-drop}
use Rattle.std.proofs.lemmas.List.Sums.{prefix_len-le-length}
use Rattle.std.proofs.lemmas.Bool.{eqb-true}
use Rattle.std.proofs.lemmas.Bool.Decides.{nat_tests}
use Rattle.c_lang.specs.Names.{Bytes, is_digit, is_letter, is_word}
use Rattle.c_lang.specs.declared.unit.Unit.{Unit}
use Rattle.c_lang.specs.declared.unit.Pos.{Pos}
use Rattle.c_lang.specs.declared.refusal.Refusal.{Refusal}
use Rattle.c_grammar.specs.Bytes.{is_white, is_in_line, is_in_word, is_in_number, IsRun}
use Rattle.c_grammar.specs.Words.{keyword_number, is_refused}
use Rattle.c_grammar.specs.Punctuators.{punctuator_number, IsLongest}
use Rattle.c_grammar.specs.Pieces as text
use Rattle.c_grammar.specs.Pieces.{begins_comment, IsPiece, IsFault, fault_number}
use Rattle.c_grammar.specs.Lexed as whole
use Rattle.c_grammar.specs.Lexed.{place_behind, tokens_of, Cuts, Stops}
use Rattle.c_lang.specs.Refusals.{refused_at}
use Rattle.c_lexer.specs.Code.Reading as spec
use Rattle.c_lexer.specs.Code.Reading.{Cut, closing, piece_at, Outcome, with_front, reading_from}
use Rattle.c_grammar.specs.declared.piece.Fault.{Fault}
use Rattle.c_grammar.specs.declared.piece.Fault.TheVariants as fault
use Rattle.c_grammar.specs.declared.piece.Piece.{Piece}
use Rattle.c_grammar.specs.declared.piece.Piece.TheVariants as piece
use Rattle.c_grammar.specs.declared.piece.Place.{Place}
use Rattle.c_lexer.proofs.Cases.{by_test, by_option, and_both, or_false, not_true, not_false}
use Rattle.c_lexer.proofs.Runs.{run_again, run_is, run_length, run_some, first_taken, first_of_text, letter_in_word, digit_in_number}
use Rattle.c_lexer.proofs.Numbers.{number_again, number_is}
use Rattle.c_lexer.proofs.Comments.{open_is, open_again, closing_is}
use Rattle.c_lexer.proofs.PunctuatorLaws.{at_most_two, pair_is}
use Rattle.c_lexer.proofs.Directives.{include_is, include_again, in_unit_is, in_unit_again}
use Rattle.c_lexer.proofs.Complete.{at_number, at_word, number_piece, line_piece, word_some, word_first, piece_some, piece_read}

-- the text has this piece at its front, of so many bytes
abbrev HasPiece : Unit → Bool → Bytes → Piece → ℕ → Type 0
HasPiece u fresh z x n = (n ≤ length z) × IsPiece u fresh (drop n z) (take n z) x

-- a piece is one, and a fault is one
abbrev Meets : Unit → Bool → Bytes → Cut → Type 0
Meets u fresh z (piece.Space, n) = HasPiece u fresh z piece.Space n
Meets u fresh z (piece.Token what, n) = HasPiece u fresh z (piece.Token what) n
Meets u fresh z (piece.Position p, n) = HasPiece u fresh z (piece.Position p) n
Meets u fresh z (piece.Fault why, n) = IsFault u fresh z why

has_piece : (u : Unit) (fresh : Bool) (z front rest : Bytes) (x : Piece) (n : ℕ) → front ++ rest ≡ z → length front ≡ n → IsPiece u fresh rest front x → HasPiece u fresh z x n
has_piece u fresh z front rest x n parts size is =
    subst (λ (y : Bytes). HasPiece u fresh y x n) parts (rw (take_at front rest n size, drop_at front rest n size) (omega (arith, length-append front rest), is))

-- ---- the pieces

meets_number : (u : Unit) (fresh : Bool) (byte : ℕ) (z : Bytes) → is_digit byte ≡ true → Meets u fresh (byte ∷ z) (spec.number (byte ∷ z))
meets_number u fresh byte z digit =
    let n = prefix_len is_in_number (byte ∷ z) in
    let front = take n (byte ∷ z) in
    let more : 1 ≤ n = run_some is_in_number byte z (digit_in_number byte digit) in
    let some : 1 ≤ length front = omega (arith, run_length is_in_number (byte ∷ z)) in
    let first : slice_index front 0 ≡ byte = first_taken n byte z more in
    by_option (λ o. Meets u fresh (byte ∷ z) (spec.number_by o n)) (spec.number_of front)
    (λ none. subst (λ (y : Bytes). IsFault u fresh y fault.BadNumber) (take-append-drop n (byte ∷ z))
    (text.bad_number front (drop n (byte ∷ z)) (run_is is_in_number (byte ∷ z)) (ap is_digit first ∙ digit) (λ m is. let e = number_again front m is in cc)))
    (λ m e. (prefix_len-le-length is_in_number (byte ∷ z), text.number front m (run_is is_in_number (byte ∷ z)) (number_is front m some e)))

word_taken : (n byte : ℕ) (z : Bytes) → 1 ≤ n → is_letter byte ≡ true → list_all is_in_word (take n (byte ∷ z)) ≡ true → is_word (take n (byte ∷ z)) ≡ true
word_taken zero byte z le letter all = let never : ⊥ = omega arith in absurd never
word_taken (suc n) byte z le letter all = rw (letter, (and_both (is_in_word byte) (list_all is_in_word (take n z)) all).1) refl

meets_word : (u : Unit) (fresh : Bool) (byte : ℕ) (z : Bytes) → is_letter byte ≡ true → Meets u fresh (byte ∷ z) (spec.word u (byte ∷ z))
meets_word u fresh byte z letter =
    let n = prefix_len is_in_word (byte ∷ z) in
    let front = take n (byte ∷ z) in
    let more : 1 ≤ n = run_some is_in_word byte z (letter_in_word byte letter) in
    let run = run_is is_in_word (byte ∷ z) in
    let is : is_word front ≡ true = word_taken n byte z more letter run.all in
    let within = prefix_len-le-length is_in_word (byte ∷ z) in
    by_test (Meets u fresh (byte ∷ z)) (is_refused u front) _ _
    (λ t. subst (λ (y : Bytes). IsFault u fresh y fault.Reserved) (take-append-drop n (byte ∷ z)) (text.reserved front (drop n (byte ∷ z)) run is t))
    (λ free. by_option (λ o. Meets u fresh (byte ∷ z) (spec.word_by front o n)) (keyword_number front)
    (λ none. (within, text.identifier front run is free none))
    (λ k e. (within, text.keyword front k run is free e)))

meets_block : (u : Unit) (fresh : Bool) (z : Bytes) (o : Option ℕ) → closing 0 z ≡ o → Meets u fresh (47 ∷ 42 ∷ z) (spec.block_by o)
meets_block u fresh z None e = text.open_comment z (open_is 0 z e)
meets_block u fresh z (Some m) e =
    let c = closing_is 0 m z e in
    let front = 47 ∷ 42 ∷ (c.body ++ 42 ∷ 47 ∷ []) in
    let parts : front ++ c.rest ≡ 47 ∷ 42 ∷ z = ap (λ (y : Bytes). 47 ∷ 42 ∷ y) (append_assoc c.body (42 ∷ 47 ∷ []) c.rest ∙ c.parts) in
    has_piece u fresh (47 ∷ 42 ∷ z) front c.rest piece.Space (m + 2) parts (omega (arith, c.size, length-append c.body (42 ∷ 47 ∷ []))) (text.block_comment c.body c.first)

meets_comment : (u : Unit) (fresh : Bool) (next : ℕ) (z : Bytes) → (eqb next 42 || eqb next 47) ≡ true → Meets u fresh (47 ∷ next ∷ z) (spec.comment (47 ∷ next ∷ z))
meets_comment u fresh next z h = by_test (Meets u fresh (47 ∷ next ∷ z)) (eqb next 42) _ _
    (λ t. rw (eqb-true next 42 t) (meets_block u fresh z (closing 0 z) refl))
    (λ star. let bar : eqb next 47 ≡ true = rw star at h in
    let n = prefix_len is_in_line z in
    let two : n + 2 ≡ suc (suc n) = omega arith in
    rw (eqb-true next 47 bar, two) (omega (arith, prefix_len-le-length is_in_line z), text.line_comment (take n z) (run_is is_in_line z)))

meets_begun : (u : Unit) (fresh : Bool) (z : Bytes) → begins_comment z ≡ true → Meets u fresh z (spec.comment z)
meets_begun u fresh [] h = absurd cc
meets_begun u fresh (byte ∷ []) h = absurd (let f = (and_both (eqb byte 47) false h).1 in cc)
meets_begun u fresh (byte ∷ next ∷ z) h =
    let both = and_both (eqb byte 47) (eqb next 42 || eqb next 47) h in
    rw (eqb-true byte 47 both.0) (meets_comment u fresh next z both.1)

no_hash : punctuator_number (35 ∷ []) ≡ None
unfolding punctuator_number
no_hash = refl

hash_longest : (z : Bytes) → IsLongest (35 ∷ []) z
unfolding punctuator_number
hash_longest [] = tt
hash_longest (byte ∷ z) = refl

is_false : (b : Bool) → (b ≡ true → ⊥) → b ≡ false
is_false true h = absurd (h refl)
is_false false h = refl

is_none : {A : Type 0} (o : Option A) → ((a : A) → o ≡ Some a → ⊥) → o ≡ None
is_none None h = refl
is_none (Some a) h = absurd (h a refl)

meets_line : (u : Unit) (fresh : Bool) (line rest : Bytes) → fresh ≡ true → IsRun is_in_line (35 ∷ line) rest
    → Meets u fresh (35 ∷ (line ++ rest)) (cond (spec.is_include (35 ∷ line)) (piece.Space, suc (length line)) (spec.directive_by (spec.position_in u (35 ∷ line)) (suc (length line))))
meets_line u fresh line rest new run =
    let z = 35 ∷ (line ++ rest) in
    by_test (Meets u fresh z) (spec.is_include (35 ∷ line)) _ _
    (λ t. has_piece u fresh z (35 ∷ line) rest piece.Space (suc (length line)) refl refl (text.include_line (35 ∷ line) new run (include_is line t)))
    (λ f. by_option (λ o. Meets u fresh z (spec.directive_by o (suc (length line)))) (spec.position_in u (35 ∷ line))
    (λ none. text.directive line rest new run
    (λ is. let e = include_again (35 ∷ line) is in cc)
    (λ p merge is. let e = in_unit_again u (35 ∷ line) p merge is in cc))
    (λ p e. let is = in_unit_is u (35 ∷ line) p e in
    has_piece u fresh z (35 ∷ line) rest (piece.Position p) (suc (length line)) refl refl (text.position_line (35 ∷ line) p new is.0 run is.1)))

meets_hash : (u : Unit) (fresh : Bool) (z : Bytes) → Meets u fresh (35 ∷ z) (spec.directive u fresh (35 ∷ z))
meets_hash u fresh z = by_test (Meets u fresh (35 ∷ z)) (not fresh) _ _
    (λ t. text.bad_byte 35 z refl refl (λ e. not_true fresh t) refl no_hash (hash_longest z))
    (λ f.
    let n = prefix_len is_in_line z in
    let one : 1 + n ≡ suc n = omega arith in
    let size : length (take n z) ≡ n = run_length is_in_line z in
    let run : IsRun is_in_line (35 ∷ take n z) (drop n z) = record { all = (run_is is_in_line z).all; ends = (run_is is_in_line z).ends } in
    rw one (subst (λ (k : ℕ). Meets u fresh (35 ∷ z) (cond (spec.is_include (35 ∷ take n z)) (piece.Space, suc k) (spec.directive_by (spec.position_in u (35 ∷ take n z)) (suc k)))) size
    (subst (λ (y : Bytes). Meets u fresh (35 ∷ y) (cond (spec.is_include (35 ∷ take n z)) (piece.Space, suc (length (take n z))) (spec.directive_by (spec.position_in u (35 ∷ take n z)) (suc (length (take n z)))))) (take-append-drop n z)
    (meets_line u fresh (take n z) (drop n z) (not_false fresh f) run))))

longest_pair : (byte next : ℕ) (z : Bytes) → IsLongest (byte ∷ next ∷ []) z
longest_pair byte next [] = tt
longest_pair byte next (other ∷ z) = is_none (punctuator_number (byte ∷ next ∷ other ∷ [])) (λ k e. omega (arith, at_most_two (byte ∷ next ∷ other ∷ []) k e))

not_hash : (byte : ℕ) → eqb byte 35 ≡ false → byte ≡ 35 → ⊥
not_hash byte f e = grind (arith, nat_tests)

meets_single : (u : Unit) (fresh : Bool) (byte : ℕ) (z : Bytes) → is_white byte ≡ false → is_in_word byte ≡ false → eqb byte 35 ≡ false → begins_comment (byte ∷ z) ≡ false → IsLongest (byte ∷ []) z → Meets u fresh (byte ∷ z) (spec.single_by (spec.single byte))
meets_single u fresh byte z white outside hash plain longest =
    by_option (λ o. Meets u fresh (byte ∷ z) (spec.single_by o)) (spec.single byte)
    (λ none. text.bad_byte byte z white outside (λ e. absurd (not_hash byte hash e)) plain none longest)
    (λ k e. (omega arith, text.punctuator (byte ∷ []) k e longest plain))

meets_punctuator : (u : Unit) (fresh : Bool) (byte : ℕ) (z : Bytes) → is_white byte ≡ false → is_in_word byte ≡ false → eqb byte 35 ≡ false → begins_comment (byte ∷ z) ≡ false → Meets u fresh (byte ∷ z) (spec.punctuator (byte ∷ z))
meets_punctuator u fresh byte [] white outside hash plain = meets_single u fresh byte [] white outside hash plain tt
meets_punctuator u fresh byte (next ∷ z) white outside hash plain =
    rw (pair_is byte next) (by_option (λ o. Meets u fresh (byte ∷ next ∷ z) (spec.pair_by o byte)) (punctuator_number (byte ∷ next ∷ []))
    (λ none. meets_single u fresh byte (next ∷ z) white outside hash plain none)
    (λ k e. (omega arith, text.punctuator (byte ∷ next ∷ []) k e (longest_pair byte next z) plain)))

meets : (u : Unit) (fresh : Bool) (byte : ℕ) (z : Bytes) → Meets u fresh (byte ∷ z) (piece_at u fresh (byte ∷ z))
unfolding piece_at
meets u fresh byte z = by_test (Meets u fresh (byte ∷ z)) (is_white byte) _ _ (λ t. (omega arith, text.white byte t))
    (λ white. by_test (Meets u fresh (byte ∷ z)) (is_digit byte) _ _ (λ t. meets_number u fresh byte z t)
    (λ digit. by_test (Meets u fresh (byte ∷ z)) (is_letter byte) _ _ (λ t. meets_word u fresh byte z t)
    (λ letter. by_test (Meets u fresh (byte ∷ z)) (eqb byte 35) _ _ (λ t. rw (eqb-true byte 35 t) (meets_hash u fresh z))
    (λ hash. by_test (Meets u fresh (byte ∷ z)) (begins_comment (byte ∷ z)) _ _ (λ t. meets_begun u fresh (byte ∷ z) t)
    (λ plain. meets_punctuator u fresh byte z white (rw (letter, digit) refl) hash plain)))))

-- ---- a fault is refused

abbrev IsBad : Fault → Cut → Type 0
IsBad why cut = (n : ℕ) × (cut ≡ (piece.Fault why, n))

digit_some : (front : Bytes) → is_digit (slice_index front 0) ≡ true → 1 ≤ length front
digit_some [] h = absurd cc
digit_some (byte ∷ front) h = omega arith

bad_punctuator : (byte : ℕ) (z : Bytes) → punctuator_number (byte ∷ []) ≡ None → IsLongest (byte ∷ []) z → IsBad fault.BadByte (spec.punctuator (byte ∷ z))
bad_punctuator byte [] none longest = (1, rw none refl)
bad_punctuator byte (next ∷ z) none longest = (1, rw (pair_is byte next, longest, none) refl)

bad_at : (u : Unit) (fresh : Bool) (z : Bytes) (cut : Cut) (why : Fault) → piece_at u fresh z ≡ cut → IsBad why cut → IsBad why (piece_at u fresh z)
bad_at u fresh z cut why e bad = (bad.0, e ∙ bad.1)

fault_again : (u : Unit) (fresh : Bool) (z : Bytes) (why : Fault) → IsFault u fresh z why → IsBad why (piece_at u fresh z)
unfolding piece_at
fault_again u fresh z why (text.bad_byte byte rest white outside hash plain none longest) =
    let word = or_false (is_letter byte) (is_digit byte) outside in
    rw (white, word.0, word.1) (by_test (IsBad fault.BadByte) (eqb byte 35) _ _
    (λ t. (1, rw (hash (eqb-true byte 35 t)) refl))
    (λ f. rw plain (bad_punctuator byte rest none longest)))
fault_again u fresh z why (text.bad_number front rest run digit never) =
    bad_at u fresh (front ++ rest) (spec.number_by (spec.number_of front) (length front)) fault.BadNumber
    (at_number u fresh (front ++ rest) (ap is_digit (first_of_text front rest (digit_some front digit)) ∙ digit) ∙ number_piece front rest run)
    (rw (is_none (spec.number_of front) (λ m e. never m (number_is front m (digit_some front digit) e))) (length front, refl))
fault_again u fresh z why (text.directive line rest new run no_include no_position) =
    bad_at u fresh (35 ∷ (line ++ rest)) _ fault.Directive (line_piece u fresh (35 ∷ line) rest refl run new)
    (rw (is_false (spec.is_include (35 ∷ line)) (λ t. no_include (include_is line t)), is_none (spec.position_in u (35 ∷ line)) (λ p e. let is = in_unit_is u (35 ∷ line) p e in no_position p is.0 is.1)) (_, refl))
fault_again u fresh z why (text.reserved front rest run is taken) =
    bad_at u fresh (front ++ rest) (spec.word u (front ++ rest)) fault.Reserved
    (at_word u fresh (front ++ rest) (ap is_letter (first_of_text front rest (word_some front is)) ∙ word_first front is))
    (rw (run_again is_in_word front rest run, take_at front rest (length front) refl, taken) (length front, refl))
fault_again u fresh z why (text.open_comment rest unclosed) = (1, rw (open_again 0 rest unclosed) refl)

fault_some : (u : Unit) (fresh : Bool) (z : Bytes) (why : Fault) → IsFault u fresh z why → 1 ≤ length z
fault_some u fresh z why (text.bad_byte byte rest white outside hash plain none longest) = omega arith
fault_some u fresh z why (text.bad_number front rest run digit never) = omega (arith, length-append front rest, digit_some front digit)
fault_some u fresh z why (text.directive line rest new run no_include no_position) = omega arith
fault_some u fresh z why (text.reserved front rest run is taken) = omega (arith, length-append front rest, word_some front is)
fault_some u fresh z why (text.open_comment rest unclosed) = omega arith

bad_first : (u : Unit) (p : Place) (z : Bytes) (why : Fault) → 1 ≤ length z → IsBad why (piece_at u p.fresh z) → reading_from u 0 p z ≡ Err (refused_at (fault_number why) p.pos)
unfolding reading_from
bad_first u p [] why some bad = let never : ⊥ = omega arith in absurd never
bad_first u p (byte ∷ z) why some bad = rw bad.1 refl

-- the first fault is refused
pub stops_again : (u : Unit) (p : Place) (z : Bytes) (why : Fault) (q : Pos) → Stops u p z why q → reading_from u 0 p z ≡ Err (refused_at (fault_number why) q)
stops_again u p z why q (whole.here _ _ _ is) = bad_first u p z why (fault_some u p.fresh z why is) (fault_again u p.fresh z why is)
stops_again u p z why q (whole.later _ front rest x _ _ is others) =
    piece_read u p front rest x is ∙ rw (stops_again u (place_behind p x front) rest why q others) refl

-- ---- what is read is what the text is made of

pub record IsStopped (u : Unit) (p : Place) (z : Bytes) (why : Refusal) : Type 0 where
  pub fault : Fault
  pub position : Pos
  pub stops : Stops u p z fault position
  pub same : why ≡ refused_at (fault_number fault) position

abbrev pub Means : Unit → Place → Bytes → Outcome → Type 0
Means u p z (Ok tokens) = Cuts u p z tokens
Means u p z (Err why) = IsStopped u p z why

means_more : (u : Unit) (p : Place) (front rest : Bytes) (x : Piece) (more : Outcome) → IsPiece u p.fresh rest front x → Means u (place_behind p x front) rest more → Means u p (front ++ rest) (with_front (tokens_of p x front) more)
means_more u p front rest x (Ok tokens) is m = whole.goes p front rest x tokens is m
means_more u p front rest x (Err why) is m =
    record { fault = m.fault; position = m.position; stops = whole.later p front rest x m.fault m.position is m.stops; same = m.same }

abbrev Rest : Unit → Place → Bytes → Type 0
Rest u p rest = Means u p rest (reading_from u 0 p rest)

means_piece : (u : Unit) (p : Place) (z : Bytes) (x : Piece) (n : ℕ) → HasPiece u p.fresh z x n → (1 ≤ n → Rest u (place_behind p x (take n z)) (drop n z)) → Rest u p z
means_piece u p z x n met more =
    let front = take n z in
    let rest = drop n z in
    let some : 1 ≤ n = omega (arith, piece_some u p.fresh rest front x met.1, length-take n z) in
    let m = means_more u p front rest x (reading_from u 0 (place_behind p x front) rest) met.1 (more some) in
    subst (λ (y : Bytes). Rest u p y) (take-append-drop n z) (rw (piece_read u p front rest x met.1) m)

means_turn : (u : Unit) (p : Place) (z : Bytes) (x : Piece) (n : ℕ) → 1 ≤ length z → piece_at u p.fresh z ≡ (x, n) → Meets u p.fresh z (x, n) → (1 ≤ n → Rest u (place_behind p x (take n z)) (drop n z)) → Rest u p z
means_turn u p z (piece.Fault why) n some e met more =
    rw (bad_first u p z why some (n, e)) (record { fault = why; position = p.pos; stops = whole.here p z why met; same = refl })
means_turn u p z piece.Space n some e met more = means_piece u p z piece.Space n met more
means_turn u p z (piece.Position q) n some e met more = means_piece u p z (piece.Position q) n met more
means_turn u p z (piece.Token what) n some e met more = means_piece u p z (piece.Token what) n met more

pub means : (u : Unit) (most : ℕ) (p : Place) (z : Bytes) → length z ≤ most → Means u p z (reading_from u 0 p z)
unfolding reading_from
means u most p [] le = whole.ends p
means u zero p (byte ∷ z) le = let never : ⊥ = omega arith in absurd never
means u (suc most) p (byte ∷ z) le =
    let cut = piece_at u p.fresh (byte ∷ z) in
    means_turn u p (byte ∷ z) cut.0 cut.1 (omega arith) refl (meets u p.fresh byte z)
    (λ some. means u most (place_behind p cut.0 (take cut.1 (byte ∷ z))) (drop cut.1 (byte ∷ z)) (omega (arith, length-drop cut.1 (byte ∷ z))))
