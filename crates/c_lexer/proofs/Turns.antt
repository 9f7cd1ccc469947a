-- A turn of the loop over a text.
use Rattle.std.proofs.Common.{◌≡◌, ℕ, zero, suc, ◌-◌, ◌≤◌, List, [], ◌∷◌, ◌++◌, length, take, drop, Ok, Err, refl, sym, ap, subst, ◌∙◌, append_assoc, append-nil, arith}
use Rattle.c_lang.specs.Names.{Bytes}
use Rattle.c_lang.specs.declared.unit.Unit.{Unit}
use Rattle.c_lang.specs.declared.refusal.Fail.{Fail}
use Rattle.c_lang.specs.declared.refusal.Fail.TheVariants as fail
use Rattle.c_grammar.specs.declared.token.Token.{Token}
use Rattle.c_grammar.specs.declared.piece.Place.{Place}
use Rattle.c_grammar.specs.Lexed.{after_byte, after_bytes, turned}
use Rattle.c_lexer.specs.Code.Reading.{Cut, piece_at, Outcome, Fails, kept, with_front, joined, reading_from}

-- the bytes of a piece are passed
pub passes : (u : Unit) (left : ℕ) (p : Place) (z : Bytes) → reading_from u left p z ≡ reading_from u 0 (after_bytes p (take left z)) (drop left z)
unfolding reading_from
passes u zero p z = refl
passes u (suc left) p [] = refl
passes u (suc left) p (byte ∷ z) = passes u left (after_byte p byte) z

abbrev pub ok : List Token → Outcome
ok tokens = Ok tokens

pub ok_is : (some other : List Token) → ok some ≡ ok other → some ≡ other
ok_is some other e = cc

with_front-joined : (front tokens : List Token) (k more : Outcome) → with_front front k ≡ Ok tokens → with_front front (joined k more) ≡ with_front tokens more
with_front-joined front tokens (Ok new) (Ok more) e = ap (λ (x : List Token). ok x) (sym (append_assoc front new more) ∙ ap (λ (x : List Token). x ++ more) (ok_is (front ++ new) tokens e))
with_front-joined front tokens (Ok new) (Err why) e = refl
with_front-joined front tokens (Err why) more e = absurd cc

-- one piece more
pub goes_on : (u : Unit) (p : Place) (z : Bytes) (front tokens : List Token) (cut : Cut) → 1 ≤ length z → 1 ≤ cut.1 → cut ≡ piece_at u p.fresh z → with_front front (kept p cut) ≡ Ok tokens
    → with_front tokens (reading_from u 0 (after_bytes (turned p cut.0) (take cut.1 z)) (drop cut.1 z)) ≡ with_front front (reading_from u 0 p z)
unfolding reading_from
goes_on u p [] front tokens cut some more e k = let never : ⊥ = omega arith in absurd never
goes_on u p (byte ∷ z) front tokens cut some more e k =
    let n : cut.1 ≡ suc (cut.1 - 1) = omega arith in
    let bytes : reading_from u 0 (after_bytes (turned p cut.0) (take cut.1 (byte ∷ z))) (drop cut.1 (byte ∷ z)) ≡ reading_from u (cut.1 - 1) (after_byte (turned p cut.0) byte) z =
    ap (λ (l : ℕ). reading_from u 0 (after_bytes (turned p cut.0) (take l (byte ∷ z))) (drop l (byte ∷ z))) n ∙ sym (passes u (cut.1 - 1) (after_byte (turned p cut.0) byte) z) in
    let one : joined (kept p cut) (reading_from u (cut.1 - 1) (after_byte (turned p cut.0) byte) z) ≡ reading_from u 0 p (byte ∷ z) = ap (λ (c : Cut). joined (kept p c) (reading_from u (c.1 - 1) (after_byte (turned p c.0) byte) z)) e in
    ap (with_front tokens) bytes ∙ sym (with_front-joined front tokens (kept p cut) (reading_from u (cut.1 - 1) (after_byte (turned p cut.0) byte) z) k) ∙ ap (with_front front) one

err_front : (front : List Token) (k more : Outcome) (f : Fail) → Fails f k → Fails f (with_front front (joined k more))
err_front front k more fail.NoMemory h = tt
err_front front k more (fail.Refused why) h = rw h refl

pub fails : (u : Unit) (p : Place) (z : Bytes) (front : List Token) (cut : Cut) (f : Fail) → 1 ≤ length z → cut ≡ piece_at u p.fresh z → Fails f (kept p cut) → Fails f (with_front front (reading_from u 0 p z))
unfolding reading_from
fails u p [] front cut f some e k = let never : ⊥ = omega arith in absurd never
fails u p (byte ∷ z) front cut f some e k =
    err_front front (kept p (piece_at u p.fresh (byte ∷ z))) _ f (subst (λ (c : Cut). Fails f (kept p c)) e k)

pub ends : (u : Unit) (p : Place) (z : Bytes) (front : List Token) → length z ≡ 0 → with_front front (reading_from u 0 p z) ≡ Ok front
unfolding reading_from
ends u p [] front e = ap (λ (x : List Token). Ok x) (append-nil front)
ends u p (byte ∷ z) front e = let never : ⊥ = omega arith in absurd never
