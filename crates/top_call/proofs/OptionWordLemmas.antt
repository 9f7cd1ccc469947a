-- What words give that stand in any order.
use Rattle.std.proofs.Common.{◌≡◌, refl, sym, ap, ◌∙◌, subst, ℕ, suc, ◌<◌, arith, ◌+◌, List, [], ◌∷◌, ◌++◌, length, get_or, take, drop, map, true, false, Option, Some, None, option_map, String, string_bytes}
use Rattle.std.specs.Prelude.{nat_eq, MatchOption}
use Rattle.std.specs.Borrow.{Bor}
use Rattle.std.specs.List.{starts_with}
use Rattle.std.specs.declared.alloc.Global.{Global}
use Rattle.std.specs.Str.{IsCharBoundary}
use Rattle.std.specs.Str.Pattern.{FindsTextPrefix, StripsPrefix}
use Rattle.std.proofs.lemmas.List.{take_more, map-append}
use Rattle.std.proofs.lemmas.Str.Pattern.{starts_text}
use Rattle.top_call.specs.Words.{Text, with_chosen, chosen, added, is_option, file_in}
use Rattle.c_lang.specs.Names.{behind}
use Rattle.top_call.specs.Seen.{seen_text, IsChosen}
use Rattle.top_call.specs.declared.option_words.Chosen.{Chosen}
use Rattle.top_call.specs.declared.option_words.Chosen.TheVariants.{Nothing, One, Several}

-- `strip_prefix` gives what follows the option's name
pub stripped : (name word : Text) (o : Option (Bor Text)) → MatchOption o (FindsTextPrefix name word None) (λ x. StripsPrefix (FindsTextPrefix name) word x.now)
    → option_map seen_text o ≡ behind name word
stripped name word None none =
    let none_there : false ≡ starts_with nat_eq word name = starts_text false name word none in rw (← none_there) refl
stripped name word (Some x) (n, is, rest, len) =
    let edge : IsCharBoundary word n = subst (λ k. IsCharBoundary word k) (sym is.0) is.2 in
    let yes : true ≡ starts_with nat_eq word name = starts_text true name word (n, is, edge) in
    rw (← yes) (ap (λ (t : Text). Some t) (rest ∙ ap (λ k. drop k word) is.0))

-- ---- what words give, one word after the other

with_chosen-append : (o : Option Text) (texts : List Text) (p : Option Text) → with_chosen o (added texts p) ≡ added (with_chosen o texts) p
with_chosen-append None texts p = refl
with_chosen-append (Some t) texts None = refl
with_chosen-append (Some t) texts (Some u) = refl

with_chosen-added : (p : Option Text) → with_chosen p [] ≡ added [] p
with_chosen-added None = refl
with_chosen-added (Some t) = refl

pub chosen-append : (gives : Text → Option Text) (words : List Text) (word : Text) → chosen gives (words ++ word ∷ []) ≡ added (chosen gives words) (gives word)
chosen-append gives [] word = with_chosen-added (gives word)
chosen-append gives (w ∷ words) word =
    ap (with_chosen (gives w)) (chosen-append gives words word) ∙ with_chosen-append (gives w) (chosen gives words) (gives word)

pub chosen-next : (gives : Text → Option Text) (words : List (String Global)) (i : ℕ) (word : String Global) → i < length words → word ≡ get_or words i word
    → chosen gives (map string_bytes (take (i + 1) words)) ≡ added (chosen gives (map string_bytes (take i words))) (gives (string_bytes word))
chosen-next gives words i word there is =
    let more : take (i + 1) words ≡ take i words ++ word ∷ [] = take_more words i word there ∙ ap (λ w. take i words ++ w ∷ []) (sym is) in
    ap (λ ws. chosen gives (map string_bytes ws)) more ∙ ap (chosen gives) (map-append string_bytes (take i words) (word ∷ []))
    ∙ chosen-append gives (map string_bytes (take i words)) (string_bytes word)

-- ---- one choice more

length-added : (texts : List Text) (t : Text) → length (texts ++ t ∷ []) ≡ suc (length texts)
length-added [] t = refl
length-added (u ∷ texts) t = ap suc (length-added texts t)

pub nothing-more : (texts : List Text) (c : Chosen) → IsChosen texts c → IsChosen (added texts None) c
nothing-more texts c h = h

pub first-more : (texts : List Text) (text : Bor Text) → IsChosen texts Nothing → IsChosen (added texts (Some text.now)) (One text)
first-more texts text h = ap (λ (ts : List Text). ts ++ text.now ∷ []) h

pub second-more : (texts : List Text) (first : Bor Text) (text : Text) → IsChosen texts (One first) → IsChosen (added texts (Some text)) Several
second-more texts first text h = let e = length-added texts text in let l = ap length h in omega (arith, e, l)

pub more-more : (texts : List Text) (text : Text) → IsChosen texts Several → IsChosen (added texts (Some text)) Several
more-more texts text h = let e = length-added texts text in omega (arith, e, h)

-- ---- the files

pub file-option : (files : List (Bor Text)) (word : Text) → is_option word ≡ true → map seen_text files ≡ added (map seen_text files) (file_in word)
file-option files word is = rw is refl

pub file-more : (files : List (Bor Text)) (word : Bor Text) → is_option word.now ≡ false
    → map seen_text (files ++ word ∷ []) ≡ added (map seen_text files) (file_in word.now)
file-more files word is = rw is (map-append seen_text files (word ∷ []))

pub ruleset files = (file-option, file-more)
