-- How forms, terms and names are written, and which of them have a text.
use Rattle.std.specs.Prelude.{ℕ, ◌+◌, max, unsigned_abs, Bool, true, false, ◌&&◌, ◌||◌, ◌==◌, is_some, nat_le, bytes_eq, if◌then◌else◌, [], ◌∷◌, ◌++◌, codes}
use Rattle.std.specs.Fmt.{decimal, signed_decimal}
use Rattle.c_lang.specs.Names.{Bytes, is_word}
use Rattle.terms.specs.declared.sym.Sym.{Sym}
use Rattle.terms.specs.Trees.{TermTree, number, name, plus, minus, times, divided, remainder, read, truth, ArrayTree, array, stored, FormTree, always, never, at_most, equal, denied, both, either}
use Rattle.formula_texts.specs.Tokens.{number_limit, count_limit, dollar, apostrophe, is_taken, number_in}
use Rattle.formula_texts.specs.Texts.{bracket_limit}

-- ---- names

abbrev pub base_text : Bytes → Bytes
base_text base = if is_taken base then dollar ∷ base else base

abbrev pub count_text : ℕ → Bytes
count_text count = if count == 0 then [] else apostrophe ∷ decimal count

unfoldable pub name_text : Sym → Bytes
name_text x = base_text x.base ++ count_text x.count

-- ---- forms and terms

abbrev pub is_compound_term : TermTree → Bool
is_compound_term (plus t u) = true
is_compound_term (minus t u) = true
is_compound_term (times t u) = true
is_compound_term t = false

abbrev pub is_compound_form : FormTree → Bool
is_compound_form always = false
is_compound_form never = false
is_compound_form f = true

abbrev pub in_brackets : Bytes → Bytes
in_brackets text = codes "(" ++ (text ++ codes ")")

-- the text of a part of another one
abbrev pub term_part : TermTree → Bytes → Bytes
term_part t text = if is_compound_term t then in_brackets text else text

abbrev pub form_part : FormTree → Bytes → Bytes
form_part f text = if is_compound_form f then in_brackets text else text

-- Each compound part stands in brackets, and an operator has a space on each side.
abbrev mutual
  pub term_text : TermTree → Bytes
  term_text (number z) = signed_decimal z
  term_text (name x) = name_text x
  term_text (plus t u) = term_part t (term_text t) ++ (codes " + " ++ term_part u (term_text u))
  term_text (minus t u) = term_part t (term_text t) ++ (codes " - " ++ term_part u (term_text u))
  term_text (times t u) = term_part t (term_text t) ++ (codes " * " ++ term_part u (term_text u))
  term_text (divided t u) = in_brackets (term_part t (term_text t) ++ (codes " / " ++ term_part u (term_text u)))
  term_text (remainder t u) = in_brackets (term_part t (term_text t) ++ (codes " % " ++ term_part u (term_text u)))
  term_text (read a i) = array_text a ++ (codes "[" ++ (term_part i (term_text i) ++ codes "]"))
  term_text (truth f) = codes "$truth(" ++ (form_part f (form_text f) ++ codes ")")

  pub array_text : ArrayTree → Bytes
  array_text (array x) = name_text x
  array_text (stored a i t) =
      codes "$store(" ++ (array_text a ++ (codes ", " ++ (term_part i (term_text i)
      ++ (codes ", " ++ (term_part t (term_text t) ++ codes ")")))))

  pub form_text : FormTree → Bytes
  form_text always = codes "$true"
  form_text never = codes "$false"
  form_text (at_most t u) = term_part t (term_text t) ++ (codes " <= " ++ term_part u (term_text u))
  form_text (equal t u) = term_part t (term_text t) ++ (codes " == " ++ term_part u (term_text u))
  form_text (denied f) = codes "not " ++ form_part f (form_text f)
  form_text (both f g) = form_part f (form_text f) ++ (codes " and " ++ form_part g (form_text g))
  form_text (either f g) = form_part f (form_text f) ++ (codes " or " ++ form_part g (form_text g))

-- ---- what has a text

-- a word, `$r`, or a `$` and a number
unfoldable pub is_entry : Bytes → Bool
is_entry [] = false
is_entry (first ∷ rest) = first == dollar && (bytes_eq rest (codes "r") || is_some (number_in number_limit rest))

unfoldable pub has_name_text : Sym → Bool
has_name_text x = (is_word x.base || is_entry x.base) && nat_le x.count count_limit

-- its numbers and names have texts
abbrev mutual
  pub term_fits : TermTree → Bool
  term_fits (number z) = nat_le (unsigned_abs z) number_limit
  term_fits (name x) = has_name_text x
  term_fits (plus t u) = term_fits t && term_fits u
  term_fits (minus t u) = term_fits t && term_fits u
  term_fits (times t u) = term_fits t && term_fits u
  term_fits (divided t u) = term_fits t && term_fits u
  term_fits (remainder t u) = term_fits t && term_fits u
  term_fits (read a i) = array_fits a && term_fits i
  term_fits (truth f) = form_fits f

  pub array_fits : ArrayTree → Bool
  array_fits (array x) = has_name_text x
  array_fits (stored a i t) = array_fits a && (term_fits i && term_fits t)

  pub form_fits : FormTree → Bool
  form_fits always = true
  form_fits never = true
  form_fits (at_most t u) = term_fits t && term_fits u
  form_fits (equal t u) = term_fits t && term_fits u
  form_fits (denied f) = form_fits f
  form_fits (both f g) = form_fits f && form_fits g
  form_fits (either f g) = form_fits f && form_fits g

abbrev pub around_term : TermTree → ℕ → ℕ
around_term t n = if is_compound_term t then 1 + n else n

abbrev pub around_form : FormTree → ℕ → ℕ
around_form f n = if is_compound_form f then 1 + n else n

-- how many brackets are open at once in its text
abbrev mutual
  pub term_brackets : TermTree → ℕ
  term_brackets (number z) = 0
  term_brackets (name x) = 0
  term_brackets (plus t u) = max (around_term t (term_brackets t)) (around_term u (term_brackets u))
  term_brackets (minus t u) = max (around_term t (term_brackets t)) (around_term u (term_brackets u))
  term_brackets (times t u) = max (around_term t (term_brackets t)) (around_term u (term_brackets u))
  term_brackets (divided t u) = 1 + max (around_term t (term_brackets t)) (around_term u (term_brackets u))
  term_brackets (remainder t u) = 1 + max (around_term t (term_brackets t)) (around_term u (term_brackets u))
  term_brackets (read a i) = max (array_brackets a) (1 + around_term i (term_brackets i))
  term_brackets (truth f) = 1 + around_form f (form_brackets f)

  pub array_brackets : ArrayTree → ℕ
  array_brackets (array x) = 0
  array_brackets (stored a i t) =
      1 + max (array_brackets a) (max (around_term i (term_brackets i)) (around_term t (term_brackets t)))

  pub form_brackets : FormTree → ℕ
  form_brackets always = 0
  form_brackets never = 0
  form_brackets (at_most t u) = max (around_term t (term_brackets t)) (around_term u (term_brackets u))
  form_brackets (equal t u) = max (around_term t (term_brackets t)) (around_term u (term_brackets u))
  form_brackets (denied f) = around_form f (form_brackets f)
  form_brackets (both f g) = max (around_form f (form_brackets f)) (around_form g (form_brackets g))
  form_brackets (either f g) = max (around_form f (form_brackets f)) (around_form g (form_brackets g))

-- the text is one that is read: within the limits of numbers, words and brackets
abbrev pub has_term_text : TermTree → Bool
has_term_text t = term_fits t && nat_le (term_brackets t) bracket_limit

abbrev pub has_form_text : FormTree → Bool
has_form_text f = form_fits f && nat_le (form_brackets f) bracket_limit
