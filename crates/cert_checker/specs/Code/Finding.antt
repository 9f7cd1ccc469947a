-- Terms of a kind in the parts that are still to do, each before its parts.
use Rattle.std.specs.Prelude.{◌≡◌, ℕ, Bool, true, false, is_some, List, [], ◌∷◌, ◌++◌, filter, slice_get, Option, Some, None}
use Rattle.terms.specs.Trees.{FormTree, TermTree, number, name, plus, minus, times, divided, remainder, read, truth}
use Rattle.terms.specs.Names.{terms_in_term, terms_in_array, terms_in_form}
use Rattle.cert_checker.specs.Places.{division_of}
use Rattle.cert_checker.specs.declared.part.Part.{Part}
use Rattle.cert_checker.specs.declared.part.Part.TheVariants as part
use Rattle.cert_checker.specs.declared.find.Wanted.{Wanted}
use Rattle.cert_checker.specs.declared.find.Wanted.TheVariants as wanted
use Rattle.cert_checker.specs.declared.find.Sought.{Sought}
use Rattle.cert_checker.specs.declared.find.Sought.TheVariants as sought

-- the form of a term that is its truth
abbrev pub truth_form : TermTree → Option FormTree
truth_form (truth f) = Some f
truth_form t = None

abbrev pub is_truth : TermTree → Bool
is_truth (truth f) = true
is_truth t = false

abbrev pub is_wanted : Wanted → TermTree → Bool
is_wanted wanted.Truth t = is_truth t
is_wanted wanted.Division t = is_some (division_of t)

abbrev pub terms_left : List Part → List TermTree
terms_left [] = []
terms_left (part.Term t ∷ parts) = terms_in_term t ++ terms_left parts
terms_left (part.Array r ∷ parts) = terms_in_array r ++ terms_left parts
terms_left (part.Form f ∷ parts) = terms_in_form f ++ terms_left parts
terms_left (part.Operator k ∷ parts) = terms_left parts

-- those of the kind
unfoldable pub wanted_left : Wanted → List Part → List TermTree
wanted_left w parts = filter (is_wanted w) (terms_left parts)

-- what looking at the next part gives
abbrev pub IsSought : Wanted → List Part → ℕ → List Part → Sought → Type 0
IsSought w before k after (sought.Found t) = slice_get (wanted_left w before) k ≡ Some t
IsSought w before k after (sought.Left n) = slice_get (wanted_left w after) n ≡ slice_get (wanted_left w before) k
