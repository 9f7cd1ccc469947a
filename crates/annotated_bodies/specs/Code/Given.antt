-- How fresh names are put into a table of numbers.
use Rattle.std.specs.Prelude.{ℕ, suc, if◌then◌else◌, List, [], ◌∷◌, Option, Some}
use Rattle.std.specs.Str.{bytes_eq}
use Rattle.c_lang.specs.Names.{Bytes}
use Rattle.terms.specs.declared.sym.Sym.{Sym}
use Rattle.annotated_bodies.specs.declared.place.FreshName as code

abbrev pub seen_fresh : code.FreshName → Sym
seen_fresh f = record { base = f.base.now; count = f.count }

-- the name with the next number of its base
abbrev pub numbered : (Bytes → ℕ) → Bytes → Sym
numbered counts x = record { base = x; count = suc (counts x) }

-- what is found of x where these are put in one after the other
abbrev pub last_given : List Sym → Bytes → Option ℕ → Option ℕ
last_given [] x before = before
last_given (y ∷ ys) x before = last_given ys x (if bytes_eq y.base x then Some y.count else before)
