-- Rounding of rows over numbered atoms.
use Rattle.std.specs.Prelude.{ℤ, pos, Bool, ◌&&◌, int_lt, if◌then◌else◌, List, [], ◌∷◌, None, map, get_or}
use Rattle.std.specs.List.{list_all}
use Rattle.std.specs.Int.{int_div_euclid, int_rem_euclid}
use Rattle.linear_rows.specs.Numbers.{is_zero}
use Rattle.linear_rows.specs.Sums.{Part}
use Rattle.terms.specs.Trees.{TermTree, FormTree, number, at_most}
use Rattle.terms.specs.Valuations.{is_small}
use Rattle.linear_rows.specs.declared.row.Row.{Row}
use Rattle.cert_checker.specs.Linear.{Multiple}
use Rattle.cert_checker.specs.Rules.{Children, one_child, divided_term, joined}

abbrev pub zero_term : TermTree
zero_term = number (pos 0)

-- the multiple of a part
abbrev pub multiple_of : List TermTree → Part → Multiple
multiple_of atoms p = (get_or atoms p.0 zero_term, p.1)

abbrev pub part_term : List TermTree → ℤ → Part → TermTree
part_term atoms d p = divided_term d (multiple_of atoms p)

abbrev pub divides_part : ℤ → Part → Bool
divides_part d p = is_zero (int_rem_euclid p.1 d)

abbrev pub may_round_row : ℤ → Row → Bool
may_round_row d row = int_lt (pos 0) d && (is_small d && list_all (divides_part d) row.parts)

abbrev pub rounded_row : List TermTree → ℤ → Row → FormTree
rounded_row atoms d row = at_most (joined (map (part_term atoms d) row.parts)) (number (int_div_euclid row.bound d))

abbrev pub round_row : List TermTree → ℤ → Row → Children
round_row atoms d row = if may_round_row d row then one_child (rounded_row atoms d row ∷ []) else None
