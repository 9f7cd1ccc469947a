use Rattle.std.proofs.Common.{refl}
use Rattle.client_specs.proofs.visible.visible.Goals as goal

pub returns : goal.returns
returns c =
    rw (
      c.in_ok-bar_codes-2.ensures,
      c.in_ok-bar_codes.ensures,
      c.in_ok-bar_cells-2.ensures,
      c.in_ok-bar_cells.ensures,
      c.in_ok-add_callable.ensures,
      c.in_ok-symbols.ensures,
      c.denied_in.ensures,
      c.as_slice.ensures,
      c.as_slice-2.ensures,
      c.as_slice-3.ensures,
      c.as_slice-4.ensures,
    )
    refl
