-- Where a linked name stands.
use Rattle.std.specs.Prelude.{Bool, true, false, ◌&&◌}
use Rattle.std.specs.Str.{bytes_eq}
use Rattle.c_lang.specs.Names.{Bytes}

-- in both versions alike, in one of them, in the transformer or the client as its own, or nowhere
pub data Home : Type 0 where
  Both : Home
  Old : Home
  New : Home
  Xform : Home
  Client : Home
  Unlinked : Home

-- a cell or a function of the updating run
abbrev pub Linked : Type 0
Linked = Home × Bytes

abbrev pub same_home : Home → Home → Bool
same_home Both Both = true
same_home Old Old = true
same_home New New = true
same_home Xform Xform = true
same_home Client Client = true
same_home Unlinked Unlinked = true
same_home _ _ = false

abbrev pub same_linked : Linked → Linked → Bool
same_linked a b = same_home a.0 b.0 && bytes_eq a.1 b.1
