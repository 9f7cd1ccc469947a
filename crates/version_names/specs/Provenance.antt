-- Where the body of a frame was written.
use Rattle.std.specs.Prelude.{Bool, true, false}

pub data Provenance : Type 0 where
  Old : Provenance
  New : Provenance
  Xform : Provenance
  Client : Provenance

-- a point asks in old code and in the client
abbrev pub may_update : Provenance → Bool
may_update Old = true
may_update New = false
may_update Xform = false
may_update Client = true
