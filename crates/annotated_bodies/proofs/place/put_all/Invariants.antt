use Rattle.std.proofs.Common.{◌≡◌, map, drop}
use Rattle.c_lang.specs.Names.{Bytes}
use Rattle.name_tables.specs.Tables.{found}
use Rattle.annotated_bodies.specs.Code.Given.{seen_fresh, last_given}
use Rattle.annotated_bodies.proofs.place.put_all.Given as goal

abbrev pub invariant-loop-name : goal.invariant-loop-name
invariant-loop-name l = (x : Bytes)
    → last_given (map seen_fresh (drop l.name-index l.names)) x (found l.counts x) ≡ last_given (map seen_fresh l.names) x (found l.fn.counts x)
