use Rattle.std.proofs.Common.{◌≡◌, ◌||◌, drop}
use Rattle.std.specs.List.{list_any}
use Rattle.std.specs.Str.{bytes_eq}
use Rattle.c_lang.specs.Names.{Bytes}
use Rattle.state_xform.proofs.NameLaws.{names_of}
use Rattle.state_xform.proofs.names.NameSet.add_all.Given as goal

abbrev pub invariant-loop-name : goal.invariant-loop-name
invariant-loop-name l = record {
  all : l.self-inside.all ≡ l.initial.self-inside.all;
  listed : (x : Bytes) →
      (list_any (bytes_eq x) (names_of (drop l.name-index l.name-items)) || list_any (bytes_eq x) (names_of l.self-inside.listed.keys))
      ≡ (list_any (bytes_eq x) (names_of l.name-items) || list_any (bytes_eq x) (names_of l.initial.self-inside.listed.keys));
}
