-- The kind of a client, by the name of its function.
use Rattle.std.specs.Prelude.{codes, nat_eq, if◌then◌else◌, Option, Some, None, unwrap_or}
use Rattle.std.specs.List.{starts_with}
use Rattle.c_lang.specs.Names.{Bytes}
use Rattle.client_specs.specs.declared.kind.ClientKind.{ClientKind}
use Rattle.client_specs.specs.declared.kind.ClientKind.TheVariants.{Backward, Post, Conform}

-- the kind that the name's prefix gives, where it has one
unfoldable pub kind_of : Bytes → Option ClientKind
kind_of x =
    if starts_with nat_eq x (codes "backward_") then Some Backward
    else if starts_with nat_eq x (codes "post_") then Some Post
    else if starts_with nat_eq x (codes "conform_") then Some Conform
    else None

-- a name without prefix is checked as that of a backward-compatible client
abbrev pub checked_kind : Bytes → ClientKind
checked_kind x = unwrap_or (kind_of x) Backward
