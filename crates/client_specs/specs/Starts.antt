-- In which scope each function of a client begins.
use Rattle.std.specs.Prelude.{Bool, false, if◌then◌else◌, [], Option, Some, None, bytes_eq}
use Rattle.c_lang.specs.Names.{Bytes}
use Rattle.c_lang.specs.declared.program.Func.{Func}
use Rattle.c_lang.specs.declared.program.Program.{Program}
use Rattle.c_types.specs.Names.{Entries}
use Rattle.c_types.specs.Scopes.{Picks, Scope}
use Rattle.version_names.specs.Parts.{Parts}
use Rattle.client_specs.specs.declared.region.Region.TheVariants.{Here, Behind, After, Before}
use Rattle.client_specs.specs.declared.kind.ClientKind.{ClientKind}
use Rattle.client_specs.specs.declared.kind.ClientKind.TheVariants.{Backward, Post, Conform}
use Rattle.client_specs.specs.Kinds.{checked_kind}
use Rattle.client_specs.specs.Visible.{visible}

-- a force may stand in the named function of a post-update client
abbrev pub is_forcing : ClientKind → Bytes → Bytes → Bool
is_forcing Backward spec x = false
is_forcing Post spec x = bytes_eq x spec
is_forcing Conform spec x = false

-- picks may stand in every function of a conformable client
abbrev pub picks_in : ClientKind → Entries → Entries → Option Picks
picks_in Backward after before = None
picks_in Post after before = None
picks_in Conform after before = Some (record { after = after; before = before })

module _ (parts : Parts) (first second p : Program) (spec : Bytes) where
  abbrev pub forced_in : Bytes → Option Entries
  forced_in x = if is_forcing (checked_kind spec) spec x then Some (visible parts Behind first second p) else None

  abbrev pub begins : Option Entries → Bool → Scope
  begins forced gives = record {
    outside = visible parts Here first second p;
    forced = forced;
    picks = picks_in (checked_kind spec) (visible parts After first second p) (visible parts Before first second p);
    locals = [];
    told = [];
    ahead = [];
    gives = gives;
    xform = false;
  }

  abbrev pub start : Func → Scope
  start f = begins (forced_in f.name) f.gives
