-- What is known of the texts between two stages.
use Rattle.std.specs.Prelude.{⊤, ◌≡◌, ℕ, List, Option, Some, None, Result, Ok, Err}
use Rattle.c_lang.specs.Limits.{height_limit}
use Rattle.c_lang.specs.declared.unit.Unit.TheVariants.{Old, New, Xform, Client}
use Rattle.c_lang.specs.declared.program.Program.{Program}
use Rattle.c_lang.specs.declared.refusal.Fail.{Fail}
use Rattle.c_grammar.specs.Lexed.{Lexed}
use Rattle.c_grammar.specs.Written.{Parses, IsWritten}
use Rattle.c_types.specs.Kept.{IsKept}
use Rattle.version_names.specs.Parts.{IsLinked}
use Rattle.update_points.specs.Points.{all_points, IsListed}
use Rattle.state_xform.specs.Kept as xform
use Rattle.client_specs.specs.Kept.{ClientProgram, IsChecked}
use Rattle.front_end.specs.Worlds.{ClientText, Texts, AreVersions, ParsesXform, ParsesClient}
use Rattle.front_end.specs.declared.worlds.ClientTokens.{ClientTokens}
use Rattle.front_end.specs.declared.worlds.ClientSource.{ClientSource}
use Rattle.front_end.specs.declared.worlds.Tokens.{Tokens}
use Rattle.front_end.specs.declared.worlds.Programs.{Programs}
use Rattle.front_end.specs.declared.worlds.Versions.{Versions}
use Rattle.front_end.specs.declared.worlds.Parts.{Parts}

-- ---- tokens

abbrev pub AreClientTokens : ClientText → ClientTokens → Type 0
AreClientTokens c tokens = Lexed Client c.text tokens.tokens.items × (tokens.spec ≡ c.spec)

-- there is no client, or these are its tokens
abbrev pub AreOptionalTokens : Option ClientText → Option ClientTokens → Type 0
AreOptionalTokens None None = ⊤
AreOptionalTokens (Some c) (Some tokens) = AreClientTokens c tokens
AreOptionalTokens _ _ = ⊥

pub record AreTokens (ts : Texts) (tokens : Tokens) : Type 0 where
  pub old : Lexed Old ts.old tokens.old.items
  pub new : Lexed New ts.new tokens.new.items
  pub xform : Lexed Xform ts.xform tokens.xform.items
  pub client : AreOptionalTokens ts.client tokens.client

-- ---- programs

abbrev pub IsClientSource : ClientText → ClientSource → Type 0
IsClientSource c source = ParsesClient c source.program × (source.spec ≡ c.spec)

-- there is no client, or this is its program, as it is written
abbrev pub IsOptionalSource : Option ClientText → Option ClientSource → Type 0
IsOptionalSource None None = ⊤
IsOptionalSource (Some c) (Some source) = IsClientSource c source
IsOptionalSource _ _ = ⊥

abbrev pub source_program : Option ClientSource → Option Program
source_program None = None
source_program (Some source) = Some source.program

-- the versions are these programs, as they are written
pub record AreSources (ts : Texts) (first second : Program) : Type 0 where
  pub old : Parses Old (height_limit Old) ts.old first
  pub new : Parses New (height_limit New) ts.new second

pub record AreParsed (ts : Texts) (programs : Programs) : Type 0 where
  pub versions : AreSources ts programs.old programs.new
  pub xform : ParsesXform ts programs.xform
  pub client : IsOptionalSource ts.client programs.client

-- ---- typed versions

pub record AreTyped (ts : Texts) (typed : Versions) : Type 0 where
  pub versions : AreVersions ts typed.old.program typed.new.program
  pub old_unit : typed.old.unit ≡ Old
  pub old_kept : IsKept typed.old
  pub new_unit : typed.new.unit ≡ New
  pub new_kept : IsKept typed.new

-- ---- what an update takes

-- the client's program, where there is one, is written in its unit
abbrev pub IsOptionalWritten : Option ClientSource → Type 0
IsOptionalWritten None = ⊤
IsOptionalWritten (Some source) = IsWritten Client source.program

-- the client is checked, where there is one
abbrev pub IsOptionalChecked : Program → Program → Option ClientSource → Result (Option ClientProgram) Fail → Type 0
IsOptionalChecked first second None (Ok None) = ⊤
IsOptionalChecked first second (Some source) (Ok (Some kept)) = IsChecked first second source.spec source.program (Ok kept)
IsOptionalChecked first second (Some source) (Err fail) = IsChecked first second source.spec source.program (Err fail)
IsOptionalChecked first second _ _ = ⊥

-- these were made of two versions, a transformer and a client as they are written, and of the points that are listed
pub record AreParts (listed : Option (List ℕ)) (first second transformer : Program) (source : Option ClientSource) (parts : Parts) : Type 0 where
  pub points : IsListed (all_points first (source_program source)) listed (Ok parts.points)
  pub links : IsLinked first second parts.links
  pub xform : xform.IsChecked first second transformer (Ok parts.xform)
  pub client : IsOptionalChecked first second source (Ok parts.client)
