-- Which texts are a world: the conditions on them in their order, and the world that they are.
use Rattle.std.specs.Prelude.{⊤, ◌≡◌, ◌≤◌, ℕ, List, [], ◌∷◌, ◌++◌, length, Option, Some, None}
use Rattle.c_lang.specs.Names.{Bytes}
use Rattle.c_lang.specs.Limits.{height_limit, size_limit}
use Rattle.c_lang.specs.Refusals.{past_limit}
use Rattle.c_lang.specs.declared.unit.Unit.{Unit}
use Rattle.c_lang.specs.declared.unit.Unit.TheVariants.{Old, New, Xform, Client}
use Rattle.c_lang.specs.declared.program.Program.{Program}
use Rattle.c_grammar.specs.declared.token.Token.{Token}
use Rattle.c_grammar.specs.Lexed.{Lexed, Refused}
use Rattle.c_grammar.specs.Parsed as parsed
use Rattle.c_grammar.specs.Written.{Parses}
use Rattle.c_types.specs.Programs as types
use Rattle.version_names.specs.Parts.{part_of}
use Rattle.update_points.specs.Points.{all_points, refusal_of, permits}
use Rattle.state_xform.specs.Transformers.{IsTransformer}
use Rattle.state_xform.specs.Refusals as xform
use Rattle.client_specs.specs.Clients.{IsClient}
use Rattle.client_specs.specs.Kept.{ClientProgram}
use Rattle.client_specs.specs.Refusals as client
use Rattle.update_semantics.specs.UpdatingRun.{World}
use Rattle.front_end.specs.Conditions.{Condition, AllHold, refusal_at, or_refused}
use Rattle.front_end.specs.TypedText.{IsTypedText}

-- the text of a client, and the name of the function with which a run begins
pub record ClientText : Type 0 where
  pub text : Bytes
  pub spec : Bytes

-- the texts of the two versions, of the transformer, and of the client, where there is one
pub record Texts : Type 0 where
  pub old : Bytes
  pub new : Bytes
  pub xform : Bytes
  pub client : Option ClientText

-- the condition on the client's text, where there is one
abbrev pub of_client : (ClientText → Condition) → Option ClientText → List Condition
of_client condition None = []
of_client condition (Some c) = condition c ∷ []

-- ---- a condition on one text

abbrev pub within_limit : Unit → Bytes → Condition
within_limit u text = or_refused (refusal_at past_limit u) (length text ≤ size_limit u)

abbrev pub has_tokens : Unit → Bytes → Condition
has_tokens u text = record {
  Holds = (tokens : List Token) × Lexed u text tokens;
  Refuses = λ r. Refused u text r;
}

abbrev pub is_program : Unit → Bytes → Condition
is_program u text = record {
  Holds = (source : Program) × Parses u (height_limit u) text source;
  Refuses = λ r. (tokens : List Token) × Lexed u text tokens × parsed.IsRefused u (height_limit u) tokens r;
}

abbrev pub is_typed : Unit → Bytes → Condition
is_typed u text = record {
  Holds = (program : Program) × IsTypedText u text program;
  Refuses = λ r. (source : Program) × Parses u (height_limit u) text source × (types.first_refusal u source ≡ Some r);
}

-- ---- conditions on several

-- the two versions are these typed programs
pub record AreVersions (ts : Texts) (first second : Program) : Type 0 where
  pub old : IsTypedText Old ts.old first
  pub new : IsTypedText New ts.new second

abbrev pub ParsesXform : Texts → Program → Type 0
ParsesXform ts source = Parses Xform (height_limit Xform) ts.xform source

abbrev pub ParsesClient : ClientText → Program → Type 0
ParsesClient c source = Parses Client (height_limit Client) c.text source

-- there is no client, or it is this program, as it is written
abbrev pub ParsesOptionalClient : Option ClientText → Option Program → Type 0
ParsesOptionalClient None None = ⊤
ParsesOptionalClient (Some c) (Some source) = ParsesClient c source
ParsesOptionalClient _ _ = ⊥

-- the points of the old program and of the client are told apart, and each listed number is that of one
abbrev pub has_points : Option (List ℕ) → Texts → Condition
has_points listed ts = record {
  Holds = (first : Program) × (source : Option Program) × IsTypedText Old ts.old first × ParsesOptionalClient ts.client source
      × (refusal_of (all_points first source) listed ≡ None);
  Refuses = λ r. (first : Program) × (source : Option Program) × IsTypedText Old ts.old first × ParsesOptionalClient ts.client source
      × (refusal_of (all_points first source) listed ≡ Some r);
}

abbrev pub has_transformer : Texts → Condition
has_transformer ts = record {
  Holds = (first second source : Program) × AreVersions ts first second × ParsesXform ts source × IsTransformer first second source;
  Refuses = λ r. (first second source : Program) × AreVersions ts first second × ParsesXform ts source
      × (xform.first_refusal (part_of first second) first second source ≡ Some r);
}

abbrev pub has_client : Texts → ClientText → Condition
has_client ts c = record {
  Holds = (first second source : Program) × AreVersions ts first second × ParsesClient c source × IsClient first second c.spec source;
  Refuses = λ r. (first second source : Program) × AreVersions ts first second × ParsesClient c source
      × (client.first_refusal (part_of first second) first second source c.spec ≡ Some r);
}

-- ---- all of them, stage by stage, and in each stage over all texts that it concerns

abbrev pub size_conditions : Texts → List Condition
size_conditions ts = within_limit Old ts.old ∷ within_limit New ts.new ∷ within_limit Xform ts.xform ∷ of_client (λ c. within_limit Client c.text) ts.client

abbrev pub token_conditions : Texts → List Condition
token_conditions ts = has_tokens Old ts.old ∷ has_tokens New ts.new ∷ has_tokens Xform ts.xform ∷ of_client (λ c. has_tokens Client c.text) ts.client

abbrev pub grammar_conditions : Texts → List Condition
grammar_conditions ts = is_program Old ts.old ∷ is_program New ts.new ∷ is_program Xform ts.xform ∷ of_client (λ c. is_program Client c.text) ts.client

abbrev pub type_conditions : Texts → List Condition
type_conditions ts = is_typed Old ts.old ∷ is_typed New ts.new ∷ []

abbrev pub update_conditions : Option (List ℕ) → Texts → List Condition
update_conditions listed ts = has_points listed ts ∷ has_transformer ts ∷ of_client (has_client ts) ts.client

-- what the texts must meet, where these points are listed or none are
abbrev pub conditions : Option (List ℕ) → Texts → List Condition
conditions listed ts =
    size_conditions ts ++ (token_conditions ts ++ (grammar_conditions ts ++ (type_conditions ts ++ update_conditions listed ts)))

-- ---- the world

-- the client's resolved form
abbrev pub kept_client : Program → Program → Bytes → Program → ClientProgram
kept_client first second spec source = record { spec = spec; program = client.resolved_client (part_of first second) first second source spec }

-- there is no client, or it is the resolved form of this program
abbrev pub IsOptionalClientOf : Program → Program → Option ClientText → Option Program → Option ClientProgram → Type 0
IsOptionalClientOf first second None None None = ⊤
IsOptionalClientOf first second (Some c) (Some source) (Some kept) = IsClient first second c.spec source × (kept ≡ kept_client first second c.spec source)
IsOptionalClientOf first second _ _ _ = ⊥

-- the world of the texts: its programs are those of the texts, in their resolved form, and its points the
-- listed ones, or all where there is no list
pub record IsWorldOf (listed : Option (List ℕ)) (ts : Texts) (w : World) : Type 0 where
  pub versions : AreVersions ts w.first w.second
  pub source : Program
  pub parses : ParsesXform ts source
  pub transformer : IsTransformer w.first w.second source
  pub resolved : w.xform ≡ xform.resolved_transformer (part_of w.first w.second) w.first w.second source
  pub client_source : Option Program
  pub client_parses : ParsesOptionalClient ts.client client_source
  pub client : IsOptionalClientOf w.first w.second ts.client client_source w.client
  pub told_apart : refusal_of (all_points w.first client_source) listed ≡ None
  pub points : (k : ℕ) → w.permits k ≡ permits (all_points w.first client_source) listed k

-- the texts meet all conditions, and this is their world
abbrev pub IsAccepted : Option (List ℕ) → Texts → World → Type 0
IsAccepted listed ts w = AllHold (conditions listed ts) × IsWorldOf listed ts w
