-- What refuses a text in a stage, and what the stages give together.
use Rattle.std.proofs.Common.{◌≡◌, ◌≤◌, ◌∙◌, sym, ap, subst, inl, inr, arith, ℕ, List, [], ◌∷◌, ◌++◌, length, Option, Some, None, Result, Ok, Err, refl}
use Rattle.std.specs.Prelude.{MatchResult}
use Rattle.c_lang.specs.Names.{Bytes}
use Rattle.c_lang.specs.Limits.{height_limit, size_limit}
use Rattle.c_lang.specs.declared.unit.Unit.{Unit}
use Rattle.c_lang.specs.declared.unit.Unit.TheVariants.{Old, New, Xform, Client}
use Rattle.c_lang.specs.declared.refusal.Refusal.{Refusal}
use Rattle.c_lang.specs.declared.refusal.Fail.{Fail}
use Rattle.c_lang.specs.declared.refusal.Fail.TheVariants.{NoMemory, Refused}
use Rattle.c_lang.specs.declared.program.Program.{Program}
use Rattle.c_grammar.specs.declared.token.Token.{Token}
use Rattle.c_grammar.specs.Lexed as lexed
use Rattle.c_grammar.specs.Parsed as parsed
use Rattle.c_grammar.specs.Written.{Parses, IsWritten}
use Rattle.c_lexer.proofs.LexLaws.{one_list, not_both}
use Rattle.c_lexer.proofs.LexLaws.{may_be_written}
use Rattle.c_parser.proofs.WrittenLaws.{one_of_text, is_written}
use Rattle.c_types.specs.Kept.{TypedProgram, IsChecked, IsKept}
use Rattle.c_types.specs.Types.{Types}
use Rattle.c_types.specs.Programs.{resolved_program}
use Rattle.update_points.specs.Points.{all_points, refusal_of, IsListed}
use Rattle.update_points.specs.declared.points.Points.{Points}
use Rattle.state_xform.specs.Kept as xform
use Rattle.state_xform.specs.Transformers.{IsTransformer}
use Rattle.state_xform.specs.Refusals as transformer
use Rattle.client_specs.specs.Clients.{IsClient}
use Rattle.client_specs.specs.Kept as client
use Rattle.client_specs.specs.Kept.{ClientProgram}
use Rattle.update_semantics.specs.UpdatingRun as run
use Rattle.update_semantics.specs.Worlds.{World, world_of}
use Rattle.front_end.specs.Conditions.{Condition, AllHold, IsRefusedBy}
use Rattle.front_end.specs.TypedText.{IsTypedText}
use Rattle.front_end.specs.Worlds.{ClientText, Texts, of_client, has_tokens, is_program, is_typed, has_points, has_transformer, has_client, AreVersions, ParsesXform, ParsesClient, ParsesOptionalClient, IsOptionalClientOf, size_conditions, token_conditions, grammar_conditions, type_conditions, update_conditions, conditions, IsWorldOf, IsAccepted}
use Rattle.front_end.specs.Code.Stages.{AreOptionalTokens, AreTokens, IsOptionalSource, AreParsed, AreTyped}
use Rattle.front_end.specs.declared.worlds.ClientTokens.{ClientTokens}
use Rattle.front_end.specs.declared.worlds.ClientSource.{ClientSource}
use Rattle.front_end.specs.declared.worlds.Tokens.{Tokens}
use Rattle.front_end.specs.declared.worlds.Programs.{Programs}
use Rattle.front_end.specs.declared.worlds.Versions.{Versions}
use Rattle.front_end.proofs.ConditionLemmas.{all-append, fails-here, fails-behind}

-- a condition that holds refuses nothing
pub behind : (condition : Condition) (conditions : List Condition) (f : Fail) → condition.Holds → IsRefusedBy conditions f → IsRefusedBy (condition ∷ conditions) f
behind condition conditions NoMemory holds h = tt
behind condition conditions (Refused r) holds h = inr (holds, h)

refused_is_memory : (r : Refusal) → Refused r ≡ NoMemory → ⊥
refused_is_memory r h = cc

none_is_some : {X : Type 0} (x : X) (o : Option X) → o ≡ None → o ≡ Some x → ⊥
none_is_some x o none some = cc

module _ (u : Unit) (text : Bytes) where
  pub tokens_refused : (rest : List Condition) (f : Fail) → length text ≤ size_limit u → lexed.IsRefusedAs f u text → IsRefusedBy (has_tokens u text ∷ rest) f
  tokens_refused rest NoMemory small h = tt
  tokens_refused rest (Refused r) small h = inl (λ tokens. not_both u text tokens.0 r small tokens.1 h, h)

  pub program_refused : (rest : List Condition) (tokens : List Token) (f : Fail) → lexed.Lexed u text tokens → parsed.IsRefusedAs f u (height_limit u) tokens
      → ((p : Program) → parsed.IsParsed u (height_limit u) tokens p → f ≡ NoMemory) → IsRefusedBy (is_program u text ∷ rest) f
  program_refused rest tokens NoMemory cut h only = tt
  program_refused rest tokens (Refused r) cut h only = inl (
    λ source. refused_is_memory r (only source.0 (subst (λ (ts : List Token). parsed.IsParsed u (height_limit u) ts source.0) (one_list u text source.1.tokens tokens source.1.lexed cut) source.1.parsed)),
    (tokens, cut, h),
  )

  pub types_refused : (rest : List Condition) (source : Program) (f : Fail) → Parses u (height_limit u) text source → IsChecked u source (Err f)
      → IsRefusedBy (is_typed u text ∷ rest) f
  types_refused rest source NoMemory is h = tt
  types_refused rest source (Refused r) is h = inl (
    λ typed. h.0 (subst (λ (p : Program). Types u p) (one_of_text u (height_limit u) (height_limit u) text typed.1.source source typed.1.is_program.parses is) typed.1.typed),
    (source, is, h.1),
  )

  pub typed_text : (source : Program) (t : TypedProgram) → length text ≤ size_limit u → Parses u (height_limit u) text source → IsChecked u source (Ok t) → IsTypedText u text t.program
  typed_text source t small is h = record { source = source; is_program = record { within = small; parses = is }; typed = h.1; resolved = h.2 }

  -- a text is one typed program
  pub one_typed : (p q : Program) → IsTypedText u text p → IsTypedText u text q → p ≡ q
  one_typed p q a b =
      a.resolved ∙ ap resolved_program (one_of_text u (height_limit u) (height_limit u) text a.source b.source a.is_program.parses b.is_program.parses) ∙ sym b.resolved

  pub written : (source : Program) → length text ≤ size_limit u → Parses u (height_limit u) text source → IsWritten u source
  written source small is = is_written u (height_limit u) text source (omega arith) (may_be_written u (length text) small) is

-- a client's text is one program
one_source : (c : Option ClientText) (p q : Option Program) → ParsesOptionalClient c p → ParsesOptionalClient c q → p ≡ q
one_source None None None h k = refl
one_source None None (Some q) h k = absurd k
one_source None (Some p) q h k = absurd h
one_source (Some c) None q h k = absurd h
one_source (Some c) (Some p) None h k = absurd k
one_source (Some c) (Some p) (Some q) h k = ap Some (one_of_text Client (height_limit Client) (height_limit Client) c.text p q h k)

module _ (listed : Option (List ℕ)) (ts : Texts) where
  pub points_refused : (rest : List Condition) (first : Program) (source : Option Program) (f : Fail) → IsTypedText Old ts.old first
      → ParsesOptionalClient ts.client source → IsListed (all_points first source) listed (Err f) → IsRefusedBy (has_points listed ts ∷ rest) f
  points_refused rest first source NoMemory is parses h = tt
  points_refused rest first source (Refused r) is parses h = inl (
    λ other. none_is_some r (refusal_of (all_points first source) listed)
        (same other.0 other.1 other.2 other.3 other.4) h,
    (first, source, is, parses, h),
  )
    where
      same : (p : Program) (s : Option Program) → IsTypedText Old ts.old p → ParsesOptionalClient ts.client s → refusal_of (all_points p s) listed ≡ None
          → refusal_of (all_points first source) listed ≡ None
      same p s typed that none =
          subst (λ (x : Program). refusal_of (all_points x source) listed ≡ None) (one_typed Old ts.old p first typed is)
          (subst (λ (x : Option Program). refusal_of (all_points p x) listed ≡ None) (one_source ts.client s source that parses) none)

  pub transformer_refused : (rest : List Condition) (first second source : Program) (f : Fail) → AreVersions ts first second → ParsesXform ts source
      → xform.IsChecked first second source (Err f) → IsRefusedBy (has_transformer ts ∷ rest) f
  transformer_refused rest first second source NoMemory are is h = tt
  transformer_refused rest first second source (Refused r) are is h = inl (
    λ other. h.0 (same other.0 other.1 other.2 other.3 other.4 other.5),
    (first, second, source, are, is, h.1),
  )
    where
      same : (p q s : Program) → AreVersions ts p q → ParsesXform ts s → IsTransformer p q s → IsTransformer first second source
      same p q s those that it =
          subst (λ (x : Program). IsTransformer x second source) (one_typed Old ts.old p first those.old are.old)
          (subst (λ (x : Program). IsTransformer p x source) (one_typed New ts.new q second those.new are.new)
          (subst (λ (x : Program). IsTransformer p q x) (one_of_text Xform (height_limit Xform) (height_limit Xform) ts.xform s source that is) it))

  pub client_refused : (c : ClientText) (first second source : Program) (f : Fail) → AreVersions ts first second → ParsesClient c source
      → client.IsChecked first second c.spec source (Err f) → IsRefusedBy (has_client ts c ∷ []) f
  client_refused c first second source NoMemory are is h = tt
  client_refused c first second source (Refused r) are is h = inl (
    λ other. h.0 (same other.0 other.1 other.2 other.3 other.4 other.5),
    (first, second, source, are, is, h.1),
  )
    where
      same : (p q s : Program) → AreVersions ts p q → ParsesClient c s → IsClient p q c.spec s → IsClient first second c.spec source
      same p q s those that it =
          subst (λ (x : Program). IsClient x second c.spec source) (one_typed Old ts.old p first those.old are.old)
          (subst (λ (x : Program). IsClient p x c.spec source) (one_typed New ts.new q second those.new are.new)
          (subst (λ (x : Program). IsClient p q c.spec x) (one_of_text Client (height_limit Client) (height_limit Client) c.text s source that is) it))

-- what a check gives of a program that is written in its unit
pub kept : (u : Unit) (source : Program) (t : TypedProgram) → IsWritten u source → IsChecked u source (Ok t) → IsKept t
kept u source t is h =
    let there : u ≡ t.unit = sym h.0 in
    record {
      source = source;
      written = subst (λ (v : Unit). IsWritten v source) there is;
      typed = subst (λ (v : Unit). Types v source) there h.1;
      resolved = h.2;
    }

-- ---- the client's conditions, where there is a client

client_lexed : (c : Option ClientText) (tokens : Option ClientTokens) → AreOptionalTokens c tokens → AllHold (of_client (λ c. has_tokens Client c.text) c)
client_lexed None tokens h = tt
client_lexed (Some c) None h = absurd h
client_lexed (Some c) (Some tokens) h = ((tokens.tokens.items, h.0), tt)

client_parsed : (c : Option ClientText) (source : Option ClientSource) → IsOptionalSource c source → AllHold (of_client (λ c. is_program Client c.text) c)
client_parsed None source h = tt
client_parsed (Some c) None h = absurd h
client_parsed (Some c) (Some source) h = ((source.program, h.0), tt)

client_holds : (ts : Texts) (first second : Program) (c : Option ClientText) (source : Option Program) (kept : Option ClientProgram) → AreVersions ts first second
    → ParsesOptionalClient c source → IsOptionalClientOf first second c source kept → AllHold (of_client (has_client ts) c)
client_holds ts first second None source kept are parses h = tt
client_holds ts first second (Some c) None kept are parses h = absurd parses
client_holds ts first second (Some c) (Some source) None are parses h = absurd h
client_holds ts first second (Some c) (Some source) (Some kept) are parses h = ((first, second, source, are, parses, h.0), tt)

-- ---- all stages together

module _ (listed : Option (List ℕ)) (ts : Texts) (sizes : AllHold (size_conditions ts)) where
  abbrev after_sizes : List Condition
  after_sizes = token_conditions ts ++ (grammar_conditions ts ++ (type_conditions ts ++ update_conditions listed ts))

  pub refused_by_tokens : (f : Fail) → IsRefusedBy (token_conditions ts) f → IsRefusedBy (conditions listed ts) f
  refused_by_tokens f h = fails-behind (size_conditions ts) after_sizes f sizes (fails-here (token_conditions ts) (grammar_conditions ts ++ (type_conditions ts ++ update_conditions listed ts)) f h)

  module _ (tokens : Tokens) (cut : AreTokens ts tokens) where
    tokens_hold : AllHold (token_conditions ts)
    tokens_hold = ((tokens.old.items, cut.old), ((tokens.new.items, cut.new), ((tokens.xform.items, cut.xform), client_lexed ts.client tokens.client cut.client)))

    abbrev after_tokens : List Condition
    after_tokens = grammar_conditions ts ++ (type_conditions ts ++ update_conditions listed ts)

    behind_tokens : (f : Fail) → IsRefusedBy after_tokens f → IsRefusedBy (conditions listed ts) f
    behind_tokens f h = fails-behind (size_conditions ts) after_sizes f sizes (fails-behind (token_conditions ts) after_tokens f tokens_hold h)

    pub refused_by_grammar : (f : Fail) → IsRefusedBy (grammar_conditions ts) f → IsRefusedBy (conditions listed ts) f
    refused_by_grammar f h = behind_tokens f (fails-here (grammar_conditions ts) (type_conditions ts ++ update_conditions listed ts) f h)

    module _ (programs : Programs) (are : AreParsed ts programs) where
      grammar_holds : AllHold (grammar_conditions ts)
      grammar_holds = ((programs.old, are.versions.old), ((programs.new, are.versions.new), ((programs.xform, are.xform), client_parsed ts.client programs.client are.client)))

      behind_grammar : (f : Fail) → IsRefusedBy (type_conditions ts ++ update_conditions listed ts) f → IsRefusedBy (conditions listed ts) f
      behind_grammar f h = behind_tokens f (fails-behind (grammar_conditions ts) (type_conditions ts ++ update_conditions listed ts) f grammar_holds h)

      pub refused_by_types : (f : Fail) → IsRefusedBy (type_conditions ts) f → IsRefusedBy (conditions listed ts) f
      refused_by_types f h = behind_grammar f (fails-here (type_conditions ts) (update_conditions listed ts) f h)

      module _ (versions : Versions) (typed : AreTyped ts versions) where
        types_hold : AllHold (type_conditions ts)
        types_hold = ((versions.old.program, typed.versions.old), ((versions.new.program, typed.versions.new), tt))

        all_hold : (w : run.World) → IsWorldOf listed ts w → AllHold (conditions listed ts)
        all_hold w is =
            all-append (size_conditions ts) after_sizes sizes
            (all-append (token_conditions ts) after_tokens tokens_hold
            (all-append (grammar_conditions ts) (type_conditions ts ++ update_conditions listed ts) grammar_holds
            (all-append (type_conditions ts) (update_conditions listed ts) types_hold (
              (w.first, is.client_source, is.versions.old, is.client_parses, is.told_apart),
              (
                (w.first, w.second, is.source, is.versions, is.parses, is.transformer),
                client_holds ts w.first w.second ts.client is.client_source w.client is.versions is.client_parses is.client,
              ),
            ))))

        pub accepted : (result : Result World Fail)
            → MatchResult result (λ w. IsWorldOf listed ts (world_of w)) (IsRefusedBy (update_conditions listed ts))
            → MatchResult result (λ w. IsAccepted listed ts (world_of w)) (IsRefusedBy (conditions listed ts))
        accepted (Ok w) h = (all_hold (world_of w) h, h)
        accepted (Err f) h = behind_grammar f (fails-behind (type_conditions ts) (update_conditions listed ts) f types_hold h)
