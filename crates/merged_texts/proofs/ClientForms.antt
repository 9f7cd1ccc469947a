-- The resolved form of a client: resolution changes nothing of what the client is without it, and then names are spelled.
use Rattle.std.specs.Prelude.{◌≡◌, List, [], ◌∷◌, map}
use Rattle.std.proofs.Common.{refl, ap, ap₂}
use Rattle.c_lang.specs.Names.{Bytes}
use Rattle.c_lang.specs.declared.program.Func.{Func}
use Rattle.c_lang.specs.declared.program.Program.{Program}
use Rattle.c_types.specs.Functions.{resolved_from}
use Rattle.c_types.specs.Names.{Entries}
use Rattle.c_types.specs.Plain.{plain_func, plain_program}
use Rattle.c_types.specs.Programs.{with_func}
use Rattle.c_types.proofs.PlainLaws.{plain_from_resolved}
use Rattle.version_names.specs.Parts.{Parts}
use Rattle.client_specs.specs.Clients.{AreOwnFuncs}
use Rattle.client_specs.specs.Refusals.{resolved_own}
use Rattle.client_specs.specs.Spelled.{spelled_func}
use Rattle.client_specs.specs.Starts.{start}

module _ (parts : Parts) (first second p : Program) (spec : Bytes) where
  -- before names are spelled
  abbrev pub unspelled : Program
  unspelled = record p { funcs = map (λ (f : Func). resolved_from (start parts first second p spec f) f) p.funcs; early = [] }

  own_spelled : (fs : List Func) → resolved_own parts first second p spec fs ≡ map (spelled_func parts) (map (λ (f : Func). resolved_from (start parts first second p spec f) f) fs)
  own_spelled [] = refl
  own_spelled (f ∷ fs) = ap (λ (gs : List Func). spelled_func parts (resolved_from (start parts first second p spec f) f) ∷ gs) (own_spelled fs)

  pub client_spelled : resolved_own parts first second p spec p.funcs ≡ map (spelled_func parts) unspelled.funcs
  client_spelled = own_spelled p.funcs

  own_plain : (seen : Entries) (fs : List Func) → AreOwnFuncs parts first second p spec seen fs
      → map plain_func (map (λ (f : Func). resolved_from (start parts first second p spec f) f) fs) ≡ map plain_func fs
  own_plain seen [] h = refl
  own_plain seen (f ∷ fs) h = ap₂ (λ x xs. x ∷ xs) (plain_from_resolved (start parts first second p spec f) f h.1) (own_plain (with_func seen f) fs h.2)

  pub plain_client : AreOwnFuncs parts first second p spec [] p.funcs → plain_program unspelled ≡ plain_program p
  plain_client h = let same = own_plain [] p.funcs h in (λ i. record { globals = p.globals; protos = p.protos; funcs = same i })
