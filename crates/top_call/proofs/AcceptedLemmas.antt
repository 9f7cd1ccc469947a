-- What is accepted and refused of texts that were read.
use Rattle.std.proofs.Common.{◌≡◌, subst, ℕ, List, Option}
use Rattle.c_lang.specs.declared.refusal.Refusal.{Refusal}
use Rattle.front_end.specs.Conditions.{IsFirstRefusal}
use Rattle.front_end.specs.Worlds.{Texts, conditions, IsAccepted}
use Rattle.update_semantics.specs.UpdatingRun.{World}

module _ (l m : Option (List ℕ)) (s t : Texts) (listed : l ≡ m) (same : s ≡ t) where
  of_texts : (P : Option (List ℕ) → Texts → Type 0) → P l s → P m t
  of_texts P h = subst (λ (o : Option (List ℕ)). P o t) listed (subst (λ (x : Texts). P l x) same h)

  pub accepted_of_texts : (W : World) → IsAccepted l s W → IsAccepted m t W
  accepted_of_texts W = of_texts (λ o x. IsAccepted o x W)

  pub refused_of_texts : (refusal : Refusal) → IsFirstRefusal (conditions l s) refusal → IsFirstRefusal (conditions m t) refusal
  refused_of_texts refusal = of_texts (λ o x. IsFirstRefusal (conditions o x) refusal)
