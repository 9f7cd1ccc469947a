-- No name of a source other than a transformer begins as a name of one version alone does in a merged program.
use Rattle.std.proofs.Common.{◌≡◌, nat_eq, Bool, true, false, ◌||◌, if◌then◌else◌, List, [], ◌∷◌, ◌++◌, All, Some, None, refl, sym, ap, ap₂, ◌∙◌, subst, codes}
use Rattle.std.specs.List.{starts_with}
use Rattle.std.specs.Str.{bytes_eq}
use Rattle.std.proofs.lemmas.List.Elements.{All-head, All-tail}
use Rattle.c_lang.specs.Names.{Bytes}
use Rattle.c_lang.specs.Programs.{global_named, func_named}
use Rattle.c_lang.specs.declared.unit.Unit.{Unit}
use Rattle.c_lang.specs.declared.unit.Unit.TheVariants as unit
use Rattle.c_lang.specs.declared.program.GlobalVar.{GlobalVar}
use Rattle.c_lang.specs.declared.program.Func.{Func}
use Rattle.c_grammar.specs.Words.{is_allowed, is_refused}
use Rattle.c_types.specs.Scopes.{names_version}
use Rattle.written_laws.specs.SourceNames.{IsWord, ShapeHasNames}
use Rattle.merged_program.proofs.MergedNames.{by_bool, true_false, same_names, behind_prefix}

-- the unit refuses such names
pub record RefusesVersions (u : Unit) : Type 0 where
  pub old : (x : Bytes) → is_refused u (codes "dsu_old_" ++ x) ≡ true
  pub new : (x : Bytes) → is_refused u (codes "dsu_new_" ++ x) ≡ true

pub old_refuses : RefusesVersions unit.Old
unfolding is_allowed
old_refuses = record { old = λ x. refl; new = λ x. refl }

pub client_refuses : RefusesVersions unit.Client
unfolding is_allowed
client_refuses = record { old = λ x. refl; new = λ x. refl }

module _ (u : Unit) (refuses : RefusesVersions u) where
  refused_after : (prefix : Bytes) → ((x : Bytes) → is_refused u (prefix ++ x) ≡ true) → (x : Bytes) → IsWord u x → starts_with nat_eq x prefix ≡ false
  refused_after prefix h x word = by_bool (starts_with nat_eq x prefix)
      (λ e. absurd (true_false (subst (λ (y : Bytes). true ≡ is_refused u y) (behind_prefix x prefix e) (sym (h _)) ∙ word.allowed)))
      (λ e. e)

  pub word_plain : (x : Bytes) → IsWord u x → names_version x ≡ false
  unfolding names_version
  word_plain x h = ap₂ (λ (a b : Bool). a || b) (refused_after (codes "dsu_old_") refuses.old x h) (refused_after (codes "dsu_new_") refuses.new x h)

  pub no_plain_global : (gs : List GlobalVar) → All (λ (g : GlobalVar). IsWord u g.name × ShapeHasNames u g.shape) gs → (x : Bytes) → names_version x ≡ true → global_named gs x ≡ None
  no_plain_global [] h x k = refl
  no_plain_global (g ∷ gs) h x k = by_bool (bytes_eq g.name x)
      (λ e. absurd (true_false (sym k ∙ sym (ap names_version (same_names g.name x e)) ∙ word_plain g.name (All-head (λ (g : GlobalVar). IsWord u g.name × ShapeHasNames u g.shape) g gs h).0)))
      (λ e. ap (λ (b : Bool). if b then Some g else global_named gs x) e
      ∙ no_plain_global gs (All-tail (λ (g : GlobalVar). IsWord u g.name × ShapeHasNames u g.shape) g gs h) x k)

  pub no_plain_func : (fs : List Func) → All (λ (f : Func). IsWord u f.name) fs → (x : Bytes) → names_version x ≡ true → func_named fs x ≡ None
  no_plain_func [] h x k = refl
  no_plain_func (f ∷ fs) h x k = by_bool (bytes_eq f.name x)
      (λ e. absurd (true_false (sym k ∙ sym (ap names_version (same_names f.name x e)) ∙ word_plain f.name (All-head (λ (f : Func). IsWord u f.name) f fs h))))
      (λ e. ap (λ (b : Bool). if b then Some f else func_named fs x) e ∙ no_plain_func fs (All-tail (λ (f : Func). IsWord u f.name) f fs h) x k)
