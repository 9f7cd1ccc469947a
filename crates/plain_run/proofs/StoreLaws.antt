-- A value is stored in a frame's locals.
use Rattle.std.proofs.Common.{◌≡◌, true, List, Option, Some, None, is_some, refl, sym, ap, ◌∙◌}
use Rattle.std.specs.Borrow.{Bor}
use Rattle.std.specs.Option.{option_map}
use Rattle.indexmap.specs.IndexMap.{insert_entry}
use Rattle.c_lang.specs.Names.{Bytes}
use Rattle.c_lang.specs.Values as spec
use Rattle.plain_run.specs.Environments.{Sees}
use Rattle.plain_run.specs.Steps.{Access, Frame, Live, updated, into}
use Rattle.c_lang.specs.declared.stmt.Dest.TheVariants.{Into, Fresh}
use Rattle.c_lang.specs.declared.stmt.Kind.{Kind}
use Rattle.plain_run.specs.declared.value.Value.{Value}
use Rattle.plain_run.specs.Code.Frames.{frame_with}
use Rattle.plain_run.specs.Code.Names.{Entries, found, seen_locals}
use Rattle.plain_run.specs.Code.Stored.{Stores}
use Rattle.plain_run.specs.Values.{seen_value}
use Rattle.plain_run.proofs.TableLaws.{same_name, seen-insert}

-- equal at each name is equal
pub all_names : {X : Type 0} (f g : Bytes → X) → ((x : Bytes) → f x ≡ g x) → f ≡ g
all_names f g same = λ i x. same x i

module _ {X Y F G O : Type 0} (see : Sees X Y F O) (N : Access F G O) (origin : Y) (g : G)
    (old new : Entries X) (k : Bor Bytes) (v : Value X) (is : new ≡ insert_entry same_name old k v) where
  locals-insert : updated (seen_locals see.function old) k.now (Some (seen_value see.function v)) ≡ seen_locals see.function new
  locals-insert = all_names _ _ (λ x. sym (ap (λ entries. seen_locals see.function entries x) is ∙ seen-insert (option_map (seen_value see.function)) old k v x))

  pub stores_fresh : (kind : Kind) → Stores see N origin g old (Fresh kind k.now) v g new
  stores_fresh kind items dest gives below = ap (λ locals. Live g (frame_with (see.origin origin) locals items dest gives) below) locals-insert

  in_local : (o : Option (Value X)) → is_some o ≡ true → (f : Frame F O) (below : List (Frame F O)) (x : Bytes) (w : spec.Value F)
      → into N (option_map (seen_value see.function) o) g f below x w ≡ Live g (record f { locals = updated f.locals x (Some w) }) below
  in_local (Some u) there f below x w = refl
  in_local None there f below x w = cc

  pub stores_local : is_some (found old k.now) ≡ true → Stores see N origin g old (Into k.now) v g new
  stores_local there items dest gives below =
      in_local (found old k.now) there (frame_with (see.origin origin) (seen_locals see.function old) items dest gives) below k.now (seen_value see.function v)
      ∙ ap (λ locals. Live g (frame_with (see.origin origin) locals items dest gives) below) locals-insert
