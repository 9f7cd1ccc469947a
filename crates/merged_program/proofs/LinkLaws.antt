-- A name stands in both versions where they share it.
use Rattle.std.specs.Prelude.{◌≡◌, Bool, true, false, Option, Some, None, is_some}
use Rattle.std.proofs.Common.{refl}
use Rattle.c_lang.specs.Names.{Bytes}
use Rattle.c_lang.specs.Programs.{global_named, func_named}
use Rattle.c_lang.specs.declared.program.GlobalVar.{GlobalVar}
use Rattle.c_lang.specs.declared.program.Program.{Program}
use Rattle.version_names.specs.Home.{Both, same_home}
use Rattle.version_names.specs.Links.{part, both_alike, same_shape, same_head, is_shared_cell, is_shared_code, cell_part, code_part}
use Rattle.version_names.specs.Version as version

module _ {X : Type 0} (same : X → X → Bool) where
  shared_new : (a b : Option X) → same_home (part version.New (is_some b) (both_alike same a b)) Both ≡ both_alike same a b
  shared_new None None = refl
  shared_new None (Some y) = refl
  shared_new (Some x) None = refl
  shared_new (Some x) (Some y) = by_test (same x y)
    where
      by_test : (b : Bool) → same_home (part version.New true b) Both ≡ b
      by_test true = refl
      by_test false = refl

  shared_old : (a b : Option X) → same_home (part version.Old (is_some a) (both_alike same a b)) Both ≡ both_alike same a b
  shared_old None None = refl
  shared_old None (Some y) = refl
  shared_old (Some x) None = refl
  shared_old (Some x) (Some y) = by_test (same x y)
    where
      by_test : (b : Bool) → same_home (part version.Old true b) Both ≡ b
      by_test true = refl
      by_test false = refl

pub shared_cell : (first second : Program) (x : Bytes) → same_home (cell_part first second version.New x) Both ≡ is_shared_cell first second x
shared_cell first second x = shared_new (λ (g h : GlobalVar). same_shape g.shape h.shape) (global_named first.globals x) (global_named second.globals x)

pub shared_code : (first second : Program) (f : Bytes) → same_home (code_part first second version.Old f) Both ≡ is_shared_code first second f
shared_code first second f = shared_old same_head (func_named first.funcs f) (func_named second.funcs f)
