-- Where names stand, by what is kept of links and declarations.
use Rattle.std.proofs.Common.{◌≡◌, Bool, true, false, if◌then◌else◌, List, [], ◌∷◌, Option, Some, None, is_some, refl, ap, ◌∙◌}
use Rattle.std.specs.Option.{option_map}
use Rattle.std.specs.Str.{bytes_eq}
use Rattle.c_lang.specs.Names.{Bytes}
use Rattle.c_lang.specs.Programs.{global_named, func_named}
use Rattle.c_lang.specs.declared.program.Func.{Func}
use Rattle.c_lang.specs.declared.program.GlobalVar.{GlobalVar}
use Rattle.plain_run.proofs.TableLaws.{from_true}
use Rattle.version_names.specs.Code.Tables as tables
use Rattle.version_names.specs.Home.{Unlinked}
use Rattle.version_names.specs.Links.{part}
use Rattle.version_names.specs.Version as version
use Rattle.version_names.specs.Parts.{part_at, part_by, part_of, entries_of, version_of}
use Rattle.version_names.specs.declared.links.Links.{Links}
use Rattle.version_names.specs.declared.part.Part.{Part}
use Rattle.version_names.specs.declared.part.Version.{Version}
use Rattle.version_names.specs.declared.part.Version.TheVariants as v
use Rattle.version_names.specs.declared.part.Sort2.{Sort2}
use Rattle.version_names.specs.declared.part.Sort2.TheVariants as sort
use Rattle.update_semantics.specs.Linked.{home_at, home_in, declared_name, program_of}
use Rattle.update_semantics.specs.Worlds.{World, IsWorld, world_of}

back : (v : version.Version) (has shared : Bool) → home_at (part_at (part v has shared)) ≡ part v has shared
back version.Old false s = refl
back version.Old true true = refl
back version.Old true false = refl
back version.New false s = refl
back version.New true true = refl
back version.New true false = refl

home_of_part : (w : World) (u : Version) (s : Sort2) (x : Bytes)
    → home_at (part_of w.old_prog.program w.new_prog.program u s x) ≡ home_in (world_of w) s (version_of u) x
home_of_part w u sort.Cell x = back (version_of u) _ _
home_of_part w u sort.Code x = back (version_of u) _ _

pub part_is : (w : World) (links : Links) → links ≡ w.links → IsWorld w → (u : Version) (s : Sort2) (x : Bytes) (r : Option Part)
    → r ≡ part_by u (tables.found (entries_of links s) x) → home_at r ≡ home_in (world_of w) s (version_of u) x
part_is w links same made u s x r is =
    ap home_at (is ∙ ap (λ (l : Links). part_by u (tables.found (entries_of l s) x)) same ∙ made.linked.parts u s x) ∙ home_of_part w u s x

-- ---- declared names

name_of_global : (gs : List GlobalVar) (x n : Bytes) → option_map (λ (g : GlobalVar). g.name) (global_named gs x) ≡ Some n → n ≡ x
name_of_global [] x n is = cc
name_of_global (g ∷ gs) x n is = by (bytes_eq g.name x) refl is (name_of_global gs x n)
  where
    by : (b : Bool) → bytes_eq g.name x ≡ b → option_map (λ (g : GlobalVar). g.name) (if b then Some g else global_named gs x) ≡ Some n
        → (option_map (λ (g : GlobalVar). g.name) (global_named gs x) ≡ Some n → n ≡ x) → n ≡ x
    by true p is rest = cc (from_true g.name x p)
    by false p is rest = rest is

name_of_func : (fs : List Func) (x n : Bytes) → option_map (λ (f : Func). f.name) (func_named fs x) ≡ Some n → n ≡ x
name_of_func [] x n is = cc
name_of_func (f ∷ fs) x n is = by (bytes_eq f.name x) refl is (name_of_func fs x n)
  where
    by : (b : Bool) → bytes_eq f.name x ≡ b → option_map (λ (f : Func). f.name) (if b then Some f else func_named fs x) ≡ Some n
        → (option_map (λ (f : Func). f.name) (func_named fs x) ≡ Some n → n ≡ x) → n ≡ x
    by true p is rest = cc (from_true f.name x p)
    by false p is rest = rest is

-- a declared name is found by its bytes
pub declared_is : (w : World) (u : Version) (s : Sort2) (x n : Bytes) → declared_name (program_of w u) s x ≡ Some n → n ≡ x
declared_is w u sort.Cell x n is = name_of_global (program_of w u).globals x n is
declared_is w u sort.Code x n is = name_of_func (program_of w u).funcs x n is

none_of : {A B : Type 0} (f : A → B) (o : Option A) → option_map f o ≡ None → is_some o ≡ false
none_of f None is = refl
none_of f (Some x) is = cc

without : (v : version.Version) (shared : Bool) (has : Bool) → has ≡ false → part v has shared ≡ Unlinked
without version.Old s has is = ap (λ h. part version.Old h s) is
without version.New s has is = ap (λ h. part version.New h s) is

-- what a version doesn't declare stands nowhere
pub undeclared_is : (w : World) (u : Version) (s : Sort2) (x : Bytes) → declared_name (program_of w u) s x ≡ None
    → home_in (world_of w) s (version_of u) x ≡ Unlinked
undeclared_is w v.Old sort.Cell x is = without version.Old _ _ (none_of _ _ is)
undeclared_is w v.New sort.Cell x is = without version.New _ _ (none_of _ _ is)
undeclared_is w v.Old sort.Code x is = without version.Old _ _ (none_of _ _ is)
undeclared_is w v.New sort.Code x is = without version.New _ _ (none_of _ _ is)
