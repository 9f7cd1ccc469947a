-- The status of each name is that of its two declarations, and says where it stands.
use Rattle.std.specs.Prelude.{◌≡◌, Bool, true, false, cond, if◌then◌else◌, List, [], ◌∷◌, map, Option, Some, None, is_some, not, ◌&&◌, Result, IfOk}
use Rattle.std.specs.declared.alloc.AllocError.{AllocError}
use Rattle.std.proofs.Common.{refl, sym, ap, ap₂, subst, ◌∙◌}
use Rattle.std.specs.Str.{bytes_eq}
use Rattle.std.specs.Option.{option_map}
use Rattle.std.proofs.lemmas.Slice.Eq.{bytes_eq-Decides}
use Rattle.c_lang.specs.Names.{Bytes}
use Rattle.c_lang.specs.Programs.{global_named, func_named}
use Rattle.version_names.specs.Links.{same_shape, same_head, both_alike, part, cell_part, code_part}
use Rattle.c_lang.specs.declared.program.Shape.{Shape}
use Rattle.c_lang.specs.declared.program.Shape.TheVariants as shape
use Rattle.c_lang.specs.declared.program.GlobalVar.{GlobalVar}
use Rattle.c_lang.specs.declared.program.Func.{Func}
use Rattle.c_lang.specs.declared.program.Program.{Program}
use Rattle.c_types.specs.Functions.{kinds_of}
use Rattle.version_names.specs.Code.Declarations.{what_of_shape, same_what, declared_global, declared_func, declared_as}
use Rattle.version_names.specs.Parts.{version_of, part_at, part_of, part_by, is_changed_cell, changed_among, is_changed, changed_by, entries_of, IsLinked}
use Rattle.version_names.specs.Code.Statuses.{with_whats, status_of_new, with_new, with_old, statuses_of}
use Rattle.version_names.specs.Code.Tables.{found, added}
use Rattle.version_names.specs.declared.declared.What.{What}
use Rattle.version_names.specs.declared.declared.What.TheVariants.{Code}
use Rattle.version_names.specs.declared.declared.Declared.{Declared}
use Rattle.version_names.specs.declared.links.Links.{Links}
use Rattle.version_names.specs.declared.part.Version.{Version}
use Rattle.version_names.specs.declared.part.Version.TheVariants as v
use Rattle.version_names.specs.declared.part.Sort2.{Sort2}
use Rattle.version_names.specs.declared.part.Sort2.TheVariants as sort
use Rattle.version_names.specs.declared.status.Status.{Status}
use Rattle.version_names.specs.declared.status.Status.TheVariants.{Shared, Changed, Removed}
use Rattle.version_names.proofs.TableLaws.{or_else, none_else, found-added}

-- ---- the tables

symmetric : (x y : Bytes) → bytes_eq x y ≡ bytes_eq y x
symmetric x y = by (bytes_eq x y) (bytes_eq y x) refl refl
  where
    by : (b c : Bool) → bytes_eq x y ≡ b → bytes_eq y x ≡ c → b ≡ c
    by true true p q = refl
    by true false p q = sym ((bytes_eq-Decides y x).1 (sym ((bytes_eq-Decides x y).0 p))) ∙ q
    by false true p q = sym p ∙ (bytes_eq-Decides x y).1 (sym ((bytes_eq-Decides y x).0 q))
    by false false p q = refl

-- the first of two, one after the other
or_then : {X : Type 0} (o : Option X) (b : Bool) (w : X) (rest : Option X) → or_else (or_else o (if b then Some w else None)) rest ≡ or_else o (cond b (Some w) rest)
or_then None true w rest = refl
or_then None false w rest = refl
or_then (Some x) b w rest = refl

turned : {X : Type 0} (o : Option X) (x y : Bytes) (w : X) (rest : Option X)
    → or_else (or_else o (if bytes_eq y x then Some w else None)) rest ≡ or_else o (if bytes_eq x y then Some w else rest)
turned o x y w rest = or_then o (bytes_eq y x) w rest ∙ ap (λ (b : Bool). or_else o (cond b (Some w) rest)) (symmetric y x)

whats-found : (entries : List (Bytes × What)) (ds : List Declared) (y : Bytes) → found (with_whats entries ds) y ≡ or_else (found entries y) (declared_as ds y)
whats-found entries [] y = none_else (found entries y)
whats-found entries (d ∷ ds) y =
    whats-found (added entries d.name d.what) ds y
    ∙ ap (λ o. or_else o (declared_as ds y)) (found-added entries d.name y d.what)
    ∙ turned (found entries y) d.name y d.what (declared_as ds y)

abbrev new_status : List (Bytes × What) → Bytes → Option What → Option Status
new_status olds y None = None
new_status olds y (Some what) = Some (status_of_new (found olds y) what)

new-found : (olds : List (Bytes × What)) (entries : List (Bytes × Status)) (ds : List Declared) (y : Bytes)
    → found (with_new olds entries ds) y ≡ or_else (found entries y) (new_status olds y (declared_as ds y))
new-found olds entries [] y = none_else (found entries y)
new-found olds entries (d ∷ ds) y =
    new-found olds (added entries d.name (status_of_new (found olds d.name) d.what)) ds y
    ∙ ap (λ o. or_else o (new_status olds y (declared_as ds y))) (found-added entries d.name y (status_of_new (found olds d.name) d.what))
    ∙ turned (found entries y) d.name y (status_of_new (found olds d.name) d.what) (new_status olds y (declared_as ds y))
    ∙ ap (or_else (found entries y)) (by_name (bytes_eq d.name y) refl)
  where
    by_name : (b : Bool) → bytes_eq d.name y ≡ b
        → cond b (Some (status_of_new (found olds d.name) d.what)) (new_status olds y (declared_as ds y)) ≡ new_status olds y (cond b (Some d.what) (declared_as ds y))
    by_name true same = ap (λ (x : Bytes). Some (status_of_new (found olds x) d.what)) ((bytes_eq-Decides d.name y).0 same)
    by_name false same = refl

-- the old version alone has it
abbrev old_status : Option What → Option Status
old_status None = None
old_status (Some what) = Some Removed

old-found : (entries : List (Bytes × Status)) (ds : List Declared) (y : Bytes) → found (with_old entries ds) y ≡ or_else (found entries y) (old_status (declared_as ds y))
old-found entries [] y = none_else (found entries y)
old-found entries (d ∷ ds) y =
    old-found (added entries d.name Removed) ds y
    ∙ ap (λ o. or_else o (old_status (declared_as ds y))) (found-added entries d.name y Removed)
    ∙ turned (found entries y) d.name y Removed (old_status (declared_as ds y))
    ∙ ap (or_else (found entries y)) (by_name (bytes_eq d.name y))
  where
    by_name : (b : Bool) → cond b (Some Removed) (old_status (declared_as ds y)) ≡ old_status (cond b (Some d.what) (declared_as ds y))
    by_name true = refl
    by_name false = refl

-- of a name, by what the versions declare it as
abbrev status_by : Option What → Option What → Option Status
status_by before (Some what) = Some (status_of_new before what)
status_by (Some before) None = Some Removed
status_by None None = None

status-found : (olds news : List Declared) (y : Bytes) → found (statuses_of olds news) y ≡ status_by (declared_as olds y) (declared_as news y)
status-found olds news y =
    old-found (with_new (with_whats [] olds) [] news) olds y
    ∙ ap (λ o. or_else o (old_status (declared_as olds y))) (new-found (with_whats [] olds) [] news y)
    ∙ by_new (declared_as news y)
  where
    by_old : (before : Option What) → old_status before ≡ status_by before None
    by_old None = refl
    by_old (Some what) = refl

    by_new : (o : Option What) → or_else (new_status (with_whats [] olds) y o) (old_status (declared_as olds y)) ≡ status_by (declared_as olds y) o
    by_new None = by_old (declared_as olds y)
    by_new (Some what) = ap (λ before. Some (status_of_new before what)) (whats-found [] olds y)

-- ---- what a status says

-- where a name stands, by its declarations in both versions
abbrev alike_by : Option What → Option What → Bool
alike_by (Some a) (Some b) = same_what a b
alike_by _ _ = false

abbrev declared_in : Version → Option What → Option What → Option What
declared_in v.Old before after = before
declared_in v.New before after = after

part-is : (w : Version) (before after : Option What)
    → part_by w (status_by before after) ≡ part_at (part (version_of w) (is_some (declared_in w before after)) (alike_by before after))
part-is v.Old None None = refl
part-is v.New None None = refl
part-is v.Old (Some a) None = refl
part-is v.New (Some a) None = refl
part-is v.Old None (Some b) = refl
part-is v.New None (Some b) = refl
part-is w (Some a) (Some b) = by_test w (same_what a b)
  where
    by_test : (w : Version) (c : Bool) → part_by w (Some (if c then Shared else Changed)) ≡ part_at (part (version_of w) (is_some (declared_in w (Some a) (Some b))) c)
    by_test v.Old true = refl
    by_test v.Old false = refl
    by_test v.New true = refl
    by_test v.New false = refl

-- ---- declarations of programs

abbrev what_of_global : GlobalVar → What
what_of_global g = what_of_shape g.shape

global-declared : (gs : List GlobalVar) (x : Bytes) → declared_as (map declared_global gs) x ≡ option_map what_of_global (global_named gs x)
global-declared [] x = refl
global-declared (g ∷ gs) x = by_test (bytes_eq g.name x) (global-declared gs x)
  where
    by_test : (b : Bool) → declared_as (map declared_global gs) x ≡ option_map what_of_global (global_named gs x)
        → cond b (Some (what_of_shape g.shape)) (declared_as (map declared_global gs) x) ≡ option_map what_of_global (cond b (Some g) (global_named gs x))
    by_test true h = refl
    by_test false h = h

abbrev what_of_func : Func → What
what_of_func f = Code (kinds_of f.params) f.gives

func-declared : (fs : List Func) (x : Bytes) → declared_as (map declared_func fs) x ≡ option_map what_of_func (func_named fs x)
func-declared [] x = refl
func-declared (f ∷ fs) x = by_test (bytes_eq f.name x) (func-declared fs x)
  where
    by_test : (b : Bool) → declared_as (map declared_func fs) x ≡ option_map what_of_func (func_named fs x)
        → cond b (Some (what_of_func f)) (declared_as (map declared_func fs) x) ≡ option_map what_of_func (cond b (Some f) (func_named fs x))
    by_test true h = refl
    by_test false h = h

same-shapes : (a b : Shape) → same_what (what_of_shape a) (what_of_shape b) ≡ same_shape a b
same-shapes (shape.Int y) (shape.Int z) = refl
same-shapes (shape.Int y) (shape.Arr zs) = refl
same-shapes (shape.Int y) (shape.Fp n f) = refl
same-shapes (shape.Arr ys) (shape.Int z) = refl
same-shapes (shape.Arr ys) (shape.Arr zs) = refl
same-shapes (shape.Arr ys) (shape.Fp n f) = refl
same-shapes (shape.Fp m f) (shape.Int z) = refl
same-shapes (shape.Fp m f) (shape.Arr zs) = refl
same-shapes (shape.Fp m f) (shape.Fp n g) = refl

cells-alike : (a b : Option GlobalVar) → alike_by (option_map what_of_global a) (option_map what_of_global b) ≡ both_alike (λ (g h : GlobalVar). same_shape g.shape h.shape) a b
cells-alike (Some g) (Some h) = same-shapes g.shape h.shape
cells-alike (Some g) None = refl
cells-alike None (Some h) = refl
cells-alike None None = refl

codes-alike : (a b : Option Func) → alike_by (option_map what_of_func a) (option_map what_of_func b) ≡ both_alike same_head a b
codes-alike (Some f) (Some g) = refl
codes-alike (Some f) None = refl
codes-alike None (Some g) = refl
codes-alike None None = refl

some-mapped : {X Y : Type 0} (f : X → Y) (o : Option X) → is_some (option_map f o) ≡ is_some o
some-mapped f None = refl
some-mapped f (Some x) = refl

module _ (first second : Program) where
  abbrev cell_statuses : List (Bytes × Status)
  cell_statuses = statuses_of (map declared_global first.globals) (map declared_global second.globals)

  abbrev code_statuses : List (Bytes × Status)
  code_statuses = statuses_of (map declared_func first.funcs) (map declared_func second.funcs)

  cell-status : (x : Bytes) → found cell_statuses x ≡ status_by (option_map what_of_global (global_named first.globals x)) (option_map what_of_global (global_named second.globals x))
  cell-status x = status-found (map declared_global first.globals) (map declared_global second.globals) x ∙ ap₂ status_by (global-declared first.globals x) (global-declared second.globals x)

  code-status : (x : Bytes) → found code_statuses x ≡ status_by (option_map what_of_func (func_named first.funcs x)) (option_map what_of_func (func_named second.funcs x))
  code-status x = status-found (map declared_func first.funcs) (map declared_func second.funcs) x ∙ ap₂ status_by (func-declared first.funcs x) (func-declared second.funcs x)

  cell-part : (w : Version) (x : Bytes) → part_by w (found cell_statuses x) ≡ part_of first second w sort.Cell x
  cell-part w x = ap (part_by w) (cell-status x) ∙ part-is w (option_map what_of_global (global_named first.globals x)) (option_map what_of_global (global_named second.globals x)) ∙ ap part_at (by w)
    where
      by : (w : Version) → part (version_of w) (is_some (declared_in w (option_map what_of_global (global_named first.globals x)) (option_map what_of_global (global_named second.globals x)))) (alike_by (option_map what_of_global (global_named first.globals x)) (option_map what_of_global (global_named second.globals x))) ≡ cell_part first second (version_of w) x
      by v.Old = ap₂ (part (version_of v.Old)) (some-mapped what_of_global (global_named first.globals x)) (cells-alike (global_named first.globals x) (global_named second.globals x))
      by v.New = ap₂ (part (version_of v.New)) (some-mapped what_of_global (global_named second.globals x)) (cells-alike (global_named first.globals x) (global_named second.globals x))

  code-part : (w : Version) (x : Bytes) → part_by w (found code_statuses x) ≡ part_of first second w sort.Code x
  code-part w x = ap (part_by w) (code-status x) ∙ part-is w (option_map what_of_func (func_named first.funcs x)) (option_map what_of_func (func_named second.funcs x)) ∙ ap part_at (by w)
    where
      by : (w : Version) → part (version_of w) (is_some (declared_in w (option_map what_of_func (func_named first.funcs x)) (option_map what_of_func (func_named second.funcs x)))) (alike_by (option_map what_of_func (func_named first.funcs x)) (option_map what_of_func (func_named second.funcs x))) ≡ code_part first second (version_of w) x
      by v.Old = ap₂ (part (version_of v.Old)) (some-mapped what_of_func (func_named first.funcs x)) (codes-alike (func_named first.funcs x) (func_named second.funcs x))
      by v.New = ap₂ (part (version_of v.New)) (some-mapped what_of_func (func_named second.funcs x)) (codes-alike (func_named first.funcs x) (func_named second.funcs x))

  -- ---- what changed

  changed-is : (before after : Option GlobalVar) → is_changed (status_by (option_map what_of_global before) (option_map what_of_global after))
      ≡ (is_some before && (is_some after && not (both_alike (λ (g h : GlobalVar). same_shape g.shape h.shape) before after)))
  changed-is None None = refl
  changed-is (Some g) None = refl
  changed-is None (Some h) = refl
  changed-is (Some g) (Some h) = by_test (same_what (what_of_shape g.shape) (what_of_shape h.shape)) ∙ ap not (same-shapes g.shape h.shape)
    where
      by_test : (c : Bool) → is_changed (Some (if c then Shared else Changed)) ≡ not c
      by_test true = refl
      by_test false = refl

  changed-cell : (x : Bytes) → is_changed (found cell_statuses x) ≡ is_changed_cell first second x
  changed-cell x = ap is_changed (cell-status x) ∙ changed-is (global_named first.globals x) (global_named second.globals x)

  changed-all : (gs : List GlobalVar) → changed_by cell_statuses gs ≡ changed_among first second gs
  changed-all [] = refl
  changed-all (g ∷ gs) = rw (changed-cell g.name, changed-all gs) refl

  pub is-linked : (links : Links) → links.cells ≡ cell_statuses → links.codes ≡ code_statuses → links.changed ≡ changed_by links.cells second.globals → IsLinked first second links
  is-linked links cells codes changed = record {
    parts = parts;
    changed = changed ∙ ap (λ entries. changed_by entries second.globals) cells ∙ changed-all second.globals;
  }
    where
      parts : (w : Version) (s : Sort2) (x : Bytes) → part_by w (found (entries_of links s) x) ≡ part_of first second w s x
      parts w sort.Cell x = ap (λ entries. part_by w (found entries x)) cells ∙ cell-part w x
      parts w sort.Code x = ap (λ entries. part_by w (found entries x)) codes ∙ code-part w x

pub linked-again : (p q first second : Program) (r : Result Links AllocError) → p ≡ first → q ≡ second → IfOk r (λ links. IsLinked p q links) → IfOk r (λ links. IsLinked first second links)
linked-again p q first second r same other = subst (λ (b : Program). IfOk r (λ links. IsLinked p q links) → IfOk r (λ links. IsLinked first b links)) other
    (subst (λ (a : Program). IfOk r (λ links. IsLinked p q links) → IfOk r (λ links. IsLinked a q links)) same (λ h. h))
