-- Scopes of merged code: the names of the code's scope under other names, and what points declare besides.
use Rattle.std.proofs.Common.{◌≡◌, cond, Bool, true, false, ◌&&◌, [], length, Option, Some, None, refl, sym, ap, ap₂, ◌∙◌, subst, codes}
use Rattle.std.specs.Prelude.{⊤}
use Rattle.std.specs.Option.{option_or}
use Rattle.std.specs.Str.{bytes_eq}
use Rattle.std.proofs.lemmas.List.{length-map}
use Rattle.c_lang.specs.Names.{Bytes}
use Rattle.c_lang.specs.declared.stmt.Dest.{Dest}
use Rattle.c_lang.specs.declared.stmt.Dest.TheVariants.{Nowhere, Into, Fresh}
use Rattle.c_lang.specs.declared.stmt.Kind.{Kind}
use Rattle.c_lang.specs.declared.stmt.Kind.TheVariants.{Int}
use Rattle.c_types.specs.Names.{Means, Cell, Code, Entries, found, added, stands_from, stands_before, at_least, less_than}
use Rattle.c_types.specs.Scopes.{Picks, Scope, Block, in_scope, names_of, is_another, names_version, with_dest, kind_of_dest, kind_of_target}
use Rattle.c_types.specs.Functions.{IsPlain}
use Rattle.c_types.specs.Statements.{block_in}
use Rattle.c_types.specs.Typing.{IsCell, IsFresh, IsDest, TakesInt, IsUse}
use Rattle.version_names.specs.Merged.{merged_name}
use Rattle.version_names.specs.Parts.{Parts}
use Rattle.version_names.specs.declared.part.Origin.TheVariants.{Xform}
use Rattle.client_specs.specs.declared.region.Region.{Region}
use Rattle.client_specs.specs.declared.region.Region.TheVariants.{Behind, After, Before}
use Rattle.merged_program.specs.Names.{now_name, choice_name}
use Rattle.merged_program.specs.Expressions.{renamed_dest}
use Rattle.merged_program.proofs.Lookups.{or_none}
use Rattle.merged_program.proofs.AddedNames.{one, found_added}
use Rattle.merged_types.proofs.EntryLaws.{renamed_entries, renamed_found, renamed_added, same_position}
use Rattle.merged_types.proofs.Carrying.{IsKeptCell, IsKeptCode, IsLocal, cell_before, code_before, AreCarried, are_carried, in_region}

-- variables' new names are apart from each other and from what a point declares
pub record IsNaming (ρ : Bytes → Bytes) : Type 0 where
  pub same : (x y : Bytes) → bytes_eq (ρ x) (ρ y) ≡ bytes_eq x y
  pub choice : (x : Bytes) → bytes_eq choice_name (ρ x) ≡ false
  pub choice_after : (x : Bytes) → bytes_eq (ρ x) choice_name ≡ false

-- what the merged program has for updates
pub record HasUpdate (outside : Entries) : Type 0 where
  pub now : found outside now_name ≡ Some (Cell Int)
  pub choice : found outside choice_name ≡ None
  pub transform : found outside (merged_name Xform (codes "dsu_transform")) ≡ Some (Code [] false None None)

module _ (ρ κ : Bytes → Bytes) (naming : IsNaming ρ) where
  pub record IsOutside (s t : Entries) : Type 0 where
    pub cells : (x : Bytes) → IsKeptCell (found s x) (found t (ρ x))
    pub codes : (f : Bytes) → IsKeptCode (found s f) (found t (κ f))

-- what variables are called, and functions by their spelled names, and which version's functions are meant in each region
pub record Renaming : Type 0 where
  pub variables : Bytes → Bytes
  pub functions : Bytes → Bytes
  pub naming : IsNaming variables
  pub parts : Parts

module _ (R : Renaming) where
  abbrev ρ : Bytes → Bytes
  ρ = R.variables

  abbrev κ : Region → Bytes → Bytes
  κ = in_region R.variables R.functions R.parts

  -- what is visible in the region has its meaning in the merged program
  abbrev pub IsAt : Region → Entries → Entries → Type 0
  IsAt region s t = IsOutside ρ (κ region) R.naming s t

  abbrev pub SeesBehind : Option Entries → Entries → Type 0
  SeesBehind None t = ⊤
  SeesBehind (Some s) t = IsAt Behind s t

  abbrev pub SeesPicks : Option Picks → Entries → Type 0
  SeesPicks None t = ⊤
  SeesPicks (Some names) t = IsAt After names.after t × IsAt Before names.before t

  -- all that may be visible from here on
  pub record IsSeen (region : Region) (outside : Entries) (forced : Option Entries) (names : Option Picks) (t : Entries) : Type 0 where
    pub here : IsAt region outside t
    pub behind : SeesBehind forced t
    pub picks : SeesPicks names t

  -- locals of blocks that have ended; points may have declared one more
  pub record AreTold (s t : Entries) : Type 0 where
    pub same : (x : Bytes) → found t (ρ x) ≡ found s x
    pub choice : is_another (found t choice_name) Int ≡ false

  pub record IsCarried (region : Region) (s t : Scope) : Type 0 where
    pub seen : IsSeen region s.outside s.forced s.picks t.outside
    -- merged code has no force and no pick
    pub plain : IsPlain t
    pub locals : t.locals ≡ renamed_entries ρ s.locals
    pub cells : (x : Bytes) → IsLocal (found s.locals x)
    pub told : AreTold s.told t.told
    pub ahead : t.ahead ≡ renamed_entries ρ s.ahead
    pub gives : t.gives ≡ s.gives
    pub code : t.xform ≡ false

  -- ---- names

  pub locals_found : (s t : Entries) (x : Bytes) → t ≡ renamed_entries ρ s → found t (ρ x) ≡ found s x
  locals_found s t x e = ap (λ (es : Entries). found es (ρ x)) e ∙ renamed_found ρ R.naming.same s x

  module _ (region : Region) (s t : Scope) (c : IsCarried region s t) where
    pub cells_carried : (x : Bytes) → IsKeptCell (in_scope s x) (in_scope t (ρ x))
    cells_carried x =
        cell_before (found s.outside x) (found t.outside (ρ x)) (found s.locals x) (found t.locals (ρ x))
        (c.seen.here.cells x) (locals_found s.locals t.locals x c.locals) (c.cells x)

    pub codes_carried : (f : Bytes) → IsKeptCode (in_scope s f) (in_scope t (κ region f))
    codes_carried f =
        code_before (found s.outside f) (found t.outside (κ region f)) (found s.locals f) (found t.locals (κ region f)) (c.seen.here.codes f) (c.cells f)

    pub names_carried : AreCarried ρ (κ region) (names_of s) (names_of t)
    names_carried = are_carried ρ (κ region) (in_scope s) (in_scope t) cells_carried codes_carried

    -- ---- destinations

    pub kind_of_dest_carried : (b : Block) (d : Dest) → IsDest b s d → kind_of_dest t (renamed_dest ρ d) ≡ kind_of_dest s d
    kind_of_dest_carried b Nowhere h = refl
    kind_of_dest_carried b (Into x) h = ap kind_of_target (names_carried.cell x h)
    kind_of_dest_carried b (Fresh k x) h = refl

    pub use_carried : (b : Block) (gives : Bool) (d : Dest) → IsDest b s d → IsUse s gives d → IsUse t gives (renamed_dest ρ d)
    use_carried b gives Nowhere h u = tt
    use_carried b gives (Into x) h u = (u.0, subst TakesInt (sym (kind_of_dest_carried b (Into x) h)) u.1)
    use_carried b gives (Fresh k x) h u = u

    free_is : (o o' : Option Means) → IsKeptCell o o' → o ≡ None → o' ≡ None
    free_is None o' h e = h
    free_is (Some m) o' h e = absurd cc

    pub fresh_carried : (b : Block) (k : Kind) (x : Bytes) → IsFresh b s k x → IsFresh b t k (ρ x)
    fresh_carried b k x h = record {
      new = ap (λ (es : Entries). stands_from b.base es (ρ x)) c.locals ∙ ap (at_least b.base) (same_position ρ R.naming.same s.locals x) ∙ h.new;
      alike = ap (λ (o : Option Means). is_another o k) (c.told.same x) ∙ h.alike;
      free = free_is (in_scope s x) (in_scope t (ρ x)) (cells_carried x) h.free;
      kept = ap (λ (es : Entries). stands_before b.mark es (ρ x)) c.ahead ∙ ap (less_than b.mark) (same_position ρ R.naming.same s.ahead x) ∙ h.kept;
      own = ap (λ (y : Bool). y && names_version (ρ x)) c.code;
    }

    pub dest_carried : (b : Block) (d : Dest) → IsDest b s d → IsDest b t (renamed_dest ρ d)
    dest_carried b Nowhere h = tt
    dest_carried b (Into x) h = subst IsCell (sym (names_carried.cell x h)) h
    dest_carried b (Fresh k x) h = (fresh_carried b k x h.0, h.1)

    pub block_carried : block_in t ≡ block_in s
    block_carried =
        let size : (es : Entries) → length (renamed_entries ρ es) ≡ length es = λ es. length-map es (λ (e : Bytes × Means). (ρ e.0, e.1)) in
        let a : length t.locals ≡ length s.locals = ap length c.locals ∙ size s.locals in
        let b : length t.ahead ≡ length s.ahead = ap length c.ahead ∙ size s.ahead in
        (λ i. record { base = a i; mark = b i })

  -- ---- declarations

  pub local_added : (es : Entries) (x : Bytes) (k : Kind) → ((y : Bytes) → IsLocal (found es y)) → (y : Bytes) → IsLocal (found (added es x (Cell k)) y)
  local_added es x k h y = subst IsLocal (sym (found_added es y x (Cell k))) (both (found es y) (bytes_eq y x) (h y))
    where
      both : (o : Option Means) (b : Bool) → IsLocal o → IsLocal (option_or o (cond b (Some (Cell k)) None))
      both None true h = tt
      both None false h = tt
      both (Some m) b h = h

  pub locals_dest : (es : Entries) (d : Dest) → with_dest (renamed_entries ρ es) (renamed_dest ρ d) ≡ renamed_entries ρ (with_dest es d)
  locals_dest es Nowhere = refl
  locals_dest es (Into x) = refl
  locals_dest es (Fresh k x) = renamed_added ρ R.naming.same es x (Cell k)

  pub cells_dest : (es : Entries) (d : Dest) → ((y : Bytes) → IsLocal (found es y)) → (y : Bytes) → IsLocal (found (with_dest es d) y)
  cells_dest es Nowhere h = h
  cells_dest es (Into x) h = h
  cells_dest es (Fresh k x) h = local_added es x k h

  told_added : (s t : Entries) (x : Bytes) (k : Kind) → AreTold s t → AreTold (added s x (Cell k)) (added t (ρ x) (Cell k))
  told_added s t x k h = record {
    same = λ y.
        found_added t (ρ y) (ρ x) (Cell k)
        ∙ ap₂ (λ (o : Option Means) (b : Bool). option_or o (cond b (Some (Cell k)) None)) (h.same y) (R.naming.same y x)
        ∙ sym (found_added s y x (Cell k));
    choice =
        ap (λ (o : Option Means). is_another o Int)
        (found_added t choice_name (ρ x) (Cell k)
        ∙ ap (λ (b : Bool). option_or (found t choice_name) (cond b (Some (Cell k)) None)) (R.naming.choice x) ∙ or_none (found t choice_name))
        ∙ h.choice;
  }

  pub told_dest : (s t : Entries) (d : Dest) → AreTold s t → AreTold (with_dest s d) (with_dest t (renamed_dest ρ d))
  told_dest s t Nowhere h = h
  told_dest s t (Into x) h = h
  told_dest s t (Fresh k x) h = told_added s t x k h

  -- what a point declares
  pub told_choice : (s t : Entries) → AreTold s t → AreTold s (added t choice_name (Cell Int))
  told_choice s t h = record {
    same = λ x.
        found_added t (ρ x) choice_name (Cell Int)
        ∙ ap (λ (b : Bool). option_or (found t (ρ x)) (cond b (Some (Cell Int)) None)) (R.naming.choice_after x)
        ∙ or_none (found t (ρ x)) ∙ h.same x;
    choice = ap (λ (o : Option Means). is_another o Int) (found_added t choice_name choice_name (Cell Int)) ∙ int_more (found t choice_name) h.choice;
  }
    where
      int_more : (o : Option Means) → is_another o Int ≡ false → is_another (option_or o (one choice_name choice_name (Cell Int))) Int ≡ false
      int_more None h = refl
      int_more (Some m) h = h
