-- Lists of demands, from the first that isn't met.
use Rattle.std.proofs.Common.{◌≡◌, ◌<◌, ◌+◌, ◌==◌, ℕ, Bool, true, false, not, ◌&&◌, if◌then◌else◌, List, [], ◌∷◌, ◌++◌, map, flat_map, length, take, drop, slice_index_or, Some, None, refl, sym, ap, ap₂, ◌∙◌}
use Rattle.std.specs.Borrow.{Bor}
use Rattle.std.specs.List.{list_all}
use Rattle.std.proofs.lemmas.List.{at_drop_more, take_more, append-nil}
use Rattle.c_lang.specs.Names.{Bytes}
use Rattle.c_lang.specs.declared.program.Func.{Func}
use Rattle.c_lang.specs.declared.program.Program.{Program}
use Rattle.hint_texts.specs.declared.fault.Fault.{Fault}
use Rattle.hint_texts.specs.declared.fault.Fault.TheVariants as fault
use Rattle.hint_texts.specs.declared.hints.Item.{Item}
use Rattle.loop_invariants.specs.declared.hints.Contract.{Contract}
use Rattle.loop_invariants.specs.declared.hints.LoopInvariants.{LoopInvariants}
use Rattle.loop_invariants.specs.Hints.{Hints}
use Rattle.std.proofs.lemmas.Grind.{flat_map-append}
use Rattle.hint_reading.specs.Meaning.{hints_of, contracts_by, loops_by}
use Rattle.hint_reading.specs.Demands.{Demand, first_unmet, has_contract, are_new, item_demands, demands_behind}
use Rattle.hint_reading.specs.Code.Parts.{Fails, funcs_in, with_item}

-- ---- the first that isn't met

pub met_first : (d : Demand) (ds : List Demand) → d.met ≡ true → first_unmet (d ∷ ds) ≡ first_unmet ds
met_first d ds e = ap (λ b. if b then first_unmet ds else Some d.line) e

pub unmet_first : (d : Demand) (ds : List Demand) → d.met ≡ false → first_unmet (d ∷ ds) ≡ Some d.line
unmet_first d ds e = ap (λ b. if b then first_unmet ds else Some d.line) e

pub met_before : (xs ys : List Demand) → first_unmet xs ≡ None → first_unmet (xs ++ ys) ≡ first_unmet ys
met_before [] ys e = refl
met_before (d ∷ ds) ys e = by d.met e (met_before ds ys)
  where
    by : (b : Bool) → (if b then first_unmet ds else Some d.line) ≡ None → (first_unmet ds ≡ None → first_unmet (ds ++ ys) ≡ first_unmet ys)
        → (if b then first_unmet (ds ++ ys) else Some d.line) ≡ first_unmet ys
    by true none rest = rest none
    by false none rest = cc

pub unmet_before : (xs ys : List Demand) (line : ℕ) → first_unmet xs ≡ Some line → first_unmet (xs ++ ys) ≡ Some line
unmet_before [] ys line e = cc
unmet_before (d ∷ ds) ys line e = by d.met e (unmet_before ds ys line)
  where
    by : (b : Bool) → (if b then first_unmet ds else Some d.line) ≡ Some line → (first_unmet ds ≡ Some line → first_unmet (ds ++ ys) ≡ Some line)
        → (if b then first_unmet (ds ++ ys) else Some d.line) ≡ Some line
    by true some rest = rest some
    by false some rest = some

-- ---- one element more

module _ {A : Type 0} (D : A → Demand) (xs : List A) (i : ℕ) (x : A) (less : i < length xs) (is : x ≡ slice_index_or xs i x) where
  next : first_unmet (map D (drop i xs)) ≡ first_unmet (D x ∷ map D (drop (i + 1) xs))
  next = at_drop_more (λ ys. first_unmet (map D ys)) xs i x less ∙ ap (λ y. first_unmet (D y ∷ map D (drop (i + 1) xs))) (sym is)

  pub met_next : (D x).met ≡ true → first_unmet (map D (drop i xs)) ≡ first_unmet (map D (drop (i + 1) xs))
  met_next e = next ∙ met_first (D x) (map D (drop (i + 1) xs)) e

  pub unmet_next : (D x).met ≡ false → first_unmet (map D (drop i xs)) ≡ Some (D x).line
  unmet_next e = next ∙ unmet_first (D x) (map D (drop (i + 1) xs)) e

-- ---- new functions

pub all_new : (hints : Hints) (fs : List (Bor Func)) → (length fs == 0) ≡ false
    → list_all (λ (f : Bor Func). not (has_contract hints f.now.name)) fs ≡ are_new hints (funcs_in fs)
all_new hints [] some = cc
all_new hints (f ∷ fs) some = of_all (f ∷ fs)
  where
    of_all : (fs : List (Bor Func)) → list_all (λ (f : Bor Func). not (has_contract hints f.now.name)) fs ≡ list_all (λ f. not (has_contract hints f.name)) (funcs_in fs)
    of_all [] = refl
    of_all (f ∷ fs) = ap (λ b. not (has_contract hints f.now.name) && b) (of_all fs)

-- ---- one item more

module _ (p : Program) (items : List Item) (i : ℕ) (item : Item) (less : i < length items) (is : item ≡ slice_index_or items i item)
    (so_far : Hints) (seen : so_far ≡ hints_of p (take i items)) where
  before : List Item
  before = take i items

  more : take (i + 1) items ≡ before ++ (item ∷ [])
  unfolding before
  more = take_more items i item less ∙ ap (λ y. take i items ++ (y ∷ [])) (sym is)

  abbrev rest : List Demand
  rest = demands_behind p (take (i + 1) items) (drop (i + 1) items)

  opened : first_unmet (demands_behind p before (drop i items)) ≡ first_unmet (item_demands p so_far item ++ rest)
  unfolding before
  opened = at_drop_more (λ ys. first_unmet (demands_behind p before ys)) items i item less
      ∙ ap (λ y. first_unmet (item_demands p (hints_of p before) y ++ demands_behind p (before ++ (y ∷ [])) (drop (i + 1) items))) (sym is)
      ∙ ap₂ (λ h b. first_unmet (item_demands p h item ++ demands_behind p b (drop (i + 1) items))) (sym seen) (sym more)

  pub item_met : first_unmet (item_demands p so_far item) ≡ None
      → first_unmet (demands_behind p (take i items) (drop i items)) ≡ first_unmet (demands_behind p (take (i + 1) items) (drop (i + 1) items))
  unfolding before
  item_met none = opened ∙ met_before (item_demands p so_far item) rest none

  pub item_fails : (why : Fault) → Fails why (first_unmet (item_demands p so_far item)) → Fails why (first_unmet (demands_behind p (take i items) (drop i items)))
  unfolding before
  item_fails fault.NoMemory fails = fails
  item_fails (fault.NoText line) fails = opened ∙ unmet_before (item_demands p so_far item) rest line fails

  pub item_said : with_item p so_far item ≡ hints_of p (take (i + 1) items)
  unfolding before
  item_said = ap (λ h. with_item p h item) seen ∙ sym both_said
    where
      made : List (Bytes × Contract) → List LoopInvariants → Hints
      made cs ls = record { contracts = cs; loops = ls }

      both_said : hints_of p (take (i + 1) items) ≡ with_item p (hints_of p before) item
      both_said = ap (hints_of p) more ∙ ap₂ made
          (flat_map-append (contracts_by p) before (item ∷ []) ∙ ap (λ zs. flat_map (contracts_by p) before ++ zs) (append-nil (contracts_by p item)))
          (flat_map-append loops_by before (item ∷ []) ∙ ap (λ zs. flat_map loops_by before ++ zs) (append-nil (loops_by item)))
