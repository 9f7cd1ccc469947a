-- The first of a list that has a name, in lists that are made of others.
use Rattle.std.proofs.Common.{◌≡◌, Bool, true, false, ◌&&◌, if◌then◌else◌, List, [], ◌∷◌, ◌++◌, map, Option, Some, None, is_some, refl, sym, ap, ap₂, ◌∙◌}
use Rattle.std.specs.Option.{option_map, option_or}
use Rattle.std.specs.List.{filter}
use Rattle.std.specs.Str.{bytes_eq}
use Rattle.c_lang.specs.Names.{Bytes}
use Rattle.c_lang.specs.Programs.{func_named, global_named}
use Rattle.c_lang.specs.declared.program.Func.{Func}
use Rattle.c_lang.specs.declared.program.GlobalVar.{GlobalVar}
use Rattle.merged_program.proofs.MergedNames.{by_bool, true_false, same_names}

abbrev pub named : {X : Type 0} → (X → Bytes) → List X → Bytes → Option X
named name_of [] n = None
named name_of (x ∷ xs) n = if bytes_eq (name_of x) n then Some x else named name_of xs n

abbrev pub name_of_func : Func → Bytes
name_of_func f = f.name

abbrev pub name_of_global : GlobalVar → Bytes
name_of_global g = g.name

pub func_named-is : (fs : List Func) (n : Bytes) → func_named fs n ≡ named name_of_func fs n
func_named-is [] n = refl
func_named-is (f ∷ fs) n = ap (λ o. if bytes_eq f.name n then Some f else o) (func_named-is fs n)

pub global_named-is : (gs : List GlobalVar) (n : Bytes) → global_named gs n ≡ named name_of_global gs n
global_named-is [] n = refl
global_named-is (g ∷ gs) n = ap (λ o. if bytes_eq g.name n then Some g else o) (global_named-is gs n)

pub or_none : {X : Type 0} (o : Option X) → option_or o None ≡ o
or_none (Some x) = refl
or_none None = refl

pub or_some : {X : Type 0} (o p : Option X) → is_some o ≡ true → option_or o p ≡ o
or_some (Some x) p h = refl
or_some None p h = absurd cc

pub some_mapped : {X Y : Type 0} (make : X → Y) (o : Option X) → is_some (option_map make o) ≡ is_some o
some_mapped make (Some x) = refl
some_mapped make None = refl

module _ {X : Type 0} (name_of : X → Bytes) where
  -- ---- names that a list has

  pub some_behind : (x : X) (xs : List X) (n : Bytes) → is_some (named name_of xs n) ≡ true → is_some (named name_of (x ∷ xs) n) ≡ true
  some_behind x xs n h = one (bytes_eq (name_of x) n)
    where
      one : (b : Bool) → is_some (if b then Some x else named name_of xs n) ≡ true
      one true = refl
      one false = h

module _ {X : Type 0} (name_of : X → Bytes) where
  pub named-append : (xs ys : List X) (n : Bytes) → named name_of (xs ++ ys) n ≡ option_or (named name_of xs n) (named name_of ys n)
  named-append [] ys n = refl
  named-append (x ∷ xs) ys n = one (bytes_eq (name_of x) n) (named-append xs ys n)
    where
      one : (b : Bool) → named name_of (xs ++ ys) n ≡ option_or (named name_of xs n) (named name_of ys n)
          → (if b then Some x else named name_of (xs ++ ys) n) ≡ option_or (if b then Some x else named name_of xs n) (named name_of ys n)
      one true e = refl
      one false e = e

  some_is : (x y : X) → Some x ≡ Some y → x ≡ y
  some_is x y e = cc

  pub named-name : (xs : List X) (n : Bytes) (x : X) → named name_of xs n ≡ Some x → name_of x ≡ n
  named-name [] n x e = absurd cc
  named-name (y ∷ ys) n x e = one (bytes_eq (name_of y) n) refl e (named-name ys n x)
    where
      one : (b : Bool) → bytes_eq (name_of y) n ≡ b → (if b then Some y else named name_of ys n) ≡ Some x
          → (named name_of ys n ≡ Some x → name_of x ≡ n) → name_of x ≡ n
      one true h k more = ap name_of (some_is x y (sym k)) ∙ same_names (name_of y) n h
      one false h k more = more k

  -- a list without those that don't pass a test of their names
  pub named-filter : (p : Bytes → Bool) (xs : List X) (n : Bytes) → p n ≡ true → named name_of (filter (λ x. p (name_of x)) xs) n ≡ named name_of xs n
  named-filter p [] n h = refl
  named-filter p (x ∷ xs) n h = one (p (name_of x)) refl (named-filter p xs n h)
    where
      kept : List X
      kept = filter (λ x. p (name_of x)) xs

      one : (b : Bool) → p (name_of x) ≡ b → named name_of kept n ≡ named name_of xs n
          → named name_of (if b then x ∷ kept else kept) n ≡ (if bytes_eq (name_of x) n then Some x else named name_of xs n)
      one true e more = ap (λ o. if bytes_eq (name_of x) n then Some x else o) more
      one false e more = by_bool (bytes_eq (name_of x) n)
          (λ k. absurd (true_false (sym h ∙ ap p (sym (same_names (name_of x) n k)) ∙ e)))
          (λ k. more ∙ sym (ap (λ b. if b then Some x else named name_of xs n) k))

  -- what such a list has passes the test
  pub filter-passes : (p : Bytes → Bool) (xs : List X) (n : Bytes) → is_some (named name_of (filter (λ x. p (name_of x)) xs) n) ≡ true
      → (p n ≡ true) × (is_some (named name_of xs n) ≡ true)
  filter-passes p [] n h = absurd cc
  filter-passes p (x ∷ xs) n h = one (p (name_of x)) refl h (filter-passes p xs n)
    where
      kept : List X
      kept = filter (λ x. p (name_of x)) xs

      behind : (p n ≡ true) × (is_some (named name_of xs n) ≡ true) → (p n ≡ true) × (is_some (named name_of (x ∷ xs) n) ≡ true)
      behind h = (h.0, some_behind name_of x xs n h.1)

      one : (b : Bool) → p (name_of x) ≡ b → is_some (named name_of (if b then x ∷ kept else kept) n) ≡ true
          → (is_some (named name_of kept n) ≡ true → (p n ≡ true) × (is_some (named name_of xs n) ≡ true))
          → (p n ≡ true) × (is_some (named name_of (x ∷ xs) n) ≡ true)
      one true e k more = by_bool (bytes_eq (name_of x) n)
          (λ same. (ap p (sym (same_names (name_of x) n same)) ∙ e, ap (λ b. is_some (if b then Some x else named name_of xs n)) same))
          (λ other. behind (more (sym (ap (λ b. is_some (if b then Some x else named name_of kept n)) other) ∙ k)))
      one false e k more = behind (more k)

  -- ---- a list that is made of another one

  module _ {Y : Type 0} (other : Y → Bytes) (make : Y → X) where
    -- names of one kind stand for names of the other, or for none
    pub named-map : (ys : List Y) (n m : Bytes) (b : Bool) → ((y : Y) → bytes_eq (name_of (make y)) n ≡ b && bytes_eq (other y) m)
        → named name_of (map make ys) n ≡ (if b then option_map make (named other ys m) else None)
    named-map [] n m true h = refl
    named-map [] n m false h = refl
    named-map (y ∷ ys) n m true h = ap (λ c. if c then Some (make y) else named name_of (map make ys) n) (h y) ∙ one (bytes_eq (other y) m) (named-map ys n m true h)
      where
        one : (c : Bool) → named name_of (map make ys) n ≡ option_map make (named other ys m)
            → (if c then Some (make y) else named name_of (map make ys) n) ≡ option_map make (if c then Some y else named other ys m)
        one true e = refl
        one false e = e
    named-map (y ∷ ys) n m false h = ap (λ c. if c then Some (make y) else named name_of (map make ys) n) (h y) ∙ named-map ys n m false h

  -- no name of the list is this one
  pub named-absent : {Y : Type 0} (make : Y → X) (ys : List Y) (n : Bytes) → ((y : Y) → bytes_eq (name_of (make y)) n ≡ false) → named name_of (map make ys) n ≡ None
  named-absent make [] n apart = refl
  named-absent make (y ∷ ys) n apart = ap (λ b. if b then Some (make y) else named name_of (map make ys) n) (apart y) ∙ named-absent make ys n apart

-- ---- functions and globals

pub no_func_named : (make : Func → Func) (fs : List Func) (n : Bytes) → ((f : Func) → bytes_eq (make f).name n ≡ false) → func_named (map make fs) n ≡ None
no_func_named make fs n apart = func_named-is (map make fs) n ∙ named-absent name_of_func make fs n apart

pub no_global_named : (make : GlobalVar → GlobalVar) (gs : List GlobalVar) (n : Bytes) → ((g : GlobalVar) → bytes_eq (make g).name n ≡ false) → global_named (map make gs) n ≡ None
no_global_named make gs n apart = global_named-is (map make gs) n ∙ named-absent name_of_global make gs n apart

pub funcs_append : (xs ys : List Func) (n : Bytes) → func_named (xs ++ ys) n ≡ option_or (func_named xs n) (func_named ys n)
funcs_append xs ys n = func_named-is (xs ++ ys) n ∙ named-append name_of_func xs ys n ∙ ap₂ option_or (sym (func_named-is xs n)) (sym (func_named-is ys n))

pub globals_append : (xs ys : List GlobalVar) (n : Bytes) → global_named (xs ++ ys) n ≡ option_or (global_named xs n) (global_named ys n)
globals_append xs ys n =
    global_named-is (xs ++ ys) n ∙ named-append name_of_global xs ys n ∙ ap₂ option_or (sym (global_named-is xs n)) (sym (global_named-is ys n))
