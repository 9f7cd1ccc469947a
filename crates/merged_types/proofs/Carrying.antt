-- What names stand for under other names: ρ for variables, κ for functions.
use Rattle.std.proofs.Common.{◌≡◌, ℕ, zero, suc, ℤ, pos, negsuc, List, [], ◌∷◌, map, Option, Some, None, refl, sym, ap, ap₂, ◌∙◌, subst}
use Rattle.std.specs.Prelude.{⊤}
use Rattle.std.specs.Option.{option_or}
use Rattle.c_lang.specs.Names.{Bytes}
use Rattle.c_lang.specs.Trees.{Expression, literal, variable, element, function, null, negation, logical_not, binary}
use Rattle.c_lang.specs.declared.stmt.Kind.{Kind}
use Rattle.c_lang.specs.declared.stmt.Kind.TheVariants.{Int}
use Rattle.c_types.specs.Names.{Means, Cell, Array, Code, Refused, Names, meant}
use Rattle.c_types.specs.Expressions.{kind_of, kind_of_name, place_of, kind_of_element}
use Rattle.c_types.specs.Typing.{IsFunction, IsArray, IsCell}
use Rattle.version_names.specs.Parts.{Parts}
use Rattle.client_specs.specs.declared.region.Region.{Region}
use Rattle.client_specs.specs.Spelled.{spelled, spelled_expression}
use Rattle.merged_program.specs.Expressions.{renamed, all_renamed}
use Rattle.resolved_types.proofs.ResolvedTyping.{IsVariable, IsResolved, AreResolvedArguments}
use Rattle.resolved_types.proofs.ResolvedSources.{place_by}

-- ---- names

-- a cell or an array stays what it is, and a free name stays free
abbrev pub IsKeptCell : Option Means → Option Means → Type 0
IsKeptCell None o = o ≡ None
IsKeptCell (Some (Cell k)) o = o ≡ Some (Cell k)
IsKeptCell (Some Array) o = o ≡ Some Array
IsKeptCell (Some (Code params gives value denied)) o = ⊤
IsKeptCell (Some (Refused n)) o = ⊤

abbrev pub IsKeptValue : Option ℕ → Option ℕ → Type 0
IsKeptValue None v = ⊤
IsKeptValue (Some n) v = v ≡ Some n

-- a function keeps its parameters and its result, and may be called; where its name is a value, it is the same one
abbrev pub IsKeptCode : Option Means → Option Means → Type 0
IsKeptCode None o = ⊤
IsKeptCode (Some (Cell k)) o = ⊤
IsKeptCode (Some Array) o = ⊤
IsKeptCode (Some (Code params gives value denied)) o = (v : Option ℕ) × ((o ≡ Some (Code params gives v None)) × IsKeptValue value v)
IsKeptCode (Some (Refused n)) o = ⊤

abbrev pub IsLocal : Option Means → Type 0
IsLocal None = ⊤
IsLocal (Some (Cell k)) = ⊤
IsLocal (Some Array) = ⊥
IsLocal (Some (Code params gives value denied)) = ⊥
IsLocal (Some (Refused n)) = ⊥

pub some_is : {X : Type 0} (x : X) (o p : Option X) → o ≡ Some x → option_or o p ≡ Some x
some_is x o p h = ap (λ (q : Option _). option_or q p) h

-- a local behind what is visible in the whole unit
pub cell_before : (o o' l l' : Option Means) → IsKeptCell o o' → l' ≡ l → IsLocal l → IsKeptCell (option_or o l) (option_or o' l')
cell_before None o' l l' h e k = subst (IsKeptCell l) (sym (ap (λ (q : Option Means). option_or q l') h ∙ e)) (local l k)
  where
    local : (l : Option Means) → IsLocal l → IsKeptCell l l
    local None k = refl
    local (Some (Cell j)) k = refl
    local (Some Array) k = absurd k
    local (Some (Code params gives value denied)) k = absurd k
    local (Some (Refused n)) k = absurd k
cell_before (Some (Cell j)) o' l l' h e k = some_is (Cell j) o' l' h
cell_before (Some Array) o' l l' h e k = some_is Array o' l' h
cell_before (Some (Code params gives value denied)) o' l l' h e k = tt
cell_before (Some (Refused n)) o' l l' h e k = tt

pub code_before : (o o' l l' : Option Means) → IsKeptCode o o' → IsLocal l → IsKeptCode (option_or o l) (option_or o' l')
code_before None o' None l' h k = tt
code_before None o' (Some (Cell j)) l' h k = tt
code_before None o' (Some Array) l' h k = absurd k
code_before None o' (Some (Code params gives value denied)) l' h k = absurd k
code_before None o' (Some (Refused n)) l' h k = absurd k
code_before (Some (Cell j)) o' l l' h k = tt
code_before (Some Array) o' l l' h k = tt
code_before (Some (Code params gives value denied)) o' l l' h k = (h.0, (some_is (Code params gives h.0 None) o' l' h.1.0, h.1.1))
code_before (Some (Refused n)) o' l l' h k = tt

cell_meant : (o o' : Option Means) → IsKeptCell o o' → IsCell (meant o) → meant o' ≡ meant o
cell_meant None o' h k = absurd k
cell_meant (Some (Cell j)) o' h k = ap meant h
cell_meant (Some Array) o' h k = absurd k
cell_meant (Some (Code params gives value denied)) o' h k = absurd k
cell_meant (Some (Refused n)) o' h k = absurd k

array_meant : (o o' : Option Means) → IsKeptCell o o' → IsArray (meant o) → meant o' ≡ meant o
array_meant None o' h k = absurd k
array_meant (Some (Cell j)) o' h k = absurd k
array_meant (Some Array) o' h k = ap meant h
array_meant (Some (Code params gives value denied)) o' h k = absurd k
array_meant (Some (Refused n)) o' h k = absurd k

pub value_meant : (k : Kind) (o o' : Option Means) → IsKeptCode o o' → IsFunction k (meant o)
    → IsFunction k (meant o') × (kind_of_name (meant o') ≡ kind_of_name (meant o))
value_meant k None o' h f = absurd f
value_meant k (Some (Cell j)) o' h f = absurd f
value_meant k (Some Array) o' h f = absurd f
value_meant k (Some (Code params gives None denied)) o' h f = absurd f
value_meant k (Some (Code params gives (Some n) denied)) o' h f =
    let e : o' ≡ Some (Code params gives (Some n) None) = h.1.0 ∙ ap (λ (v : Option ℕ). Some (Code params gives v None)) h.1.1 in
    (subst (λ (q : Option Means). IsFunction k (meant q)) (sym e) f, ap (λ (q : Option Means). kind_of_name (meant q)) e)
value_meant k (Some (Refused n)) o' h f = absurd f

-- ---- expressions

kind_literal : (names names' : Names) (z : ℤ) → kind_of names' (literal z) ≡ kind_of names (literal z)
kind_literal names names' (pos zero) = refl
kind_literal names names' (pos (suc n)) = refl
kind_literal names names' (negsuc n) = refl

module _ (ρ κ : Bytes → Bytes) where
  -- what expressions need of names
  pub record AreCarried (names names' : Names) : Type 0 where
    pub cell : (x : Bytes) → IsCell (names x) → names' (ρ x) ≡ names x
    pub array : (x : Bytes) → IsArray (names x) → names' (ρ x) ≡ names x
    pub value : (k : Kind) (f : Bytes) → IsFunction k (names f)
        → IsFunction k (names' (κ f)) × (kind_of_name (names' (κ f)) ≡ kind_of_name (names f))

  -- where each name stands for something or for nothing
  pub are_carried : (s t : Bytes → Option Means) → ((x : Bytes) → IsKeptCell (s x) (t (ρ x))) → ((f : Bytes) → IsKeptCode (s f) (t (κ f)))
      → AreCarried (λ x. meant (s x)) (λ x. meant (t x))
  are_carried s t cells codes = record {
    cell = λ x h. cell_meant (s x) (t (ρ x)) (cells x) h;
    array = λ x h. array_meant (s x) (t (ρ x)) (cells x) h;
    value = λ k f h. value_meant k (s f) (t (κ f)) (codes f) h;
  }

-- of code in which a function's name means what it does in its region
module _ (ρ κ : Bytes → Bytes) (parts : Parts) (region : Region) where
  abbrev pub in_region : Bytes → Bytes
  in_region f = κ (spelled parts region f)

  abbrev pub expression_here : Expression → Expression
  expression_here e = renamed ρ κ (spelled_expression parts region e)

  abbrev pub expressions_here : List Expression → List Expression
  expressions_here es = all_renamed ρ κ (map (spelled_expression parts region) es)

  module _ (names names' : Names) (c : AreCarried ρ in_region names names') where
    variable_cell : (k : Kind) (m : Means) → IsVariable k m → IsCell m
    variable_cell k (Cell j) h = tt
    variable_cell k Array h = absurd h
    variable_cell k (Code params gives value denied) h = absurd h
    variable_cell k (Refused n) h = absurd h

    pub kind_carried : (k : Kind) (e : Expression) → IsResolved names k e → kind_of names' (expression_here e) ≡ kind_of names e
    kind_carried k (literal z) h = kind_literal names names' z
    kind_carried k (variable x) h = ap kind_of_name (c.cell x (variable_cell k (names x) h))
    kind_carried k (element a i) h = ap kind_of_element (c.array a h.1)
    kind_carried k (function f) h = (c.value k f h).1
    kind_carried k null h = refl
    kind_carried k (negation a) h = refl
    kind_carried k (logical_not a) h = refl
    kind_carried k (binary o a b) h = refl

    pub expression_carried : (k : Kind) (e : Expression) → IsResolved names k e → IsResolved names' k (expression_here e)
    expression_carried k (literal z) h = h
    expression_carried k (variable x) h = subst (IsVariable k) (sym (c.cell x (variable_cell k (names x) h))) h
    expression_carried k (element a i) h = (h.0, subst IsArray (sym (c.array a h.1)) h.1, expression_carried Int i h.2)
    expression_carried k (function f) h = (c.value k f h).0
    expression_carried k null h = h
    expression_carried k (negation a) h = (h.0, expression_carried Int a h.1)
    expression_carried k (logical_not a) h = (h.0, expression_carried Int a h.1)
    expression_carried k (binary o a b) h =
        let j = place_of names o a b in
        let same : j ≡ place_of names' o (expression_here a) (expression_here b) = ap₂ (place_by o) (sym (kind_carried j a h.1)) (sym (kind_carried j b h.2)) in (
          h.0,
          subst (λ (l : Kind). IsResolved names' l (expression_here a)) same (expression_carried j a h.1),
          subst (λ (l : Kind). IsResolved names' l (expression_here b)) same (expression_carried j b h.2),
        )

    pub arguments_carried : (ks : List Kind) (es : List Expression) → AreResolvedArguments names ks es → AreResolvedArguments names' ks (expressions_here es)
    arguments_carried [] [] h = tt
    arguments_carried [] (e ∷ es) h = absurd h
    arguments_carried (k ∷ ks) [] h = absurd h
    arguments_carried (k ∷ ks) (e ∷ es) h = (expression_carried k e h.0, arguments_carried ks es h.1)
