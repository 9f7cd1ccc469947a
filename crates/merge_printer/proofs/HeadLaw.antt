-- The texts of heads and of prototypes are the tokens of trees of them.
use Rattle.std.specs.Prelude.{⊤, ◌≡◌, ℕ, ◌+◌, Bool, true, false, List, [], ◌∷◌, ◌++◌, map, codes}
use Rattle.std.proofs.Common.{refl, sym, ap, ap₂, arith}
use Rattle.std.proofs.lemmas.List.{append-nil}
use Rattle.std.specs.Fmt.{decimal}
use Rattle.c_lang.specs.Names.{Bytes}
use Rattle.c_lang.specs.declared.unit.Pos.{Pos}
use Rattle.c_lang.specs.declared.stmt.Kind.{Kind}
use Rattle.c_lang.specs.declared.stmt.Kind.TheVariants as kind
use Rattle.c_grammar.specs.Bytes.{is_in_word, IsEnd}
use Rattle.c_grammar.specs.Words.{keyword_number}
use Rattle.c_grammar.specs.declared.piece.Place.{Place}
use Rattle.c_grammar.specs.Tokens.{At}
use Rattle.c_grammar.specs.Separated.{Separated, last, more, parts_of, separated_tokens, Each}
use Rattle.c_grammar.specs.Statements.{PointerTree, arity}
use Rattle.c_grammar.specs.Units.{ParamTree, number, pointer, ParamsTree, void, several, HeadTree, param_tokens, params_tokens, head_tokens, param_list, param_kind, param_refusals, all_refusals, IsNamed, AreNamed, named_param}
use Rattle.merge_printer.specs.Statements.{declaration}
use Rattle.merge_printer.specs.Programs.{head_start, numbered, more_kinds, kinds_text, more_parameters, parameters_text}
use Rattle.merge_printer.proofs.Chains.{Prints, followed, as_tree, spaced}
use Rattle.merge_printer.proofs.Chains as chains
use Rattle.merge_printer.proofs.Words.{IsName, numbered_word, name_word, int_word, void_word, comma_mark, round_opens, round_closes}
use Rattle.merge_printer.proofs.Fitting.{KindFits, no_arity_refusals}
use Rattle.merge_printer.proofs.StatementLaw.{prints_pointer}

abbrev pub Param : Type 0
Param = Kind × Bytes

abbrev pub ParamFits : Param → Type 0
ParamFits x = KindFits x.0 × IsName x.1

abbrev pub ParamsFit : List Param → Type 0
ParamsFit [] = ⊤
ParamsFit (x ∷ xs) = ParamFits x × ParamsFit xs

-- ---- parameters

record IsParamOf (x : Param) (t : ParamTree) : Type 0 where
  param_is : named_param t ≡ x
  named : IsNamed t
  accepted : (p : Pos) → param_refusals p t ≡ []

prints_param : (k : Kind) (x : Bytes) → KindFits k → IsName x → (p : Place) (rest : Bytes) → IsEnd is_in_word rest
    → Prints param_tokens (IsParamOf (k, x)) p (declaration k x) rest
prints_param kind.Int x hk hx p rest end =
    as_tree (λ (y : At × At). number y.0 y.1 x) (λ y. refl) (λ y is. record { param_is = refl; named = tt; accepted = λ p. refl })
    (followed (int_word refl) (spaced (name_word hx end)))
prints_param (kind.Fp n) x hk hx p rest end =
    as_tree (λ (y : At × PointerTree). pointer y.0 y.1) (λ y. refl)
    (λ y is. record {
      param_is = ap₂ (λ (n : ℕ) (x : Bytes). (kind.Fp n, x)) is.1.arity_is is.1.name_is;
      named = tt;
      accepted = λ p. no_arity_refusals p (arity y.1) (omega (arith, is.1.arity_is, hk));
    })
    (followed (int_word refl) (spaced (prints_pointer x n hx hk _ _)))

record AreSeveralOf (xs : List Param) (ts : Separated ParamTree) : Type 0 where
  params_are : map named_param (parts_of ts) ≡ xs
  kinds_are : map param_kind (parts_of ts) ≡ map (λ x. x.0) xs
  named : Each IsNamed ts
  accepted : (p : Pos) → all_refusals p (parts_of ts) ≡ []

kind_of : {x : Param} {t : ParamTree} → IsParamOf x t → param_kind t ≡ x.0
kind_of is = ap (λ (x : Param). x.0) is.param_is

prints_several : (x : Param) (xs : List Param) → ParamFits x → ParamsFit xs → (p : Place) (rest : Bytes) → IsEnd is_in_word rest
    → Prints (separated_tokens param_tokens) (AreSeveralOf (x ∷ xs)) p (declaration x.0 x.1 ++ more_parameters xs) rest
prints_several x [] h hs p rest end =
    as_tree (λ (y : ParamTree × ⊤). last y.0) (λ y. sym (append-nil (param_tokens y.0)))
    (λ y is. record {
      params_are = ap (λ (z : Param). z ∷ []) is.0.param_is;
      kinds_are = ap (λ (z : Kind). z ∷ []) (kind_of is.0);
      named = is.0.named;
      accepted = λ p. rw (is.0.accepted p) refl;
    })
    (followed (prints_param x.0 x.1 h.0 h.1 _ _ end) chains.nothing)
prints_several x (x' ∷ xs) h hs p rest end =
    as_tree (λ (y : ParamTree × (At × Separated ParamTree)). more y.0 y.1.0 y.1.1) (λ y. refl)
    (λ y is. record {
      params_are = ap₂ (λ (z : Param) (zs : List Param). z ∷ zs) is.0.param_is is.1.1.params_are;
      kinds_are = ap₂ (λ (z : Kind) (zs : List Kind). z ∷ zs) (kind_of is.0) is.1.1.kinds_are;
      named = (is.0.named, is.1.1.named);
      accepted = λ p. rw (is.0.accepted p, is.1.1.accepted p) refl;
    })
    (followed (prints_param x.0 x.1 h.0 h.1 _ _ refl) (followed comma_mark (spaced (prints_several x' xs hs.0 hs.1 _ _ end))))

record AreParamsOf (xs : List Param) (t : ParamsTree) : Type 0 where
  params_are : map named_param (param_list t) ≡ xs
  kinds_are : map param_kind (param_list t) ≡ map (λ x. x.0) xs
  named : AreNamed t
  accepted : (p : Pos) → all_refusals p (param_list t) ≡ []

prints_params : (xs : List Param) → ParamsFit xs → (p : Place) (rest : Bytes) → IsEnd is_in_word rest
    → Prints params_tokens (AreParamsOf xs) p (parameters_text xs) rest
prints_params [] h p rest end =
    as_tree (λ (at : At). void at) (λ at. refl) (λ at is. record { params_are = refl; kinds_are = refl; named = tt; accepted = λ p. refl }) (void_word end)
prints_params (x ∷ xs) h p rest end =
    as_tree (λ (ts : Separated ParamTree). several ts) (λ ts. refl)
    (λ ts is. record { params_are = is.params_are; kinds_are = is.kinds_are; named = is.named; accepted = is.accepted })
    (prints_several x xs h.0 h.1 p rest end)

-- ---- heads

pub record IsHeadOf (gives : Bool) (f : Bytes) (xs : List Param) (p : Place) (h : HeadTree) : Type 0 where
  pub gives_is : h.gives ≡ gives
  pub name_is : h.name ≡ f
  pub position : h.at.pos ≡ p.pos
  pub params_are : map named_param (param_list h.params) ≡ xs
  pub kinds_are : map param_kind (param_list h.params) ≡ map (λ x. x.0) xs
  pub named : AreNamed h.params
  pub accepted : (p : Pos) → all_refusals p (param_list h.params) ≡ []

abbrev head_text : Bool → Bytes → List Param → Bytes
head_text gives f xs = head_start gives f ++ (codes "(" ++ (parameters_text xs ++ codes ")"))

pub prints_head : (gives : Bool) (f : Bytes) (xs : List Param) → IsName f → ParamsFit xs → (p : Place) (rest : Bytes)
    → Prints head_tokens (IsHeadOf gives f xs p) p (head_text gives f xs) rest
prints_head true f xs hf hs p rest =
    as_tree (λ (y : (At × At) × (At × (ParamsTree × At))). record { at = y.0.0; gives = true; name_at = y.0.1; name = f; opens = y.1.0; params = y.1.1.0; closes = y.1.1.1 })
    (λ y. refl)
    (λ y is. let a = is.1.1.0 in record { gives_is = refl; name_is = refl; position = is.0.0; params_are = a.params_are; kinds_are = a.kinds_are; named = a.named; accepted = a.accepted })
    (followed (followed (int_word refl) (spaced (name_word hf refl))) (followed round_opens (followed (prints_params xs hs _ _ refl) round_closes)))
prints_head false f xs hf hs p rest =
    as_tree (λ (y : (At × At) × (At × (ParamsTree × At))). record { at = y.0.0; gives = false; name_at = y.0.1; name = f; opens = y.1.0; params = y.1.1.0; closes = y.1.1.1 })
    (λ y. refl)
    (λ y is. let a = is.1.1.0 in record { gives_is = refl; name_is = refl; position = is.0.0; params_are = a.params_are; kinds_are = a.kinds_are; named = a.named; accepted = a.accepted })
    (followed (followed (void_word refl) (spaced (name_word hf refl))) (followed round_opens (followed (prints_params xs hs _ _ refl) round_closes)))

-- ---- the parameters of a prototype have numbered names

abbrev pub number_name : ℕ → Bytes
number_name n = codes "dsu_a" ++ decimal n

abbrev pub numbered_from : ℕ → List Kind → List Param
numbered_from n [] = []
numbered_from n (k ∷ ks) = (k, number_name n) ∷ numbered_from (n + 1) ks

more_numbered : (n : ℕ) (ks : List Kind) → more_kinds n ks ≡ more_parameters (numbered_from n ks)
more_numbered n [] = refl
more_numbered n (k ∷ ks) = ap (λ (z : Bytes). codes ", " ++ (numbered k n ++ z)) (more_numbered (n + 1) ks)

pub kinds_are_params : (ks : List Kind) → kinds_text ks ≡ parameters_text (numbered_from 1 ks)
kinds_are_params [] = refl
kinds_are_params (k ∷ ks) = ap (λ (z : Bytes). numbered k 1 ++ z) (more_numbered 2 ks)

pub kinds_of_numbered : (n : ℕ) (ks : List Kind) → map (λ (x : Param). x.0) (numbered_from n ks) ≡ ks
kinds_of_numbered n [] = refl
kinds_of_numbered n (k ∷ ks) = ap (λ (zs : List Kind). k ∷ zs) (kinds_of_numbered (n + 1) ks)

pub number_name_fits : (n : ℕ) → IsName (number_name n)
unfolding keyword_number
number_name_fits n = (numbered_word n, refl)

abbrev pub KindsFit : List Kind → Type 0
KindsFit [] = ⊤
KindsFit (k ∷ ks) = KindFits k × KindsFit ks

pub numbered_fit : (n : ℕ) (ks : List Kind) → KindsFit ks → ParamsFit (numbered_from n ks)
numbered_fit n [] h = tt
numbered_fit n (k ∷ ks) h = ((h.0, number_name_fits n), numbered_fit (n + 1) ks h.1)
