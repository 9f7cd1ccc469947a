-- What is read from a text is what the text is.
use Rattle.std.proofs.Common.{◌≡◌, Option, Some, None, refl, sym, ap, ◌∙◌, subst, length, arith}
use Rattle.c_lang.specs.Names.{Bytes}
use Rattle.terms.specs.declared.sym.Sym.{Sym}
use Rattle.terms.specs.Trees.{TermTree, FormTree}
use Rattle.formula_texts.specs.declared.value.Value.{Value}
use Rattle.formula_texts.specs.declared.value.Value.TheVariants as value
use Rattle.formula_texts.specs.Tokens.{AreTokens}
use Rattle.formula_texts.specs.Grammar.{◌>>=◌, term_in, form_in}
use Rattle.formula_texts.specs.Texts.{bracket_limit, operator_limit, IsText, IsFormText, IsTermText, IsNameText}
use Rattle.formula_texts.specs.Code.Lexing.{tokens_in}
use Rattle.formula_texts.specs.Code.Reading.{name_in}
use Rattle.formula_texts.specs.Code.Whole.{text_value, form_of, term_of, name_of}
use Rattle.formula_texts.proofs.OperatorLaws.{bind_some}
use Rattle.formula_texts.proofs.LexLaws.{lexed_again, lexed_is}
use Rattle.formula_texts.proofs.TokenLaws.{value_again, value_is, name_again, name_is}

-- ---- forms and terms

value_read : (text : Bytes) (x : Value) → IsText text x → (tokens_in text >>= text_value) ≡ Some x
value_read text x h =
    let lexed = lexed_again text _ h.tokens (length text) (omega arith) in
    ap (λ o. o >>= text_value) lexed ∙ value_again bracket_limit operator_limit _ x (record { tree = h.tree; tokens = refl; grouped = h.grouped; small = h.small; value_is = h.value_is })

value_text : (text : Bytes) (x : Value) → (tokens_in text >>= text_value) ≡ Some x → IsText text x
value_text text x e =
    let a = bind_some (tokens_in text) text_value x e in
    let is = value_is bracket_limit operator_limit a.0 x a.2 in
    record { tree = is.tree; tokens = subst (AreTokens text) (sym is.tokens) (lexed_is (length text) text a.0 a.1); grouped = is.grouped; small = is.small; value_is = is.value_is }

form_value : (x : Value) (f : FormTree) → form_in x ≡ Some f → x ≡ value.Form f
form_value (value.Form g) f e = cc
form_value (value.Term t) f e = absurd cc

term_value : (x : Value) (t : TermTree) → term_in x ≡ Some t → x ≡ value.Term t
term_value (value.Term u) t e = cc
term_value (value.Form f) t e = absurd cc

assoc : {A B C : Type 0} (o : Option A) (f : A → Option B) (g : B → Option C) → (o >>= λ x. f x >>= g) ≡ (o >>= f >>= g)
assoc None f g = refl
assoc (Some x) f g = refl

pub form_read : (text : Bytes) (f : FormTree) → form_of text ≡ Some f → IsFormText text f
form_read text f e =
    let a = bind_some (tokens_in text >>= text_value) form_in f (sym (assoc (tokens_in text) text_value form_in) ∙ e) in
    value_text text (value.Form f) (a.1 ∙ ap (λ (x : Value). Some x) (form_value a.0 f a.2))

pub form_again : (text : Bytes) (f : FormTree) → IsFormText text f → form_of text ≡ Some f
form_again text f h = assoc (tokens_in text) text_value form_in ∙ ap (λ o. o >>= form_in) (value_read text (value.Form f) h)

pub term_read : (text : Bytes) (t : TermTree) → term_of text ≡ Some t → IsTermText text t
term_read text t e =
    let a = bind_some (tokens_in text >>= text_value) term_in t (sym (assoc (tokens_in text) text_value term_in) ∙ e) in
    value_text text (value.Term t) (a.1 ∙ ap (λ (x : Value). Some x) (term_value a.0 t a.2))

pub term_again : (text : Bytes) (t : TermTree) → IsTermText text t → term_of text ≡ Some t
term_again text t h = assoc (tokens_in text) text_value term_in ∙ ap (λ o. o >>= term_in) (value_read text (value.Term t) h)

no_value : {A : Type 0} (o : Option A) (x : A) → o ≡ None → o ≡ Some x → ⊥
no_value o x n s = let f = sym n ∙ s in cc

pub form_never : (text : Bytes) (f : FormTree) → form_of text ≡ None → IsFormText text f → ⊥
form_never text f e h = no_value (form_of text) f e (form_again text f h)

pub term_never : (text : Bytes) (t : TermTree) → term_of text ≡ None → IsTermText text t → ⊥
term_never text t e h = no_value (term_of text) t e (term_again text t h)

-- ---- names

pub name_read : (text : Bytes) (x : Sym) → name_of text ≡ Some x → IsNameText text x
name_read text x e =
    let a = bind_some (tokens_in text) name_in x e in
    let n = name_is a.0 x a.2 in
    record { name = n.0; tokens = subst (AreTokens text) (sym n.1) (lexed_is (length text) text a.0 a.1); same = n.2 }

pub names_again : (text : Bytes) (x : Sym) → IsNameText text x → name_of text ≡ Some x
names_again text x h =
    ap (λ o. o >>= name_in) (lexed_again text _ h.tokens (length text) (omega arith)) ∙ name_again h.name ∙ ap (λ (y : Sym). Some y) h.same

pub name_never : (text : Bytes) (x : Sym) → name_of text ≡ None → IsNameText text x → ⊥
name_never text x e h = no_value (name_of text) x e (names_again text x h)

-- ---- a text is one

some_is : {A : Type 0} (x y : A) → Some x ≡ Some y → x ≡ y
some_is x y e = cc

pub one_form : (text : Bytes) (f g : FormTree) → IsFormText text f → IsFormText text g → f ≡ g
one_form text f g h k = some_is f g (sym (form_again text f h) ∙ form_again text g k)

pub one_term : (text : Bytes) (t u : TermTree) → IsTermText text t → IsTermText text u → t ≡ u
one_term text t u h k = some_is t u (sym (term_again text t h) ∙ term_again text u k)

pub one_name : (text : Bytes) (x y : Sym) → IsNameText text x → IsNameText text y → x ≡ y
one_name text x y h k = some_is x y (sym (names_again text x h) ∙ names_again text y k)
