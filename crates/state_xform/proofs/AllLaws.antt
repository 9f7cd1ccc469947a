-- Walks over lists of statements that find all names.
use Rattle.std.proofs.Common.{◌≡◌, ℕ, ◌+◌, ◌<◌, length, drop, get_or, Bool, true, false, ◌||◌, List, [], ◌∷◌, ◌++◌, map, reverse, refl, sym, ap, ◌∙◌}
use Rattle.std.specs.Borrow.{Bor}
use Rattle.std.proofs.lemmas.List.{map-append, reverse-append}
use Rattle.c_lang.specs.Names.{Bytes}
use Rattle.c_lang.specs.Trees.{statement_of, statements}
use Rattle.c_lang.specs.declared.program.Func.{Func}
use Rattle.c_lang.specs.declared.stmt.Stmt.{Stmt}
use Rattle.state_xform.specs.Code.AllNames.{IsFound, sets_at}
use Rattle.state_xform.specs.Elements.{sets_element_in}
use Rattle.state_xform.specs.Transformers.{is_filled}
use Rattle.state_xform.specs.Code.NameSets.{Names, has, IsCommon}
use Rattle.state_xform.specs.Paths.{always_set}
use Rattle.state_xform.specs.Code.Walk.{Sets, joined, walk, walk_all}
use Rattle.state_xform.specs.declared.always.PathNames.{PathNames}
use Rattle.state_xform.proofs.NameLaws.{drop-next, one_added}
use Rattle.state_xform.proofs.PathLaws.{always-set}

-- the statements that a walk from the last to the first has come to, in their order
abbrev pub passed : List (Bor Stmt) → List Stmt
passed ys = reverse (map (λ y. y.now) ys)

passed-more : (ys : List (Bor Stmt)) (y : Bor Stmt) → passed (ys ++ y ∷ []) ≡ y.now ∷ passed ys
passed-more ys y = ap reverse (map-append (λ s. s.now) ys (y ∷ [])) ∙ reverse-append (map (λ s. s.now) ys) (y.now ∷ [])

-- what is found of a statement and the rest, by what is found of the statement
pub found-first : (first old new : PathNames) (one : Bytes → Sets) → IsFound new (λ x. joined (sets_at first x) (sets_at old x))
    → IsFound first one → IsFound new (λ x. joined (one x) (sets_at old x))
found-first first old new one is at x = is x ∙ ap (λ (s : Sets). joined s (sets_at old x)) (at x)

pub found-more : (old new : PathNames) (ys : List (Bor Stmt)) (y : Bor Stmt)
    → IsFound new (λ x. joined (walk x (statement_of y.now)) (sets_at old x))
    → IsFound old (λ x. walk_all x (statements (map statement_of (passed ys))))
    → IsFound new (λ x. walk_all x (statements (map statement_of (passed (ys ++ y ∷ [])))))
found-more old new ys y is found x =
    is x ∙ ap (joined (walk x (statement_of y.now))) (found x)
    ∙ ap (λ ss. walk_all x (statements (map statement_of ss))) (sym (passed-more ys y))

-- what stands in both sets is what each path sets
pub always-common : (names : PathNames) (both : Names) (body : List Stmt)
    → IsFound names (λ x. walk_all x (statements (map statement_of body))) → IsCommon names.behind names.returned both
    → (x : Bytes) → has both x ≡ always_set x (statements (map statement_of body))
always-common names both body found common x =
    common x ∙ always-set x (statements (map statement_of body)) (sets_at names x) (found x)

or_assoc : (a b c : Bool) → (a || (b || c)) ≡ ((a || b) || c)
or_assoc true b c = refl
or_assoc false b c = refl

pub both_added : (first second old mid new : Bytes → Bool) → ((x : Bytes) → mid x ≡ (second x || old x))
    → ((x : Bytes) → new x ≡ (first x || mid x)) → (x : Bytes) → new x ≡ ((first x || second x) || old x)
both_added first second old mid new before is x = is x ∙ ap (λ b. first x || b) (before x) ∙ or_assoc (first x) (second x) (old x)

pub elements-more : (funcs : List Func) (i : ℕ) (f : Func) (body : List Stmt) (whole old new : Bytes → Bool)
    → i < length funcs → f ≡ get_or funcs i f → body ≡ f.body
    → ((x : Bytes) → new x ≡ (sets_element_in x (statements (map statement_of body)) || old x))
    → ((x : Bytes) → (is_filled (drop i funcs) x || old x) ≡ whole x)
    → (x : Bytes) → (is_filled (drop (i + 1) funcs) x || new x) ≡ whole x
elements-more funcs i f body whole old new within is same added kept x =
    one_added (sets_element_in x (statements (map statement_of f.body))) (is_filled (drop (i + 1) funcs) x) (old x) (new x) (whole x)
    (added x ∙ ap (λ ss. sets_element_in x (statements (map statement_of ss)) || old x) same)
    (ap (λ fs. is_filled fs x || old x) (sym (drop-next funcs i f within is)) ∙ kept x)
