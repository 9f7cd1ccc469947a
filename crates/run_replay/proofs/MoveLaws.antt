-- Where a move comes to an end: exactly there it shows an end or a fault. This holds for each machine whose
-- further statements come to no end.
use Rattle.std.proofs.Common.{ℤ, pos, Bool, true, false, if◌then◌else◌, List, [], ◌∷◌, Option, Some, None, Result, Ok, Err}
use Rattle.plain_run.specs.Moves.{Move, Goes, Asks, Rests}
use Rattle.c_lang.specs.Names.{Bytes}
use Rattle.plain_run.specs.Steps as steps
use Rattle.plain_run.specs.Steps.{Access, Config, Live, Over, Frame, Item, Does, Mark, Special}
use Rattle.c_lang.specs.Values.{Value, Num, Code, Null, number, is_zero}
use Rattle.c_lang.specs.declared.event.Event.{Event}
use Rattle.c_lang.specs.declared.event.Event.TheVariants as event
use Rattle.c_lang.specs.declared.event.Trap.{Trap}
use Rattle.c_lang.specs.declared.stmt.Dest.{Dest}
use Rattle.c_lang.specs.declared.stmt.Dest.TheVariants.{Nowhere, Into, Fresh}
use Rattle.c_lang.specs.declared.stmt.Stmt.{Stmt, out-Stmt}
use Rattle.c_lang.specs.declared.stmt.Stmt.TheOpen.{Stmt-F}
use Rattle.c_lang.specs.declared.stmt.Stmt.TheOpen as one
use Rattle.c_lang.specs.declared.unit.Pos.{Pos}
use Rattle.run_replay.specs.Code.After.{IsLive}

abbrev pub IsOver : {F G O : Type 0} → Config F G O → Type 0
IsOver Over = Unit {0}
IsOver (Live g f fs) = ⊥

-- what stands after this event
abbrev pub Follows : {F G O : Type 0} → Event → Config F G O → Type 0
Follows (event.End z) c = IsOver c
Follows (event.Fault t p) c = IsOver c
Follows e c = IsLive c

abbrev pub EndsRightly : {F G O : Type 0} → Move (Config F G O) → Type 0
EndsRightly (Goes [] next) = IsLive next
EndsRightly (Goes (e ∷ []) next) = Follows e next
EndsRightly (Goes (e ∷ more) next) = ⊥
EndsRightly (Asks shown next) = (v : ℤ) → Follows (shown v) (next v)
EndsRightly Rests = ⊥

module _ {F G O : Type 0} (N : Access F G O) where
  into_live : (o : Option (Value F)) (g : G) (f : Frame F O) (fs : List (Frame F O)) (x : Bytes) (v : Value F) → IsLive (steps.into N o g f fs x v)
  into_live None g f fs x v = tt
  into_live (Some old) g f fs x v = tt

  stored_live : (g : G) (f : Frame F O) (fs : List (Frame F O)) (d : Dest) (v : Value F) → IsLive (steps.stored N g f fs d v)
  stored_live g f fs Nowhere v = tt
  stored_live g f fs (Into x) v = into_live (f.locals x) g f fs x v
  stored_live g f fs (Fresh k x) v = tt

  with_ends : {X : Type 0} (r : Result X Trap) (p : Pos) (go : X → Move (Config F G O)) → ((x : X) → EndsRightly (go x)) → EndsRightly (steps.with N r p go)
  with_ends (Ok x) p go ends = ends x
  with_ends (Err t) p go ends = tt

  elements_end : (elements : Option (List ℤ)) (p : Pos) (go : List ℤ → Move (Config F G O)) → ((r : List ℤ) → EndsRightly (go r)) → EndsRightly (steps.with_elements N elements p go)
  elements_end (Some elements) p go ends = ends elements
  elements_end None p go ends = tt

  handed_ends : (g : G) (d : Dest) (v : Value F) (fs : List (Frame F O)) → EndsRightly (steps.handed N g d v fs)
  handed_ends g d v [] = tt
  handed_ends g d v (f ∷ fs) = stored_live g f fs d v

  called_ends : (callee : Value F) (g : G) (f : Frame F O) (fs : List (Frame F O)) (vs : List (Value F)) (d : Dest) (p : Pos)
      → EndsRightly (steps.by_pointer N callee g f fs vs d p)
  called_ends (Code h) g f fs vs d p = tt
  called_ends (Num z) g f fs vs d p = tt
  called_ends Null g f fs vs d p = tt

  pub either_live : (b : Bool) (c d : Config F G O) → IsLive c → IsLive d → IsLive (if b then c else d)
  either_live true c d p q = p
  either_live false c d p q = q

  pub either_ends : (b : Bool) (m n : Move (Config F G O)) → EndsRightly m → EndsRightly n → EndsRightly (if b then m else n)
  either_ends true m n p q = p
  either_ends false m n p q = q

  module _ (special : Special N) (special_ends : (g : G) (f : Frame F O) (fs : List (Frame F O)) (l : Stmt-F Stmt) → EndsRightly (special g f fs l)) where
    pub act_ends : (g : G) (f : Frame F O) (fs : List (Frame F O)) (s : Stmt) (l : Stmt-F Stmt) → EndsRightly (steps.act N special g f fs s l)
    act_ends g f fs s (one.Skip p) = tt
    act_ends g f fs s (one.Set p d e) = with_ends (steps.value_of N g f e) p _ (λ v. stored_live g f fs d v)
    act_ends g f fs s (one.SetElem p a i e) =
        with_ends (steps.value_of N g f i) p _ (λ at. with_ends (steps.value_of N g f e) p _ (λ v.
        elements_end (steps.elements_with (N.elements f.origin g a) (number at) (number v)) p _ (λ elements. tt)))
    act_ends g f fs s (one.Call p d h es) = with_ends (steps.values_of N g f es) p _ (λ vs. tt)
    act_ends g f fs s (one.CallBy p d x es) =
        with_ends (steps.values_of N g f es) p _ (λ vs. called_ends ((steps.look N g f).value x) g f fs vs d p)
    act_ends g f fs s (one.If p e a b) = with_ends (steps.value_of N g f e) p _ (λ v. tt)
    act_ends g f fs s (one.While p e body) =
        with_ends (steps.value_of N g f e) p _ (λ v. either_live (is_zero (number v)) _ _ tt tt)
    act_ends g f fs s (one.Break p) = tt
    act_ends g f fs s (one.Return p None) = handed_ends g f.dest (steps.given N f.gives (Num (pos 0))) fs
    act_ends g f fs s (one.Return p (Some e)) = with_ends (steps.value_of N g f e) p _ (λ v. handed_ends g f.dest (steps.given N f.gives v) fs)
    act_ends g f fs s (one.Assert p e) = with_ends (steps.value_of N g f e) p _ (λ v. either_ends (is_zero (number v)) _ _ tt tt)
    act_ends g f fs s (one.Input p d) = λ z. stored_live g f fs d (Num z)
    act_ends g f fs s (one.Output p e) = with_ends (steps.value_of N g f e) p _ (λ v. tt)
    act_ends g f fs s (one.Choice p d k) = λ z. stored_live g f fs d (Num (if is_zero z then pos 0 else pos 1))
    act_ends g f fs s (one.Point p k) = special_ends g f fs (one.Point p k)
    act_ends g f fs s (one.Force p) = special_ends g f fs (one.Force p)
    act_ends g f fs s (one.Pick p a b) = special_ends g f fs (one.Pick p a b)

    next_ends : (g : G) (f : Frame F O) (fs : List (Frame F O)) (items : List Item) → EndsRightly (steps.next_item N special g f fs items)
    next_ends g f fs [] = handed_ends g f.dest (steps.given N f.gives (Num (pos 0))) fs
    next_ends g f fs (Does s ∷ rest) = act_ends g (record f { items = rest }) fs s (out-Stmt s)
    next_ends g f fs (Mark s ∷ rest) = act_ends g (record f { items = rest }) fs s (out-Stmt s)

    pub step_ends : (c : Config F G O) → IsLive c → EndsRightly (steps.step_with N special c)
    step_ends Over live = absurd live
    step_ends (Live g f fs) live = next_ends g f fs f.items
