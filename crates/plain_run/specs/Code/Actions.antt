-- A step in two halves: what a statement asks for, and what is done then. The second half alone
-- changes the configuration.
use Rattle.std.specs.Prelude.{◌≡◌, ℕ, ℤ, pos, Bool, not, if◌then◌else◌, List, [], ◌∷◌, ◌++◌, map, Option, Some, None, Ok, Err}
use Rattle.c_lang.specs.Names.{Bytes}
use Rattle.c_lang.specs.Evaluation.{Look, ev}
use Rattle.plain_run.specs.Environments.{Rules, swapped}
use Rattle.plain_run.specs.Moves.{Move, Goes, Asks}
use Rattle.plain_run.specs.Steps as steps
use Rattle.plain_run.specs.Steps.{Frame, Config, Does, Mark, Live, after_mark, elements_with, given}
use Rattle.c_lang.specs.Trees.{expression_of}
use Rattle.c_lang.specs.Values.{Value, Num, Code, Answer, number, is_zero}
use Rattle.c_lang.specs.declared.event.Trap.{Trap}
use Rattle.c_lang.specs.declared.event.Trap.TheVariants.{Assert}
use Rattle.c_lang.specs.declared.event.Event.TheVariants as event
use Rattle.c_lang.specs.declared.expr.Expr.{Expr}
use Rattle.c_lang.specs.declared.stmt.Dest.{Dest}
use Rattle.c_lang.specs.declared.stmt.Stmt.{Stmt}
use Rattle.c_lang.specs.declared.stmt.Stmt.TheOpen.{Stmt-F}
use Rattle.c_lang.specs.declared.stmt.Stmt.TheOpen as one
use Rattle.c_lang.specs.declared.unit.Pos.{Pos}

pub data Action (F : Type 0) : Type 0 where
  Skip : Action F
  Enter : (body : List Stmt) → Action F
  Loop : (body : List Stmt) → (mark : Stmt) → Action F
  Leave : Action F
  Store_value : (dest : Dest) → (value : Value F) → Action F
  Store_element : (array : Bytes) → (at : ℤ) → (element : ℤ) → (position : Pos) → Action F
  Call : (callee : Value F) → (args : List Expr) → (dest : Dest) → (position : Pos) → Action F
  Return : (value : Value F) → Action F
  Fault : (trap : Trap) → (position : Pos) → Action F
  Input : (dest : Dest) → Action F
  Output : (shown : ℤ) → Action F
  Choice : (dest : Dest) → (k : ℕ) → Action F
  Ask : (k : ℕ) → Action F
  Update : Action F

abbrev pub or_fault : {F : Type 0} → Answer F → Pos → (Value F → Action F) → Action F
or_fault (Ok v) p go = go v
or_fault (Err t) p go = Fault t p

-- the expression that a statement evaluates first, and where a trap in it is
abbrev pub operand : Stmt-F Stmt → Option (Expr × Pos)
operand (one.Set p d e) = Some (e, p)
operand (one.SetElem p a i e) = Some (i, p)
operand (one.If p e a b) = Some (e, p)
operand (one.While p e a) = Some (e, p)
operand (one.Return p (Some e)) = Some (e, p)
operand (one.Assert p e) = Some (e, p)
operand (one.Output p e) = Some (e, p)
operand l = None

-- What a statement asks for once that expression has the value v. `same` compares functions. What a point, a force or a pick
-- asks for is another definition's.
abbrev pub asked : {F : Type 0} → (F → F → Bool) → Look F → Stmt → Stmt-F Stmt → Value F → Action F
asked same look s (one.Set p d e) v = Store_value d v
asked same look s (one.SetElem p a i e) v = or_fault (ev same look (expression_of e)) p (λ w. Store_element a (number v) (number w) p)
asked same look s (one.Call p d f es) v = Call (Code (look.code f)) es d p
asked same look s (one.CallBy p d x es) v = Call (look.value x) es d p
asked same look s (one.If p e a b) v = Enter (if is_zero (number v) then b else a)
asked same look s (one.While p e a) v = if is_zero (number v) then Skip else Loop a s
asked same look s (one.Break p) v = Leave
asked same look s (one.Return p e) v = Return v
asked same look s (one.Assert p e) v = if is_zero (number v) then Fault Assert p else Skip
asked same look s (one.Input p d) v = Input d
asked same look s (one.Output p e) v = Output (number v)
asked same look s (one.Choice p d k) v = Choice d k
asked same look s l v = Skip

module _ {F : Type 0} (IsDecided : Action F → Type 0) (same : F → F → Bool) (look : Look F) (s : Stmt) where
  -- a point, a force or a pick asks for what the environment decides
  abbrev pub IsAskedWith : Stmt-F Stmt → Value F → Action F → Type 0
  IsAskedWith (one.Point p k) v action = IsDecided action
  IsAskedWith (one.Force p) v action = IsDecided action
  IsAskedWith (one.Pick p a b) v action = IsDecided action
  IsAskedWith l v action = action ≡ asked same look s l v

  abbrev pub IsAskedAfter : Stmt-F Stmt → Answer F → Pos → Action F → Type 0
  IsAskedAfter l (Ok v) p action = IsAskedWith l v action
  IsAskedAfter l (Err t) p action = action ≡ Fault t p

  -- 0 where nothing is evaluated, which is also what a function without a result returns
  abbrev pub IsAskedBy : Stmt-F Stmt → Option (Expr × Pos) → Action F → Type 0
  IsAskedBy l None action = IsAskedWith l (Num (pos 0)) action
  IsAskedBy l (Some (e, p)) action = IsAskedAfter l (ev same look (expression_of e)) p action

  abbrev pub IsAsked : Stmt-F Stmt → Action F → Type 0
  IsAsked l action = IsAskedBy l (operand l) action

module _ {F G O : Type 0} (R : Rules F G O) (g : G) (f : Frame F O) (fs : List (Frame F O)) where
  -- f doesn't have the statement any more
  abbrev pub done : Action F → Move (Config F G O)
  done Skip = Goes [] (Live g f fs)
  done (Enter body) = Goes [] (steps.before_rest R.access g f fs (map Does body))
  done (Loop body s) = Goes [] (steps.before_rest R.access g f fs (map Does body ++ Mark s ∷ []))
  done Leave = Goes [] (Live g (record f { items = after_mark f.items }) fs)
  done (Store_value d v) = Goes [] (steps.stored R.access g f fs d v)
  done (Store_element a at z p) =
      steps.with_elements R.access (elements_with (R.access.elements f.origin g a) at z) p (λ elements. Goes [] (Live (R.access.put_elements f.origin a elements g) f fs))
  done (Call callee es d p) = steps.with R.access (steps.values_of R.access g f es) p (λ vs. steps.by_pointer R.access callee g f fs vs d p)
  done (Return v) = steps.handed R.access g f.dest (given R.access f.gives v) fs
  done (Fault t p) = steps.trapped R.access t p
  done (Input d) = Asks (λ z. event.Input z) (λ z. steps.stored R.access g f fs d (Num z))
  done (Output z) = Goes (event.Output z ∷ []) (Live g f fs)
  done (Choice d k) =
      Asks (λ z. event.Choice k (not (is_zero z))) (λ z. steps.stored R.access g f fs d (Num (if is_zero z then pos 0 else pos 1)))
  done (Ask k) = Asks (λ z. event.Choice k (not (is_zero z))) (λ z. if is_zero z then Live g f fs else swapped R g f fs)
  done Update = Goes [] (swapped R g f fs)
