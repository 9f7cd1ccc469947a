-- What a statement does, for every machine of this language. A machine says how the names of a
-- frame are read and written, and what it does at the statements that only updates know.
use Rattle.std.specs.Prelude.{ℤ, pos, negsuc, Bool, true, false, not, nat_lt, if◌then◌else◌, List, [], ◌∷◌, ◌++◌, map, length, slice_set, Option, Some, None, Result, Ok, Err}
use Rattle.std.specs.Str.{bytes_eq}
use Rattle.c_lang.specs.Names.{Bytes}
use Rattle.c_lang.specs.Trees.{expression_of}
use Rattle.c_lang.specs.Values.{Value, Num, Code, Null, Answer, number, is_zero}
use Rattle.c_lang.specs.Evaluation.{Look, ev}
use Rattle.plain_run.specs.Moves.{Move, Goes, Asks, Rests}
use Rattle.c_lang.specs.declared.unit.Pos.{Pos}
use Rattle.c_lang.specs.declared.event.Trap.{Trap}
use Rattle.c_lang.specs.declared.event.Trap.TheVariants.{Assert, Index, NullCall}
use Rattle.c_lang.specs.declared.event.Event.TheVariants as event
use Rattle.c_lang.specs.declared.expr.Expr.{Expr}
use Rattle.c_lang.specs.declared.stmt.Kind.{Kind}
use Rattle.c_lang.specs.declared.stmt.Dest.{Dest}
use Rattle.c_lang.specs.declared.stmt.Dest.TheVariants.{Nowhere, Into, Fresh}
use Rattle.c_lang.specs.declared.stmt.Stmt.{Stmt, out-Stmt}
use Rattle.c_lang.specs.declared.stmt.Stmt.TheOpen.{Stmt-F}
use Rattle.c_lang.specs.declared.stmt.Stmt.TheOpen as one
use Rattle.c_lang.specs.declared.program.Func.{Func}

-- the map with w at k, and elsewhere as before
abbrev pub updated : {X : Type 0} → (Bytes → X) → Bytes → X → Bytes → X
updated f k w x = if bytes_eq k x then w else f x

-- a name that is no local has None
abbrev pub Locals : Type 0 → Type 0
Locals F = Bytes → Option (Value F)

-- what a frame has still to run: a statement, or the mark of a `while` whose body was entered
pub data Item : Type 0 where
  Does : Stmt → Item
  Mark : Stmt → Item

-- F is what functions are as values, O says where a body was written
pub record Frame (F O : Type 0) : Type 0 where
  pub origin : O
  pub locals : Locals F
  pub items : List Item
  -- where the frame below wants the result
  pub dest : Dest
  -- whether the function has a result; if not, its frame hands on 0, which nobody uses
  pub gives : Bool

-- G is what all frames share
pub data Config (F G O : Type 0) : Type 0 where
  Live : (state : G) → (top : Frame F O) → (below : List (Frame F O)) → Config F G O
  Over : Config F G O

-- How a machine reads and writes the names of a frame that are no locals. Each is total: a name
-- that is not declared stands for something, which no typed program asks for.
pub record Access (F G O : Type 0) : Type 0 where
  pub same : F → F → Bool
  pub value : O → G → Bytes → Value F
  pub elements : O → G → Bytes → List ℤ
  pub code : O → G → Bytes → F
  pub put : O → Bytes → Value F → G → G
  pub put_elements : O → Bytes → List ℤ → G → G
  -- the body that a function has now, and where it was written
  pub enter : G → F → O × Func

abbrev pub local_or : {F : Type 0} → Option (Value F) → Value F → Value F
local_or None v = v
local_or (Some w) v = w

-- the parameters with the arguments
abbrev pub bound : {F : Type 0} → List (Kind × Bytes) → List (Value F) → Locals F
bound [] vs = λ x. None
bound (p ∷ ps) [] = updated (bound ps []) p.1 (Some (Num (pos 0)))
bound (p ∷ ps) (v ∷ vs) = updated (bound ps vs) p.1 (Some v)

-- the items behind the first mark
abbrev pub after_mark : List Item → List Item
after_mark [] = []
after_mark (Does s ∷ rest) = after_mark rest
after_mark (Mark s ∷ rest) = rest

-- the array with z at an index; None outside its bounds
abbrev pub elements_with : List ℤ → ℤ → ℤ → Option (List ℤ)
elements_with elements (pos n) z = if nat_lt n (length elements) then Some (slice_set elements n z) else None
elements_with elements (negsuc n) z = None

module _ {F G O : Type 0} (N : Access F G O) where
  abbrev pub Moves : Type 0
  Moves = Move (Config F G O)

  -- a name is a local where the frame has it, else a global
  abbrev pub look : G → Frame F O → Look F
  look g f = record {
    value = λ x. local_or (f.locals x) (N.value f.origin g x);
    elements = N.elements f.origin g;
    code = N.code f.origin g;
  }

  abbrev pub value_of : G → Frame F O → Expr → Answer F
  value_of g f e = ev N.same (look g f) (expression_of e)

  abbrev pub and_values : Answer F → Result (List (Value F)) Trap → Result (List (Value F)) Trap
  and_values (Err t) vs = Err t
  and_values (Ok v) (Err t) = Err t
  and_values (Ok v) (Ok vs) = Ok (v ∷ vs)

  -- from left to right
  abbrev pub values_of : G → Frame F O → List Expr → Result (List (Value F)) Trap
  values_of g f [] = Ok []
  values_of g f (e ∷ es) = and_values (value_of g f e) (values_of g f es)

  abbrev pub trapped : Trap → Pos → Moves
  trapped t p = Goes (event.Fault t p ∷ []) Over

  -- a trap ends the run at the statement's position
  abbrev pub with : {X : Type 0} → Result X Trap → Pos → (X → Moves) → Moves
  with (Ok x) p go = go x
  with (Err t) p go = trapped t p

  abbrev pub with_elements : Option (List ℤ) → Pos → (List ℤ → Moves) → Moves
  with_elements (Some elements) p go = go elements
  with_elements None p go = trapped Index p

  abbrev pub into : Option (Value F) → G → Frame F O → List (Frame F O) → Bytes → Value F → Config F G O
  into (Some old) g f fs x v = Live g (record f { locals = updated f.locals x (Some v) }) fs
  into None g f fs x v = Live (N.put f.origin x v g) f fs

  abbrev pub stored : G → Frame F O → List (Frame F O) → Dest → Value F → Config F G O
  stored g f fs Nowhere v = Live g f fs
  stored g f fs (Into x) v = into (f.locals x) g f fs x v
  stored g f fs (Fresh k x) v = Live g (record f { locals = updated f.locals x (Some v) }) fs

  abbrev pub given : Bool → Value F → Value F
  given true v = v
  given false v = Num (pos 0)

  -- a frame is left: its result goes to its destination in the frame below, or ends the run
  abbrev pub handed : G → Dest → Value F → List (Frame F O) → Moves
  handed g d v [] = Goes (event.End (number v) ∷ []) Over
  handed g d v (f ∷ fs) = Goes [] (stored g f fs d v)

  abbrev pub frame_of : O × Func → List (Value F) → Dest → Frame F O
  frame_of of vs d = record { origin = of.0; locals = bound of.1.params vs; items = map Does of.1.body; dest = d; gives = of.1.gives }

  abbrev pub entered : G → Frame F O → List (Frame F O) → F → List (Value F) → Dest → Moves
  entered g f fs h vs d = Goes [] (Live g (frame_of (N.enter g h) vs d) (f ∷ fs))

  abbrev pub by_pointer : Value F → G → Frame F O → List (Frame F O) → List (Value F) → Dest → Pos → Moves
  by_pointer (Code h) g f fs vs d p = entered g f fs h vs d
  by_pointer (Num z) g f fs vs d p = trapped NullCall p
  by_pointer Null g f fs vs d p = trapped NullCall p

  -- goes on with these items before the rest
  abbrev pub before_rest : G → Frame F O → List (Frame F O) → List Item → Config F G O
  before_rest g f fs new = Live g (record f { items = new ++ f.items }) fs

  -- what the machine does at a point, a force or a pick
  abbrev pub Special : Type 0
  Special = G → Frame F O → List (Frame F O) → Stmt-F Stmt → Moves

  -- one statement s, which the frame's items don't have any more, by its outermost level
  abbrev pub act : Special → G → Frame F O → List (Frame F O) → Stmt → Stmt-F Stmt → Moves
  act special g f fs s (one.Skip p) = Goes [] (Live g f fs)
  act special g f fs s (one.Set p d e) = with (value_of g f e) p (λ v. Goes [] (stored g f fs d v))
  act special g f fs s (one.SetElem p a i e) =
      with (value_of g f i) p (λ at. with (value_of g f e) p (λ v.
      with_elements (elements_with (N.elements f.origin g a) (number at) (number v)) p (λ elements. Goes [] (Live (N.put_elements f.origin a elements g) f fs))))
  act special g f fs s (one.Call p d h es) = with (values_of g f es) p (λ vs. entered g f fs (N.code f.origin g h) vs d)
  act special g f fs s (one.CallBy p d x es) =
      with (values_of g f es) p (λ vs. by_pointer ((look g f).value x) g f fs vs d p)
  act special g f fs s (one.If p e a b) =
      with (value_of g f e) p (λ v. Goes [] (before_rest g f fs (map Does (if is_zero (number v) then b else a))))
  act special g f fs s (one.While p e body) =
      with (value_of g f e) p (λ v. Goes [] (if is_zero (number v) then Live g f fs else before_rest g f fs (map Does body ++ Mark s ∷ [])))
  act special g f fs s (one.Break p) = Goes [] (Live g (record f { items = after_mark f.items }) fs)
  act special g f fs s (one.Return p None) = handed g f.dest (given f.gives (Num (pos 0))) fs
  act special g f fs s (one.Return p (Some e)) = with (value_of g f e) p (λ v. handed g f.dest (given f.gives v) fs)
  act special g f fs s (one.Assert p e) =
      with (value_of g f e) p (λ v. if is_zero (number v) then trapped Assert p else Goes [] (Live g f fs))
  act special g f fs s (one.Input p d) = Asks (λ z. event.Input z) (λ z. stored g f fs d (Num z))
  act special g f fs s (one.Output p e) =
      with (value_of g f e) p (λ v. Goes (event.Output (number v) ∷ []) (Live g f fs))
  act special g f fs s (one.Choice p d k) =
      Asks (λ z. event.Choice k (not (is_zero z))) (λ z. stored g f fs d (Num (if is_zero z then pos 0 else pos 1)))
  act special g f fs s l = special g f fs l

  -- a frame without items returns, `main` too, with the result 0
  abbrev pub next_item : Special → G → Frame F O → List (Frame F O) → List Item → Moves
  next_item special g f fs [] = handed g f.dest (given f.gives (Num (pos 0))) fs
  next_item special g f fs (Does s ∷ rest) = act special g (record f { items = rest }) fs s (out-Stmt s)
  next_item special g f fs (Mark s ∷ rest) = act special g (record f { items = rest }) fs s (out-Stmt s)

  abbrev pub step_with : Special → Config F G O → Moves
  step_with special Over = Rests
  step_with special (Live g f fs) = next_item special g f fs f.items
