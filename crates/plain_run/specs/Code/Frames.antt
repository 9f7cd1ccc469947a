-- What the code's frames stand for.
use Rattle.std.specs.Prelude.{Bool, List, [], ◌∷◌, ◌++◌, map, reverse, fold, Option, Some, None, Vec}
use Rattle.std.specs.Borrow.{Bor}
use Rattle.std.specs.declared.alloc.Global.{Global}
use Rattle.plain_run.specs.Environments.{Sees}
use Rattle.plain_run.specs.Steps as steps
use Rattle.plain_run.specs.Steps.{Item, Does, Mark, Locals}
use Rattle.c_lang.specs.declared.stmt.Dest.{Dest}
use Rattle.c_lang.specs.declared.stmt.Dest.TheVariants.{Nowhere}
use Rattle.c_lang.specs.declared.stmt.Stmt.{Stmt}
use Rattle.plain_run.specs.declared.frame.Rest.{Rest}
use Rattle.plain_run.specs.declared.frame.Rest.TheVariants.{Body, Loop}
use Rattle.plain_run.specs.declared.frame.Frame.{Frame}
use Rattle.plain_run.specs.Code.Names.{seen_locals}

-- the items that stand before the others
abbrev pub before : Rest → List Item → List Item
before (Body body) items = map Does body.now ++ items
before (Loop statement) items = Mark statement.now ∷ items

-- the innermost body stands last
abbrev pub seen_items : List Rest → List Item
seen_items rest = fold (λ items r. before r items) [] rest

abbrev pub first_statement : List Item → Option Stmt
first_statement [] = None
first_statement (Does s ∷ items) = Some s
first_statement (Mark s ∷ items) = Some s

abbrev pub behind_first : List Item → List Item
behind_first [] = []
behind_first (item ∷ items) = items

abbrev pub dest_of : Option (Bor Dest) → Dest
dest_of None = Nowhere
dest_of (Some d) = d.now

abbrev pub frame_with : {F O : Type 0} → O → Locals F → List Item → Dest → Bool → steps.Frame F O
frame_with origin locals items dest gives = record { origin = origin; locals = locals; items = items; dest = dest; gives = gives }

module _ {X Y F O : Type 0} (see : Sees X Y F O) where
  -- the frame with these items
  abbrev pub seen_with : List Item → Frame X Y → steps.Frame F O
  seen_with items f = frame_with (see.origin f.origin) (seen_locals see.function f.locals.entries) items (dest_of f.dest) f.gives

  abbrev pub seen_frame : Frame X Y → steps.Frame F O
  seen_frame f = seen_with (seen_items f.rest.items) f

  -- without the statement that runs next
  abbrev pub behind_statement : Frame X Y → steps.Frame F O
  behind_statement f = seen_with (behind_first (seen_items f.rest.items)) f

  -- the frame on top stands last
  abbrev pub seen_frames : Vec (Frame X Y) Global → List (steps.Frame F O)
  seen_frames below = reverse (map seen_frame below.items)
