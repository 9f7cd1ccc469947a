-- What is said of each statement of a function's body, those inside of others included.
use Rattle.std.specs.Prelude.{⊤, Bool, true, false, List, ◌∷◌, map, All}
use Rattle.c_lang.specs.Names.{Bytes}
use Rattle.c_lang.specs.Trees.{Statement, Statements, set, call, call_by, if_else, while_loop, input, choice, pick, none, more}
use Rattle.c_lang.specs.declared.stmt.Kind.{Kind}
use Rattle.c_lang.specs.declared.stmt.Dest.{Dest}
use Rattle.c_lang.specs.declared.stmt.Dest.TheVariants.{Nowhere, Into, Fresh}
use Rattle.c_lang.specs.declared.program.Func.{Func}
use Rattle.c_lang.specs.declared.program.Program.{Program}
use Rattle.c_types.specs.Bodies.{body_of}

-- where a statement stands: in a loop, in a client's pick, and past which parameters and locals of
-- its function's text, of blocks that have ended too
pub record Context : Type 0 where
  pub in_loop : Bool
  pub in_pick : Bool
  pub declared : List Bytes

abbrev pub with_dest : List Bytes → Dest → List Bytes
with_dest names Nowhere = names
with_dest names (Into x) = names
with_dest names (Fresh k x) = x ∷ names

abbrev mutual
  pub told : List Bytes → Statement → List Bytes
  told names (set p d e) = with_dest names d
  told names (call p d f es) = with_dest names d
  told names (call_by p d x es) = with_dest names d
  told names (input p d) = with_dest names d
  told names (choice p d k) = with_dest names d
  told names (if_else p e a b) = told_all (told_all names a) b
  told names (while_loop p e a) = told_all names a
  told names s = names

  pub told_all : List Bytes → Statements → List Bytes
  told_all names none = names
  told_all names (more s ss) = told_all (told names s) ss

abbrev pub in_loop : Context → Context
in_loop at = record at { in_loop = true }

abbrev pub in_pick : Context → Context
in_pick at = record at { in_pick = true }

abbrev pub past : Context → Statement → Context
past at s = record at { declared = told at.declared s }

abbrev pub past_all : Context → Statements → Context
past_all at ss = record at { declared = told_all at.declared ss }

module _ (Says : Context → Statement → Type 0) where
  abbrev mutual
    pub Throughout : Context → Statement → Type 0
    Throughout at (if_else p e a b) = Says at (if_else p e a b) × ThroughoutAll at a × ThroughoutAll (past_all at a) b
    Throughout at (while_loop p e a) = Says at (while_loop p e a) × ThroughoutAll (in_loop at) a
    Throughout at (pick p a b) = Says at (pick p a b) × Throughout (in_pick at) a × Throughout (in_pick at) b
    Throughout at s = Says at s

    pub ThroughoutAll : Context → Statements → Type 0
    ThroughoutAll at none = ⊤
    ThroughoutAll at (more s ss) = Throughout at s × ThroughoutAll (past at s) ss

-- where a function's body begins
abbrev pub start_of : Func → Context
start_of f = record { in_loop = false; in_pick = false; declared = map (λ (q : Kind × Bytes). q.1) f.params }

-- each statement of each function's body
abbrev pub InBodies : (Context → Statement → Type 0) → Program → Type 0
InBodies Says p = All (λ (f : Func). ThroughoutAll Says (start_of f) (body_of f.body)) p.funcs
