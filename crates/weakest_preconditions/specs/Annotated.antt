-- Statements with what their conditions need: each loop with its invariants and its fresh names, each call, input and
-- choice with its fresh names.
use Rattle.std.specs.Prelude.{ℕ, List, Option}
use Rattle.c_lang.specs.Names.{Bytes}
use Rattle.c_lang.specs.Trees.{Expression, Statement, Statements}
use Rattle.c_lang.specs.Trees as tree
use Rattle.c_lang.specs.declared.unit.Pos.{Pos}
use Rattle.c_lang.specs.declared.stmt.Dest.{Dest}
use Rattle.terms.specs.declared.sym.Sym.{Sym}
use Rattle.terms.specs.declared.fact.Fact.{Fact}

-- Of a call, the fresh names of its result and of the cells that it may change.
mutual
  pub data Annotated : Type 0 where
    aside : Statement → Annotated
    set : Pos → Dest → Expression → Annotated
    set_element : Pos → Bytes → Expression → Expression → Annotated
    call : Pos → Dest → Bytes → List Expression → (result cells : List Sym) → Annotated
    call_by : Pos → Dest → Bytes → List Expression → (result cells : List Sym) → Annotated
    if_else : Pos → Expression → Body → Body → Annotated
    while_loop : Pos → Expression → Body → (invariants : List Fact) → (fresh : List Sym) → Annotated
    break_loop : Pos → Annotated
    return_with : Pos → Option Expression → Annotated
    assert_that : Pos → Expression → Annotated
    input : Pos → Dest → (fresh : List Sym) → Annotated
    output : Pos → Expression → Annotated
    choice : Pos → Dest → ℕ → (fresh : List Sym) → Annotated

  pub data Body : Type 0 where
    none : Body
    more : Annotated → Body → Body

-- the statements without it
abbrev mutual
  pub bare : Annotated → Statement
  bare (aside s) = s
  bare (set p d e) = tree.set p d e
  bare (set_element p a i e) = tree.set_element p a i e
  bare (call p d f es result cells) = tree.call p d f es
  bare (call_by p d x es result cells) = tree.call_by p d x es
  bare (if_else p e a b) = tree.if_else p e (bare_body a) (bare_body b)
  bare (while_loop p e a invariants fresh) = tree.while_loop p e (bare_body a)
  bare (break_loop p) = tree.break_loop p
  bare (return_with p e) = tree.return_with p e
  bare (assert_that p e) = tree.assert_that p e
  bare (input p d fresh) = tree.input p d
  bare (output p e) = tree.output p e
  bare (choice p d k fresh) = tree.choice p d k

  pub bare_body : Body → Statements
  bare_body none = tree.none
  bare_body (more t ts) = tree.more (bare t) (bare_body ts)
