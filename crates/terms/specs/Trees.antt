-- Terms, array terms and forms as plain data, on which definitions go by cases.
use Rattle.std.specs.Prelude.{ℤ}
use Rattle.terms.specs.declared.sym.Sym.{Sym}

mutual
  pub data TermTree : Type 0 where
    number : ℤ → TermTree
    name : Sym → TermTree
    plus : TermTree → TermTree → TermTree
    minus : TermTree → TermTree → TermTree
    times : TermTree → TermTree → TermTree
    divided : TermTree → TermTree → TermTree
    remainder : TermTree → TermTree → TermTree
    read : ArrayTree → TermTree → TermTree
    truth : FormTree → TermTree

  pub data ArrayTree : Type 0 where
    array : Sym → ArrayTree
    stored : ArrayTree → TermTree → TermTree → ArrayTree

  pub data FormTree : Type 0 where
    always : FormTree
    never : FormTree
    at_most : TermTree → TermTree → FormTree
    equal : TermTree → TermTree → FormTree
    denied : FormTree → FormTree
    both : FormTree → FormTree → FormTree
    either : FormTree → FormTree → FormTree
