-- What the names of a condition stand for.
use Rattle.std.specs.Prelude.{ℕ, if◌then◌else◌, List, [], ◌∷◌, map, length, Option, Some, None}
use Rattle.std.specs.Str.{bytes_eq}
use Rattle.c_lang.specs.Names.{Bytes}
use Rattle.c_lang.specs.Programs.{global_named}
use Rattle.c_lang.specs.Trees.{Statement, Statements, statements, statement_of}
use Rattle.c_lang.specs.Trees as tree
use Rattle.c_lang.specs.declared.stmt.Kind.{Kind}
use Rattle.c_lang.specs.declared.stmt.Kind.TheVariants as kind
use Rattle.c_lang.specs.declared.stmt.Dest.{Dest}
use Rattle.c_lang.specs.declared.stmt.Dest.TheVariants as dest
use Rattle.c_lang.specs.declared.program.Shape.{Shape}
use Rattle.c_lang.specs.declared.program.Shape.TheVariants as shape
use Rattle.c_lang.specs.declared.program.GlobalVar.{GlobalVar}
use Rattle.c_lang.specs.declared.program.Func.{Func}
use Rattle.c_lang.specs.declared.program.Program.{Program}
use Rattle.terms.specs.declared.sequent.Sort.{Sort}
use Rattle.terms.specs.declared.sequent.Sort.TheVariants as sort
use Rattle.terms.specs.declared.sequent.Sequent.{Sequent}
use Rattle.terms.specs.Names.{distinct, sequent_names}
use Rattle.weakest_preconditions.specs.Wp.{Condition}

-- the first kind, else the second
abbrev pub or_else : Option Kind → Option Kind → Option Kind
or_else None other = other
or_else (Some k) other = Some k

abbrev pub declared_by : Bytes → Dest → Option Kind
declared_by x (dest.Fresh k y) = if bytes_eq y x then Some k else None
declared_by x dest.Nowhere = None
declared_by x (dest.Into y) = None

-- the kind of a local, by its first declaration; all declarations of one name in a function have one kind
abbrev mutual
  pub local_kind : Bytes → Statement → Option Kind
  local_kind x (tree.set p d e) = declared_by x d
  local_kind x (tree.call p d f es) = declared_by x d
  local_kind x (tree.call_by p d y es) = declared_by x d
  local_kind x (tree.if_else p e a b) = or_else (local_kind_in x a) (local_kind_in x b)
  local_kind x (tree.while_loop p e a) = local_kind_in x a
  local_kind x (tree.input p d) = declared_by x d
  local_kind x (tree.choice p d k) = declared_by x d
  local_kind x (tree.set_element p a i e) = None
  local_kind x (tree.skip p) = None
  local_kind x (tree.break_loop p) = None
  local_kind x (tree.return_with p e) = None
  local_kind x (tree.assert_that p e) = None
  local_kind x (tree.output p e) = None
  local_kind x (tree.point p k) = None
  local_kind x (tree.force p) = None
  local_kind x (tree.pick p a b) = None

  pub local_kind_in : Bytes → Statements → Option Kind
  local_kind_in x tree.none = None
  local_kind_in x (tree.more s ss) = or_else (local_kind x s) (local_kind_in x ss)

abbrev pub parameter_kind : Bytes → List (Kind × Bytes) → Option Kind
parameter_kind x [] = None
parameter_kind x (p ∷ ps) = if bytes_eq p.1 x then Some p.0 else parameter_kind x ps

-- an `int`, or one of the functions of the program
abbrev pub kind_sort : ℕ → Kind → Sort
kind_sort funcs kind.Int = sort.Whole
kind_sort funcs (kind.Fp n) = sort.Code funcs

abbrev pub shape_sort : ℕ → Shape → Sort
shape_sort funcs (shape.Int z) = sort.Whole
shape_sort funcs (shape.Arr zs) = sort.Row (length zs)
shape_sort funcs (shape.Fp n f) = sort.Code funcs

-- what is no global, as a result without destination, is an `int`
abbrev pub global_sort : ℕ → Option GlobalVar → Sort
global_sort funcs None = sort.Whole
global_sort funcs (Some g) = shape_sort funcs g.shape

abbrev pub sort_by : ℕ → Option Kind → Option GlobalVar → Sort
sort_by funcs (Some k) g = kind_sort funcs k
sort_by funcs None g = global_sort funcs g

-- a parameter, a local or a global
abbrev pub sort_of : Program → Func → Bytes → Sort
sort_of p f x = sort_by (length p.funcs)
    (or_else (parameter_kind x f.params) (local_kind_in x (statements (map statement_of f.body)))) (global_named p.globals x)

-- with the sorts of its free names, in the order of their first occurrence
abbrev pub sequent : Program → Func → Condition → Sequent
sequent p f s =
    let bare : Sequent = record { sorts = []; hyps = s.hyps; goal = s.goal; label = s.label } in
    record bare { sorts = map (λ x. (x, sort_of p f x.base)) (distinct (sequent_names bare)) }
