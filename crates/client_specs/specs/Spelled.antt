-- A client's resolved form spells what a name means at the place where it stands: a function that one version has alone
-- has that version's prefix, as in a transformer.
use Rattle.std.specs.Prelude.{if◌then◌else◌, map, Option, Some, None}
use Rattle.std.specs.Option.{option_map}
use Rattle.c_lang.specs.Names.{Bytes}
use Rattle.c_lang.specs.Trees.{Expression, literal, variable, element, function, null, negation, logical_not, binary, Statement, Statements, skip, set, set_element, call, call_by, if_else, while_loop, break_loop, return_with, assert_that, input, output, point, choice, force, pick, none, more, stmts_of}
use Rattle.c_lang.specs.declared.program.Func.{Func}
use Rattle.c_types.specs.Bodies.{body_of}
use Rattle.c_types.specs.Statements.{is_force}
use Rattle.version_names.specs.Merged.{merged_name}
use Rattle.version_names.specs.Parts.{Parts}
use Rattle.version_names.specs.declared.part.Origin.TheVariants as origin
use Rattle.version_names.specs.declared.part.Version.{Version}
use Rattle.version_names.specs.declared.part.Version.TheVariants as version
use Rattle.version_names.specs.declared.part.Part.{Part}
use Rattle.version_names.specs.declared.part.Part.TheVariants.{Both, Old, New}
use Rattle.version_names.specs.declared.part.Sort2.TheVariants as sort
use Rattle.client_specs.specs.declared.region.Region.{Region}
use Rattle.client_specs.specs.declared.region.Region.TheVariants.{Here, Behind, After, Before}

-- ---- names

-- the version whose functions are called at a place
abbrev pub version_at : Region → Version
version_at Here = version.Old
version_at Behind = version.New
version_at After = version.New
version_at Before = version.Old

-- a name that the version lacks is the client's own
abbrev pub spelled_by : Option Part → Bytes → Bytes
spelled_by None f = f
spelled_by (Some Both) f = f
spelled_by (Some Old) f = merged_name origin.Old f
spelled_by (Some New) f = merged_name origin.New f

-- behind `dsu_force();` other functions are meant
abbrev pub region_after : Region → Statement → Region
region_after region s = if is_force s then Behind else region

module _ (parts : Parts) where
  abbrev pub spelled : Region → Bytes → Bytes
  spelled region f = spelled_by (parts (version_at region) sort.Code f) f

  -- ---- expressions

  abbrev pub spelled_expression : Region → Expression → Expression
  spelled_expression region (literal z) = literal z
  spelled_expression region (variable x) = variable x
  spelled_expression region (element a i) = element a (spelled_expression region i)
  spelled_expression region (function f) = function (spelled region f)
  spelled_expression region null = null
  spelled_expression region (negation a) = negation (spelled_expression region a)
  spelled_expression region (logical_not a) = logical_not (spelled_expression region a)
  spelled_expression region (binary o a b) = binary o (spelled_expression region a) (spelled_expression region b)

  -- ---- statements

  abbrev mutual
    pub spelled_statement : Region → Statement → Statement
    spelled_statement region (skip p) = skip p
    spelled_statement region (set p d e) = set p d (spelled_expression region e)
    spelled_statement region (set_element p a i e) = set_element p a (spelled_expression region i) (spelled_expression region e)
    spelled_statement region (call p d f es) = call p d (spelled region f) (map (spelled_expression region) es)
    spelled_statement region (call_by p d x es) = call_by p d x (map (spelled_expression region) es)
    spelled_statement region (if_else p e xs ys) =
        if_else p (spelled_expression region e) (spelled_statements region xs) (spelled_statements region ys)
    spelled_statement region (while_loop p e xs) = while_loop p (spelled_expression region e) (spelled_statements region xs)
    spelled_statement region (break_loop p) = break_loop p
    spelled_statement region (return_with p e) = return_with p (option_map (spelled_expression region) e)
    spelled_statement region (assert_that p e) = assert_that p (spelled_expression region e)
    spelled_statement region (input p d) = input p d
    spelled_statement region (output p e) = output p (spelled_expression region e)
    spelled_statement region (point p k) = point p k
    spelled_statement region (choice p d k) = choice p d k
    spelled_statement region (force p) = force p
    spelled_statement region (pick p a b) = pick p (spelled_statement After a) (spelled_statement Before b)

    pub spelled_statements : Region → Statements → Statements
    spelled_statements region none = none
    spelled_statements region (more s ss) = more (spelled_statement region s) (spelled_statements (region_after region s) ss)

  -- ---- functions

  abbrev pub spelled_func : Func → Func
  spelled_func f = record f { body = stmts_of (spelled_statements Here (body_of f.body)) }
