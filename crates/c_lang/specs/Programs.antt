-- A program's globals and functions by name. Of several with one name the first counts, which no
-- typed program has.
use Rattle.std.specs.Prelude.{ℤ, pos, false, if◌then◌else◌, List, [], ◌∷◌, Option, Some, None, unwrap_or}
use Rattle.std.specs.Str.{bytes_eq}
use Rattle.c_lang.specs.Names.{Bytes}
use Rattle.c_lang.specs.Values.{Value, Num, Code, Null}
use Rattle.c_lang.specs.declared.unit.Unit.TheVariants as unit
use Rattle.c_lang.specs.declared.program.Shape.{Shape}
use Rattle.c_lang.specs.declared.program.Shape.TheVariants as shape
use Rattle.c_lang.specs.declared.program.GlobalVar.{GlobalVar}
use Rattle.c_lang.specs.declared.program.Func.{Func}

abbrev pub global_named : List GlobalVar → Bytes → Option GlobalVar
global_named [] x = None
global_named (g ∷ gs) x = if bytes_eq g.name x then Some g else global_named gs x

abbrev pub func_named : List Func → Bytes → Option Func
func_named [] f = None
func_named (d ∷ ds) f = if bytes_eq d.name f then Some d else func_named ds f

-- what the name of no function stands for, which no typed program asks for
abbrev pub no_func : Func
no_func = record { name = []; params = []; gives = false; body = []; pos = record { unit = unit.Merge; line = 1 } }

abbrev pub func_in : List Func → Bytes → Func
func_in ds f = unwrap_or (func_named ds f) no_func

-- a global's initial value, where `code` says what a function's name stands for; 0 for an array
abbrev pub shape_value : {F : Type 0} → (Bytes → F) → Shape → Value F
shape_value code (shape.Int z) = Num z
shape_value code (shape.Arr zs) = Num (pos 0)
shape_value code (shape.Fp n None) = Null
shape_value code (shape.Fp n (Some f)) = Code (code f)

-- an array's initial elements
abbrev pub shape_elements : Shape → List ℤ
shape_elements (shape.Arr zs) = zs
shape_elements _ = []

abbrev pub initial_value : {F : Type 0} → (Bytes → F) → Option GlobalVar → Value F
initial_value code None = Num (pos 0)
initial_value code (Some g) = shape_value code g.shape

abbrev pub initial_elements : Option GlobalVar → List ℤ
initial_elements None = []
initial_elements (Some g) = shape_elements g.shape
