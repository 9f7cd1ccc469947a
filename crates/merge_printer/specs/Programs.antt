-- The text of a merged program: the include line, the prototypes, the globals, and the functions.
use Rattle.std.specs.Prelude.{ℕ, ◌+◌, ℤ, Bool, true, false, if◌then◌else◌, reverse, List, [], ◌∷◌, ◌++◌, map, length, Option, Some, None, codes}
use Rattle.std.specs.List.{flat_map}
use Rattle.std.specs.Fmt.{decimal, signed_decimal}
use Rattle.c_lang.specs.Names.{Bytes}
use Rattle.c_lang.specs.Values.{is_zero}
use Rattle.c_lang.specs.Trees.{statement_of, statements}
use Rattle.c_lang.specs.declared.stmt.Kind.{Kind}
use Rattle.c_lang.specs.declared.stmt.Kind.TheVariants as kind
use Rattle.c_lang.specs.declared.program.Shape.{Shape}
use Rattle.c_lang.specs.declared.program.Shape.TheVariants as shape
use Rattle.c_lang.specs.declared.program.GlobalVar.{GlobalVar}
use Rattle.c_lang.specs.declared.program.Proto.{Proto}
use Rattle.c_lang.specs.declared.program.Func.{Func}
use Rattle.c_lang.specs.declared.program.Program.{Program}
use Rattle.merge_printer.specs.Statements.{position_text, declaration, statements_text}

abbrev pub without_zeros : List ℤ → List ℤ
without_zeros [] = []
without_zeros (z ∷ zs) = if is_zero z then without_zeros zs else z ∷ zs

-- the elements up to the last that isn't 0
abbrev pub shown_elements : List ℤ → List ℤ
shown_elements zs = reverse (without_zeros (reverse zs))

abbrev pub more_numbers : List ℤ → Bytes
more_numbers [] = []
more_numbers (z ∷ zs) = codes ", " ++ (signed_decimal z ++ more_numbers zs)

abbrev pub initializer : List ℤ → Bytes
initializer [] = []
initializer (z ∷ zs) = codes " = {" ++ (signed_decimal z ++ (more_numbers zs ++ codes "}"))

abbrev pub pointer_value : Option Bytes → Bytes
pointer_value None = codes "0"
pointer_value (Some f) = f

abbrev pub int_text : Bytes → ℤ → Bytes
int_text x z = codes "int " ++ (x ++ (codes " = " ++ (signed_decimal z ++ codes ";\n")))

abbrev pub array_text : Bytes → List ℤ → Bytes
array_text x zs =
    codes "int " ++ (x ++ (codes "[" ++ (decimal (length zs) ++ (codes "]" ++ (initializer (shown_elements zs) ++ codes ";\n")))))

abbrev pub pointer_text : Bytes → ℕ → Option Bytes → Bytes
pointer_text x n f = declaration (kind.Fp n) x ++ (codes " = " ++ (pointer_value f ++ codes ";\n"))

abbrev pub shape_text : Bytes → Shape → Bytes
shape_text x (shape.Int z) = int_text x z
shape_text x (shape.Arr zs) = array_text x zs
shape_text x (shape.Fp n f) = pointer_text x n f

abbrev pub global_text : GlobalVar → Bytes
global_text g = position_text g.pos ++ shape_text g.name g.shape

-- the result and the name of a function
abbrev pub head_start : Bool → Bytes → Bytes
head_start true f = codes "int " ++ f
head_start false f = codes "void " ++ f

-- a prototype names its parameters `dsu_a1`, `dsu_a2` and so on
abbrev pub numbered : Kind → ℕ → Bytes
numbered k n = declaration k (codes "dsu_a" ++ decimal n)

abbrev pub more_kinds : ℕ → List Kind → Bytes
more_kinds n [] = []
more_kinds n (k ∷ ks) = codes ", " ++ (numbered k n ++ more_kinds (n + 1) ks)

abbrev pub kinds_text : List Kind → Bytes
kinds_text [] = codes "void"
kinds_text (k ∷ ks) = numbered k 1 ++ more_kinds 2 ks

abbrev pub more_parameters : List (Kind × Bytes) → Bytes
more_parameters [] = []
more_parameters (p ∷ ps) = codes ", " ++ (declaration p.0 p.1 ++ more_parameters ps)

abbrev pub parameters_text : List (Kind × Bytes) → Bytes
parameters_text [] = codes "void"
parameters_text (p ∷ ps) = declaration p.0 p.1 ++ more_parameters ps

abbrev pub proto_text : Proto → Bytes
proto_text p =
    position_text p.pos ++ (head_start p.gives p.name ++ (codes "(" ++ (kinds_text p.params ++ codes ");\n")))

abbrev pub func_text : Func → Bytes
func_text f =
    position_text f.pos
    ++ (head_start f.gives f.name
    ++ (codes "(" ++ (parameters_text f.params ++ (codes ") {\n" ++ (statements_text (statements (map statement_of f.body)) ++ codes "}\n")))))

abbrev pub program_text : Program → Bytes
program_text P =
    codes "#include \"dsu.h\"\n" ++ (flat_map proto_text P.protos ++ (flat_map global_text P.globals ++ flat_map func_text P.funcs))
