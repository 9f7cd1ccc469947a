-- The functions of a program of which an item of hints speaks.
use Rattle.std.specs.Prelude.{List, [], ◌++◌, option_to_list}
use Rattle.c_lang.specs.Names.{Bytes}
use Rattle.c_lang.specs.Programs.{func_named}
use Rattle.c_lang.specs.declared.program.Func.{Func}
use Rattle.c_lang.specs.declared.program.Program.{Program}
use Rattle.version_names.specs.declared.part.Origin.TheVariants.{Any, Old, New}
use Rattle.version_names.specs.Merged.{merged_name}
use Rattle.hint_texts.specs.declared.hints.Head.{Head}
use Rattle.hint_texts.specs.declared.hints.Head.TheVariants as head

-- the function of this name, if there is one
abbrev pub named : Program → Bytes → List Func
named p f = option_to_list (func_named p.funcs f)

-- the wrapper of a version's function, its old and its new form, as far as they are there
abbrev pub forms_of : Program → Bytes → List Func
forms_of p f = named p (merged_name Any f) ++ (named p (merged_name Old f) ++ named p (merged_name New f))

-- the functions whose contract an item gives
abbrev pub subjects : Program → Head → List Func
subjects p (head.Both f) = forms_of p f
subjects p (head.At f) = named p f
subjects p (head.Loop f n) = []
