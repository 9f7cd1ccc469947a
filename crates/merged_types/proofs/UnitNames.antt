-- What is visible in a whole unit, by its globals and functions.
use Rattle.std.proofs.Common.{◌≡◌, Bool, true, false, if◌then◌else◌, cond, List, [], ◌∷◌, Option, Some, None, refl, sym, ap, ◌∙◌}
use Rattle.std.specs.Option.{option_map, option_or}
use Rattle.std.specs.Str.{bytes_eq}
use Rattle.c_lang.specs.Names.{Bytes}
use Rattle.c_lang.specs.Programs.{global_named, func_named}
use Rattle.c_lang.specs.declared.program.GlobalVar.{GlobalVar}
use Rattle.c_lang.specs.declared.program.Func.{Func}
use Rattle.c_types.specs.Names.{Means, Entries, found}
use Rattle.c_types.specs.Functions.{means_of_func}
use Rattle.c_types.specs.Programs.{means_of_shape, with_global, with_globals, with_func, with_funcs, outside_of}
use Rattle.merged_program.proofs.MergedNames.{bytes_eq-sym}
use Rattle.merged_program.proofs.Lookups.{or_none}
use Rattle.merged_program.proofs.AddedNames.{found_added}

abbrev pub means_of_global : GlobalVar → Means
means_of_global g = means_of_shape g.shape

or_first : {X Y : Type 0} (o : Option Y) (make : X → Y) (x : X) (p : Option X) (b : Bool) (y : Y) → make x ≡ y
    → option_or (option_or o (cond b (Some y) None)) (option_map make p) ≡ option_or o (option_map make (if b then Some x else p))
or_first (Some z) make x p b y e = refl
or_first None make x p true y e = ap Some (sym e)
or_first None make x p false y e = refl

pub found_globals : (es : Entries) (gs : List GlobalVar) (x : Bytes) → found (with_globals es gs) x ≡ option_or (found es x) (option_map means_of_global (global_named gs x))
found_globals es [] x = sym (or_none (found es x))
found_globals es (g ∷ gs) x =
    found_globals (with_global es g) gs x
    ∙ ap (λ (o : Option Means). option_or o (option_map means_of_global (global_named gs x)))
    (found_added es x g.name (means_of_global g) ∙ ap (λ (b : Bool). option_or (found es x) (cond b (Some (means_of_global g)) None)) (bytes_eq-sym x g.name))
    ∙ or_first (found es x) means_of_global g (global_named gs x) (bytes_eq g.name x) (means_of_global g) refl

pub found_funcs : (es : Entries) (fs : List Func) (x : Bytes) → found (with_funcs es fs) x ≡ option_or (found es x) (option_map means_of_func (func_named fs x))
found_funcs es [] x = sym (or_none (found es x))
found_funcs es (f ∷ fs) x =
    found_funcs (with_func es f) fs x
    ∙ ap (λ (o : Option Means). option_or o (option_map means_of_func (func_named fs x)))
    (found_added es x f.name (means_of_func f) ∙ ap (λ (b : Bool). option_or (found es x) (cond b (Some (means_of_func f)) None)) (bytes_eq-sym x f.name))
    ∙ or_first (found es x) means_of_func f (func_named fs x) (bytes_eq f.name x) (means_of_func f) refl

-- a global or a function with this name
abbrev pub either_means : Option GlobalVar → Option Func → Option Means
either_means g f = option_or (option_map means_of_global g) (option_map means_of_func f)

pub found_outside : (gs : List GlobalVar) (fs : List Func) (x : Bytes) → found (outside_of gs fs) x ≡ either_means (global_named gs x) (func_named fs x)
found_outside gs fs x =
    found_funcs (with_globals [] gs) fs x
    ∙ ap (λ (o : Option Means). option_or o (option_map means_of_func (func_named fs x))) (found_globals [] gs x)
