use Rattle.std.proofs.Common.{◌≡◌, ◌||◌, drop}
use Rattle.c_lang.specs.Names.{Bytes}
use Rattle.state_xform.specs.Transformers.{is_filled}
use Rattle.state_xform.specs.Code.NameSets.{has}
use Rattle.state_xform.proofs.elements.element_names.Given as goal

abbrev pub invariant-loop-func : goal.invariant-loop-func
invariant-loop-func l = (x : Bytes) → (is_filled (drop l.func-index l.funcs) x || has l.names x) ≡ is_filled l.funcs x
