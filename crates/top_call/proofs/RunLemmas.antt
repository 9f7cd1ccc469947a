-- What a run gives no reply for.
use Rattle.std.proofs.Common.{◌≡◌, refl, ap, IsErrOf, Err}
use Rattle.plain_run.specs.declared.step.RunError.{RunError}
use Rattle.plain_run.specs.declared.step.RunError.TheVariants as error
use Rattle.top_call.specs.declared.stop.Stop.TheVariants.{Deep}
use Rattle.top_call.specs.Stops.{stop_of}

-- an error is the same beside another type of value
pub IsErrOf-other : {T U E : Type 0} (e x : E) → IsErrOf {T = T} (Err e) x → IsErrOf {T = U} (Err e) x
IsErrOf-other e x is = let same : e ≡ x = cc in ap Err same

pub deep-stop : {T U : Type 0} (e : RunError) → IsErrOf {T = T} (Err (stop_of e)) Deep → IsErrOf {T = U} (Err e) error.Deep
deep-stop error.NoMemory h = absurd cc
deep-stop error.Deep h = refl
