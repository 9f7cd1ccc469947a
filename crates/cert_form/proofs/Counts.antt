-- Lists of another length than one or two.
use Rattle.std.proofs.Common.{◌≡◌, ◌<◌, ◌≤◌, List, [], ◌∷◌, None, length, refl, arith}
use Rattle.serde_json.specs.View.{items_view}
use Rattle.serde_json.specs.declared.value.Value.{Value}
use Rattle.cert_form.specs.Code.Reading.{single, double}

pub single-short : (args : List Value) → length args < 1 → None ≡ single (items_view args)
single-short [] h = refl
single-short (a ∷ rest) h = absurd (omega arith)

pub single-long : (args : List Value) → 2 ≤ length args → None ≡ single (items_view args)
single-long [] h = absurd (omega arith)
single-long (a ∷ []) h = absurd (omega arith)
single-long (a ∷ b ∷ rest) h = refl

pub double-short : (args : List Value) → length args < 2 → None ≡ double (items_view args)
double-short [] h = refl
double-short (a ∷ []) h = refl
double-short (a ∷ b ∷ rest) h = absurd (omega arith)

pub double-long : (args : List Value) → 3 ≤ length args → None ≡ double (items_view args)
double-long [] h = absurd (omega arith)
double-long (a ∷ []) h = absurd (omega arith)
double-long (a ∷ b ∷ []) h = absurd (omega arith)
double-long (a ∷ b ∷ c ∷ rest) h = refl

pub ruleset counts = (single-short, single-long, double-short, double-long)
