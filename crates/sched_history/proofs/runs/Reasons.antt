-- Why a call was not recorded, whatever its answer would have been.
use Rattle.std.proofs.Common.{◌↔◌, Result, Ok, Err, ap}
use Rattle.std.specs.Prelude.{IsErrOf}

abbrev reason_in : {T E : Type 0} → E → Result T E → E
reason_in e (Ok x) = e
reason_in e (Err f) = f

-- it is the same
pub same_reason : {S T E : Type 0} (e f : E) → IsErrOf {T = S} (Err e) f → IsErrOf {T = T} (Err e) f
same_reason e f is = ap Err (ap (reason_in e) is)

-- and comes where it came
pub same_reasons : {S T E : Type 0} (e f : E) (P : Type 0) → (IsErrOf {T = S} (Err e) f ↔ P)
    → (IsErrOf {T = T} (Err e) f ↔ P)
same_reasons e f P both = ((λ is. both.0 (same_reason e f is)), (λ p. same_reason e f (both.1 p)))
