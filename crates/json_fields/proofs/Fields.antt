-- Fields that are read one after the other.
use Rattle.std.proofs.Common.{◌≡◌, Option, Some}
use Rattle.json_fields.specs.Fields.{◌>>=◌}

-- a field that is there, and what is made of it
pub then : {A B : Type 0} {m : Option A} {x : A} (f : A → Option B) {r : Option B}
    → Some x ≡ m → f x ≡ r → (m >>= f) ≡ r
then f e h = rw (← e) h
