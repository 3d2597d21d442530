-- The bytes of which a MAP is the payload: its spelling, and no others.
use Rattle.std.proofs.Common.{◌≡◌, ℕ, cond, List, Option, Some, None, refl, ap, ◌∙◌, subst}
use Rattle.std.specs.Prelude.{is_none}
use Rattle.hex.specs.Hex.{IsBytes}
use Rattle.map_codec.specs.declared.wire_map.WireMap.{WireMap}
use Rattle.map_codec.specs.declared.fault.DecodeFault.{DecodeFault}
use Rattle.map_codec.specs.WireMap.{spelling, IsWellFormed, map_in}
use Rattle.map_codec.specs.DecodeFault.{fault_of}
use Rattle.map_codec.proofs.Payload.{map_in-spelling, fault_of-spelling, read_from_none}
use Rattle.history_reading.specs.Replies.{map_of}

-- the spelling of a MAP is read as that MAP
pub map_of-spelling : (m : WireMap) → IsWellFormed m → map_of (spelling m) ≡ Some m
unfolding map_of
map_of-spelling m formed = rw (fault_of-spelling m formed) (ap Some (map_in-spelling m formed))

-- bytes that are the spelling of a MAP are read as that MAP
pub map_of-payload : (bytes : List ℕ) (m : WireMap) → IsWellFormed m → bytes ≡ spelling m → map_of bytes ≡ Some m
map_of-payload bytes m formed is = ap map_of is ∙ map_of-spelling m formed

some_value : (m n : WireMap) → Some m ≡ Some n → m ≡ n
some_value m n e = cc

only_payload : (fault : Option DecodeFault) (bytes : List ℕ) (m : WireMap)
    → (fault ≡ None → IsWellFormed (map_in bytes) × (bytes ≡ spelling (map_in bytes)))
    → cond (is_none fault) (Some (map_in bytes)) None ≡ Some m → IsWellFormed m × (bytes ≡ spelling m)
only_payload None bytes m read is =
    subst (λ n. IsWellFormed n × (bytes ≡ spelling n)) (some_value (map_in bytes) m is) (read refl)
only_payload (Some fault) bytes m read is = cc is

-- bytes that are read as a MAP are its spelling
pub spelling-map_of : (bytes : List ℕ) (m : WireMap) → IsBytes bytes → map_of bytes ≡ Some m
    → IsWellFormed m × (bytes ≡ spelling m)
unfolding map_of
spelling-map_of bytes m fits is = only_payload (fault_of bytes) bytes m (read_from_none bytes fits) is
