-- An end that does not come: it refuses a definition by which a fault might always come.
use Rattle.std.proofs.Common.{ℕ, ◌<◌, ◌^◌, List, slice_index}
use Rattle.map_codec.specs.declared.fault.DecodeFault.TheVariants as decoding
use Rattle.map_codec.specs.WireMap.{IsPayload}
use Rattle.map_codec.specs.DecodeFault.{IsFaultOf}
use Rattle.map_codec.proofs.Payload.{exact}

-- memory is no fault of bytes that are no payload
pub no_memory_for_no_payload : (bytes : List ℕ) → ((i : ℕ) → slice_index bytes i < 2 ^ 8) → (IsPayload bytes → ⊥)
    → IsFaultOf bytes decoding.Memory → ⊥
no_memory_for_no_payload bytes fits none fault = none ((exact bytes fits).0 fault)
