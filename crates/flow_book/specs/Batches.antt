-- The requests of a flow that wait, in two batches.
use Rattle.std.specs.Prelude.{ℕ, ◌+◌, min, nat_le, ◌==◌, Bool, None, Some, unwrap_or, if◌then◌else◌}
use Rattle.flow_book.specs.declared.batches.Batches.{Batches}

-- those of a flow that has requested nothing
abbrev pub no_batches : Batches
no_batches = record { end = 0; first = 0; second = None }

-- all bytes asked up to the end of the first batch are granted, so that the second is the first
abbrev pub is_over : Batches → ℕ → Bool
is_over b granted = nat_le b.end granted

-- Those with a request of so many bytes more, which was heard at a minislot, of a flow that had asked and was granted
-- so many: where none of those asked was outstanding the request is the first batch alone, and else it joins the
-- second, which is the first from a MAP on that grants all bytes of the first
abbrev pub with_request : Batches → ℕ → ℕ → ℕ → ℕ → Batches
with_request b asked granted bytes heard =
    if asked == granted then record { end = asked + bytes; first = heard; second = None }
    else if is_over b granted then record { end = asked; first = unwrap_or b.second b.first; second = Some heard }
    else record { end = b.end; first = b.first; second = Some (min (unwrap_or b.second heard) heard) }

-- the least minislot in which a request of a batch was heard that is not over
abbrev pub since_of : Batches → ℕ → ℕ
since_of b granted =
    if is_over b granted then unwrap_or b.second b.first else min b.first (unwrap_or b.second b.first)
