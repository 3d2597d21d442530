-- The batches of worked examples.
use Rattle.std.proofs.Common.{ℕ, None}
use Rattle.flow_book.specs.declared.batches.Batches.{Batches}

-- those of a flow that requested so many bytes once, which was heard at this minislot
abbrev pub one_request : ℕ → ℕ → Batches
one_request bytes heard = record { end = bytes; first = heard; second = None }
