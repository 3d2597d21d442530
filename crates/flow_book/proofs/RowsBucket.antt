-- Worked examples of a token bucket: minislots of 4 ticks, 64000 bits in a second, bursts of 1600 bytes.
use Rattle.std.proofs.Common.{◌≡◌, ℕ, zero, suc, ◌+◌, ◌-◌, ◌*◌, ◌<◌, ◌≤◌, drop, List, [], ◌∷◌, refl, lit<, lit≤, arith}
use Rattle.flow_book.specs.Flows.{Charge, charges_of, tokens_of}
use Rattle.flow_book.specs.Ceiling.{start_of}
use Rattle.flow_book.specs.Bucket.{BucketView, level_of, IsLevel, most_of}
use Rattle.sched_calls.proofs.Base.{base}
use Rattle.flow_book.proofs.RowsCeiling.{grant}

-- the bucket that had so much at a minislot
abbrev bucket : ℕ → ℕ → BucketView
bucket level since = record { per_slot = 256000; full = 2048000000; level = level; since = since }

-- a full bucket has the burst at 844, and 1361920000 at 884 where it gave 544 bytes
pub a_full_bucket_has_the_burst : (level_of (bucket 2048000000 0) 844 ≡ 2048000000)
    × (level_of (bucket (2048000000 - 1280000 * 544) 844) 884 ≡ 1361920000)
a_full_bucket_has_the_burst = (refl, refl)

-- where it gave 544 bytes again it has 675840000 at 924: 528 bytes, of which it has no more
pub two_grants_leave_528_bytes : (level_of (bucket (1361920000 - 1280000 * 544) 884) 924 ≡ 675840000)
    × (most_of (bucket (1361920000 - 1280000 * 544) 884) 924 1000 ≡ 528)
two_grants_leave_528_bytes = (refl, refl)

-- after these it is empty, and in 40 minislots the rate brings 8 bytes
pub the_rate_brings_eight_bytes : (level_of (bucket 0 924) 924 ≡ 0) × (level_of (bucket 0 924) 964 ≡ 10240000)
the_rate_brings_eight_bytes = (refl, refl)

-- what the grants charge after which it has 675840000 at 924
abbrev two : List Charge
two = charges_of (grant 844 544 ∷ grant 884 544 ∷ [])

-- each window of them leaves so much
two_leave : (i : ℕ) → i < 2 → tokens_of (drop i two) + 675840000 + start_of two i * 4 * 64000
    ≤ 924 * 4 * 64000 + 1280000 * 1600
two_leave zero lt = lit≤ tt
two_leave (suc zero) lt = lit≤ tt
two_leave (suc (suc i)) lt = absurd (omega arith)

-- and the window of both leaves no more
pub the_window_of_both_leaves_the_least : IsLevel base 64000 1600 two 924 675840000
the_window_of_both_leaves_the_least = record {
  left = record { empty = lit≤ tt; each = two_leave };
  greatest = λ more leave. let both = leave.each 0 (lit< tt) in omega arith;
}

-- in the first frame the empty window leaves the least: the burst
pub the_empty_window_leaves_the_burst : IsLevel base 64000 1600 [] 844 2048000000
the_empty_window_leaves_the_burst = record {
  left = record { empty = lit≤ tt; each = λ i lt. absurd (omega arith) };
  greatest = λ more leave. leave.empty;
}
