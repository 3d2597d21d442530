-- What flows are to have of a frame where some of them rest: no more than what they take.
use Rattle.std.proofs.Common.{◌≡◌, refl, ℕ, ◌%◌, ◌≤◌, Bool, true, false, List, [], ◌∷◌}
use Rattle.std.proofs.Common.{length, map, take, inl, inr, if◌then◌else◌, arith}
use Rattle.std.specs.List.{AllByRecursion}
use Rattle.std.proofs.lemmas.List.{length-append}
use Rattle.minislots.specs.declared.config.Config.{Config}
use Rattle.minislots.specs.Config.{IsLawful}
use Rattle.minislots.proofs.Bounds.{bounds_of}
use Rattle.periodic.specs.declared.placement.Spot.{Spot}
use Rattle.periodic.specs.Placement.{Placed, starts_in, spot_at, spots_of, spots_in, poll_at, due_of, due_in}
use Rattle.periodic.specs.Table.{IsSoundPlaced, IsWithinFrame, IsApart, AreApart}
use Rattle.periodic.proofs.Joined.{all-append, all-left, all-right, all-weaker}
use Rattle.periodic.proofs.Joined.{apart-append, apart-left, apart-right, apart-between}
use Rattle.periodic.proofs.Frames.{spots-within}

-- what is so of the polls of a flow that rests, and of what any other takes, is so of what the flow is to have
due-by : (c : Config) (f : Placed) (starts : List ℕ) (rests : Bool) (P : List Spot → Type 0)
    → (rests ≡ true → P (map (poll_at c f) (take 1 starts))) → (rests ≡ false → P (map (spot_at c f) starts))
    → P (map (λ start. if rests then poll_at c f start else spot_at c f start)
    (if rests then take 1 starts else starts))
due-by c f starts true P resting woken = resting refl
due-by c f starts false P resting woken = woken refl

-- the same of a frame
due-in-frame : (c : Config) (k : ℕ) (f : Placed) (P : List Spot → Type 0)
    → (f.rests ≡ true → P (map (poll_at c f) (take 1 (starts_in c f.spec f.placement (k % c.cycle)))))
    → (f.rests ≡ false → P (spots_of c k f)) → P (due_of c k f)
due-in-frame c k f P resting woken =
    due-by c f (starts_in c f.spec f.placement (k % c.cycle)) f.rests P resting woken

all-polls : (c : Config) (f : Placed) (P : Spot → Type 0) (starts : List ℕ)
    → ((start : ℕ) → P (spot_at c f start) → P (poll_at c f start)) → AllByRecursion P (map (spot_at c f) starts)
    → AllByRecursion P (map (poll_at c f) (take 1 starts))
all-polls c f P [] gives all = tt
all-polls c f P (s ∷ starts) gives all = (gives s all.0, tt)

polls-few : (c : Config) (f : Placed) (starts : List ℕ)
    → length (map (poll_at c f) (take 1 starts)) ≤ length (map (spot_at c f) starts)
polls-few c f [] = omega arith
polls-few c f (s ∷ starts) = omega arith

polls-apart : (c : Config) (f : Placed) (starts : List ℕ) → AreApart (map (poll_at c f) (take 1 starts))
polls-apart c f [] = tt
polls-apart c f (s ∷ starts) = (tt, tt)

-- a flow is to have no more spots than it takes
pub few-due : (c : Config) (k : ℕ) (f : Placed) → length (due_of c k f) ≤ length (spots_of c k f)
few-due c k f =
    due-in-frame c k f (λ ss. length ss ≤ length (spots_of c k f))
    (λ rests. polls-few c f (starts_in c f.spec f.placement (k % c.cycle))) (λ woken. omega arith)

-- nor are all
pub due-few : (c : Config) (k : ℕ) (placed : List Placed) → length (due_in c k placed) ≤ length (spots_in c k placed)
due-few c k [] = omega arith
due-few c k (f ∷ placed) =
    omega (
      arith,
      few-due c k f,
      due-few c k placed,
      length-append (due_of c k f) (due_in c k placed),
      length-append (spots_of c k f) (spots_in c k placed),
    )

-- it stays so of a sound flow's spot where it is cut to a poll
abbrev StaysFor : Config → (Spot → Type 0) → Type 0
StaysFor c P = (f : Placed) (start : ℕ) → IsSoundPlaced c f → f.rests ≡ true → P (spot_at c f start)
    → P (poll_at c f start)

-- what is so of each spot that a flow takes is so of what it is to have, where it stays so of a poll in its place
pub all-due-of : (c : Config) (k : ℕ) (P : Spot → Type 0) (f : Placed)
    → ((start : ℕ) → f.rests ≡ true → P (spot_at c f start) → P (poll_at c f start))
    → AllByRecursion P (spots_of c k f) → AllByRecursion P (due_of c k f)
all-due-of c k P f stays all =
    due-in-frame c k f (AllByRecursion P)
    (λ rests. all-polls c f P (starts_in c f.spec f.placement (k % c.cycle)) (λ start. stays start rests) all)
    (λ woken. all)

all-due : (c : Config) (k : ℕ) (P : Spot → Type 0) (placed : List Placed) → StaysFor c P
    → AllByRecursion (IsSoundPlaced c) placed → AllByRecursion P (spots_in c k placed)
    → AllByRecursion P (due_in c k placed)
all-due c k P [] stays sound all = tt
all-due c k P (f ∷ placed) stays sound all =
    all-append P (due_of c k f) (due_in c k placed)
    (all-due-of c k P f (λ start rests. stays f start sound.0 rests)
    (all-left P (spots_of c k f) (spots_in c k placed) all))
    (all-due c k P placed stays sound.1 (all-right P (spots_of c k f) (spots_in c k placed) all))

within-polled : (c : Config) → IsLawful c → StaysFor c (IsWithinFrame c)
within-polled c lawful f start sound rests within = record {
  sid_positive = within.sid_positive;
  sid_most = within.sid_most;
  after_requests = within.after_requests;
  not_empty = omega (arith, (bounds_of c lawful).poll_positive);
  within_frame = omega (arith, within.within_frame, sound.polled rests);
}

-- what sound flows are to have is within the frame
pub due-within : (c : Config) (k : ℕ) (placed : List Placed) → IsLawful c → AllByRecursion (IsSoundPlaced c) placed
    → AllByRecursion (IsWithinFrame c) (due_in c k placed)
due-within c k placed lawful sound =
    all-due c k (IsWithinFrame c) placed (within-polled c lawful) sound (spots-within c k placed lawful sound)

from-polled : (c : Config) (t : Spot) → StaysFor c (IsApart t)
from-polled c t f start sound rests (inl before) = inl before
from-polled c t f start sound rests (inr after) = inr (omega (arith, after, sound.polled rests))

to-polled : (c : Config) (t : Spot) → StaysFor c (λ s. IsApart s t)
to-polled c t f start sound rests (inl before) = inl (omega (arith, before, sound.polled rests))
to-polled c t f start sound rests (inr after) = inr after

all-polled : (c : Config) (ts : List Spot) → StaysFor c (λ s. AllByRecursion (IsApart s) ts)
all-polled c [] f start sound rests all = tt
all-polled c (t ∷ ts) f start sound rests all =
    (to-polled c t f start sound rests all.0, all-polled c ts f start sound rests all.1)

-- what sound flows are to have is apart where what they take is
pub due-apart : (c : Config) (k : ℕ) (placed : List Placed) → AllByRecursion (IsSoundPlaced c) placed
    → AreApart (spots_in c k placed) → AreApart (due_in c k placed)
due-apart c k [] sound apart = tt
due-apart c k (f ∷ placed) sound apart =
    let own = spots_of c k f in
    let rest = spots_in c k placed in
    let between : AllByRecursion (λ s. AllByRecursion (IsApart s) (due_in c k placed)) own =
    all-weaker (λ s. AllByRecursion (IsApart s) rest) (λ s. AllByRecursion (IsApart s) (due_in c k placed))
    (λ s all. all-due c k (IsApart s) placed (from-polled c s) sound.1 all) own (apart-between own rest apart) in
    apart-append (due_of c k f) (due_in c k placed)
    (due-in-frame c k f AreApart (λ rests. polls-apart c f (starts_in c f.spec f.placement (k % c.cycle)))
    (λ woken. apart-left own rest apart))
    (due-apart c k placed sound.1 (apart-right own rest apart))
    (all-due-of c k (λ s. AllByRecursion (IsApart s) (due_in c k placed)) f
    (λ start rests. all-polled c (due_in c k placed) f start sound.0 rests) between)
