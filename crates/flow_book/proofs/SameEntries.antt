-- What is kept of a flow beside its grants is decided by what it shows.
use Rattle.std.proofs.Common.{◌≡◌, refl, sym, ap, ◌∙◌, subst, ℕ, zero, suc, ◌<◌, List, [], ◌∷◌, map, filter}
use Rattle.std.proofs.Common.{◌==◌, ◌&&◌, Bool, cond, slice_get, Option, Some, None, option_map, arith}
use Rattle.std.specs.List.{AllByRecursion}
use Rattle.minislots.specs.declared.config.Config.{Config}
use Rattle.sched_calls.specs.FlowSpec.{takes_requests, rate_of, burst_of, peak_of, reserved_of, reserved_burst_of}
use Rattle.sched_calls.specs.declared.spec.TheConstants.{PEAK_BURST}
use Rattle.flow_book.specs.declared.flow.Flow.{Flow}
use Rattle.flow_book.specs.declared.waiting.Waiting.{Waiting}
use Rattle.flow_book.specs.Flows.{LiveFlow, outstanding}
use Rattle.flow_book.specs.Limits.{AreLimitsOf, AreSettled}
use Rattle.flow_book.specs.declared.limits.Limits.{Limits}
use Rattle.flow_book.specs.Bucket.{BucketView}
use Rattle.flow_book.specs.Choice.{last_start}
use Rattle.flow_book.specs.Tiers.{closed, queue_limits}
use Rattle.flow_book.specs.Entry.{live, is_plain, top_rank, IsBook, IsTurn, KeepsSums}
use Rattle.flow_book.specs.Queue.{entry_of, IsAt, IsIn, IsQueue, IsQueueAmong, IsQueueIn, still_waits}
use Rattle.flow_book.proofs.Buckets.{same-bucket}
use Rattle.flow_book.proofs.Queues.{same-some}
use Rattle.flow_book.proofs.ByTier.{same-limits}

same-turn-of : (r : ℕ) (a : Option ℕ) (x t u : ℕ) → IsTurn r a x t → IsTurn r a x u → t ≡ u
same-turn-of r None x t u e f = omega (arith, e.1, f.1)
same-turn-of r (Some m) x t u e f = omega (arith, e.2, f.2)

-- what a flow shows decides what its ceilings leave
limits-decided : (c : Config) (f : LiveFlow) (x y : Limits) → AreLimitsOf c f x → AreLimitsOf c f y → AreSettled f x
    → AreSettled f y → x ≡ y
limits-decided c f x y are are' is is' =
    same-limits x y
    (same-bucket c (rate_of f.spec) (burst_of f.spec) x.sustained y.sustained f.sustained are.sustained are'.sustained
    is.sustained is'.sustained)
    (same-bucket c (peak_of f.spec) PEAK_BURST x.peak y.peak f.peak are.peak are'.peak is.peak is'.peak)
    (same-bucket c (reserved_of f.spec) (reserved_burst_of f.spec) x.reserved y.reserved f.reserved
    are.reserved are'.reserved is.reserved is'.reserved)

-- flows that show the same and keep their sums have the same entry
same-entry : (c : Config) (f g : Flow) → KeepsSums c f → KeepsSums c g → live f ≡ live g → entry_of f ≡ entry_of g
same-entry c f g keeps keeps' same =
    let spec : f.spec ≡ g.spec = ap (λ (h : LiveFlow). h.spec) same in
    let sid : f.sid ≡ g.sid = ap (λ (h : LiveFlow). h.sid) same in
    let grants : f.grants.items ≡ g.grants.items = ap (λ (h : LiveFlow). h.grants) same in
    let turn : f.turn ≡ g.turn =
    same-turn-of (top_rank f.spec) (last_start f.grants.items) f.sid f.turn g.turn keeps.turn.1
    (rw (spec, grants, sid) keeps'.turn.1) in
    let limits : f.limits ≡ g.limits =
    limits-decided c (live f) f.limits g.limits keeps.limits (rw same keeps'.limits) keeps.settled (rw same keeps'.settled) in
    let wants : outstanding (live f) ≡ outstanding (live g) = ap outstanding same in
    ap (λ n. (n, outstanding (live f), (queue_limits f).sustained, is_plain f)) turn
    ∙ ap (λ n. (g.turn, n, (queue_limits f).sustained, is_plain f)) wants
    ∙ ap (λ (l : Limits). (
      g.turn,
      outstanding (live g),
      cond (takes_requests f.spec) l.sustained closed,
      l.peak.per_slot == 0 && l.reserved.per_slot == 0,
    )) limits
    ∙ ap (λ s. (g.turn, outstanding (live g), cond (takes_requests s) g.limits.sustained closed, is_plain g)) spec

same-head : {X : Type 0} (x y : X) (xs ys : List X) → x ∷ xs ≡ y ∷ ys → x ≡ y
same-head x y xs ys same = cc

same-rest : {X : Type 0} (x y : X) (xs ys : List X) → x ∷ xs ≡ y ∷ ys → xs ≡ ys
same-rest x y xs ys same = cc

each-same : (new items : List Flow)
    → ((k : ℕ) → option_map entry_of (slice_get new k) ≡ option_map entry_of (slice_get items k))
    → (queue : List Waiting) → AllByRecursion (IsAt items) queue → AllByRecursion (IsAt new) queue
each-same new items same [] all = tt
each-same new items same (w ∷ queue) all = (same w.place ∙ all.0, each-same new items same queue all.1)

there-of : (o : Option Flow) (f : Flow) → option_map entry_of o ≡ Some (entry_of f)
    → (g : Flow) × (o ≡ Some g) × (outstanding (live f) ≡ outstanding (live g))
there-of None f is = absurd (cc)
there-of (Some g) f is =
    let e : entry_of g ≡ entry_of f = same-some (entry_of g) (entry_of f) is in
    (g, refl, sym (ap (λ (t : ℕ × ℕ × BucketView × Bool). t.1) e))

-- where there is a flow in the one there is one in the other, which waits for as much
there-too : (new items : List Flow) (place : ℕ) (f : Flow)
    → ((k : ℕ) → option_map entry_of (slice_get new k) ≡ option_map entry_of (slice_get items k))
    → slice_get new place ≡ Some f
    → (g : Flow) × (slice_get items place ≡ Some g) × (outstanding (live f) ≡ outstanding (live g))
there-too new items place f same found =
    there-of (slice_get items place) f (sym (same place) ∙ ap (option_map entry_of) found)

-- at each place books that show the same have the same entry
same-entries : (c : Config) (new items : List Flow) → AllByRecursion (KeepsSums c) new
    → AllByRecursion (KeepsSums c) items → map live new ≡ map live items → (k : ℕ)
    → option_map entry_of (slice_get new k) ≡ option_map entry_of (slice_get items k)
same-entries c [] [] all all' shows k = refl
same-entries c [] (g ∷ items) all all' shows k = absurd (cc)
same-entries c (f ∷ new) [] all all' shows k = absurd (cc)
same-entries c (f ∷ new) (g ∷ items) all all' shows zero =
    ap Some (same-entry c f g all.0 all'.0 (same-head (live f) (live g) (map live new) (map live items) shows))
same-entries c (f ∷ new) (g ∷ items) all all' shows (suc k) =
    same-entries c new items all.1 all'.1 (same-rest (live f) (live g) (map live new) (map live items) shows) k

-- so a queue of some flows of the one is one of the other
same-among : (c : Config) (new items : List Flow) (some : ℕ → Type 0) (queue : List Waiting) → IsBook c new
    → IsBook c items → map live new ≡ map live items → IsQueueAmong items some queue → IsQueueAmong new some queue
same-among c new items some queue book book' shows is =
    let same = same-entries c new items book.sums book'.sums shows in
    record {
      ascending = is.ascending;
      each = each-same new items same queue is.each;
      among = is.among;
      whole = λ place f found may waits.
          let g = there-too new items place f same found in
          is.whole place g.0 g.1 may (subst (λ n. 0 < n) g.2 waits);
    }

-- and so are the two parts
pub same-parts : (c : Config) (new items : List Flow) (queue served : List Waiting) → IsBook c new → IsBook c items
    → map live new ≡ map live items → IsQueueIn items queue served → IsQueueIn new queue served
same-parts c new items queue served book book' shows is = record {
  served_ones = same-among c new items (λ place. IsIn place served) served book book' shows is.served_ones;
  others = same-among c new items (λ place. IsIn place served → ⊥)
      (filter still_waits queue) book book' shows is.others;
}

-- and a queue of one is a queue of the other
pub same-queue : (c : Config) (new items : List Flow) (queue : List Waiting) → IsBook c new → IsBook c items
    → map live new ≡ map live items → IsQueue items queue → IsQueue new queue
same-queue c new items queue book book' shows is =
    same-among c new items (λ place. Unit {0}) queue book book' shows is
