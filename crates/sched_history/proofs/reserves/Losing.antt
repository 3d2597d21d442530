-- No Reserve is met twice or lost before its time, and none waits after it.
use Rattle.std.proofs.Common.{◌≡◌, ℕ, ◌+◌, ◌<◌, ◌≤◌, Bool, true, false, not, if◌then◌else◌, List, [], ◌∷◌, ◌++◌, drop}
use Rattle.std.proofs.Common.{take, sum_by, count_by, refl, ap, append_assoc, arith}
use Rattle.std.specs.List.{AllByRecursion}
use Rattle.std.proofs.lemmas.List.{take-append-drop, append-nil}
use Rattle.std.proofs.lemmas.List.Sums.{sum_by-append, sum_by_push}
use Rattle.minislots.specs.declared.config.Config.{Config}
use Rattle.map_codec.specs.declared.element.Element.{Element}
use Rattle.map_build.specs.declared.met.Met.{Met}
use Rattle.map_build.specs.Reading.{meets_place, met_in}
use Rattle.sched_calls.specs.declared.opportunity.Opportunity.{Opportunity}
use Rattle.sched_history.specs.declared.scheduler.reserves.Reserve.{Reserve}
use Rattle.sched_calls.specs.declared.call.Call.{Call}
use Rattle.sched_calls.specs.declared.call.Call.TheVariants as calls
use Rattle.sched_calls.specs.declared.reply.Reply.{Reply}
use Rattle.sched_calls.specs.declared.reply.Reply.TheVariants as replies
use Rattle.sched_calls.specs.declared.reply.Entry.{Entry}
use Rattle.sched_history.specs.Settling.{settles_after}
use Rattle.sched_history.specs.Reserves.{last_map, reserve_by, asked_for, aged, left_by, met_by, reserves_behind}
use Rattle.sched_history.specs.Reserves.{reserves_by, reserves_with, reserves_then, reserves_of, ages_by, ages_in}
use Rattle.sched_history.specs.Reserves.{new_reserve, spots_after, waiting_in}
use Rattle.sched_history.specs.Ranging.{reserved_in, reserves_met, offers_by, offers_after, MeetsOnce, LosesNone}
use Rattle.sched_history.specs.Ranging.{LapsesInTime}
use Rattle.sched_history.proofs.reserves.Counting.{one, count_offer, count-cons_option, young, alike, count-asked}
use Rattle.sched_history.proofs.reserves.Counting.{young-aged, young-push, young-new, young-least, young-most, young-now}
use Rattle.sched_history.proofs.reserves.Counting.{young-later, alike-aged}
use Rattle.sched_history.proofs.reserves.ReservesAfter.{reserves_of-push}
use Rattle.sched_history.proofs.reserves.Sums.{sum-met}

module _ (kind : Opportunity → Bool) where
  young-at : (rs : List Reserve) (m n : ℕ) → m ≡ n → sum_by (young kind m) rs ≡ sum_by (young kind n) rs
  young-at rs m n same = ap (λ k. sum_by (young kind k) rs) same

  -- what a MAP that settles or not leaves of the Reserves
  abbrev behind : Bool → List Met → List Reserve → List Reserve
  behind settles met rs = if settles then rs else aged (left_by (meets_place met) rs)

  -- what a MAP meets and what it leaves is all that there was
  abbrev IsAll : (Reserve → ℕ) → List Met → List Reserve → Type 0
  IsAll f met rs = sum_by f rs ≡ sum_by f (left_by (meets_place met) rs) + sum_by f (reserves_met met rs)

  -- what was young a MAP before is met by a MAP, or stays young
  kept-map : (settles : Bool) (more : ℕ) (met : List Met) (rs : List Reserve) → IsAll (young kind (more + 1)) met rs
      → sum_by (young kind (one (not settles) + more)) rs
      ≤ sum_by (alike kind) (reserves_met met rs) + sum_by (young kind more) (behind settles met rs)
  kept-map true more met rs all = omega (arith, young-at rs (0 + more) more (omega arith))
  kept-map false more met rs all = omega (
    arith,
    all,
    young-at rs (1 + more) (more + 1) (omega arith),
    young-aged kind more (left_by (meets_place met) rs),
    young-most kind (more + 1) (reserves_met met rs),
  )

  -- what is young after it was young a MAP before
  least-map : (settles : Bool) (more : ℕ) (met : List Met) (rs : List Reserve) → IsAll (young kind (more + 1)) met rs
      → sum_by (young kind more) (behind settles met rs) ≤ sum_by (young kind (one (not settles) + more)) rs
  least-map true more met rs all = omega (arith, young-at rs (0 + more) more (omega arith))
  least-map false more met rs all = omega (
    arith,
    all,
    young-at rs (1 + more) (more + 1) (omega arith),
    young-aged kind more (left_by (meets_place met) rs),
  )

  -- with what a MAP meets no more are left than there were
  once-map : (settles : Bool) (met : List Met) (rs : List Reserve) → IsAll (alike kind) met rs
      → (settles ≡ true → met ≡ [])
      → sum_by (alike kind) (reserves_met met rs) + sum_by (alike kind) (behind settles met rs) ≤ sum_by (alike kind) rs
  once-map true met rs all none = rw (none refl) (omega arith)
  once-map false met rs all none = omega (arith, all, alike-aged kind (left_by (meets_place met) rs))

settled-none : (settles : Bool) (met : List Met) → settles ≡ true → (if settles then [] else met) ≡ []
settled-none true met is = refl
settled-none false met is = absurd (cc)

module _ (c : Config) (kind : Opportunity → Bool) (h : List Entry) where
  -- the Reserves before an entry
  abbrev rs : List Reserve
  rs = reserves_of c h

  module _ (more : ℕ) where
    kept-built : (es : List Element) → sum_by (young kind (one (not (settles_after c h)) + more)) rs
        ≤ count_by kind (asked_for (reserves_met (met_by c h rs es) rs))
        + sum_by (young kind more) (reserves_behind c h es rs)
    kept-built es = omega (
      arith,
      count-asked kind (reserves_met (met_by c h rs es) rs),
      kept-map kind (settles_after c h) more (met_by c h rs es) rs (sum-met (young kind (more + 1)) c h rs es),
    )

    -- what an entry asks for and what was young a MAP before are met by it, or stay young
    kept-entry : (call : Call) (reply : Reply) → more < last_map
        → count_offer kind (reserve_by call reply) + sum_by (young kind (one (ages_by c h reply) + more)) rs
        ≤ count_by kind (offers_by c h reply)
        + sum_by (young kind more) (reserves_with (reserve_by call reply) (reserves_by c h reply rs))
    kept-entry (calls.Reserve usage slots) replies.Reserved few = omega (
      arith,
      young-at kind rs (0 + more) more (omega arith),
      young-push kind (record { usage = usage; slots = slots }) more rs,
      young-new kind (record { usage = usage; slots = slots }) more few,
    )
    kept-entry (calls.Reserve usage slots) (replies.Built m) few = omega (arith, kept-built m.wire.elements)
    kept-entry call (replies.Built m) few = omega (arith, kept-built m.wire.elements)
    kept-entry call reply few = omega (arith, young-at kind rs (0 + more) more (omega arith))

    least-built : (es : List Element) → sum_by (young kind more) (reserves_behind c h es rs)
        ≤ sum_by (young kind (one (not (settles_after c h)) + more)) rs
    least-built es =
        least-map kind (settles_after c h) more (met_by c h rs es) rs (sum-met (young kind (more + 1)) c h rs es)

    -- and what is young after it was young a MAP before, or was asked for by it
    least-entry : (call : Call) (reply : Reply)
        → sum_by (young kind more) (reserves_with (reserve_by call reply) (reserves_by c h reply rs))
        ≤ count_offer kind (reserve_by call reply) + sum_by (young kind (one (ages_by c h reply) + more)) rs
    least-entry (calls.Reserve usage slots) replies.Reserved = omega (
      arith,
      young-at kind rs (0 + more) more (omega arith),
      young-push kind (record { usage = usage; slots = slots }) more rs,
      young-least kind (record { usage = usage; slots = slots }) more,
    )
    least-entry (calls.Reserve usage slots) (replies.Built m) = omega (arith, least-built m.wire.elements)
    least-entry call (replies.Built m) = omega (arith, least-built m.wire.elements)
    least-entry call reply = omega (arith, young-at kind rs (0 + more) more (omega arith))

  once-built : (es : List Element) → count_by kind (asked_for (reserves_met (met_by c h rs es) rs))
      + sum_by (alike kind) (reserves_behind c h es rs) ≤ sum_by (alike kind) rs
  once-built es = omega (
    arith,
    count-asked kind (reserves_met (met_by c h rs es) rs),
    once-map kind (settles_after c h) (met_by c h rs es) rs (sum-met (alike kind) c h rs es)
        (settled-none (settles_after c h) (met_in c (spots_after c h) (waiting_in rs) es)),
  )

  -- what an entry meets and what waits after it waited before, or was asked for by it
  once-entry : (call : Call) (reply : Reply) → count_by kind (offers_by c h reply)
      + sum_by (alike kind) (reserves_with (reserve_by call reply) (reserves_by c h reply rs))
      ≤ sum_by (alike kind) rs + count_offer kind (reserve_by call reply)
  once-entry (calls.Reserve usage slots) replies.Reserved =
      omega (arith, sum_by_push (alike kind) rs (new_reserve (record { usage = usage; slots = slots })))
  once-entry (calls.Reserve usage slots) (replies.Built m) = omega (arith, once-built m.wire.elements)
  once-entry call (replies.Built m) = omega (arith, once-built m.wire.elements)
  once-entry call reply = omega arith

module _ (c : Config) (kind : Opportunity → Bool) where
  -- the Reserves after more entries
  young-then : (n : ℕ) (before : List Entry) (e : Entry) → sum_by (young kind n) (reserves_of c (before ++ e ∷ []))
      ≡ sum_by (young kind n) (reserves_then c before e (reserves_of c before))
  young-then n before e = ap (sum_by (young kind n)) (reserves_of-push c before e)

  alike-then : (before : List Entry) (e : Entry) → sum_by (alike kind) (reserves_of c (before ++ e ∷ []))
      ≡ sum_by (alike kind) (reserves_then c before e (reserves_of c before))
  alike-then before e = ap (sum_by (alike kind)) (reserves_of-push c before e)

  -- what was asked for in some entries with few MAPs, or was young before them, was met in them or waits
  kept-entries : (before es : List Entry) → ages_in c before es < last_map
      → count_by kind (reserved_in es) + sum_by (young kind (ages_in c before es)) (reserves_of c before)
      ≤ count_by kind (offers_after c before es) + sum_by (alike kind) (reserves_of c (before ++ es))
  kept-entries before [] few = rw append-nil (omega (arith, young-most kind 0 (reserves_of c before)))
  kept-entries before (e ∷ es) few = omega (
    arith,
    kept-entry c kind before (ages_in c (before ++ e ∷ []) es) e.call e.reply (omega (arith, few)),
    young-then (ages_in c (before ++ e ∷ []) es) before e,
    kept-entries (before ++ e ∷ []) es (omega (arith, few)),
    count-cons_option kind (reserve_by e.call e.reply) (reserved_in es),
    sum_by-append (λ (o : Opportunity). one (kind o)) (offers_by c before e.reply)
        (offers_after c (before ++ e ∷ []) es),
    ap (λ all. sum_by (alike kind) (reserves_of c all)) (append_assoc before (e ∷ []) es),
  )

  -- what waits after some entries was asked for in them, or was young before them
  least-entries : (before es : List Entry) → sum_by (young kind 0) (reserves_of c (before ++ es))
      ≤ count_by kind (reserved_in es) + sum_by (young kind (ages_in c before es)) (reserves_of c before)
  least-entries before [] = rw append-nil (omega arith)
  least-entries before (e ∷ es) = omega (
    arith,
    least-entry c kind before (ages_in c (before ++ e ∷ []) es) e.call e.reply,
    young-then (ages_in c (before ++ e ∷ []) es) before e,
    least-entries (before ++ e ∷ []) es,
    count-cons_option kind (reserve_by e.call e.reply) (reserved_in es),
    ap (λ all. sum_by (young kind 0) (reserves_of c all)) (append_assoc before (e ∷ []) es),
  )

  -- what was met in some entries, and waits after them, waited before them or was asked for in them
  once-entries : (before es : List Entry)
      → count_by kind (offers_after c before es) + sum_by (alike kind) (reserves_of c (before ++ es))
      ≤ sum_by (alike kind) (reserves_of c before) + count_by kind (reserved_in es)
  once-entries before [] = rw append-nil (omega arith)
  once-entries before (e ∷ es) = omega (
    arith,
    once-entry c kind before e.call e.reply,
    alike-then before e,
    once-entries (before ++ e ∷ []) es,
    count-cons_option kind (reserve_by e.call e.reply) (reserved_in es),
    sum_by-append (λ (o : Opportunity). one (kind o)) (offers_by c before e.reply)
        (offers_after c (before ++ e ∷ []) es),
    ap (λ all. sum_by (alike kind) (reserves_of c all)) (append_assoc before (e ∷ []) es),
  )

  parts : (h : List Entry) (n : ℕ) (f : Reserve → ℕ)
      → sum_by f (reserves_of c (take n h ++ drop n h)) ≡ sum_by f (reserves_of c h)
  parts h n f = ap (λ all. sum_by f (reserves_of c all)) (take-append-drop n h)

module _ (c : Config) (h : List Entry) where
  -- each Reserve is met once
  pub MeetsOnce-any : MeetsOnce c h
  MeetsOnce-any = λ kind. omega (arith, once-entries c kind [] h, count-asked kind (reserves_of c h))

  -- none is lost before its time
  pub LosesNone-any : LosesNone c h
  LosesNone-any = λ n kind few. omega (
    arith,
    kept-entries c kind (take n h) (drop n h) few,
    parts c kind h n (alike kind),
    count-asked kind (reserves_of c h),
  )

  -- and none waits after it
  pub LapsesInTime-young : AllByRecursion (λ r. r.maps < last_map) (reserves_of c h) → LapsesInTime c h
  LapsesInTime-young young_all = λ n kind late. omega (
    arith,
    least-entries c kind (take n h) (drop n h),
    young-later kind (ages_in c (take n h) (drop n h)) (reserves_of c (take n h)) late,
    young-now kind (reserves_of c h) young_all,
    parts c kind h n (young kind 0),
    count-asked kind (reserves_of c h),
  )
