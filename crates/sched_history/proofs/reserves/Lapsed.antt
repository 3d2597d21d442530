-- What a MAP meets of the Reserves, what lapses with it and what is left are all that there were.
use Rattle.std.proofs.Common.{◌≡◌, ℕ, ◌+◌, Bool, true, false, if◌then◌else◌, cond, List, [], ◌∷◌, ◌++◌}
use Rattle.std.proofs.Common.{length, count_by, sum_by, nat_lt, refl, ap, arith}
use Rattle.std.proofs.lemmas.Bool.{cond_both}
use Rattle.std.proofs.lemmas.Bool.Decides.{nat_tests}
use Rattle.std.proofs.lemmas.List.Sums.{sum_by-cons}
use Rattle.minislots.specs.declared.config.Config.{Config}
use Rattle.map_build.specs.EachAfter.{EachAfter}
use Rattle.map_build.specs.declared.met.Met.{Met}
use Rattle.map_build.specs.Reading.{meets_place, IsMetBehind}
use Rattle.periodic.specs.declared.placement.Spot.{Spot}
use Rattle.sched_calls.specs.declared.frame_map.FrameMap.{FrameMap}
use Rattle.sched_calls.specs.declared.reply.Reply.TheVariants as replies
use Rattle.sched_calls.specs.declared.reply.Entry.{Entry}
use Rattle.sched_history.specs.declared.scheduler.reserves.Reserve.{Reserve}
use Rattle.sched_history.specs.Ranging.{reserves_met}
use Rattle.sched_history.specs.Reserves.{last_map, older, aged, is_last, left_by, waiting_in, spots_after, met_by}
use Rattle.sched_history.specs.Reserves.{reserves_of, met_after, lapses_by}
use Rattle.sched_history.specs.Settling.{settles_after}
use Rattle.sched_history.proofs.reserves.Places.{AsksAt, waiting-asks}
use Rattle.sched_history.proofs.reserves.ReservesAfter.{reserves_of-built}
use Rattle.sched_history.proofs.reserves.Sums.{met_by-each, met-cons, sum-met}

-- as many are left as there were, but for those that lapse
length-aged : (rs : List Reserve) → length rs ≡ length (aged rs) + count_by is_last rs
length-aged [] = refl
length-aged (r ∷ rs) =
    let more = sum_by-cons (λ (x : Reserve). cond {A = ℕ} (is_last x) 1 0) r rs in
    cond_both (nat_lt (r.maps + 1) last_map) (older r ∷ aged rs) (aged rs)
    (λ left. length (r ∷ rs) ≡ length left + count_by is_last (r ∷ rs))
    (λ young.
    let last : is_last r ≡ false = grind (arith, nat_tests) in
    omega (arith, length-aged rs, more, ap (λ b. cond {A = ℕ} b 1 0) last))
    (λ old.
    let last : is_last r ≡ true = grind (arith, nat_tests) in
    omega (arith, length-aged rs, more, ap (λ b. cond {A = ℕ} b 1 0) last))

-- each that is met is a Reserve
length-met : (c : Config) (spots : List Spot) (rs : List Reserve) (before met : List Met)
    → EachAfter (IsMetBehind c spots (waiting_in rs)) before met → length (reserves_met met rs) ≡ length met
length-met c spots rs before [] each = refl
length-met c spots rs before (x ∷ met) each =
    let at : AsksAt rs x.place each.0.opportunity = waiting-asks rs x.place each.0.opportunity each.0.waits in
    omega (
      arith,
      ap (λ (all : List Reserve). length all) (met-cons rs x met at.reserve at.stands),
      length-met c spots rs (before ++ x ∷ []) met each.1,
    )

length-sum : (rs : List Reserve) → length rs ≡ sum_by (λ r. 1) rs
length-sum [] = refl
length-sum (r ∷ rs) = omega (arith, length-sum rs, sum_by-cons (λ (x : Reserve). 1) r rs)

module _ (c : Config) (h : List Entry) (m : FrameMap) where
  abbrev there : List Reserve
  there = reserves_of c h

  abbrev met : List Met
  met = met_by c h there m.wire.elements

  abbrev unmet : List Reserve
  unmet = left_by (meets_place met) there

  abbrev lapses : ℕ
  lapses = count_by is_last unmet

  kept-or-met : length there ≡ length unmet + length met
  kept-or-met = omega (
    arith,
    length-sum there,
    length-sum unmet,
    length-sum (reserves_met met there),
    sum-met (λ r. 1) c h there m.wire.elements,
    length-met c (spots_after c h) there [] met (met_by-each c h there m.wire.elements),
  )

  nothing-met : settles_after c h ≡ true → length met ≡ 0
  nothing-met settles = rw settles refl

  all-there : (b : Bool) → settles_after c h ≡ b
      → length there ≡ length (if b then there else aged unmet) + length met + (if b then 0 else lapses)
  all-there true settles = omega (arith, nothing-met settles)
  all-there false settles = omega (arith, kept-or-met, length-aged unmet)

  -- those that wait before a MAP are left behind it, met by it, or lapse with it
  pub reserves-built : (e : Entry) → e.reply ≡ replies.Built m
      → length (reserves_of c h)
      ≡ length (reserves_of c (h ++ e ∷ [])) + length (met_after c h (replies.Built m)) + lapses_by c h (replies.Built m)
  reserves-built e is = omega (
    arith,
    all-there (settles_after c h) refl,
    ap (λ (rs : List Reserve). length rs) (reserves_of-built c h e m is),
  )
