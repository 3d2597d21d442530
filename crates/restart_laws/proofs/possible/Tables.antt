-- The table of placements of every legal history is sound, and only unsolicited flows rest in it.
use Rattle.std.proofs.Common.{◌≡◌, refl, sym, ap, ◌∙◌, subst, ℕ, ◌≤◌, ◌==◌, Bool, true, false, not, List}
use Rattle.std.proofs.Common.{find, Option, None, Some, arith}
use Rattle.std.specs.Prelude.{IsSomeAnd}
use Rattle.std.specs.List.{AllByRecursion}
use Rattle.std.specs.Option.{option_map, option_map_or}
use Rattle.std.proofs.lemmas.Bool.{and_parts}
use Rattle.std.proofs.lemmas.Bool.Decides.{nat_tests}
use Rattle.minislots.specs.declared.config.Config.{Config}
use Rattle.minislots.specs.Config.{IsLawful}
use Rattle.sched_calls.specs.declared.reply.Entry.{Entry}
use Rattle.sched_calls.specs.declared.placement.Placement.{Placement}
use Rattle.sched_calls.specs.declared.spec.FlowSpec.{FlowSpec}
use Rattle.sched_calls.specs.FlowSpec.{is_periodic, is_kind_of, has_place_of, takes_requests, grants_of, periodic_slots}
use Rattle.sched_calls.proofs.Insertion.{all-put_in}
use Rattle.sched_calls.proofs.Removal.{all-filter}
use Rattle.flow_book.specs.Flows.{LiveFlow, flow_of}
use Rattle.flow_book.proofs.Places.{all-found}
use Rattle.periodic.specs.Placement.{Placed, IsPlacement, IsToldFrom}
use Rattle.periodic.specs.Table.{placed_at, with_placed, without, resting, with_rest, HasRoomToPoll}
use Rattle.periodic.specs.Table.{IsSoundPlaced, AreSound}
use Rattle.periodic.proofs.Adding.{sound-with}
use Rattle.periodic.proofs.Among.{StandsAmong, gone}
use Rattle.periodic.proofs.Removing.{sound-filter}
use Rattle.periodic.proofs.Rests.{rest-placed, rest-alike}
use Rattle.periodic.proofs.Summed.{grants-without}
use Rattle.periodic.proofs.Told.{alike-placed, spots-told, sound-told}
use Rattle.map_build.specs.Spots.{AreOfChannel, ArePeriodicOf}
use Rattle.sched_history.specs.Life.{Admission}
use Rattle.sched_history.specs.Refusal.{is_unsolicited, is_short_of_poll}
use Rattle.sched_history.specs.Situation.{Situation, situation_of}
use Rattle.sched_history.specs.History.{IsLegal}
use Rattle.sched_history.proofs.lives.Finding.{good_sid, flows_of-channel}
use Rattle.sched_history.proofs.placements.PeriodicFlows.{ArePeriodicOf-legal}
use Rattle.sched_history.proofs.situations.Places.{placed-none, placed-periodic, placed-grants}
use Rattle.sched_history.proofs.state.Changing.{alike-periodic, grants-others}
use Rattle.sched_history.proofs.state.Present.{dead-from_test, found-from_test}
use Rattle.sched_history.proofs.steps.Passed.{AdmitsFlow, ChangesFlow, IsKnown}
use Rattle.restart_laws.proofs.possible.Effects.{Effect, Placed_first, Ended, Changed, Placed_anew, Kept_place, Rested}
use Rattle.restart_laws.proofs.possible.Effects.{Woken, placed_left}
use Rattle.restart_laws.proofs.possible.Legal.{kept-legal}
use Rattle.restart_laws.proofs.possible.Standing.{stands-among, sound-instead}

-- a placed flow that rests takes no requests
abbrev pub IsSilent : Placed → Type 0
IsSilent p = p.rests ≡ true → takes_requests p.spec ≡ false

-- A table that is sound, in which only flows that take no requests rest
pub record IsTable (c : Config) (placed : List Placed) : Type 0 where
  pub sound : AreSound c placed
  pub silent : AllByRecursion IsSilent placed

-- What is known of the flows and placements of a legal history
record IsPlacedOf (x : Situation) : Type 0 where
  channel : AreOfChannel x.flows
  periodic : ArePeriodicOf x.flows x.placed

-- The flow of an SID with these parameters has a place in the table
record HasPlace (x : Situation) (sid : ℕ) (spec : FlowSpec) : Type 0 where
  place : Placed
  found : find (λ p. p.sid == sid) x.placed ≡ Some place
  has : place.spec ≡ spec

of-flow : (test : FlowSpec → Bool) (o : Option LiveFlow) (f : LiveFlow) (b : Bool) → o ≡ Some f
    → option_map_or (λ g. test g.spec) o false ≡ b → test f.spec ≡ b
of-flow test o f b found is = rw found at is

awake : (sid : ℕ) (spec : FlowSpec) (p : Placement) → IsSilent (placed_at sid spec p)
awake sid spec p rests = absurd cc

module _ (c : Config) (lawful : IsLawful c) (x : Situation) (known : IsPlacedOf x) (is : IsTable c x.placed) where
  -- a periodic flow that is live has a place
  has-place : (sid : ℕ) (f : LiveFlow) → flow_of sid x.flows ≡ Some f → is_periodic f.spec ≡ true
      → HasPlace x sid f.spec
  has-place sid f live periodic =
      let place = placed-periodic x.flows x.placed known.channel.ascend known.periodic sid f live periodic in
      record { place = place.0; found = place.1; has = place.2 }

  stands : (sid : ℕ) (old : FlowSpec) (has : HasPlace x sid old) → StandsAmong sid has.place x.placed
  stands sid old has = stands-among sid has.place x.placed is.sound.ascending has.found

  own : (sid : ℕ) (old : FlowSpec) (has : HasPlace x sid old) → IsSoundPlaced c has.place
  own sid old has = all-found (IsSoundPlaced c) (λ p. p.sid == sid) x.placed has.place is.sound.each has.found

  out : (sid : ℕ) → IsTable c (without sid x.placed)
  out sid = record {
    sound = sound-filter c (λ p. not (p.sid == sid)) x.placed is.sound;
    silent = all-filter IsSilent (λ p. not (p.sid == sid)) x.placed is.silent;
  }

  put : (sid : ℕ) (spec : FlowSpec) (p : Placement) → AllByRecursion IsSilent x.placed
      → AllByRecursion IsSilent (with_placed (placed_at sid spec p) x.placed)
  put sid spec p = all-put_in (λ g. g.sid) IsSilent (placed_at sid spec p) x.placed (awake sid spec p)

  put-instead : (sid : ℕ) (spec : FlowSpec) (p : Placement)
      → AllByRecursion IsSilent (with_placed (placed_at sid spec p) (without sid x.placed))
  put-instead sid spec p =
      all-put_in (λ g. g.sid) IsSilent (placed_at sid spec p) (without sid x.placed) (awake sid spec p) (out sid).silent

  first : (sid : ℕ) (spec : FlowSpec) (p : Placement) → AdmitsFlow c x sid spec → is_periodic spec ≡ true
      → IsPlacement c x.placed spec x.next p → IsTable c (with_placed (placed_at sid spec p) x.placed)
  first sid spec p may periodic at =
      let good = good_sid sid may.good in
      let fresh = placed-none x.flows x.placed known.channel.ascend known.periodic sid
      (dead-from_test (flow_of sid x.flows) may.fresh) in
      record {
        sound = sound-with c x.placed sid spec x.next p lawful good.0 good.1 periodic may.no_fault
            (omega (arith, may.few_grants periodic, placed-grants x.flows x.placed known.periodic)) fresh at is.sound;
        silent = put sid spec p is.silent;
      }

  live-one : (sid : ℕ) → IsKnown x sid → (f : LiveFlow) × (flow_of sid x.flows ≡ Some f)
  live-one sid may = found-from_test (flow_of sid x.flows) may.live

  anew : (sid : ℕ) (spec : FlowSpec) (p : Placement) → ChangesFlow c x sid spec → is_periodic spec ≡ true
      → IsPlacement c (without sid x.placed) spec x.next p
      → IsTable c (with_placed (placed_at sid spec p) (without sid x.placed))
  anew sid spec p may periodic at =
      let good = good_sid sid may.known.good in
      let one = live-one sid may.known in
      let kind = of-flow (is_kind_of spec) (flow_of sid x.flows) one.0 true one.1 may.kind in
      let has = has-place sid one.0 one.1 (alike-periodic spec one.0.spec kind ∙ periodic) in
      let others = grants-others sid one.0 x.flows known.channel.ascend one.1 in
      let left = grants-without sid has.place x.placed has.found is.sound.ascending in
      let all = placed-grants x.flows x.placed known.periodic in
      record {
        sound = sound-with c (without sid x.placed) sid spec x.next p lawful good.0 good.1 periodic may.no_fault
            (omega (arith, may.few_grants periodic, others, left, all, ap grants_of has.has))
            (gone sid x.placed) at (out sid).sound;
        silent = put-instead sid spec p;
      }

  keeps : (sid : ℕ) (old spec : FlowSpec) (p : Placement) → ChangesFlow c x sid spec → (has : HasPlace x sid old)
      → has_place_of has.place.spec spec ≡ true → IsToldFrom c spec x.next has.place.placement p
      → IsTable c (with_placed (placed_at sid spec p) (without sid x.placed))
  keeps sid old spec p may has same told =
      let q = has.place in
      let alike = alike-placed c q.spec spec same in
      let stand = stands sid old has in
      let sound : IsSoundPlaced c (placed_at sid spec p) =
      subst (λ n. IsSoundPlaced c (placed_at n spec p)) stand.own
      (sound-told c q.spec spec q.placement p x.next alike told q refl refl may.no_fault (own sid old has)) in
      record {
        sound = sound-instead c sid q (placed_at sid spec p) x.placed
            (record {
              own = sym stand.own;
              spots = λ k. spots-told c q.spec spec q.placement p x.next alike told k sid q stand.own refl refl;
              grants = alike.grants;
            }) stand is.sound sound;
        silent = put-instead sid spec p;
      }

  found-place : (sid : ℕ) (spec : FlowSpec) (p : Placement) (given : Admission) (o : Option LiveFlow)
      (r : Option Placed)
      → flow_of sid x.flows ≡ o → find (λ q. q.sid == sid) x.placed ≡ r
      → option_map (λ f. record { spec = f.spec; placement = option_map (λ q. q.placement) r }) o ≡ Some given
      → ChangesFlow c x sid spec → has_place_of given.spec spec ≡ true
      → IsSomeAnd given.placement (λ stands. IsToldFrom c spec x.next stands p)
      → IsTable c (with_placed (placed_at sid spec p) (without sid x.placed))
  found-place sid spec p given None r live found has may same told = absurd cc
  found-place sid spec p given (Some f) None live found has may same told =
      let them : record { spec = f.spec; placement = None } ≡ given = cc in
      absurd (subst (λ (a : Admission). IsSomeAnd a.placement (λ stands. IsToldFrom c spec x.next stands p))
      (sym them) told)
  found-place sid spec p given (Some f) (Some q) live found has may same told =
      let them : record { spec = f.spec; placement = Some q.placement } ≡ given = cc in
      let keep : has_place_of f.spec spec ≡ true =
      subst (λ (a : Admission). has_place_of a.spec spec ≡ true) (sym them) same in
      let at = subst (λ (a : Admission). IsSomeAnd a.placement (λ stands. IsToldFrom c spec x.next stands p)) (sym them)
      told in
      let kind = of-flow (is_kind_of spec) (flow_of sid x.flows) f true live may.kind in
      let place = has-place sid f live
      (alike-periodic spec f.spec kind ∙ (alike-placed c f.spec spec keep).periodic) in
      let one : place.place ≡ q = (let is : Some place.place ≡ Some q = sym place.found ∙ found in cc) in
      keeps sid f.spec spec p may place (subst (λ s. has_place_of s spec ≡ true) (sym place.has) keep)
      (subst (λ (r : Placed). IsToldFrom c spec x.next r.placement p) (sym one) at)

  rested : (sid : ℕ) (old : FlowSpec) (rests : Bool) (has : HasPlace x sid old)
      → (rests ≡ true → HasRoomToPoll c has.place)
      → (rests ≡ true → takes_requests has.place.spec ≡ false) → IsTable c (with_rest sid rests x.placed)
  rested sid old rests has room silent =
      let q = has.place in
      let stand = stands sid old has in
      let sound = own sid old has in
      let there : with_rest sid rests x.placed ≡ with_placed (resting rests q) (without sid x.placed) =
      rest-placed sid rests q x.placed stand in
      record {
        sound = rw there (sound-instead c sid q (resting rests q) x.placed (rest-alike c rests q) stand is.sound
            (record {
              sid_positive = sound.sid_positive;
              sid_most = sound.sid_most;
              periodic = sound.periodic;
              no_fault = sound.no_fault;
              after_requests = sound.after_requests;
              starts = sound.starts;
              polled = room;
            }));
        silent = rw there
            (all-put_in (λ g. g.sid) IsSilent (resting rests q) (without sid x.placed) silent (out sid).silent);
      }

  voice : (sid : ℕ) (f : LiveFlow) → is_unsolicited f.spec ≡ true
      → (is_periodic f.spec ≡ true) × (takes_requests f.spec ≡ false)
  voice sid f is' = (let parts = and_parts (is_periodic f.spec) (not (takes_requests f.spec)) is' in
      (parts.0, isnt (takes_requests f.spec) parts.1))
    where
      isnt : (b : Bool) → not b ≡ true → b ≡ false
      isnt true no' = absurd cc
      isnt false no' = refl

  table-kept : (effect : Effect c x) → IsTable c (placed_left c x effect)
  table-kept (Placed_first sid spec p may periodic at) = first sid spec p may periodic at
  table-kept (Ended sid) = out sid
  table-kept (Changed sid spec may) = out sid
  table-kept (Placed_anew sid spec p may periodic at) = anew sid spec p may periodic at
  table-kept (Kept_place sid spec p given has may same told) =
      found-place sid spec p given (flow_of sid x.flows) (find (λ q. q.sid == sid) x.placed) refl refl has may same told
  table-kept (Rested sid may) =
      let one = live-one sid may.known in
      let spoken = voice sid one.0 (of-flow is_unsolicited (flow_of sid x.flows) one.0 true one.1 may.voice) in
      let long = of-flow (is_short_of_poll c) (flow_of sid x.flows) one.0 false one.1 may.long in
      let has = has-place sid one.0 one.1 spoken.0 in
      let room : c.poll_slots ≤ periodic_slots c one.0.spec = grind (arith, nat_tests, long) in
      rested sid one.0.spec true has (λ on. subst (λ s. c.poll_slots ≤ periodic_slots c s) (sym has.has) room)
      (λ on. ap takes_requests has.has ∙ spoken.1)
  table-kept (Woken sid may) =
      let one = live-one sid may.known in
      let spoken = voice sid one.0 (of-flow is_unsolicited (flow_of sid x.flows) one.0 true one.1 may.voice) in
      rested sid one.0.spec false (has-place sid one.0 one.1 spoken.0) (λ on. absurd cc) (λ on. absurd cc)
  table-kept effect = is

-- so it is of every legal history
pub table-legal : (c : Config) → IsLawful c → (h : List Entry) → IsLegal c h → IsTable c (situation_of c h).placed
table-legal c lawful =
    kept-legal c IsPlacedOf
    (λ h legal. record { channel = flows_of-channel c h; periodic = ArePeriodicOf-legal c h legal })
    (λ x. IsTable c x.placed) (λ x effect old new is. table-kept c lawful x old is effect)
    (record {
      sound = record {
        ascending = tt;
        most = omega arith;
        each = tt;
        apart = λ k. tt;
        few = λ k. omega arith;
      };
      silent = tt;
    })
