-- The state of a live flow that may be one is possible.
use Rattle.std.proofs.Common.{◌≡◌, refl, ap, ℕ, ◌+◌, ◌-◌, ◌*◌, ◌<◌, ◌≤◌, ◌==◌, ◌&&◌, nat_lt, Bool, true}
use Rattle.std.proofs.Common.{false, cond, List, [], ◌∷◌, Option, None, Some, min, unwrap_or, if◌then◌else◌, arith}
use Rattle.std.specs.Prelude.{IfNone}
use Rattle.std.specs.List.{AllByRecursion}
use Rattle.std.specs.Option.{option_map_or, MatchOption}
use Rattle.std.proofs.lemmas.Bool.Decides.{nat_tests}
use Rattle.std.proofs.lemmas.List.Sums.{sum_by-cons}
use Rattle.minislots.specs.declared.TheConstants.{MAX_ASK}
use Rattle.minislots.specs.declared.config.Config.{Config}
use Rattle.sched_calls.specs.declared.spec.TheConstants.{PEAK_BURST}
use Rattle.sched_calls.specs.declared.state.BatchState.{BatchState}
use Rattle.sched_calls.specs.declared.state.FlowState.{FlowState}
use Rattle.sched_calls.specs.FlowSpec.{rate_of, burst_of, peak_of, reserved_of, reserved_burst_of}
use Rattle.flow_book.specs.Batches.{is_over}
use Rattle.flow_book.specs.Choice.{last_start, last_slot}
use Rattle.flow_book.specs.declared.batches.Batches.{Batches}
use Rattle.flow_book.specs.declared.flow.Grant.{Grant}
use Rattle.flow_book.specs.Flows.{LiveFlow, Charge, tokens_of, bytes_of, granted}
use Rattle.flow_book.specs.FlowState.{left_at, level_after, batch_state}
use Rattle.flow_book.specs.Shown.{waits, since}
use Rattle.periodic.specs.Placement.{Placed}
use Rattle.channel_states.specs.Possible.{waits_from_before}
use Rattle.channel_states.specs.PossibleFlow.{IsDescribed, HasPossibleLevel, HasPossiblePlace}
use Rattle.channel_states.specs.PossibleFlow.{ArePossibleBatches, IsPossibleFlow}
use Rattle.map_build.specs.Spots.{IsFlowSid}
use Rattle.sched_history.specs.ChannelState.{flow_state_in}
use Rattle.restart_laws.proofs.Alike.{IsSteadyFlow}
use Rattle.restart_laws.proofs.possible.Live.{IsPossibleGrant, IsPossibleLive, AreRequests, first-described}
use Rattle.restart_laws.proofs.possible.Since.{waits_before}

module _ (c : Config) (next : ℕ) where
  last-more : (o : Option ℕ) (n m : ℕ) → 0 < n → n ≤ m
      → MatchOption o (n ≡ 0) (λ start. (0 < n) × IsDescribed c next start)
      → MatchOption o (m ≡ 0) (λ start. (0 < m) × IsDescribed c next start)
  last-more None n m some le last = absurd (omega (arith, some, last))
  last-more (Some start) n m some le last = (omega (arith, some, le), last.1)

  -- the last of some grants
  last-of : (grants : List Grant) → AllByRecursion (IsPossibleGrant c next) grants
      → MatchOption (last_start grants) (bytes_of grants ≡ 0)
      (λ start. (0 < bytes_of grants) × IsDescribed c next start)
  last-of [] all = refl
  last-of (g ∷ []) all =
      (omega (arith, all.0.some, sum_by-cons (λ (h : Grant). h.bytes) g []), all.0.described)
  last-of (g ∷ h ∷ grants) all =
      let own : Grant → ℕ = λ k. k.bytes in
      last-more (last_start (h ∷ grants)) (bytes_of (h ∷ grants)) (bytes_of (g ∷ h ∷ grants))
      (omega (arith, all.1.0.some, sum_by-cons own h grants)) (omega (arith, sum_by-cons own g (h ∷ grants)))
      (last-of (h ∷ grants) all.1)

-- where there is no last grant there is none
none-last : (grants : List Grant) → last_start grants ≡ None → grants ≡ []
none-last [] is = refl
none-last (g ∷ []) is = absurd cc
none-last (g ∷ h ∷ grants) is = (let rest = none-last (h ∷ grants) is in absurd cc)

-- no level is above the burst
left-most : (c : Config) (rate burst slot : ℕ) (charges : List Charge)
    → left_at c rate burst slot charges ≤ 1280000 * burst
left-most c rate burst slot [] = omega arith
left-most c rate burst slot (g ∷ charges) =
    least-behind (slot * c.ticks * rate + 1280000 * burst - (tokens_of (g ∷ charges) + g.start * c.ticks * rate))
    (left_at c rate burst slot charges) (1280000 * burst) (left-most c rate burst slot charges)
  where
    least-behind : (a b most : ℕ) → b ≤ most → min a b ≤ most
    least-behind a b most le = omega (arith, le)

module _ (c : Config) (rate burst slot : ℕ) (charges : List Charge) where
  -- the level of charges, which are none where there is no last grant
  level-possible : (last : Option ℕ) → (last ≡ None → charges ≡ [])
      → HasPossibleLevel rate burst last (level_after c rate burst slot charges)
  level-possible last none = by-rate (rate == 0) refl
    where
      full : (o : Option ℕ) → last ≡ o → IfNone o (left_at c rate burst slot charges ≡ 1280000 * burst)
      full None is = ap (left_at c rate burst slot) (none is)
      full (Some start) is = tt

      by-rate : (b : Bool) → (rate == 0) ≡ b
          → HasPossibleLevel rate burst last (if b then None else Some (left_at c rate burst slot charges))
      by-rate true test = grind (arith, nat_tests)
      by-rate false test = (
        grind (arith, nat_tests),
        record { most = left-most c rate burst slot charges; full = full last refl },
      )

-- the batches of requests
batches-possible : (c : Config) (next : ℕ) (s : FlowState) (b : Batches) → s.granted ≤ s.asked
    → (s.granted < s.asked → AreRequests c next s.asked b)
    → MatchOption (batch_state b s.asked s.granted) (s.asked ≡ s.granted) (ArePossibleBatches c next s)
batches-possible c next s b within are = by-tests (s.asked == s.granted) (is_over b s.granted) refl refl
  where
    by-tests : (same over : Bool) → (s.asked == s.granted) ≡ same → is_over b s.granted ≡ over → MatchOption
        (cond {A = Option BatchState} same None (cond over
        (Some (record { end = s.asked; first = unwrap_or b.second b.first; second = None }))
        (Some (record { end = b.end; first = b.first; second = b.second })))) (s.asked ≡ s.granted)
        (ArePossibleBatches c next s)
    by-tests true over test gone = grind (arith, nat_tests)
    by-tests false true test gone =
        let waiting : s.granted < s.asked = grind (arith, nat_tests) in
        record {
          outstanding = waiting;
          end_most = omega arith;
          second = ((λ none. refl), (λ same. refl));
          first_heard = first-described c next s.asked b (are waiting);
          second_heard = tt;
        }
    by-tests false false test gone =
        let waiting : s.granted < s.asked = grind (arith, nat_tests) in
        let has = are waiting in
        record {
          outstanding = grind (arith, nat_tests);
          end_most = has.end_most;
          second = has.second;
          first_heard = has.first_heard;
          second_heard = has.second_heard;
        }

module _ (c : Config) (placed : List Placed) (f : LiveFlow) (within : granted f ≤ f.asked) where
  -- a state tells that its flow waits since before a minislot where it does
  pub told-before : (slot : ℕ) → waits_from_before slot (flow_state_in c placed f) ≡ waits_before slot f
  told-before slot = by-tests (f.asked == granted f) (is_over f.batches (granted f)) refl refl
    where
      by-tests : (same over : Bool) → (f.asked == granted f) ≡ same → is_over f.batches (granted f) ≡ over
          → option_map_or (λ (s : BatchState). nat_lt (min s.first (unwrap_or s.second s.first)) slot)
          (cond same None (cond over
          (Some (record { end = f.asked; first = unwrap_or f.batches.second f.batches.first; second = None }))
          (Some (record { end = f.batches.end; first = f.batches.first; second = f.batches.second })))) false
          ≡ (waits f && nat_lt (since f) slot)
      by-tests true over test gone =
          let none : waits f ≡ false = grind (arith, nat_tests) in rw none refl
      by-tests false true test gone =
          let some : waits f ≡ true = grind (arith, nat_tests) in
          let first = unwrap_or f.batches.second f.batches.first in
          let one : min first first ≡ first = omega arith in
          rw (some, gone, one) refl
      by-tests false false test gone =
          let some : waits f ≡ true = grind (arith, nat_tests) in rw (some, gone) refl

  -- the state of a live flow
  pub flow-possible : (entries next : ℕ) → IsSteadyFlow c next f → IsPossibleLive c next f
      → f.asked ≤ MAX_ASK * entries → IsFlowSid f.sid → HasPossiblePlace c (flow_state_in c placed f)
      → IsPossibleFlow c entries next (flow_state_in c placed f)
  flow-possible entries next steady live few sid place =
      let none : last_start f.grants ≡ None → (f.sustained ≡ []) × (f.peak ≡ []) × (f.reserved ≡ []) =
      λ is. steady.unspent (none-last f.grants is) in
      let last : Option ℕ = last_start f.grants in
      let slot : ℕ = last_slot f.grants in
      record {
        sid_positive = omega (arith, sid.0);
        sid_most = sid.1;
        parameters = live.parameters;
        bytes = record { within_asked = within; asked_most = few };
        last = last-of c next f.grants live.grants;
        levels = record {
          sustained = level-possible c (rate_of f.spec) (burst_of f.spec) slot f.sustained last (λ is. (none is).0);
          peak = level-possible c (peak_of f.spec) PEAK_BURST slot f.peak last (λ is. (none is).1);
          reserved = level-possible c (reserved_of f.spec) (reserved_burst_of f.spec) slot f.reserved last
              (λ is. (none is).2);
        };
        place = place;
        batches = batches-possible c next (flow_state_in c placed f) f.batches within live.requests;
      }
