-- The live flows and placements after a flow has other parameters.
use Rattle.std.proofs.Common.{◌≡◌, ◌≢◌, ℕ, ◌+◌, ◌≤◌, Bool, true, false, not, ◌==◌, if◌then◌else◌, List, [], ◌∷◌, ◌++◌}
use Rattle.std.proofs.Common.{Option, None, Some, refl, sym, ap, ◌∙◌, arith, append-nil, inl, inr}
use Rattle.std.specs.List.{filter_map}
use Rattle.std.specs.Option.{option_map, option_map_or, option_and_then}
use Rattle.std.proofs.lemmas.Bool.{cases_eq}
use Rattle.minislots.specs.declared.config.Config.{Config}
use Rattle.minislots.specs.declared.stamp.Stamp.{Stamp}
use Rattle.sched_calls.specs.declared.spec.FlowSpec.{FlowSpec}
use Rattle.sched_calls.specs.declared.placement.Placement.{Placement}
use Rattle.flow_book.specs.Flows.{LiveFlow, Charge}
use Rattle.flow_book.specs.Book.{changed, has_ceiling_of, has_peak_of, has_reserve_of, with_spec}
use Rattle.periodic.specs.Placement.{Placed}
use Rattle.periodic.specs.Table.{placed_at as new_placed, with_placed, without as without_placed}
use Rattle.sched_calls.specs.declared.call.Call.TheVariants as calls
use Rattle.sched_calls.specs.declared.reply.Reply.TheVariants as replies
use Rattle.sched_calls.specs.declared.reply.Entry.{Entry}
use Rattle.sched_history.specs.Life.{Admission, Life, life_of, given_in, rests_in, placed_in_life, sids, flows_of, table_of}
use Rattle.sched_history.proofs.lists.Latests.{or_else}
use Rattle.sched_history.proofs.lists.Numbered.{kept_if, filter_map-kept, filter_map-put_in, HasNumber}
use Rattle.sched_history.proofs.lives.LivesAfter.{with_since, life_of-stays}
use Rattle.sched_history.proofs.lives.Finding.{sids-range, placed_at, placed_at-sid}
use Rattle.sched_history.proofs.lives.FlowsAfter.{grown_by, flows_of-grown, given_in-more, rests_in-more}
use Rattle.sched_history.proofs.lives.FlowsAfter.{placed_with, placed_at-stays}
use Rattle.sched_history.proofs.flows.FlowCalls.{map-each, eqb-sym, other_turn, own_turn, kept_other, kept_own}
use Rattle.sched_history.proofs.flows.Admissions.{put_in-placed}

begun : (same : Bool) (charged : List Charge)
    → (if not same then [] else charged ++ []) ≡ (if same then charged else [])
begun true charged = append-nil charged
begun false charged = refl

begun-reserved : (same : Bool) (charged : List Charge)
    → (if not same then [] else charged) ≡ (if same then charged else [])
begun-reserved true charged = refl
begun-reserved false charged = refl

-- a flow with other parameters, or another
changed_flow : (b : Bool) (given : Admission) (f : LiveFlow) → record f {
  spec = option_map_or (λ a. a.spec) (if b then Some given else None) f.spec;
  asked = f.asked + 0;
  grants = f.grants ++ [];
  sustained = if option_map_or (λ a. not (has_ceiling_of f.spec a.spec)) (if b then Some given else None) false
      then [] else f.sustained ++ [];
  peak = if option_map_or (λ a. not (has_peak_of f.spec a.spec)) (if b then Some given else None) false
      then [] else f.peak ++ [];
  reserved = if option_map_or (λ a. not (has_reserve_of f.spec a.spec)) (if b then Some given else None) false
      then [] else f.reserved;
} ≡ (if b then with_spec given.spec f else f)
changed_flow true given f =
    let none : f.asked + 0 ≡ f.asked = omega arith in
    rw (
      none,
      append-nil f.grants,
      begun (has_ceiling_of f.spec given.spec) f.sustained,
      begun (has_peak_of f.spec given.spec) f.peak,
      begun-reserved (has_reserve_of f.spec given.spec) f.reserved,
    ) refl
changed_flow false given f =
    let none : f.asked + 0 ≡ f.asked = omega arith in
    rw (none, append-nil f.grants, append-nil f.sustained, append-nil f.peak) refl

changed_this : (sid : ℕ) (given : Admission) (f : LiveFlow) → record f {
  spec = option_map_or (λ a. a.spec) (if sid == f.sid then Some given else None) f.spec;
  asked = f.asked + 0;
  grants = f.grants ++ [];
  sustained = if option_map_or (λ a. not (has_ceiling_of f.spec a.spec)) (if sid == f.sid then Some given else None) false
      then [] else f.sustained ++ [];
  peak = if option_map_or (λ a. not (has_peak_of f.spec a.spec)) (if sid == f.sid then Some given else None) false
      then [] else f.peak ++ [];
  reserved = if option_map_or (λ a. not (has_reserve_of f.spec a.spec)) (if sid == f.sid then Some given else None) false
      then [] else f.reserved;
} ≡ (if f.sid == sid then with_spec given.spec f else f)
changed_this sid given f = rw (eqb-sym sid f.sid) (changed_flow (f.sid == sid) given f)

-- what passes a test was there
kept-was : {Y : Type 0} (p : Y → Bool) (o : Option Y) (y : Y) → option_and_then (kept_if p) o ≡ Some y → o ≡ Some y
kept-was p None y is = absurd cc
kept-was p (Some x) y is = kept-by (p x) is where
  kept-by : (b : Bool) → (if b then Some x else None) ≡ Some y → Some x ≡ Some y
  kept-by true is = is
  kept-by false is = absurd cc

given-placed : (sid : ℕ) (given : Admission) (rests : Bool) (placement : Option Placement)
    → given.placement ≡ placement → rests ≡ false
    → option_map (placed_with sid given.spec rests) given.placement
    ≡ option_map (λ p. new_placed sid given.spec p) placement
given-placed sid given rests placement is woken = rw (is, woken) refl

module _ (stamp : Stamp) (h : List Entry) (sid : ℕ) (spec : FlowSpec) (place : Option Placement) where
  -- the entry of the change
  abbrev change : Entry
  change = record { stamp = stamp; call = calls.Change sid spec; reply = replies.Changed place }

  -- after a change the flow has these parameters, and with another ceiling, peak rate or
  -- reservation begins a period of it
  pub flows_of-change : (c : Config) → flows_of c
      (h ++ record { stamp = stamp; call = calls.Change sid spec; reply = replies.Changed place } ∷ [])
      ≡ changed sid (with_spec spec) (flows_of c h)
  flows_of-change c =
      flows_of-grown c h change (λ other. refl) ∙ map-each (grown_by c change)
      (λ f. if f.sid == sid then with_spec spec f else f)
      (flows_of c h) (changed_this sid (record { spec = spec; placement = place }))

  given-then : (life : Life) → given_in sid (with_since change life) ≡ record { spec = spec; placement = place }
  given-then life = given_in-more sid change life
      ∙ ap (λ o. or_else o (given_in sid life)) (own_turn sid (record { spec = spec; placement = place }))

  rests-then : (life : Life) → rests_in sid (with_since change life).since ≡ false
  rests-then life =
      rests_in-more sid change life ∙ ap (λ o. or_else o (rests_in sid life.since)) (own_turn sid false)

  -- the flow's placement is that of the reply, and it is awake
  placed_in-changed : (life : Life) → placed_in_life sid (with_since change life)
      ≡ option_map (λ p. new_placed sid spec p) place
  placed_in-changed life =
      ap (λ (a : Admission). option_map (placed_with sid a.spec (rests_in sid (with_since change life).since)) a.placement)
      (given-then life)
      ∙ given-placed sid (record { spec = spec; placement = place }) (rests_in sid (with_since change life).since) place
      refl (rests-then life)

  module _ (life : Life) (lives : life_of sid h ≡ Some life) where
    placed_at-changed : placed_at (h ++ change ∷ []) sid ≡ option_map (λ p. new_placed sid spec p) place
    placed_at-changed =
        ap (option_and_then (placed_in_life sid)) (life_of-stays sid h change refl
        ∙ ap (option_map (with_since change)) lives)
        ∙ placed_in-changed life

  placed_at-others : (other : ℕ) → other ≢ sid → placed_at (h ++ change ∷ []) other ≡ placed_at h other
  placed_at-others other differ =
      placed_at-stays h change other refl
      (other_turn sid other (record { spec = spec; placement = place }) differ) (other_turn sid other false differ)

  -- a flow but that of the SID
  abbrev left_at : ℕ → Option Placed
  left_at other = option_and_then (kept_if (λ p. not (p.sid == sid))) (placed_at h other)

  left_at-sid : HasNumber (λ p. p.sid) left_at
  left_at-sid other p is = placed_at-sid h other p (kept-was (λ p. not (p.sid == sid)) (placed_at h other) p is)

  left_at-own : left_at sid ≡ None
  left_at-own = kept_own (λ p. p.sid) sid (placed_at h sid) (placed_at-sid h sid)

  left_at-others : (other : ℕ) → other ≢ sid → placed_at (h ++ change ∷ []) other ≡ left_at other
  left_at-others other differ = placed_at-others other differ
      ∙ sym (kept_other (λ p. p.sid) sid other (placed_at h other) (placed_at-sid h other) differ)

module _ (stamp : Stamp) (h : List Entry) (sid : ℕ) (spec : FlowSpec) (life : Life) (lives : life_of sid h ≡ Some life)
  where
    -- with a placement it stands beside the others
    pub table_of-change_placed : (p : Placement) → 1 ≤ sid → sid ≤ 8191
        → table_of (h ++ record { stamp = stamp; call = calls.Change sid spec; reply = replies.Changed (Some p) } ∷ [])
        ≡ with_placed (new_placed sid spec p) (without_placed sid (table_of h))
    table_of-change_placed p low high =
        let left = filter_map-kept (placed_at h) (left_at stamp h sid spec (Some p)) (λ q. not (q.sid == sid)) sids
        (λ other. refl) in
        rw sids-range.2
        (filter_map-put_in (λ q. q.sid) (left_at stamp h sid spec (Some p)) (left_at-sid stamp h sid spec (Some p))
        (placed_at (h ++ change stamp h sid spec (Some p) ∷ [])) sid (new_placed sid spec p) refl
        (left_at-own stamp h sid spec (Some p)) (placed_at-changed stamp h sid spec (Some p) life lives)
        (left_at-others stamp h sid spec (Some p)) 1 sids-range.0 low (omega (arith, sids-range.1)))
        ∙ put_in-placed (new_placed sid spec p) (filter_map (left_at stamp h sid spec (Some p)) sids)
        ∙ ap (with_placed (new_placed sid spec p)) left

    -- without one it stands nowhere
    pub table_of-change_unplaced :
        table_of (h ++ record { stamp = stamp; call = calls.Change sid spec; reply = replies.Changed None } ∷ [])
        ≡ without_placed sid (table_of h)
    table_of-change_unplaced =
        filter_map-kept (placed_at h) (placed_at (h ++ change stamp h sid spec None ∷ [])) (λ q. not (q.sid == sid)) sids
        (λ other. elim (cases_eq other sid) [
          | inl same ↦ rw same (placed_at-changed stamp h sid spec None life lives
              ∙ sym (left_at-own stamp h sid spec None))
          | inr differ ↦ left_at-others stamp h sid spec None other differ
        ])
