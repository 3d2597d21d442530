-- The live flows and placements after an admission.
use Rattle.std.proofs.Common.{◌≡◌, ◌≢◌, ℕ, ◌≤◌, false, List, [], ◌∷◌, ◌++◌, Option, None}
use Rattle.std.proofs.Common.{Some, refl, sym, ap, ◌∙◌, arith, inl, inr}
use Rattle.std.specs.Option.{option_map, option_and_then}
use Rattle.std.proofs.lemmas.Bool.{cases_eq}
use Rattle.minislots.specs.declared.config.Config.{Config}
use Rattle.minislots.specs.declared.stamp.Stamp.{Stamp}
use Rattle.sched_calls.specs.declared.spec.FlowSpec.{FlowSpec}
use Rattle.flow_book.specs.Flows.{LiveFlow}
use Rattle.flow_book.specs.Book.{with_flow, new_flow}
use Rattle.sched_calls.specs.declared.placement.Placement.{Placement}
use Rattle.periodic.specs.Placement.{Placed}
use Rattle.periodic.specs.Table.{with_placed}
use Rattle.sched_calls.specs.declared.call.Call.TheVariants as calls
use Rattle.sched_calls.specs.declared.reply.Reply.TheVariants as replies
use Rattle.sched_calls.specs.declared.reply.Entry.{Entry}
use Rattle.sched_history.specs.Life.{Begins, life_of, flow_in_life, placed_in_life, sids, flows_of, table_of}
use Rattle.sched_history.proofs.lives.LivesAfter.{life_of-begins}
use Rattle.sched_history.proofs.lists.Numbered.{put_in, filter_map-same, filter_map-put_in}
use Rattle.sched_history.proofs.lives.Finding.{sids-range, flow_at, placed_at, flow_at-sid, placed_at-sid}
use Rattle.sched_history.proofs.lives.FlowsAfter.{flow_at-stays, placed_at-stays}
use Rattle.sched_history.proofs.flows.FlowCalls.{other_turn, own_turn, ungrown-map}

-- the two ways to put in a flow
pub put_in-flow : (f : LiveFlow) (flows : List LiveFlow) → put_in (λ f. f.sid) f flows ≡ with_flow f flows
put_in-flow f [] = refl
put_in-flow f (g ∷ flows) = rw (put_in-flow f flows) refl

-- and a placement
pub put_in-placed : (p : Placed) (table : List Placed) → put_in (λ p. p.sid) p table ≡ with_placed p table
put_in-placed p [] = refl
put_in-placed p (q ∷ table) = rw (put_in-placed p table) refl

module _ (stamp : Stamp) (h : List Entry) (sid : ℕ) (spec : FlowSpec) where
  -- the entry of the admission
  abbrev admit : Option Placement → Entry
  admit place = record { stamp = stamp; call = calls.Admit sid spec; reply = replies.Admitted place }

  module _ (place : Option Placement) where
    flow_at-admitted : (c : Config) → flow_at c (h ++ admit place ∷ []) sid ≡ Some (new_flow sid spec)
    flow_at-admitted c =
        ap (option_map (flow_in_life c sid))
        (life_of-begins sid h (admit place) (record { spec = spec; placement = place })
        (own_turn sid (Begins (record { spec = spec; placement = place }))))

    flow_at-others : (c : Config) (other : ℕ) → other ≢ sid → flow_at c (h ++ admit place ∷ []) other
        ≡ flow_at c h other
    flow_at-others c other differ =
        flow_at-stays c h (admit place) other
        (other_turn sid other (Begins (record { spec = spec; placement = place })) differ)
        ∙ ungrown-map (flow_at c h other)

    -- an admitted flow is put in at its SID
    pub flows_of-admit : (c : Config) → life_of sid h ≡ None → 1 ≤ sid → sid ≤ 8191
        → flows_of c (h ++ record { stamp = stamp; call = calls.Admit sid spec; reply = replies.Admitted place } ∷ [])
        ≡ with_flow (new_flow sid spec) (flows_of c h)
    flows_of-admit c none low high =
        rw sids-range.2
        (filter_map-put_in (λ f. f.sid) (flow_at c h) (flow_at-sid c h) (flow_at c (h ++ admit place ∷ [])) sid
        (new_flow sid spec) refl
        (ap (option_map (flow_in_life c sid)) none) (flow_at-admitted c) (flow_at-others c) 1 sids-range.0 low
        (omega (arith, sids-range.1))) ∙ put_in-flow (new_flow sid spec) (flows_of c h)

    placed_at-others : (other : ℕ) → other ≢ sid → placed_at (h ++ admit place ∷ []) other ≡ placed_at h other
    placed_at-others other differ =
        placed_at-stays h (admit place) other
        (other_turn sid other (Begins (record { spec = spec; placement = place })) differ) refl refl

    placed_at-admitted : placed_at (h ++ admit place ∷ []) sid
        ≡ option_map (λ p. record { sid = sid; spec = spec; placement = p; rests = false }) place
    placed_at-admitted = ap (option_and_then (placed_in_life sid))
        (life_of-begins sid h (admit place) (record { spec = spec; placement = place })
        (own_turn sid (Begins (record { spec = spec; placement = place }))))

  -- its placement is put in at its SID
  pub table_of-admit_placed : (p : Placement) → life_of sid h ≡ None → 1 ≤ sid → sid ≤ 8191
      → table_of (h ++ record { stamp = stamp; call = calls.Admit sid spec; reply = replies.Admitted (Some p) } ∷ [])
      ≡ with_placed (record { sid = sid; spec = spec; placement = p; rests = false }) (table_of h)
  table_of-admit_placed p none low high =
      rw sids-range.2
      (filter_map-put_in (λ p. p.sid) (placed_at h) (placed_at-sid h) (placed_at (h ++ admit (Some p) ∷ [])) sid
      (record { sid = sid; spec = spec; placement = p; rests = false }) refl
      (ap (option_and_then (placed_in_life sid)) none) (placed_at-admitted (Some p))
      (placed_at-others (Some p)) 1 sids-range.0 low
      (omega (arith, sids-range.1))) ∙ put_in-placed
      (record { sid = sid; spec = spec; placement = p; rests = false }) (table_of h)

  -- where it has none no placement changes
  pub table_of-admit_unplaced : life_of sid h ≡ None
      → table_of (h ++ record { stamp = stamp; call = calls.Admit sid spec; reply = replies.Admitted None } ∷ [])
      ≡ table_of h
  table_of-admit_unplaced none =
      filter_map-same (placed_at h) (placed_at (h ++ admit None ∷ [])) sids (λ other. elim (cases_eq other sid) [
        | inl same ↦ rw same (placed_at-admitted None ∙ sym (ap (option_and_then (placed_in_life sid)) none))
        | inr differ ↦ placed_at-others None other differ
      ])
