-- A worked history of a polled flow: its admission, a MAP with its poll and one without, and its request.
use Rattle.std.proofs.Common.{◌≡◌, ◌≢◌, ℕ, List, [], ◌∷◌, None, Some, refl, sym, inl, inr, lit<, lit≤, arith}
use Rattle.std.proofs.lemmas.Bool.{ne_eqb}
use Rattle.sched_calls.specs.FlowSpec.{first_fault}
use Rattle.sched_calls.proofs.Base.{base}
use Rattle.periodic.proofs.RowsPlacement.{polling, placement, polled_placed, four_polls_stand_behind_the_requests}
use Rattle.sched_calls.specs.Header.{header_of}
use Rattle.map_build.specs.Plan.{demand_at}
use Rattle.map_build.specs.FrameMap.{IsLawfulMap}
use Rattle.map_build.proofs.RowsMaps.{all_idle, none_waits}
use Rattle.map_build.proofs.RowsPoll.{polled, poll_map, a_frame_with_a_poll}
use Rattle.sched_calls.specs.declared.amount.Amount.TheVariants.{Bytes}
use Rattle.sched_calls.specs.declared.call.Call.TheVariants.{Admit, Ask, Build}
use Rattle.sched_calls.specs.declared.reply.Reply.TheVariants.{Admitted, Taken, Built}
use Rattle.sched_calls.specs.declared.reply.Entry.{Entry}
use Rattle.sched_history.specs.Life.{Life, life_of, sids}
use Rattle.sched_history.specs.History.{IsStep, IsLegal}
use Rattle.sched_history.proofs.lives.LiveFlows.{flows_of-none, flows_of-one, table_of-none, table_of-one}
use Rattle.sched_history.proofs.rows.NextMap.{idle_map, IsNextMap-from_lawful}
use Rattle.sched_history.proofs.rows.TwoMaps.{entry}

-- the admission, and the two MAPs
abbrev admission : Entry
admission = entry 0 (Admit 9 polling) (Admitted (Some (placement 804 (4 ∷ 4 ∷ 4 ∷ 4 ∷ []))))

abbrev with_poll : Entry
with_poll = entry 1 (Build 760) (Built poll_map)

abbrev without_poll : Entry
without_poll = entry 2 (Build 800) (Built (idle_map base 840 800))

-- its life
abbrev life : List Entry → Life
life since =
    record {
      admission = record { spec = polling; placement = Some (placement 804 (4 ∷ 4 ∷ 4 ∷ 4 ∷ [])) };
      since =
          since;
    }

-- no other SID has a life
others : (sid : ℕ) → sid ≢ 9 → (life_of sid (admission ∷ []) ≡ None) × (life_of sid (admission ∷ with_poll ∷ []) ≡ None)
others sid other = rw (ne_eqb 9 sid (λ e. other (sym e))) (refl, refl)

-- it is admitted with four polls in a cycle
admits : IsStep base [] (Admit 9 polling) (Admitted (Some (placement 804 (4 ∷ 4 ∷ 4 ∷ 4 ∷ []))))
unfolding first_fault
admits = rw (flows_of-none base [] (λ sid. refl))
    (inl (
      placement 804 (4 ∷ 4 ∷ 4 ∷ 4 ∷ []),
      (rw (table_of-none [] (λ sid. refl)) four_polls_stand_behind_the_requests),
      refl,
    ))

-- the first MAP has its poll
polls : IsStep base (admission ∷ []) (Build 760) (Built poll_map)
polls = (
  poll_map,
  IsNextMap-from_lawful base (admission ∷ []) (polled ∷ []) (polled_placed ∷ []) poll_map
      (flows_of-one base (admission ∷ []) 9 (life []) (lit≤ tt) (lit≤ tt) refl (λ sid other. (others sid other).0))
      (table_of-one (admission ∷ []) 9 (life []) polled_placed (lit≤ tt) (lit≤ tt) refl refl
      (λ sid other. (others sid other).0)) refl
      a_frame_with_a_poll,
  refl,
)

-- the frame after it has none, and no bytes are outstanding
idles : IsLawfulMap base (demand_at (polled ∷ []) [] [] 840) (header_of base) 800 (idle_map base 840 800)
idles = (
  all_idle,
  record {
    each = (
      record {
        some_slots = lit< tt;
        follows = refl;
        purpose = refl;
        first = (lit< tt, (none_waits [] 36, (inr ((λ e. absurd (omega (arith, e.waits))), tt), tt)));
      },
      tt,
    );
    whole = λ sends. refl;
    due = λ sends. tt;
    quiet = λ settles. absurd (cc);
  },
  refl,
)

-- the second MAP is idle
does_not_poll : IsStep base (admission ∷ with_poll ∷ []) (Build 800) (Built (idle_map base 840 800))
does_not_poll = (
  idle_map base 840 800,
  IsNextMap-from_lawful base (admission ∷ with_poll ∷ []) (polled ∷ []) (polled_placed ∷ []) (idle_map base 840 800)
      (flows_of-one base (admission ∷ with_poll ∷ []) 9 (life (with_poll ∷ [])) (lit≤ tt) (lit≤ tt) refl
      (λ sid other. (others sid other).1))
      (table_of-one (admission ∷ with_poll ∷ []) 9 (life (with_poll ∷ [])) polled_placed (lit≤ tt) (lit≤ tt) refl refl
      (λ sid other. (others sid other).1)) refl
      idles,
  refl,
)

-- the history, with a request that was heard in the poll, is legal
pub a_polled_flow_is_polled_and_asks : IsLegal base
    (admission ∷ with_poll ∷ without_poll ∷ entry 3 (Ask 0 9 (Bytes 16) 805) Taken ∷ [])
unfolding sids
a_polled_flow_is_polled_and_asks = (admits, (polls, (does_not_poll, (refl, tt))))
