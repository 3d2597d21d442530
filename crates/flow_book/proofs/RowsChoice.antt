-- Worked examples of which flow is served first.
use Rattle.std.proofs.Common.{[], ◌∷◌, refl, ap, inl, inr, lit<, lit≤, arith}
use Rattle.sched_calls.specs.declared.spec.FlowSpec.TheVariants.{Polled, BestEffort}
use Rattle.flow_book.specs.Batches.{no_batches}
use Rattle.flow_book.proofs.Profile.{one_request}
use Rattle.flow_book.specs.Flows.{LiveFlow}
use Rattle.flow_book.specs.Choice.{IsEligible, IsNext}
use Rattle.sched_calls.proofs.Base.{base}
use Rattle.flow_book.proofs.Unlimited.{IsEligible-unlimited}

-- a flow of priority 1 with 544 bytes to be granted
abbrev pub low : LiveFlow
low = record { sid = 20; spec = BestEffort 1 0 0 0 0 0; asked = 544; batches = no_batches; grants = []; sustained = []; peak = []; reserved = [] }

-- a flow of priority 5 with as many
abbrev pub high : LiveFlow
high = record { sid = 21; spec = BestEffort 5 0 0 0 0 0; asked = 544; batches = no_batches; grants = []; sustained = []; peak = []; reserved = [] }

-- either may be served behind the request region
low_is_eligible : IsEligible base 844 36 low
low_is_eligible = IsEligible-unlimited base low 844 36 refl refl refl refl (lit< tt) (lit≤ tt)

high_is_eligible : IsEligible base 844 36 high
high_is_eligible = IsEligible-unlimited base high 844 36 refl refl refl refl (lit< tt) (lit≤ tt)

-- the flow of the higher priority is next
pub the_higher_priority_is_next : IsNext base (low ∷ high ∷ []) 844 36 high
the_higher_priority_is_next = record {
  live = (1, lit< tt, refl);
  eligible = high_is_eligible;
  first = ((λ e. inr refl), ((λ e. inl refl), tt));
}

-- the flow of the lower priority is not
pub the_lower_priority_is_not_next : IsNext base (low ∷ high ∷ []) 844 36 low → ⊥
the_lower_priority_is_not_next next = elim (next.first.1.0 high_is_eligible) [
  | inl e ↦ absurd (omega (arith, ap (λ f. f.sid) e))
  | inr e ↦ cc
]

-- two flows of one priority with 1000 bytes to be granted
abbrev pub lower_sid : LiveFlow
lower_sid = record {
  sid = 20;
  spec = BestEffort 3 0 0 0 0 0;
  asked = 1000;
  batches = one_request 1000 801;
  grants = [];
  sustained = [];
  peak = [];
  reserved = [];
}

-- a flow of the next SID that is the same otherwise
abbrev pub higher_sid : LiveFlow
higher_sid = record lower_sid { sid = 21 }

-- of equal priorities without a grant the lower SID is next
pub the_lower_sid_is_next : IsNext base (lower_sid ∷ higher_sid ∷ []) 844 36 lower_sid
the_lower_sid_is_next = record {
  live = (0, lit< tt, refl);
  eligible = IsEligible-unlimited base lower_sid 844 36 refl refl refl refl (lit< tt) (lit≤ tt);
  first = ((λ e. inl refl), ((λ e. inr refl), tt));
}

-- a flow of priority 7, the highest, with 544 bytes to be granted
abbrev pub highest : LiveFlow
highest = record { sid = 20; spec = BestEffort 7 0 0 0 0 0; asked = 544; batches = no_batches; grants = []; sustained = []; peak = []; reserved = [] }

-- a polled flow of a higher SID with as many
abbrev pub polled_waiting : LiveFlow
polled_waiting =
    record { sid = 21; spec = Polled 5000 0 0 0 0; asked = 544; batches = no_batches; grants = []; sustained = []; peak = []; reserved = [] }

polled_is_eligible : IsEligible base 844 36 polled_waiting
polled_is_eligible = IsEligible-unlimited base polled_waiting 844 36 refl refl refl refl (lit< tt) (lit≤ tt)

-- the polled flow is next
pub a_polled_flow_is_served_before_priority_seven : IsNext base (highest ∷ polled_waiting ∷ []) 844 36 polled_waiting
a_polled_flow_is_served_before_priority_seven = record {
  live = (1, lit< tt, refl);
  eligible = polled_is_eligible;
  first = ((λ e. inr refl), ((λ e. inl refl), tt));
}

-- the flow of priority 7 is not
pub priority_seven_is_not_served_before_a_polled_flow : IsNext base (highest ∷ polled_waiting ∷ []) 844 36 highest → ⊥
priority_seven_is_not_served_before_a_polled_flow next = elim (next.first.1.0 polled_is_eligible) [
  | inl e ↦ absurd (omega (arith, ap (λ f. f.sid) e))
  | inr e ↦ cc
]
