-- Worked examples of placements that are taken, and of lawful ones that are not.
use Rattle.std.proofs.Common.{◌≡◌, ℕ, ◌%◌, ◌<◌, List, [], ◌∷◌, refl, subst, inl, inr, lit<, lit≤, arith}
use Rattle.std.proofs.lemmas.Bool.{cases_eq}
use Rattle.sched_calls.specs.declared.spec.FlowSpec.{FlowSpec}
use Rattle.sched_calls.specs.FlowSpec.{interval_frames}
use Rattle.sched_calls.proofs.Base.{base}
use Rattle.sched_calls.specs.declared.placement.Placement.{Placement}
use Rattle.periodic.specs.Placement.{Placed, phase_of, offset_of, spots_in, starts_in, AreLawfulStarts, IsPlacement}
use Rattle.periodic.specs.Choice.{AreEarlier, IsChosen}
use Rattle.periodic.proofs.Counting.{no-starts}
use Rattle.periodic.proofs.Counting.{few-grants}
use Rattle.periodic.proofs.Earlier.{none-before-none}
use Rattle.periodic.proofs.RowsGrants.{double_voice, two_grants_of_a_frame_stand_one_behind_the_other}
use Rattle.periodic.proofs.RowsPlacement.{voice, placement, first_placed, voice_at, each-of-two, one-start, AreLawfulAt}
use Rattle.periodic.proofs.RowsPlacement.{the_first_flow_stands_behind_the_requests}
use Rattle.periodic.proofs.RowsPlacement.{the_second_flow_stands_behind_the_first}

-- no lawful starts in a frame at the nominal minislot 4 are earlier than these
abbrev AreFirstBeside : FlowSpec → List Placed → ℕ → List ℕ → Type 0
AreFirstBeside spec table place starts = (others : List ℕ)
    → AreLawfulStarts base spec 4 (spots_in base place table) others → AreEarlier others starts → ⊥

-- a placement of the first frame and the first minislot behind the requests is taken where no lawful ones are earlier
chosen-first : (spec : FlowSpec) (table : List Placed) (p : Placement) → interval_frames base spec ≡ 10
    → phase_of base spec p ≡ 0 → offset_of base p ≡ 4 → IsPlacement base table spec 800 p
    → AreFirstBeside spec table 0 (starts_in base spec p 0) → AreFirstBeside spec table 10 (starts_in base spec p 10)
    → IsChosen base table spec 800 p
chosen-first spec table p frames phase offset lawful first second = record {
  lawful = lawful;
  first = λ other may before. elim before [
    | inl lower ↦ omega (arith, lower, phase)
    | inr later ↦ elim later.1 [
      | inl lower ↦ omega (arith, lower, offset, may.after_requests)
      | inr even ↦ elim (cases_eq (even.1.0 % interval_frames base spec) (phase_of base spec p)) [
        | inr differ ↦ none-before-none (starts_in base spec other even.1.0)
            (subst (AreEarlier (starts_in base spec other even.1.0)) (no-starts base spec p even.1.0 differ) even.1.2)
        | inl nominal ↦ (
            let here : even.1.0 % 10 ≡ 0 = subst (λ n. even.1.0 % n ≡ 0) frames (omega (arith, nominal, phase)) in
            let both : (place : ℕ) → place < 20 → place % 10 ≡ 0
            → AreFirstBeside spec table place (starts_in base spec p place) =
            each-of-two (λ place. AreFirstBeside spec table place (starts_in base spec p place)) 0 (lit< tt) first
            second in
            let theirs = may.starts.each even.1.0 even.1.1 (omega (arith, nominal, later.0)) in
            let level : offset_of base other ≡ 4 = omega (arith, even.0, offset) in
            both even.1.0 even.1.1 here (starts_in base spec other even.1.0)
            (subst (λ o. AreLawfulStarts base spec o (spots_in base even.1.0 table)
            (starts_in base spec other even.1.0)) level theirs) even.1.2)
      ]
    ]
  ];
}

-- the first flow is placed in the first frame, behind the request region
pub the_first_flow_takes_the_first_minislots : IsChosen base [] voice 800 (placement 804 (4 ∷ 4 ∷ []))
the_first_flow_takes_the_first_minislots =
    chosen-first voice [] (placement 804 (4 ∷ 4 ∷ [])) refl refl refl the_first_flow_stands_behind_the_requests
    (here 0) (here 10)
  where
    here : (place : ℕ) → AreFirstBeside voice [] place (4 ∷ [])
    here place [] are is = is
    here place (start ∷ starts) are is = elim is [
      | inl lower ↦ omega (arith, lower, are.each.0.after_nominal)
      | inr same ↦ none-before-none starts same.1
    ]

-- the second flow is placed behind it, with the same nominal times
pub the_second_flow_takes_the_next_minislots : IsChosen base (first_placed ∷ []) voice 800
    (placement 804 (19 ∷ 19 ∷ []))
the_second_flow_takes_the_next_minislots =
    chosen-first voice (first_placed ∷ []) (placement 804 (19 ∷ 19 ∷ [])) refl refl refl
    the_second_flow_stands_behind_the_first here here
  where
    here : (others : List ℕ) → AreLawfulStarts base voice 4 (voice_at 5 4 ∷ []) others → AreEarlier others (19 ∷ []) → ⊥
    here [] are is = is
    here (start ∷ starts) are is = elim is [
      | inl lower ↦ elim are.each.0.free.0 [
        | inl before ↦ omega (arith, before)
        | inr behind ↦ omega (arith, lower, behind)
      ]
      | inr same ↦ none-before-none starts same.1
    ]

-- of two grants in a frame the first takes the first minislots, and the second the next ones
pub two_grants_take_the_first_minislots : IsChosen base [] double_voice 800
    (placement 804 (4 ∷ 19 ∷ 4 ∷ 19 ∷ []))
two_grants_take_the_first_minislots =
    chosen-first double_voice [] (placement 804 (4 ∷ 19 ∷ 4 ∷ 19 ∷ [])) refl refl refl
    two_grants_of_a_frame_stand_one_behind_the_other (here 0) (here 10)
  where
    here : (place : ℕ) → AreFirstBeside double_voice [] place (4 ∷ 19 ∷ [])
    here place [] are is = is
    here place (start ∷ []) are is = absurd (omega (arith, are.count))
    here place (start ∷ next ∷ starts) are is = elim is [
      | inl lower ↦ omega (arith, lower, are.each.0.after_nominal)
      | inr same ↦ elim same.1 [
        | inl lower ↦ omega (arith, lower, same.0, are.in_turn.1.0)
        | inr alike ↦ none-before-none starts alike.1
      ]
    ]

-- a lawful placement whose second start is a minislot later
a_start_a_minislot_later : IsPlacement base [] voice 800 (placement 804 (4 ∷ 5 ∷ []))
a_start_a_minislot_later = record {
  not_before = lit≤ tt;
  first = lit< tt;
  after_requests = lit≤ tt;
  starts = record {
    count = refl;
    each = each-of-two (AreLawfulAt voice (placement 804 (4 ∷ 5 ∷ [])) []) 0 (lit< tt) here there;
  };
  few = few-grants base [] voice (placement 804 (4 ∷ 5 ∷ [])) (lit≤ tt);
} where
  here : AreLawfulStarts base voice 4 [] (4 ∷ [])
  here = one-start base voice 4 [] 4 refl
      (record { after_nominal = lit≤ tt; within_jitter = lit≤ tt; within_frame = lit≤ tt; free = tt })

  there : AreLawfulStarts base voice 4 [] (5 ∷ [])
  there = one-start base voice 4 [] 5 refl
      (record { after_nominal = lit≤ tt; within_jitter = lit≤ tt; within_frame = lit≤ tt; free = tt })

-- it is not taken
pub a_lawful_placement_with_a_later_start_is_not_taken :
    IsChosen base [] voice 800 (placement 804 (4 ∷ 5 ∷ [])) → ⊥
a_lawful_placement_with_a_later_start_is_not_taken is =
    is.first (placement 804 (4 ∷ 4 ∷ [])) the_first_flow_stands_behind_the_requests
    (inr (refl, inr (refl, (10, lit< tt, inl (lit< tt)))))
