-- The batches of a flow's requests: since when it waits, with grants and with a request more.
use Rattle.std.proofs.Common.{◌≡◌, ◌≢◌, ℕ, ◌+◌, ◌<◌, ◌≤◌, min, nat_le, ◌==◌, true, false, Option, None, Some}
use Rattle.std.proofs.Common.{unwrap_or, refl, subst, inl, inr, ap, ◌∙◌, arith}
use Rattle.std.proofs.lemmas.Bool.{cases_eq, cases_lt}
use Rattle.std.proofs.lemmas.Bool.Decides.{nat_tests}
use Rattle.flow_book.specs.declared.batches.Batches.{Batches}
use Rattle.flow_book.specs.Batches.{with_request, since_of}

over : (b : Batches) (granted : ℕ) → b.end ≤ granted → since_of b granted ≡ unwrap_or b.second b.first
over b granted le = let test : nat_le b.end granted ≡ true = grind (arith, nat_tests) in rw test refl

not-over : (b : Batches) (granted : ℕ) → granted < b.end
    → since_of b granted ≡ min b.first (unwrap_or b.second b.first)
not-over b granted lt = let test : nat_le b.end granted ≡ false = grind (arith, nat_tests) in rw test refl

-- with more granted a flow waits since no earlier minislot
pub since-rises : (b : Batches) (granted more : ℕ) → granted ≤ more → since_of b granted ≤ since_of b more
since-rises b granted more le = elim (cases_lt more b.end) [
  | inl lt ↦ omega (arith, not-over b granted (omega arith), not-over b more lt)
  | inr not_lt ↦ elim (cases_lt granted b.end) [
    | inl lt ↦ omega (arith, not-over b granted lt, over b more (omega arith))
    | inr neither ↦ omega (arith, over b granted (omega arith), over b more (omega arith))
  ]
]

-- A request, with so many bytes asked up to it, stands in the batches of a flow where it waits
pub record IsIn (b : Batches) (asked granted upto heard : ℕ) : Type 0 where
  pub counted : upto ≤ asked
  pub first : granted < upto → upto ≤ b.end → b.first ≤ heard
  pub second : granted < upto → b.end < upto → (s : ℕ) × (b.second ≡ Some s) × (s ≤ heard)

-- so it does with more granted
pub in-granted : (b : Batches) (asked granted more upto heard : ℕ) → granted ≤ more → IsIn b asked granted upto heard
    → IsIn b asked more upto heard
in-granted b asked granted more upto heard le is = record {
  counted = is.counted;
  first = λ lt within. is.first (omega arith) within;
  second = λ lt behind. is.second (omega arith) behind;
}

-- the flow waits since no later minislot
pub since-in : (b : Batches) (asked granted upto heard : ℕ) → granted < upto → IsIn b asked granted upto heard
    → since_of b granted ≤ heard
since-in b asked granted upto heard lt is = elim (cases_lt b.end upto) [
  | inl behind ↦
      let s = is.second lt behind in
      let at : unwrap_or b.second b.first ≡ s.0 = ap (λ o. unwrap_or o b.first) s.1 in
      elim (cases_lt granted b.end) [
        | inl some ↦ omega (arith, not-over b granted some, at, s.2)
        | inr none ↦ omega (arith, over b granted (omega arith), at, s.2)
      ]
  | inr within ↦ omega (arith, not-over b granted (omega arith), is.first lt (omega arith))
]

-- a flow whose requests were replaced waits since the one that did
pub alone-since : (end first granted : ℕ) → since_of (record { end = end; first = first; second = None }) granted ≡ first
alone-since end first granted =
    let b : Batches = record { end = end; first = first; second = None } in
    elim (cases_lt granted end) [
      | inl lt ↦ not-over b granted lt ∙ omega arith
      | inr not_lt ↦ over b granted (omega arith)
    ]

second-waited : (o : Option ℕ) (first heard slot : ℕ) → slot ≤ heard
    → min first (min (unwrap_or o heard) heard) < slot → min first (unwrap_or o first) < slot
second-waited None first heard slot le earlier = omega (arith, earlier)
second-waited (Some s) first heard slot le earlier = omega (arith, earlier)

both-waited : (end first : ℕ) (o : Option ℕ) (granted heard slot : ℕ) {since : ℕ} → slot ≤ heard → granted < end
    → since_of (record { end = end; first = first; second = Some (min (unwrap_or o heard) heard) }) granted < slot
    → since ≡ min first (unwrap_or o first) → since < slot
both-waited end first o granted heard slot le some earlier is =
    let b : Batches = record { end = end; first = first; second = Some (min (unwrap_or o heard) heard) } in
    let at = not-over b granted some in
    omega (arith, is, second-waited o first heard slot le (omega (arith, at, earlier)))

joined-waited : (asked first heard granted slot : ℕ) {since : ℕ} → slot ≤ heard
    → since_of (record { end = asked; first = first; second = Some heard }) granted < slot → since ≡ first
    → (granted < asked) × (since < slot)
joined-waited asked first heard granted slot le earlier is =
    let b : Batches = record { end = asked; first = first; second = Some heard } in
    elim (cases_lt granted asked) [
      | inl lt ↦ (lt, omega (arith, not-over b granted lt, earlier, is))
      | inr not_lt ↦ absurd (omega (arith, over b granted (omega arith), earlier))
    ]

-- with one request more
module _ (b : Batches) (asked granted bytes heard : ℕ) (ends : b.end ≤ asked) where
  abbrev new : Batches
  new = with_request b asked granted bytes heard

  alone : asked ≡ granted → new ≡ record { end = asked + bytes; first = heard; second = None }
  alone same = let test : (asked == granted) ≡ true = grind (arith, nat_tests) in rw test refl

  joins : asked ≢ granted → b.end ≤ granted
      → new ≡ record { end = asked; first = unwrap_or b.second b.first; second = Some heard }
  joins other le =
      let test : (asked == granted) ≡ false = grind (arith, nat_tests) in
      let done : nat_le b.end granted ≡ true = grind (arith, nat_tests) in rw (test, done) refl

  joins-both : asked ≢ granted → granted < b.end
      → new ≡ record { end = b.end; first = b.first; second = Some (min (unwrap_or b.second heard) heard) }
  joins-both other lt =
      let test : (asked == granted) ≡ false = grind (arith, nat_tests) in
      let done : nat_le b.end granted ≡ false = grind (arith, nat_tests) in rw (test, done) refl

  -- the first batch ends within what was asked
  pub ends-new : new.end ≤ asked + bytes
  ends-new = elim (cases_eq asked granted) [
    | inl same ↦ rw (alone same) (omega arith)
    | inr other ↦ elim (cases_lt granted b.end) [
      | inl lt ↦ rw (joins-both other lt) (omega arith)
      | inr not_lt ↦ rw (joins other (omega arith)) (omega arith)
    ]
  ]

  -- the earlier requests stand in the batches
  pub in-new : (upto earlier : ℕ) → IsIn b asked granted upto earlier → IsIn new (asked + bytes) granted upto earlier
  in-new upto earlier is = elim (cases_eq asked granted) [
    | inl same ↦ rw (alone same) (record {
      counted = omega (arith, is.counted);
      first = λ lt within. absurd (omega (arith, is.counted));
      second = λ lt behind. absurd (omega (arith, is.counted));
    })
    | inr other ↦ elim (cases_lt granted b.end) [
      | inl some ↦ rw (joins-both other some) (record {
        counted = omega (arith, is.counted);
        first = λ lt within. is.first lt within;
        second = λ lt behind. (
          min (unwrap_or b.second heard) heard,
          refl,
          (let s = is.second lt behind in omega (arith, s.2, ap (λ o. unwrap_or o heard) s.1)),
        );
      })
      | inr none ↦ rw (joins other (omega arith)) (record {
        counted = omega (arith, is.counted);
        first = λ lt within. let s = is.second lt (omega arith) in
            omega (arith, s.2, ap (λ o. unwrap_or o b.first) s.1);
        second = λ lt behind. absurd (omega (arith, is.counted));
      })
    ]
  ]

  -- and so does the new one
  pub in-last : 0 < bytes → IsIn new (asked + bytes) granted (asked + bytes) heard
  in-last some_bytes = elim (cases_eq asked granted) [
    | inl same ↦ rw (alone same) (record {
      counted = omega arith;
      first = λ lt within. omega arith;
      second = λ lt behind. absurd (omega arith);
    })
    | inr other ↦ elim (cases_lt granted b.end) [
      | inl some ↦ rw (joins-both other some) (record {
        counted = omega arith;
        first = λ lt within. absurd (omega arith);
        second = λ lt behind. (min (unwrap_or b.second heard) heard, refl, omega arith);
      })
      | inr none ↦ rw (joins other (omega arith)) (record {
        counted = omega arith;
        first = λ lt within. absurd (omega arith);
        second = λ lt behind. (heard, refl, omega arith);
      })
    ]
  ]

  -- where the flow waits since a minislot before that of the request it waited so before it
  pub waited : (slot : ℕ) → slot ≤ heard → since_of new granted < slot
      → (granted < asked) × (since_of b granted < slot)
  waited slot le earlier = elim (cases_eq asked granted) [
    | inl same ↦ absurd (omega (
      arith,
      alone-since (asked + bytes) heard granted,
      subst (λ k. since_of k granted < slot) (alone same) earlier,
    ))
    | inr other ↦ elim (cases_lt granted b.end) [
      | inl some ↦ (
        omega arith,
        both-waited b.end b.first b.second granted heard slot le some
            (subst (λ k. since_of k granted < slot) (joins-both other some) earlier) (not-over b granted some),
      )
      | inr none ↦
          joined-waited asked (unwrap_or b.second b.first) heard granted slot le
          (subst (λ k. since_of k granted < slot) (joins other (omega arith)) earlier)
          (over b granted (omega arith))
    ]
  ]
