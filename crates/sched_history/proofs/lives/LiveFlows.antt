-- The live flows and placements of a history in which no SID has a life, or one, or two.
use Rattle.std.proofs.Common.{◌≡◌, ◌≢◌, ℕ, zero, suc, ◌+◌, ◌≤◌, ◌<◌, List, [], ◌∷◌, Option}
use Rattle.std.proofs.Common.{None, Some, refl, sym, ap, ◌∙◌, arith, inl, inr}
use Rattle.std.proofs.lemmas.Bool.{cases_eq}
use Rattle.std.specs.List.{filter_map}
use Rattle.std.specs.Option.{option_and_then}
use Rattle.minislots.specs.declared.config.Config.{Config}
use Rattle.periodic.specs.Placement.{count_from, Placed}
use Rattle.sched_calls.specs.declared.reply.Entry.{Entry}
use Rattle.sched_history.specs.Life.{Life, life_of, given_in, flow_in_life, placed_in_life, sids, flows_of, table_of}
use Rattle.sched_history.proofs.lives.Finding.{sids-range, flow_at, placed_at}

-- of numbers of which f says nothing nothing is left
filter_map-none : {Y : Type 0} (f : ℕ → Option Y) (first n : ℕ) → ((x : ℕ) → first ≤ x → f x ≡ None)
    → filter_map f (count_from first n) ≡ []
filter_map-none f first zero none = refl
filter_map-none f first (suc n) none =
    rw (none first (omega arith)) (filter_map-none f (first + 1) n (λ x h. none x (omega arith)))

-- of numbers of which f says something of one alone that is left
filter_map-one : {Y : Type 0} (f : ℕ → Option Y) (s first n : ℕ) (y : Y) → first ≤ s → s < first + n → f s ≡ Some y
    → ((x : ℕ) → first ≤ x → x ≢ s → f x ≡ None)
    → filter_map f (count_from first n) ≡ y ∷ []
filter_map-one f s first zero y low high one others = absurd (omega arith)
filter_map-one f s first (suc n) y low high one others = elim (cases_eq first s) [
  | inl e ↦
      rw (e, one) (ap (λ ys. y ∷ ys) (filter_map-none f (s + 1) n (λ x above. others x (omega arith) (omega arith))))
  | inr other ↦ rw (others first (omega arith) other)
      (filter_map-one f s (first + 1) n y (omega arith) (omega arith) one (λ x above. others x (omega arith)))
]

-- of numbers of which f says something of two alone these are left, in order
filter_map-two : {Y : Type 0} (f : ℕ → Option Y) (s t first n : ℕ) (x y : Y) → first ≤ s → s < t → t < first + n
    → f s ≡ Some x → f t ≡ Some y
    → ((z : ℕ) → z ≢ s → z ≢ t → f z ≡ None) → filter_map f (count_from first n) ≡ x ∷ y ∷ []
filter_map-two f s t first zero x y low up high one two others = absurd (omega arith)
filter_map-two f s t first (suc n) x y low up high one two others = elim (cases_eq first s) [
  | inl e ↦
      rw (e, one)
      (ap (λ ys. x ∷ ys)
      (filter_map-one f t (s + 1) n y (omega arith) (omega arith) two (λ z above. others z (omega arith))))
  | inr other ↦ rw (others first other (omega arith))
      (filter_map-two f s t (first + 1) n x y (omega arith) up (omega arith) one two others)
]

-- of SIDs of which f says nothing nothing is left
filter_map-sids-none : {Y : Type 0} (f : ℕ → Option Y) → ((sid : ℕ) → f sid ≡ None) → filter_map f sids ≡ []
filter_map-sids-none f none = rw sids-range.2 (filter_map-none f 1 sids-range.0 (λ sid above. none sid))

-- of SIDs of which f says something of one alone that is left
filter_map-sids-one : {Y : Type 0} (f : ℕ → Option Y) (s : ℕ) (y : Y) → 1 ≤ s → s ≤ 8191 → f s ≡ Some y
    → ((sid : ℕ) → sid ≢ s → f sid ≡ None) → filter_map f sids ≡ y ∷ []
filter_map-sids-one f s y low high one others =
    rw sids-range.2
    (filter_map-one f s 1 sids-range.0 y low (omega (arith, sids-range.1)) one (λ sid above. others sid))

-- of SIDs of which f says something of two alone these are left, in order
filter_map-sids-two : {Y : Type 0} (f : ℕ → Option Y) (s t : ℕ) (x y : Y) → 1 ≤ s → s < t → t ≤ 8191 → f s ≡ Some x
    → f t ≡ Some y → ((sid : ℕ) → sid ≢ s → sid ≢ t → f sid ≡ None)
    → filter_map f sids ≡ x ∷ y ∷ []
filter_map-sids-two f s t x y low up high one two others =
    rw sids-range.2 (filter_map-two f s t 1 sids-range.0 x y low up (omega (arith, sids-range.1)) one two others)

-- where no SID has a life no flow is live
pub flows_of-none : (c : Config) (h : List Entry) → ((sid : ℕ) → life_of sid h ≡ None) → flows_of c h ≡ []
flows_of-none c h none = filter_map-sids-none (flow_at c h) (λ sid. rw (none sid))

-- where one SID alone has a life that flow alone is live
pub flows_of-one : (c : Config) (h : List Entry) (s : ℕ) (life : Life) → 1 ≤ s → s ≤ 8191 → life_of s h ≡ Some life
    → ((sid : ℕ) → sid ≢ s → life_of sid h ≡ None) → flows_of c h ≡ flow_in_life c s life ∷ []
flows_of-one c h s life low high one others =
    filter_map-sids-one (flow_at c h) s (flow_in_life c s life) low high (rw one) (λ sid other. rw (others sid other))

-- where no SID has a life no flow is placed
pub table_of-none : (h : List Entry) → ((sid : ℕ) → life_of sid h ≡ None) → table_of h ≡ []
table_of-none h none = filter_map-sids-none (placed_at h) (λ sid. rw (none sid))

-- where one SID alone has a life, with this placement, that flow alone is placed
pub table_of-one : (h : List Entry) (s : ℕ) (life : Life) (placed : Placed) → 1 ≤ s → s ≤ 8191
    → life_of s h ≡ Some life → placed_in_life s life ≡ Some placed → ((sid : ℕ) → sid ≢ s → life_of sid h ≡ None)
    → table_of h ≡ placed ∷ []
table_of-one h s life placed low high one place others =
    filter_map-sids-one (placed_at h) s placed low high (rw one place) (λ sid other. rw (others sid other))

-- nothing is placed for a life without a place
placed_in_life-unplaced : (sid : ℕ) (o : Option Life)
    → ((life : Life) → o ≡ Some life → (given_in sid life).placement ≡ None) → option_and_then (placed_in_life sid) o ≡ None
placed_in_life-unplaced sid None unplaced = refl
placed_in_life-unplaced sid (Some life) unplaced = rw (unplaced life refl)

-- where no life has a place no flow is placed
pub table_of-unplaced : (h : List Entry)
    → ((sid : ℕ) (life : Life) → life_of sid h ≡ Some life → (given_in sid life).placement ≡ None) → table_of h ≡ []
table_of-unplaced h unplaced =
    filter_map-sids-none (placed_at h) (λ sid. placed_in_life-unplaced sid (life_of sid h) (unplaced sid))

-- where one SID alone has a life, without a place, no flow is placed
pub table_of-unplaced_one : (h : List Entry) (s : ℕ) (life : Life) → life_of s h ≡ Some life
    → (given_in s life).placement ≡ None → ((sid : ℕ) → sid ≢ s → life_of sid h ≡ None) → table_of h ≡ []
table_of-unplaced_one h s life one unplaced others = table_of-unplaced h (λ sid other lives. elim (cases_eq sid s) [
  | inl e ↦ (let same : Some other ≡ Some life = sym lives ∙ ap (λ x. life_of x h) e ∙ one in
      let them : other ≡ life = cc in rw (e, them) unplaced)
  | inr not_s ↦ (let never : Some other ≡ None = sym lives ∙ others sid not_s in cc)
])

-- where two SIDs alone have a life these two flows are live, in order
pub flows_of-two : (c : Config) (h : List Entry) (s t : ℕ) (life life' : Life) → 1 ≤ s → s < t → t ≤ 8191
    → life_of s h ≡ Some life
    → life_of t h ≡ Some life'
    → ((sid : ℕ) → sid ≢ s → sid ≢ t → life_of sid h ≡ None)
    → flows_of c h ≡ flow_in_life c s life ∷ flow_in_life c t life' ∷ []
flows_of-two c h s t life life' low up high one two others =
    filter_map-sids-two (flow_at c h) s t (flow_in_life c s life) (flow_in_life c t life') low up high (rw one) (rw two)
    (λ sid not_s not_t. rw (others sid not_s not_t))

-- where two SIDs alone have a life, with these placements, these two flows are placed, in order
pub table_of-two : (h : List Entry) (s t : ℕ) (life life' : Life) (placed placed' : Placed) → 1 ≤ s → s < t → t ≤ 8191
    → life_of s h ≡ Some life → life_of t h ≡ Some life'
    → placed_in_life s life ≡ Some placed → placed_in_life t life' ≡ Some placed'
    → ((sid : ℕ) → sid ≢ s → sid ≢ t → life_of sid h ≡ None) → table_of h ≡ placed ∷ placed' ∷ []
table_of-two h s t life life' placed placed' low up high one two place place' others =
    filter_map-sids-two (placed_at h) s t placed placed' low up high (rw one place) (rw two place')
    (λ sid not_s not_t. rw (others sid not_s not_t))

-- where two SIDs alone have a life, without a place, no flow is placed
pub table_of-unplaced_two : (h : List Entry) (s t : ℕ) (life life' : Life) → life_of s h ≡ Some life
    → life_of t h ≡ Some life' → (given_in s life).placement ≡ None → (given_in t life').placement ≡ None
    → ((sid : ℕ) → sid ≢ s → sid ≢ t → life_of sid h ≡ None) → table_of h ≡ []
table_of-unplaced_two h s t life life' one two unplaced unplaced' others =
    table_of-unplaced h (λ sid other lives. elim (cases_eq sid s) [
      | inl e ↦ (let same : Some other ≡ Some life = sym lives ∙ ap (λ x. life_of x h) e ∙ one in
          let them : other ≡ life = cc in rw (e, them) unplaced)
      | inr not_s ↦ elim (cases_eq sid t) [
        | inl e ↦ (let same : Some other ≡ Some life' = sym lives ∙ ap (λ x. life_of x h) e ∙ two in
            let them : other ≡ life' = cc in rw (e, them) unplaced')
        | inr not_t ↦ (let never : Some other ≡ None = sym lives ∙ others sid not_s not_t in cc)
      ]
    ])
