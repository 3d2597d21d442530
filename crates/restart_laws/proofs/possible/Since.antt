-- Since when a flow waits, with a request more and with one in the place of others.
use Rattle.std.proofs.Common.{◌≡◌, refl, ℕ, ◌+◌, ◌<◌, ◌≤◌, ◌==◌, ◌&&◌, nat_lt, Bool, true, false, cond}
use Rattle.std.proofs.Common.{Option, None, Some, unwrap_or, min, inl, inr}
use Rattle.std.proofs.Common.{arith}
use Rattle.std.specs.Prelude.{IfSome}
use Rattle.std.proofs.lemmas.Bool.{cond_both, cases_Bool}
use Rattle.std.proofs.lemmas.Bool.Decides.{nat_tests}
use Rattle.minislots.specs.declared.config.Config.{Config}
use Rattle.flow_book.specs.Batches.{is_over, with_request, since_of}
use Rattle.flow_book.specs.Book.{with_asked, with_replaced}
use Rattle.flow_book.specs.declared.batches.Batches.{Batches}
use Rattle.flow_book.specs.Flows.{LiveFlow, granted}
use Rattle.flow_book.specs.Shown.{waits, since}
use Rattle.restart_laws.proofs.possible.Live.{IsPossibleLive, first-described}

-- a flow waits since before a minislot
abbrev pub waits_before : ℕ → LiveFlow → Bool
waits_before slot f = waits f && nat_lt (since f) slot

module _ (slot : ℕ) where
  -- where both batches are not from before a minislot the requests that wait are not
  since-from : (b : Batches) (given : ℕ) → slot ≤ b.first → IfSome b.second (λ s. slot ≤ s) → slot ≤ since_of b given
  since-from b given first second =
      let one = by-second b.second second in
      cond_both (is_over b given) (unwrap_or b.second b.first) (min b.first (unwrap_or b.second b.first))
      (λ n. slot ≤ n) (λ over. one) (λ left. omega (arith, one, first))
    where
      by-second : (o : Option ℕ) → IfSome o (λ s. slot ≤ s) → slot ≤ unwrap_or o b.first
      by-second None is = first
      by-second (Some s) is = is

  module _ (bytes heard : ℕ) (late : slot ≤ heard) where
    joined-late : (o : Option ℕ) (first : ℕ) → slot ≤ unwrap_or o first → slot ≤ min (unwrap_or o heard) heard
    joined-late None first is = omega (arith, late)
    joined-late (Some s) first is = omega (arith, late, is)

    -- nor are they with a request more that was heard at that minislot or later
    request-late : (b : Batches) (asked given : ℕ) → given ≤ asked → (given < asked → slot ≤ since_of b given)
        → slot ≤ since_of (with_request b asked given bytes heard) given
    request-late b asked given within is = by-tests (asked == given) (is_over b given) refl refl
      where
        by-tests : (same over : Bool) → (asked == given) ≡ same → is_over b given ≡ over → slot ≤ since_of
            (cond same (record { end = asked + bytes; first = heard; second = None })
            (cond over (record { end = asked; first = unwrap_or b.second b.first; second = Some heard })
            (record { end = b.end; first = b.first; second = Some (min (unwrap_or b.second heard) heard) }))) given
        by-tests true over test gone =
            since-from (record { end = asked + bytes; first = heard; second = None }) given late tt
        by-tests false true test gone =
            let waiting : given < asked = grind (arith, nat_tests) in
            since-from (record { end = asked; first = unwrap_or b.second b.first; second = Some heard }) given
            (rw gone at (is waiting)) late
        by-tests false false test gone =
            let waiting : given < asked = grind (arith, nat_tests) in
            let both : slot ≤ min b.first (unwrap_or b.second b.first) = rw gone at (is waiting) in
            since-from
            (record { end = b.end; first = b.first; second = Some (min (unwrap_or b.second heard) heard) }) given
            (omega (arith, both)) (joined-late b.second b.first (omega (arith, both)))

  late-test : (a : Bool) (n : ℕ) → slot ≤ n → (a && nat_lt n slot) ≡ false
  late-test true n le = grind (arith, nat_tests)
  late-test false n le = refl

  -- a flow that does not wait since before then
  not-before : (f : LiveFlow) → waits_before slot f ≡ false → granted f < f.asked → slot ≤ since f
  not-before f fails waiting =
      let some : waits f ≡ true = grind (arith, nat_tests) in grind (arith, nat_tests, some, fails)

  -- nor does one with such a request more
  pub asked-before : (bytes heard : ℕ) → slot ≤ heard → (f : LiveFlow) → granted f ≤ f.asked
      → waits_before slot (with_asked bytes heard f) ≡ true → waits_before slot f ≡ true
  asked-before bytes heard late f within holds = elim (cases_Bool (waits_before slot f)) [
    | inl yes' ↦ yes'
    | inr no' ↦ absurd (
        let on = request-late bytes heard late f.batches f.asked (granted f) within (not-before f no') in
        let none = late-test (waits (with_asked bytes heard f)) (since (with_asked bytes heard f)) on in cc)
  ]

  -- or with one in the place of others
  pub replaced-before : (bytes heard : ℕ) → slot ≤ heard → (f : LiveFlow)
      → waits_before slot (with_replaced bytes heard f) ≡ true → waits_before slot f ≡ true
  replaced-before bytes heard late f holds = absurd (
      let on = request-late bytes heard late f.batches (granted f) (granted f) (omega arith)
      (λ waiting. absurd (omega (arith, waiting))) in
      let none = late-test (waits (with_replaced bytes heard f)) (since (with_replaced bytes heard f)) on in cc)

-- a flow that waits does so since the channel's start at least
pub since-start : (c : Config) (next : ℕ) (f : LiveFlow) → IsPossibleLive c next f → waits f ≡ true → c.start ≤ since f
since-start c next f is waiting =
    let some : granted f < f.asked = grind (arith, nat_tests) in
    let are = is.requests some in
    let one = (first-described c next f.asked f.batches are).0 in
    cond_both (is_over f.batches (granted f)) (unwrap_or f.batches.second f.batches.first)
    (min f.batches.first (unwrap_or f.batches.second f.batches.first)) (λ n. c.start ≤ n) (λ over. one)
    (λ left. omega (arith, one, are.first_heard.0))
