-- Which grant serves a request, and the delays with one grant or one request more.
use Rattle.std.proofs.Common.{◌≡◌, ℕ, ◌+◌, ◌-◌, ◌<◌, ◌≤◌, Bool, true, false, List, [], ◌∷◌, ◌++◌, map}
use Rattle.std.proofs.Common.{Option, None, Some, refl, sym, ap, ◌∙◌, inl, inr, if◌then◌else◌, arith}
use Rattle.std.proofs.Common.{append_assoc, append-nil}
use Rattle.std.specs.Prelude.{min, max}
use Rattle.std.specs.List.{AllByRecursion}
use Rattle.std.specs.Option.{option_map_or}
use Rattle.std.proofs.lemmas.Bool.Decides.{leb_tells}
use Rattle.std.proofs.lemmas.List.Sums.{sum_by-cons}
use Rattle.minislots.specs.declared.config.Config.{Config}
use Rattle.flow_book.specs.declared.flow.Grant.{Grant}
use Rattle.flow_book.specs.Flows.{bytes_of}
use Rattle.sched_report.specs.declared.service.Waiting.{Waiting}
use Rattle.sched_report.specs.Delays.{Claim, reaching, delay_until, delay_of, delays_of, least_of, greatest_of}
use Rattle.sched_report.specs.Served.{waits_with, with_grants, IsSettled, AreAscending}

-- the bytes of a grant and of those behind it
pub bytes-cons : (g : Grant) (grants : List Grant) → bytes_of (g ∷ grants) ≡ g.bytes + bytes_of grants
bytes-cons g grants = sum_by-cons (λ (g : Grant). g.bytes) g grants

-- a choice whose test holds
pub yes : {X : Type 0} (b : Bool) (x y : X) → b ≡ true → (if b then x else y) ≡ x
yes b x y is = ap (λ (b : Bool). if b then x else y) is

-- a choice whose test does not hold
pub no : {X : Type 0} (b : Bool) (x y : X) → b ≡ false → (if b then x else y) ≡ y
no b x y is = ap (λ (b : Bool). if b then x else y) is

-- no grant reaches more bytes than there are
pub reaching-none : (n : ℕ) (grants : List Grant) → bytes_of grants < n → reaching n grants ≡ None
reaching-none n [] past = refl
reaching-none n (g ∷ grants) past =
    elim (leb_tells n g.bytes) [
      | inl here ↦ absurd (omega (arith, here.1, past, bytes-cons g grants))
      | inr later ↦ no _ (Some g) (reaching (n - g.bytes) grants) later.0
          ∙ reaching-none (n - g.bytes) grants (omega (arith, past, later.1, bytes-cons g grants))
    ]

-- where some grants reach the bytes, later ones change nothing
pub reaching-more : (n : ℕ) (grants more : List Grant) → 0 < n → n ≤ bytes_of grants
    → reaching n (grants ++ more) ≡ reaching n grants
reaching-more n [] more some within = absurd (omega (arith, some, within))
reaching-more n (g ∷ grants) more some within =
    elim (leb_tells n g.bytes) [
      | inl here ↦ yes _ (Some g) (reaching (n - g.bytes) (grants ++ more)) here.0
          ∙ sym (yes _ (Some g) (reaching (n - g.bytes) grants) here.0)
      | inr later ↦ no _ (Some g) (reaching (n - g.bytes) (grants ++ more)) later.0
          ∙ reaching-more (n - g.bytes) grants more (omega (arith, later.1))
          (omega (arith, within, later.1, bytes-cons g grants))
          ∙ sym (no _ (Some g) (reaching (n - g.bytes) grants) later.0)
    ]

-- where only the last one does, it is that
pub reaching-last : (n : ℕ) (grants : List Grant) (g : Grant) → bytes_of grants < n → n ≤ bytes_of grants + g.bytes
    → reaching n (grants ++ g ∷ []) ≡ Some g
reaching-last n [] g past within =
    elim (leb_tells n g.bytes) [
      | inl here ↦ yes _ (Some g) (reaching (n - g.bytes) []) here.0
      | inr later ↦ absurd (omega (arith, within, later.1))
    ]
reaching-last n (f ∷ grants) g past within =
    elim (leb_tells n f.bytes) [
      | inl here ↦ absurd (omega (arith, here.1, past, bytes-cons f grants))
      | inr later ↦ no _ (Some f) (reaching (n - f.bytes) (grants ++ g ∷ [])) later.0
          ∙ reaching-last (n - f.bytes) grants g (omega (arith, past, later.1, bytes-cons f grants))
          (omega (arith, within, later.1, bytes-cons f grants))
    ]

-- none of these requests was reached
abbrev pub AreUnreached : ℕ → List Waiting → Type 0
AreUnreached granted ws = AllByRecursion (λ w. granted < w.upto) ws

-- these are reached between
abbrev pub AreReachedBetween : ℕ → ℕ → List Waiting → Type 0
AreReachedBetween before after ws = AllByRecursion (λ w. (before < w.upto) × (w.upto ≤ after)) ws

-- requests that wait see each grant more
pub waits-more : (grants more : List Grant) (ws : List Waiting)
    → map (with_grants more) (map (waits_with grants) ws) ≡ map (waits_with (grants ++ more)) ws
waits-more grants more [] = refl
waits-more grants more (w ∷ ws) =
    ap (λ (ms : List Claim). waits_with (grants ++ more) w ∷ ms) (waits-more grants more ws)

-- no grant more leaves a request as it was
no_grants : (b : Bool) (m : Claim) → m.superseded ≡ b → (if b then m else record m { grants = m.grants ++ [] }) ≡ m
no_grants true m is = refl
no_grants false m is = ap (λ (gs : List Grant). record m { grants = gs }) (append-nil m.grants)

pub same_claims : (ms : List Claim) → map (with_grants []) ms ≡ ms
same_claims [] = refl
same_claims (m ∷ ms) =
    ap (λ (n : Claim). n ∷ map (with_grants []) ms) (no_grants m.superseded m refl)
    ∙ ap (λ (ns : List Claim). m ∷ ns) (same_claims ms)

-- some grants more, and then others
grants_then : (gs hs : List Grant) (b : Bool) (m : Claim) → m.superseded ≡ b
    → with_grants hs (with_grants gs m) ≡ with_grants (gs ++ hs) m
grants_then gs hs true m is =
    let first : with_grants gs m ≡ m = yes m.superseded m (record m { grants = m.grants ++ gs }) is in
    ap (with_grants hs) first ∙ yes m.superseded m (record m { grants = m.grants ++ hs }) is
    ∙ sym (yes m.superseded m (record m { grants = m.grants ++ (gs ++ hs) }) is)
grants_then gs hs false m is =
    let now : Claim = record m { grants = m.grants ++ gs } in
    let first : with_grants gs m ≡ now = no m.superseded m now is in
    ap (with_grants hs) first ∙ no now.superseded now (record now { grants = now.grants ++ hs }) is
    ∙ ap (λ (xs : List Grant). record m { grants = xs }) (append_assoc m.grants gs hs)
    ∙ sym (no m.superseded m (record m { grants = m.grants ++ (gs ++ hs) }) is)

pub claims_then : (gs hs : List Grant) (ms : List Claim)
    → map (with_grants hs) (map (with_grants gs) ms) ≡ map (with_grants (gs ++ hs)) ms
claims_then gs hs [] = refl
claims_then gs hs (m ∷ ms) =
    ap (λ (n : Claim). n ∷ map (with_grants hs) (map (with_grants gs) ms)) (grants_then gs hs m.superseded m refl)
    ∙ ap (λ (ns : List Claim). with_grants (gs ++ hs) m ∷ ns) (claims_then gs hs ms)

either_same : (b : Bool) (m : Claim) (more : List Grant)
    → (if b then m else record m { grants = m.grants ++ more }).superseded ≡ m.superseded
either_same true m more = refl
either_same false m more = refl

-- a request is superseded, or not, whatever more is granted
pub superseded-same : (more : List Grant) (m : Claim) → (with_grants more m).superseded ≡ m.superseded
superseded-same more m = either_same m.superseded m more

module _ (c : Config) where
  -- requests that no grant reaches have no delay
  pub delays-unreached : (grants : List Grant) (ws : List Waiting) → AreUnreached (bytes_of grants) ws
      → delays_of c (map (waits_with grants) ws) ≡ []
  delays-unreached grants [] none = refl
  delays-unreached grants (w ∷ ws) none =
      rw (reaching-none w.upto grants none.0) (delays-unreached grants ws none.1)

  -- those that the last grant reaches are served by it
  pub delays-last : (grants : List Grant) (g : Grant) (ws : List Waiting)
      → AreReachedBetween (bytes_of grants) (bytes_of grants + g.bytes) ws
      → delays_of c (map (waits_with (grants ++ g ∷ [])) ws) ≡ map (λ w. delay_until c w.heard g) ws
  delays-last grants g [] reached = refl
  delays-last grants g (w ∷ ws) reached =
      rw (reaching-last w.upto grants g reached.0.0 reached.0.1, delays-last grants g ws reached.1) refl

  -- no grant more changes the delay of a request that is settled
  pub delay-settled : (grants more : List Grant) (m : Claim) → IsSettled grants m
      → delay_of c (with_grants more m) ≡ delay_of c m
  delay-settled grants more m settled =
      elim settled [
        | inl over ↦ ap (delay_of c) (yes m.superseded m (record m { grants = m.grants ++ more }) over)
        | inr served ↦
            let seen : with_grants more m ≡ record m { grants = m.grants ++ more } =
            no m.superseded m (record m { grants = m.grants ++ more }) served.stays in
            let same : reaching m.upto (m.grants ++ more) ≡ reaching m.upto m.grants =
            reaching-more m.upto m.grants more served.some
            (omega (arith, served.within, ap bytes_of served.sees)) in
            ap (delay_of c) seen ∙ rw same refl
      ]

-- the least of three, in two orders
least_step : (o : Option ℕ) (m n : ℕ)
    → min m (option_map_or (λ least. min least n) o n) ≡ min (option_map_or (λ least. min m least) o m) n
least_step None m n = refl
least_step (Some k) m n = omega arith

-- the least of numbers with one more
pub least_of-push : (ns : List ℕ) (n : ℕ)
    → least_of (ns ++ n ∷ []) ≡ Some (option_map_or (λ least. min least n) (least_of ns) n)
least_of-push [] n = refl
least_of-push (m ∷ ns) n = rw (least_of-push ns n) (ap Some (least_step (least_of ns) m n))

-- the greatest of three, in two orders
greatest_step : (o : Option ℕ) (m n : ℕ)
    → max m (option_map_or (λ greatest. max greatest n) o n) ≡ max (option_map_or (λ greatest. max m greatest) o m) n
greatest_step None m n = refl
greatest_step (Some k) m n = omega arith

-- the greatest of numbers with one more
pub greatest_of-push : (ns : List ℕ) (n : ℕ)
    → greatest_of (ns ++ n ∷ []) ≡ Some (option_map_or (λ greatest. max greatest n) (greatest_of ns) n)
greatest_of-push [] n = refl
greatest_of-push (m ∷ ns) n = rw (greatest_of-push ns n) (ap Some (greatest_step (greatest_of ns) m n))

-- more may have been asked by the last of some requests
pub ascending-within : (from last most : ℕ) (ws : List Waiting) → last ≤ most → AreAscending from last ws
    → AreAscending from most ws
ascending-within from last most [] le ascend = tt
ascending-within from last most (w ∷ ws) le ascend =
    (ascend.0, omega (arith, ascend.1, le), ascending-within w.upto last most ws le ascend.2)

-- a request more asks more than all before it
pub ascending-push : (from last : ℕ) (ws : List Waiting) (w : Waiting) → from ≤ last → last ≤ w.upto
    → AreAscending from last ws → AreAscending from w.upto (ws ++ w ∷ [])
ascending-push from last [] w first le ascend = (omega (arith, first, le), omega arith, tt)
ascending-push from last (v ∷ ws) w first le ascend = (
  ascend.0,
  omega (arith, ascend.1, le),
  ascending-push v.upto last ws w ascend.1 le ascend.2,
)

-- so do those behind some of them
pub ascending-behind : (from last : ℕ) (some ws : List Waiting) → AreAscending from last (some ++ ws)
    → AreAscending 0 last ws
ascending-behind from last [] [] ascend = tt
ascending-behind from last [] (w ∷ ws) ascend = (omega arith, ascend.1, ascend.2)
ascending-behind from last (v ∷ some) ws ascend = ascending-behind v.upto last some ws ascend.2

-- where the first is not reached none is
pub unreached-first : (granted from last : ℕ) (ws : List Waiting) → granted < from → AreAscending from last ws
    → AreUnreached granted ws
unreached-first granted from last [] past ascend = tt
unreached-first granted from last (w ∷ ws) past ascend =
    (omega (arith, past, ascend.0), unreached-first granted w.upto last ws (omega (arith, past, ascend.0)) ascend.2)
