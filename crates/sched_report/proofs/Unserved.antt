-- Each request is served, replaced, or neither.
use Rattle.std.proofs.Common.{◌≡◌, ℕ, suc, ◌+◌, ◌-◌, ◌<◌, ◌≤◌, ◌&&◌, not, Bool, true, false, List, [], ◌∷◌, length, map}
use Rattle.std.proofs.Common.{Option, None, Some, refl, ap, ◌∙◌, inl, inr, cond, arith}
use Rattle.std.specs.Prelude.{count_by, is_none, option_map}
use Rattle.std.specs.List.{AllByRecursion, cons_option}
use Rattle.std.proofs.lemmas.Bool.Decides.{leb_tells}
use Rattle.std.proofs.lemmas.List.Sums.{sum_by-cons}
use Rattle.minislots.specs.declared.config.Config.{Config}
use Rattle.flow_book.specs.declared.flow.Grant.{Grant}
use Rattle.flow_book.specs.Flows.{bytes_of}
use Rattle.sched_report.specs.declared.service.Waiting.{Waiting}
use Rattle.sched_report.specs.Delays.{Claim, reaching, delay_until, delay_of, delays_of, replaced_of, unserved_of}
use Rattle.sched_report.specs.Served.{waits_with, with_grants, as_superseded, IsSettled}
use Rattle.sched_report.proofs.Reaching.{AreUnreached, reaching-none, yes, no, bytes-cons, delay-settled}
use Rattle.sched_report.proofs.Reaching.{superseded-same}

-- a grant reaches bytes that were granted
reaching-some : (n : ℕ) (grants : List Grant) → 0 < n → n ≤ bytes_of grants → is_none (reaching n grants) ≡ false
reaching-some n [] some within = absurd (omega (arith, some, within))
reaching-some n (g ∷ grants) some within =
    elim (leb_tells n g.bytes) [
      | inl here ↦ ap is_none (yes _ (Some g) (reaching (n - g.bytes) grants) here.0)
      | inr later ↦ ap is_none (no _ (Some g) (reaching (n - g.bytes) grants) later.0)
          ∙ reaching-some (n - g.bytes) grants (omega (arith, later.1))
          (omega (arith, within, later.1, bytes-cons g grants))
    ]

-- a delay is missing where the grant is
none_mapped : {X Y : Type 0} (f : X → Y) (o : Option X) → is_none (option_map f o) ≡ is_none o
none_mapped f None = refl
none_mapped f (Some x) = refl

-- a request more among those that pass a test
counted : (p : Claim → Bool) (m : Claim) (ms : List Claim) → count_by p (m ∷ ms) ≡ cond (p m) 1 0 + count_by p ms
counted p m ms = sum_by-cons (λ (m : Claim). cond (p m) 1 0) m ms

-- what one request counts
one : (superseded unserved : Bool)
    → cond (superseded && unserved) 1 0 + cond (not superseded && unserved) 1 0 ≡ cond unserved 1 0
one true true = refl
one true false = refl
one false true = refl
one false false = refl

length-option : {X : Type 0} (o : Option X) (xs : List X)
    → length (cons_option o xs) + cond (is_none o) 1 0 ≡ suc (length xs)
length-option None xs = omega arith
length-option (Some x) xs = omega arith

module _ (c : Config) where
  abbrev replaced : Claim → Bool
  replaced m = m.superseded && is_none (delay_of c m)

  abbrev unserved : Claim → Bool
  unserved m = not m.superseded && is_none (delay_of c m)

  -- each request was served, or was replaced, or is neither
  pub each_once : (ms : List Claim) → length ms ≡ length (delays_of c ms) + replaced_of c ms + unserved_of c ms
  each_once [] = refl
  each_once (m ∷ ms) =
      omega (
        arith,
        each_once ms,
        counted replaced m ms,
        counted unserved m ms,
        one m.superseded (is_none (delay_of c m)),
        length-option (delay_of c m) (delays_of c ms),
      )

  -- one that is settled is not neither
  pub settled-over : (grants : List Grant) (m : Claim) → IsSettled grants m → unserved m ≡ false
  settled-over grants m settled = elim settled [
    | inl superseded ↦ ap (λ b. not b && is_none (delay_of c m)) superseded
    | inr served ↦
        ap (λ b. not b && is_none (delay_of c m)) served.stays
        ∙ none_mapped (delay_until c m.heard) (reaching m.upto m.grants)
        ∙ reaching-some m.upto m.grants served.some (omega (arith, served.within, ap bytes_of served.sees))
  ]

  -- so none of them is
  pub unserved-settled : (grants : List Grant) (ms : List Claim) → AllByRecursion (IsSettled grants) ms
      → unserved_of c ms ≡ 0
  unserved-settled grants [] settled = refl
  unserved-settled grants (m ∷ ms) settled =
      omega (
        arith,
        counted unserved m ms,
        ap {B = ℕ} (λ (b : Bool). cond b 1 0) (settled-over grants m settled.0),
        unserved-settled grants ms settled.1,
      )

  -- one that waits is neither
  pub waiting-unserved : (grants : List Grant) (w : Waiting) → bytes_of grants < w.upto
      → unserved (waits_with grants w) ≡ true
  waiting-unserved grants w unreached =
      none_mapped (delay_until c w.heard) (reaching w.upto grants)
      ∙ ap is_none (reaching-none w.upto grants unreached)

  -- so all of them are
  pub unserved-waiting : (grants : List Grant) (ws : List Waiting) → AreUnreached (bytes_of grants) ws
      → unserved_of c (map (waits_with grants) ws) ≡ length ws
  unserved-waiting grants [] unreached = refl
  unserved-waiting grants (w ∷ ws) unreached =
      omega (
        arith,
        counted unserved (waits_with grants w) (map (waits_with grants) ws),
        ap {B = ℕ} (λ (b : Bool). cond b 1 0) (waiting-unserved grants w unreached.0),
        unserved-waiting grants ws unreached.1,
      )

  -- and none of them was replaced
  pub replaced-waiting : (grants : List Grant) (ws : List Waiting) → replaced_of c (map (waits_with grants) ws) ≡ 0
  replaced-waiting grants [] = refl
  replaced-waiting grants (w ∷ ws) =
      omega (
        arith,
        counted replaced (waits_with grants w) (map (waits_with grants) ws),
        replaced-waiting grants ws,
      )

  -- no grant more changes what is told of those that are settled
  pub delays-settled : (grants more : List Grant) (ms : List Claim) → AllByRecursion (IsSettled grants) ms
      → delays_of c (map (with_grants more) ms) ≡ delays_of c ms
  delays-settled grants more [] settled = refl
  delays-settled grants more (m ∷ ms) settled =
      ap (λ (o : Option ℕ). cons_option o (delays_of c (map (with_grants more) ms)))
      (delay-settled c grants more m settled.0)
      ∙ ap (λ (ds : List ℕ). cons_option (delay_of c m) ds) (delays-settled grants more ms settled.1)

  pub replaced-settled : (grants more : List Grant) (ms : List Claim) → AllByRecursion (IsSettled grants) ms
      → replaced_of c (map (with_grants more) ms) ≡ replaced_of c ms
  replaced-settled grants more [] settled = refl
  replaced-settled grants more (m ∷ ms) settled =
      let same : replaced (with_grants more m) ≡ replaced m =
      ap (λ b. b && is_none (delay_of c (with_grants more m))) (superseded-same more m)
      ∙ ap (λ (o : Option ℕ). m.superseded && is_none o) (delay-settled c grants more m settled.0) in
      omega (
        arith,
        counted replaced (with_grants more m) (map (with_grants more) ms),
        counted replaced m ms,
        ap {B = ℕ} (λ (b : Bool). cond b 1 0) same,
        replaced-settled grants more ms settled.1,
      )

  -- a request that supersedes them leaves their delays
  pub delays-superseded : (ms : List Claim) → delays_of c (map as_superseded ms) ≡ delays_of c ms
  delays-superseded [] = refl
  delays-superseded (m ∷ ms) = ap (λ (ds : List ℕ). cons_option (delay_of c m) ds) (delays-superseded ms)

  -- and replaces those that were neither served nor replaced
  pub replaced-superseded : (ms : List Claim)
      → replaced_of c (map as_superseded ms) ≡ replaced_of c ms + unserved_of c ms
  replaced-superseded [] = refl
  replaced-superseded (m ∷ ms) =
      omega (
        arith,
        counted replaced (as_superseded m) (map as_superseded ms),
        counted replaced m ms,
        counted unserved m ms,
        one m.superseded (is_none (delay_of c m)),
        replaced-superseded ms,
      )
