-- From what the ceilings leave to a flow follow its amount and whether it may be served.
use Rattle.std.proofs.Common.{◌≡◌, refl, sym, ap, subst, ℕ, ◌<◌, ◌≤◌, ◌==◌, min, Bool, true, false, not, cond, nat_eq, IsTrue, ◌↔◌, inl, inr, arith}
use Rattle.std.proofs.lemmas.Bool.{cases_eq}
use Rattle.std.proofs.lemmas.Bool.Decides.{nat_tests}
use Rattle.minislots.specs.declared.config.Config.{Config}
use Rattle.minislots.specs.Config.{IsLawful, HasBounds}
use Rattle.minislots.specs.Bursts.{HasBursts}
use Rattle.minislots.specs.Units.{slots_for, bytes_in}
use Rattle.minislots.proofs.Bounds.{bounds_of}
use Rattle.minislots.proofs.UnitLaws.{fits_bytes, fits_slots}
use Rattle.sched_calls.specs.FlowSpec.{takes_requests, rate_of, burst_of, peak_of, reserved_of, reserved_burst_of}
use Rattle.sched_calls.specs.declared.spec.TheConstants.{PEAK_BURST}
use Rattle.flow_book.specs.declared.limits.Limits.{Limits}
use Rattle.flow_book.specs.Flows.{LiveFlow, outstanding, and_grant, HaveStartedBy}
use Rattle.flow_book.specs.Choice.{KeepsWith, MayGrant, IsAmount, IsMost, IsEligible}
use Rattle.flow_book.specs.Bucket.{most_of, reserves}
use Rattle.flow_book.specs.Ceiling.{KeepsCeiling}
use Rattle.flow_book.specs.Reserved.{wanted_of, is_under}
use Rattle.flow_book.proofs.Reservation.{both-hold, under-reserves}
use Rattle.flow_book.specs.Limits.{ChargesAtGrants, AreLimitsOf, most_in, most_with}
use Rattle.flow_book.proofs.Buckets.{most-within, most-kept, most-greatest}

module _ (c : Config) (f : LiveFlow) (start room limit most : ℕ) where
  -- of the bytes up to the limit the flow may have these under its ceiling, and no more
  pub record IsWithin : Type 0 where
    pub within : most ≤ limit
    pub keeps : (n : ℕ) → 0 < n → n ≤ most → KeepsWith c f start n
    pub greatest : (n : ℕ) → 0 < n → n ≤ limit → KeepsWith c f start n → n ≤ most

  -- with the limit of what is outstanding, capped and fits these are the most
  pub most-is : HasBursts c.bursts → limit ≡ min (min (outstanding f) c.grant_cap) (bytes_in c room) → IsWithin
      → IsMost c f start room most
  most-is carries limits is =
      let no_more : (n : ℕ) → MayGrant c f start room n → n ≤ most =
      λ n may. is.greatest n may.positive
      (omega (arith, may.asked, may.capped, fits_bytes c carries n room may.taken.fits)) may.taken.ceiling in
      record {
        amount = λ some. record {
          allowed = record {
            positive = some;
            asked = omega (arith, is.within);
            capped = omega (arith, is.within);
            taken = record {
              ceiling = is.keeps most some (omega arith);
              fits = fits_slots c carries most room some (omega (arith, is.within));
            };
          };
          greatest = no_more;
        };
        none = λ zero n may. omega (arith, no_more n may, may.positive);
      }

  -- the flow may be served where it may have the whole limit
  pub eligible-is : takes_requests f.spec ≡ true → limit ≡ min (outstanding f) c.quantum → 0 < limit
      → slots_for c limit ≤ room → IsWithin → IsTrue (nat_eq most limit) ↔ IsEligible c start room f
  eligible-is serves limits some fits is =
      let whole : IsTrue (nat_eq most limit) → IsEligible c start room f = λ all.
      let e : most ≡ limit = grind (arith, nat_tests) in
      record {
        serves = serves;
        waits = omega arith;
        takes = record {
          ceiling = subst (λ (n : ℕ). KeepsWith c f start n) limits (is.keeps limit some (omega arith));
          fits = subst (λ (n : ℕ). slots_for c n ≤ room) limits fits;
        };
      } in
      let same : IsEligible c start room f → IsTrue (nat_eq most limit) = λ may.
      let kept : KeepsWith c f start limit = subst (λ (n : ℕ). KeepsWith c f start n) (sym limits) may.takes.ceiling in
      let le : limit ≤ most = is.greatest limit some (omega arith) kept in
      let e : most ≡ limit = omega (arith, is.within) in
      grind (arith, nat_tests) in
      (whole, same)

-- of the bytes up to a limit the flow may have what its buckets have, under its reservation no more than that leaves
module _ (c : Config) (f : LiveFlow) (l : Limits) (start room limit most : ℕ) (stand : AreLimitsOf c f l)
    (has : ChargesAtGrants f) (started : HaveStartedBy start f.grants) where
  abbrev cap : Bool → ℕ
  cap b = cond b (most_of l.reserved start limit) limit

  under : is_under c start f ≡ reserves l.reserved start (wanted_of c f)
  under = under-reserves c f l start stand has started

  -- what both ceilings leave of some bytes is no more than these
  most-below : (n : ℕ) → most_in l start n ≤ most_of l.peak start n × (most_of l.peak start n ≤ n)
  most-below n = (
    most-within c (rate_of f.spec) (burst_of f.spec) l.sustained f.sustained stand.sustained start 0 (has.sustained start started)
        (most_of l.peak start n),
    most-within c (peak_of f.spec) PEAK_BURST l.peak f.peak stand.peak start 0 (has.peak start started) n,
  )

  -- and no more than a reservation leaves where that counts
  cap-below : (b : Bool) → cap b ≤ limit
  cap-below true =
      most-within c (reserved_of f.spec) (reserved_burst_of f.spec) l.reserved f.reserved stand.reserved
      start 0 (has.reserved start started) limit
  cap-below false = omega arith

  reserved-kept : (b : Bool) (n : ℕ) → is_under c start f ≡ b → n ≤ cap b → is_under c start f ≡ true
      → KeepsCeiling c (reserved_of f.spec) (reserved_burst_of f.spec)
      (and_grant f.reserved start n)
  reserved-kept true n is le yes' =
      most-kept c (reserved_of f.spec) (reserved_burst_of f.spec) l.reserved f.reserved stand.reserved
      start n (has.reserved start started) limit le
  reserved-kept false n is le yes' = absurd (cc)

  cap-greatest : (b : Bool) (n : ℕ) → is_under c start f ≡ b → n ≤ limit → KeepsWith c f start n → n ≤ cap b
  cap-greatest true n is le kept =
      most-greatest c (reserved_of f.spec) (reserved_burst_of f.spec) l.reserved f.reserved stand.reserved
      start n (has.reserved start started) limit le (kept.reserved is)
  cap-greatest false n is le kept = le

  within-by : (b : Bool) → is_under c start f ≡ b → most ≡ most_in l start (cap b) → IsWithin c f start room limit most
  within-by b is same =
      let below = most-below (cap b) in
      let under-cap = cap-below b in
      record {
        within = omega (arith, same, below.0, below.1, under-cap);
        keeps = λ n some le. record {
          sustained = most-kept c (rate_of f.spec) (burst_of f.spec) l.sustained f.sustained stand.sustained start n
              (has.sustained start started) (most_of l.peak start (cap b)) (omega (arith, le, same));
          peak = most-kept c (peak_of f.spec) PEAK_BURST l.peak f.peak stand.peak start n (has.peak start started) (cap b)
              (omega (arith, le, same, below.0));
          reserved = reserved-kept b n is (omega (arith, le, same, below.0, below.1));
        };
        greatest = λ n some le kept.
            let low = cap-greatest b n is le kept in
            let fits = most-greatest c (peak_of f.spec) PEAK_BURST l.peak f.peak stand.peak start n
            (has.peak start started) (cap b) low kept.peak in
            let all = most-greatest c (rate_of f.spec) (burst_of f.spec) l.sustained f.sustained stand.sustained start
            n (has.sustained start started) (most_of l.peak start (cap b)) fits kept.sustained in
            omega (arith, all, same);
      }

  pub limits-within : most ≡ most_with l start (wanted_of c f) limit → IsWithin c f start room limit most
  limits-within is =
      within-by (reserves l.reserved start (wanted_of c f)) under is

-- of what is wanted at least a reservation leaves all where it counts
pub wanted-whole : (l : Limits) (start wanted : ℕ) → most_with l start wanted wanted ≡ most_in l start wanted
wanted-whole l start wanted = ap (most_in l start) (whole (reserves l.reserved start wanted) refl)
  where
    whole : (b : Bool) → reserves l.reserved start wanted ≡ b
        → cond b (most_of l.reserved start wanted) wanted ≡ wanted
    whole true is =
        let all : (most_of l.reserved start wanted == wanted) ≡ true =
        (both-hold (not (l.reserved.per_slot == 0)) (most_of l.reserved start wanted == wanted) is).1 in
        grind (arith, nat_tests)
    whole false is = refl

-- so with the limit of what is outstanding, capped and fits, what the buckets have are the most
pub most-in-limits : (c : Config) (f : LiveFlow) (l : Limits) (start room limit most : ℕ) → IsLawful c
    → limit ≡ min (min (outstanding f) c.grant_cap) (bytes_in c room)
    → AreLimitsOf c f l → ChargesAtGrants f → HaveStartedBy start f.grants
    → most ≡ most_with l start (wanted_of c f) limit → IsMost c f start room most
most-in-limits c f l start room limit most lawful limits are has started is =
    most-is c f start room limit most (bounds_of c lawful).bursts limits
    (limits-within c f l start room limit most are has started is)

-- the cap is the same before and after it is asked what fits
pub capped-once : (limit asked cap room left : ℕ) → room ≡ min left cap → limit ≡ min (min asked cap) room
    → limit ≡ min (min asked cap) left
capped-once limit asked cap room left is limits = omega arith

module _ (c : Config) (lawful : IsLawful c) (start room : ℕ) where
  -- an eligible flow may be granted some bytes
  some_may : (f : LiveFlow) → IsEligible c start room f → MayGrant c f start room (min (outstanding f) c.quantum)
  some_may f may =
      let bounds : HasBounds c = bounds_of c lawful in
      record {
        positive = omega (arith, may.waits, bounds.quantum_least);
        asked = omega arith;
        capped = omega (arith, bounds.cap_least);
        taken = may.takes;
      }

  -- so the most that it may be granted are its amount
  pub amount-of_most : (f : LiveFlow) (bytes : ℕ) → IsEligible c start room f → IsMost c f start room bytes
      → IsAmount c f start room bytes
  amount-of_most f bytes may is = elim (cases_eq bytes 0) [
    | inl none ↦ absurd (is.none none (min (outstanding f) c.quantum) (some_may f may))
    | inr some ↦ is.amount (omega arith)
  ]

-- a flow may have some bytes where its buckets have all of them
pub keeps-most : (c : Config) (f : LiveFlow) (l : Limits) (start bytes : ℕ) → AreLimitsOf c f l → ChargesAtGrants f
    → HaveStartedBy start f.grants → KeepsWith c f start bytes → most_with l start (wanted_of c f) bytes ≡ bytes
keeps-most c f l start bytes stand has started kept =
    let is = limits-within c f l start 0 bytes (most_with l start (wanted_of c f) bytes) stand has started refl in
    elim (cases_eq bytes 0) [
      | inl none ↦ omega (arith, is.within, none)
      | inr some ↦ omega (arith, is.within, is.greatest bytes (omega (arith, some)) (omega arith) kept)
    ]
