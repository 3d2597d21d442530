-- How many entries come before a time, as a history grows.
use Rattle.std.proofs.Common.{◌≡◌, ℕ, ◌+◌, ◌*◌, ◌≤◌, Bool, true, false, List, [], ◌∷◌, ◌++◌, length, take, take_at, suc}
use Rattle.std.proofs.Common.{Option, None, Some, Result, Ok, Err, refl, sym, ap, ◌∙◌, subst, append_assoc}
use Rattle.std.proofs.Common.{if◌then◌else◌, arith}
use Rattle.std.specs.Result.{OnOk, OnErr}
use Rattle.sched_history.specs.declared.fault.JudgeFault.{JudgeFault}
use Rattle.std.specs.Prelude.{nat_le, min}
use Rattle.std.proofs.lemmas.List.{append-nil, length_push}
use Rattle.minislots.specs.declared.config.Config.{Config}
use Rattle.sched_calls.specs.declared.reply.Entry.{Entry}
use Rattle.sched_report.specs.Window.{Window}
use Rattle.report_command.specs.declared.range.Range.{Range}
use Rattle.report_command.specs.Range.{ticks_after, entries_before, entries_until, is_over, IsCut, window_of, IsRanged}

few-by : (b : Bool) (n m : ℕ) → n ≤ m → (if b then 0 else 1 + n) ≤ suc m
few-by true n m few = omega arith
few-by false n m few = omega (arith, few)

all-by : (b : Bool) (n k m r : ℕ) → (if b then 0 else 1 + n) ≡ suc m → (n ≡ m → k ≡ m + r)
    → (if b then 0 else 1 + k) ≡ suc m + r
all-by true n k m r all next = absurd (omega (arith, all))
all-by false n k m r all next = omega (arith, next (omega (arith, all)))

module _ (c : Config) (ms : ℕ) where
  -- they are no more than there are
  pub few-before : (before es : List Entry) → entries_before c ms before es ≤ length es
  few-before before [] = omega arith
  few-before before (e ∷ es) =
      few-by (nat_le (160 * ms) (ticks_after c before)) (entries_before c ms (before ++ e ∷ []) es) (length es)
      (few-before (before ++ e ∷ []) es)

  -- where all of some do, those of what follows come to them
  pub all-then : (before es rest : List Entry) → entries_before c ms before es ≡ length es
      → entries_before c ms before (es ++ rest) ≡ length es + entries_before c ms (before ++ es) rest
  all-then before [] rest all =
      omega (arith, ap (λ (b : List Entry). entries_before c ms b rest) (sym (append-nil before)))
  all-then before (e ∷ es) rest all =
      all-by (nat_le (160 * ms) (ticks_after c before)) (entries_before c ms (before ++ e ∷ []) es)
      (entries_before c ms (before ++ e ∷ []) (es ++ rest)) (length es)
      (entries_before c ms ((before ++ e ∷ []) ++ es) rest) all (all-then (before ++ e ∷ []) es rest)
      ∙ ap (λ (b : List Entry). suc (length es) + entries_before c ms b rest) (append_assoc before (e ∷ []) es)

  module _ (h : List Entry) (all : entries_before c ms [] h ≡ length h) where
    -- where the time has come none of what follows does
    pub come : nat_le (160 * ms) (ticks_after c h) ≡ true → (rest : List Entry)
        → entries_before c ms [] (h ++ rest) ≡ length h
    come is [] = omega (arith, all-then [] h [] all)
    come is (e ∷ rest) =
        omega (
          arith,
          all-then [] h (e ∷ rest) all,
          ap (λ b. if b then 0 else 1 + entries_before c ms (h ++ e ∷ []) rest) is,
        )

    -- and else one entry more does
    pub more-before : (e : Entry) → nat_le (160 * ms) (ticks_after c h) ≡ false
        → entries_before c ms [] (h ++ e ∷ []) ≡ length (h ++ e ∷ [])
    more-before e is =
        omega (
          arith,
          all-then [] h (e ∷ []) all,
          ap (λ b. if b then 0 else 1 + entries_before c ms (h ++ e ∷ []) []) is,
          length_push h e,
        )

-- one entry more comes before the end, where what is told is not over
pub more-until : (c : Config) (to : Option ℕ) (h : List Entry) (e : Entry) → entries_until c to h ≡ length h
    → is_over to (ticks_after c h) ≡ false → entries_until c to (h ++ e ∷ []) ≡ length (h ++ e ∷ [])
more-until c None h e all is = refl
more-until c (Some ms) h e all is = more-before c ms h all e is

-- no more do, where it is
pub cut-until : (c : Config) (to : Option ℕ) (h rest : List Entry) → entries_until c to h ≡ length h
    → IsCut rest (is_over to (ticks_after c h)) → entries_until c to (h ++ rest) ≡ length h
cut-until c None h [] all cut = ap length (append-nil h)
cut-until c None h (e ∷ rest) all cut = absurd (cc)
cut-until c (Some ms) h [] all cut = ap (entries_before c ms []) (append-nil h) ∙ all
cut-until c (Some ms) h (e ∷ rest) all cut = come c ms h all cut (e ∷ rest)

module _ (c : Config) (r : Range) (begun : Bool) (w : Window) (is : IsRanged c r begun w) where
  abbrev h : List Entry
  h = w.history

  -- the window of what was taken, and of what follows where it is over
  told : (rest : List Entry) → IsCut rest (is_over r.to (ticks_after w.config h)) → (passed : ℕ)
      → passed ≡ min (entries_before w.config r.from [] (h ++ rest)) (length h)
      → record w { passed = passed } ≡ window_of w.config r (h ++ rest)
  told rest cut passed few =
      let until : entries_until w.config r.to (h ++ rest) ≡ length h = cut-until w.config r.to h rest is.until cut in
      ap (λ (n : ℕ). record w { passed = n })
      (few ∙ ap (min (entries_before w.config r.from [] (h ++ rest))) (sym until))
      ∙ ap (λ (es : List Entry). record {
        config = w.config;
        history = es;
        passed = min (entries_before w.config r.from [] (h ++ rest)) (entries_until w.config r.to (h ++ rest));
      }) (sym (ap (λ (n : ℕ). take n (h ++ rest)) until ∙ take_at h rest (length h) refl))

  -- where it has begun
  pub told-begun : begun ≡ true → (rest : List Entry) → IsCut rest (is_over r.to (ticks_after w.config h))
      → w ≡ window_of w.config r (h ++ rest)
  told-begun has rest cut = told rest cut w.passed (omega (arith, is.after has rest, is.few))

  -- and where it begins behind all
  pub told-none : begun ≡ false → (rest : List Entry) → IsCut rest (is_over r.to (ticks_after w.config h))
      → record w { passed = length h } ≡ window_of w.config r (h ++ rest)
  told-none waits rest cut =
      told rest cut (length h) (omega (arith, all-then w.config r.from [] h rest (is.before waits)))

module _ (c : Config) (r : Range) (w : Window) (e : Entry)
    (going : is_over r.to (ticks_after w.config w.history) ≡ false) where
  -- one entry more, where what is told has begun
  pub ranged-begun : IsRanged c r true w → IsRanged c r true (record w { history = w.history ++ e ∷ [] })
  ranged-begun is = record {
    config = is.config;
    until = more-until w.config r.to w.history e is.until going;
    few = omega (arith, is.few, length_push w.history e);
    after = λ has rest. ap (entries_before w.config r.from []) (append_assoc w.history (e ∷ []) rest)
        ∙ is.after has (e ∷ rest);
    before = λ waits. absurd (cc);
  }

  -- and where it is not due
  pub ranged-waiting : nat_le (160 * r.from) (ticks_after w.config w.history) ≡ false → IsRanged c r false w
      → IsRanged c r false (record w { history = w.history ++ e ∷ [] })
  ranged-waiting early is = record {
    config = is.config;
    until = more-until w.config r.to w.history e is.until going;
    few = omega (arith, is.few, length_push w.history e);
    after = λ has. absurd (cc);
    before = λ waits. more-before w.config r.from w.history (is.before waits) e early;
  }

-- what is told begins where it is due
pub ranged-due : (c : Config) (r : Range) (w : Window) → nat_le (160 * r.from) (ticks_after w.config w.history) ≡ true
    → IsRanged c r false w → IsRanged c r true (record w { passed = length w.history })
ranged-due c r w due is = record {
  config = is.config;
  until = is.until;
  few = omega arith;
  after = λ has rest. come w.config r.from w.history (is.before refl) due rest;
  before = λ waits. absurd (cc);
}

-- one entry more, where what is told has begun or is not due
pub ranged-more : (c : Config) (r : Range) (begun : Bool) (w : Window) (e : Entry)
    → is_over r.to (ticks_after w.config w.history) ≡ false
    → (begun ≡ false → nat_le (160 * r.from) (ticks_after w.config w.history) ≡ false) → IsRanged c r begun w
    → IsRanged c r begun (record w { history = w.history ++ e ∷ [] })
ranged-more c r true w e going early is = ranged-begun c r w e going is
ranged-more c r false w e going early is = ranged-waiting c r w e going (early refl) is

-- an entry that is not taken changes nothing
pub ranged-taken : (c : Config) (r : Range) (begun : Bool) (old new : Window) (e : Entry)
    → (result : Result Unit JudgeFault) → OnOk result (new ≡ record old { history = old.history ++ e ∷ [] }) → OnErr result (new ≡ old)
    → IsRanged c r begun (record old { history = old.history ++ e ∷ [] }) → IsRanged c r begun old
    → IsRanged c r begun new
ranged-taken c r begun old new e (Ok x) taken err more same = subst (IsRanged c r begun) (sym taken) more
ranged-taken c r begun old new e (Err f) taken err more same = subst (IsRanged c r begun) (sym err) same

-- what is over may be followed by any entries
pub cut-any : (rest : List Entry) (over : Bool) → over ≡ true → IsCut rest over
cut-any [] over is = tt
cut-any (e ∷ rest) over is = is
