-- What is counted of flows that waited and stood so is of the lives of a history with one entry more.
use Rattle.std.proofs.Common.{◌≡◌, ℕ, ◌+◌, ◌*◌, ◌-◌, ◌<◌, ◌≤◌, Bool, true, false, List, [], ◌∷◌, ◌++◌, filter, length, map}
use Rattle.std.proofs.Common.{get_or, Option, None, Some, refl, sym, ap, ◌∙◌, subst, inl, inr, if◌then◌else◌, arith}
use Rattle.std.specs.Prelude.{is_some}
use Rattle.std.proofs.lemmas.Bool.{cases_lt}
use Rattle.std.proofs.lemmas.List.{append-nil, length-map, length_push, get_or-map, get_or_append_left}
use Rattle.std.proofs.lemmas.List.{get_or-append_right}
use Rattle.minislots.specs.declared.config.Config.{Config}
use Rattle.minislots.specs.Config.{IsLawful}
use Rattle.minislots.proofs.Bounds.{bounds_of}
use Rattle.flow_book.specs.Flows.{LiveFlow}
use Rattle.flow_book.specs.Standing.{waits_so}
use Rattle.flow_book.specs.declared.standing.Standing.{Standing}
use Rattle.flow_book.specs.declared.standing.Standing.TheVariants.{UnderReservation, AtCeiling}
use Rattle.sched_calls.specs.declared.reply.Reply.{Reply}
use Rattle.sched_calls.specs.declared.reply.Reply.TheVariants as replies
use Rattle.sched_calls.specs.declared.reply.Entry.{Entry}
use Rattle.sched_history.specs.Facts.{waits_by}
use Rattle.sched_history.specs.History.{IsLegal}
use Rattle.sched_history.specs.Life.{flows_of}
use Rattle.sched_history.specs.Settling.{settles_after}
use Rattle.sched_history.specs.Time.{next_after}
use Rattle.sched_history.proofs.steps.LegalBounds.{flows_of-few}
use Rattle.sched_report.specs.declared.life.LifeTally.{LifeTally}
use Rattle.sched_report.specs.declared.lives.Opening.{Opening}
use Rattle.sched_report.specs.Lives.{PastLife, opening_by, life_begun, lives_in, with_entry}
use Rattle.sched_report.specs.declared.waits.Waited.{Waited}
use Rattle.sched_report.specs.Told.{IsLifeOf}
use Rattle.sched_report.specs.WaitsIn.{times, waits_in}
use Rattle.sched_report.specs.Waits.{counted_by, HasCounted, AreWaits, MayCountWaits, AreWaited}
use Rattle.sched_report.proofs.LifeTold.{some_end}
use Rattle.sched_report.proofs.LivesEach.{life_in}
use Rattle.sched_report.proofs.PastLives.{lives_in-push}
use Rattle.sched_report.proofs.WaitsLaws.{counted-most, waits-with}

-- where a life begins, or none
pub some_opening : (o : Option Opening) → is_some o ≡ true → (p : Opening) × (o ≡ Some p)
some_opening (Some p) is = (p, refl)
some_opening None is = absurd (cc)

pub no_opening : (o : Option Opening) → is_some o ≡ false → o ≡ None
no_opening None is = refl
no_opening (Some p) is = absurd (cc)

-- one of a list that has a place
pub some_of : {X : Type 0} (xs : List X) (k : ℕ) → k < length xs → X
some_of [] k lt = absurd (omega (arith, lt))
some_of (x ∷ xs) k lt = x

passed-most : {X : Type 0} (p : X → Bool) (xs : List X) → length (filter p xs) ≤ length xs
passed-most p [] = omega arith
passed-most p (x ∷ xs) = by-test (passed-most p xs) (p x) refl
  where
    by-test : length (filter p xs) ≤ length xs → (b : Bool) → p x ≡ b → length (filter p (x ∷ xs)) ≤ length (x ∷ xs)
    by-test most true is = rw is (omega (arith, most))
    by-test most false is = rw is (omega (arith, most))

-- a MAP counts at most the flows that live
pub waits_by-few : (s : Standing) (c : Config) → IsLawful c → (h : List Entry) → IsLegal c h → (reply : Reply)
    → length (waits_by s c h reply) ≤ 8191
waits_by-few s c lawful h legal (replies.Built m) = by-settling (settles_after c h)
  where
    passes : LiveFlow → Bool
    passes = waits_so s c (next_after c h)

    by-settling : (b : Bool)
        → length {A = ℕ} (if b then [] else map (λ (f : LiveFlow). f.sid) (filter passes (flows_of c h))) ≤ 8191
    by-settling true = omega arith
    by-settling false = omega (
      arith,
      length-map (filter passes (flows_of c h)) (λ (f : LiveFlow). f.sid),
      passed-most passes (flows_of c h),
      flows_of-few c lawful h legal,
      (bounds_of c lawful).flows_most,
    )
waits_by-few s c lawful h legal reply = omega arith

module _ (s : Standing) (c : Config) (p : ℕ) (h : List Entry) (ts : List LifeTally) (old sids : List ℕ) (e : Entry)
    (may : MayCountWaits s c p h ts old sids e) (new : List ℕ) (long : length new ≡ length old)
    (counted : HasCounted sids ts old new) where
  -- so often the entry counts a life, as it is told
  counts : (t : LifeTally) (life : PastLife) → IsLifeOf c t life
      → counted_by sids t ≡ (if life.ended then 0 else times life.sid (waits_by s c h e.reply))
  counts t life is =
      ap (λ (b : Bool). if b then 0 else times t.sid sids)
      (some_end life.ended (next_after c (life.upto ++ life.since)) t.to is.to)
      ∙ ap (λ (sid : ℕ). if life.ended then 0 else times sid sids) is.sid
      ∙ ap (λ (all : List ℕ). if life.ended then 0 else times life.sid all) may.waits

  -- each life that there was is counted with the entry
  each-more : (k n : ℕ) (life : PastLife) → k < length new
      → get_or new k n ≡ waits_in s c (get_or (map (with_entry e) (lives_in p h)) k life)
  each-more k n life below =
      let ls : List PastLife = lives_in p h in
      let in_old : k < length old = omega (arith, below, long) in
      let in_lives : k < length ls = omega (arith, in_old, may.counts.long) in
      let in_told : k < length ts = omega (arith, in_lives, may.lives.long) in
      let t : LifeTally = some_of ts k in_told in
      let l : PastLife = get_or ls k life in
      counted k n t in_told
      ∙ ap (λ (m : ℕ). m + counted_by sids (get_or ts k t)) (may.counts.each k n life in_old)
      ∙ ap (λ (m : ℕ). waits_in s c l + m) (counts (get_or ts k t) l (may.lives.each k t life in_told))
      ∙ sym (waits-with s c h e l (life_in c p h may.legal may.passed_few k life in_lives))
      ∙ ap (waits_in s c) (sym (get_or-map (with_entry e) ls k life life in_lives))

  -- and few times
  few-more : (k n : ℕ) → k < length new → get_or new k n ≤ 8192 * length (h ++ e ∷ [])
  few-more k n below =
      let in_old : k < length old = omega (arith, below, long) in
      let in_told : k < length ts = omega (arith, in_old, may.counts.long, may.lives.long) in
      let t : LifeTally = some_of ts k in_told in
      omega (
        arith,
        counted k n t in_told,
        counted-most sids (get_or ts k t),
        ap length may.waits,
        waits_by-few s c may.lawful h may.legal e.reply,
        may.counts.few k n in_old,
        length_push h e,
      )

  -- where no life begins
  pub AreWaits-more : opening_by e.call e.reply ≡ None → AreWaits s c p (h ++ e ∷ []) new
  AreWaits-more none =
      let same : lives_in p (h ++ e ∷ []) ≡ map (with_entry e) (lives_in p h) =
      lives_in-push p h e may.passed_few
      ∙ ap (λ (o : Option Opening). map (with_entry e) (lives_in p h) ++ life_begun (h ++ e ∷ []) o []) none
      ∙ append-nil (map (with_entry e) (lives_in p h)) in
      record {
        long = omega (arith, long, may.counts.long, ap length same, length-map (lives_in p h) (with_entry e));
        each = λ k n life below.
            subst (λ (ls : List PastLife). get_or new k n ≡ waits_in s c (get_or ls k life)) (sym same)
            (each-more k n life below);
        few = few-more;
      }

  -- where one begins
  pub AreWaits-push : (o : Opening) → opening_by e.call e.reply ≡ Some o → AreWaits s c p (h ++ e ∷ []) (new ++ 0 ∷ [])
  AreWaits-push o some =
      let more : List PastLife = map (with_entry e) (lives_in p h) in
      let last : PastLife = record { sid = o.sid; first = o.spec; upto = h ++ e ∷ []; since = []; ended = false; passed = 0 } in
      let same : lives_in p (h ++ e ∷ []) ≡ more ++ last ∷ [] =
      lives_in-push p h e may.passed_few
      ∙ ap (λ (o : Option Opening). map (with_entry e) (lives_in p h) ++ life_begun (h ++ e ∷ []) o []) some in
      let as-long : length new ≡ length more =
      omega (arith, long, may.counts.long, length-map (lives_in p h) (with_entry e)) in
      record {
        long = omega (arith, as-long, ap length same, length_push new 0, length_push more last);
        each = λ k n life below.
            subst (λ (ls : List PastLife). get_or (new ++ 0 ∷ []) k n ≡ waits_in s c (get_or ls k life)) (sym same)
            (elim (cases_lt k (length new)) [
              | inl before ↦
                  get_or_append_left new (0 ∷ []) n k before ∙ each-more k n life before
                  ∙ ap (waits_in s c)
                  (sym (get_or_append_left more (last ∷ []) life k (omega (arith, before, as-long))))
              | inr behind ↦
                  let end : k - length new ≡ 0 = omega (arith, behind, below, length_push new 0) in
                  get_or-append_right new (0 ∷ []) (length new) k n refl behind
                  ∙ ap (λ (m : ℕ). get_or (0 ∷ []) m n) end
                  ∙ ap (waits_in s c)
                  (sym (get_or-append_right more (last ∷ []) (length new) k life (sym as-long) behind
                  ∙ ap (λ (m : ℕ). get_or (last ∷ []) m life) end))
            ]);
        few = λ k n below. elim (cases_lt k (length new)) [
          | inl before ↦ omega (arith, get_or_append_left new (0 ∷ []) n k before, few-more k n before)
          | inr behind ↦
              let end : k - length new ≡ 0 = omega (arith, behind, below, length_push new 0) in
              omega (
                arith,
                get_or-append_right new (0 ∷ []) (length new) k n refl behind
                    ∙ ap (λ (m : ℕ). get_or (0 ∷ []) m n) end,
              )
        ];
      }

-- both are counted as they were
pub AreWaited-same : (c : Config) (p : ℕ) (h : List Entry) (old new : Waited) → new.under.items ≡ old.under.items
    → new.held.items ≡ old.held.items → AreWaited c p h old → AreWaited c p h new
AreWaited-same c p h old new under held are = record {
  under = subst (AreWaits UnderReservation c p h) (sym under) are.under;
  held = subst (AreWaits AtCeiling c p h) (sym held) are.held;
}
