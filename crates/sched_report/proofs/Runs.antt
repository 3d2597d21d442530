-- The most free minislots in a row, with one allocation more behind.
use Rattle.std.proofs.Common.{◌≡◌, ℕ, ◌+◌, ◌<◌, ◌≤◌, Bool, true, false, if◌then◌else◌, List, [], ◌∷◌, ◌++◌, get_or}
use Rattle.std.proofs.Common.{refl, sym, ap, ◌∙◌, arith}
use Rattle.std.specs.Prelude.{max}
use Rattle.map_codec.specs.declared.element.Element.{Element}
use Rattle.map_codec.specs.Element.{nulls, element_at, Ascends}
use Rattle.map_drawing.specs.declared.allocation.Allocation.{Allocation}
use Rattle.map_drawing.specs.Allocation.{front_length, allocation_at}
use Rattle.map_drawing.proofs.Fronts.{offset-≤}
use Rattle.map_build.specs.declared.met.Met.{Met}
use Rattle.map_build.specs.Reading.{meets_at}
use Rattle.sched_calls.specs.declared.reply.Entry.{Entry}
use Rattle.frame_picture.specs.Frames.{is_unsolicited_after, TellsUnsolicited}
use Rattle.sched_report.specs.declared.slots.Use.{Use}
use Rattle.sched_report.specs.Uses.{use_of}
use Rattle.sched_report.specs.Gaps.{is_free, is_free_in, run_from, longest_run}
use Rattle.sched_report.proofs.SlotLists.{first_allocations, first_allocations-more}

-- the free minislots in a row up to the end of some allocations, with so many before them
abbrev pub run_behind : (Allocation → Bool) → ℕ → List Allocation → ℕ
run_behind free n [] = n
run_behind free n (a ∷ some) = run_behind free (if free a then n + a.length else 0) some

module _ (free : Allocation → Bool) where
  run-≤ : (some : List Allocation) → run_from free some ≤ longest_run free some
  run-≤ [] = omega arith
  run-≤ (a ∷ some) = omega arith

  -- with so many free minislots before some allocations, one more behind them makes the longest run
  longest-behind : (n : ℕ) (some : List Allocation) (a : Allocation)
      → max (n + run_from free (some ++ a ∷ [])) (longest_run free (some ++ a ∷ []))
      ≡ max (max (n + run_from free some) (longest_run free some)) (run_behind free n (some ++ a ∷ []))
  longest-behind n [] a = alone (free a)
    where
      alone : (b : Bool) → max (n + (if b then a.length + 0 else 0)) (max (if b then a.length + 0 else 0) 0)
          ≡ max (max (n + 0) 0) (if b then n + a.length else 0)
      alone true = omega arith
      alone false = omega arith
  longest-behind n (x ∷ some) a = first (λ k. longest-behind k some a) (free x)
    where
      after : List Allocation
      after = some ++ a ∷ []

      first : ((k : ℕ) → max (k + run_from free after) (longest_run free after)
          ≡ max (max (k + run_from free some) (longest_run free some)) (run_behind free k after)) → (b : Bool)
          → max (n + (if b then x.length + run_from free after else 0))
          (max (if b then x.length + run_from free after else 0) (longest_run free after))
          ≡ max (max (n + (if b then x.length + run_from free some else 0))
          (max (if b then x.length + run_from free some else 0) (longest_run free some)))
          (run_behind free (if b then n + x.length else 0) after)
      first rest true = omega (arith, rest (n + x.length))
      first rest false = omega (arith, rest 0, run-≤ some, run-≤ after)

  -- the longest run with one allocation more
  pub longest_run-push : (some : List Allocation) (a : Allocation)
      → longest_run free (some ++ a ∷ []) ≡ max (longest_run free some) (run_behind free 0 (some ++ a ∷ []))
  longest_run-push some a = omega (arith, longest-behind 0 some a, run-≤ some, run-≤ (some ++ a ∷ []))

  -- the run up to its end
  pub run_behind-push : (n : ℕ) (some : List Allocation) (a : Allocation)
      → run_behind free n (some ++ a ∷ []) ≡ (if free a then run_behind free n some + a.length else 0)
  run_behind-push n [] a = refl
  run_behind-push n (x ∷ some) a = run_behind-push (if free x then n + x.length else 0) some a

module _ (es : List Element) (i run new : ℕ) (a : Allocation) (k : Use) (at_place : a ≡ allocation_at es i)
    (more : new ≡ (if is_free k then run + a.length else 0)) where
  -- the run up to the end of the next element's allocation goes by its use
  pub run-more : (met : List Met) (flows : List Bool) → a.sid < 65536
      → k ≡ use_of a (meets_at met a.offset) (get_or flows a.sid false)
      → (h : List Entry) → TellsUnsolicited flows h
      → run ≡ run_behind (is_free_in met (is_unsolicited_after h)) 0 (first_allocations es i)
      → new ≡ run_behind (is_free_in met (is_unsolicited_after h)) 0 (first_allocations es (i + 1))
  run-more met flows below kind h tells before =
      let free : Allocation → Bool = is_free_in met (is_unsolicited_after h) in
      let some : List Allocation = first_allocations es i in
      let is : is_free k ≡ free a =
      ap is_free (kind ∙ ap (use_of a (meets_at met a.offset)) (tells a.sid below)) in
      more ∙ ap (λ (b : Bool). if b then run + a.length else 0) is
      ∙ ap (λ (n : ℕ). if free a then n + a.length else 0) before
      ∙ sym (run_behind-push free 0 some a)
      ∙ ap (λ (b : Allocation). run_behind free 0 (some ++ b ∷ [])) at_place
      ∙ ap (run_behind free 0) (sym (first_allocations-more es i))

  within-any : (b : Bool) → run ≤ (element_at es i).offset
      → (element_at es i).offset + (allocation_at es i).length ≤ (element_at es (i + 1)).offset
      → (if b then run + a.length else 0) ≤ (element_at es (i + 1)).offset
  within-any true within next = omega (arith, within, next, ap (λ (b : Allocation). b.length) at_place)
  within-any false within next = omega arith

  -- and is not longer than what is before the next element
  pub run-within : nulls es ≡ 1 → Ascends es → i < front_length es → run ≤ (element_at es i).offset
      → new ≤ (element_at es (i + 1)).offset
  run-within one ascends before within =
      omega (
        arith,
        more,
        within-any (is_free k) within
            (omega (arith, offset-≤ es one ascends i (i + 1) (omega arith) (omega (arith, before)))),
      )

-- the longest run with the allocation of the next element
pub longest-more : (free : Allocation → Bool) (es : List Element) (i longest new : ℕ)
    → longest ≡ longest_run free (first_allocations es i)
    → new ≡ run_behind free 0 (first_allocations es (i + 1))
    → max longest new ≡ longest_run free (first_allocations es (i + 1))
longest-more free es i longest new before run =
    let some : List Allocation = first_allocations es i in
    let all = first_allocations-more es i in
    ap (λ n. max n new) before ∙ ap (max (longest_run free some)) (run ∙ ap (run_behind free 0) all)
    ∙ sym (longest_run-push free some (allocation_at es i)) ∙ ap (longest_run free) (sym all)
