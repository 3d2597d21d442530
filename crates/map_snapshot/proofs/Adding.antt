-- The steps that add a map, or the end, keep the rule of the list.
use Rattle.std.proofs.Common.{◌≡◌, ◌⊎◌, ℕ, ◌+◌, ◌<◌, ◌==◌, Bool, true, false, List, [], ◌∷◌, ◌++◌, length, map}
use Rattle.std.proofs.Common.{refl, ap, sym, subst, arith, inl, inr, None, Some, ⊎_elim, ◌∙◌, ◌≤◌, length-append}
use Rattle.std.proofs.lemmas.List.{append-nil}
use Rattle.std.proofs.lemmas.Bool.Decides.{nat_tests}
use prog.Atomic.{either}
use Rattle.logbook.specs.Pages.{Cell, cell, keeps, no_nib, step, Moves, Goes}
use Rattle.map_snapshot.specs.declared.list.Entry.{Entry}
use Rattle.map_snapshot.specs.declared.list.Entry.TheVariants.{Published, End}
use Rattle.map_snapshot.specs.declared.list.TheConstants.{ENDED}
use Rattle.map_snapshot.specs.declared.printed.Printed.{Printed}
use Rattle.map_snapshot.specs.declared.printed.TheConstants.{MAX_BYTES}
use Rattle.map_snapshot.specs.Maps.{map_in, maps_in, IsNewest, IsWhole}
use Rattle.map_snapshot.specs.Rules.{IsOpen, HasEnded, CountsList, Added}
use Rattle.map_snapshot.proofs.Entries.{open_after, whole_after, maps_in_snoc}

-- clients see nothing of the list
abbrev pub shown : List Entry → List Entry
shown log = []

-- nor is there a rule of what a step may change
abbrev pub moved : List Entry → List Entry → Unit {0} → Type 0
moved xs ys n = Unit {0}

-- the list is open at this number, or has ended with it
abbrev pub Stands : ℕ → List Entry → Type 0
Stands n log = IsOpen n log ⊎ HasEnded n log

module _ (e : Entry) (old new : ℕ) (apart : ¬ (old ≡ ENDED))
    (after : (maps : List (List ℕ)) → length maps ≡ old → Stands new (map Published maps ++ e ∷ [])) where
  goes : (v log : List Entry) (n : ℕ) (b : Bool) → (n == old) ≡ b → Stands n log
      → Goes CountsList shown moved 0 (v, (no_nib, None)) (λ k. either (k == old) new k)
      (Added (step 0 old new e) (v, (no_nib, None)))
      ((n, true) ∷ (0, true) ∷ []) log
  goes v log n true is stands =
      let here : n ≡ old = grind (arith, nat_tests) in
      let unended : IsOpen n log = ⊎_elim (λ (o : IsOpen n log). o)
      (λ (h : HasEnded n log). absurd (apart (sym here ∙ h.1))) stands in
      let maps = maps_in log in
      let count : length maps ≡ old = sym unended.1 ∙ here in
      let next : log ++ e ∷ [] ≡ map Published maps ++ e ∷ [] = ap (λ l. l ++ e ∷ []) unended.0 in (
        keeps,
        e ∷ [],
        None,
        tt,
        record {
          number = new;
          words = rw is refl;
          stands = subst (λ l. Stands new l) (sym next) (after maps count);
        },
        inl (refl, refl),
        λ found. (maps, next, count),
      )
  goes v log n false is stands = (
    keeps,
    [],
    None,
    tt,
    record {
      number = n;
      words = rw is refl;
      stands = subst (λ l. Stands n l) (sym (append-nil log)) stands;
    },
    inl (refl, refl),
    λ (found : n ≡ old). absurd (grind (arith, nat_tests)),
  )

  -- whatever the list is, the exchange adds the entry where the list is open and as long as expected, and else nothing
  pub entry_moves : (v : List Entry)
      → Moves CountsList shown moved 0 (v, (no_nib, None)) (λ n. either (n == old) new n)
      (Added (step 0 old new e) (v, (no_nib, None)))
  entry_moves v cs log counts pre away =
      let After : List Cell → Type 0 = λ c. (0 < length c) × ((cell c 0).1 ≡ true)
      × Goes CountsList shown moved 0 (v, (no_nib, None)) (λ n. either (n == old) new n)
      (Added (step 0 old new e) (v, (no_nib, None))) c log in
      subst After (sym counts.words)
      (omega arith, refl, goes v log counts.number (counts.number == old) refl counts.stands)

-- whatever the list is, the exchange adds the map where it comes next
pub map_moves : (v : List Entry) (m : List ℕ) (old new : ℕ) → new ≡ old + 1 → new ≤ ENDED
    → Moves CountsList shown moved 0 (v, (no_nib, None)) (λ n. either (n == old) new n)
    (Added (step 0 old new (Published m)) (v, (no_nib, None)))
map_moves v m old new is fits = entry_moves (Published m) old new
    (λ (e : old ≡ ENDED). absurd (omega (arith, is, fits, e)))
    (λ maps count.
    let next : length maps + 1 ≡ new = omega (arith, is, count) in
    inl (subst (λ n. IsOpen n (map Published maps ++ Published m ∷ [])) next (open_after maps m)))
    v

-- whatever the list is, the exchange ends it where it is as long as expected
pub end_moves : (v : List Entry) (old : ℕ) → ¬ (old ≡ ENDED)
    → Moves CountsList shown moved 0 (v, (no_nib, None)) (λ n. either (n == old) ENDED n)
    (Added (step 0 old ENDED End) (v, (no_nib, None)))
end_moves v old apart = entry_moves End old ENDED apart (λ maps count. inr (whole_after maps, refl)) v

-- the map that was added is the newest
pub added_newest : (log : List Entry) (before : List (List ℕ)) (e : Entry) (p : Printed) → e ≡ Published (map_in p)
    → log ≡ map Published before ++ e ∷ [] → p.version ≡ length before + 1 → p.len ≤ MAX_BYTES
    → IsNewest (Some p) (maps_in log)
added_newest log before e p is added version fits =
    let all : maps_in log ≡ before ++ map_in p ∷ [] = ap maps_in added ∙ (maps_in_snoc before e
    ∙ ap (λ x. before ++ maps_in (x ∷ [])) is) in
    record {
      before = before;
      list_is = all;
      version = omega (arith, version, ap length all, length-append before (map_in p ∷ []));
      fits = fits;
    }

-- a list to which the end was added is whole, and has so many maps
pub added_end : (log : List Entry) (before : List (List ℕ)) (e : Entry) → e ≡ End
    → log ≡ map Published before ++ e ∷ []
    → IsWhole log × (length (maps_in log) ≡ length before)
added_end log before e is added =
    let ends : log ≡ map Published before ++ End ∷ [] = added ∙ ap (λ x. map Published before ++ x ∷ []) is in
    subst (λ l. IsWhole l × (length (maps_in l) ≡ length before)) (sym ends)
    (whole_after before, ap length (maps_in_snoc before End ∙ append-nil before))
