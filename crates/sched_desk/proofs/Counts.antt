-- The counts of the seats' entries, with one entry more.
use Rattle.std.proofs.Common.{◌≡◌, ◌≢◌, ◌<◌, ◌≤◌, ◌+◌, ℕ, Bool, not, nat_lt, List, [], ◌∷◌, ◌++◌, length, get_or, set}
use Rattle.std.proofs.Common.{take, sum, cond, ◌==◌, replicate, length-set, subst, refl}
use Rattle.std.proofs.Common.{true, false, ⊎_elim, sym, ap, ◌∙◌, arith, length-append, eq-eqb, ne_eqb}
use Rattle.std.proofs.lemmas.Bool.Decides.{eqb_tells, nat_tests}
use Rattle.std.specs.List.{AllByRecursion}
use Rattle.std.proofs.lemmas.List.{append-nil, get_or-set_same, get_or-set_other, get_or-replicate}
use Rattle.std.proofs.Math.Seq.{take-append_seam, take-append-add}
use Rattle.std.proofs.lemmas.List.Filters.{length-filter_both}
use Rattle.std.proofs.lemmas.List.Elements.{filter_more}
use Rattle.std.proofs.lemmas.List.Sums.{sum_by-set}
use Rattle.sched_calls.specs.declared.reply.Entry.{Entry}
use Rattle.ticket_core.specs.declared.TheConstants.{MAX_SEATS}
use Rattle.sched_desk.specs.Closed.{entries_of, CountsEach, counted_by, IsCounted}

module _ (h : List Entry) (i : ℕ) (e : Entry) (here : i < length h) (is : e ≡ get_or h i e) where
  -- the entries of a seat, with this entry more
  entries-more : (number : ℕ)
      → entries_of number (take (i + 1) h)
      ≡ entries_of number (take i h) ++ cond (e.stamp.seat == number) (e ∷ []) []
  entries-more number =
      filter_more (λ (x : Entry). x.stamp.seat == number) h i e here
      ∙ ap (λ (x : Entry). entries_of number (take i h) ++ cond (x.stamp.seat == number) (x ∷ []) []) (sym is)

  -- they are one more for its seat
  of_seat : (number : ℕ) → e.stamp.seat ≡ number
      → length (entries_of number (take (i + 1) h)) ≡ length (entries_of number (take i h)) + 1
  of_seat number same =
      ap length (entries-more number ∙ ap (λ b. entries_of number (take i h) ++ cond b (e ∷ []) [])
      (eq-eqb e.stamp.seat number same))
      ∙ length-append (entries_of number (take i h)) (e ∷ [])

  -- and as many as before for another
  of_another : (number : ℕ) → e.stamp.seat ≢ number
      → length (entries_of number (take (i + 1) h)) ≡ length (entries_of number (take i h))
  of_another number apart =
      ap length (entries-more number ∙ ap (λ b. entries_of number (take i h) ++ cond b (e ∷ []) [])
      (ne_eqb e.stamp.seat number apart)
      ∙ append-nil (entries_of number (take i h)))

  module _ (counts : List ℕ) (size : length counts ≡ MAX_SEATS) (small : e.stamp.seat < MAX_SEATS) where
    -- the counts with one more for the entry's seat
    abbrev counted : List ℕ
    counted = set counts e.stamp.seat (get_or counts e.stamp.seat 0 + 1)

    -- the counts stay right
    pub counts-more : CountsEach counts (take i h) → CountsEach counted (take (i + 1) h)
    counts-more each number below =
        let within : e.stamp.seat < length counts = omega arith in
        ⊎_elim
        (λ (same : (e.stamp.seat == number ≡ true) × (e.stamp.seat ≡ number)).
        ap (λ k. get_or counted k 0) (sym same.1)
        ∙ get_or-set_same counts e.stamp.seat (get_or counts e.stamp.seat 0 + 1) 0 within
        ∙ ap (λ k. get_or counts k 0 + 1) same.1
        ∙ ap (λ n. n + 1) (each number below)
        ∙ sym (of_seat number same.1))
        (λ (apart : (e.stamp.seat == number ≡ false) × (e.stamp.seat ≢ number)).
        get_or-set_other counts e.stamp.seat number (get_or counts e.stamp.seat 0 + 1) 0
        (λ same. apart.1 (sym same))
        ∙ each number below
        ∙ sym (of_another number apart.1))
        (eqb_tells e.stamp.seat number)

    -- the sum is one more
    pub sum-more : sum counted ≡ sum counts + 1
    sum-more =
        let within : e.stamp.seat < length counts = omega arith in
        omega (
          arith,
          sum_by-set (λ (n : ℕ). n) counts e.stamp.seat (get_or counts e.stamp.seat 0 + 1) 0 within,
        )

-- nothing is counted at first
pub counted_none : IsCounted (replicate 64 0) []
counted_none = record {
  size = refl;
  each = λ number below. get_or-replicate 64 number 0 0 below;
  total = λ all. refl;
}

module _ (counts : List ℕ) (h : List Entry) (counted : IsCounted counts h) where
  -- no count is greater than the number of entries
  pub count-few : (number : ℕ) → number < MAX_SEATS → get_or counts number 0 ≤ length h
  count-few number below =
      let both = length-filter_both (λ (e : Entry). e.stamp.seat == number)
      (λ (e : Entry). not (e.stamp.seat == number))
      (λ e. refl) h in
      omega (arith, counted.each number below, both)

  module _ (e : Entry) where
    all-front : (P : Entry → Type 0) (xs : List Entry) → AllByRecursion P (xs ++ e ∷ []) → AllByRecursion P xs
    all-front P [] all = tt
    all-front P (x ∷ xs) all = (all.0, all-front P xs all.1)

    all-last : (P : Entry → Type 0) (xs : List Entry) → AllByRecursion P (xs ++ e ∷ []) → P e
    all-last P [] all = all.0
    all-last P (x ∷ xs) all = all-last P xs all.1

    last-is : (xs : List Entry) → e ≡ get_or (xs ++ e ∷ []) (length xs) e
    last-is [] = refl
    last-is (x ∷ xs) = last-is xs

    take-all : (xs : List Entry) → take (length xs + 1) (xs ++ e ∷ []) ≡ xs ++ e ∷ []
    take-all xs = take-append-add xs (e ∷ []) 1

    abbrev grown : List Entry
    grown = h ++ e ∷ []

    here : length h < length grown
    here = let more = length-append h (e ∷ []) in omega (arith, more)

    -- the entries of another seat, with this one more
    each-other : (number : ℕ) → e.stamp.seat ≢ number → length (entries_of number grown) ≡ length (entries_of number h)
    each-other number apart =
        ap (λ (l : List Entry). length (entries_of number l)) (sym (take-all h))
        ∙ of_another grown (length h) e here (last-is h) number apart
        ∙ ap (λ (l : List Entry). length (entries_of number l)) (take-append_seam h (e ∷ []))

    small : e.stamp.seat < MAX_SEATS
        → IsCounted (set counts e.stamp.seat (get_or counts e.stamp.seat 0 + 1)) grown
    small below = record {
      size = length-set counts e.stamp.seat (get_or counts e.stamp.seat 0 + 1) ∙ counted.size;
      each = subst (CountsEach (set counts e.stamp.seat (get_or counts e.stamp.seat 0 + 1))) (take-all h)
          (counts-more grown (length h) e here (last-is h) counts counted.size below
          (subst (CountsEach counts) (sym (take-append_seam h (e ∷ []))) counted.each));
      total = λ all.
          sum-more grown (length h) e here (last-is h) counts counted.size below
          ∙ ap (λ n. n + 1) (counted.total (all-front (λ (x : Entry). x.stamp.seat < MAX_SEATS) h all))
          ∙ sym (length-append h (e ∷ []));
    }

    great : (e.stamp.seat < MAX_SEATS → ⊥) → IsCounted counts grown
    great none = record {
      size = counted.size;
      each = λ number below. counted.each number below
          ∙ sym (each-other number (λ same. none (subst (λ n. n < MAX_SEATS) (sym same) below)));
      total = λ all. absurd (none (all-last (λ (x : Entry). x.stamp.seat < MAX_SEATS) h all));
    }

    -- with one entry more they are counted
    pub counted-more : IsCounted (counted_by e.stamp.seat counts) grown
    counted-more = by (nat_lt e.stamp.seat MAX_SEATS) refl
      where
        by : (b : Bool) → nat_lt e.stamp.seat MAX_SEATS ≡ b
            → IsCounted (cond b (set counts e.stamp.seat (get_or counts e.stamp.seat 0 + 1)) counts) grown
        by true is = small (grind (arith, nat_tests))
        by false is = great (λ below. absurd (grind (arith, nat_tests)))
