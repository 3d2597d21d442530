-- What some steps count, with one number more.
use Rattle.std.proofs.Common.{◌≡◌, ℕ, ◌+◌, ◌<◌, ◌≤◌, Bool, true, false, List, [], ◌∷◌, ◌++◌, set, get_or, length}
use Rattle.std.proofs.Common.{refl, sym, ap, ◌∙◌, subst, inl, inr, nat_le, if◌then◌else◌, arith}
use Rattle.std.specs.List.{insert}
use Rattle.std.proofs.lemmas.Bool.{cases_lt, le-leb, lt-leb}
use Rattle.std.proofs.lemmas.List.Sums.{sum_by_push, sum_by-set, sum_by-insert}
use Rattle.std.proofs.lemmas.List.Sums.{get_or-le-sum_by, count_by-le-length}
use Rattle.sched_report.specs.declared.spread.Step.{Step}
use Rattle.sched_report.specs.Spread.{count_upto, IsNear}
use Rattle.sched_report.specs.Steps.{upto, CountsUpto, AreStepsOf}

-- one, where a number does not exceed another
abbrev pub one_upto : ℕ → ℕ → ℕ
one_upto n m = if nat_le m n then 1 else 0

-- a number up to this one counts for one
pub one-yes : (n m : ℕ) → m ≤ n → one_upto n m ≡ 1
one-yes n m le = ap (λ (b : Bool). if b then 1 else 0) (le-leb m n le)

one-no : (n m : ℕ) → n < m → one_upto n m ≡ 0
one-no n m lt = ap (λ (b : Bool). if b then 1 else 0) (lt-leb m n lt)

-- so many do not exceed a value, with one number more
count_upto-push : (n : ℕ) (ns : List ℕ) (m : ℕ) → count_upto n (ns ++ m ∷ []) ≡ count_upto n ns + one_upto n m
count_upto-push n ns m = sum_by_push (λ m. if nat_le m n then 1 else 0) ns m

-- where one thing holds, a number is no more than another
le-where : (n m k j : ℕ) → (m ≤ n → j ≤ k) → one_upto n m ≤ one_upto k j
le-where n m k j still =
    elim (cases_lt n m) [
      | inl past ↦ omega (arith, one-no n m past)
      | inr within ↦ omega (arith, one-yes n m within, one-yes k j (still within))
    ]

-- what is counted up to a value, with one number more at what is told of it
pub CountsUpto-push : (n counted : ℕ) (ns : List ℕ) (m told : ℕ) → IsNear m told → CountsUpto n counted ns
    → CountsUpto n (counted + one_upto n told) (ns ++ m ∷ [])
CountsUpto-push n counted ns m told is counts = record {
  within = omega (
    arith,
    counts.within,
    count_upto-push n ns m,
    le-where n told n m (λ le. omega (arith, le, is.least)),
  );
  near = λ k near. omega (
    arith,
    counts.near k near,
    count_upto-push k ns m,
    le-where k m n told (λ le. omega (arith, le, near, is.most)),
  );
  exact = λ k small le. omega (
    arith,
    counts.exact k small le,
    count_upto-push k ns m,
    le-where k m n told (λ within. omega (arith, within, le, is.same (omega (arith, within, small)))),
  );
}

-- a count more in a step, or a step more
counted_more : (b : Bool) (k : ℕ) → (if b then k + 1 else 0) ≡ (if b then k else 0) + (if b then 1 else 0)
counted_more true k = refl
counted_more false k = refl

upto-set : (n : ℕ) (steps : List Step) (i : ℕ) (s : Step) → i < length steps
    → upto n (set steps i (record { value = (get_or steps i s).value; count = (get_or steps i s).count + 1 }))
    ≡ upto n steps + one_upto n (get_or steps i s).value
upto-set n steps i s inside =
    let old = get_or steps i s in
    omega (
      arith,
      sum_by-set (λ (s : Step). if nat_le s.value n then s.count else 0) steps i
          (record { value = old.value; count = old.count + 1 }) s inside,
      counted_more (nat_le old.value n) old.count,
    )

upto-insert : (n : ℕ) (steps : List Step) (i value : ℕ)
    → upto n (insert steps i (record { value = value; count = 1 })) ≡ upto n steps + one_upto n value
upto-insert n steps i value =
    sum_by-insert (λ (s : Step). if nat_le s.value n then s.count else 0) steps i (record { value = value; count = 1 })

-- no step counts more than there are
pub few_counted : (steps : List Step) (ns : List ℕ) → AreStepsOf steps ns → (i : ℕ) (s : Step) → i < length steps
    → s ≡ get_or steps i s → s.count ≤ length ns
few_counted steps ns are i s inside is =
    let self : s.value ≤ s.value = omega arith in
    let counted : (if nat_le s.value s.value then s.count else 0) ≡ s.count =
    ap (λ (b : Bool). if b then s.count else 0) (le-leb s.value s.value self) in
    let below : (if nat_le s.value s.value then s.count else 0) ≤ upto s.value steps =
    subst (λ (u : Step). (if nat_le u.value s.value then u.count else 0) ≤ upto s.value steps) (sym is)
    (get_or-le-sum_by (λ (u : Step). if nat_le u.value s.value then u.count else 0) steps i s inside) in
    omega (
      arith,
      counted,
      below,
      (are s.value).within,
      count_by-le-length (λ (m : ℕ). nat_le m s.value) ns,
    )

module _ (steps : List Step) (ns : List ℕ) (are : AreStepsOf steps ns) (m told : ℕ) (is : IsNear m told) where
  -- one number more in the step that has what is told of it
  pub AreStepsOf-set : (i : ℕ) (s : Step) → i < length steps → s ≡ get_or steps i s → s.value ≡ told
      → AreStepsOf (set steps i (record { value = s.value; count = s.count + 1 })) (ns ++ m ∷ [])
  AreStepsOf-set i s inside at_place value n =
      let here : get_or steps i s ≡ s = sym at_place in
      let counts : upto n (set steps i (record { value = s.value; count = s.count + 1 }))
      ≡ upto n steps + one_upto n s.value =
      subst (λ (u : Step). upto n (set steps i (record { value = u.value; count = u.count + 1 }))
      ≡ upto n steps + one_upto n u.value) here (upto-set n steps i s inside) in
      subst (λ k. CountsUpto n k (ns ++ m ∷ [])) (sym (counts ∙ ap (λ v. upto n steps + one_upto n v) value))
      (CountsUpto-push n (upto n steps) ns m told is (are n))

  -- or in a new step
  pub AreStepsOf-insert : (i : ℕ) → AreStepsOf (insert steps i (record { value = told; count = 1 })) (ns ++ m ∷ [])
  AreStepsOf-insert i n =
      subst (λ k. CountsUpto n k (ns ++ m ∷ [])) (sym (upto-insert n steps i told))
      (CountsUpto-push n (upto n steps) ns m told is (are n))

-- no steps count no numbers
pub AreStepsOf-none : AreStepsOf [] []
AreStepsOf-none n = record { within = omega arith; near = λ m near. omega arith; exact = λ m small le. omega arith }
