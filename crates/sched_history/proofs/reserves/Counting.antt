-- How many opportunities of a kind there are: asked for, met and waiting.
use Rattle.std.proofs.Common.{◌≡◌, ℕ, ◌+◌, ◌<◌, ◌≤◌, Bool, true, false, ◌&&◌, nat_lt, cond, sum_by, count_by}
use Rattle.std.proofs.Common.{List, [], ◌∷◌, ◌++◌, Option, None, Some, refl, ap, arith}
use Rattle.std.specs.List.{AllByRecursion, cons_option}
use Rattle.std.proofs.lemmas.Bool.{cond_both}
use Rattle.std.proofs.lemmas.Bool.Decides.{nat_tests}
use Rattle.std.proofs.lemmas.List.Sums.{sum_by-cons, sum_by_push}
use Rattle.sched_calls.specs.declared.opportunity.Opportunity.{Opportunity}
use Rattle.sched_history.specs.declared.scheduler.reserves.Reserve.{Reserve}
use Rattle.sched_history.specs.Reserves.{last_map, older, aged, asked_for, new_reserve}

-- 1 where a test holds
abbrev pub one : Bool → ℕ
one b = cond {A = ℕ} b 1 0

-- how many an entry asks for that are of a kind
abbrev pub count_offer : (Opportunity → Bool) → Option Opportunity → ℕ
count_offer kind None = 0
count_offer kind (Some o) = one (kind o)

module _ (kind : Opportunity → Bool) where
  -- one opportunity more
  pub count-cons : (o : Opportunity) (os : List Opportunity) → count_by kind (o ∷ os) ≡ one (kind o) + count_by kind os
  count-cons o os = sum_by-cons (λ (p : Opportunity). cond {A = ℕ} (kind p) 1 0) o os

  -- one that there may be in front of others
  pub count-cons_option : (o : Option Opportunity) (os : List Opportunity)
      → count_by kind (cons_option o os) ≡ count_offer kind o + count_by kind os
  count-cons_option None os = omega arith
  count-cons_option (Some o) os = count-cons o os

  -- whether a Reserve for one of the kind has not lapsed so many MAPs later
  abbrev is_young : ℕ → Reserve → Bool
  is_young more r = kind r.opportunity && nat_lt (r.maps + more) last_map

  -- the same as a number
  abbrev pub young : ℕ → Reserve → ℕ
  young more r = one (is_young more r)

  -- whether a Reserve is for one of the kind, as a number
  abbrev pub alike : Reserve → ℕ
  alike r = one (kind r.opportunity)

  -- as many ask for one of the kind as there are Reserves for it
  pub count-asked : (rs : List Reserve) → count_by kind (asked_for rs) ≡ sum_by alike rs
  count-asked [] = refl
  count-asked (r ∷ rs) = omega (
    arith,
    count-cons r.opportunity (asked_for rs),
    count-asked rs,
    sum_by-cons alike r rs,
  )

  one-least : (a b : Bool) → one (a && b) ≤ one a
  one-least true true = omega arith
  one-least true false = omega arith
  one-least false b = omega arith

  old-gone : (a : Bool) (maps more : ℕ) → nat_lt (maps + 1) last_map ≡ false
      → (a && nat_lt (maps + (more + 1)) last_map) ≡ false
  old-gone true maps more old = grind (arith, nat_tests)
  old-gone false maps more old = refl

  young-older : (more : ℕ) (r : Reserve) → young more (older r) ≡ young (more + 1) r
  young-older more r =
      let same : r.maps + 1 + more ≡ r.maps + (more + 1) = omega arith in
      ap (λ maps. one (kind r.opportunity && nat_lt maps last_map)) same

  -- with a MAP more the same are left as were young a MAP later
  pub young-aged : (more : ℕ) (rs : List Reserve) → sum_by (young more) (aged rs) ≡ sum_by (young (more + 1)) rs
  young-aged more [] = refl
  young-aged more (r ∷ rs) =
      cond_both (nat_lt (r.maps + 1) last_map) (older r ∷ aged rs) (aged rs)
      (λ left. sum_by (young more) left ≡ sum_by (young (more + 1)) (r ∷ rs))
      (λ test. omega (
        arith,
        young-older more r,
        young-aged more rs,
        sum_by-cons (young more) (older r) (aged rs),
        sum_by-cons (young (more + 1)) r rs,
      ))
      (λ test. omega (
        arith,
        ap one (old-gone (kind r.opportunity) r.maps more test),
        young-aged more rs,
        sum_by-cons (young (more + 1)) r rs,
      ))

  -- one Reserve more
  pub young-push : (o : Opportunity) (more : ℕ) (rs : List Reserve)
      → sum_by (young more) (rs ++ new_reserve o ∷ []) ≡ sum_by (young more) rs + young more (new_reserve o)
  young-push o more rs = sum_by_push (young more) rs (new_reserve o)

  new-young : (a : Bool) (more : ℕ) → more < last_map → (a && nat_lt (0 + more) last_map) ≡ a
  new-young true more few = grind (arith, nat_tests)
  new-young false more few = refl

  -- a new one is young for so many MAPs
  pub young-new : (o : Opportunity) (more : ℕ) → more < last_map → young more (new_reserve o) ≡ one (kind o)
  young-new o more few = ap one (new-young (kind o) more few)

  -- and is at most one of the kind
  pub young-least : (o : Opportunity) (more : ℕ) → young more (new_reserve o) ≤ one (kind o)
  young-least o more = one-least (kind o) (nat_lt (0 + more) last_map)

  -- at most those of the kind are young
  pub young-most : (more : ℕ) (rs : List Reserve) → sum_by (young more) rs ≤ sum_by alike rs
  young-most more [] = omega arith
  young-most more (r ∷ rs) = omega (
    arith,
    sum_by-cons (young more) r rs,
    sum_by-cons alike r rs,
    one-least (kind r.opportunity) (nat_lt (r.maps + more) last_map),
    young-most more rs,
  )

  now-young : (a : Bool) (maps : ℕ) → maps < last_map → (a && nat_lt (maps + 0) last_map) ≡ a
  now-young true maps few = grind (arith, nat_tests)
  now-young false maps few = refl

  -- of those that have not lapsed all are
  pub young-now : (rs : List Reserve) → AllByRecursion (λ r. r.maps < last_map) rs
      → sum_by (young 0) rs ≡ sum_by alike rs
  young-now [] all = refl
  young-now (r ∷ rs) all = omega (
    arith,
    sum_by-cons (young 0) r rs,
    sum_by-cons alike r rs,
    ap one (now-young (kind r.opportunity) r.maps all.0),
    young-now rs all.1,
  )

  none-young : (a : Bool) (maps more : ℕ) → last_map ≤ more → (a && nat_lt (maps + more) last_map) ≡ false
  none-young true maps more late = grind (arith, nat_tests)
  none-young false maps more late = refl

  -- and 64 MAPs later none
  pub young-later : (more : ℕ) (rs : List Reserve) → last_map ≤ more → sum_by (young more) rs ≡ 0
  young-later more [] late = refl
  young-later more (r ∷ rs) late = omega (
    arith,
    sum_by-cons (young more) r rs,
    ap one (none-young (kind r.opportunity) r.maps more late),
    young-later more rs late,
  )

  -- with a MAP more at most as many are of the kind
  pub alike-aged : (rs : List Reserve) → sum_by alike (aged rs) ≤ sum_by alike rs
  alike-aged [] = omega arith
  alike-aged (r ∷ rs) =
      cond_both (nat_lt (r.maps + 1) last_map) (older r ∷ aged rs) (aged rs)
      (λ left. sum_by alike left ≤ sum_by alike (r ∷ rs))
      (λ test. omega (arith, sum_by-cons alike r rs, sum_by-cons alike (older r) (aged rs), alike-aged rs))
      (λ test. omega (arith, sum_by-cons alike r rs, alike-aged rs))
