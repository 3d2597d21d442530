-- The first of some numbers that is enough.
use Rattle.std.proofs.Common.{◌≡◌, ℕ, ◌+◌, ◌*◌, ◌<◌, ◌≤◌, List, length, get_or, drop, if◌then◌else◌, Bool}
use Rattle.std.proofs.Common.{ap, ◌∙◌, sym, arith}
use Rattle.std.proofs.lemmas.List.{at_drop_more}
use Rattle.std.proofs.lemmas.Bool.{le-leb, lt-leb}
use Rattle.report_picture.specs.Axis.{first_enough}

module _ (n : ℕ) (steps : List ℕ) (i v : ℕ) (below : i < length steps) (is : v ≡ get_or steps i 0) where
  -- one that is enough
  pub first_enough-here : n ≤ 10 * v → first_enough n (drop i steps) ≡ v
  unfolding first_enough
  first_enough-here enough =
      at_drop_more (first_enough n) steps i 0 below
      ∙ ap (λ (b : Bool). if b then get_or steps i 0 else first_enough n (drop (i + 1) steps))
      (le-leb n (10 * get_or steps i 0) (omega (arith, enough, is)))
      ∙ sym is

  -- one that is not
  pub first_enough-later : 10 * v < n → first_enough n (drop i steps) ≡ first_enough n (drop (i + 1) steps)
  unfolding first_enough
  first_enough-later less =
      at_drop_more (first_enough n) steps i 0 below
      ∙ ap (λ (b : Bool). if b then get_or steps i 0 else first_enough n (drop (i + 1) steps))
      (lt-leb n (10 * get_or steps i 0) (omega (arith, less, is)))
