-- The first unit with room, or the last of all.
use Rattle.std.proofs.Common.{◌≡◌, ℕ, ◌<◌, ◌≤◌, Bool, true, false, sym, ap, ◌∙◌, arith}
use Rattle.std.specs.List.{range_with_len, position_or_len}
use Rattle.std.proofs.lemmas.Bool.{le-leb, lt-leb}
use Rattle.std.proofs.lemmas.List.FromFn.{get_or-range_with_len}
use Rattle.std.proofs.lemmas.List.Sums.{position_or_len_is}
use borrow.Author.Count.{below_none, below_more}
use Rattle.report_writing.specs.Columns.{unit_for, has_room}
use Rattle.report_writing.proofs.text.unit_for.Goals as goal

-- the number of the first of the units that passes
first_of_units : (p : ℕ → Bool) (i : ℕ) → i ≤ 10 → ((k : ℕ) → k < i → p k ≡ false) → (i < 10 → p i ≡ true)
    → position_or_len p (range_with_len 0 10) ≡ i
first_of_units p i most before here =
    position_or_len_is p (range_with_len 0 10) i 0 most
    (λ k below. ap p (get_or-range_with_len 0 10 k 0 (omega (arith, below, most))) ∙ ap p (omega arith) ∙ before k below)
    (λ below. ap p (get_or-range_with_len 0 10 i 0 below) ∙ ap p (omega arith) ∙ here below)

pub loop-power-init : goal.loop-power-init
loop-power-init c = below_none _

pub loop-power-preserved : goal.loop-power-preserved
loop-power-preserved c = below_more _ c.loop-power.power c.loop-power.invariant (lt-leb _ _ (omega arith))

pub returns-then-length_in-places-clause-unit : goal.returns-then-length_in-places-clause-unit
unfolding unit_for
returns-then-length_in-places-clause-unit c =
    sym (first_of_units (has_room c.args.places c.args.number) c.loop-power.power (omega arith) c.loop-power.invariant
    (λ below. le-leb _ _ (omega arith)))

pub returns-clause-unit : goal.returns-clause-unit
unfolding unit_for
returns-clause-unit c =
    sym (first_of_units (has_room c.args.places c.args.number) 10 (omega arith)
    (λ k below. c.loop-power.invariant k (omega arith)) (λ below. absurd (omega arith)))
