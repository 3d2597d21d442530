-- At no offset before the next one has every frame a start.
use Rattle.std.proofs.Common.{inl, inr, arith}
use Rattle.std.proofs.lemmas.Bool.{cases_lt}
use Rattle.periodic.proofs.search.found_at.Goals as goal

pub offsets-init : goal.offsets-init
offsets-init c = record {
  after = omega (arith, c.from-offset.ensures, c.req_slots.ensures.value);
  below = λ offset from to. absurd (omega (arith, from, to, c.from-offset.ensures, c.req_slots.ensures.value));
}

pub offsets-preserved : goal.offsets-preserved
offsets-preserved c = record {
  after = omega (arith, c.offsets.invariant.after, c.in-Err.ensures.blocked.later);
  below = λ offset from to starts are. elim (cases_lt offset c.offsets.offset) [
    | inl early ↦ c.offsets.invariant.below offset from early starts are
    | inr late ↦ c.in-Err.ensures.blocked.none offset late to (starts, are)
  ];
}

pub returns-clause-absent : goal.returns-clause-absent
returns-clause-absent c = λ offset after below.
    c.offsets.invariant.below offset after
    (omega (arith, below, c.offsets-test.false, c.from.ensures, c.frame.ensures.value))

pub returns-in-Ok-clause-most : goal.returns-in-Ok-clause-most
returns-in-Ok-clause-most c = c.in-Ok.ensures.most
