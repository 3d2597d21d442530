-- What is free as far as it must be is a start; else no start before the next free minislot is.
use Rattle.std.proofs.Common.{◌+◌, ◌<◌, inl, inr, arith}
use Rattle.std.proofs.lemmas.Bool.{cases_lt}
use Rattle.periodic.proofs.Seeking.{none-before}
use Rattle.periodic.proofs.search.next_start.Goals as goal

pub returns-then-start-slots-clause-found : goal.returns-then-start-slots-clause-found
returns-then-start-slots-clause-found c = record {
  free = record {
    after = c.starts.invariant.after;
    within = omega (arith, c.starts-test.true);
    clear = λ m from to. c.next_taken-end.ensures.none_before m from (omega (arith, c.if-start-slots.true));
  };
  least = λ other is. elim (cases_lt other c.starts.start) [
    | inl early ↦ absurd (c.starts.invariant.blocked other early is)
    | inr later ↦ later
  ];
}

pub starts-preserved : goal.starts-preserved
starts-preserved c =
    let words = c.args.bits.now.words in
    let end = c.next_taken-end.result in
    let next = c.next_free-start-in-starts in
    let reached : end < c.starts.start + c.args.slots = omega (arith, c.if-start-slots.false) in
    let within : end < 1024 = omega (arith, reached, c.starts-test.true, c.requires.frame) in
    record {
      after = omega (arith, c.starts.invariant.after, c.next_taken-end.ensures.from, next.ensures.from);
      most = next.ensures.most;
      clear = next.ensures.is;
      blocked = none-before words c.args.frame c.args.slots c.args.from c.starts.start end next.result
          c.requires.not_empty reached (c.next_taken-end.ensures.is within) c.starts.invariant.blocked
          next.ensures.none_before;
    }

pub returns-clause-absent : goal.returns-clause-absent
returns-clause-absent c = λ start is. elim (cases_lt start c.starts.start) [
  | inl early ↦ c.starts.invariant.blocked start early is
  | inr later ↦ omega (arith, later, is.within, c.starts-test.false)
]
