-- No offset gone past so far has lawful starts.
use Rattle.std.proofs.Common.{◌-◌, ◌≤◌}
use Rattle.periodic.specs.Search.{NoneBelow}
use Rattle.periodic.proofs.search.found_at.Given as goal

abbrev pub invariant-offsets : goal.invariant-offsets
invariant-offsets l = record {
  after : l.config.req_slots ≤ l.offset;
  below : NoneBelow l.config l.rows l.wanted l.phase l.offset;
}

abbrev pub decreases-offsets : goal.decreases-offsets
decreases-offsets l = l.config.frame - l.offset
