-- The flows so far have their pending grants.
use Rattle.std.proofs.Common.{take}
use Rattle.map_build.specs.Draft.{PutsPending}
use Rattle.map_build.proofs.draft.Draft.put_pending.Given as goal

abbrev pub invariant-loop-sid : goal.invariant-loop-sid
invariant-loop-sid l = PutsPending (take l.sid-index l.pending) l.initial.self l.self
