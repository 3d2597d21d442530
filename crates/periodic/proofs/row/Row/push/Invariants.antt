-- The starts gone through stand behind those before.
use Rattle.std.proofs.Common.{◌≡◌, ◌+◌, ◌++◌, take, length}
use Rattle.periodic.specs.declared.TheConstants.{MAX_STARTS}
use Rattle.periodic.specs.Search.{starts_of}
use Rattle.periodic.proofs.row.Row.push.Given as goal

abbrev pub invariant-loop-start : goal.invariant-loop-start
invariant-loop-start l = record {
  long : length l.self.starts ≡ MAX_STARTS;
  count : l.self.count ≡ l.fn.self.count + l.start-index;
  starts : starts_of l.self ≡ starts_of l.fn.self ++ take l.start-index l.starts;
}
