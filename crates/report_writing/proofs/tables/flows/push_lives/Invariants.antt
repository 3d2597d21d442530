-- The lines so far stand behind the text.
use Rattle.std.proofs.Common.{◌≡◌, ◌++◌, flat_map, take}
use Rattle.report_writing.specs.Flows.{life_line}
use Rattle.report_writing.proofs.tables.flows.push_lives.Given as goal

abbrev pub invariant-loop-life : goal.invariant-loop-life
invariant-loop-life l =
    l.words.items ≡ l.initial.words.items ++ flat_map (life_line l.ticks l.replaced) (take l.life-index l.lives)
