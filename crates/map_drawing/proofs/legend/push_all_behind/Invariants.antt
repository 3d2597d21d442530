-- The lines of what stands behind the Null, one after the other.
use Rattle.std.proofs.Common.{◌≡◌, ◌++◌, flat_map, take}
use Rattle.map_drawing.specs.Legend.{behind_line}
use Rattle.map_drawing.proofs.legend.push_all_behind.Given as goal

-- the lines so far stand behind the text
abbrev pub invariant-loop-element : goal.invariant-loop-element
invariant-loop-element l =
    l.text.items ≡ l.initial.text.items ++ flat_map behind_line (take l.element-index l.elements)
