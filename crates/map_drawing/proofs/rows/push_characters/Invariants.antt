-- Characters, one after the other.
use Rattle.std.proofs.Common.{◌≡◌, ◌++◌}
use Rattle.map_drawing.specs.Rows.{characters}
use Rattle.map_drawing.proofs.rows.push_characters.Given as goal

-- the characters so far stand behind the text
abbrev pub invariant-loop-i : goal.invariant-loop-i
invariant-loop-i l = l.text.items ≡ l.initial.text.items ++ characters l.front l.from l.i
