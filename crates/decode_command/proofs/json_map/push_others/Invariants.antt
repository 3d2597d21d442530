-- The elements so far stand behind the text.
use Rattle.std.proofs.Common.{◌≡◌, ◌++◌, flat_map, take}
use Rattle.decode_command.specs.Json.{next_element}
use Rattle.decode_command.proofs.json_map.push_others.Given as goal

abbrev pub invariant-loop-element : goal.invariant-loop-element
invariant-loop-element l =
    l.words.items ≡ l.initial.words.items ++ flat_map next_element (take l.element-index l.elements)
