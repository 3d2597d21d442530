-- The bytes so far stand behind the text.
use Rattle.std.proofs.Common.{◌≡◌, ◌++◌, flat_map, take}
use Rattle.decode_command.specs.Frame.{byte_text}
use Rattle.decode_command.proofs.json_map.push_bytes.Given as goal

abbrev pub invariant-loop-byte : goal.invariant-loop-byte
invariant-loop-byte l =
    l.words.items ≡ l.initial.words.items ++ flat_map byte_text (take l.byte-index l.bytes)
