-- What a reader of lines keeps.
use Rattle.std.specs.Prelude.{◌-◌, ◌≤◌, length, take, drop}
use Rattle.text_stream.specs.declared.TheConstants.{MAX_LINE}
use Rattle.text_stream.specs.declared.lines.Lines.TheInside.{Inside}
use Rattle.text_stream.specs.Told.{AtHand}

-- what contracts see of a reader of lines
abbrev pub at_hand : Inside → AtHand
at_hand a = record {
  bytes = drop a.next a.bytes.value.items;
  line = take (a.end - a.line) (drop a.line a.bytes.value.items);
}

-- The places are in their order, and less than a line and its newline is at hand
pub record IsSound (a : Inside) : Type 0 where
  pub begins : a.line ≤ a.end
  pub ends : a.end ≤ a.next
  pub inside : a.next ≤ length a.bytes.value.items
  pub few : length (drop a.next a.bytes.value.items) ≤ MAX_LINE
