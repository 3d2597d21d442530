-- The parts of a line, one after the other.
use Rattle.std.proofs.Common.{◌++◌, codes}
use Rattle.map_drawing.specs.Text.{spaces, column}
use Rattle.map_drawing.specs.Usage.{element_usage}
use Rattle.map_drawing.specs.Legend.{usage_end, state_of, behind_line}
use Rattle.map_drawing.proofs.Ranges.{grown, where_ok}
use Rattle.map_drawing.proofs.legend.push_behind.Goals as goal

pub returns : goal.returns
unfolding behind_line
returns c =
    let element = c.args.element.now in
    let margin = c.extend_from_slice.new.self.items in
    let numbered = c.push_column.new.text.items in
    let apart = c.push_spaces.new.text.items in
    let told = c.extend_from_slice-2.new.self.items in
    let ended = c.push_usage.new.text.items in
    let usage = usage_end element.sid element.iuc in
    let words = state_of (element_usage element.sid element.iuc) in
    let state = rw (c.state_of.ensures, c.of.ensures) at c.in_ok-extend_from_slice-2.ensures.items in
    let numbers = rw c.from.ensures at c.in_ok-push_column.ensures in
    where_ok c.push_usage.result (λ last.
    grown c.args.text.now.items margin ended (codes "  ")
    (column 5 element.sid ++ (spaces 13 ++ (words ++ usage))) c.in_ok-extend_from_slice.ensures.items
    (grown margin numbered ended (column 5 element.sid) (spaces 13 ++ (words ++ usage)) numbers
    (grown numbered apart ended (spaces 13) (words ++ usage) c.in_ok-push_spaces.ensures
    (grown apart told ended words usage state last)))) c.push_usage.ensures
