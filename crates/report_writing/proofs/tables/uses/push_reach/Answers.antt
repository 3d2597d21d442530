-- One text behind another.
use Rattle.std.proofs.Common.{◌++◌, codes, decimal}
use Rattle.report_writing.specs.Tables.{reach_text}
use Rattle.report_writing.proofs.Appended.{then_ok}
use Rattle.report_writing.proofs.tables.uses.push_reach.Goals as goal

pub returns : goal.returns
unfolding reach_text
returns c =
    let r = c.push_decimal-3.result in
    let start = c.args.words.now.items in
    let first = c.push_decimal.new.words.items in
    let second = c.extend_from_slice.new.self.items in
    let third = c.push_decimal-2.new.words.items in
    let fourth = c.extend_from_slice-2.new.self.items in
    let end = c.push_decimal-3.new.words.items in
    let to = decimal c.args.to in
    let from = decimal c.args.from in
    then_ok r start first end (decimal c.args.frames) (codes " frames, minislots " ++ (from ++ (codes " to " ++ to)))
    c.in_ok-push_decimal.ensures
    (then_ok r first second end (codes " frames, minislots ") (from ++ (codes " to " ++ to))
    c.in_ok-extend_from_slice.ensures.items
    (then_ok r second third end from (codes " to " ++ to) c.in_ok-push_decimal-2.ensures
    (then_ok r third fourth end (codes " to ") to c.in_ok-extend_from_slice-2.ensures.items c.push_decimal-3.ensures)))
