-- One line behind another.
use Rattle.std.proofs.Common.{◌++◌, codes}
use Rattle.report_writing.specs.Tables.{last_uses, use_line}
use Rattle.report_writing.proofs.Appended.{then_ok}
use Rattle.report_writing.proofs.tables.uses.push_last_uses.Goals as goal

pub returns : goal.returns
unfolding last_uses
returns c =
    let s = c.args.slots.now in
    let k = c.args.calls.now in
    let all = c.args.all in
    let r = c.push_line-3.result in
    let start = c.args.words.now.items in
    let first = c.push_line.new.words.items in
    let second = c.push_line-2.new.words.items in
    let end = c.push_line-3.new.words.items in
    let third = use_line (codes "idle") s.idle all (codes "skip") k.skip in
    let middle = use_line (codes "data") s.data_grants all (codes "build") k.build in
    then_ok r start first end (use_line (codes "opportunity") s.opportunity all (codes "heard") k.heard)
    (middle ++ third) c.in_ok-push_line.ensures
    (then_ok r first second end middle third c.in_ok-push_line-2.ensures c.push_line-3.ensures)
