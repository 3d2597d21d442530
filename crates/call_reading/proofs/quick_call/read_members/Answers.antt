-- Each turn puts a value among the members before it.
use Rattle.std.proofs.Common.{ap, ◌∙◌, sym, subst, Some}
use Rattle.json.proofs.Grammar.{read_key-shorter}
use Rattle.call_reading.specs.Seen.{seen_of}
use Rattle.call_reading.specs.Made.{SayBefore}
use Rattle.call_reading.proofs.Made.{none_said, one_more, all_said}
use Rattle.call_reading.proofs.quick_call.read_members.Goals as goal

pub members-init : goal.members-init
members-init c =
    subst (λ s. SayBefore c.args.depth c.args.reader.now c.args.reader.now s) (sym c.requires)
    (none_said c.args.depth c.args.reader.now)

pub members-preserved : goal.members-preserved
members-preserved c =
    let l = c.members in
    let turn = rw c.if-branch.true at c.in_ok-read_next.ensures in
    let fewer = read_key-shorter l.reader (Some turn.0) turn.1 turn.3 in
    let shorter = turn.5 in
    (one_more c.args.depth c.args.reader.now l.reader c.read_next.new.reader (seen_of l.found)
    (seen_of c.read_next.new.found) l.invariant turn)

pub returns : goal.returns
returns c =
    let l = c.members in
    let over = rw c.if-branch.false at c.in_ok-read_next.ensures in
    let all = all_said c.args.depth c.args.reader.now l.reader c.read_next.new.reader (seen_of l.found) l.invariant
    over.0 in
    (all.0, all.1, ap seen_of over.1 ∙ all.2)
