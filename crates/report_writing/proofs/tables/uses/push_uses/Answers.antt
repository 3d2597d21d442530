-- The lines behind their heading.
use Rattle.std.proofs.Common.{◌++◌, codes, ap, ◌∙◌}
use Rattle.sched_report.specs.Uses.{all_slots}
use Rattle.report_writing.specs.Tables.{uses_text, first_uses, last_uses, last_calls, flow_calls}
use Rattle.report_writing.proofs.Appended.{then_ok}
use Rattle.report_writing.proofs.tables.uses.push_uses.Goals as goal

pub returns : goal.returns
unfolding uses_text
returns c =
    let s = c.args.slots.now in
    let k = c.args.calls.now in
    let all = c.all_of-all.ensures.all in
    let r = c.push_flow_calls.result in
    let start = c.args.words.now.items in
    let first = c.extend_from_slice.new.self.items in
    let second = c.push_first_uses.new.words.items in
    let third = c.push_last_uses.new.words.items in
    let fourth = c.push_last_calls.new.words.items in
    let end = c.push_flow_calls.new.words.items in
    let a = first_uses s (all_slots s) k in
    let b = last_uses s (all_slots s) k in
    let d = last_calls c.args.opens s (all_slots s) k in
    then_ok r start first end (codes "\nuse              minislots       %        calls\n")
    (a ++ (b ++ (d ++ flow_calls k)))
    c.in_ok-extend_from_slice.ensures.items
    (then_ok r first second end a (b ++ (d ++ flow_calls k))
    (c.in_ok-push_first_uses.ensures ∙ ap (λ n. first ++ first_uses s n k) all)
    (then_ok r second third end b (d ++ flow_calls k)
    (c.in_ok-push_last_uses.ensures ∙ ap (λ n. second ++ last_uses s n k) all)
    (then_ok r third fourth end d (flow_calls k)
    (c.in_ok-push_last_calls.ensures ∙ ap (λ n. third ++ last_calls c.args.opens s n k) all)
    c.push_flow_calls.ensures)))
