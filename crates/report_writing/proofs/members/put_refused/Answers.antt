-- The member at one place more.
use Rattle.std.proofs.Common.{◌∙◌, ◌++◌, ◌+◌, sym, ap, drop, get_or}
use Rattle.serde_json.specs.Data.{Members}
use Rattle.report_writing.specs.Cells.{tokens_to_end}
use Rattle.report_writing.specs.Report.{refused_members, with_refusals, by_text}
use Rattle.report_writing.proofs.Refusals.{refused_members-drop}
use Rattle.report_writing.proofs.members.put_refused.Goals as goal

pub loop-index-preserved : goal.loop-index-preserved
loop-index-preserved c =
    let at = c.loop-index in
    let counts = c.args.refused.now in
    let rest = refused_members (drop (at.index + 1) by_text) counts in (
      c.in_ok-put_refusals.ensures.ok rest
          ∙ ap (λ n. at.out.tokens ++ tokens_to_end (with_refusals (get_or by_text at.index 0) n rest))
          c.refusals_at.ensures
          ∙ ap (λ (members : Members). at.out.tokens ++ tokens_to_end members)
          (sym (refused_members-drop by_text counts at.index 0 c.loop-index-test.true))
          ∙ at.invariant.0,
      c.in_ok-put_refusals.ensures.before ∙ at.invariant.1,
    )
