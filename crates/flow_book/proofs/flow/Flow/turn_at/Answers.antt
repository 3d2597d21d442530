-- Under its reservation the flow has the rank of polled flows, and else its own.
use Rattle.std.proofs.Common.{◌≡◌, sym, ap, ◌∙◌, cond}
use Rattle.sched_calls.specs.FlowSpec.{rank_of}
use Rattle.flow_book.specs.Choice.{last_start}
use Rattle.flow_book.specs.Reserved.{rank_at}
use Rattle.flow_book.specs.Entry.{live, top_rank}
use Rattle.flow_book.proofs.flow.Flow.turn_at.Goals as goal
use Rattle.flow_book.proofs.flow.Flow.turn_at.Goals.{then-is_under, else-is_under}

pub returns : goal.returns
returns c =
    let channel = c.args.config.now in
    let f = c.args.self.now in
    let keeps = c.requires.sums in
    let rank : c.if-is_under.rank ≡ rank_at channel c.args.start (live f) = elim c.if-is_under.branch [
      | then-is_under w ↦ w.rank-is
          ∙ sym (ap (λ b. cond b 8 (rank_of f.spec)) (sym c.is_under.ensures ∙ w.if-is_under.true))
      | else-is_under w ↦ w.rank-is ∙ w.rank-rank.ensures
          ∙ sym (ap (λ b. cond b 8 (rank_of f.spec)) (sym c.is_under.ensures ∙ w.if-is_under.false))
    ] in
    let last = last_start f.grants.items in
    rw (sym rank) (c.turn_in.ensures.of (top_rank f.spec) f.sid last keeps.turn.1)
