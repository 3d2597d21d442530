-- The turns stand for ranks and last starts.
use Rattle.flow_book.specs.Choice.{last_start}
use Rattle.flow_book.specs.Reserved.{rank_at}
use Rattle.flow_book.specs.Entry.{live}
use Rattle.flow_book.proofs.Serving.{rank-small}
use Rattle.flow_book.proofs.Turns.{turn-first}
use Rattle.flow_book.proofs.flow.Flow.comes_before.Goals as goal

pub returns-in-Some : goal.returns-in-Some
returns-in-Some c =
    let channel = c.args.config.now in
    let start = c.args.start in
    let f = c.args.self.now in
    let g = c.in-Some.next.now in
    let lower = rw c.in-Some.is at c.requires.lower in
    let keeps = rw c.in-Some.is at c.requires.next_sums in
    rw c.in-Some.is (turn-first (rank_at channel start (live f)) (rank_at channel start (live g))
    (last_start f.grants.items) (last_start g.grants.items) f.sid g.sid c.turn_at.result c.turn_at-in-Some.result lower
    (rank-small channel start f c.requires.sums.turn.0) (rank-small channel start g keeps.turn.0) c.turn_at.ensures
    c.turn_at-in-Some.ensures)
