-- The sums are those of the grants with this one more.
use Rattle.std.proofs.Common.{◌≡◌, ap, ◌∙◌, ◌∷◌, [], ◌++◌, cond, arith}
use Rattle.flow_book.specs.declared.flow.Grant.{Grant}
use Rattle.flow_book.specs.Flows.{bytes_of, charge_of}
use Rattle.flow_book.specs.Reserved.{with_grant}
use Rattle.flow_book.specs.Choice.{last_start}
use Rattle.flow_book.specs.Entry.{live, top_rank}
use Rattle.flow_book.proofs.Charges.{charges-more}
use Rattle.flow_book.proofs.Sums.{last-more, last-behind, bytes-added}
use Rattle.flow_book.proofs.flow.Flow.note.Goals as goal

pub returns-clause-sums : goal.returns-clause-sums
returns-clause-sums c = λ channel is sum knows started charges stand settled.
    let f = c.args.self.now in
    let g : Grant = record { start = c.args.start; bytes = c.args.bytes } in
    let are = c.and-self.ensures in
    let reserved : c.and-self.result.reserved ≡ (with_grant channel g (live f)).reserved =
    are.3 ∙ ap (λ b. cond b (f.grants.reserved ++ charge_of g ∷ []) f.grants.reserved) is in
    let last = ap last_start are.0 ∙ last-more f.grants.items g in
    record {
      granted =
          omega (arith, c.from.ensures, sum, ap bytes_of are.0, bytes-added f.grants.items g.start g.bytes);
      turn = (
        knows.0,
        rw last (c.turn_after-self.ensures.after (top_rank f.spec) f.sid (last_start f.grants.items) knows.1),
      );
      last = rw are.0 (last-behind f.grants.items g started);
      charges = rw (are.0, are.1, are.2, reserved) (charges-more channel (live f) g charges);
      limits = rw (are.0, are.1, are.2, reserved) stand;
      settled = rw (are.0, are.1, are.2, reserved) settled;
    }
