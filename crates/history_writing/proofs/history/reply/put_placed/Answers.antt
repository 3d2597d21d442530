-- The members of a placement, one behind the other.
use Rattle.std.proofs.Common.{◌<◌, ◌^◌, sym, subst}
use Rattle.std.specs.List.{AllByRecursion}
use Rattle.history_writing.specs.Json.{placed_data}
use Rattle.text_stream.proofs.Written.{where_ok}
use Rattle.history_writing.proofs.JsonTokens.{then_more}
use Rattle.history_writing.proofs.history.reply.put_placed.Goals as goal

pub returns-clause-ok : goal.returns-clause-ok
unfolding placed_data
returns-clause-ok c =
    let begun = c.begin_object.new.self.tokens in
    let named = c.put_name.new.out.tokens in
    let counted = c.put_count.new.out.tokens in
    let placed = c.put_offsets.new.out.tokens in
    let last = c.end_object.new.self.tokens in
    rw (sym c.as_slice.ensures) (where_ok c.end_object.result (λ ended.
    then_more c.args.out.now.tokens begun last _ _ c.in_ok-begin_object.ensures.ok
    (then_more begun named last _ _ c.in_ok-put_name.ensures.ok
    (then_more named counted last _ _ c.in_ok-put_count.ensures.ok
    (then_more counted placed last _ _ c.in_ok-put_offsets.ensures.ok ended)))) c.end_object.ensures.ok)

pub returns-clause-fits : goal.returns-clause-fits
returns-clause-fits c =
    let starts = subst (AllByRecursion (λ start. start < 2 ^ 16)) c.as_slice.ensures c.in_ok-put_offsets.ensures.fits in
    where_ok c.end_object.result (λ _. (c.in_ok-put_count.ensures.fits, starts)) c.end_object.ensures.ok
