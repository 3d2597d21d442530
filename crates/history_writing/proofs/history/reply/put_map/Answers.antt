-- The members of a MAP, one behind the other.
use Rattle.std.proofs.Common.{◌<◌, ◌^◌, sym, subst}
use Rattle.std.specs.List.{AllByRecursion}
use Rattle.history_writing.specs.Json.{map_data}
use Rattle.text_stream.proofs.Written.{where_ok}
use Rattle.history_writing.proofs.JsonTokens.{then_more}
use Rattle.history_writing.proofs.history.reply.put_map.Goals as goal

pub returns-clause-ok : goal.returns-clause-ok
unfolding map_data
returns-clause-ok c =
    let begun = c.begin_object.new.self.tokens in
    let acked = c.put_count.new.out.tokens in
    let sized = c.put_bytes.new.out.tokens in
    let spelled = c.put_hex.new.out.tokens in
    let named = c.put_name.new.out.tokens in
    let started = c.put_count-2.new.out.tokens in
    let last = c.end_object.new.self.tokens in
    rw (sym c.as_slice.ensures)
    (where_ok c.end_object.result (λ ended.
    then_more c.args.out.now.tokens begun last _ _ c.in_ok-begin_object.ensures.ok
    (then_more begun acked last _ _ c.in_ok-put_count.ensures.ok
    (then_more acked sized last _ _ c.in_ok-put_bytes.ensures.ok
    (then_more sized spelled last _ _ c.in_ok-put_hex.ensures.ok
    (then_more spelled named last _ _ c.in_ok-put_name.ensures.ok
    (then_more named started last _ _ c.in_ok-put_count-2.ensures.ok ended)))))) c.end_object.ensures.ok)

pub returns-clause-fits : goal.returns-clause-fits
returns-clause-fits c =
    where_ok c.end_object.result (λ _. record {
      start = c.in_ok-put_count-2.ensures.fits;
      ack = c.in_ok-put_count.ensures.fits;
      formed = c.requires;
      bytes = subst (AllByRecursion (λ n. n < 2 ^ 32)) c.as_slice.ensures c.in_ok-put_bytes.ensures.fits;
    }) c.end_object.ensures.ok
