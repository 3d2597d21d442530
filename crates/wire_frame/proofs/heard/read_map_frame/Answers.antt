-- What passes the tests is a frame and is read back; what does not is none.
use Rattle.std.proofs.Common.{refl, sym, true≢false, arith}
use Rattle.wire_frame.proofs.MapFrames.{heard, is_map_frame, no_frame}
use Rattle.wire_frame.proofs.heard.read_map_frame.Goals as goal

pub returns-in_err-check_front-clause-only : goal.returns-in_err-check_front-clause-only
returns-in_err-check_front-clause-only c = λ address payload six frame.
    absurd (no_frame address payload c.args.bytes.now _ c.in_err-check_front.ensures.exact
    (heard address payload c.args.bytes.now six frame))

pub returns-in_err-check_sums-clause-only : goal.returns-in_err-check_sums-clause-only
returns-in_err-check_sums-clause-only c = λ address payload six frame.
    absurd (no_frame address payload c.args.bytes.now _ c.in_err-check_sums.ensures.exact
    (heard address payload c.args.bytes.now six frame))

pub returns-then-not-has_map_header-clause-only : goal.returns-then-not-has_map_header-clause-only
returns-then-not-has_map_header-clause-only c = λ address payload six frame.
    true≢false (sym (c.if-not-has_map_header.ensures.1 (heard address payload c.args.bytes.now six frame).header))

pub returns-clause-found : goal.returns-clause-found
returns-clause-found c =
    is_map_frame c.args.bytes.now (λ i. omega (arith, c.type_inv.bytes i)) c.in_ok-check_sums.ensures.sums
    (c.if-not-has_map_header.ensures.0 refl)

pub returns-clause-only : goal.returns-clause-only
returns-clause-only c = λ address payload six frame.
    let shown = heard address payload c.args.bytes.now six frame in
    (shown.from_there, shown.carries)
