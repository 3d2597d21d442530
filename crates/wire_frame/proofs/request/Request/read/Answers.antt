-- What passes the tests is a frame and is read back; what does not is none.
use Rattle.std.proofs.Common.{Ok, ap, ◌∙◌, arith}
use Rattle.wire_frame.proofs.Requests.{Passes, passes, is_read, is_frame, not_passed}
use Rattle.wire_frame.proofs.request.Request.read.Goals as goal

pub returns-in_err-check_kind-clause-only : goal.returns-in_err-check_kind-clause-only
returns-in_err-check_kind-clause-only c = λ r frame.
    absurd (not_passed c.args.bytes.now _ c.in_err-check_kind.ensures.exact (passes r c.args.bytes.now frame))

pub returns-in_err-check_rest-clause-only : goal.returns-in_err-check_rest-clause-only
returns-in_err-check_rest-clause-only c = λ r frame.
    absurd (not_passed c.args.bytes.now _ c.in_err-check_rest.ensures.exact (passes r c.args.bytes.now frame))

pub returns-clause-found : goal.returns-clause-found
returns-clause-found c =
    let all : Passes c.args.bytes.now = record {
      has_len = c.in_ok-check_kind.ensures.length;
      kind = c.in_ok-check_kind.ensures.kind;
      sid = c.in_ok-check_rest.ensures.sid;
      hcs = c.in_ok-check_rest.ensures.hcs;
    } in
    rw c.request_in.ensures (is_frame c.args.bytes.now (λ i. omega (arith, c.type_inv.bytes i)) all)

pub returns-clause-only : goal.returns-clause-only
returns-clause-only c = λ r frame. ap Ok (c.request_in.ensures ∙ is_read r c.args.bytes.now frame)
