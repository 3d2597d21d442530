-- Bytes of the length of a request that are none are no frame.
use Rattle.std.proofs.Common.{sym, ◌∙◌, true≢false}
use Rattle.decode_command.proofs.FrameKinds.{no_frame}
use Rattle.decode_command.proofs.frame.put_frame.Goals as goal

pub returns-in_ok-put_frame_fault-in-Err-clause-exact : goal.returns-in_ok-put_frame_fault-in-Err-clause-exact
returns-in_ok-put_frame_fault-in-Err-clause-exact g c =
    let long = sym c.is_request_long.ensures ∙ c.if-not-is_request_long.false in (
      λ t. absurd (true≢false (sym t)),
      λ h. absurd (no_frame c.args.bytes.now long
          (λ r frame. let no = c.in-Err.ensures.only r frame in absurd cc) h),
    )
