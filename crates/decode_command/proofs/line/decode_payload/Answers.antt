-- The fault is what the buffer had before it was pointed to frames.
use Rattle.std.proofs.Common.{List, ℕ, Bool, [], Some, subst}
use Rattle.std.specs.Bool.{MatchBool}
use Rattle.decode_command.specs.Table.{ShowsMap}
use Rattle.decode_command.specs.ExplainedFault.{ShowsFault}
use Rattle.decode_command.proofs.line.decode_payload.Goals as goal

pub returns : goal.returns
returns c =
    let text = c.args.text.now in
    let before = c.args.buffer.now.items in
    let fault = c.decode_digits.new.writer.items in
    let shown = subst (λ (is : Bool). MatchBool is (ShowsMap c.args.columns text (Some before) (Some fault))
    (ShowsFault c.args.is_explained text (Some before) (Some fault))) c.if-branch.false
    c.in_ok-decode_digits.ensures.shown in
    record {
      fault = fault;
      shows = subst (λ (l : List ℕ). ShowsFault c.args.is_explained text (Some l) (Some fault)) c.requires shown;
      behind = c.in_ok-point_to_frames.ensures;
    }
