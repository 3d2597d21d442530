-- The number of a fault behind its label.
use Rattle.std.proofs.Common.{◌∙◌}
use Rattle.std.proofs.KnownBytes.{Appends-trans}
use Rattle.text_stream.proofs.Written.{where_written}
use Rattle.decode_command.specs.Frame.{frame_fault_line}
use Rattle.decode_command.proofs.frame.put_frame_fault.Goals as goal

pub returns : goal.returns
unfolding frame_fault_line
returns g c =
    let before = c.in_ok-put_labelled.ensures in
    where_written _ c.put.result (λ more. Appends-trans _ _ _ _ _ before.0 more) (λ same. same ∙ before.1) c.put.ensures
