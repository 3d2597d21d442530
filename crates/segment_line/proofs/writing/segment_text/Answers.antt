-- The line is one of the segment, and is read again.
use Rattle.segment_line.proofs.SegmentText.{line-again}
use Rattle.segment_line.proofs.writing.segment_text.Goals as goal

pub returns-clause-again : goal.returns-clause-again
returns-clause-again c = λ later possible.
    let text = c.in_ok-text.ensures in
    line-again c.args.segment.now c.push.new.self.items text.fits text.lawful
    (record { text = c.in_ok-text.text.items; is_text = text.text; ended = c.in_ok-push.ensures.items }) later possible
