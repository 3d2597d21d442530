-- The pieces, one behind the other.
use Rattle.std.proofs.Common.{◌≡◌, decimal, sym, ◌∙◌, subst}
use Rattle.std.specs.Prelude.{codes}
use Rattle.wire_frame.specs.Checksum.{IsCrc}
use Rattle.state_text.specs.StateText.{state_text}
use Rattle.segment_line.specs.Spelled.{config_front}
use Rattle.segment_line.proofs.SegmentText.{compact_text-segment, pieces}
use Rattle.segment_line.proofs.writing.segment_object.Goals as goal

-- the text with any checksum that is the one which was put in
pub returns-clause-any : goal.returns-clause-any
returns-clause-any c =
    let s = c.args.segment.now in
    let state = c.in_ok-state.ensures.ok in
    λ sum is_crc.
    let one : sum ≡ c.crc.result =
    c.crc.ensures.only sum (subst (λ text. IsCrc text sum) (sym (c.deref-2.ensures.value ∙ state)) is_crc) in
    rw (
      one,
      c.in_ok-extend_from_slice-5.ensures.items,
      c.in_ok-extend_from_slice-4.ensures.items,
      c.in_ok-extend_from_slice-3.ensures.items,
      c.in_ok-put_labelled-2.ensures.ok,
      c.in_ok-put_labelled.ensures.ok,
      c.in_ok-extend_from_slice-2.ensures.items,
      c.in_ok-extend_from_slice.ensures.items,
      c.new-text.ensures.items,
      c.deref.ensures.value,
      c.in_ok-front.ensures.ok,
      c.deref-3.ensures.value,
      state,
      c.from.ensures,
    ) (pieces (codes "{\"segment\":") (config_front s.config) (codes ",\"crc\":") (decimal c.crc.result)
    (codes ",\"number\":") (decimal s.number) (codes ",\"state\":") (state_text s.state) (codes "}}")
    ∙ sym (compact_text-segment c.crc.result s))

pub returns-clause-text : goal.returns-clause-text
returns-clause-text c =
    let is_crc = subst (λ text. IsCrc text c.crc.result) (c.deref-2.ensures.value ∙ c.in_ok-state.ensures.ok)
    c.crc.ensures.is in
    record { sum = c.crc.result; is_crc = is_crc; is = returns-clause-any c c.crc.result is_crc }

pub returns-clause-fits : goal.returns-clause-fits
returns-clause-fits c = record {
  config = c.in_ok-front.ensures.fits;
  number = c.in_ok-put_labelled-2.ensures.fits;
  state = c.in_ok-state.ensures.fits;
}
