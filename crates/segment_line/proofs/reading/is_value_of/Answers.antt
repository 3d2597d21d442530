-- The texts are one exactly where the values are.
use Rattle.std.proofs.Common.{◌≡◌, Some, string_bytes, sym, ap, ◌∙◌}
use Rattle.std.proofs.lemmas.Slice.Eq.{bytes_eq-Decides}
use Rattle.serde_json.specs.Read.{read}
use Rattle.serde_json.specs.View.{view}
use Rattle.state_text.specs.StateText.{state_text}
use Rattle.segment_line.specs.SegmentLine.{segment_data}
use Rattle.segment_line.proofs.SegmentText.{crc-fits, segment_readable, shallow}
use Rattle.segment_line.proofs.SegmentRead.{value_from_text, text_from_value}
use Rattle.segment_line.proofs.reading.is_value_of.Goals as goal

pub returns-clause-value : goal.returns-clause-value
returns-clause-value c =
    let d = view c.args.value.now in
    let s = c.args.segment.now in
    let one = c.as_bytes.result.now in
    let other = c.as_slice.result.now in
    let fits = c.in_ok-text.ensures.fits in
    let made = c.in_ok-text.ensures.text in
    let written : one ≡ string_bytes c.in_ok-written.written = c.as_bytes.ensures.value in
    let reads : read one ≡ Some d = ap read written ∙ c.in_ok-written.ensures.reads_back c.requires in
    let same = bytes_eq-Decides one other in (
      λ is. record {
        sum = made.sum;
        is_crc = made.is_crc;
        is = value_from_text d (segment_data made.sum s) one
            (segment_readable made.sum s (crc-fits (state_text s.state) made.sum made.is_crc) fits) (shallow made.sum s)
            reads (same.0 (sym c.eq.ensures ∙ is) ∙ c.as_slice.ensures.value ∙ made.is);
      },
      λ is. c.eq.ensures ∙ same.1 (text_from_value d (segment_data is.sum s) one
          (segment_readable is.sum s (crc-fits (state_text s.state) is.sum is.is_crc) fits)
          (λ none. written ∙ c.in_ok-written.ensures.text none) is.is
          ∙ sym (c.as_slice.ensures.value ∙ c.in_ok-text.ensures.any is.sum is.is_crc)),
    )
