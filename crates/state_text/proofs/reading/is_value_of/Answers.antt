-- The texts are one exactly where the values are.
use Rattle.std.proofs.Common.{◌≡◌, Some, string_bytes, sym, ap, ◌∙◌}
use Rattle.std.proofs.lemmas.Slice.Eq.{bytes_eq-Decides}
use Rattle.serde_json.specs.Read.{read}
use Rattle.serde_json.specs.View.{view}
use Rattle.state_text.specs.StateText.{state_text}
use Rattle.state_text.proofs.StateRead.{value_from_text, text_from_value}
use Rattle.state_text.proofs.reading.is_value_of.Goals as goal

pub returns-clause-value : goal.returns-clause-value
returns-clause-value c =
    let d = view c.args.value.now in
    let s = c.args.state.now in
    let one = c.as_bytes.result.now in
    let other = c.as_slice.result.now in
    let written : one ≡ string_bytes c.in_ok-written.written = c.as_bytes.ensures.value in
    let reads : read one ≡ Some d = ap read written ∙ c.in_ok-written.ensures.reads_back c.requires in
    let spelled : other ≡ state_text s = c.as_slice.ensures.value ∙ c.in_ok-text.ensures.ok in
    let fits = c.in_ok-text.ensures.fits in
    let same = bytes_eq-Decides one other in (
      λ is. value_from_text d s one fits reads (same.0 (sym c.eq.ensures ∙ is) ∙ spelled),
      λ is. c.eq.ensures ∙ same.1 (text_from_value d s one fits (λ none. written ∙ c.in_ok-written.ensures.text none) is
          ∙ sym spelled),
    )
