-- What stands between two quotes.
use Rattle.std.proofs.Common.{◌≡◌, ◌+◌, ◌-◌, ◌∷◌, ◌++◌, take, drop, sym, ap, ◌∙◌, subst, arith}
use Rattle.std.proofs.lemmas.Str.{IsCharBoundary-after_ascii}
use Rattle.json.specs.Print.{escape}
use Rattle.byte_tokens.proofs.Bytes.{first, at_stop, byte_there}
use Rattle.byte_tokens.proofs.spelled.quoted.Goals as goal

pub range-requires-clause-start_boundary : goal.range-requires-clause-start_boundary
range-requires-clause-start_boundary c some =
    let text = c.args.text.now in
    let bytes = c.as_bytes-bytes.result.now in
    let same = c.as_bytes-bytes.ensures.value in
    let here = first bytes text c.args.at c.byte_at.result 34 same c.if-byte_at-ne34.false
    c.byte_at.ensures.here (omega arith) in
    let there = byte_there text c.args.at 34 here in
    IsCharBoundary-after_ascii text c.args.at c.utf8.text there.0 (omega (arith, there.1))

pub returns : goal.returns
returns c =
    let text = c.args.text.now in
    let bytes = c.as_bytes-bytes.result.now in
    let same = c.as_bytes-bytes.ensures.value in
    let at = c.args.at in
    let stop = c.plain_end-stop.result in
    let here = first bytes text at c.byte_at.result 34 same c.if-byte_at-ne34.false c.byte_at.ensures.here
    (omega arith) in
    let end = first bytes text stop c.byte_at-2.result 34 same c.if-byte_at-ne34-2.false c.byte_at-2.ensures.here
    (omega arith) in
    let there = byte_there text stop 34 end in
    let found : c.range.result.now ≡ take (stop - (at + 1)) (drop (at + 1) text) = c.range.ensures.value in
    let plain = subst
    (λ t. escape (take (stop - (at + 1)) (drop (at + 1) t)) ≡ take (stop - (at + 1)) (drop (at + 1) t))
    same c.plain_end-stop.ensures.plain in (
      ap escape found ∙ plain ∙ sym found,
      omega (arith, there.0),
      here ∙ ap (λ l. 34 ∷ l) (at_stop text (at + 1) stop (drop (stop + 1) text) c.plain_end-stop.ensures.within.0 end
          ∙ ap (λ s. s ++ 34 ∷ drop (stop + 1) text) (sym found)),
    )
