-- What stands between two quotes, all of it digits.
use Rattle.std.proofs.Common.{◌≡◌, ◌+◌, ◌-◌, ◌<◌, ◌∷◌, ◌++◌, length, take, drop, get_or, refl, sym, ap, ◌∙◌, arith}
use Rattle.std.proofs.lemmas.Bool.{eqb-true}
use Rattle.std.proofs.lemmas.List.{drop-drop, take-append-drop, length-drop, take_all}
use Rattle.hex.proofs.HexLemmas.{decode_of-ok}
use Rattle.byte_tokens.proofs.Bytes.{first, next_byte}
use Rattle.byte_tokens.proofs.Digits.{digits_plain}
use Rattle.byte_tokens.proofs.hexadecimal.hex_at.Goals as goal

pub returns : goal.returns
returns c =
    let text = c.args.text.now in
    let at = c.args.at in
    let stop = c.in_ok-stop.stop in
    let behind = take (length text - (at + 1)) (drop (at + 1) text) in
    let s = take stop behind in
    let whole : behind ≡ drop (at + 1) text =
    take_all (length text - (at + 1)) (drop (at + 1) text) (omega (arith, length-drop (at + 1) text)) in
    let here = first text text at c.byte_at.result 34 refl c.if-byte_at-ne34.false c.byte_at.ensures.here
    (omega arith) in
    let found = c.in_ok-stop.ensures in
    let within : stop < length behind = found.0.high in
    let quote : get_or behind stop 0 ≡ 34 = eqb-true (get_or behind stop 0) 34 found.1 in
    let next : drop stop behind ≡ 34 ∷ drop (at + 1 + stop + 1) text =
    next_byte behind stop within
    ∙ (λ i. quote i ∷ drop (stop + 1) (whole i))
    ∙ ap (λ l. 34 ∷ l) (drop-drop (stop + 1) (at + 1) text)
    ∙ ap (λ k. 34 ∷ drop k text) (omega arith) in
    let digits = c.in_ok-bytes.ensures in (
      s,
      digits_plain s (decode_of-ok s c.in_ok-bytes.bytes.items digits).1,
      digits,
      omega (arith, within, ap length whole, length-drop (at + 1) text),
      here ∙ ap (λ l. 34 ∷ l) (sym whole ∙ sym (take-append-drop stop behind) ∙ ap (λ l. s ++ l) next),
    )
