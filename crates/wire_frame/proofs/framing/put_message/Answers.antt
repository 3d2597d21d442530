-- Each piece is written behind those before it.
use Rattle.std.proofs.Common.{◌≡◌, ◌+◌, ◌++◌, length, take, drop, refl, sym, ap, ◌∙◌, arith}
use Rattle.std.proofs.Common.{length-append, length-take, take-append-drop}
use Rattle.std.specs.Int.{w16, to_be_bytes}
use Rattle.wire_frame.specs.MapFrame.{all_modems, map_type}
use Rattle.wire_frame.proofs.Placed.{placed, in_message}
use Rattle.wire_frame.proofs.framing.put_message.Goals as goal

pub returns : goal.returns
returns c =
    let old = c.args.out.now in
    let address = c.args.address.now in
    let payload = c.args.payload.now in
    let len = to_be_bytes w16 (6 + length payload) in
    let six : length (take 6 old) ≡ 6 = omega (arith, length-take 6 old, c.told-out) in
    let whole : old ≡ take 6 old ++ drop 6 old = sym (take-append-drop 6 old) in
    let two : length len ≡ 2 = refl in
    let la : length (take 6 old ++ all_modems) ≡ 12 = length-append (take 6 old) all_modems ∙ omega arith in
    let lb : length ((take 6 old ++ all_modems) ++ address) ≡ 18
    = length-append (take 6 old ++ all_modems) address ∙ omega (arith, c.told-address) in
    let lc : length (((take 6 old ++ all_modems) ++ address) ++ len) ≡ 20
    = length-append ((take 6 old ++ all_modems) ++ address) len ∙ omega arith in
    let ld : length ((((take 6 old ++ all_modems) ++ address) ++ len) ++ map_type) ≡ 26
    = length-append (((take 6 old ++ all_modems) ++ address) ++ len) map_type ∙ omega arith in
    let a = placed (take 6 old) all_modems old old c.put.new.out 6 12 six refl whole
    (rw c.all_modems.ensures at c.put.ensures) in
    let b = placed (take 6 old ++ all_modems) address old c.put.new.out c.put-2.new.out 12 18 la
    (omega (arith, c.told-address)) a (rw c.told-address at c.put-2.ensures) in
    let d = placed ((take 6 old ++ all_modems) ++ address) len old c.put-2.new.out c.put-3.new.out 18 20 lb refl b
    (rw c.to_be_bytes.ensures at c.put-3.ensures) in
    let e = placed (((take 6 old ++ all_modems) ++ address) ++ len) map_type old c.put-3.new.out c.put-4.new.out
    20 26 lc refl d (rw c.map_type.ensures at c.put-4.ensures) in
    let f = placed ((((take 6 old ++ all_modems) ++ address) ++ len) ++ map_type) payload old c.put-4.new.out
    c.put-5.new.out 26 (26 + length payload) ld refl e c.put-5.ensures in
    f ∙ ap (λ x. x ++ drop (26 + length payload) old) (in_message (take 6 old) all_modems address len map_type payload)
