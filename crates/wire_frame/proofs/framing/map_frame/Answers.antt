-- The header, its HCS, the message and its CRC are written one behind the other.
use Rattle.std.proofs.Common.{◌≡◌, ◌+◌, ◌-◌, [], ◌∷◌, ◌++◌, length, take, drop, refl, ap, ap₂, ◌∙◌, subst, arith}
use Rattle.std.proofs.Common.{append_assoc, length-append, take_at, drop_at}
use Rattle.std.specs.Int.{w16, to_be_bytes}
use Rattle.wire_frame.specs.Checksum.{IsHcs, IsCrc}
use Rattle.wire_frame.specs.MapFrame.{message, mac_header}
use Rattle.wire_frame.proofs.Placed.{placed, placed_at, middle, length-message}
use Rattle.wire_frame.proofs.Frames.{frame_is}
use Rattle.wire_frame.proofs.framing.map_frame.Goals as goal

-- the length of the header and of its HCS
header_long : (c : goal.After-put-3) → length c.mac_header-header.result ≡ 4
header_long c = ap length c.mac_header-header.ensures

hcs_long : (c : goal.After-put-3) → length c.to_le_bytes.result ≡ 2
hcs_long c = ap length c.to_le_bytes.ensures

crc_long : (c : goal.After-put-3) → length c.to_le_bytes-2.result ≡ 4
crc_long c = ap length c.to_le_bytes-2.ensures

front_long : (c : goal.After-put-3) → length (c.mac_header-header.result ++ c.to_le_bytes.result) ≡ 6
front_long c =
    let h = header_long c in
    let s = hcs_long c in
    length-append c.mac_header-header.result c.to_le_bytes.result ∙ omega (arith, h, s)

-- the header, its HCS and the message stand in front
begun : (c : goal.After-put-3) → c.put_message.new.out
    ≡ ((c.mac_header-header.result ++ c.to_le_bytes.result) ++ message c.args.address.now c.args.payload.now)
    ++ drop (26 + length c.args.payload.now) c.args.out.now
begun c =
    let old = c.args.out.now in
    let h = c.mac_header-header.result in
    let s = c.to_le_bytes.result in
    let l = length c.args.payload.now in
    let m = message c.args.address.now c.args.payload.now in
    let long = length-message c.args.address.now c.args.payload.now c.told-address in
    let four = header_long c in
    let two = hcs_long c in
    let a = placed_at [] h old old c.put.new.out 0 4 refl (omega (arith, four)) refl c.put.ensures in
    let b = placed_at h s old c.put.new.out c.put-2.new.out 4 6 four (omega (arith, two)) a c.put-2.ensures in
    placed (h ++ s) m old c.put-2.new.out c.put_message.new.out 6 (26 + l) (front_long c) (omega (arith, long)) b
    c.put_message.ensures

-- and the CRC behind them
written : (c : goal.After-put-3) → c.put-3.new.out
    ≡ (((c.mac_header-header.result ++ c.to_le_bytes.result) ++ message c.args.address.now c.args.payload.now)
    ++ c.to_le_bytes-2.result) ++ drop (26 + length c.args.payload.now + 4) c.args.out.now
written c =
    let h = c.mac_header-header.result in
    let s = c.to_le_bytes.result in
    let l = length c.args.payload.now in
    let m = message c.args.address.now c.args.payload.now in
    let six = front_long c in
    let long = length-message c.args.address.now c.args.payload.now c.told-address in
    let four = crc_long c in
    let all : length ((h ++ s) ++ m) ≡ 26 + l = length-append (h ++ s) m ∙ omega (arith, six, long) in
    placed_at ((h ++ s) ++ m) c.to_le_bytes-2.result c.args.out.now c.put_message.new.out c.put-3.new.out (26 + l)
    (26 + l + 4) all (omega (arith, four)) (begun c) c.put-3.ensures

whole_long : (c : goal.After-put-3)
    → length (((c.mac_header-header.result ++ c.to_le_bytes.result) ++ message c.args.address.now c.args.payload.now)
    ++ c.to_le_bytes-2.result) ≡ 26 + length c.args.payload.now + 4
whole_long c =
    let h = c.mac_header-header.result in
    let s = c.to_le_bytes.result in
    let m = message c.args.address.now c.args.payload.now in
    let six = front_long c in
    let long = length-message c.args.address.now c.args.payload.now c.told-address in
    let four = crc_long c in
    let all = length-append (h ++ s) m in
    length-append ((h ++ s) ++ m) c.to_le_bytes-2.result ∙ omega (arith, six, long, four, all)

pub returns-clause-frame : goal.returns-clause-frame
returns-clause-frame c =
    let h = c.mac_header-header.result in
    let s = c.to_le_bytes.result in
    let k = c.to_le_bytes-2.result in
    let l = length c.args.payload.now in
    let m = message c.args.address.now c.args.payload.now in
    let long = length-message c.args.address.now c.args.payload.now c.told-address in
    let header : h ≡ mac_header m
    = c.mac_header-header.ensures ∙ ap (λ n. 0xC2 ∷ 0x00 ∷ to_be_bytes w16 n) (omega (arith, long)) in
    let body : take (26 + l - 6) (drop 6 c.put_message.new.out) ≡ m
    = ap (λ x. take (26 + l - 6) (drop 6 x)) (begun c)
    ∙ middle (h ++ s) m (drop (26 + l) c.args.out.now) 6 (26 + l - 6) (front_long c) (omega (arith, long)) in
    record {
      hcs = c.hcs.result;
      crc = c.crc-sum.result;
      fits = omega (arith, long);
      is_hcs = subst (λ x. IsHcs x c.hcs.result) header c.hcs.ensures.is;
      is_crc = subst (λ x. IsCrc x c.crc-sum.result) body c.crc-sum.ensures.is;
      bytes =
          ap (take (26 + l + 4)) (written c)
          ∙ take_at (((h ++ s) ++ m) ++ k) (drop (26 + l + 4) c.args.out.now) (26 + l + 4) (whole_long c)
          ∙ append_assoc (h ++ s) m k
          ∙ ap₂ (λ x y. x ++ (m ++ y)) (ap₂ (λ x y. x ++ y) header c.to_le_bytes.ensures) c.to_le_bytes-2.ensures;
    }

pub returns-clause-rest : goal.returns-clause-rest
returns-clause-rest c =
    let h = c.mac_header-header.result in
    let s = c.to_le_bytes.result in
    let k = c.to_le_bytes-2.result in
    let n = 26 + length c.args.payload.now + 4 in
    let m = message c.args.address.now c.args.payload.now in
    ap (drop n) (written c) ∙ drop_at (((h ++ s) ++ m) ++ k) (drop n c.args.out.now) n (whole_long c)

pub returns-clause-exact : goal.returns-clause-exact
returns-clause-exact c = frame_is c.args.address.now c.args.payload.now _ (returns-clause-frame c)
