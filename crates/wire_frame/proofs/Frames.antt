-- A payload has one frame from an address, and a frame is of one address and one payload.
use Rattle.std.proofs.Common.{◌≡◌, ℕ, ◌+◌, ◌^◌, ◌<◌, List, ◌++◌, length, refl, sym, ap₂, ◌∙◌, arith}
use Rattle.std.specs.Int.{w16, w32, to_le_bytes}
use Rattle.map_codec.specs.WireMap.{spelling}
use Rattle.map_codec.proofs.Spelling.{length-spelling}
use Rattle.wire_frame.specs.Checksum.{ccitt, ethernet, IsHcs, IsCrc}
use Rattle.wire_frame.specs.MapFrame.{message, mac_header, IsMapFrame, hcs_of, crc_of, frame_of_map}
use Rattle.wire_frame.specs.MapFrame.{EachHasOneFrame, EachIsOfOneMap, EachMapHasItsFrame}
use Rattle.wire_frame.proofs.Sums.{is_checksum, same_sum}
use Rattle.wire_frame.proofs.Generators.{ccitt_sum, ccitt-lt, ethernet_sum, ethernet-lt}
use Rattle.wire_frame.proofs.MapFrames.{heard}
use Rattle.wire_frame.proofs.Placed.{length-message}

-- the functions give the remainders
hcs_is : (bytes : List ℕ) → IsHcs bytes (hcs_of bytes)
hcs_is bytes =
    let below = ccitt-lt bytes in
    is_checksum ccitt bytes _ (ccitt_sum bytes _ (omega (arith, below)))

crc_is : (bytes : List ℕ) → IsCrc bytes (crc_of bytes)
crc_is bytes =
    let below = ethernet-lt bytes in
    is_checksum ethernet bytes _ (ethernet_sum bytes _ (omega (arith, below)))

-- the one frame
pub frame_is : (address payload frame : List ℕ) → IsMapFrame address payload frame
    → frame ≡ frame_of_map address payload
unfolding frame_of_map
frame_is address payload frame f =
    let m = message address payload in
    let first = same_sum ccitt (mac_header m) f.hcs (hcs_of (mac_header m)) f.is_hcs (hcs_is (mac_header m)) in
    let second = same_sum ethernet m f.crc (crc_of m) f.is_crc (crc_is m) in
    f.bytes
    ∙ ap₂ (λ x y. (mac_header m ++ to_le_bytes w16 x) ++ (m ++ to_le_bytes w32 y)) first second

is_frame : (address payload frame : List ℕ) → length (message address payload) + 4 < 2 ^ 16
    → frame ≡ frame_of_map address payload → IsMapFrame address payload frame
unfolding frame_of_map
is_frame address payload frame fits e =
    let m = message address payload in
    record {
      hcs = hcs_of (mac_header m);
      crc = crc_of m;
      fits = fits;
      is_hcs = hcs_is (mac_header m);
      is_crc = crc_is m;
      bytes = e;
    }

-- a payload that fits has one frame from an address
pub each_has_one : EachHasOneFrame
each_has_one address payload frame fits = (frame_is address payload frame, is_frame address payload frame fits)

-- a frame is of one address and one payload
pub each_is_of_one : EachIsOfOneMap
each_is_of_one address payload another other frame six also f g =
    let one = heard address payload frame six f in
    let two = heard another other frame also g in
    (sym two.from_there ∙ one.from_there, sym two.carries ∙ one.carries)

-- a spelling has at most 976 bytes
pub each_map_has_its : EachMapHasItsFrame
each_map_has_its m address well six =
    let long = length-message address (spelling m) six in
    let size = length-spelling m in
    let few = well.count in
    is_frame address (spelling m) (frame_of_map address (spelling m)) (omega (arith, long, size, few)) refl
