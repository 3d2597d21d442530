-- The line of an address, in the pieces in which it is written.
use Rattle.std.proofs.Common.{◌≡◌, ℕ, List, [], ◌∷◌, ◌++◌, length, take, drop, slice_index, codes, ap, arith}
use Rattle.std.proofs.lemmas.List.{take_all}
use Rattle.std.specs.List.{flat_map}
use Rattle.hex.specs.Hex.{encode_lower}
use Rattle.decode_command.specs.Frame.{byte_text, map_frame_line}

-- the line of a MAP's frame, put together from the first byte of the address and the five behind it
pub line_parts : (address : List ℕ) → length address ≡ 6
    → codes "frame map " ++ (encode_lower (slice_index address 0 ∷ []) ++ flat_map byte_text (take 5 (drop 1 address)))
    ++ codes "\n" ≡ map_frame_line address
unfolding map_frame_line
line_parts (first ∷ bytes) six =
    ap (λ l. codes "frame map " ++ (encode_lower (first ∷ []) ++ flat_map byte_text l) ++ codes "\n")
    (take_all 5 bytes (omega arith))
line_parts [] six = absurd (omega arith)
