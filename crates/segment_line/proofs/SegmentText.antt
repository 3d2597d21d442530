-- The text of a segment's first line: it is read as its value, has no newline in it, and is never too long.
use Rattle.std.proofs.Common.{◌≡◌, ℕ, ◌<◌, ◌≤◌, ◌^◌, List, [], ◌∷◌, ◌++◌, length, take, decimal, refl, ap, ◌∙◌}
use Rattle.std.proofs.Common.{◌+◌, ◌-◌, subst, arith, append_assoc, length-append}
use Rattle.std.proofs.lemmas.List.{take-append-le}
use Rattle.std.proofs.Math.Seq.{take-length}
use Rattle.std.specs.Prelude.{codes}
use Rattle.serde_json.specs.Data.{depth}
use Rattle.serde_json.specs.Read.{max_depth}
use Rattle.serde_json.specs.Written.{compact_text}
use Rattle.serde_json.proofs.OnLiterals.{serde_json_on_literals}
use Rattle.minislots.specs.declared.config.Config.{Config}
use Rattle.minislots.specs.Config.{IsLawful}
use Rattle.wire_frame.specs.Checksum.{IsCrc}
use Rattle.wire_frame.proofs.Generators.{length-ethernet}
use Rattle.channel_states.specs.Possible.{IsPossible}
use Rattle.history_writing.specs.Journal.{opening_data, opening_line}
use Rattle.state_text.specs.StateText.{state_text}
use Rattle.state_text.proofs.Readable.{IsReadable, read-alone, once-alone, IsUtf8-compact}
use Rattle.state_text.proofs.StateReadable.{state_readable, depth-state}
use Rattle.segment_line.specs.declared.segment.Segment.{Segment}
use Rattle.segment_line.specs.declared.segment.FirstLine.TheVariants.{Later}
use Rattle.segment_line.specs.declared.segment.TheConstants.{MAX_FIRST_LINE}
use Rattle.segment_line.specs.Fits.{SegmentFits}
use Rattle.segment_line.specs.SegmentLine.{parts_data, segment_data, IsSegmentLine, IsLineOf}
use Rattle.segment_line.specs.Spelled.{config_front}
use Rattle.segment_line.proofs.ConfigReadable.{config_readable}
use Rattle.segment_line.proofs.ConfigDepth.{depth-config}
use Rattle.segment_line.proofs.ConfigRoom.{room-config}
use Rattle.segment_line.proofs.NoNewline.{compact_within}
use Rattle.segment_line.proofs.StateRoom.{room-state}
use Rattle.segment_line.proofs.TextRoom.{room, length-compact}

-- a checksum fits 64 bits
pub crc-fits : (message : List ℕ) (sum : ℕ) → IsCrc message sum → sum < 2 ^ 64
crc-fits message sum is =
    let fits : sum < 2 ^ 32 = subst (λ n. sum < 2 ^ n) length-ethernet is.fits in
    omega (arith, fits)

-- the value of a segment's first line is read again in its text
pub segment_readable : (sum : ℕ) (s : Segment) → sum < 2 ^ 64 → SegmentFits s → IsReadable (segment_data sum s)
unfolding segment_data parts_data
segment_readable sum s small fits = (
  refl,
  (
    refl,
    (
      refl,
      (
        refl,
        config_readable s.config fits.config,
        (refl, small, (refl, fits.number, (refl, state_readable s.state fits.state, tt))),
      ),
    ),
    tt,
  ),
)

-- and nests no deeper than seven levels
pub depth-segment : (sum : ℕ) (s : Segment) → depth (segment_data sum s) ≤ 7
unfolding segment_data parts_data
depth-segment sum s =
    let config = depth-config s.config in
    let state = depth-state s.state in
    omega (arith, config, state)

-- so it is not too deep to be read
pub shallow : (sum : ℕ) (s : Segment) → depth (segment_data sum s) ≤ max_depth
shallow sum s = let deep = depth-segment sum s in omega (arith, deep)

-- ---- what it is made of

-- the text, piece by piece
pub compact_text-segment : (sum : ℕ) (s : Segment) → compact_text (segment_data sum s)
    ≡ codes "{\"segment\":" ++ (config_front s.config ++ (codes ",\"crc\":" ++ (decimal sum ++ (
    codes ",\"number\":" ++ (decimal s.number ++ (codes ",\"state\":" ++ (state_text s.state ++ codes "}}")))))))
unfolding segment_data parts_data config_front state_text serde_json_on_literals
compact_text-segment sum s = simp append_assoc refl

-- pieces that were put behind one another, one by one
pub pieces : (a b p q r s t u v : List ℕ)
    → (((((([] ++ a) ++ b) ++ (p ++ q)) ++ (r ++ s)) ++ t) ++ u) ++ v
    ≡ a ++ (b ++ (p ++ (q ++ (r ++ (s ++ (t ++ (u ++ v)))))))
pieces a b p q r s t u v = simp append_assoc refl

-- the line of an opening is the front of an object, and what closes it
pub opening_line-front : (c : Config) → opening_line c ≡ config_front c ++ 125 ∷ 10 ∷ []
unfolding opening_line opening_data config_front serde_json_on_literals
opening_line-front c = simp append_assoc refl

-- so it is two bytes longer
pub length-opening_line : (c : Config) → length (opening_line c) ≡ length (config_front c) + 2
length-opening_line c =
    ap length (opening_line-front c) ∙ length-append (config_front c) (125 ∷ 10 ∷ [])

-- and the front stands before its last two bytes
pub take-opening_line : (c : Config) (n : ℕ) → n ≡ length (opening_line c) - 2
    → take n (opening_line c) ≡ config_front c
take-opening_line c n is =
    let front = config_front c in
    let len : n ≡ length front = omega (arith, is, length-opening_line c) in
    ap (take n) (opening_line-front c) ∙ ap (λ m. take m (front ++ 125 ∷ 10 ∷ [])) len
    ∙ take-append-le (length front) front (125 ∷ 10 ∷ []) (omega arith) ∙ take-length front

-- ---- its length

room-segment : (sum : ℕ) (s : Segment) → IsLawful s.config → IsPossible s.config s.state
    → room (segment_data sum s) ≤ MAX_FIRST_LINE
unfolding segment_data parts_data
room-segment sum s lawful possible =
    let config = room-config s.config in
    let state = room-state s.config s.state lawful possible in
    omega (arith, config, state)

-- ---- it is read again

-- the line of a later segment in which something can go on is a first line of it
pub line-again : (s : Segment) (line : List ℕ) → SegmentFits s → IsLawful s.config → IsSegmentLine s line
    → 1 < s.number → IsPossible s.config s.state → IsLineOf (Later s) line
line-again s line fits lawful is later possible =
    let sum = is.is_text.sum in
    let d = segment_data sum s in
    let small = crc-fits (state_text s.state) sum is.is_text.is_crc in
    let readable = segment_readable sum s small fits in
    let most = room-segment sum s lawful possible in
    record {
      line = compact_text d;
      within = compact_within d;
      is = record {
        short = omega (arith, length-compact d readable, most);
        stands = record {
          value = d;
          utf8 = IsUtf8-compact d readable;
          reads = read-alone d readable (shallow sum s);
          is = record {
            sum = sum;
            is_crc = is.is_text.is_crc;
            is = refl;
            later = later;
            lawful = lawful;
            possible = possible;
          };
          once = once-alone d readable (shallow sum s);
        };
      };
      ended = is.ended ∙ ap (λ (text : List ℕ). text ++ 10 ∷ []) is.is_text.is;
    }
