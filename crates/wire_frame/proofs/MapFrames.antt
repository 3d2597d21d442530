-- The frame of a MAP passes the tests of bytes that are heard, and bytes that pass them are a frame and are read back.
use Rattle.std.proofs.Common.{◌≡◌, ℕ, ◌+◌, ◌-◌, ◌^◌, ◌<◌, ◌≤◌, List, [], ◌∷◌, ◌++◌, length, take, drop}
use Rattle.std.proofs.Common.{slice_index, refl, sym, ap, ap₂, ◌∙◌, subst, arith, true≢false}
use Rattle.std.proofs.Common.{length-append, length-take, take-append-drop, take_at, drop_at, drop-drop}
use Rattle.std.specs.Int.{w16, w32, to_be_bytes, from_be_bytes, to_le_bytes}
use Rattle.std.proofs.lemmas.Bool.Decides.{nat_tests}
use Rattle.std.proofs.lemmas.Nat.{from_be_bytes-to_be_bytes_2}
use Rattle.wire_frame.specs.declared.heard.MapFrameFault.{MapFrameFault}
use Rattle.wire_frame.specs.declared.heard.MapFrameFault.TheVariants.{Length, Kind, Hcs, Crc, Header}
use Rattle.wire_frame.specs.Checksum.{IsHcs, IsCrc}
use Rattle.wire_frame.specs.MapFrame.{all_modems, map_type, message, mac_header, IsMapFrame}
use Rattle.wire_frame.specs.Heard.{HasMapHeader, HasSums}
use Rattle.wire_frame.specs.Heard.{IsMapFrameFault}
use Rattle.wire_frame.proofs.Requests.{be_pair}

-- the sender's address in bytes
abbrev pub address_in : List ℕ → List ℕ
address_in bytes =
    slice_index bytes 12 ∷ slice_index bytes 13 ∷ slice_index bytes 14 ∷ slice_index bytes 15 ∷ slice_index bytes 16
    ∷ slice_index bytes 17 ∷ []

-- and the payload
abbrev pub payload_in : List ℕ → List ℕ
payload_in bytes = take (length bytes - 4 - 26) (drop 26 bytes)

-- what a frame of an address and a payload shows to whoever hears it
pub record IsHeard (address payload bytes : List ℕ) : Type 0 where
  pub sums : HasSums bytes
  pub header : HasMapHeader bytes
  pub from_there : address_in bytes ≡ address
  pub carries : payload_in bytes ≡ payload

-- the frame of a message, with its checksums
abbrev framed : List ℕ → List ℕ → ℕ → ℕ → List ℕ
framed address payload hcs crc =
    (mac_header (message address payload) ++ to_le_bytes w16 hcs)
    ++ (message address payload ++ to_le_bytes w32 crc)

-- from an address whose bytes are told
heard_from : (a b c d e f hcs crc : ℕ) (payload : List ℕ)
    → length (message (a ∷ b ∷ c ∷ d ∷ e ∷ f ∷ []) payload) + 4 < 2 ^ 16
    → IsHcs (mac_header (message (a ∷ b ∷ c ∷ d ∷ e ∷ f ∷ []) payload)) hcs
    → IsCrc (message (a ∷ b ∷ c ∷ d ∷ e ∷ f ∷ []) payload) crc
    → IsHeard (a ∷ b ∷ c ∷ d ∷ e ∷ f ∷ []) payload (framed (a ∷ b ∷ c ∷ d ∷ e ∷ f ∷ []) payload hcs crc)
heard_from a b c d e f hcs crc payload fits is_hcs is_crc =
    let address = a ∷ b ∷ c ∷ d ∷ e ∷ f ∷ [] in
    let m = message address payload in
    let tail = to_le_bytes w32 crc in
    let frame = framed address payload hcs crc in
    let behind : length (payload ++ tail) ≡ length payload + 4 = length-append payload tail in
    let long : length frame ≡ 30 + length payload = omega (arith, behind) in
    let told = from_be_bytes-to_be_bytes_2 (length m + 4) fits in
    let body : take (length frame - 4 - 6) (drop 6 frame) ≡ m
    = take_at m tail (length frame - 4 - 6) (omega (arith, long)) in
    let last : drop (length frame - 4) frame ≡ tail
    = drop_at ((mac_header m ++ to_le_bytes w16 hcs) ++ m) tail (length frame - 4) (omega (arith, long)) in
    record {
      sums = (
        (grind (arith, nat_tests, told, long), refl),
        record { sum = hcs; is_hcs = is_hcs; stands = refl },
        record { sum = crc; is_crc = subst (λ x. IsCrc x crc) (sym body) is_crc; stands = last },
      );
      header = record {
        receivers = refl;
        long = ap (to_be_bytes w16) (omega (arith, long));
        what = refl;
      };
      from_there = refl;
      carries = take_at payload tail (length frame - 4 - 26) (omega (arith, long));
    }

-- an address of six bytes
heard_framed : (address payload : List ℕ) (hcs crc : ℕ) → length address ≡ 6
    → length (message address payload) + 4 < 2 ^ 16
    → IsHcs (mac_header (message address payload)) hcs → IsCrc (message address payload) crc
    → IsHeard address payload (framed address payload hcs crc)
heard_framed (a ∷ b ∷ c ∷ d ∷ e ∷ f ∷ []) payload hcs crc six fits is_hcs is_crc =
    heard_from a b c d e f hcs crc payload fits is_hcs is_crc
heard_framed (a ∷ b ∷ c ∷ d ∷ e ∷ f ∷ g ∷ gs) payload hcs crc six fits is_hcs is_crc = absurd (omega arith)
heard_framed address payload hcs crc six fits is_hcs is_crc = absurd (omega arith)

-- a frame of an address and a payload shows them to whoever hears it
pub heard : (address payload bytes : List ℕ) → length address ≡ 6 → IsMapFrame address payload bytes
    → IsHeard address payload bytes
heard address payload bytes six f =
    subst (IsHeard address payload) (sym f.bytes)
    (heard_framed address payload f.hcs f.crc six f.fits f.is_hcs f.is_crc)

-- what passes the tests is the frame of what is read in it
pub is_map_frame : (bytes : List ℕ) → ((i : ℕ) → slice_index bytes i < 2 ^ 8) → HasSums bytes → HasMapHeader bytes
    → IsMapFrame (address_in bytes) (payload_in bytes) bytes
is_map_frame
    (b0 ∷ b1 ∷ b2 ∷ b3 ∷ b4 ∷ b5 ∷ b6 ∷ b7 ∷ b8 ∷ b9 ∷ b10 ∷ b11 ∷ b12 ∷ b13 ∷ b14 ∷ b15 ∷ b16 ∷ b17 ∷ b18 ∷ b19 ∷
    b20 ∷ b21 ∷ b22 ∷ b23 ∷ b24 ∷ b25 ∷ rest)
    h s m =
    let bytes =
    b0 ∷ b1 ∷ b2 ∷ b3 ∷ b4 ∷ b5 ∷ b6 ∷ b7 ∷ b8 ∷ b9 ∷ b10 ∷ b11 ∷ b12 ∷ b13 ∷ b14 ∷ b15 ∷ b16 ∷ b17 ∷ b18 ∷ b19 ∷
    b20 ∷ b21 ∷ b22 ∷ b23 ∷ b24 ∷ b25 ∷ rest in
    let address = b12 ∷ b13 ∷ b14 ∷ b15 ∷ b16 ∷ b17 ∷ [] in
    let payload = payload_in bytes in
    let n = length bytes - 4 - 26 in
    let front = b6 ∷ b7 ∷ b8 ∷ b9 ∷ b10 ∷ b11 ∷ b12 ∷ b13 ∷ b14 ∷ b15 ∷ b16 ∷ b17 ∷ b18 ∷ b19 ∷ b20 ∷ b21 ∷ b22 ∷ b23 ∷
    b24 ∷ b25 ∷ [] in
    let least : 4 ≤ length rest = grind (arith, nat_tests, s.0.0) in
    let count : from_be_bytes w16 (b2 ∷ b3 ∷ []) ≡ length bytes - 6 = grind (arith, nat_tests, s.0.0) in
    let below : from_be_bytes w16 (b2 ∷ b3 ∷ []) < 2 ^ 16 = pair_fits b2 b3 (h 2) (h 3) in
    let kind : b0 ≡ 0xC2 = grind (arith, nat_tests, s.0.1) in
    let plain : b1 ≡ 0x00 = grind (arith, nat_tests, s.0.1) in
    let carried : length payload ≡ length rest - 4 = length-take n rest ∙ omega (arith, least) in
    let two : to_be_bytes w16 (length (message address payload) + 4) ≡ b2 ∷ b3 ∷ []
    = ap (to_be_bytes w16) (omega (arith, carried, count, least)) ∙ be_pair b2 b3 (h 2) (h 3) in
    let first : b0 ∷ b1 ∷ b2 ∷ b3 ∷ [] ≡ mac_header (message address payload)
    = ap₂ (λ x y. x ∷ y ∷ b2 ∷ b3 ∷ []) kind plain ∙ ap (λ t. 0xC2 ∷ 0x00 ∷ t) (sym two) in
    let size : b18 ∷ b19 ∷ [] ≡ to_be_bytes w16 (length map_type + length payload)
    = m.long ∙ ap (to_be_bytes w16) (omega (arith, carried, least)) in
    let body : front ++ payload ≡ message address payload
    = ap (λ r. (((r ++ address) ++ b18 ∷ b19 ∷ []) ++ b20 ∷ b21 ∷ b22 ∷ b23 ∷ b24 ∷ b25 ∷ []) ++ payload) m.receivers
    ∙ ap (λ l. (((all_modems ++ address) ++ l) ++ b20 ∷ b21 ∷ b22 ∷ b23 ∷ b24 ∷ b25 ∷ []) ++ payload) size
    ∙ ap (λ w. (((all_modems ++ address) ++ to_be_bytes w16 (length map_type + length payload)) ++ w) ++ payload)
    m.what in
    let parts : rest ≡ payload ++ drop n rest = sym (take-append-drop n rest) in
    let end : 26 + n ≡ length bytes - 4 = omega (arith, least) in
    let last : drop n rest ≡ to_le_bytes w32 s.2.sum
    = drop-drop n 26 bytes ∙ ap (λ k. drop k bytes) end ∙ s.2.stands in
    let inner : take (length bytes - 4 - 6) (drop 6 bytes) ≡ front ++ payload
    = ap (λ r. take (length bytes - 4 - 6) (front ++ r)) parts
    ∙ take_at (front ++ payload) (drop n rest) (length bytes - 4 - 6) (omega (arith, carried, least)) in
    record {
      hcs = s.1.sum;
      crc = s.2.sum;
      fits = omega (arith, carried, count, below, least);
      is_hcs = subst (λ x. IsHcs x s.1.sum) first s.1.is_hcs;
      is_crc = subst (λ x. IsCrc x s.2.sum) (inner ∙ body) s.2.is_crc;
      bytes =
          ap (λ r. (b0 ∷ b1 ∷ b2 ∷ b3 ∷ b4 ∷ b5 ∷ []) ++ (front ++ r)) parts
          ∙ ap₂ (λ x y. x ++ y) (ap₂ (λ x y. x ++ y) first s.1.stands) (ap₂ (λ x y. x ++ y) body last);
    }
  where
    pair_fits : (a b : ℕ) → a < 256 → b < 256 → from_be_bytes w16 (a ∷ b ∷ []) < 2 ^ 16
    pair_fits a b p q = omega arith
is_map_frame bytes h s m = absurd (true≢false (sym s.0.0))

-- bytes with a fault pass the tests of no frame
pub no_frame : (address payload bytes : List ℕ) (fault : MapFrameFault) → IsMapFrameFault bytes fault
    → ¬ (IsHeard address payload bytes)
no_frame address payload bytes Length f p = true≢false (sym p.sums.0.0 ∙ f)
no_frame address payload bytes Kind f p = true≢false (sym p.sums.0.1 ∙ f.1)
no_frame address payload bytes Hcs f p = f.1 p.sums.1
no_frame address payload bytes Crc f p = f.2 p.sums.2
no_frame address payload bytes Header f p = f.1 p.header
