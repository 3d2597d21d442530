-- What the tests of a request let through is a frame, and a frame passes them and is read back.
use Rattle.std.proofs.Common.{◌≡◌, ℕ, zero, suc, ◌^◌, ◌<◌, true, false, List, [], ◌∷◌, ◌++◌, length}
use Rattle.std.proofs.Common.{slice_index, get_or, ◌==◌, ◌||◌, refl, sym, ap, ap₂, ◌∙◌, subst, arith, true≢false}
use Rattle.std.specs.Int.{w16, to_be_bytes, from_be_bytes, to_le_bytes, from_le_bytes}
use Rattle.std.proofs.lemmas.Bool.Decides.{nat_tests}
use Rattle.std.proofs.lemmas.Nat.{be_bytes_2, from_be_bytes-to_be_bytes_2, le_bytes_2, from_le_bytes-to_le_bytes_2}
use Rattle.wire_frame.specs.declared.request.Request.{Request}
use Rattle.wire_frame.specs.declared.request.Request.TheVariants.{Minislots, Queue}
use Rattle.wire_frame.specs.declared.request.TheConstants.{REQUEST, QUEUE_DEPTH_REQUEST}
use Rattle.wire_frame.specs.declared.request.RequestFault.{RequestFault}
use Rattle.wire_frame.specs.declared.request.RequestFault.TheVariants.{Length, Kind, Sid, Hcs}
use Rattle.wire_frame.specs.Checksum.{IsHcs}
use Rattle.wire_frame.specs.Request.{request_header, FitsRequest, IsRequestFrame, has_length, has_kind}
use Rattle.wire_frame.specs.Request.{has_sid, HasHcs}
use Rattle.wire_frame.specs.Request.{request_in, IsRequestFault}
use Rattle.wire_frame.proofs.Generators.{length-ccitt}

-- what all tests together say
pub record Passes (bytes : List ℕ) : Type 0 where
  pub has_len : has_length bytes ≡ true
  pub kind : has_kind bytes ≡ true
  pub sid : has_sid bytes ≡ true
  pub hcs : HasHcs bytes

-- an HCS has 16 bits
pub hcs-lt : (front : List ℕ) (sum : ℕ) → IsHcs front sum → sum < 2 ^ 16
hcs-lt front sum is = subst (λ n. sum < 2 ^ n) length-ccitt is.fits

-- a frame passes
frame_passes : (r : Request) (hcs : ℕ) → FitsRequest r → IsHcs (request_header r) hcs
    → Passes (request_header r ++ to_le_bytes w16 hcs)
frame_passes (Minislots number sid) hcs fits is =
    let same = from_be_bytes-to_be_bytes_2 sid (omega (arith, fits.1)) in
    let low = from_le_bytes-to_le_bytes_2 hcs (hcs-lt _ hcs is) in
    record {
      has_len = refl;
      kind = refl;
      sid = grind (arith, nat_tests, same, fits.1);
      hcs = rw low is;
    }
frame_passes (Queue number sid) hcs fits is =
    let same = from_be_bytes-to_be_bytes_2 sid (omega (arith, fits.1)) in
    let low = from_le_bytes-to_le_bytes_2 hcs (hcs-lt _ hcs is) in
    record {
      has_len = refl;
      kind = refl;
      sid = grind (arith, nat_tests, same, fits.1);
      hcs = rw low is;
    }

-- and is read back
frame_is_read : (r : Request) (hcs : ℕ) → FitsRequest r → request_in (request_header r ++ to_le_bytes w16 hcs) ≡ r
frame_is_read (Minislots number sid) hcs fits =
    ap (Minislots number) (from_be_bytes-to_be_bytes_2 sid (omega (arith, fits.1)))
frame_is_read (Queue number sid) hcs fits =
    ap₂ Queue (from_be_bytes-to_be_bytes_2 number (omega (arith, fits.0)))
    (from_be_bytes-to_be_bytes_2 sid (omega (arith, fits.1)))

-- a request's frame passes all tests
pub passes : (r : Request) (bytes : List ℕ) → IsRequestFrame r bytes → Passes bytes
passes r bytes f = subst Passes (sym f.bytes) (frame_passes r f.hcs f.fits f.is_hcs)

-- and the request is read back from it
pub is_read : (r : Request) (bytes : List ℕ) → IsRequestFrame r bytes → request_in bytes ≡ r
is_read r bytes f = ap request_in f.bytes ∙ frame_is_read r f.hcs f.fits

-- a pair of bytes, as a number and back
pair-lt : (a b : ℕ) → a < 256 → b < 256 → (i : ℕ) → get_or (a ∷ b ∷ []) i 0 < 256
pair-lt a b p q zero = p
pair-lt a b p q (suc zero) = q
pair-lt a b p q (suc (suc i)) = omega arith

-- two bytes, high first, as a number and back
pub be_pair : (a b : ℕ) → a < 256 → b < 256 → to_be_bytes w16 (from_be_bytes w16 (a ∷ b ∷ [])) ≡ a ∷ b ∷ []
be_pair a b p q = be_bytes_2 (a ∷ b ∷ []) _ refl (pair-lt a b p q) refl

le_pair : (a b : ℕ) → a < 256 → b < 256 → to_le_bytes w16 (from_le_bytes w16 (a ∷ b ∷ [])) ≡ a ∷ b ∷ []
le_pair a b p q = le_bytes_2 (a ∷ b ∷ []) _ refl (pair-lt a b p q) refl

-- more than seven bytes have no length of a request
too_long : (n : ℕ) → 7 < n → ¬ (((n == 6) || (n == 7)) ≡ true)
too_long n h e =
    let six : (n == 6) ≡ false = grind (arith, nat_tests) in
    let seven : (n == 7) ≡ false = grind (arith, nat_tests) in
    true≢false (sym e ∙ ap₂ (λ x y. x || y) six seven)

-- what passes is the frame of the request that is read in it
pub is_frame : (bytes : List ℕ) → ((i : ℕ) → slice_index bytes i < 2 ^ 8) → Passes bytes
    → IsRequestFrame (request_in bytes) bytes
is_frame (a ∷ b ∷ c ∷ d ∷ e ∷ f ∷ []) h p =
    let kind : a ≡ REQUEST = grind (arith, nat_tests, p.kind) in
    let sid = be_pair c d (h 2) (h 3) in
    let sum = le_pair e f (h 4) (h 5) in
    record {
      hcs = from_le_bytes w16 (e ∷ f ∷ []);
      fits = (h 1, grind (arith, nat_tests, p.sid));
      is_hcs = subst (λ front. IsHcs front (from_le_bytes w16 (e ∷ f ∷ [])))
          (ap₂ (λ x t. x ∷ b ∷ t) kind (sym sid)) p.hcs;
      bytes = ap₂ (λ x t. x ∷ b ∷ t) kind (ap₂ (λ s t. s ++ t) (sym sid) (sym sum));
    }
is_frame (a ∷ b ∷ c ∷ d ∷ e ∷ f ∷ g ∷ []) h p =
    let kind : a ≡ QUEUE_DEPTH_REQUEST = grind (arith, nat_tests, p.kind) in
    let number = be_pair b c (h 1) (h 2) in
    let sid = be_pair d e (h 3) (h 4) in
    let sum = le_pair f g (h 5) (h 6) in
    let two : from_be_bytes w16 (b ∷ c ∷ []) < 2 ^ 16 = pair_fits b c (h 1) (h 2) in
    record {
      hcs = from_le_bytes w16 (f ∷ g ∷ []);
      fits = (two, grind (arith, nat_tests, p.sid));
      is_hcs = subst (λ front. IsHcs front (from_le_bytes w16 (f ∷ g ∷ [])))
          (ap₂ (λ x t. x ∷ t) kind (ap₂ (λ s t. s ++ t) (sym number) (sym sid))) p.hcs;
      bytes = ap₂ (λ x t. x ∷ t) kind
          (ap₂ (λ s t. s ++ t) (sym number) (ap₂ (λ s t. s ++ t) (sym sid) (sym sum)));
    }
  where
    pair_fits : (a b : ℕ) → a < 256 → b < 256 → from_be_bytes w16 (a ∷ b ∷ []) < 2 ^ 16
    pair_fits a b p q = omega arith
is_frame (a ∷ b ∷ c ∷ d ∷ e ∷ f ∷ g ∷ x ∷ xs) h p =
    absurd (too_long (length (a ∷ b ∷ c ∷ d ∷ e ∷ f ∷ g ∷ x ∷ xs)) (omega arith) p.has_len)
is_frame bytes h p = absurd (true≢false (sym p.has_len))

-- bytes with a fault do not pass
pub not_passed : (bytes : List ℕ) (fault : RequestFault) → IsRequestFault bytes fault → ¬ (Passes bytes)
not_passed bytes Length f p = true≢false (sym p.has_len ∙ f)
not_passed bytes Kind f p = true≢false (sym p.kind ∙ f.1)
not_passed bytes Sid f p = true≢false (sym p.sid ∙ f.2)
not_passed bytes Hcs f p = f.3 p.hcs
