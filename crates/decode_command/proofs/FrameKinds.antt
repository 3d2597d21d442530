-- Which bytes are the frame of a MAP, and which that of a request: their lengths tell.
use Rattle.std.proofs.Common.{◌≡◌, ℕ, true, false, List, inl, inr, sym, ◌∙◌, arith, true≢false}
use Rattle.std.proofs.lemmas.Bool.Decides.{nat_tests}
use Rattle.wire_frame.specs.declared.request.Request.{Request}
use Rattle.wire_frame.specs.Request.{IsRequestFrame, has_length}
use Rattle.wire_frame.proofs.Requests.{passes}
use Rattle.wire_frame.proofs.MapFrames.{heard}
use Rattle.decode_command.specs.Frame.{CarriesMap, IsFrame}

-- the frame of a MAP is longer than a request
carried_is_long : (bytes : List ℕ) → CarriesMap bytes → has_length bytes ≡ false
carried_is_long bytes h =
    let shown = heard h.address h.payload bytes h.six h.frame in
    grind (arith, nat_tests, shown.sums.0.0)

-- bytes of another length than a request's are a frame where they carry a MAP
pub long_frame : (bytes : List ℕ) → has_length bytes ≡ false → (CarriesMap bytes → IsFrame bytes)
    × (IsFrame bytes → CarriesMap bytes)
long_frame bytes long = (
  λ carries. inr carries,
  λ frame. elim frame [
    | inl request ↦ absurd (true≢false (sym (passes request.0 bytes request.1).has_len ∙ long))
    | inr carries ↦ carries
  ],
)

-- bytes of the length of a request that are none are no frame
pub no_frame : (bytes : List ℕ) → has_length bytes ≡ true → ((r : Request) → IsRequestFrame r bytes → ⊥)
    → IsFrame bytes → ⊥
no_frame bytes long none frame =
    elim frame [
      | inl request ↦ none request.0 request.1
      | inr carries ↦ true≢false (sym long ∙ carried_is_long bytes carries)
    ]
