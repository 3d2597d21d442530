-- What a text is: a payload or a frame, or why it is none.
use Rattle.std.specs.Prelude.{◌≡◌, ℕ, Bool, true, false, List, length, Some, MatchResult}
use Rattle.std.specs.Bool.{MatchBool}
use Rattle.hex.specs.Hex.{decode_of}
use Rattle.map_codec.specs.DecodeFault.{fault_of}
use Rattle.map_codec.specs.WireMap.{spelling, IsWellFormed}
use Rattle.wire_frame.specs.Request.{IsRequestFrame, IsRequestFault, has_length}
use Rattle.wire_frame.specs.MapFrame.{IsMapFrame}
use Rattle.wire_frame.specs.Heard.{IsMapFrameFault}
use Rattle.decode_command.specs.declared.form.JsonForm.{JsonForm}
use Rattle.decode_command.specs.declared.form.JsonForm.TheVariants.{Payload, Frame}
use Rattle.decode_command.specs.declared.decoded.Decoded.{Decoded}
use Rattle.decode_command.specs.declared.decoded.Decoded.TheVariants.{Map, MapFrame, Request, BadPayload}
use Rattle.decode_command.specs.declared.decoded.Decoded.TheVariants.{BadMapFrame, BadRequest, BadHex, Long}

-- whether it is a payload or a frame
abbrev pub is_well : Decoded → Bool
is_well (Map m) = true
is_well (MapFrame address m) = true
is_well (Request request) = true
is_well (BadPayload fault) = false
is_well (BadMapFrame fault) = false
is_well (BadRequest fault) = false
is_well (BadHex fault) = false
is_well Long = false

-- what bytes are as a payload: the spelling of a MAP, or bytes with a fault
abbrev pub IsPayloadAs : List ℕ → Decoded → Type 0
IsPayloadAs bytes (Map m) = IsWellFormed m × (bytes ≡ spelling m)
IsPayloadAs bytes (MapFrame address m) = ⊥
IsPayloadAs bytes (Request request) = ⊥
IsPayloadAs bytes (BadPayload fault) = fault_of bytes ≡ Some fault
IsPayloadAs bytes (BadMapFrame fault) = ⊥
IsPayloadAs bytes (BadRequest fault) = ⊥
IsPayloadAs bytes (BadHex fault) = ⊥
IsPayloadAs bytes Long = ⊥

-- what a frame from this address is, by its payload
abbrev pub IsCarriedAs : List ℕ → List ℕ → Decoded → Type 0
IsCarriedAs address payload (Map m) = ⊥
IsCarriedAs address payload (MapFrame sender m) = (sender ≡ address) × IsWellFormed m × (payload ≡ spelling m)
IsCarriedAs address payload (Request request) = ⊥
IsCarriedAs address payload (BadPayload fault) = fault_of payload ≡ Some fault
IsCarriedAs address payload (BadMapFrame fault) = ⊥
IsCarriedAs address payload (BadRequest fault) = ⊥
IsCarriedAs address payload (BadHex fault) = ⊥
IsCarriedAs address payload Long = ⊥

-- The bytes are a frame of a payload, and are what that makes them
pub record IsFramedAs (bytes : List ℕ) (d : Decoded) : Type 0 where
  pub address : List ℕ
  pub six : length address ≡ 6
  pub payload : List ℕ
  pub frame : IsMapFrame address payload bytes
  pub carried : IsCarriedAs address payload d

-- what bytes of another length than a request's are: a frame of a payload, or bytes with a fault
abbrev pub IsMapFrameAs : List ℕ → Decoded → Type 0
IsMapFrameAs bytes (Map m) = ⊥
IsMapFrameAs bytes (MapFrame address m) = IsFramedAs bytes (MapFrame address m)
IsMapFrameAs bytes (Request request) = ⊥
IsMapFrameAs bytes (BadPayload fault) = IsFramedAs bytes (BadPayload fault)
IsMapFrameAs bytes (BadMapFrame fault) = IsMapFrameFault bytes fault
IsMapFrameAs bytes (BadRequest fault) = ⊥
IsMapFrameAs bytes (BadHex fault) = ⊥
IsMapFrameAs bytes Long = ⊥

-- what bytes of the length of a request's frame are: that of a request, or bytes with a fault
abbrev pub IsRequestAs : List ℕ → Decoded → Type 0
IsRequestAs bytes (Map m) = ⊥
IsRequestAs bytes (MapFrame address m) = ⊥
IsRequestAs bytes (Request request) = IsRequestFrame request bytes
IsRequestAs bytes (BadPayload fault) = ⊥
IsRequestAs bytes (BadMapFrame fault) = ⊥
IsRequestAs bytes (BadRequest fault) = IsRequestFault bytes fault
IsRequestAs bytes (BadHex fault) = ⊥
IsRequestAs bytes Long = ⊥

-- what bytes are as a frame: their length tells whether a request's or a MAP's
abbrev pub IsFrameAs : List ℕ → Decoded → Type 0
IsFrameAs bytes d = MatchBool (has_length bytes) (IsRequestAs bytes d) (IsMapFrameAs bytes d)

-- what bytes are as what is asked for
abbrev pub IsBytesAs : JsonForm → List ℕ → Decoded → Type 0
IsBytesAs Payload bytes d = IsPayloadAs bytes d
IsBytesAs Frame bytes d = IsFrameAs bytes d

-- what a text is as what is asked for: hexadecimal of bytes that are so, or none
abbrev pub IsTextAs : JsonForm → List ℕ → Decoded → Type 0
IsTextAs form text d = MatchResult (decode_of text) (λ bytes. IsBytesAs form bytes d) (λ fault. d ≡ BadHex fault)
