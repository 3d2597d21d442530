-- What is answered of frames: that of a MAP's payload, and the request frames of modems.
use Rattle.std.specs.Prelude.{◌≡◌, ℕ, ◌+◌, ◌<◌, ◌≤◌, ◌⊎◌, List, length}
use Rattle.map_codec.specs.declared.wire_map.TheConstants.{MAX_BYTES}
use Rattle.wire_frame.specs.MapFrame.{IsMapFrame}
use Rattle.wire_frame.specs.Request.{IsRequestFrame, IsRequestFault}
use Rattle.wire_frame.specs.declared.request.Request.{Request}
use Rattle.wire_frame.specs.declared.request.Request.TheVariants.{Minislots, Queue}
use Rattle.wire_frame.specs.declared.request.RequestFault.{RequestFault}
use Rattle.wire_frame.specs.declared.request.RequestFault.TheVariants.{Length, Kind, Sid, Hcs}
use Rattle.mapsched_c.specs.declared.status.TheConstants.{OK, TOO_LONG, BAD_REQUEST}
use Rattle.mapsched_c.specs.declared.frames.TheConstants.{ASKS_MINISLOTS, TELLS_QUEUE}
use Rattle.mapsched_c.specs.Text.{GivesText}

-- the frame of a payload from an address is given; a payload longer than that of any MAP has none, and nothing is
-- written
abbrev pub FramesMap : List ℕ → List ℕ → ℕ → List ℕ → List ℕ → ℕ → ℕ → Type 0
FramesMap address payload status before after untold told =
    ((length payload ≤ MAX_BYTES) × (frame : List ℕ) × IsMapFrame address payload frame
    × GivesText frame status before after told)
    ⊎ ((MAX_BYTES < length payload) × (status ≡ TOO_LONG) × (after ≡ before) × (told ≡ untold))

-- a request in numbers: its kind, its number and its SID
abbrev pub plain_request : Request → ℕ × (ℕ × ℕ)
plain_request (Minislots number sid) = (ASKS_MINISLOTS, (number, sid))
plain_request (Queue number sid) = (TELLS_QUEUE, (number, sid))

-- the number of a fault, in the order of the tests
abbrev pub request_fault_number : RequestFault → ℕ
request_fault_number Length = 1
request_fault_number Kind = 2
request_fault_number Sid = 3
request_fault_number Hcs = 4

-- the bytes are the frame of a request, which is told; or they have a first fault, and nothing is written
abbrev pub HearsRequest : List ℕ → ℕ → ℕ × (ℕ × ℕ) → ℕ × (ℕ × ℕ) → Type 0
HearsRequest bytes status before after =
    ((status ≡ OK) × (r : Request) × IsRequestFrame r bytes × (after ≡ plain_request r))
    ⊎ ((fault : RequestFault) × (status ≡ BAD_REQUEST + request_fault_number fault) × IsRequestFault bytes fault
    × (after ≡ before))
