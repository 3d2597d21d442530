-- What is told of a text as JSON: one line without spaces, with the keys of each object in ascending order.
use Rattle.std.specs.Prelude.{ℕ, List, [], ◌∷◌, ◌++◌, codes, Option, Some, None}
use Rattle.std.specs.List.{flat_map}
use Rattle.hex.specs.declared.error.FromHexError.{FromHexError}
use Rattle.map_codec.specs.declared.element.Element.{Element}
use Rattle.map_codec.specs.declared.fault.DecodeFault.{DecodeFault}
use Rattle.map_codec.specs.declared.wire_map.WireMap.{WireMap}
use Rattle.wire_frame.specs.declared.request.Request.{Request}
use Rattle.wire_frame.specs.declared.request.Request.TheVariants as asking
use Rattle.wire_frame.specs.declared.request.RequestFault.{RequestFault}
use Rattle.wire_frame.specs.declared.request.RequestFault.TheVariants as requests
use Rattle.wire_frame.specs.declared.heard.MapFrameFault.{MapFrameFault}
use Rattle.wire_frame.specs.declared.heard.MapFrameFault.TheVariants as maps
use Rattle.decode_command.specs.declared.decoded.Decoded.{Decoded}
use Rattle.decode_command.specs.declared.decoded.Decoded.TheVariants.{Map, MapFrame, Request as IsRequest, BadPayload}
use Rattle.decode_command.specs.declared.decoded.Decoded.TheVariants.{BadMapFrame, BadRequest, BadHex, Long}
use Rattle.decode_command.specs.Table.{labelled, name_of, number_of, index_of}
use Rattle.decode_command.specs.ExplainedFault.{fault_words, hex_words, digit_of, behind_words}
use Rattle.decode_command.specs.Frame.{address_text, request_fault_number, map_frame_fault_number}

-- the member of the number of a line, where there is one
abbrev pub line_member : Option ℕ → List ℕ
line_member None = []
line_member (Some number) = labelled (codes ",\"line\":") number

-- an element
unfoldable pub element_object : Element → List ℕ
element_object e =
    labelled (codes "{\"iuc\":") e.iuc ++ labelled (codes ",\"offset\":") e.offset
    ++ labelled (codes ",\"sid\":") e.sid ++ codes ",\"usage\":\"" ++ name_of e.iuc ++ codes "\"}"

-- an element behind a comma
unfoldable pub next_element : Element → List ℕ
next_element e = codes "," ++ element_object e

-- elements, with a comma between two
abbrev pub element_items : List Element → List ℕ
element_items [] = []
element_items (e ∷ es) = element_object e ++ flat_map next_element es

-- the backoff window for requests and data
unfoldable pub data_members : WireMap → List ℕ
data_members m = labelled (codes ",\"data_end\":") m.data_end ++ labelled (codes ",\"data_start\":") m.data_start

-- the members of a MAP before those of an address
unfoldable pub front_members : WireMap → List ℕ
front_members m =
    labelled (codes "{\"ack\":") m.ack ++ labelled (codes ",\"channel\":") m.channel ++ data_members m

-- the elements of a MAP
unfoldable pub elements_member : List Element → List ℕ
elements_member es = codes ",\"elements\":[" ++ element_items es ++ codes "]"

-- the elements of a MAP, its kind, and the number of its line
unfoldable pub middle_members : Option ℕ → WireMap → List ℕ
middle_members line m = elements_member m.elements ++ codes ",\"kind\":\"map\"" ++ line_member line

-- the members of a MAP between its line and the sender
unfoldable pub window_members : WireMap → List ℕ
window_members m =
    labelled (codes ",\"ranging_end\":") m.ranging_end ++ labelled (codes ",\"ranging_start\":") m.ranging_start
    ++ labelled (codes ",\"reserved\":") m.reserved

-- the sender of a frame
unfoldable pub sender_member : List ℕ → List ℕ
sender_member address = codes ",\"sender\":\"" ++ address_text address ++ codes "\""

-- the last members of a MAP, and the brace behind them
unfoldable pub last_members : WireMap → List ℕ
last_members m =
    labelled (codes ",\"start\":") m.alloc_start ++ labelled (codes ",\"ucd_count\":") m.ucd_count ++ codes "}\n"

-- the MAP of a payload
unfoldable pub map_object : Option ℕ → WireMap → List ℕ
map_object line m = front_members m ++ middle_members line m ++ window_members m ++ last_members m

-- the MAP of a frame, with the address that such frames go to and the sender's
unfoldable pub map_frame_object : Option ℕ → List ℕ → WireMap → List ℕ
map_frame_object line address m =
    front_members m ++ codes ",\"destination\":\"01:e0:2f:00:00:01\"" ++ middle_members line m ++ window_members m
    ++ sender_member address ++ last_members m

-- two numbers under their titles, and the brace behind them
unfoldable pub both_members : List ℕ → ℕ → List ℕ → ℕ → List ℕ
both_members one m other n = labelled one m ++ labelled other n ++ codes "}\n"

-- a request: its kind, its SID and what it asks for, in minislots or in units of the flow
abbrev pub request_object : Option ℕ → Request → List ℕ
request_object line (asking.Minislots number sid) =
    codes "{\"kind\":\"request\"" ++ line_member line
    ++ both_members (codes ",\"sid\":") sid (codes ",\"slots\":") number
request_object line (asking.Queue number sid) =
    codes "{\"kind\":\"queue\"" ++ line_member line
    ++ both_members (codes ",\"number\":") number (codes ",\"sid\":") sid

-- the beginning of an object of a fault: its place under a title, where it has one
abbrev pub place_member : List ℕ → Option ℕ → List ℕ
place_member title None = codes "{"
place_member title (Some place) = labelled title place ++ codes ","

-- what a fault means, and the brace behind it
unfoldable pub words_member : List ℕ → Option ℕ → List ℕ
words_member words place = codes ",\"words\":\"" ++ words ++ behind_words place ++ codes "\"}\n"

-- that a fault is one of a payload, with the number of its line and its own
unfoldable pub payload_members : Option ℕ → DecodeFault → List ℕ
payload_members line fault =
    codes "\"fault\":\"payload\"" ++ line_member line ++ labelled (codes ",\"number\":") (number_of fault)

-- a fault of a payload
unfoldable pub payload_fault_object : Option ℕ → DecodeFault → List ℕ
payload_fault_object line fault =
    place_member (codes "{\"element\":") (index_of fault) ++ payload_members line fault
    ++ words_member (fault_words fault) (index_of fault)

-- a fault of a frame
unfoldable pub frame_fault_object : Option ℕ → ℕ → List ℕ → List ℕ
frame_fault_object line number words =
    codes "{\"fault\":\"frame\"" ++ line_member line ++ labelled (codes ",\"number\":") number
    ++ words_member words None

-- a text that is no hexadecimal
unfoldable pub hex_fault_object : Option ℕ → FromHexError → List ℕ
hex_fault_object line fault =
    place_member (codes "{\"byte\":") (digit_of fault) ++ codes "\"fault\":\"hex\"" ++ line_member line
    ++ words_member (hex_words fault) (digit_of fault)

-- a line that is too long
unfoldable pub long_object : Option ℕ → List ℕ
long_object line =
    codes "{\"fault\":\"long\"" ++ line_member line ++ words_member (codes "it has more than 65536 bytes") None

-- what a fault of a request's frame means
abbrev pub request_fault_words : RequestFault → List ℕ
request_fault_words requests.Length = codes "the frame has neither 6 bytes nor 7"
request_fault_words requests.Kind = codes "the first byte is of no request of this length"
request_fault_words requests.Sid = codes "the SID has more than 14 bits"
request_fault_words requests.Hcs = codes "the header check sequence is wrong"

-- what a fault of a MAP's frame means
abbrev pub map_frame_fault_words : MapFrameFault → List ℕ
map_frame_fault_words maps.Length = codes "the frame has another length than it says, or fewer than 30 bytes"
map_frame_fault_words maps.Kind = codes "the first two bytes are of no management message"
map_frame_fault_words maps.Hcs = codes "the header check sequence is wrong"
map_frame_fault_words maps.Crc = codes "the checksum of the message is wrong"
map_frame_fault_words maps.Header = codes "a field of the management header is not that of a MAP"

-- what is told of a text, or of the line of this number
abbrev pub json_of : Option ℕ → Decoded → List ℕ
json_of line (Map m) = map_object line m
json_of line (MapFrame address m) = map_frame_object line address m
json_of line (IsRequest request) = request_object line request
json_of line (BadPayload fault) = payload_fault_object line fault
json_of line (BadMapFrame fault) = frame_fault_object line (map_frame_fault_number fault) (map_frame_fault_words fault)
json_of line (BadRequest fault) = frame_fault_object line (request_fault_number fault) (request_fault_words fault)
json_of line (BadHex fault) = hex_fault_object line fault
json_of line Long = long_object line
