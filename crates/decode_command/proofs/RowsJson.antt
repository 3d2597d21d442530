-- Worked rows: what is told of some texts as JSON, and of some lines.
use Rattle.std.proofs.Common.{◌≡◌, [], ◌∷◌, ◌++◌, codes, None, Some, refl}
use Rattle.std.specs.Fmt.{digits}
use Rattle.map_codec.specs.declared.fault.DecodeFault.TheVariants.{NoNull}
use Rattle.wire_frame.specs.declared.request.Request.TheVariants.{Minislots, Queue}
use Rattle.decode_command.specs.declared.decoded.Decoded.TheVariants.{Request, BadPayload, Long}
use Rattle.decode_command.specs.Table.{labelled, name_of}
use Rattle.decode_command.specs.Json.{element_object, next_element, element_items, both_members, words_member}
use Rattle.decode_command.specs.Json.{payload_members, payload_fault_object, long_object, json_of}
use Rattle.decode_command.specs.JsonLines.{json_lines}

-- an element, and one behind it
pub two_elements : element_items
    ((record { sid = 16383; iuc = 1; offset = 0 }) ∷ (record { sid = 0; iuc = 7; offset = 40 }) ∷ [])
    ≡ codes "{\"iuc\":1,\"offset\":0,\"sid\":16383,\"usage\":\"request\"},"
    ++ codes "{\"iuc\":7,\"offset\":40,\"sid\":0,\"usage\":\"null\"}"
unfolding digits labelled name_of element_object next_element
two_elements = refl

-- a request of 9 minislots
pub a_request : json_of None (Request (Minislots 9 17)) ≡ codes "{\"kind\":\"request\",\"sid\":17,\"slots\":9}\n"
unfolding digits labelled both_members
a_request = refl

-- one of 100 units, in line 2
pub a_queue : json_of (Some 2) (Request (Queue 100 17))
    ≡ codes "{\"kind\":\"queue\",\"line\":2,\"number\":100,\"sid\":17}\n"
unfolding digits labelled both_members
a_queue = refl

-- a fault without a place
pub no_null : json_of None (BadPayload NoNull)
    ≡ codes "{\"fault\":\"payload\",\"number\":6,\"words\":\"no element has IUC 7, the null that ends the frame\"}\n"
unfolding digits labelled payload_members words_member payload_fault_object
no_null = refl

-- one line that is passed over, and one that is too long
pub second_line : json_lines 1 (None ∷ Some Long ∷ [])
    ≡ codes "{\"fault\":\"long\",\"line\":2,\"words\":\"it has more than 65536 bytes\"}\n"
unfolding digits labelled words_member long_object
second_line = refl
