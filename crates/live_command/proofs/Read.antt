-- What a text says, once it was read.
use Rattle.std.proofs.Common.{◌≡◌, ℕ, List, [], Some, None, Ok, Err, codes, sym, ap, refl, ◌∙◌}
use Rattle.std.specs.Prelude.{option_and_then}
use Rattle.std.specs.Str.{IsUtf8}
use Rattle.json.specs.Token.{Token}
use Rattle.json.specs.Json as json
use Rattle.json.specs.Lex.{tokens}
use Rattle.serde_json.specs.Data.{Data}
use Rattle.serde_json.specs.Find.{get}
use Rattle.serde_json.specs.Read.{of_json, converted}
use Rattle.sched_calls.specs.declared.call.Call.{Call}
use Rattle.call_reading.specs.Calls.{call_of}
use Rattle.json_fields.proofs.PlainValues.{read_as}
use Rattle.json_fields.specs.Usual.{read_tokens}
use Rattle.text_stream.specs.declared.fault.TextFault.{TextFault}
use Rattle.text_stream.specs.Input.{value_of}
use Rattle.text_stream.proofs.Bytes.{value_of-Ok}
use Rattle.live_command.specs.declared.said.Said.TheVariants as said
use Rattle.live_command.specs.Said.{said_by, said_in}

-- a text that stands for a value
pub said_in-value : (bytes : List ℕ) (d : Data) → value_of bytes ≡ Ok d → said_in bytes ≡ Ok (said_by d)
unfolding said_in
said_in-value bytes d is = rw is refl

-- a text that stands for none
pub said_in-fault : (bytes : List ℕ) (fault : TextFault) → value_of bytes ≡ Err fault → said_in bytes ≡ Err fault
unfolding said_in
said_in-fault bytes fault is = rw is refl

-- a text whose tokens are one value
pub said_in-tokens : (bytes text : List ℕ) (reader left : List Token) (d : Data) → text ≡ bytes → IsUtf8 bytes
    → reader ≡ tokens text → converted of_json (json.value 127 reader) ≡ Some (d, left) → left ≡ []
    → said_in bytes ≡ Ok (said_by d)
said_in-tokens bytes text reader left d same utf8 is reads none =
    let j = read_as of_json (json.value 127 reader) d [] (reads ∙ ap (λ (r : List Token). Some (d, r)) none) in
    let found : read_tokens reader ≡ Some d =
    ap (λ o. option_and_then of_json (option_and_then (λ p. json.if_last p.0 p.1) o)) j.1 ∙ j.2 in
    said_in-value bytes d (value_of-Ok bytes d utf8 (ap read_tokens (ap tokens (sym same) ∙ sym is) ∙ found))

-- a call with no configuration beside it
pub said_by-call : (d : Data) (call : Call) → call_of d ≡ Some call → get (codes "config") d ≡ None
    → said_by d ≡ said.Call (Some call)
unfolding said_by
said_by-call d call is none = rw (none, is) refl
