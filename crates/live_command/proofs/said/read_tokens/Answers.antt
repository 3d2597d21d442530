-- The tokens are one value.
use Rattle.std.proofs.Common.{◌≡◌, [], Ok, sym, ap, ◌∙◌, rules}
use Rattle.json_fields.specs.Plain.{data_of}
use Rattle.live_command.proofs.Read.{said_in-tokens}
use Rattle.live_command.proofs.said.read_tokens.Goals as goal

pub returns-in-Some : goal.returns-in-Some
returns-in-Some c =
    let cases = c.in-Ok.ensures.cases in
    let end : c.read_plain.new.reader ≡ [] = search rules in
    let said = rw c.in-Some.is at c.said_at_once.ensures in
    said_in-tokens c.args.bytes.now c.in-Ok.text.now c.in_ok-reader.reader c.read_plain.new.reader
    (data_of c.in_ok-value.value) cases.0 cases.1 c.in_ok-reader.ensures.ok c.in_ok-value.ensures.is end
    ∙ ap Ok (sym said)
