-- By the field that the value is of.
use Rattle.std.proofs.Common.{refl}
use Rattle.serde_json.specs.Data.{number, unsigned, string}
use Rattle.call_reading.proofs.quick_call.read_member.Goals as goal

pub returns-in_ok-read_name-in-Name-clause-is : goal.returns-in_ok-read_name-in-Name-clause-is
returns-in_ok-read_name-in-Name-clause-is c =
    let text = c.in_ok-read_name-in-Name.field-0 in
    (string text.now, c.in_ok-read_name-in-Name.ensures.is c.args.depth, rw c.in-Name.is refl)

pub returns-in_ok-read_number-in-Sid-clause-is : goal.returns-in_ok-read_number-in-Sid-clause-is
returns-in_ok-read_number-in-Sid-clause-is c =
    let n = c.in_ok-read_number-in-Sid.field-0 in
    (number (unsigned n), c.in_ok-read_number-in-Sid.ensures.is c.args.depth, rw c.in-Sid.is refl)

pub returns-in_ok-read_number-in-Receiver-clause-is : goal.returns-in_ok-read_number-in-Receiver-clause-is
returns-in_ok-read_number-in-Receiver-clause-is c =
    let n = c.in_ok-read_number-in-Receiver.field-0 in
    (number (unsigned n), c.in_ok-read_number-in-Receiver.ensures.is c.args.depth, rw c.in-Receiver.is refl)

pub returns-in_ok-read_number-in-Bytes-clause-is : goal.returns-in_ok-read_number-in-Bytes-clause-is
returns-in_ok-read_number-in-Bytes-clause-is c =
    let n = c.in_ok-read_number-in-Bytes.field-0 in
    (number (unsigned n), c.in_ok-read_number-in-Bytes.ensures.is c.args.depth, rw c.in-Bytes.is refl)

pub returns-in_ok-read_number-in-Heard-clause-is : goal.returns-in_ok-read_number-in-Heard-clause-is
returns-in_ok-read_number-in-Heard-clause-is c =
    let n = c.in_ok-read_number-in-Heard.field-0 in
    (number (unsigned n), c.in_ok-read_number-in-Heard.ensures.is c.args.depth, rw c.in-Heard.is refl)

pub returns-in_ok-read_number-in-Upto-clause-is : goal.returns-in_ok-read_number-in-Upto-clause-is
returns-in_ok-read_number-in-Upto-clause-is c =
    let n = c.in_ok-read_number-in-Upto.field-0 in
    (number (unsigned n), c.in_ok-read_number-in-Upto.ensures.is c.args.depth, rw c.in-Upto.is refl)

pub returns-in_ok-read_number-in-Time-clause-is : goal.returns-in_ok-read_number-in-Time-clause-is
returns-in_ok-read_number-in-Time-clause-is c =
    let n = c.in_ok-read_number-in-Time.field-0 in
    (number (unsigned n), c.in_ok-read_number-in-Time.ensures.is c.args.depth, rw c.in-Time.is refl)

pub returns-in_ok-read_ranging_member-in-Ranging-clause-is :
    goal.returns-in_ok-read_ranging_member-in-Ranging-clause-is
returns-in_ok-read_ranging_member-in-Ranging-clause-is c =
    let read = c.in_ok-read_ranging_member-in-Ranging.ensures.is in
    (read.0, read.1 c.args.depth, rw c.in-Ranging.is read.2)
