-- By the field that the value is of.
use Rattle.std.proofs.Common.{refl}
use Rattle.serde_json.specs.Data.{number, unsigned, string}
use Rattle.call_reading.proofs.quick_call.read_ranging_value.Goals as goal

pub returns-in_ok-read_text-in-Usage-clause-is : goal.returns-in_ok-read_text-in-Usage-clause-is
returns-in_ok-read_text-in-Usage-clause-is c =
    let text = c.in_ok-read_text-in-Usage.field-0 in
    (string text.now, c.in_ok-read_text-in-Usage.ensures.is, rw c.in-Usage.is (λ f. refl))

pub returns-in_ok-read_number-in-Slots-clause-is : goal.returns-in_ok-read_number-in-Slots-clause-is
returns-in_ok-read_number-in-Slots-clause-is c =
    let n = c.in_ok-read_number-in-Slots.field-0 in
    (number (unsigned n), c.in_ok-read_number-in-Slots.ensures.is, rw c.in-Slots.is (λ f. refl))

pub returns-in_ok-read_number-in-UcdCount-clause-is : goal.returns-in_ok-read_number-in-UcdCount-clause-is
returns-in_ok-read_number-in-UcdCount-clause-is c =
    let n = c.in_ok-read_number-in-UcdCount.field-0 in (
      number (unsigned n),
      c.in_ok-read_number-in-UcdCount.ensures.is,
      rw (c.in-UcdCount.is, c.to_u8-ranging.ensures) (λ f. refl),
    )

pub returns-in_ok-read_number-in-RangingStart-clause-is : goal.returns-in_ok-read_number-in-RangingStart-clause-is
returns-in_ok-read_number-in-RangingStart-clause-is c =
    let n = c.in_ok-read_number-in-RangingStart.field-0 in (
      number (unsigned n),
      c.in_ok-read_number-in-RangingStart.ensures.is,
      rw (c.in-RangingStart.is, c.to_u8-ranging-in-RangingStart.ensures) (λ f. refl),
    )

pub returns-in_ok-read_number-in-RangingEnd-clause-is : goal.returns-in_ok-read_number-in-RangingEnd-clause-is
returns-in_ok-read_number-in-RangingEnd-clause-is c =
    let n = c.in_ok-read_number-in-RangingEnd.field-0 in (
      number (unsigned n),
      c.in_ok-read_number-in-RangingEnd.ensures.is,
      rw (c.in-RangingEnd.is, c.to_u8-ranging-in-RangingEnd.ensures) (λ f. refl),
    )

pub returns-in_ok-read_number-in-DataStart-clause-is : goal.returns-in_ok-read_number-in-DataStart-clause-is
returns-in_ok-read_number-in-DataStart-clause-is c =
    let n = c.in_ok-read_number-in-DataStart.field-0 in (
      number (unsigned n),
      c.in_ok-read_number-in-DataStart.ensures.is,
      rw (c.in-DataStart.is, c.to_u8-ranging-in-DataStart.ensures) (λ f. refl),
    )

pub returns-in_ok-read_number-in-DataEnd-clause-is : goal.returns-in_ok-read_number-in-DataEnd-clause-is
returns-in_ok-read_number-in-DataEnd-clause-is c =
    let n = c.in_ok-read_number-in-DataEnd.field-0 in (
      number (unsigned n),
      c.in_ok-read_number-in-DataEnd.ensures.is,
      rw (c.in-DataEnd.is, c.to_u8-ranging-in-DataEnd.ensures) (λ f. refl),
    )
