-- The JSON values of calls are read again in their texts: their numbers fit 64 bits, their names are ASCII, and their
-- keys are in order.
use Rattle.std.proofs.Common.{◌≡◌, ℕ, ◌<◌, ◌^◌, List, refl}
use Rattle.std.proofs.Common.{true}
use Rattle.std.specs.Prelude.{codes}
use Rattle.json.proofs.Printed.Utf8.{are_ascii}
use Rattle.sched_calls.specs.declared.amount.Amount.{Amount}
use Rattle.sched_calls.specs.declared.amount.Amount.TheVariants.{Bytes, Slots}
use Rattle.sched_calls.specs.declared.spec.FlowSpec.{FlowSpec}
use Rattle.sched_calls.specs.declared.call.Call.{Call}
use Rattle.sched_calls.specs.declared.opportunity.Usage.TheVariants.{Initial, InitialTo, Station}
use Rattle.sched_calls.specs.declared.opportunity.Usage.TheVariants.{Request, Quiet, DataTo}
use Rattle.sched_calls.specs.declared.call.Call.TheVariants.{Admit, Remove, Ask, Heard, Build, Skip, Status}
use Rattle.sched_calls.specs.declared.call.Call.TheVariants.{Reserve, Header, Replace, Change, Rest, Wake}
use Rattle.history_writing.specs.Json.{request_data, parameters_data}
use Rattle.history_writing.specs.Json.{reserve_for, reserve_to, call_data}
use Rattle.history_writing.specs.Fits.{FlowFits, AmountFits, CallFits}
use Rattle.state_text.proofs.FlowText.{of_byte, of_half, of_word, name, flow_readable}
use Rattle.state_text.proofs.Readable.{IsReadable}

-- a request is read again in its text
request_readable : (called : List ℕ) (receiver sid : ℕ) (amount : Amount) (heard : ℕ) → are_ascii called ≡ true
    → receiver < 2 ^ 8 → sid < 2 ^ 16 → AmountFits amount → heard < 2 ^ 64
    → IsReadable (request_data called receiver sid amount heard)
request_readable called receiver sid (Bytes bytes) heard small receivers sids fits times = (
  refl,
  (
    refl,
    of_word bytes fits,
    (
      refl,
      name called small,
      (
        refl,
        times,
        (refl, of_byte receiver receivers, (refl, of_half sid sids, tt)),
      ),
    ),
  ),
)
request_readable called receiver sid (Slots slots) heard small receivers sids fits times = (
  refl,
  (
    refl,
    name called small,
    (
      refl,
      times,
      (
        refl,
        of_byte receiver receivers,
        (refl, of_half sid sids, (refl, of_word slots fits, tt)),
      ),
    ),
  ),
)

-- so is a flow with its parameters
parameters_readable : (called : List ℕ) (sid : ℕ) (spec : FlowSpec) → are_ascii called ≡ true → sid < 2 ^ 16
    → FlowFits spec → IsReadable (parameters_data called sid spec)
parameters_readable called sid spec small sids fits =
    (refl, (refl, name called small, (refl, flow_readable spec fits, (refl, of_half sid sids, tt))))

-- so is a Reserve of a usage that no SID stands beside
reserve_for_readable : (usage : List ℕ) (slots : ℕ) → are_ascii usage ≡ true → slots < 2 ^ 32
    → IsReadable (reserve_for usage slots)
reserve_for_readable usage slots small fits = (
  refl,
  (
    refl,
    name (codes "reserve") refl,
    (refl, of_word slots fits, (refl, name usage small, tt)),
  ),
)

-- and one with its SID
reserve_to_readable : (usage : List ℕ) (sid slots : ℕ) → are_ascii usage ≡ true → sid < 2 ^ 16 → slots < 2 ^ 32
    → IsReadable (reserve_to usage sid slots)
reserve_to_readable usage sid slots small sids fits = (
  refl,
  (
    refl,
    name (codes "reserve") refl,
    (
      refl,
      of_half sid sids,
      (refl, of_word slots fits, (refl, name usage small, tt)),
    ),
  ),
)

-- a call is read again in its text
pub call_readable : (call : Call) → CallFits call → IsReadable (call_data call)
unfolding call_data
call_readable (Admit sid spec) fits = parameters_readable (codes "admit") sid spec refl fits.0 fits.1
call_readable (Remove sid) fits = (refl, (refl, name (codes "remove") refl, (refl, of_half sid fits, tt)))
call_readable (Ask receiver sid amount heard) fits =
    request_readable (codes "ask") receiver sid amount heard refl fits.0 fits.1 fits.2 fits.3
call_readable (Heard receiver upto) fits =
    (refl, (refl, name (codes "heard") refl, (refl, of_byte receiver fits.0, (refl, fits.1, tt))))
call_readable (Build now) fits = (refl, (refl, name (codes "build") refl, (refl, fits, tt)))
call_readable (Skip now) fits = (refl, (refl, name (codes "skip") refl, (refl, fits, tt)))
call_readable (Status sid) fits = (refl, (refl, name (codes "status") refl, (refl, of_half sid fits, tt)))
call_readable (Reserve Initial slots) fits = reserve_for_readable (codes "initial") slots refl fits
call_readable (Reserve (InitialTo sid) slots) fits =
    reserve_to_readable (codes "initial_to") sid slots refl fits.0 fits.1
call_readable (Reserve (Station sid) slots) fits =
    reserve_to_readable (codes "station") sid slots refl fits.0 fits.1
call_readable (Reserve (Request sid) slots) fits =
    reserve_to_readable (codes "request") sid slots refl fits.0 fits.1
call_readable (Reserve Quiet slots) fits = reserve_for_readable (codes "quiet") slots refl fits
call_readable (Reserve (DataTo sid) slots) fits = reserve_to_readable (codes "data") sid slots refl fits.0 fits.1
call_readable (Header header) fits = (
  refl,
  (
    refl,
    name (codes "header") refl,
    (
      refl,
      of_byte header.data_end fits.4,
      (
        refl,
        of_byte header.data_start fits.3,
        (
          refl,
          of_byte header.ranging_end fits.2,
          (refl, of_byte header.ranging_start fits.1, (refl, of_byte header.ucd_count fits.0, tt)),
        ),
      ),
    ),
  ),
)
call_readable (Replace receiver sid amount heard) fits =
    request_readable (codes "replace") receiver sid amount heard refl fits.0 fits.1 fits.2 fits.3
call_readable (Change sid spec) fits = parameters_readable (codes "change") sid spec refl fits.0 fits.1
call_readable (Rest sid) fits = (refl, (refl, name (codes "rest") refl, (refl, of_half sid fits, tt)))
call_readable (Wake sid) fits = (refl, (refl, name (codes "wake") refl, (refl, of_half sid fits, tt)))
