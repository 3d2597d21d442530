-- The laws of the text of a history.
use Rattle.history_reading.proofs.Payload.{map_of-payload, spelling-map_of}
use Rattle.laws.proofs.ReadAgain.{history_outcome-text}
use Rattle.laws.proofs.RefusalFound.{exact_refusal}
use Rattle.laws.proofs.history.every_history.Goals as goal

pub returns-clause-read_again : goal.returns-clause-read_again
returns-clause-read_again c = history_outcome-text

pub returns-clause-exact_map : goal.returns-clause-exact_map
returns-clause-exact_map c = λ bytes fits m. (
  spelling-map_of bytes m fits,
  λ h. map_of-payload bytes m h.0 h.1,
)

pub returns-clause-exact_refusal : goal.returns-clause-exact_refusal
returns-clause-exact_refusal c = exact_refusal
