-- What stops the reading of a history: the machine, or the one fault that the text has.
use Rattle.std.proofs.Common.{◌≡◌, ℕ, ◌<◌, List, length, Option, Some, None, Result, Err, inl, inr, refl, sym, ap}
use Rattle.std.proofs.Common.{◌∙◌}
use Rattle.std.proofs.Common.{arith}
use Rattle.std.proofs.lemmas.Bool.{lt-ltb}
use Rattle.std.proofs.lemmas.List.{length-append}
use Rattle.text_stream.specs.declared.input.TheConstants.{MAX_INPUT}
use Rattle.text_stream.specs.declared.fault.TextFault.{TextFault}
use Rattle.text_stream.specs.declared.fault.TextFault.TheVariants.{Input, TooLong, NotJson, Shape, Config, Memory}
use Rattle.text_stream.specs.declared.fault.TextFault.TheVariants.{Output}
use Rattle.text_stream.specs.Input.{ReadsTooMany}
use Rattle.history_reading.specs.Recorded.{History, history_outcome, GivesHistory, StopsHistory}
use Rattle.text_stream.proofs.TextTold.{all_bytes, IsTold}

-- a reader from which too many bytes came had too many
too_many : (text : List ℕ) (left : Option (List ℕ)) → ReadsTooMany (Some text) left → MAX_INPUT < length text
too_many text None many = absurd many.consumed
too_many text (Some rest) many =
    let parts = ap length many.consumed in
    let sum = length-append many.bytes rest in
    let long = many.long in
    omega (arith, parts, sum, long)

too_long : (text : List ℕ) → MAX_INPUT < length text → history_outcome text ≡ Err TooLong
unfolding history_outcome
too_long text long = rw (lt-ltb MAX_INPUT (length text) long) refl

module _ (text : List ℕ) (left : Option (List ℕ)) where
  -- what is given for a history, one or its fault, is what the text stands for
  pub history-has : (outcome : Result History TextFault) → GivesHistory (Some text) left outcome
      → history_outcome text ≡ outcome
  history-has outcome has = ap history_outcome (sym (all_bytes text left has.bytes has.all)) ∙ has.outcome_is

  -- a history stops by the fault of its text alone
  pub history-told : (fault : TextFault) → StopsHistory (Some text) left fault → IsTold fault (history_outcome text)
  history-told Input stops = inl refl
  history-told TooLong stops = inr (inr (too_long text (too_many text left stops)))
  history-told NotJson stops = inr (inr (history-has (Err NotJson) stops))
  history-told (Shape n) stops = inr (inr (history-has (Err (Shape n)) stops))
  history-told (Config field) stops = inr (inr (history-has (Err (Config field)) stops))
  history-told Memory stops = inr (inl refl)
  history-told Output stops = absurd stops
