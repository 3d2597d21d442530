-- Which faults the text of a document can have, and what is known once all bytes of a reader were read.
use Rattle.std.proofs.Common.{◌≡◌, ℕ, ◌≤◌, List, length, Option, Result, Ok, Err, refl, subst, ◌∙◌}
use Rattle.std.specs.Prelude.{◌≢◌, IfOk, IfErr, ok_or, option_and_then, codes}
use Rattle.std.proofs.lemmas.Bool.{le-ltb}
use Rattle.serde_json.specs.Data.{Data}
use Rattle.serde_json.specs.Find.{get}
use Rattle.minislots.specs.Config.{first_wrong}
use Rattle.text_stream.specs.declared.input.TheConstants.{MAX_INPUT}
use Rattle.text_stream.specs.declared.fault.TextFault.{TextFault}
use Rattle.text_stream.specs.declared.fault.TextFault.TheVariants.{Input, TooLong, NotJson, Shape, Config, Memory}
use Rattle.text_stream.specs.declared.fault.TextFault.TheVariants.{Output}
use Rattle.json_fields.specs.Fields.{config_of}
use Rattle.text_stream.specs.Input.{Gives, value_of, ReadsAll}
use Rattle.text_stream.specs.Outcome.{unless_wrong}
use Rattle.text_stream.proofs.Outcome.{IsOfText, faults-bind, faults-ok_or, faults-value_of, faults-unless_wrong}
use Rattle.bursts_command.specs.declared.channel.Channel.{Channel}
use Rattle.bursts_command.specs.Channel.{request_of, channel_of, channel_in, channel_outcome}
use Rattle.bursts_command.specs.Channel.{GivesChannel, StopsChannel}

faults-channel_of : (d : Data) → IfErr (channel_of d) IsOfText
unfolding channel_of
faults-channel_of d =
    faults-bind (ok_or (option_and_then config_of (get (codes "config") d)) (Shape 0))
    (λ config. unless_wrong (first_wrong config) (record { config = config; request = request_of d }))
    (faults-ok_or (option_and_then config_of (get (codes "config") d)) (Shape 0) tt)
    (λ config. faults-unless_wrong (first_wrong config) (record { config = config; request = request_of d }))

-- a document is not JSON, has a fault of shape, or a wrong configuration
pub faults-channel_in : (bytes : List ℕ) → IfErr (channel_in bytes) IsOfText
unfolding channel_in
faults-channel_in bytes = faults-bind (value_of bytes) channel_of (faults-value_of bytes) faults-channel_of

-- of bytes that are not too many, what the text stands for decides
outcome-short : (bytes : List ℕ) → length bytes ≤ MAX_INPUT → channel_outcome bytes ≡ channel_in bytes
unfolding channel_outcome
outcome-short bytes short = rw (le-ltb MAX_INPUT (length bytes) short) refl

module _ (old new : Option (List ℕ)) (bytes : List ℕ) (all : ReadsAll old new bytes) where
  -- what was made of all bytes is what they stand for
  pub gives_channel : (result : Result Channel TextFault) → Gives (λ channel. channel) result (channel_in bytes)
      → IfOk result (λ channel. GivesChannel old new (Ok channel))
  gives_channel (Ok channel) exact =
      record { bytes = bytes; all = all; outcome_is = outcome-short bytes all.short ∙ exact }
  gives_channel (Err fault) exact = tt

  of_text : (fault : TextFault) → channel_in bytes ≡ Err fault → IsOfText fault
  of_text fault e = subst (λ (r : Result Channel TextFault). IfErr r IsOfText) e (faults-channel_in bytes)

  has_fault : (fault : TextFault) → channel_in bytes ≡ Err fault → GivesChannel old new (Err fault)
  has_fault fault e = record { bytes = bytes; all = all; outcome_is = outcome-short bytes all.short ∙ e }

  stops : (fault : TextFault) → (fault ≢ Memory → channel_in bytes ≡ Err fault) → StopsChannel old new fault
  stops Input exact = tt
  stops TooLong exact = absurd (of_text TooLong (exact (λ e. cc)))
  stops NotJson exact = has_fault NotJson (exact (λ e. cc))
  stops (Shape n) exact = has_fault (Shape n) (exact (λ e. cc))
  stops (Config field) exact = has_fault (Config field) (exact (λ e. cc))
  stops Memory exact = tt
  stops Output exact = absurd (of_text Output (exact (λ e. cc)))

  -- a fault in all bytes is the one that they have
  pub stops_channel : (result : Result Channel TextFault) → Gives (λ channel. channel) result (channel_in bytes)
      → IfErr result (StopsChannel old new)
  stops_channel (Ok channel) exact = tt
  stops_channel (Err fault) exact = stops fault exact
