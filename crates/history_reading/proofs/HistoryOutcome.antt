-- Which faults the text of a history can have, and what is known once all bytes of a reader were read.
use Rattle.std.proofs.Common.{◌≡◌, ℕ, ◌+◌, ◌≤◌, List, ◌∷◌, length, Option, Result, Ok, Err, refl, subst, ◌∙◌}
use Rattle.std.specs.Prelude.{◌≢◌, IfOk, IfErr, ok_or, option_and_then, codes}
use Rattle.std.proofs.lemmas.Bool.{le-ltb}
use Rattle.serde_json.specs.Data.{Data, Items, no_items, item}
use Rattle.serde_json.specs.Find.{get, as_array}
use Rattle.minislots.specs.declared.config.Config.{Config as Configuration}
use Rattle.minislots.specs.Config.{first_wrong}
use Rattle.text_stream.specs.declared.input.TheConstants.{MAX_INPUT}
use Rattle.text_stream.specs.declared.fault.TextFault.{TextFault}
use Rattle.text_stream.specs.declared.fault.TextFault.TheVariants.{Input, TooLong, NotJson, Shape, Config, Memory}
use Rattle.text_stream.specs.declared.fault.TextFault.TheVariants.{Output}
use Rattle.json_fields.specs.Fields.{config_of}
use Rattle.text_stream.specs.Input.{Gives}
use Rattle.text_stream.specs.Outcome.{◌>>=◌}
use Rattle.text_stream.specs.Input.{value_of, ReadsAll}
use Rattle.text_stream.specs.Outcome.{unless_wrong}
use Rattle.history_reading.specs.Replies.{entry_of}
use Rattle.history_reading.specs.Recorded.{History, entries_of, history_of, history_in, history_outcome}
use Rattle.history_reading.specs.Recorded.{GivesHistory, StopsHistory}
use Rattle.text_stream.proofs.Outcome.{IsOfText, faults-bind, faults-ok_or, faults-value_of, faults-unless_wrong}

faults-entries_of : (n : ℕ) (ds : Items) → IfErr (entries_of n ds) IsOfText
unfolding entries_of
faults-entries_of n no_items = tt
faults-entries_of n (item d ds) =
    faults-bind (ok_or (entry_of d) (Shape n)) (λ entry. entries_of (n + 1) ds >>= (λ entries. Ok (entry ∷ entries)))
    (faults-ok_or (entry_of d) (Shape n) tt)
    (λ entry. faults-bind (entries_of (n + 1) ds) (λ entries. Ok (entry ∷ entries)) (faults-entries_of (n + 1) ds)
    (λ entries. tt))

abbrev with_entries : Configuration → Items → Result History TextFault
with_entries config items = entries_of 1 items >>= (λ entries. Ok (record { config = config; entries = entries }))

abbrev with_config : Data → Configuration → Result History TextFault
with_config d config = ok_or (option_and_then as_array (get (codes "entries") d)) (Shape 0) >>= with_entries config

faults-history_of : (d : Data) → IfErr (history_of d) IsOfText
unfolding history_of
faults-history_of d =
    faults-bind (ok_or (option_and_then config_of (get (codes "config") d)) (Shape 0)) (with_config d)
    (faults-ok_or (option_and_then config_of (get (codes "config") d)) (Shape 0) tt) (λ config.
    faults-bind (ok_or (option_and_then as_array (get (codes "entries") d)) (Shape 0)) (with_entries config)
    (faults-ok_or (option_and_then as_array (get (codes "entries") d)) (Shape 0) tt) (λ items.
    faults-bind (entries_of 1 items) (λ entries. Ok (record { config = config; entries = entries }))
    (faults-entries_of 1 items) (λ entries. tt)))

-- what the text of a history has is a fault of a text
pub faults-history_in : (bytes : List ℕ) → IfErr (history_in bytes) IsOfText
unfolding history_in
faults-history_in bytes =
    faults-bind (value_of bytes) (λ d. history_of d >>= (λ history. unless_wrong (first_wrong history.config) history))
    (faults-value_of bytes) (λ d.
    faults-bind (history_of d) (λ history. unless_wrong (first_wrong history.config) history) (faults-history_of d)
    (λ history. faults-unless_wrong (first_wrong history.config) history))

-- of bytes that are not too many, what the text stands for decides
pub history_outcome-short : (bytes : List ℕ) → length bytes ≤ MAX_INPUT → history_outcome bytes ≡ history_in bytes
unfolding history_outcome
history_outcome-short bytes short = rw (le-ltb MAX_INPUT (length bytes) short) refl

module _ {X : Type 0} (view : X → History) (old new : Option (List ℕ)) (bytes : List ℕ) where
  -- what was made of all bytes is what they stand for
  pub gives_history : (result : Result X TextFault) → ReadsAll old new bytes → Gives view result (history_in bytes)
      → IfOk result (λ x. GivesHistory old new (Ok (view x)))
  gives_history (Ok x) all exact = record {
    bytes = bytes;
    all = all;
    outcome_is = history_outcome-short bytes all.short ∙ exact;
  }
  gives_history (Err fault) all exact = tt

  of_text : (fault : TextFault) → history_in bytes ≡ Err fault → IsOfText fault
  of_text fault e = subst (λ (r : Result History TextFault). IfErr r IsOfText) e (faults-history_in bytes)

  has_fault : (fault : TextFault) → ReadsAll old new bytes → history_in bytes ≡ Err fault
      → GivesHistory old new (Err fault)
  has_fault fault all e = record { bytes = bytes; all = all; outcome_is = history_outcome-short bytes all.short ∙ e }

  stops : (fault : TextFault) → ReadsAll old new bytes → (fault ≢ Memory → history_in bytes ≡ Err fault)
      → StopsHistory old new fault
  stops Input all exact = tt
  stops TooLong all exact = absurd (of_text TooLong (exact (λ e. cc)))
  stops NotJson all exact = has_fault NotJson all (exact (λ e. cc))
  stops (Shape n) all exact = has_fault (Shape n) all (exact (λ e. cc))
  stops (Config field) all exact = has_fault (Config field) all (exact (λ e. cc))
  stops Memory all exact = tt
  stops Output all exact = absurd (of_text Output (exact (λ e. cc)))

  -- a fault in all bytes is the one that they have
  pub stops_history : (result : Result X TextFault) → ReadsAll old new bytes → Gives view result (history_in bytes)
      → IfErr result (StopsHistory old new)
  stops_history (Ok x) all exact = tt
  stops_history (Err fault) all exact = stops fault all exact
