-- The histories in documents that were read item by item.
use Rattle.std.proofs.Common.{◌≡◌, ℕ, ◌+◌, List, [], ◌∷◌, Vec, Global, Some, Ok, refl, sym, ap, ◌∙◌}
use Rattle.std.specs.Prelude.{codes, option_and_then}
use Rattle.serde_json.specs.Data.{Data}
use Rattle.serde_json.specs.Find.{as_array}
use Rattle.serde_json.specs.View.{items_of}
use Rattle.minislots.specs.Config.{first_wrong}
use Rattle.minislots.specs.declared.config.Config.{Config}
use Rattle.sched_calls.specs.declared.reply.Entry.{Entry}
use Rattle.text_stream.specs.Input.{value_of}
use Rattle.text_stream.specs.Outcome.{◌>>=◌, unless_wrong}
use Rattle.text_stream.proofs.Outcome.{then_tested}
use Rattle.json_fields.specs.Listed.{StandEach, IsListOf, IsDocument}
use Rattle.history_reading.specs.Recorded.{entries_of, history_of, history_in}
use Rattle.history_reading.specs.Replies.{entry_of}
use Rattle.history_reading.specs.Usual.{recorded_text}

-- the value stands for the entry
abbrev pub IsEntry : Data → Entry → Type 0
IsEntry d entry = entry_of d ≡ Some entry

-- entries that were all read
entries_in : (ds : List Data) (entries : List Entry) → StandEach IsEntry ds entries
    → (n : ℕ) → entries_of n (items_of ds) ≡ Ok entries
unfolding entries_of
entries_in [] [] each n = refl
entries_in [] (entry ∷ entries) each n = absurd each
entries_in (d ∷ ds) [] each n = absurd each
entries_in (d ∷ ds) (entry ∷ entries) each n = rw each.0 (rw (entries_in ds entries each.1 (n + 1)) refl)

module _ (bytes : List ℕ) (d : Data) (config : Config) (is : value_of bytes ≡ Ok d) where
  -- a document with entries is a history
  pub history_in_document : (entries : Vec Entry Global)
      → IsDocument (λ e es. IsListOf IsEntry e es.items) (codes "entries") d config entries
      → recorded_text bytes ≡ Ok (record { config = config; entries = entries.items })
  unfolding history_of
  history_in_document entries has =
      let found = ap (option_and_then as_array) has.listed_is ∙ ap as_array has.stands.array_is in
      ap (λ r. r >>= history_of) is
      ∙ rw has.config_is (rw found (rw (entries_in has.stands.items entries.items has.stands.each 1) refl))

-- what a text stands for: its history, once its configuration is tested
pub history_tested_behind : (bytes : List ℕ)
    → history_in bytes ≡ recorded_text bytes >>= (λ history. unless_wrong (first_wrong history.config) history)
unfolding history_in
history_tested_behind bytes = sym (then_tested (value_of bytes) history_of
    (λ history. unless_wrong (first_wrong history.config) history))
