-- Reading the entries of a history one after the other.
use Rattle.std.proofs.Common.{◌≡◌, ℕ, ◌+◌, ◌<◌, ◌≤◌, ◌∙◌, length, get_or, drop, List, [], ◌∷◌, ◌++◌, Some, None}
use Rattle.std.proofs.Common.{Result, Ok, Err, refl, sym, ap, append_assoc, append-nil}
use Rattle.std.proofs.lemmas.List.{drop_all}
use Rattle.serde_json.specs.Data.{item}
use Rattle.serde_json.specs.View.{view, items_view}
use Rattle.serde_json.specs.declared.value.Value.{Value}
use Rattle.sched_calls.specs.declared.reply.Entry.{Entry}
use Rattle.text_stream.specs.declared.fault.TextFault.{TextFault}
use Rattle.text_stream.specs.declared.fault.TextFault.TheVariants.{Shape}
use Rattle.text_stream.specs.Outcome.{◌>>=◌}
use Rattle.history_reading.specs.Replies.{entry_of}
use Rattle.history_reading.specs.Recorded.{entries_of}
use Rattle.json_fields.proofs.Items.{items_view-here}

-- the entries that were read, and then those that follow
abbrev entries_then : List Entry → Result (List Entry) TextFault → Result (List Entry) TextFault
entries_then entries (Ok rest) = Ok (entries ++ rest)
entries_then entries (Err fault) = Err fault

entries_then-push : (entries : List Entry) (entry : Entry) (rest : Result (List Entry) TextFault)
    → entries_then entries (rest >>= (λ next. Ok (entry ∷ next))) ≡ entries_then (entries ++ entry ∷ []) rest
entries_then-push entries entry (Ok rest) = ap (λ (l : List Entry). Ok l) (sym (append_assoc entries (entry ∷ []) rest))
entries_then-push entries entry (Err fault) = refl

-- what the values from the index on stand for, after the entries before
abbrev pub entries_left : List Value → List Entry → ℕ → Result (List Entry) TextFault
entries_left values entries i = entries_then entries (entries_of (i + 1) (items_view (drop i values)))

module _ (values : List Value) (entries : List Entry) (i : ℕ) where
  entries_left-at : (v : Value) → i < length values → v ≡ get_or values i v
      → entries_left values entries i
      ≡ entries_then entries (entries_of (i + 1) (item (view v) (items_view (drop (i + 1) values))))
  entries_left-at v within is = ap (λ ds. entries_then entries (entries_of (i + 1) ds))
      (items_view-here values i v within is)

  -- the value at the index is no entry
  pub entries_left-fault : (v : Value) → i < length values → v ≡ get_or values i v → entry_of (view v) ≡ None
      → entries_left values entries i ≡ Err (Shape (i + 1))
  unfolding entries_of
  entries_left-fault v within is none = entries_left-at v within is ∙ rw none refl

  -- the value at the index is the next entry
  pub entries_left-entry : (v : Value) (entry : Entry) → i < length values → v ≡ get_or values i v
      → entry_of (view v) ≡ Some entry
      → entries_left values entries i ≡ entries_left values (entries ++ entry ∷ []) (i + 1)
  unfolding entries_of
  entries_left-entry v entry within is some =
      entries_left-at v within is
      ∙ rw some (entries_then-push entries entry (entries_of (i + 1 + 1) (items_view (drop (i + 1) values))))

  -- no value is left
  pub entries_left-end : length values ≤ i → entries_left values entries i ≡ Ok entries
  unfolding entries_of
  entries_left-end past = ap (λ (vs : List Value). entries_then entries (entries_of (i + 1) (items_view vs)))
      (drop_all i values past) ∙ ap (λ (l : List Entry). Ok l) (append-nil entries)
