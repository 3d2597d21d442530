-- How far the capture of a journal has come.
use Rattle.std.proofs.Common.{◌≡◌, ℕ, List, [], ◌∷◌, ◌++◌, map, length, Option}
use Rattle.std.proofs.Common.{refl, sym, ap, ap₂, ◌∙◌, subst, append-nil}
use Rattle.std.specs.List.{flat_map}
use Rattle.std.specs.Io.KnownBytes.{Appends, append_known}
use Rattle.std.proofs.KnownBytes.{Appends-trans}
use Rattle.std.proofs.lemmas.List.Concat.{flat_map-append}
use Rattle.minislots.specs.declared.config.Config.{Config}
use Rattle.sched_calls.specs.declared.reply.Entry.{Entry}
use Rattle.text_stream.proofs.Written.{Appends-out}
use Rattle.pcap_command.specs.declared.output.WireOutput.TheVariants.{Capture}
use Rattle.pcap_command.specs.Capture.{capture_head}
use Rattle.pcap_command.specs.Items.{item_of}
use Rattle.pcap_command.specs.Journal.{answer_of, entry_item, entries_text, capture_of_entries}
use Rattle.pcap_command.proofs.OnWire.{packets_are, from_none}

-- no entry adds nothing
pub entries_text-none : (c : Config) (address : List ℕ) → entries_text c address [] ≡ []
unfolding entries_text
entries_text-none c address = refl

-- one entry more
entries_text-push : (c : Config) (address : List ℕ) (es : List Entry) (e : Entry)
    → entries_text c address (es ++ e ∷ []) ≡ entries_text c address es ++ entry_item c address e
unfolding entries_text
entries_text-push c address es e =
    flat_map-append (entry_item c address) es (e ∷ [])
    ∙ ap (λ (text : List ℕ). flat_map (entry_item c address) es ++ text) (append-nil (entry_item c address e))

-- what it adds is written or waits
pub Puts-push : (c : Config) (address : List ℕ) (es : List Entry) (e : Entry) (before between after : Option (List ℕ))
    → Appends before between (entries_text c address es) → Appends between after (entry_item c address e)
    → Appends before after (entries_text c address (es ++ e ∷ []))
Puts-push c address es e before between after so_far more =
    subst (Appends before after) (sym (entries_text-push c address es e))
    (Appends-trans before between after (entries_text c address es) (entry_item c address e) so_far more)

-- entry by entry is answer by answer
answers_text : (c : Config) (address : List ℕ) (es : List Entry)
    → entries_text c address es ≡ flat_map (item_of Capture c address) (map answer_of es)
unfolding entries_text
answers_text c address [] = refl
answers_text c address (e ∷ es) = ap (λ (text : List ℕ). entry_item c address e ++ text) (answers_text c address es)

-- the head and what the entries add are their capture
text_of_entries : (c : Config) (address : List ℕ) (es : List Entry)
    → capture_head ++ entries_text c address es ≡ capture_of_entries c address es
text_of_entries c address es =
    ap (λ (text : List ℕ). capture_head ++ text)
    (answers_text c address es ∙ packets_are c address (map answer_of es))

-- the head, the entries, and what waited at the end
pub captured : (c : Config) (address : List ℕ) (es : List Entry) (before front between after : Option (List ℕ))
    (waiting : List ℕ) → Appends (append_known before []) front capture_head
    → Appends front (append_known between waiting) (entries_text c address es) → Appends between after waiting
    → Appends before after (capture_of_entries c address es)
captured c address es before front between after waiting head so_far out =
    let rest = Appends-out front between after waiting (entries_text c address es) so_far out in
    from_none before after (capture_of_entries c address es)
    (subst (Appends (append_known before []) after) (text_of_entries c address es)
    (Appends-trans (append_known before []) front after capture_head (entries_text c address es) head rest))
