-- A journal that grows by lines.
use Rattle.std.proofs.Common.{◌≡◌, ◌⊎◌, ℕ, ◌+◌, ◌-◌, ◌<◌, ◌≤◌, List, [], ◌∷◌, ◌++◌, length, take}
use Rattle.std.proofs.Common.{refl, sym, ap, ◌∙◌, inl, inr, append_assoc, arith, suc}
use Rattle.std.specs.Prelude.{flat_map}
use Rattle.std.proofs.lemmas.Bool.{cases_lt}
use Rattle.std.proofs.lemmas.List.{take-append-le, length-append}
use Rattle.std.proofs.lemmas.Grind.{flat_map-append}
use Rattle.std.proofs.Math.Seq.{take-append-add, take-nil}
use Rattle.serde_json.specs.Data.{Data, object, no_members}
use Rattle.serde_json.specs.Written.{compact_text}
use Rattle.minislots.specs.declared.config.Config.{Config}
use Rattle.sched_calls.specs.declared.reply.Entry.{Entry}
use Rattle.history_writing.specs.HistoryText.{entry_data}
use Rattle.history_writing.specs.Journal.{line_of_data, entry_line}
use Rattle.journal_file.specs.declared.notes.Note.{Note}
use Rattle.journal_file.specs.Standing.{IsJournal, IsPartOfLine, IsLeft}

-- a part of a line, without its newline
part-of_line : (d : Data) (k : ℕ) → k < length (line_of_data d) → IsPartOfLine (take k (line_of_data d))
part-of_line d k below =
    let text = compact_text d in
    let within : k ≤ length text = omega (arith, length-append text (10 ∷ [])) in
    record { value = d; count = k; part = take-append-le k text (10 ∷ []) within }

-- the lines of entries behind a journal
pub IsJournal-more : (c : Config) (found text new : List ℕ) (before entries : List Entry) (notes : List Note)
    → IsJournal c found text before notes → new ≡ text ++ flat_map entry_line entries
    → IsJournal c found new (before ++ entries) notes
IsJournal-more c found text new before entries notes was more =
    let lines = flat_map entry_line entries in
    record {
      front = was.front;
      resumed = was.resumed;
      begins = was.begins;
      added = was.added ++ entries;
      entries_are = ap (λ (es : List Entry). es ++ entries) was.entries_are
          ∙ append_assoc was.resumed was.added entries;
      text_is = more ∙ ap (λ (t : List ℕ). t ++ lines) was.text_is
          ∙ append_assoc was.front (flat_map entry_line was.added) lines
          ∙ ap (λ (t : List ℕ). was.front ++ t) (sym (flat_map-append entry_line was.added entries));
    }

-- The first bytes of lines: whole ones, and behind them a part of one
pub record ArePart (es : List Entry) (text : List ℕ) : Type 0 where
  pub count : ℕ
  pub torn : List ℕ
  pub torn_is : IsPartOfLine torn
  pub text_is : text ≡ flat_map entry_line (take count es) ++ torn

-- a part of the first line
part-within : (e : Entry) (es : List Entry) (k : ℕ) → k < length (entry_line e)
    → ArePart (e ∷ es) (take k (entry_line e ++ flat_map entry_line es))
unfolding entry_line
part-within e es k below = record {
  count = 0;
  torn = take k (entry_line e);
  torn_is = part-of_line (entry_data e) k below;
  text_is = take-append-le k (entry_line e) (flat_map entry_line es) (omega arith);
}

-- the first line, and a part of the others
part-behind : (e : Entry) (es : List Entry) (k : ℕ) → length (entry_line e) ≤ k
    → ArePart es (take (k - length (entry_line e)) (flat_map entry_line es))
    → ArePart (e ∷ es) (take k (entry_line e ++ flat_map entry_line es))
part-behind e es k past others =
    let n = k - length (entry_line e) in
    let sum : k ≡ length (entry_line e) + n = omega arith in
    record {
      count = suc others.count;
      torn = others.torn;
      torn_is = others.torn_is;
      text_is = ap (λ (m : ℕ). take m (entry_line e ++ flat_map entry_line es)) sum
          ∙ take-append-add (entry_line e) (flat_map entry_line es) n
          ∙ ap (λ (t : List ℕ). entry_line e ++ t) others.text_is
          ∙ sym (append_assoc (entry_line e) (flat_map entry_line (take others.count es)) others.torn);
    }

part-by_place : (e : Entry) (es : List Entry) (k : ℕ)
    → ((n : ℕ) → ArePart es (take n (flat_map entry_line es)))
    → (k < length (entry_line e)) ⊎ (length (entry_line e) ≤ k)
    → ArePart (e ∷ es) (take k (entry_line e ++ flat_map entry_line es))
part-by_place e es k others (inl below) = part-within e es k below
part-by_place e es k others (inr past) = part-behind e es k past (others (k - length (entry_line e)))

-- the first bytes of the lines of entries
pub are_part : (es : List Entry) (k : ℕ) → ArePart es (take k (flat_map entry_line es))
are_part [] k = record {
  count = 0;
  torn = [];
  torn_is = record { value = object no_members; count = 0; part = refl };
  text_is = take-nil k;
}
are_part (e ∷ es) k = part-by_place e es k (are_part es) (cases_lt k (length (entry_line e)))

-- the first bytes of the lines of entries behind a journal
pub IsLeft-more : (c : Config) (found text new : List ℕ) (before entries : List Entry) (notes : List Note) (k : ℕ)
    → IsJournal c found text before notes → new ≡ text ++ take k (flat_map entry_line entries)
    → (n : ℕ) × IsLeft c found new (before ++ take n entries) notes
IsLeft-more c found text new before entries notes k was more =
    let part = are_part entries k in
    let lines = flat_map entry_line (take part.count entries) in (
      part.count,
      record {
        whole = text ++ lines;
        torn = part.torn;
        text_is = more ∙ ap (λ (t : List ℕ). text ++ t) part.text_is ∙ sym (append_assoc text lines part.torn);
        torn_is = part.torn_is;
        journal = IsJournal-more c found text (text ++ lines) before (take part.count entries) notes was refl;
      },
    )
