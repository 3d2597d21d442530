-- The lines that are written stand for what they were written of.
use Rattle.std.proofs.Common.{◌≡◌, ℕ, ◌+◌, ◌≤◌, List, [], ◌∷◌, ◌++◌, length, map, Some, Ok, refl, ap, ◌∙◌}
use Rattle.std.proofs.Common.{arith, length-append}
use Rattle.std.specs.Prelude.{flat_map}
use Rattle.std.specs.List.{AllByRecursion}
use Rattle.serde_json.specs.Data.{Data, depth}
use Rattle.serde_json.specs.Read.{max_depth}
use Rattle.serde_json.specs.Written.{compact_text}
use Rattle.minislots.specs.declared.config.Config.{Config}
use Rattle.minislots.specs.Config.{IsLawful}
use Rattle.sched_calls.specs.declared.reply.Entry.{Entry}
use Rattle.text_stream.specs.Input.{value_of}
use Rattle.text_stream.proofs.Bytes.{value_of-Ok}
use Rattle.text_stream.specs.declared.TheConstants.{NEWLINE, MAX_LINE}
use Rattle.text_stream.specs.Lines.{IsWithinLine}
use Rattle.history_writing.specs.Fits.{ConfigFits, EntryFits}
use Rattle.history_writing.specs.HistoryText.{entry_data}
use Rattle.history_reading.specs.Recorded.{entry_in}
use Rattle.state_text.proofs.Readable.{IsReadable, read-alone, IsUtf8-compact}
use Rattle.segment_line.proofs.ConfigBack.{config_of-data}
use Rattle.segment_line.proofs.ConfigReadable.{config_readable}
use Rattle.laws.proofs.HistoryAgain.{entry_of-data}
use Rattle.laws.proofs.HistoryReadable.{entry_readable}
use Rattle.segment_line.proofs.ConfigDepth.{depth-config}
use Rattle.laws.proofs.HistoryDepth.{depth-entry}
use Rattle.history_writing.specs.Journal.{opening_data, opening_line, entry_line}
use Rattle.journal_entries.specs.Standing.{opening_in, entry_in_line, ended_lines}
use Rattle.journal_entries.proofs.Lines.{in_line-short}
use Rattle.laws.specs.JournalAgain.{IsEntryLine, HasReadableLine, HasReadableLines, IsTextOf}
use Rattle.segment_line.proofs.NoNewline.{compact_within}

-- the text of a value is read as the value
value-compact : (d : Data) → IsReadable d → depth d ≤ max_depth → value_of (compact_text d) ≡ Ok d
value-compact d readable deep = value_of-Ok (compact_text d) d (IsUtf8-compact d readable) (read-alone d readable deep)

-- the line of an entry, without its newline
abbrev pub line_of : Entry → List ℕ
line_of e = compact_text (entry_data e)

entry_in-line : (e : Entry) → EntryFits e → entry_in (line_of e) ≡ Some e
unfolding entry_in
entry_in-line e fits =
    let deep = depth-entry e in
    rw (value-compact (entry_data e) (entry_readable e fits) (omega (arith, deep))) (entry_of-data e fits)

-- the line of an entry is read back as that entry
pub entry_line-read : IsEntryLine
unfolding entry_line
entry_line-read e fits = (
  line_of e,
  record {
    written = refl;
    within = compact_within (entry_data e);
    utf8 = IsUtf8-compact (entry_data e) (entry_readable e fits);
    read = entry_in-line e fits;
  },
)

-- an opening is read again in its text
pub opening_readable : (c : Config) → ConfigFits c → IsReadable (opening_data c)
unfolding opening_data
opening_readable c fits = (refl, (refl, config_readable c fits, tt))

opening_depth : (c : Config) → depth (opening_data c) ≤ 4
unfolding opening_data
opening_depth c = let config = depth-config c in omega (arith, config)

opening_in-line : (c : Config) → ConfigFits c → IsLawful c
    → opening_in (compact_text (opening_data c)) ≡ Some c
unfolding opening_in opening_data
opening_in-line c fits lawful =
    let deep = opening_depth c in
    rw (value-compact (opening_data c) (opening_readable c fits) (omega (arith, deep)))
    (rw (config_of-data c fits) (rw lawful refl))

-- a line whose bytes and newline are not too many is none too long
short_line : (line : List ℕ) → length (line ++ NEWLINE ∷ []) ≤ MAX_LINE + 1 → length line ≤ MAX_LINE
short_line line short = let all = length-append line (NEWLINE ∷ []) in omega (arith, all, short)

-- the lines of entries stand for them
pub entries_read : (es : List Entry) → AllByRecursion HasReadableLine es
    → map entry_in_line (map line_of es) ≡ map Some es
unfolding entry_line
entries_read [] readable = refl
entries_read (e ∷ es) readable =
    let first : entry_in_line (line_of e) ≡ Some e =
    in_line-short entry_in (line_of e) (short_line (line_of e) readable.0.short) ∙ entry_in-line e readable.0.fits in
    rw first (rw (entries_read es readable.1) refl)

-- and are what is written of them
pub lines_text : (es : List Entry) → flat_map entry_line es ≡ ended_lines (map line_of es)
unfolding entry_line
lines_text [] = refl
lines_text (e ∷ es) = ap (λ (rest : List ℕ). (line_of e ++ NEWLINE ∷ []) ++ rest) (lines_text es)

-- no newline is in them
pub lines_within : (es : List Entry) → AllByRecursion IsWithinLine (map line_of es)
lines_within [] = tt
lines_within (e ∷ es) = (compact_within (entry_data e), lines_within es)

-- the text of a journal is lines that are read back as its configuration and its entries, where all can be read
pub journal_text-read : (c : Config) (es : List Entry) → ConfigFits c → IsLawful c → HasReadableLines c es
    → (lines : List (List ℕ)) × IsTextOf c es lines
unfolding opening_line
journal_text-read c es fits lawful readable =
    let opening = compact_text (opening_data c) in (
      opening ∷ map line_of es,
      record {
        text = ap (λ (rest : List ℕ). (opening ++ NEWLINE ∷ []) ++ rest) (lines_text es);
        within = (compact_within (opening_data c), lines_within es);
        stand = record {
          opening = opening;
          others = map line_of es;
          lines_are = refl;
          config_is = in_line-short opening_in opening (short_line opening readable.opening)
              ∙ opening_in-line c fits lawful;
          entries_are = entries_read es readable.entries;
        };
      },
    )
