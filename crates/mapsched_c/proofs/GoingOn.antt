-- What is found in the bytes of a journal is of all of them.
use Rattle.std.proofs.Common.{◌≡◌, ℕ, ◌+◌, ◌-◌, ◌^◌, ◌<◌, ◌≤◌, min, ◌∙◌, ap, List, ◌++◌, length, arith}
use Rattle.std.specs.Prelude.{Option, None, Some}
use Rattle.std.proofs.lemmas.List.{append-nil, length-append}
use Rattle.minislots.specs.declared.config.Config.{Config}
use Rattle.sched_calls.specs.declared.reply.Entry.{Entry}
use Rattle.journal_entries.specs.Standing.{ended_lines}
use Rattle.journal_entries.specs.Journal.{CameAll, FindsLegal}
use Rattle.mapsched_c.specs.Resume.{StandsFor}

came_whole : (journal : List ℕ) (left : Option (List ℕ)) (lines : List (List ℕ)) (torn : List ℕ)
    → CameAll (Some journal) left lines torn → journal ≡ ended_lines lines ++ torn
came_whole journal None lines torn all = absurd all.came.consumed
came_whole journal (Some rest) lines torn all =
    all.came.consumed ∙ ap (λ ys. (ended_lines lines ++ torn) ++ ys) all.ended ∙ append-nil (ended_lines lines ++ torn)

came_length : (journal : List ℕ) (left : Option (List ℕ)) (lines : List (List ℕ)) (torn : List ℕ)
    → CameAll (Some journal) left lines torn → length journal ≡ length (ended_lines lines) + length torn
came_length journal left lines torn all =
    ap length (came_whole journal left lines torn all) ∙ length-append (ended_lines lines) torn

torn_bytes : (whole : ℕ) (bytes : ℕ) (behind : ℕ) (torn : ℕ) → bytes ≡ whole + behind → bytes < 2 ^ 64
    → torn ≡ min behind (2 ^ 64 - 1) → torn ≡ behind
torn_bytes whole bytes behind torn parts short is = omega (arith, parts, short, is)

-- no more bytes are torn than there are
pub torn_within : (journal : List ℕ) (left : Option (List ℕ)) (c : Config) (h : List Entry) (torn : ℕ)
    → FindsLegal (Some journal) left c h torn → torn ≤ length journal
torn_within journal left c h torn found =
    let parts = came_length journal left found.lines found.behind found.came in
    let is = found.torn_is in omega (arith, parts, is)

-- the bytes that are not torn are those of the whole lines
pub stands_for : (journal : List ℕ) (left : Option (List ℕ)) (c : Config) (h : List Entry) (torn bytes : ℕ)
    → FindsLegal (Some journal) left c h torn → length journal < 2 ^ 64 → bytes ≡ length journal - torn
    → StandsFor journal c h bytes
stands_for journal left c h torn bytes found short is =
    let parts = came_length journal left found.lines found.behind found.came in
    let whole = torn_bytes (length (ended_lines found.lines)) (length journal) (length found.behind) torn parts short
    found.torn_is in
    record {
      lines = found.lines;
      torn = found.behind;
      journal_is = came_whole journal left found.lines found.behind found.came;
      within = found.came.came.within;
      is_torn = found.came.is_torn;
      stand = found.stand;
      legal = found.legal;
      bytes_are = omega (arith, parts, whole, is);
    }
