-- A verdict as JSON: one line without spaces, an object with its keys in ascending order.
use Rattle.std.specs.Prelude.{ℕ, List, ◌++◌, codes, decimal}

-- a label and a number in decimal
unfoldable pub labelled : List ℕ → ℕ → List ℕ
labelled label n = label ++ decimal n

-- a history is legal and has so many entries
unfoldable pub legal_json : ℕ → List ℕ
legal_json entries = labelled (codes "{\"entries\":") entries ++ codes ",\"legal\":true}\n"

-- this entry, counted from 0, is the first that may not stand there
unfoldable pub illegal_json : ℕ → List ℕ
illegal_json index = labelled (codes "{\"illegal\":") index ++ codes ",\"legal\":false}\n"

-- a journal is legal and has so many entries, and behind its last newline stand so many bytes
unfoldable pub legal_journal_json : ℕ → ℕ → List ℕ
legal_journal_json entries torn =
    labelled (codes "{\"entries\":") entries
    ++ (labelled (codes ",\"legal\":true,\"torn\":") torn ++ codes "}\n")
