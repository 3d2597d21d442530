-- Worked rows: what of some lines is decoded, and what is shown and said of some.
use Rattle.std.proofs.Common.{◌≡◌, true, false, [], ◌∷◌, codes, None, Some, refl, append-nil}
use Rattle.decode_command.specs.Asked.{is_other_answer, asked_of}
use Rattle.decode_command.specs.Line.{said_line}
use Rattle.decode_command.specs.Lines.{separated, said_from, are_well}

-- the payload behind the word `map`
pub line_of_a_map : asked_of (codes "map 0301") ≡ Some (codes "0301")
unfolding is_other_answer
line_of_a_map = refl

-- a payload alone, with white space around it
pub payload_alone : asked_of (codes "  0301 ") ≡ Some (codes "0301")
unfolding is_other_answer
payload_alone = refl

-- nothing behind the word
pub map_alone : asked_of (codes "map") ≡ Some []
unfolding is_other_answer
map_alone = refl

-- an answer with its numbers
pub line_of_an_admission : asked_of (codes "admitted 840 4") ≡ None
unfolding is_other_answer
line_of_an_admission = refl

pub line_of_a_change : asked_of (codes "changed 844 4") ≡ None
unfolding is_other_answer
line_of_a_change = refl

-- an answer of two words
pub line_of_a_full_history : asked_of (codes "history full") ≡ None
unfolding is_other_answer
line_of_a_full_history = refl

-- a line that only begins as an answer
pub no_answer : asked_of (codes "flows 1") ≡ Some (codes "flows 1")
unfolding is_other_answer
no_answer = refl

pub empty_line : asked_of [] ≡ None
unfolding is_other_answer
empty_line = refl

-- an empty line stands between two
pub two_tables : separated (codes "a\n" ∷ codes "b\n" ∷ []) ≡ codes "a\n\nb\n"
two_tables = refl

-- one that was passed over, one that was shown and one that is wrong
pub third_line : said_from 1 (None ∷ Some (true, codes "a\n") ∷ Some (false, codes "fault hex\n") ∷ [])
    ≡ said_line 3 (codes "fault hex\n")
third_line = append-nil (said_line 3 (codes "fault hex\n"))

pub one_is_wrong : are_well (None ∷ Some (false, codes "fault hex\n") ∷ Some (true, codes "a\n") ∷ []) ≡ false
one_is_wrong = refl

pub none_is_wrong : are_well (None ∷ Some (true, codes "a\n") ∷ []) ≡ true
none_is_wrong = refl
