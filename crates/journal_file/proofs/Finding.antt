-- What is found in a file, from what was read of it.
use Rattle.std.proofs.Common.{◌≡◌, ◌≢◌, ◌⊎◌, ℕ, ◌+◌, ◌-◌, ◌^◌, ◌<◌, ◌≤◌, min, List, [], ◌∷◌, ◌++◌, length, Option}
use Rattle.std.proofs.Common.{None, Some, Bool, true, false, refl, sym, ap, ◌∙◌}
use Rattle.std.proofs.Common.{subst, append-nil, append_assoc, arith, inl, inr}
use Rattle.std.specs.Prelude.{◌&&◌, ◌||◌}
use Rattle.std.specs.Io.KnownBytes.{Consumes, IsAtEnd, prepend_known}
use Rattle.std.proofs.Math.Nat.{min-eq_left}
use Rattle.std.proofs.lemmas.List.{length-append}
use Rattle.sched_history.specs.Machine.{Machine}
use Rattle.text_stream.specs.declared.fault.TextFault.{TextFault}
use Rattle.text_stream.specs.declared.fault.TextFault.TheVariants.{Input, TooLong, NotJson, Shape, Config as Wrong}
use Rattle.text_stream.specs.declared.fault.TextFault.TheVariants.{Memory, Output}
use Rattle.text_stream.specs.declared.TheConstants.{NEWLINE}
use Rattle.text_stream.specs.Lines.{IsWithinLine}
use Rattle.text_stream.specs.Told.{IsTorn as IsLast, StopsLine}
use Rattle.journal_entries.specs.Judging.{Continues, StopsJournal}
use Rattle.journal_entries.specs.Standing.{ended_lines}
use Rattle.journal_file.specs.declared.place.Place.{Place}
use Rattle.journal_file.specs.declared.place.Place.TheVariants.{Unread, NoLine, Resumed, Whole, Failed}
use Rattle.journal_file.specs.Found.{HasNoLine, HasLine, IsEnd, IsFound, ContinuesTo, IsTooMuch}
use Rattle.journal_file.specs.Store.{HasLength, rest_at}

-- all bytes of a file that was read to its end
pub all_bytes : (text bytes : List ℕ) (left : Option (List ℕ)) → Consumes (rest_at 0 (Some text)) left bytes
    → IsAtEnd left → text ≡ bytes
all_bytes text bytes None taken ended = absurd taken
all_bytes text bytes (Some rest) taken ended = taken ∙ ap (λ (l : List ℕ). bytes ++ l) ended ∙ append-nil bytes

-- no byte
pub none_of : (bytes : List ℕ) → length bytes ≡ 0 → bytes ≡ []
none_of [] none = refl
none_of (b ∷ bytes) none = absurd (omega (arith, none))

-- nothing but bytes without a newline
pub no_line : (known left : Option (List ℕ)) (count : ℕ) → IsLast (prepend_known [] (rest_at 0 known)) left count
    → HasNoLine known
no_line None left count last = tt
no_line (Some text) left count last =
    subst IsWithinLine (sym (all_bytes text last.bytes left last.taken last.ended)) last.within

-- a newline that ends a line is among the bytes
no_newline : (line rest : List ℕ) → IsWithinLine (line ++ NEWLINE ∷ rest) → ⊥
no_newline [] rest within = within.0 refl
no_newline (b ∷ line) rest within = no_newline line rest within.1

newline_in : (text line : List ℕ) (left : Option (List ℕ)) → Consumes (Some text) left (line ++ NEWLINE ∷ [])
    → IsWithinLine text → ⊥
newline_in text line None taken within = absurd taken
newline_in text line (Some rest) taken within =
    let parts : text ≡ line ++ NEWLINE ∷ rest = taken ∙ append_assoc line (NEWLINE ∷ []) rest in
    no_newline line rest (subst IsWithinLine parts within)

-- so where a line was told that a newline ends
pub has_newline : (known left : Option (List ℕ)) (line : List ℕ)
    → Consumes (prepend_known [] (rest_at 0 known)) left (line ++ NEWLINE ∷ []) → HasLine known
has_newline None left line taken = tt
has_newline (Some text) left line taken = newline_in text line left taken

-- a file without a byte has no newline
pub no_byte : (known : Option (List ℕ)) (size : ℕ) → size ≡ 0 → HasLength known size → HasNoLine known
no_byte None size none long = tt
no_byte (Some text) size none long = subst IsWithinLine (sym (none_of text (sym long ∙ none))) tt

module _ (text front behind : List ℕ) (size torn : ℕ) (long : size ≡ length text) (parts : text ≡ front ++ behind)
    (count : torn ≡ min (length behind) (2 ^ 64 - 1)) where
  sum : length text ≡ length front + length behind
  sum = ap length parts ∙ length-append front behind

  -- how many bytes are torn, of a file whose length is a number of 64 bits
  exact : size < 2 ^ 64 → torn ≡ length behind
  exact small =
      let below : length behind ≤ 2 ^ 64 - 1 = omega (arith, sum, long, small) in
      count ∙ min-eq_left below

  -- no more than there are
  few : size < 2 ^ 64 → torn ≤ size
  few small = omega (arith, sum, long, exact small)

  -- where the whole lines end
  ends : size < 2 ^ 64 → (end : ℕ) → end + torn ≡ size → length front ≡ end
  ends small end is = omega (arith, sum, long, exact small, is)

-- where the whole lines of what was resumed end
pub continues_to : (known left : Option (List ℕ)) (size torn end : ℕ) (m : Machine) → HasLength known size
    → size < 2 ^ 64 → end + torn ≡ size → Continues (rest_at 0 known) left m torn → ContinuesTo known m end torn
continues_to None left size torn end m long small is on = (tt, on.handed)
continues_to (Some text) left size torn end m long small is on =
    let found = on.found in
    let front = ended_lines found.lines in
    let parts = all_bytes text (front ++ found.behind) left found.came.came.consumed found.came.ended in (
      (
        front,
        record { left = left; legal = found; front_is = refl },
        ends text front found.behind size torn long parts found.torn_is small end is,
      ),
      on.handed,
    )

-- what is found where a journal was resumed
pub found_to : (known left : Option (List ℕ)) (size torn entries : ℕ) (m : Machine) (place : Place)
    → HasLength known size → size < 2 ^ 64 → IsEnd entries size torn place → entries ≡ length m.history
    → Continues (rest_at 0 known) left m torn → IsFound known (Some m) place
found_to known left size torn entries m Unread long small ends many on = absurd ends
found_to known left size torn entries m (NoLine n) long small ends many on = absurd ends
found_to known left size torn entries m (Resumed count end behind) long small ends many on =
    let sum : end + torn ≡ size = ends.2 in (
      subst (λ (t : ℕ). ContinuesTo known m end t) (sym ends.1)
          (continues_to known left size torn end m long small sum on),
      ends.0 ∙ many,
    )
found_to known left size torn entries m Whole long small ends many on = absurd ends
found_to known left size torn entries m Failed long small ends many on = absurd ends

-- more bytes are torn than there are only where nothing is known of them
pub too_torn : (known left : Option (List ℕ)) (size torn : ℕ) (m : Machine) → HasLength known size → size < 2 ^ 64
    → size < torn → Continues (rest_at 0 known) left m torn → IsTooMuch known
too_torn None left size torn m long small more on = tt
too_torn (Some text) left size torn m long small more on =
    let found = on.found in
    let front = ended_lines found.lines in
    let parts = all_bytes text (front ++ found.behind) left found.came.came.consumed found.came.ended in
    absurd (omega (arith, more, few text front found.behind size torn long parts found.torn_is small))

-- one of two facts, the second
pub or_second : (a b : Bool) → b ≡ true → (a || b) ≡ true
or_second true b is = refl
or_second false b is = is

-- the second of two facts
pub and_second : (a b : Bool) → (a && b) ≡ true → b ≡ true
and_second true b is = is
and_second false true is = refl
and_second false false is = is

-- too much was read of a journal
too_much : (known left : Option (List ℕ)) → StopsJournal (rest_at 0 known) left TooLong → IsTooMuch known
too_much None left stops = tt
too_much (Some text) left stops = (left, stops)

-- a line has no end
endless : (known left : Option (List ℕ)) → StopsLine (prepend_known [] (rest_at 0 known)) left TooLong
    → IsTooMuch known
endless None left stops = tt
endless (Some text) left stops = (
  left,
  inr (record {
    lines = [];
    line = stops.0.bytes;
    came = record { consumed = stops.0.consumed; within = tt };
    within = stops.0.within;
    long = stops.1;
  }),
)

-- why a journal is not read to its end
pub stops_reading : (known left : Option (List ℕ)) (flag may : Bool) (fault : TextFault)
    → StopsJournal (rest_at 0 known) left fault → (fault ≡ Input → (flag && may) ≡ true) → fault ≢ Memory
    → (may ≡ true) ⊎ IsTooMuch known
stops_reading known left flag may Input stops failed other = inl (and_second flag may (failed refl))
stops_reading known left flag may TooLong stops failed other = inr (too_much known left stops)
stops_reading known left flag may NotJson stops failed other = absurd stops
stops_reading known left flag may (Shape n) stops failed other = absurd stops
stops_reading known left flag may (Wrong n) stops failed other = absurd stops
stops_reading known left flag may Memory stops failed other = absurd (other refl)
stops_reading known left flag may Output stops failed other = absurd stops

-- why no line is told
pub stops_line : (known left : Option (List ℕ)) (flag may : Bool) (fault : TextFault)
    → StopsLine (prepend_known [] (rest_at 0 known)) left fault → (fault ≡ Input → (flag && may) ≡ true)
    → (may ≡ true) ⊎ IsTooMuch known
stops_line known left flag may Input stops failed = inl (and_second flag may (failed refl))
stops_line known left flag may TooLong stops failed = inr (endless known left stops)
stops_line known left flag may NotJson stops failed = absurd stops
stops_line known left flag may (Shape n) stops failed = absurd stops
stops_line known left flag may (Wrong n) stops failed = absurd stops
stops_line known left flag may Memory stops failed = absurd stops
stops_line known left flag may Output stops failed = absurd stops
