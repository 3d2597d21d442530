-- How far the reading of a line has come.
use Rattle.std.proofs.Common.{◌≡◌, ℕ, ◌+◌, ◌-◌, ◌^◌, ◌<◌, ◌≤◌, min, Bool, true, false, List, [], ◌∷◌, ◌++◌}
use Rattle.std.proofs.Common.{length, take, drop}
use Rattle.std.proofs.Common.{◌⊎◌, inl, inr, Option, None, Some}
use Rattle.std.proofs.Common.{refl, sym, ap, subst, ◌∙◌, append_assoc, arith, length-append}
use Rattle.std.specs.Prelude.{IfSome}
use Rattle.std.specs.Io.KnownBytes.{Consumes, IsAtEnd, prepend_known}
use Rattle.std.proofs.lemmas.List.{append-nil}
use Rattle.memchr.specs.Find.{Nowhere, Passes, is_byte}
use Rattle.text_stream.proofs.Bytes.{Consumes-append}
use Rattle.text_stream.specs.declared.fault.TextFault.TheVariants.{TooLong}
use Rattle.text_stream.specs.declared.TheConstants.{NEWLINE, MAX_LINE}
use Rattle.text_stream.specs.declared.piece.Cut.{Cut}
use Rattle.text_stream.specs.Lines.{IsWithinLine, TakesLines}
use Rattle.text_stream.specs.declared.Told.{Told}
use Rattle.text_stream.specs.declared.Told.TheVariants.{Line, Long}
use Rattle.text_stream.specs.Told.{AtHand, untold, IsTold, TellsAtHand, TellsNext, TellsWhole, whole_of, IsWhole}
use Rattle.text_stream.specs.Told.{StopsReading}
use Rattle.text_stream.specs.Piece.{IsHeld, IsCut, IsLast, EndsAt, TellsCut, whole_from, whole_cut, FindsLine, Finds}
use Rattle.text_stream.proofs.Taking.{IsWithinLine-append, IsWithinLine-before, at_newline, TakesLines-line}
use Rattle.text_stream.proofs.Taking.{TakesLines-last}

-- so many reads gave the front of a line, which has so many bytes, and no newline
pub record Reads (before now : Option (List ℕ)) (is_long : Bool) (kept : List ℕ) (reads count : ℕ) : Type 0 where
  pub front : List ℕ
  pub within : IsWithinLine front
  pub consumed : Consumes before now front
  pub held : IsHeld front is_long kept
  pub many : reads ≤ length front
  pub counted : count ≡ min (length front) (2 ^ 64 - 1)

-- what is at hand is the front of a line
pub Consumes-held : (old : Option (List ℕ)) (held : List ℕ) → Consumes (prepend_known held old) old held
Consumes-held None held = tt
Consumes-held (Some text) held = refl

-- bytes that are consumed in front of others, which then are at hand
pub Consumes-part : (before now : Option (List ℕ)) (xs ys zs : List ℕ) → Consumes before now zs → zs ≡ xs ++ ys
    → Consumes before (prepend_known ys now) xs
Consumes-part None now xs ys zs consumed parts = tt
Consumes-part (Some text) None xs ys zs consumed parts = consumed
Consumes-part (Some text) (Some rest) xs ys zs consumed parts =
    consumed ∙ ap (λ (l : List ℕ). l ++ rest) parts ∙ append_assoc xs ys rest

-- a line that was told at hand has a newline behind it
pub TellsWhole-at_hand : (old new : AtHand) (remaining : Option (List ℕ)) (told : Told) → TellsAtHand old new told
    → TellsWhole (untold old remaining) (untold new remaining) new told
TellsWhole-at_hand old new remaining told tells =
    let line = tells.line in
    let parts : old.bytes ≡ (line ++ NEWLINE ∷ []) ++ new.bytes =
    tells.first ∙ sym (append_assoc line (NEWLINE ∷ []) new.bytes) in
    record {
      line = line;
      within = tells.within;
      taken = Consumes-part (untold old remaining) remaining (line ++ NEWLINE ∷ []) new.bytes old.bytes
          (Consumes-held remaining old.bytes) parts;
      is = tells.is;
    }

-- a line that a newline ends is the next line
pub TellsNext-whole : (before after : Option (List ℕ)) (new : AtHand) (told : Told) → TellsWhole before after new told
    → TellsNext before after new told
TellsNext-whole before after new told tells = record {
  line = tells.line;
  within = tells.within;
  taken = TakesLines-line before after tells.line tells.within tells.taken;
  is = tells.is;
}

takes_cut : (before after : Option (List ℕ)) (line : List ℕ) (torn : Option ℕ) → IsWithinLine line
    → EndsAt before after line torn → TakesLines before (line ∷ []) after
takes_cut before after line None within ends = TakesLines-line before after line within ends
takes_cut before after line (Some count) within ends =
    TakesLines-last before after line within ends.some ends.taken ends.ended

-- and so is one that was read
pub TellsNext-cut : (before after : Option (List ℕ)) (new : AtHand) (c : Cut) → TellsCut before after new c
    → TellsNext before after new c.told
TellsNext-cut before after new c tells = record {
  line = tells.line;
  within = tells.within;
  taken = takes_cut before after tells.line c.torn tells.within tells.ends;
  is = tells.is;
}

whole_told : (before after : Option (List ℕ)) (new : AtHand) (told : Told) → TellsWhole before after new told
    → IsWhole before after new (whole_of told)
whole_told before after new Line tells = tells
whole_told before after new Long tells = tells

whole_end : (before after : Option (List ℕ)) (new : AtHand) (told : Told) (line : List ℕ) (torn : Option ℕ)
    → IsWithinLine line → EndsAt before after line torn → IsTold line told new.line
    → IsWhole before after new (whole_from torn told)
whole_end before after new told line None within ends is =
    whole_told before after new told (record { line = line; within = within; taken = ends; is = is })
whole_end before after new told line (Some count) within ends is =
    record { bytes = line; within = within; taken = ends.taken; ended = ends.ended; count_is = ends.count_is }

-- what comes of a line that was told at hand
pub IsWhole-at_hand : (old new : AtHand) (remaining : Option (List ℕ)) (told : Told) → TellsAtHand old new told
    → IsWhole (untold old remaining) (untold new remaining) new (whole_of told)
IsWhole-at_hand old new remaining told tells =
    whole_told (untold old remaining) (untold new remaining) new told (TellsWhole-at_hand old new remaining told tells)

-- and of one that was read
pub IsWhole-cut : (before after : Option (List ℕ)) (new : AtHand) (c : Cut) → TellsCut before after new c
    → IsWhole before after new (whole_cut c)
IsWhole-cut before after new c tells =
    whole_end before after new c.told tells.line c.torn tells.within tells.ends tells.is

-- nothing but the end is left
none-consumed : (before left : Option (List ℕ)) → Consumes before left [] → IsAtEnd left → IsAtEnd before
none-consumed None left consumed ended = tt
none-consumed (Some text) None consumed ended = absurd consumed
none-consumed (Some text) (Some rest) consumed ended = consumed ∙ ended

-- and in front of it nothing is at hand
ended-with_none : (left : Option (List ℕ)) → IsAtEnd left → IsAtEnd (prepend_known [] left)
ended-with_none None ended = tt
ended-with_none (Some rest) ended = ended

module _ (before mid now : Option (List ℕ)) (is_long : Bool) (kept : List ℕ) (reads count : ℕ)
    (so_far : Reads before mid is_long kept reads count) where
  -- one piece more, without a newline
  pub Reads-push : (read : List ℕ) (longer : Bool) (held : List ℕ) (more : ℕ) → Consumes mid now read
      → IsWithinLine read → 0 < length read → more ≡ min (count + length read) (2 ^ 64 - 1)
      → ((front : List ℕ) → IsHeld front is_long kept → IsHeld (front ++ read) longer held)
      → Reads before now longer held (reads + 1) more
  Reads-push read longer held more consumed within some sum keeps = record {
    front = so_far.front ++ read;
    within = IsWithinLine-append so_far.front read so_far.within within;
    consumed = Consumes-append before mid now so_far.front read so_far.consumed consumed;
    held = keeps so_far.front so_far.held;
    many = omega (arith, length-append so_far.front read, so_far.many);
    counted = omega (arith, length-append so_far.front read, so_far.counted, sum);
  }

  -- a piece in which the line ends
  pub Reads-found : (read : List ℕ) (at : ℕ) (c : Cut) (held : List ℕ) → Consumes mid now read → at < length read
      → Nowhere (Passes (is_byte NEWLINE) read) 0 at → Passes (is_byte NEWLINE) read at
      → c.torn ≡ None
      → ((front : List ℕ) → IsHeld front is_long kept → IsCut (front ++ take at read) (drop (at + 1) read) held c)
      → FindsLine before now held c
  Reads-found read at c held consumed below none is whole cuts =
      let front = so_far.front in
      let line = front ++ take at read in
      let rest = drop (at + 1) read in
      let within = IsWithinLine-append front (take at read) so_far.within (IsWithinLine-before read at none) in
      let parts : front ++ read ≡ (line ++ NEWLINE ∷ []) ++ rest =
      ap (λ (l : List ℕ). front ++ l) (at_newline read at below is)
      ∙ sym (append_assoc front (take at read) (NEWLINE ∷ rest))
      ∙ sym (append_assoc line (NEWLINE ∷ []) rest) in
      let all = Consumes-append before mid now front read so_far.consumed consumed in
      record {
        line = line;
        within = within;
        rest = rest;
        ends = rw whole (Consumes-part before now (line ++ NEWLINE ∷ []) rest (front ++ read) all parts);
        is = cuts front so_far.held;
      }

  -- the end of the input
  pub Reads-ended : (c : Option Cut) → Consumes mid now [] → IsAtEnd now
      → IfSome c (λ c. c.torn ≡ Some count)
      → ((front : List ℕ) → IsHeld front is_long kept → IsLast front kept c)
      → Finds before now kept c
  Reads-ended None consumed ended torn lasts =
      let front = so_far.front in
      let is = lasts front so_far.held in
      let all = Consumes-append before mid now front [] so_far.consumed consumed in
      let none : front ++ [] ≡ [] = append-nil front ∙ is.0 in
      let over = Consumes-part before now [] [] [] (rw none at all) refl in
      (rw is.1 (none-consumed before now (rw none at all) ended, ended-with_none now ended, over), is.1)
  Reads-ended (Some c) consumed ended torn lasts =
      let front = so_far.front in
      let is = lasts front so_far.held in
      let all = Consumes-append before mid now front [] so_far.consumed consumed in
      record {
        line = front;
        within = so_far.within;
        rest = [];
        ends = rw torn (record {
          taken = Consumes-part before now front [] (front ++ []) all refl;
          ended = ended-with_none now ended;
          some = is.0;
          count_is = so_far.counted;
        });
        is = is.1;
      }

module _ (before mid : Option (List ℕ)) (is_long : Bool) (kept : List ℕ) (reads count : ℕ)
    (so_far : Reads before mid is_long kept reads count) where
  -- a line that is not long has few bytes so far
  pub Reads-few : is_long ≡ false → length so_far.front ≤ MAX_LINE
  Reads-few short = (subst (λ (long : Bool). IsHeld so_far.front long kept) short so_far.held).1

  -- so many reads that a number of 64 bits cannot count them
  pub Reads-stops : (reads_on : Bool) → (reads_on ≡ false → is_long ≡ false) → 2 ^ 64 - 1 ≤ reads
      → StopsReading reads_on before mid TooLong
  Reads-stops true short most = (
    record { bytes = so_far.front; consumed = so_far.consumed; within = so_far.within },
    omega (arith, so_far.many, most),
  )
  Reads-stops false short most = absurd (omega (arith, Reads-few (short refl), so_far.many, most))

  -- the line is long
  pub Reads-long : (reads_on : Bool) → reads_on ≡ false → is_long ≡ true → length so_far.front ≤ MAX_LINE + MAX_LINE
      → StopsReading reads_on before mid TooLong
  Reads-long true off long few = (let no : true ≡ false = off in cc)
  Reads-long false off long few =
      let held = subst (λ (long : Bool). IsHeld so_far.front long kept) long so_far.held in (
        record { bytes = so_far.front; consumed = so_far.consumed; within = so_far.within },
        (held.1, few),
      )

-- a line is not long where all of a long one would have been read
pub short_unless : (long reads_on : Bool) → ((long ≡ true) × (reads_on ≡ true)) ⊎ (long ≡ false) → reads_on ≡ false
    → long ≡ false
short_unless long reads_on (inl both) off = (let no : true ≡ false = sym both.1 ∙ off in cc)
short_unless long reads_on (inr short) off = short
