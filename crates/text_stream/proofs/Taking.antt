-- The lines of bytes: where the first of them ends.
use Rattle.std.proofs.Common.{◌≡◌, ℕ, ◌+◌, ◌<◌, ◌≤◌, zero, suc, Bool, true, false, List, [], ◌∷◌, ◌++◌}
use Rattle.std.proofs.Common.{length, length-append, take, drop, get_or}
use Rattle.std.proofs.Common.{Option, None, Some, refl, sym, ap, subst, ◌∙◌, append_assoc, arith}
use Rattle.std.specs.Prelude.{◌≢◌, ◌==◌}
use Rattle.std.specs.Io.KnownBytes.{Consumes, IsAtEnd}
use Rattle.std.proofs.lemmas.List.{append-nil, take-append-drop, take_all, drop_more}
use Rattle.std.proofs.lemmas.Bool.{ne_eqb, eq-eqb, eqb-true}
use Rattle.memchr.specs.Find.{Nowhere, Passes, is_byte}
use Rattle.text_stream.specs.declared.TheConstants.{NEWLINE}
use Rattle.text_stream.specs.Lines.{IsWithinLine, lines_of, TakesLines}

-- no newline is among bytes and others behind them
pub IsWithinLine-append : (xs ys : List ℕ) → IsWithinLine xs → IsWithinLine ys → IsWithinLine (xs ++ ys)
IsWithinLine-append [] ys p q = q
IsWithinLine-append (x ∷ xs) ys p q = (p.0, IsWithinLine-append xs ys p.1 q)

-- no newline is among the bytes before a place at none of which one was found
pub IsWithinLine-before : (bytes : List ℕ) (n : ℕ) → Nowhere (Passes (is_byte NEWLINE) bytes) 0 n
    → IsWithinLine (take n bytes)
IsWithinLine-before bytes zero nowhere = tt
IsWithinLine-before [] (suc n) nowhere = tt
IsWithinLine-before (b ∷ bytes) (suc n) nowhere = (
  λ e. nowhere 0 (omega arith) (omega arith) (eq-eqb b NEWLINE e),
  IsWithinLine-before bytes n (λ k low high is. nowhere (suc k) (omega arith) (omega arith) is),
)

-- nor in bytes in which none was found
pub IsWithinLine-nowhere : (bytes : List ℕ) → Nowhere (Passes (is_byte NEWLINE) bytes) 0 (length bytes)
    → IsWithinLine bytes
IsWithinLine-nowhere bytes nowhere =
    subst IsWithinLine (take_all (length bytes) bytes (omega arith))
    (IsWithinLine-before bytes (length bytes) nowhere)

-- bytes with a newline at a place
pub at_newline : (bytes : List ℕ) (at : ℕ) → at < length bytes → Passes (is_byte NEWLINE) bytes at
    → bytes ≡ take at bytes ++ NEWLINE ∷ drop (at + 1) bytes
at_newline bytes at below is =
    sym (take-append-drop at bytes)
    ∙ ap (λ (l : List ℕ). take at bytes ++ l)
    (drop_more bytes at 0 below ∙ ap (λ (b : ℕ). b ∷ drop (at + 1) bytes) (eqb-true (get_or bytes at 0) NEWLINE is))

-- the line up to the first newline, and those of the bytes behind it
pub lines_of-line : (line rest : List ℕ) → IsWithinLine line
    → lines_of (line ++ NEWLINE ∷ rest) ≡ line ∷ lines_of rest
lines_of-line [] rest within = refl
lines_of-line (b ∷ line) rest within =
    let other : (b == NEWLINE) ≡ false = ne_eqb b NEWLINE within.0 in
    rw other (rw (lines_of-line line rest within.1) refl)

-- bytes with no newline behind them are a line
pub lines_of-last : (line : List ℕ) → line ≢ [] → IsWithinLine line → lines_of line ≡ line ∷ []
lines_of-last [] some within = absurd (some refl)
lines_of-last (b ∷ []) some within =
    let other : (b == NEWLINE) ≡ false = ne_eqb b NEWLINE within.0 in
    rw other refl
lines_of-last (b ∷ (d ∷ line)) some within =
    let other : (b == NEWLINE) ≡ false = ne_eqb b NEWLINE within.0 in
    rw other (rw (lines_of-last (d ∷ line) (λ e. cc) within.1) refl)

-- a line and its newline were taken
pub TakesLines-line : (before after : Option (List ℕ)) (line : List ℕ) → IsWithinLine line
    → Consumes before after (line ++ NEWLINE ∷ []) → TakesLines before (line ∷ []) after
TakesLines-line None after line within consumed = tt
TakesLines-line (Some text) None line within consumed = consumed
TakesLines-line (Some text) (Some rest) line within consumed =
    ap lines_of (consumed ∙ append_assoc line (NEWLINE ∷ []) rest) ∙ lines_of-line line rest within

-- the last line was taken, which no newline ends
pub TakesLines-last : (before after : Option (List ℕ)) (line : List ℕ) → IsWithinLine line → line ≢ []
    → Consumes before after line → IsAtEnd after → TakesLines before (line ∷ []) after
TakesLines-last None after line within some consumed ended = tt
TakesLines-last (Some text) None line within some consumed ended = consumed
TakesLines-last (Some text) (Some rest) line within some consumed ended =
    ap lines_of (consumed ∙ ap (λ r. line ++ r) ended ∙ append-nil line) ∙ lines_of-last line some within
    ∙ ap (λ r. line ∷ lines_of r) (sym ended)

-- bytes and those behind them begin with a line that begins with them, and this is left behind it
pub record FirstLine (front rest : List ℕ) : Type 0 where
  pub more : List ℕ
  pub left : List ℕ
  pub first : lines_of (front ++ rest) ≡ (front ++ more) ∷ lines_of left

some_bytes : (front : List ℕ) (b : ℕ) → (front ++ b ∷ []) ≢ []
some_bytes [] b e = cc
some_bytes (x ∷ front) b e = cc

first_byte : (front : List ℕ) (b : ℕ) (rest : List ℕ) (ends : Bool) → (b == NEWLINE) ≡ ends → IsWithinLine front
    → (b ≢ NEWLINE → FirstLine (front ++ b ∷ []) rest) → FirstLine front (b ∷ rest)
first_byte front b rest true is within next = record {
  more = [];
  left = rest;
  first = ap (λ (n : ℕ). lines_of (front ++ n ∷ rest)) (eqb-true b NEWLINE is) ∙ lines_of-line front rest within
      ∙ ap (λ (l : List ℕ). l ∷ lines_of rest) (sym (append-nil front));
}
first_byte front b rest false is within next =
    let one = next (λ e. let no : true ≡ false = sym (eq-eqb b NEWLINE e) ∙ is in cc) in
    record {
      more = b ∷ one.more;
      left = one.left;
      first = ap lines_of (sym (append_assoc front (b ∷ []) rest)) ∙ one.first
          ∙ ap (λ (l : List ℕ). l ∷ lines_of one.left) (append_assoc front (b ∷ []) one.more);
    }

FirstLine-of : (front rest : List ℕ) → front ≢ [] → IsWithinLine front → FirstLine front rest
FirstLine-of front [] some within = record {
  more = [];
  left = [];
  first = ap lines_of (append-nil front) ∙ lines_of-last front some within
      ∙ ap (λ (l : List ℕ). l ∷ []) (sym (append-nil front));
}
FirstLine-of front (b ∷ rest) some within =
    first_byte front b rest (b == NEWLINE) refl within (λ other. FirstLine-of (front ++ b ∷ []) rest
    (some_bytes front b) (IsWithinLine-append front (b ∷ []) within (other, tt)))

-- A line is the next one, which has no fewer bytes than these
pub record TakesLonger (before : Option (List ℕ)) (front : List ℕ) : Type 0 where
  pub line : List ℕ
  pub longer : length front ≤ length line
  pub after : Option (List ℕ)
  pub taken : TakesLines before (line ∷ []) after

-- bytes that were read, and have no newline, begin the next line
pub TakesLonger-of : (before left : Option (List ℕ)) (front : List ℕ) → front ≢ [] → IsWithinLine front
    → Consumes before left front → TakesLonger before front
TakesLonger-of None left front some within consumed =
    record { line = front; longer = omega arith; after = None; taken = tt }
TakesLonger-of (Some text) None front some within consumed = absurd consumed
TakesLonger-of (Some text) (Some rest) front some within consumed =
    let one = FirstLine-of front rest some within in
    record {
      line = front ++ one.more;
      longer = omega (arith, length-append front one.more);
      after = Some one.left;
      taken = ap lines_of consumed ∙ one.first;
    }
