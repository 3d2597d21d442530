-- Lines before an opening.
use Rattle.std.proofs.Common.{◌≡◌, ℕ, ◌+◌, ◌-◌, ◌^◌, ◌≤◌, Bool, true, false, List, [], ◌∷◌, ◌++◌}
use Rattle.std.proofs.Common.{length, Option, None, Some}
use Rattle.std.proofs.Common.{refl, sym, ap, ◌∙◌, inl, arith, length-append}
use Rattle.text_stream.specs.declared.Told.{Told}
use Rattle.text_stream.specs.Lines.{lines_of, TakesLines}
use Rattle.text_stream.specs.Told.{AtHand, HasEnded, HasNoEnd, TellsNext, StopsReading}
use Rattle.text_stream.specs.declared.fault.TextFault.{TextFault}
use Rattle.text_stream.specs.declared.fault.TextFault.TheVariants.{Input, TooLong, NotJson, Shape, Config, Memory}
use Rattle.text_stream.specs.declared.fault.TextFault.TheVariants.{Output}
use Rattle.live_command.specs.Spoken.{is_spoken, spoken}
use Rattle.live_command.specs.Opening.{BreaksOffBefore, ComesTooMuchBefore, HasNoOpening, TellsSpoken, PassesAll}
use Rattle.live_command.specs.Opening.{StopsBefore}
use Rattle.live_command.proofs.Saying.{spoken-append}
use Rattle.live_command.proofs.Talking.{TakesLines-none, TakesLines-trans, TakesLines-front, TakesLines-all}

-- the input has ended behind lines that were taken
TakesLines-ended : (a b c : Option (List ℕ)) (xs : List (List ℕ)) → TakesLines a xs b → HasEnded b c
    → TakesLines a xs c
TakesLines-ended None b c xs takes ended = tt
TakesLines-ended (Some t) None c xs takes ended = absurd takes
TakesLines-ended (Some t) (Some u) None xs takes ended = absurd ended.2
TakesLines-ended (Some t) (Some u) (Some v) xs takes ended = takes ∙ ap (λ (l : List ℕ). xs ++ lines_of l) ended.2

-- all lines were blank, so there is no opening
pub HasNoOpening-passed : (unread left : Option (List ℕ)) → PassesAll unread left → HasNoOpening unread
HasNoOpening-passed unread left passes = record {
  blanks = passes.blanks;
  blank = passes.blank;
  read = TakesLines-all unread left passes.blanks passes.passed passes.ended;
}

-- so many lines were told, all of them blank
pub record PassesBlanks (unread left : Option (List ℕ)) (turns : ℕ) : Type 0 where
  pub blanks : List (List ℕ)
  pub blank : spoken blanks ≡ []
  pub read : TakesLines unread blanks left
  pub many : turns ≤ length blanks

-- none were told
pub PassesBlanks-none : (unread : Option (List ℕ)) → PassesBlanks unread unread 0
PassesBlanks-none unread = record { blanks = []; blank = refl; read = TakesLines-none unread; many = omega arith }

module _ (unread mid : Option (List ℕ)) (turns : ℕ) (passes : PassesBlanks unread mid turns) where
  -- one blank line more
  pub PassesBlanks-push : (left : Option (List ℕ)) (hand : AtHand) (told : Told) (spoken_is : Bool)
      → (next : TellsNext mid left hand told) → spoken_is ≡ is_spoken next.line → spoken_is ≡ false
      → PassesBlanks unread left (turns + 1)
  PassesBlanks-push left hand told spoken_is next same blank =
      let none : is_spoken next.line ≡ false = sym same ∙ blank in
      let one : spoken (next.line ∷ []) ≡ [] = rw none refl in
      record {
        blanks = passes.blanks ++ next.line ∷ [];
        blank = spoken-append passes.blanks (next.line ∷ [])
            ∙ ap (λ (l : List (List ℕ)). l ++ spoken (next.line ∷ [])) passes.blank ∙ one;
        read = TakesLines-trans unread mid left passes.blanks (next.line ∷ []) passes.read next.taken;
        many = omega (arith, passes.many, length-append passes.blanks (next.line ∷ []));
      }

  -- a line that is not blank
  pub PassesBlanks-told : (left : Option (List ℕ)) (hand : AtHand) (told : Told) (spoken_is : Bool)
      → (next : TellsNext mid left hand told) → spoken_is ≡ is_spoken next.line → spoken_is ≡ true
      → TellsSpoken unread left hand told
  PassesBlanks-told left hand told spoken_is next same is = record {
    blanks = passes.blanks;
    line = next.line;
    blank = passes.blank;
    between = mid;
    passed = passes.read;
    spoken_is = sym same ∙ is;
    taken = next.taken;
    is = next.is;
  }

  -- the end
  pub PassesBlanks-ended : (left : Option (List ℕ)) → HasEnded mid left → PassesAll unread left
  PassesBlanks-ended left ended = record {
    blanks = passes.blanks;
    blank = passes.blank;
    passed = TakesLines-ended unread mid left passes.blanks passes.read ended;
    ended = ended.1;
  }

  abbrev off : (left : Option (List ℕ)) → HasNoEnd mid left → BreaksOffBefore unread left
  off left none = record {
    blanks = passes.blanks;
    blank = passes.blank;
    between = mid;
    read = passes.read;
    none = none;
  }

  -- no line more
  pub PassesBlanks-stops : (reads_on : Bool) (left : Option (List ℕ)) (fault : TextFault)
      → StopsReading reads_on mid left fault → StopsBefore reads_on unread left fault
  PassesBlanks-stops reads_on left Input stops = off left stops
  PassesBlanks-stops reads_on left TooLong stops = inl (off left stops.0, stops.1)
  PassesBlanks-stops reads_on left NotJson stops = stops
  PassesBlanks-stops reads_on left (Shape n) stops = stops
  PassesBlanks-stops reads_on left (Config field) stops = stops
  PassesBlanks-stops reads_on left Memory stops = stops
  PassesBlanks-stops reads_on left Output stops = stops

  -- too many
  pub PassesBlanks-many : 2 ^ 64 - 1 ≤ turns → ComesTooMuchBefore unread
  PassesBlanks-many most = record {
    blanks = passes.blanks;
    blank = passes.blank;
    read = TakesLines-front unread mid passes.blanks passes.read;
    many = omega (arith, most, passes.many);
  }
