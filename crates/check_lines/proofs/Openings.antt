-- The lines before an opening, and the number of its line.
use Rattle.std.proofs.Common.{◌≡◌, ℕ, ◌+◌, ◌-◌, ◌^◌, ◌<◌, ◌≤◌, Bool, true, false, List, [], ◌∷◌, ◌++◌, length}
use Rattle.std.proofs.Common.{Option, None, Some, Ok, Err, refl, sym, ap, subst, ◌∙◌, inl, inr, arith, length-append}
use Rattle.std.specs.Prelude.{IfOk}
use Rattle.std.proofs.Common.{Result, append_assoc}
use Rattle.std.proofs.lemmas.Bool.{lt-ltb}
use Rattle.text_stream.specs.declared.TheConstants.{MAX_LINE}
use Rattle.text_stream.specs.declared.Told.{Told}
use Rattle.text_stream.specs.declared.Told.TheVariants.{Line, Long}
use Rattle.text_stream.specs.Lines.{lines_of, TakesLines}
use Rattle.text_stream.specs.Told.{AtHand, untold, HasEnded, TellsNext, StopsLine}
use Rattle.text_stream.specs.declared.fault.TextFault.{TextFault}
use Rattle.text_stream.specs.declared.fault.TextFault.TheVariants.{Input, TooLong, NotJson, Shape, Config, Memory}
use Rattle.text_stream.specs.declared.fault.TextFault.TheVariants.{Output}
use Rattle.live_command.specs.Spoken.{is_spoken, spoken}
use Rattle.live_command.specs.Opening.{opening_of_line, PassesAll}
use Rattle.live_command.specs.Talk.{BeginsWith}
use Rattle.live_command.proofs.Saying.{spoken-append}
use Rattle.live_command.proofs.Talking.{TakesLines-none, TakesLines-trans, TakesLines-front}
use Rattle.live_command.proofs.OpeningFaults.{opens}
use Rattle.check_lines.proofs.Fronts.{prepend-none}
use Rattle.check_lines.specs.declared.opening.Opening.{Opening}
use Rattle.check_lines.specs.declared.opening.Opening.TheVariants.{Lawful, Faulty}
use Rattle.check_lines.specs.Opening.{HasTooManyLines, StopsLines, TellsNumbered, FindsOpening}
use Rattle.check_lines.specs.Opening.{IsOpening, OpensAt, FailsAt}

-- the input has ended behind lines that were taken
pub TakesLines-ended : (a b c : Option (List ℕ)) (xs : List (List ℕ)) → TakesLines a xs b → HasEnded b c
    → TakesLines a xs c
TakesLines-ended None b c xs takes ended = tt
TakesLines-ended (Some t) None c xs takes ended = absurd takes
TakesLines-ended (Some t) (Some u) None xs takes ended = absurd ended.2
TakesLines-ended (Some t) (Some u) (Some v) xs takes ended = takes ∙ ap (λ (l : List ℕ). xs ++ lines_of l) ended.2

-- behind lines that were taken no line more is told
pub StopsLines-line : (passed : ℕ) (unread mid left : Option (List ℕ)) (lines : List (List ℕ)) (fault : TextFault)
    → TakesLines unread lines mid → StopsLine mid left fault → StopsLines passed unread left fault
StopsLines-line passed unread mid left lines Input read stops = tt
StopsLines-line passed unread mid left lines TooLong read stops =
    inl (record { lines = lines; between = mid; read = read; none = stops.0; long = stops.1 })
StopsLines-line passed unread mid left lines NotJson read stops = absurd stops
StopsLines-line passed unread mid left lines (Shape n) read stops = absurd stops
StopsLines-line passed unread mid left lines (Config field) read stops = absurd stops
StopsLines-line passed unread mid left lines Memory read stops = absurd stops
StopsLines-line passed unread mid left lines Output read stops = absurd stops

-- so many lines were told, all of them blank
pub record Passes (unread left : Option (List ℕ)) (turns : ℕ) : Type 0 where
  pub blanks : List (List ℕ)
  pub blank : spoken blanks ≡ []
  pub read : TakesLines unread blanks left
  pub count : turns ≡ length blanks

-- none were told
pub Passes-none : (unread : Option (List ℕ)) → Passes unread unread 0
Passes-none unread = record { blanks = []; blank = refl; read = TakesLines-none unread; count = refl }

module _ (unread mid : Option (List ℕ)) (turns : ℕ) (passes : Passes unread mid turns) where
  -- one blank line more
  pub Passes-push : (left : Option (List ℕ)) (hand : AtHand) (told : Told) (spoken_is : Bool)
      → (next : TellsNext mid left hand told) → spoken_is ≡ is_spoken next.line → spoken_is ≡ false
      → Passes unread left (turns + 1)
  Passes-push left hand told spoken_is next same blank =
      let none : is_spoken next.line ≡ false = sym same ∙ blank in
      let one : spoken (next.line ∷ []) ≡ [] = rw none refl in
      record {
        blanks = passes.blanks ++ next.line ∷ [];
        blank = spoken-append passes.blanks (next.line ∷ [])
            ∙ ap (λ (l : List (List ℕ)). l ++ spoken (next.line ∷ [])) passes.blank ∙ one;
        read = TakesLines-trans unread mid left passes.blanks (next.line ∷ []) passes.read next.taken;
        count = omega (arith, passes.count, length-append passes.blanks (next.line ∷ []));
      }

  -- a line that is not blank
  pub TellsNumbered-told : (left : Option (List ℕ)) (hand : AtHand) (told : Told) (spoken_is : Bool)
      → (next : TellsNext mid left hand told) → spoken_is ≡ is_spoken next.line → spoken_is ≡ true
      → TellsNumbered unread left hand (turns + 1) told
  TellsNumbered-told left hand told spoken_is next same is = record {
    tells = record {
      blanks = passes.blanks;
      line = next.line;
      blank = passes.blank;
      between = mid;
      passed = passes.read;
      spoken_is = sym same ∙ is;
      taken = next.taken;
      is = next.is;
    };
    number_is = ap (λ (n : ℕ). n + 1) passes.count;
  }

  -- the end
  pub PassesAll-ended : (left : Option (List ℕ)) → HasEnded mid left → PassesAll unread left
  PassesAll-ended left ended = record {
    blanks = passes.blanks;
    blank = passes.blank;
    passed = TakesLines-ended unread mid left passes.blanks passes.read ended;
    ended = ended.1;
  }

  -- no line more
  pub Passes-stops : (left : Option (List ℕ)) (fault : TextFault) → StopsLine mid left fault
      → StopsLines 0 unread left fault
  Passes-stops left fault stops = StopsLines-line 0 unread mid left passes.blanks fault passes.read stops

  -- too many
  pub Passes-many : 2 ^ 64 - 1 ≤ turns → HasTooManyLines 0 unread
  Passes-many most = record {
    lines = passes.blanks;
    read = TakesLines-front unread mid passes.blanks passes.read;
    many = omega (arith, most, passes.count);
  }

opening_of_long : (line : List ℕ) → MAX_LINE < length line → opening_of_line line ≡ Err TooLong
unfolding opening_of_line
opening_of_long line long = rw (lt-ltb MAX_LINE (length line) long) refl

module _ (unread left : Option (List ℕ)) (hand : AtHand) (number : ℕ) where
  -- the line that was told is the opening
  pub FindsOpening-line : (opening : Opening) → TellsNumbered unread left hand number Line
      → IsOpening number hand.line opening → FindsOpening unread left opening
  FindsOpening-line (Lawful n) told is = record {
    config = is.1.0;
    opens = opens unread left hand (Ok is.1.0) told.tells is.1.1;
    number_is = is.0 ∙ told.number_is;
  }
  FindsOpening-line (Faulty fault None words) told is = absurd cc
  FindsOpening-line (Faulty fault (Some n) words) told is = record {
    left = left;
    opens = opens unread left hand (Err fault) told.tells is.1;
    number_is = (let same : n ≡ number = cc in same ∙ told.number_is);
  }

  -- so it is found, where memory did not run out
  pub FindsOpening-read : (shown : List ℕ) (r : Result Opening TextFault) → TellsNumbered unread left hand number Line
      → shown ≡ hand.line → IfOk r (IsOpening number shown) → IfOk r (FindsOpening unread left)
  FindsOpening-read shown (Ok opening) told same is =
      FindsOpening-line opening told (subst (λ (text : List ℕ). IsOpening number text opening) same is)
  FindsOpening-read shown (Err fault) told same is = tt

  -- a long line is too long for one
  pub FailsAt-long : TellsNumbered unread left hand number Long → FailsAt unread TooLong number
  FailsAt-long told = record {
    left = left;
    opens = record {
      blanks = told.tells.blanks;
      line = told.tells.line;
      blank = told.tells.blank;
      is = told.tells.spoken_is;
      taken = TakesLines-trans unread told.tells.between left told.tells.blanks (told.tells.line ∷ [])
          told.tells.passed told.tells.taken;
      says = opening_of_long told.tells.line told.tells.is;
    };
    number_is = told.number_is;
  }

-- the first lines behind others
BeginsWith-behind : (a b : Option (List ℕ)) (xs ys : List (List ℕ)) → TakesLines a xs b → BeginsWith b ys
    → BeginsWith a (xs ++ ys)
BeginsWith-behind None b xs ys takes begins = tt
BeginsWith-behind (Some t) None xs ys takes begins = absurd takes
BeginsWith-behind (Some t) (Some u) xs ys takes begins = (
  begins.0,
  takes ∙ ap (λ (l : List (List ℕ)). xs ++ l) begins.1 ∙ sym (append_assoc xs ys begins.0),
)

module _ (unread behind left : Option (List ℕ)) (lines : List (List ℕ)) (takes : TakesLines unread lines behind)
    (passed : ℕ) (count : passed ≡ length lines) where
  -- why lines behind others are not read to their end
  StopsLines-behind : (fault : TextFault) → StopsLines passed behind left fault → StopsLines 0 unread left fault
  StopsLines-behind Input stops = tt
  StopsLines-behind TooLong (inl endless) = inl (record {
    lines = lines ++ endless.lines;
    between = endless.between;
    read = TakesLines-trans unread behind endless.between lines endless.lines takes endless.read;
    none = endless.none;
    long = endless.long;
  })
  StopsLines-behind TooLong (inr many) = inr (record {
    lines = lines ++ many.lines;
    read = BeginsWith-behind unread behind lines many.lines takes many.read;
    many = omega (arith, many.many, count, length-append lines many.lines);
  })
  StopsLines-behind NotJson stops = absurd stops
  StopsLines-behind (Shape n) stops = absurd stops
  StopsLines-behind (Config field) stops = absurd stops
  StopsLines-behind Memory stops = tt
  StopsLines-behind Output stops = absurd stops

-- why lines behind an opening are not
pub StopsLines-opened : (unread behind left : Option (List ℕ)) (number : ℕ) (fault : TextFault)
    → OpensAt unread behind number → StopsLines number behind left fault → StopsLines 0 unread left fault
StopsLines-opened unread behind left number fault at stops =
    let lines = at.opens.blanks ++ at.opens.line ∷ [] in
    let count : number ≡ length lines = at.number_is ∙ sym (length-append at.opens.blanks (at.opens.line ∷ [])) in
    StopsLines-behind unread behind left lines at.opens.taken number count fault stops

-- of an input of which nothing was read before
pub StopsLines-new : (hand : AtHand) (known behind left : Option (List ℕ)) (number : ℕ) (fault : TextFault)
    → hand ≡ record { bytes = []; line = [] } → OpensAt (untold hand known) behind number
    → StopsLines number behind left fault → StopsLines 0 known left fault
StopsLines-new hand known behind left number fault none at stops =
    let same : untold hand known ≡ known = ap (λ (h : AtHand). untold h known) none ∙ prepend-none known in
    subst (λ (unread : Option (List ℕ)). StopsLines 0 unread left fault) same
    (StopsLines-opened (untold hand known) behind left number fault at stops)
