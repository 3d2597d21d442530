-- What an opening says, and its faults.
use Rattle.std.proofs.Common.{◌≡◌, ℕ, ◌<◌, ◌≤◌, List, [], ◌∷◌, length, Option, None, Some, Result}
use Rattle.std.proofs.Common.{Ok, Err, refl, ap, subst, sym}
use Rattle.std.proofs.Common.{◌∙◌, false, inl, inr, arith}
use Rattle.std.specs.Prelude.{◌≢◌, IfOk, IfErr}
use Rattle.std.proofs.lemmas.Bool.{le-ltb, lt-ltb}
use Rattle.minislots.specs.declared.config.Config.{Config as Configuration}
use Rattle.minislots.specs.Config.{first_wrong}
use Rattle.text_stream.specs.declared.TheConstants.{MAX_LINE}
use Rattle.text_stream.specs.declared.Told.TheVariants.{Line, Long}
use Rattle.text_stream.specs.Told.{AtHand, IsTooMuch}
use Rattle.text_stream.specs.declared.fault.TextFault.{TextFault}
use Rattle.text_stream.specs.declared.fault.TextFault.TheVariants.{Input, TooLong, NotJson, Shape, Config, Memory}
use Rattle.text_stream.specs.declared.fault.TextFault.TheVariants.{Output}
use Rattle.text_stream.specs.Input.{Gives, value_of}
use Rattle.text_stream.specs.Outcome.{◌>>=◌, unless_wrong}
use Rattle.text_stream.proofs.Outcome.{IsOfText, faults-bind, faults-value_of, faults-unless_wrong}
use Rattle.live_command.specs.declared.said.Said.{Said}
use Rattle.live_command.specs.declared.said.Said.TheVariants as saying
use Rattle.live_command.specs.Said.{said_by, said_in}
use Rattle.live_command.proofs.Talking.{TakesLines-trans}
use Rattle.live_command.specs.Opening.{config_said, opening_in, opening_of_line, Opens, TellsSpoken, StopsOpening}
use Rattle.live_command.specs.Opening.{BreaksOffBefore, OpensWith, StopsBefore}
use Rattle.live_command.proofs.Saying.{spoken_long}
use Rattle.text_stream.proofs.Taking.{TakesLonger-of}

faults-said_in : (bytes : List ℕ) → IfErr (said_in bytes) IsOfText
unfolding said_in
faults-said_in bytes = faults-bind (value_of bytes) (λ d. Ok (said_by d)) (faults-value_of bytes) (λ d. tt)

faults-config_said : (said : Said) → IfErr (config_said said) IsOfText
faults-config_said (saying.Opening (Some config)) = tt
faults-config_said (saying.Opening None) = tt
faults-config_said saying.Stats = tt
faults-config_said (saying.Call call) = tt

-- an opening is not JSON, has a fault of shape, or a wrong configuration
pub faults-opening_in : (bytes : List ℕ) → IfErr (opening_in bytes) IsOfText
unfolding opening_in
faults-opening_in bytes =
    faults-bind (said_in bytes)
    (λ said. config_said said >>= (λ config. unless_wrong (first_wrong config) config)) (faults-said_in bytes)
    (λ said. faults-bind (config_said said) (λ config. unless_wrong (first_wrong config) config)
    (faults-config_said said) (λ config. faults-unless_wrong (first_wrong config) config))

-- a line that is not too long is read as an opening
pub opening_of_short : (line : List ℕ) → length line ≤ MAX_LINE → opening_of_line line ≡ opening_in line
unfolding opening_of_line
opening_of_short line short = rw (le-ltb MAX_LINE (length line) short) refl

opening_of_long : (line : List ℕ) → MAX_LINE < length line → opening_of_line line ≡ Err TooLong
unfolding opening_of_line
opening_of_long line long = rw (lt-ltb MAX_LINE (length line) long) refl

module _ (unread left : Option (List ℕ)) (hand : AtHand) where
  -- the opening is the line that was told, and was read
  abbrev pub opens : (outcome : Result Configuration TextFault) → TellsSpoken unread left hand Line
      → opening_in hand.line ≡ outcome → Opens unread left outcome
  opens outcome tells says = record {
    blanks = tells.blanks;
    line = tells.line;
    blank = tells.blank;
    is = tells.spoken_is;
    taken = TakesLines-trans unread tells.between left tells.blanks (tells.line ∷ []) tells.passed tells.taken;
    says = opening_of_short tells.line tells.is.1 ∙ ap opening_in (sym tells.is.0) ∙ says;
  }

  -- the line that was told is a lawful opening
  pub opens_well : (r : Result Configuration TextFault) → TellsSpoken unread left hand Line
      → Gives (λ config. config) r (opening_in hand.line) → IfOk r (λ config. Opens unread left (Ok config))
  opens_well (Ok config) tells gives = opens (Ok config) tells gives
  opens_well (Err fault) tells gives = tt

  -- a fault of an opening is one of a text
  pub of_text : (fault : TextFault) → opening_in hand.line ≡ Err fault → IsOfText fault
  of_text fault e = subst (λ (r : Result Configuration TextFault). IfErr r IsOfText) e (faults-opening_in hand.line)

  stops : (after : Option (List ℕ)) (fault : TextFault) → TellsSpoken unread left hand Line
      → (fault ≢ Memory → opening_in hand.line ≡ Err fault) → StopsOpening unread after fault
  stops after Input tells gives = absurd (of_text Input (gives (λ e. cc)))
  stops after TooLong tells gives = absurd (of_text TooLong (gives (λ e. cc)))
  stops after NotJson tells gives = inl (left, opens (Err NotJson) tells (gives (λ e. cc)))
  stops after (Shape n) tells gives = (left, opens (Err (Shape n)) tells (gives (λ e. cc)))
  stops after (Config field) tells gives = (left, opens (Err (Config field)) tells (gives (λ e. cc)))
  stops after Memory tells gives = tt
  stops after Output tells gives = absurd (of_text Output (gives (λ e. cc)))

  -- or it has a fault
  pub opens_badly : (after : Option (List ℕ)) (r : Result Configuration TextFault)
      → TellsSpoken unread left hand Line → Gives (λ config. config) r (opening_in hand.line)
      → IfErr r (StopsOpening unread after)
  opens_badly after (Ok config) tells gives = tt
  opens_badly after (Err fault) tells gives = stops after fault tells gives

  -- a long line is too long for one
  pub opens_long : TellsSpoken unread left hand Long → Opens unread left (Err TooLong)
  opens_long tells = record {
    blanks = tells.blanks;
    line = tells.line;
    blank = tells.blank;
    is = tells.spoken_is;
    taken = TakesLines-trans unread tells.between left tells.blanks (tells.line ∷ []) tells.passed tells.taken;
    says = opening_of_long tells.line tells.is;
  }

-- what was read of a line is too long for an opening
long_opening : (unread left : Option (List ℕ)) (off : BreaksOffBefore unread left) → IsTooMuch false off.none.bytes
    → OpensWith unread TooLong
long_opening unread left off much =
    let none = off.none in
    let next = TakesLonger-of off.between left none.bytes (λ e. absurd (omega (arith, ap length e, much.0)))
    none.within none.consumed in
    let long : MAX_LINE < length next.line = omega (arith, much.0, next.longer) in (
      next.after,
      record {
        blanks = off.blanks;
        line = next.line;
        blank = off.blank;
        is = spoken_long next.line long;
        taken = TakesLines-trans unread off.between next.after off.blanks (next.line ∷ []) off.read next.taken;
        says = opening_of_long next.line long;
      },
    )

-- no opening was told
pub stops_opening : (unread left : Option (List ℕ)) (fault : TextFault) → StopsBefore false unread left fault
    → StopsOpening unread left fault
stops_opening unread left Input stops = stops
stops_opening unread left TooLong (inl off) = inl (long_opening unread left off.0 off.1)
stops_opening unread left TooLong (inr many) = inr (inr many)
stops_opening unread left NotJson stops = absurd stops
stops_opening unread left (Shape n) stops = absurd stops
stops_opening unread left (Config field) stops = absurd stops
stops_opening unread left Memory stops = absurd stops
stops_opening unread left Output stops = absurd stops
