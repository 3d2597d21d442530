-- What stands in front of a conversation that goes on.
use Rattle.std.proofs.Common.{◌≡◌, ℕ, ◌<◌, ◌≤◌, Bool, true, false, List, [], length, Option, None, Some}
use Rattle.std.proofs.Common.{Result, Ok, Err, refl, sym, ap, subst, ◌∙◌, inl, inr}
use Rattle.std.specs.Prelude.{◌≢◌, IfOk, IfErr}
use Rattle.std.proofs.lemmas.Bool.{le-ltb, lt-ltb}
use Rattle.minislots.specs.declared.config.Config.{Config as Configuration}
use Rattle.minislots.specs.declared.config.ConfigFault.{ConfigFault}
use Rattle.minislots.specs.Config.{first_wrong}
use Rattle.text_stream.specs.declared.TheConstants.{MAX_LINE}
use Rattle.text_stream.specs.declared.Told.{Told}
use Rattle.text_stream.specs.declared.Told.TheVariants.{Line, Long}
use Rattle.text_stream.specs.Told.{AtHand}
use Rattle.text_stream.specs.declared.fault.TextFault.{TextFault}
use Rattle.text_stream.specs.declared.fault.TextFault.TheVariants.{Input, TooLong, NotJson, Shape, Config, Memory}
use Rattle.text_stream.specs.declared.fault.TextFault.TheVariants.{Output}
use Rattle.text_stream.specs.Outcome.{◌>>=◌, unless_wrong}
use Rattle.text_stream.specs.Watched.{FailsBy}
use Rattle.text_stream.proofs.Outcome.{IsOfText}
use Rattle.live_command.specs.declared.fault.LiveFault.{LiveFault}
use Rattle.live_command.specs.declared.fault.LiveFault.TheVariants.{Text, Journal, OtherConfig, BadJournal}
use Rattle.live_command.specs.declared.said.Said.{Said}
use Rattle.live_command.specs.declared.said.Said.TheVariants as saying
use Rattle.live_command.specs.Said.{said_in}
use Rattle.live_command.specs.Opening.{config_said, opening_in, TellsSpoken, PassesAll, StopsBefore}
use Rattle.live_command.specs.Going.{says_config, is_opening, OpensAgain, StopsGoing, IsFront, Misses}
use Rattle.live_command.specs.Going.{MissesFront, ReadsFront, TellsFirst, PassesFront}
use Rattle.live_command.proofs.OpeningFaults.{opens, of_text, faults-opening_in}
use Rattle.live_command.proofs.OpeningLines.{HasNoOpening-passed}
use Rattle.live_command.proofs.Talking.{TakesLines-none}

is_opening-short : (line : List ℕ) → length line ≤ MAX_LINE → is_opening line ≡ says_config (said_in line)
unfolding is_opening
is_opening-short line short = rw (le-ltb MAX_LINE (length line) short) refl

is_opening-long : (line : List ℕ) → MAX_LINE < length line → is_opening line ≡ false
unfolding is_opening
is_opening-long line long = rw (lt-ltb MAX_LINE (length line) long) refl

lawful-json : (wrong : Option ConfigFault) (config : Configuration) → unless_wrong wrong config ≢ Err NotJson
lawful-json None config is = cc
lawful-json (Some field) config is = cc

-- a text that says a configuration is JSON
says-json : (r : Result Said TextFault) → says_config r ≡ true
    → (r >>= (λ said. config_said said >>= (λ config. unless_wrong (first_wrong config) config))) ≢ Err NotJson
says-json (Ok (saying.Opening (Some config))) says is = lawful-json (first_wrong config) config is
says-json (Ok (saying.Opening None)) says is = cc
says-json (Ok saying.Stats) says is = (let no : false ≡ true = says in cc)
says-json (Ok (saying.Call call)) says is = (let no : false ≡ true = says in cc)
says-json (Err fault) says is = (let no : false ≡ true = says in cc)

opening-json : (line : List ℕ) → says_config (said_in line) ≡ true → opening_in line ≢ Err NotJson
unfolding opening_in
opening-json line says is = says-json (said_in line) says is

module _ (config : Configuration) (unread left : Option (List ℕ)) (hand : AtHand) where
  again : (outcome : Result Configuration TextFault) → TellsSpoken unread left hand Line
      → says_config (said_in hand.line) ≡ true → opening_in hand.line ≡ outcome → OpensAgain unread left outcome
  again outcome tells says is =
      let same : is_opening tells.line ≡ says_config (said_in hand.line) =
      is_opening-short tells.line tells.is.1 ∙ ap (λ (l : List ℕ). says_config (said_in l)) (sym tells.is.0) in
      record { opens = opens unread left hand outcome tells is; is = same ∙ says }

  -- the first line was told, or it is the opening
  front_read : (told : Option Told) → TellsSpoken unread left hand Line → IsFront config hand.line told
      → ReadsFront config unread left hand told
  front_read None tells is = record {
    behind = left;
    goes = inl (again (Ok config) tells is.0 is.1);
    blanks = [];
    blank = refl;
    passed = TakesLines-none left;
  }
  front_read (Some Line) tells is = record {
    tells = tells;
    other = is_opening-short tells.line tells.is.1 ∙ ap (λ (l : List ℕ). says_config (said_in l)) (sym tells.is.0) ∙ is;
  }
  front_read (Some Long) tells is = absurd is

  -- so what stands in front was read, where there is no fault
  pub reads_front : (r : Result (Option Told) LiveFault) → TellsSpoken unread left hand Line
      → IfOk r (IsFront config hand.line) → IfOk r (ReadsFront config unread left hand)
  reads_front (Ok told) tells is = front_read told tells is
  reads_front (Err fault) tells is = tt

  -- a long line was told
  pub front_long : TellsSpoken unread left hand Long → TellsFirst unread left hand Long
  front_long tells = record { tells = tells; other = is_opening-long tells.line tells.is }

  -- or there is none
  pub front_none : PassesAll unread left → PassesFront config unread left
  front_none passes = record {
    behind = unread;
    goes = inr (inl (HasNoOpening-passed unread left passes), refl);
    blanks = passes.blanks;
    blank = passes.blank;
    passed = passes.passed;
  }

  misses : (after : Option (List ℕ)) (fault : TextFault) → TellsSpoken unread left hand Line
      → says_config (said_in hand.line) ≡ true → (fault ≢ Memory → opening_in hand.line ≡ Err fault)
      → StopsGoing config unread after (Text fault)
  misses after Input tells says gives = absurd (of_text unread left hand Input (gives (λ e. cc)))
  misses after TooLong tells says gives = absurd (of_text unread left hand TooLong (gives (λ e. cc)))
  misses after NotJson tells says gives = absurd (opening-json hand.line says (gives (λ e. cc)))
  misses after (Shape n) tells says gives = (left, again (Err (Shape n)) tells says (gives (λ e. cc)))
  misses after (Config field) tells says gives = (left, again (Err (Config field)) tells says (gives (λ e. cc)))
  misses after Memory tells says gives = tt
  misses after Output tells says gives = absurd (of_text unread left hand Output (gives (λ e. cc)))

  missed : (after : Option (List ℕ)) (fault : LiveFault) → TellsSpoken unread left hand Line
      → says_config (said_in hand.line) ≡ true → Misses config hand.line fault → StopsGoing config unread after fault
  missed after (Text fault) tells says why = misses after fault tells says why
  missed after Journal tells says why = absurd why
  missed after (OtherConfig difference) tells says why =
      (why.0, why.1, why.2, (left, again (Ok why.0) tells says why.3))
  missed after (BadJournal n) tells says why = absurd why

  missed_front : (after : Option (List ℕ)) (fault : LiveFault) → TellsSpoken unread left hand Line
      → MissesFront config hand.line fault → StopsGoing config unread after fault
  missed_front after fault tells (inl is) = subst (StopsGoing config unread after) (sym is) tt
  missed_front after fault tells (inr why) = missed after fault tells why.0 why.1

  -- or it is an opening with a fault, or with another configuration
  pub misses_front : (after : Option (List ℕ)) (r : Result (Option Told) LiveFault) → TellsSpoken unread left hand Line
      → IfErr r (MissesFront config hand.line) → IfErr r (StopsGoing config unread after)
  misses_front after (Ok told) tells is = tt
  misses_front after (Err fault) tells is = missed_front after fault tells is

-- no line came
pub stops_before : (config : Configuration) (unread left : Option (List ℕ)) (fault : TextFault)
    → StopsBefore true unread left fault → StopsGoing config unread left (Text fault)
stops_before config unread left Input stops = stops
stops_before config unread left TooLong stops = stops
stops_before config unread left NotJson stops = stops
stops_before config unread left (Shape n) stops = absurd stops
stops_before config unread left (Config field) stops = absurd stops
stops_before config unread left Memory stops = absurd stops
stops_before config unread left Output stops = stops

-- no read failed there
not_input : (config : Configuration) (line : List ℕ) (fault : LiveFault) → MissesFront config line fault
    → fault ≢ Text Input
not_input config line fault (inl is) input = (let no : Text Input ≡ Text Memory = sym input ∙ is in cc)
not_input config line fault (inr why) input =
    let misses : Misses config line (Text Input) = subst (Misses config line) input why.1 in
    absurd (subst (λ (r : Result Configuration TextFault). IfErr r IsOfText) (misses (λ e. cc))
    (faults-opening_in line))

-- a fault of what stands in front is never that a read failed
pub unfailed_front : (config : Configuration) (line : List ℕ) (r : Result (Option Told) LiveFault)
    → IfErr r (MissesFront config line) → (before after : Bool) → after ≡ before
    → FailsBy (Text Input) r before after
unfailed_front config line (Ok told) why before after same = same
unfailed_front config line (Err fault) why before after same = λ is. absurd (not_input config line fault why is)
