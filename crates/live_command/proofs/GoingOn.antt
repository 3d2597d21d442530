-- A conversation goes on behind what stands in front of it.
use Rattle.std.proofs.Common.{◌≡◌, ℕ, List, [], ◌∷◌, ◌++◌, length, Option, None, Some, Result, Ok, Err}
use Rattle.std.proofs.Common.{refl, sym, subst, inr, append_assoc, arith}
use Rattle.std.specs.Prelude.{IfErr, OnOk, MatchOption, MatchResult}
use Rattle.std.proofs.lemmas.List.{append-nil}
use Rattle.sched_calls.specs.declared.reply.Entry.{Entry}
use Rattle.sched_history.specs.Machine.{Machine}
use Rattle.text_stream.specs.declared.Told.{Told}
use Rattle.text_stream.specs.Lines.{TakesLines}
use Rattle.text_stream.specs.Told.{AtHand}
use Rattle.live_command.specs.declared.fault.LiveFault.{LiveFault}
use Rattle.live_command.specs.declared.wording.Wording.{Wording}
use Rattle.live_command.specs.declared.journal.BeginFault.{BeginFault}
use Rattle.live_command.specs.Spoken.{spoken}
use Rattle.live_command.specs.Answers.{SaysEach, Waiting, fresh}
use Rattle.live_command.specs.Going.{GoesFrom, ReadsFront, WentOn, EndsGoing}
use Rattle.live_command.specs.Talk.{start_at, Start, Talk, TellsOn, Conversed, Stopped, StopsTalk}
use Rattle.live_command.proofs.Saying.{SaysEach-spoken}
use Rattle.live_command.proofs.Talking.{Stopped-quiet, TakesLines-trans, TakesLines-front}
use Rattle.live_command.proofs.Turning.{Talk-start}

-- blank lines were passed, and nothing was said to them
pub Talk-passed : (s : Start) (m : Machine) (left after written : Option (List ℕ)) (stands : List Entry → Type 0)
    (blanks : List (List ℕ)) → Talk s 0 m left written stands fresh → spoken blanks ≡ []
    → TakesLines left blanks after → Talk s 0 m after written stands fresh
Talk-passed s m left after written stands blanks talk blank passed =
    let none : SaysEach s.config s.wording talk.now (spoken blanks) [] talk.now =
    subst (λ (l : List (List ℕ)). SaysEach s.config s.wording talk.now l [] talk.now) (sym blank) refl in
    let says = SaysEach-spoken s.config s.wording talk.point talk.more talk.answers talk.now blanks [] talk.now
    talk.says_more none in
    record {
      lines = talk.lines;
      texts = talk.texts;
      point = talk.point;
      says = talk.says;
      stood = talk.stood;
      out = talk.out;
      more = talk.more ++ blanks;
      answers = talk.answers;
      now = talk.now;
      says_more = subst (λ (l : List (List ℕ)). SaysEach s.config s.wording talk.point
          (spoken (talk.more ++ blanks)) l talk.now) (append-nil talk.answers) says;
      history = talk.history;
      waiting = talk.waiting;
      counted = talk.counted;
      read = subst (λ (l : List (List ℕ)). TakesLines s.unread l after)
          (append_assoc talk.lines talk.more blanks)
          (TakesLines-trans s.unread left after (talk.lines ++ talk.more) blanks talk.read passed);
      config = talk.config;
      handed = talk.handed;
      many = omega arith;
    }

-- the first line was told, or none was
abbrev pub Begins : Start → Machine → Option (List ℕ) → Option (List ℕ) → (List Entry → Type 0) → Waiting → AtHand
    → Option Told → Type 0
Begins s m left written stands waits hand told =
    MatchOption told (Talk s 0 m left written stands waits) (TellsOn s 0 m left written stands waits hand)

-- nothing more is written at all
pub begins_quiet : (s : Start) (m : Machine) (left written : Option (List ℕ)) (stands : List Entry → Type 0)
    (waits : Waiting) (hand : AtHand) (told : Option Told) → Begins s m left written stands waits hand told
    → Stopped s m.history written stands
begins_quiet s m left written stands waits hand None talk = Stopped-quiet s 0 m left written stands waits talk
begins_quiet s m left written stands waits hand (Some told) tells =
    Stopped-quiet s 0 m tells.between written stands waits tells.talk

module _ (wording : Wording) (m : Machine) (unread left : Option (List ℕ)) (hand : AtHand) where
  -- where the lines that are answered begin
  abbrev pub front_goes : (told : Option Told) → ReadsFront m.config unread left hand told
      → (behind : Option (List ℕ)) × GoesFrom m.config unread behind
  front_goes None passes = (passes.behind, passes.goes)
  front_goes (Some told) first = (
    unread,
    inr (
      inr (record {
        blanks = first.tells.blanks;
        line = first.tells.line;
        blank = first.tells.blank;
        spoken_is = first.tells.spoken_is;
        read = TakesLines-front unread left (first.tells.blanks ++ first.tells.line ∷ [])
            (TakesLines-trans unread first.tells.between left first.tells.blanks (first.tells.line ∷ [])
            first.tells.passed first.tells.taken);
        other = first.other;
      }),
      refl,
    ),
  )

  -- the conversation begins there
  pub front_begins : (written : Option (List ℕ)) (stands : List Entry → Type 0) (told : Option Told)
      → m.handed ≡ length m.history → stands m.history → (reads : ReadsFront m.config unread left hand told)
      → Begins (start_at wording m (front_goes told reads).0 written) m left written stands fresh hand told
  front_begins written stands None handed stood passes =
      Talk-passed (start_at wording m passes.behind written) m passes.behind left written stands passes.blanks
      (Talk-start wording m passes.behind written stands handed stood) passes.blank passes.passed
  front_begins written stands (Some told) handed stood first = record {
    line = first.tells.line;
    is = first.tells.is;
    between = first.tells.between;
    talk = Talk-passed (start_at wording m unread written) m unread first.tells.between written stands
        first.tells.blanks (Talk-start wording m unread written stands handed stood) first.tells.blank
        first.tells.passed;
    taken = first.tells.taken;
  }

module _ (wording : Wording) (old new : Machine) (unread behind before written : Option (List ℕ))
    (stands : List Entry → Type 0) (goes : GoesFrom old.config unread behind) where
  -- one whose input has ended
  pub goes_well : {A : Type 0} (left after : Option (List ℕ)) (r : Result A LiveFault)
      → MatchResult r (λ _. Conversed (start_at wording old behind before) new left written stands)
      (λ e. Stopped (start_at wording old behind before) new.history written stands
      × StopsTalk (start_at wording old behind before) new after written stands e)
      → OnOk r (WentOn wording old new unread left before written stands)
  goes_well left after (Ok x) conversed = record { behind = behind; goes = goes; conversed = conversed }
  goes_well left after (Err e) stopped = tt

  -- one that ends early
  pub goes_early : {A : Type 0} (left after : Option (List ℕ)) (refuses : BeginFault → Type 0)
      (may : List Entry → Type 0) (untouched quiet : Type 0) (r : Result A LiveFault)
      → MatchResult r (λ _. Conversed (start_at wording old behind before) new left written stands)
      (λ e. Stopped (start_at wording old behind before) new.history written stands
      × StopsTalk (start_at wording old behind before) new after written stands e)
      → IfErr r (EndsGoing wording old new unread after before written refuses may stands untouched quiet)
  goes_early left after refuses may untouched quiet (Ok x) conversed = tt
  goes_early left after refuses may untouched quiet (Err e) stopped = inr (inr (record {
    behind = behind;
    goes = goes;
    stopped = stopped.0;
    stops = stopped.1;
  }))
