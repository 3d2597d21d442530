-- What is found in the input of a conversation, and what is written of it.
use Rattle.std.specs.Prelude.{◌≡◌, ℕ, ◌+◌, ◌<◌, ◌≤◌, List, [], ◌∷◌, ◌++◌, length, map, take, Option, None, Some}
use Rattle.std.specs.Prelude.{Result, Ok, Err}
use Rattle.std.specs.Io.KnownBytes.{Appends, IsAtEnd}
use Rattle.sched_calls.specs.declared.call.Call.{Call}
use Rattle.text_stream.specs.Lines.{TakesLines}
use Rattle.text_stream.specs.declared.fault.TextFault.{TextFault}
use Rattle.text_stream.specs.declared.fault.TextFault.TheVariants.{Input, TooLong, NotJson, Shape, Config, Memory}
use Rattle.text_stream.specs.declared.fault.TextFault.TheVariants.{Output}
use Rattle.text_stream.specs.declared.run_fault.RunFault.{RunFault}
use Rattle.text_stream.specs.declared.run_fault.RunFault.TheVariants.{Text, Threads}
use Rattle.live_command.specs.declared.fault.LineFault.{LineFault}
use Rattle.live_command.specs.Talk.{AreLines}
use Rattle.check_lines.specs.declared.form.CheckForm.{CheckForm}
use Rattle.check_lines.specs.declared.told_line.ToldLine.{ToldLine}
use Rattle.check_lines.specs.declared.live.TheConstants.{MOST}
use Rattle.check_lines.specs.declared.live.Conversation.{Conversation}
use Rattle.check_lines.specs.declared.live.LiveReport.{LiveReport}
use Rattle.check_lines.specs.declared.live.LiveReport.TheVariants as report
use Rattle.check_lines.specs.declared.verdict.Verdict.{Verdict}
use Rattle.check_lines.specs.declared.verdict.Verdict.TheVariants as verdict
use Rattle.check_lines.specs.Bad.{BadLine, bad_of, bad_lines, call_lines}
use Rattle.check_lines.specs.Opening.{OpensAt, HasFaultyOpening, StopsLines}
use Rattle.check_lines.specs.Forms.{opening_as, talk_as}

-- There are so many calls and so many bad lines, and the first of these are told
pub record Counts (calls : List (List ℕ)) (bads : List BadLine) (talk : Conversation) : Type 0 where
  pub calls_are : talk.calls ≡ length calls
  pub bad_is : talk.bad ≡ length bads
  pub told_are : map bad_of talk.told.items ≡ take MOST bads

-- lines behind so many others were heard
abbrev pub HearsEach : ℕ → List (List ℕ) → Conversation → Type 0
HearsEach passed lines talk = Counts (call_lines lines) (bad_lines passed lines) talk

-- One more bad line was heard, and is told where not too many are
pub record HearsBad (number : ℕ) (fault : LineFault) (old new : Conversation) : Type 0 where
  pub calls_are : new.calls ≡ old.calls
  pub bad_is : new.bad ≡ old.bad + 1
  pub told_is : old.bad < MOST → (line : ToldLine) × (bad_of line ≡ record { number = number; fault = fault })
      × (new.told.items ≡ old.told.items ++ line ∷ [])
  pub untold : MOST ≤ old.bad → new.told.items ≡ old.told.items

-- what becomes of what was heard of the line of this number
abbrev pub Hears : ℕ → Option (Result Call LineFault) → Conversation → Conversation → Type 0
Hears number None old new = new ≡ old
Hears number (Some (Ok call)) old new = new ≡ record old { calls = old.calls + 1 }
Hears number (Some (Err fault)) old new = HearsBad number fault old new

-- The lines behind so many others were heard, up to here
pub record HearsSoFar (passed number : ℕ) (unread left : Option (List ℕ)) (talk : Conversation) : Type 0 where
  pub lines : List (List ℕ)
  pub read : TakesLines unread lines left
  pub number_is : number ≡ passed + length lines
  pub hears : HearsEach passed lines talk

-- All lines behind so many others were heard
pub record HearsAll (passed : ℕ) (unread left : Option (List ℕ)) (talk : Conversation) : Type 0 where
  pub lines : List (List ℕ)
  pub read : AreLines unread lines
  pub ended : IsAtEnd left
  pub hears : HearsEach passed lines talk

-- The opening is lawful, and all lines behind it were heard
pub record FindsTalk (unread left : Option (List ℕ)) (talk : Conversation) : Type 0 where
  pub number : ℕ
  pub behind : Option (List ℕ)
  pub opens : OpensAt unread behind number
  pub hears : HearsAll number behind left talk

-- what is found in the input of a conversation
abbrev pub FindsLive : Option (List ℕ) → Option (List ℕ) → LiveReport → Type 0
FindsLive unread left (report.Talk talk) = FindsTalk unread left talk
FindsLive unread left (report.Faulty fault place words) = HasFaultyOpening unread fault place

-- The lines of a conversation were read, and what was found in them was written in this form
pub record ChecksTalk (form : CheckForm) (unread left before after : Option (List ℕ)) (bad : ℕ)
    : Type 0 where
  pub talk : Conversation
  pub found : FindsTalk unread left talk
  pub bad_is : bad ≡ talk.bad
  pub written : Appends before after (talk_as form talk)

-- The opening of a conversation has this fault, and that was written in this form, with words
pub record ChecksOpening (form : CheckForm) (unread before after : Option (List ℕ)) (fault : TextFault)
    : Type 0 where
  pub place : Option ℕ
  pub found : HasFaultyOpening unread fault place
  pub words : List ℕ
  pub written : Appends before after (opening_as form fault place words)

-- the input of a conversation was read, and this is the verdict on it, which was written in this form
abbrev pub ChecksLive : CheckForm → Option (List ℕ) → Option (List ℕ) → Option (List ℕ) → Option (List ℕ) → Verdict
    → Type 0
ChecksLive form unread left before after (verdict.Document fault) = ⊥
ChecksLive form unread left before after (verdict.Journal end) = ⊥
ChecksLive form unread left before after (verdict.Opening fault) = ChecksOpening form unread before after fault
ChecksLive form unread left before after (verdict.Live bad) = ChecksTalk form unread left before after bad

-- the verdict on it
abbrev pub verdict_of : LiveReport → Verdict
verdict_of (report.Talk talk) = verdict.Live talk.bad
verdict_of (report.Faulty fault place words) = verdict.Opening fault

-- why the check of such an input ends: it is not read to its end, or memory or a write failed
abbrev pub StopsLive : Option (List ℕ) → Option (List ℕ) → RunFault → Type 0
StopsLive unread left (Text Input) = Unit {0}
StopsLive unread left (Text TooLong) = StopsLines 0 unread left TooLong
StopsLive unread left (Text NotJson) = ⊥
StopsLive unread left (Text (Shape n)) = ⊥
StopsLive unread left (Text (Config field)) = ⊥
StopsLive unread left (Text Memory) = Unit {0}
StopsLive unread left (Text Output) = Unit {0}
StopsLive unread left Threads = ⊥
