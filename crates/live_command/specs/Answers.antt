-- The answers to lines, and the history that their calls make.
use Rattle.std.specs.Prelude.{◌≡◌, ℕ, ◌<◌, ◌≤◌, List, [], ◌∷◌, ◌++◌, length, drop, flat_map, Option}
use Rattle.std.specs.Prelude.{None, Some, Result, Ok, Err}
use Rattle.minislots.specs.declared.config.Config.{Config}
use Rattle.sched_calls.specs.declared.call.Call.{Call}
use Rattle.sched_calls.specs.declared.reply.TheConstants.{MAX_WHOLE_HISTORY}
use Rattle.sched_calls.specs.declared.reply.Entry.{Entry}
use Rattle.sched_calls.specs.declared.reply.Unrecorded.TheVariants.{HistoryFull, Memory}
use Rattle.sched_history.specs.History.{IsStep}
use Rattle.sched_history.specs.Machine.{Machine, MayLackMemory}
use Rattle.sched_calls.specs.Reply.{Answer}
use Rattle.sched_lines.specs.Line.{line_of}
use Rattle.sched_lines.specs.Meaning.{explained_line}
use Rattle.sched_lines.specs.Framed.{framed_line}
use Rattle.sched_history.specs.Answer.{recorded}
use Rattle.sched_history.specs.Backlog.{backlog_of}
use Rattle.sched_history.specs.Life.{flows_of}
use Rattle.live_command.specs.declared.fault.LineFault.{LineFault}
use Rattle.live_command.specs.declared.wording.Wording.{Wording}
use Rattle.live_command.specs.declared.wording.Wording.TheVariants.{Plain, Explained, Frames}
use Rattle.live_command.specs.declared.asked.Asked.{Asked}
use Rattle.live_command.specs.declared.asked.Asked.TheVariants as asking
use Rattle.live_command.specs.declared.numbers.Numbers.{Numbers}
use Rattle.live_command.specs.Numbers.{AreNumbersOf, no_numbers}
use Rattle.live_command.specs.declared.standing.Standing.{Standing}
use Rattle.live_command.specs.Stats.{stats_line}
use Rattle.live_command.specs.Spoken.{spoken, asked_of_line, fault_line}

-- the line of an answer: plain; with what it means behind it where it is a refusal; or with the whole frame of its MAP,
-- from this address, where it has one
abbrev pub answer_line : Wording → Answer → List ℕ
answer_line Plain answer = line_of answer
answer_line Explained answer = explained_line answer
answer_line (Frames address) answer = framed_line address answer

-- the call may get this answer after the history, which is full only where it is as long as any may be
abbrev pub MayGet : Config → List Entry → Call → Answer → Type 0
MayGet c h call (Ok reply) = (length h < MAX_WHOLE_HISTORY) × IsStep c h call reply
MayGet c h call (Err HistoryFull) = MAX_WHOLE_HISTORY ≤ length h
MayGet c h call (Err Memory) = (length h < MAX_WHOLE_HISTORY) × MayLackMemory c h call

-- the history with the entry of a call that was recorded: it has seat 0, and its place in the history for a ticket
abbrev pub after : List Entry → Call → Answer → List Entry
after h call answer = h ++ recorded (length h) call answer

-- How far a conversation has come: the whole history, of which so many entries were there when it began, and so many
-- when its numbers were told last, or else when it began
pub record Point : Type 0 where
  pub history : List Entry
  pub begun : ℕ
  pub told : ℕ

-- where a conversation begins behind this history
abbrev pub point_at : List Entry → Point
point_at h = record { history = h; begun = length h; told = length h }

-- the entries since the beginning
abbrev pub since_start : Point → List Entry
since_start p = drop p.begun p.history

-- and since the numbers were told last
abbrev pub since_stats : Point → List Entry
since_stats p = drop p.told p.history

-- how a conversation stands: what waits for data grants of the flows that are live after its history, so many Reserves
-- that have lapsed, and so many bytes of its journal
abbrev pub standing_of : Config → List Entry → ℕ → ℕ → Standing
standing_of c h lapsed journal_bytes =
    record { backlog = backlog_of (flows_of c h); lapsed = lapsed; journal_bytes = journal_bytes }

-- the line has the numbers of the entries since the beginning, and of those since the numbers were told last, and how
-- the conversation stands
abbrev pub TellsNumbers : Config → Point → List ℕ → Type 0
TellsNumbers c p text = (total : Numbers) × (since : Numbers) × (lapsed : ℕ) × (written : ℕ)
    × AreNumbersOf total (since_start p) × AreNumbersOf since (since_stats p)
    × (text ≡ stats_line total since (standing_of c p.history lapsed written))

-- what is said to what a line asks for or its fault, and how far the conversation has come then
abbrev pub Says : Config → Wording → Point → Result Asked LineFault → List ℕ → Point → Type 0
Says c wording p (Ok (asking.Call call)) text new = (answer : Answer) × MayGet c p.history call answer
    × (text ≡ answer_line wording answer) × (new ≡ record p { history = after p.history call answer })
Says c wording p (Ok asking.Stats) text new =
    TellsNumbers c p text × (new ≡ record p { told = length p.history })
Says c wording p (Err fault) text new = (text ≡ fault_line fault) × (new ≡ p)

-- what is said to lines, one text to each in order, and how far the conversation has come then
abbrev pub SaysEach : Config → Wording → Point → List (List ℕ) → List (List ℕ) → Point → Type 0
SaysEach c wording p [] [] new = new ≡ p
SaysEach c wording p [] (text ∷ texts) new = ⊥
SaysEach c wording p (line ∷ lines) [] new = ⊥
SaysEach c wording p (line ∷ lines) (text ∷ texts) new = (mid : Point)
    × Says c wording p (asked_of_line line) text mid × SaysEach c wording mid lines texts new

-- the texts one behind the other
abbrev pub joined : List (List ℕ) → List ℕ
joined texts = flat_map (λ text. text) texts

-- what is said to what was heard of a line: nothing where nothing was heard
abbrev pub SaysHeard : Config → Wording → Point → Option (Result Asked LineFault) → List (List ℕ) → Point → Type 0
SaysHeard c wording p None texts new = (texts ≡ []) × (new ≡ p)
SaysHeard c wording p (Some asked) texts new =
    (text : List ℕ) × (texts ≡ text ∷ []) × Says c wording p asked text new

-- What waits to be written, and the numbers since the beginning and since they were told last
pub record Waiting : Type 0 where
  pub text : List ℕ
  pub total : Numbers
  pub since : Numbers

-- nothing waits, and nothing was counted
abbrev pub fresh : Waiting
fresh = record { text = []; total = no_numbers; since = no_numbers }

-- The numbers are those of the entries up to here
pub record IsCounted (p : Point) (b : Waiting) : Type 0 where
  pub total : AreNumbersOf b.total (since_start p)
  pub since : AreNumbersOf b.since (since_stats p)
  pub begun : p.begun ≤ length p.history
  pub told : p.told ≤ length p.history

-- the numbers were those of the entries up to here, and are those of them with the entry of a call that was recorded
abbrev pub Counted : List Entry → Call → Answer → Waiting → Waiting → Type 0
Counted h call answer old new = (p : Point) → p.history ≡ h → IsCounted p old
    → IsCounted (record p { history = after p.history call answer }) new

-- Something is said to what was heard of a line, or nothing
pub record SaysOne (wording : Wording) (heard : Option (Result Asked LineFault)) (p : Point) (old new : Machine)
    : Type 0 where
  pub texts : List (List ℕ)
  pub point : Point
  pub says : SaysHeard old.config wording p heard texts point
  pub history : point.history ≡ new.history
  pub state : new ≡ record old { history = new.history }

-- and it goes behind what waited
pub record AnswersHeard (wording : Wording) (heard : Option (Result Asked LineFault)) (p : Point) (old new : Machine)
    (before after : Waiting) : Type 0 where
  pub said : SaysOne wording heard p old new
  pub waits : after.text ≡ before.text ++ joined said.texts
  pub counted : IsCounted said.point after

-- Lines were answered, of which the blank ones are passed: what is said goes behind what waited
pub record AnswersLines (wording : Wording) (lines : List (List ℕ)) (p : Point) (old new : Machine)
    (before after : Waiting) : Type 0 where
  pub texts : List (List ℕ)
  pub point : Point
  pub says : SaysEach old.config wording p (spoken lines) texts point
  pub history : point.history ≡ new.history
  pub waits : after.text ≡ before.text ++ joined texts
  pub counted : IsCounted point after
  pub state : new ≡ record old { history = new.history }
