-- What a refusal means, in words behind its line.
use Rattle.std.specs.Prelude.{ℕ, List, [], ◌∷◌, ◌++◌, codes, decimal, Option, Some, None, Ok, Err}
use Rattle.sched_calls.specs.declared.spec.FlowFault.{FlowFault}
use Rattle.sched_calls.specs.declared.spec.FlowFault.TheVariants.{Size, IntervalNotWhole, IntervalNotFrames}
use Rattle.sched_calls.specs.declared.spec.FlowFault.TheVariants.{IntervalNotInCycle, Priority, Burst, Grants}
use Rattle.sched_calls.specs.declared.spec.FlowFault.TheVariants as faults
use Rattle.sched_calls.specs.declared.call.TheConstants.{MAX_RESERVES}
use Rattle.sched_calls.specs.declared.reply.Refusal.{Refusal}
use Rattle.sched_calls.specs.declared.reply.Refusal.TheVariants.{BadSid, SidLive, BadFlow, FlowsFull, PeriodicFull}
use Rattle.sched_calls.specs.declared.reply.Refusal.TheVariants.{NoPlace, NoFlow, NotAsking, BadReceiver, BadBytes}
use Rattle.sched_calls.specs.declared.reply.Refusal.TheVariants.{Acked, Ahead, Backwards, BadClock, TooEarly, Late}
use Rattle.sched_calls.specs.declared.reply.Refusal.TheVariants.{NotLate, BadLength, ReservesFull, BadBackoff}
use Rattle.sched_calls.specs.declared.reply.Refusal.TheVariants.{OtherKind, NotUnsolicited, TooShort}
use Rattle.sched_calls.specs.declared.reply.Reply.{Reply}
use Rattle.sched_calls.specs.declared.reply.Reply.TheVariants.{Admitted, Removed, Taken, Noted, Built, Skipped, Flow}
use Rattle.sched_calls.specs.declared.reply.Reply.TheVariants.{Reserved, Refused, Changed}
use Rattle.sched_calls.specs.Reply.{Answer}
use Rattle.sched_lines.specs.Line.{answer_text}

-- what is wrong with a flow's parameters
abbrev pub fault_words : FlowFault → List ℕ
fault_words Size = codes "bad size: it is 0, or does not fit a frame behind the request region"
fault_words IntervalNotWhole = codes "bad interval: it is not whole minislots"
fault_words IntervalNotFrames = codes "bad interval: it is 0 or not whole frames"
fault_words IntervalNotInCycle = codes "bad interval: its frames do not divide the cycle"
fault_words Priority = codes "bad priority: it is above 7"
fault_words Burst = codes "bad burst: there is a rate, and the burst is below the quantum"
fault_words Grants = codes "bad grants: they are 0 or above 8 in an interval"
fault_words faults.Reserved =
    codes "bad reserved burst: there is a reserved rate, and its burst is below the quantum"

-- what a refusal means, up to its number where it has one
abbrev pub words_before : Refusal → List ℕ
words_before BadSid = codes "bad SID: a flow has one from 1 to 8191, and a reserve one of its usage"
words_before SidLive = codes "the SID is live already"
words_before (BadFlow fault) = fault_words fault
words_before FlowsFull = codes "no more flows: as many are live as `flows` of the configuration"
words_before PeriodicFull = codes "too many grants: in an interval they would be above `periodic` of the configuration"
words_before NoPlace = codes "no place: the cycle has none that is lawful for this flow"
words_before NoFlow = codes "no flow with this SID is live"
words_before NotAsking = codes "a flow of unsolicited grants does not ask"
words_before BadReceiver = codes "the channel has no receiver of this number"
words_before BadBytes =
    codes "bad bytes: those asked for, or that its minislots carry, are above 1048560, or 0 in an ask"
words_before (Acked slot) = codes "too old: the receiver has handed in all that it heard before "
words_before (Ahead slot) = codes "too far: the next frame starts at "
words_before (Backwards slot) = codes "too old: the receiver's progress is "
words_before BadClock = codes "bad clock: it is above 1152921504606846976"
words_before (TooEarly slot) = codes "too early: the next frame starts at "
words_before (Late slot) = codes "too late: the next frame starts at "
words_before (NotLate slot) = codes "not late: the next frame starts at "
words_before BadLength = codes "bad length: it is 0, or more than a frame has behind the request region"
words_before ReservesFull = codes "no more reserves: there are "
words_before BadBackoff = codes "bad backoff: an exponent is above 15"
words_before OtherKind = codes "another kind: a change leaves the kind of a flow as it is"
words_before NotUnsolicited = codes "only a flow of unsolicited grants rests and wakes"
words_before TooShort = codes "too short: its grant has fewer minislots than a poll"

-- the number that it tells: how many Reserves can wait, or a minislot
abbrev pub number_told : Refusal → Option ℕ
number_told BadSid = None
number_told SidLive = None
number_told (BadFlow fault) = None
number_told FlowsFull = None
number_told PeriodicFull = None
number_told NoPlace = None
number_told NoFlow = None
number_told NotAsking = None
number_told BadReceiver = None
number_told BadBytes = None
number_told (Acked slot) = Some slot
number_told (Ahead slot) = Some slot
number_told (Backwards slot) = Some slot
number_told BadClock = None
number_told (TooEarly slot) = Some slot
number_told (Late slot) = Some slot
number_told (NotLate slot) = Some slot
number_told BadLength = None
number_told ReservesFull = Some MAX_RESERVES
number_told BadBackoff = None
number_told OtherKind = None
number_told NotUnsolicited = None
number_told TooShort = None

-- the rest of its meaning
abbrev pub words_behind : Refusal → List ℕ
words_behind BadSid = []
words_behind SidLive = []
words_behind (BadFlow fault) = []
words_behind FlowsFull = []
words_behind PeriodicFull = []
words_behind NoPlace = []
words_behind NoFlow = []
words_behind NotAsking = []
words_behind BadReceiver = []
words_behind BadBytes = []
words_behind (Acked slot) = []
words_behind (Ahead slot) = codes ", and what is heard must lie before it"
words_behind (Backwards slot) = codes " already"
words_behind BadClock = []
words_behind (TooEarly slot) = codes ", and its end is more than 4096 minislots past the clock"
words_behind (Late slot) = codes ", and the clock with its lead is past it"
words_behind (NotLate slot) = codes ", and the clock with its lead is not past it"
words_behind BadLength = []
words_behind ReservesFull = codes " already"
words_behind BadBackoff = []
words_behind OtherKind = []
words_behind NotUnsolicited = []
words_behind TooShort = []

-- a number in decimal, where there is one
abbrev pub digits_of : Option ℕ → List ℕ
digits_of None = []
digits_of (Some n) = decimal n

-- what a refusal means
unfoldable pub meaning_of : Refusal → List ℕ
meaning_of refusal = words_before refusal ++ (digits_of (number_told refusal) ++ words_behind refusal)

-- the refusal that a reply is, where it is one
abbrev pub refusal_as : Reply → Option Refusal
refusal_as (Admitted placement) = None
refusal_as (Changed placement) = None
refusal_as Removed = None
refusal_as Taken = None
refusal_as Noted = None
refusal_as Reserved = None
refusal_as (Built m) = None
refusal_as (Skipped next) = None
refusal_as (Flow asked granted outstanding) = None
refusal_as (Refused refusal) = Some refusal

-- the refusal that an answer is, where it is one
abbrev pub refusal_in : Answer → Option Refusal
refusal_in (Ok reply) = refusal_as reply
refusal_in (Err unrecorded) = None

-- what stands behind the text of an answer: what a refusal means
abbrev pub remark_of : Option Refusal → List ℕ
remark_of None = []
remark_of (Some refusal) = codes "  # " ++ meaning_of refusal

-- the line of an answer, with what a refusal means behind it
unfoldable pub explained_line : Answer → List ℕ
explained_line answer = answer_text answer ++ (remark_of (refusal_in answer) ++ 10 ∷ [])
