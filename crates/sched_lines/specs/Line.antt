-- The lines of a run.
use Rattle.std.specs.Prelude.{ℕ, List, [], ◌∷◌, ◌++◌, Option, None, Some, Ok, Err, decimal, codes, flat_map}
use Rattle.hex.specs.Hex.{encode_lower}
use Rattle.map_codec.specs.WireMap.{spelling}
use Rattle.sched_calls.specs.declared.spec.FlowFault.{FlowFault}
use Rattle.sched_calls.specs.declared.spec.FlowFault.TheVariants.{Size, IntervalNotWhole, IntervalNotFrames}
use Rattle.sched_calls.specs.declared.spec.FlowFault.TheVariants.{IntervalNotInCycle, Priority, Burst, Grants}
use Rattle.sched_calls.specs.declared.spec.FlowFault.TheVariants as faults
use Rattle.sched_calls.specs.declared.reply.Refusal.{Refusal}
use Rattle.sched_calls.specs.declared.reply.Refusal.TheVariants.{BadSid, SidLive, BadFlow, FlowsFull, PeriodicFull}
use Rattle.sched_calls.specs.declared.reply.Refusal.TheVariants.{NoPlace, NoFlow, NotAsking, BadReceiver, BadBytes}
use Rattle.sched_calls.specs.declared.reply.Refusal.TheVariants.{Acked, Ahead, Backwards, BadClock, TooEarly, Late}
use Rattle.sched_calls.specs.declared.reply.Refusal.TheVariants.{NotLate, BadLength, ReservesFull, BadBackoff}
use Rattle.sched_calls.specs.declared.reply.Refusal.TheVariants.{OtherKind, NotUnsolicited, TooShort}
use Rattle.sched_calls.specs.declared.placement.Placement.{Placement}
use Rattle.sched_calls.specs.declared.reply.Reply.{Reply}
use Rattle.sched_calls.specs.declared.reply.Reply.TheVariants.{Admitted, Removed, Taken, Noted, Built, Skipped, Flow}
use Rattle.sched_calls.specs.declared.reply.Reply.TheVariants.{Reserved, Refused, Changed}
use Rattle.sched_calls.specs.declared.reply.Unrecorded.TheVariants.{HistoryFull, Memory}
use Rattle.sched_calls.specs.Reply.{Answer}

-- a space and a number in decimal
unfoldable pub number_text : ℕ → List ℕ
number_text n = 32 ∷ decimal n

-- the name, and the number behind it
unfoldable pub number_line : List ℕ → ℕ → List ℕ
number_line name n = name ++ (number_text n ++ 10 ∷ [])

-- numbers, each after a space
abbrev pub numbers_text : List ℕ → List ℕ
numbers_text ns = flat_map number_text ns

-- the number of a fault in a flow's parameters
abbrev pub fault_number : FlowFault → ℕ
fault_number Size = 1
fault_number IntervalNotWhole = 2
fault_number IntervalNotFrames = 3
fault_number IntervalNotInCycle = 4
fault_number Priority = 5
fault_number Burst = 6
fault_number Grants = 7
fault_number faults.Reserved = 8

-- the number of a refusal
abbrev pub refusal_number : Refusal → ℕ
refusal_number BadSid = 1
refusal_number SidLive = 2
refusal_number (BadFlow fault) = 3
refusal_number FlowsFull = 4
refusal_number PeriodicFull = 5
refusal_number NoPlace = 6
refusal_number NoFlow = 7
refusal_number NotAsking = 8
refusal_number BadReceiver = 9
refusal_number BadBytes = 10
refusal_number (Acked slot) = 11
refusal_number (Ahead slot) = 12
refusal_number (Backwards slot) = 13
refusal_number BadClock = 14
refusal_number (TooEarly slot) = 15
refusal_number (Late slot) = 16
refusal_number (NotLate slot) = 17
refusal_number BadLength = 18
refusal_number ReservesFull = 19
refusal_number BadBackoff = 20
refusal_number OtherKind = 21
refusal_number NotUnsolicited = 22
refusal_number TooShort = 23

-- the value of a refusal that has one
abbrev pub refusal_value : Refusal → Option ℕ
refusal_value BadSid = None
refusal_value SidLive = None
refusal_value (BadFlow fault) = Some (fault_number fault)
refusal_value FlowsFull = None
refusal_value PeriodicFull = None
refusal_value NoPlace = None
refusal_value NoFlow = None
refusal_value NotAsking = None
refusal_value BadReceiver = None
refusal_value BadBytes = None
refusal_value (Acked slot) = Some slot
refusal_value (Ahead slot) = Some slot
refusal_value (Backwards slot) = Some slot
refusal_value BadClock = None
refusal_value (TooEarly slot) = Some slot
refusal_value (Late slot) = Some slot
refusal_value (NotLate slot) = Some slot
refusal_value BadLength = None
refusal_value ReservesFull = None
refusal_value BadBackoff = None
refusal_value OtherKind = None
refusal_value NotUnsolicited = None
refusal_value TooShort = None

-- the text of a value, where there is one
abbrev pub value_text : Option ℕ → List ℕ
value_text None = []
value_text (Some n) = number_text n

-- the text of the place of a flow: the reference, and each start
abbrev pub place_text : Placement → List ℕ
place_text p = number_text p.reference ++ numbers_text p.starts

-- the text of a reply
abbrev pub reply_text : Reply → List ℕ
reply_text (Admitted None) = codes "admitted"
reply_text (Admitted (Some p)) = codes "admitted" ++ place_text p
reply_text (Changed None) = codes "changed"
reply_text (Changed (Some p)) = codes "changed" ++ place_text p
reply_text Removed = codes "removed"
reply_text Taken = codes "taken"
reply_text Noted = codes "noted"
reply_text Reserved = codes "reserved"
reply_text (Built m) = codes "map " ++ encode_lower (spelling m.wire)
reply_text (Skipped next) = codes "skipped" ++ number_text next
reply_text (Flow asked granted outstanding) = codes "flow"
    ++ (number_text asked ++ (number_text granted ++ number_text outstanding))
reply_text (Refused refusal) = codes "refused" ++ (number_text (refusal_number refusal)
    ++ value_text (refusal_value refusal))

-- the text of an answer: a reply, or why the call was not recorded
abbrev pub answer_text : Answer → List ℕ
answer_text (Ok reply) = reply_text reply
answer_text (Err HistoryFull) = codes "history full"
answer_text (Err Memory) = codes "out of memory"

-- the line of an answer
unfoldable pub line_of : Answer → List ℕ
line_of answer = answer_text answer ++ 10 ∷ []
