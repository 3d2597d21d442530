-- Which replies own memory, and which answers can be written: their MAPs are well formed.
use Rattle.std.specs.Prelude.{None, Some, Result, Ok, Err}
use Rattle.map_codec.specs.WireMap.{IsWellFormed}
use Rattle.sched_calls.specs.declared.reply.Reply.{Reply}
use Rattle.sched_calls.specs.declared.reply.Reply.TheVariants.{Admitted, Changed, Removed, Taken, Noted, Reserved}
use Rattle.sched_calls.specs.declared.reply.Reply.TheVariants.{Built, Skipped, Flow, Refused}
use Rattle.sched_calls.specs.declared.reply.Unrecorded.{Unrecorded}

-- the reply has lists: a placement's starts, or a MAP
abbrev pub OwnsMemory : Reply → Type 0
OwnsMemory (Admitted None) = ⊥
OwnsMemory (Admitted (Some placement)) = Unit {0}
OwnsMemory (Changed None) = ⊥
OwnsMemory (Changed (Some placement)) = Unit {0}
OwnsMemory Removed = ⊥
OwnsMemory Taken = ⊥
OwnsMemory Noted = ⊥
OwnsMemory Reserved = ⊥
OwnsMemory (Built m) = Unit {0}
OwnsMemory (Skipped next) = ⊥
OwnsMemory (Flow asked granted outstanding) = ⊥
OwnsMemory (Refused refusal) = ⊥

-- a MAP in the reply is well formed
abbrev pub IsEncodable : Reply → Type 0
IsEncodable (Admitted placement) = Unit {0}
IsEncodable (Changed placement) = Unit {0}
IsEncodable Removed = Unit {0}
IsEncodable Taken = Unit {0}
IsEncodable Noted = Unit {0}
IsEncodable Reserved = Unit {0}
IsEncodable (Built m) = IsWellFormed m.wire
IsEncodable (Skipped next) = Unit {0}
IsEncodable (Flow asked granted outstanding) = Unit {0}
IsEncodable (Refused refusal) = Unit {0}

-- the answer to a call: its reply, or that it was not recorded
abbrev pub Answer : Type 0
Answer = Result Reply Unrecorded

-- a MAP in the answer is well formed, so it has a line
abbrev pub HasLine : Answer → Type 0
HasLine (Ok reply) = IsEncodable reply
HasLine (Err unrecorded) = Unit {0}
