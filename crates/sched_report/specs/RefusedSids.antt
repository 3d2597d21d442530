-- How many refused calls name each SID.
use Rattle.std.specs.Prelude.{◌≡◌, ℕ, ◌<◌, ◌==◌, Bool, false, List, length, count_by, slice_index, Option, None, Some}
use Rattle.std.specs.Option.{option_map_or}
use Rattle.sched_calls.specs.declared.call.Call.{Call}
use Rattle.sched_calls.specs.declared.call.Call.TheVariants.{Admit, Remove, Ask, Status, Replace, Change, Rest, Wake}
use Rattle.sched_calls.specs.declared.reply.Reply.{Reply}
use Rattle.sched_calls.specs.declared.reply.Reply.TheVariants.{Refused}
use Rattle.sched_calls.specs.declared.reply.Entry.{Entry}

-- the SID that a call names as that of a flow, whether one lives under it or not: a reserve of minislots names none,
-- whatever its usage
abbrev pub sid_named : Call → Option ℕ
sid_named (Admit sid spec) = Some sid
sid_named (Remove sid) = Some sid
sid_named (Ask receiver sid amount heard) = Some sid
sid_named (Status sid) = Some sid
sid_named (Replace receiver sid amount heard) = Some sid
sid_named (Change sid spec) = Some sid
sid_named (Rest sid) = Some sid
sid_named (Wake sid) = Some sid
sid_named call = None

-- the SID that a call names where it is refused
abbrev pub refused_sid : Call → Reply → Option ℕ
refused_sid call (Refused refusal) = sid_named call
refused_sid call reply = None

-- whether an entry is a refused call that names this SID
abbrev pub refuses_sid : ℕ → Entry → Bool
refuses_sid sid e = option_map_or (λ named. named == sid) (refused_sid e.call e.reply) false

-- how many of the entries are
abbrev pub refusals_of : ℕ → List Entry → ℕ
refusals_of sid h = count_by (refuses_sid sid) h

-- so many refused calls name each SID: 0 at the first place, and so on
pub record CountsRefusedSids (counts : List ℕ) (h : List Entry) : Type 0 where
  pub places : length counts ≡ 65536
  pub each : (sid : ℕ) → sid < 65536 → slice_index counts sid ≡ refusals_of sid h
