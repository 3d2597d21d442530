-- How many calls of each kind a history has, and how many refusals with each number.
use Rattle.std.specs.Prelude.{◌≡◌, ℕ, ◌+◌, ◌<◌, ◌==◌, Bool, true, false, List, length, count_by, slice_index}
use Rattle.sched_calls.specs.declared.call.Call.{Call}
use Rattle.sched_calls.specs.declared.call.Call.TheVariants.{Admit, Remove, Ask, Heard, Build, Skip, Status}
use Rattle.sched_calls.specs.declared.call.Call.TheVariants.{Reserve, Header, Replace, Change, Rest, Wake}
use Rattle.sched_calls.specs.declared.reply.Reply.{Reply}
use Rattle.sched_calls.specs.declared.reply.Reply.TheVariants.{Refused}
use Rattle.sched_calls.specs.declared.reply.Entry.{Entry}
use Rattle.sched_lines.specs.Line.{refusal_number}
use Rattle.sched_report.specs.declared.calls.Calls.{Calls}

-- the call admits a flow
abbrev pub is_admit : Call → Bool
is_admit (Admit sid spec) = true
is_admit call = false

-- the call hands in a request
abbrev pub is_ask : Call → Bool
is_ask (Ask receiver sid amount heard) = true
is_ask call = false

-- the call builds a MAP
abbrev pub is_build : Call → Bool
is_build (Build now) = true
is_build call = false

-- the call says before which minislot a receiver has handed in all that it heard
abbrev pub is_heard : Call → Bool
is_heard (Heard receiver upto) = true
is_heard call = false

-- the call removes a flow
abbrev pub is_remove : Call → Bool
is_remove (Remove sid) = true
is_remove call = false

-- the call leaves out the frames whose MAP would be late
abbrev pub is_skip : Call → Bool
is_skip (Skip now) = true
is_skip call = false

-- the call asks for the bytes of a flow
abbrev pub is_status : Call → Bool
is_status (Status sid) = true
is_status call = false

-- the call reserves an opportunity
abbrev pub is_reserve : Call → Bool
is_reserve (Reserve usage slots) = true
is_reserve call = false

-- the call sets the header of the MAPs that follow
abbrev pub is_header : Call → Bool
is_header (Header header) = true
is_header call = false

-- the call hands in a request that supersedes those before
abbrev pub is_replace : Call → Bool
is_replace (Replace receiver sid amount heard) = true
is_replace call = false

-- the call gives a flow other parameters
abbrev pub is_change : Call → Bool
is_change (Change sid spec) = true
is_change call = false

-- the call lets an unsolicited flow rest
abbrev pub is_rest : Call → Bool
is_rest (Rest sid) = true
is_rest call = false

-- the call gives an unsolicited flow its grants again
abbrev pub is_wake : Call → Bool
is_wake (Wake sid) = true
is_wake call = false

-- how many calls of a kind there are, whatever their replies
abbrev pub calls_with : (Call → Bool) → List Entry → ℕ
calls_with kind h = count_by (λ e. kind e.call) h

-- how many calls of each kind there are
abbrev pub calls_of : List Entry → Calls
calls_of h = record {
  admit = calls_with is_admit h;
  ask = calls_with is_ask h;
  build = calls_with is_build h;
  change = calls_with is_change h;
  header = calls_with is_header h;
  heard = calls_with is_heard h;
  remove = calls_with is_remove h;
  replace = calls_with is_replace h;
  reserve = calls_with is_reserve h;
  rest = calls_with is_rest h;
  skip = calls_with is_skip h;
  status = calls_with is_status h;
  wake = calls_with is_wake h;
}

-- whether a reply is a refusal with this number
abbrev pub is_refusal : ℕ → Reply → Bool
is_refusal number (Refused refusal) = refusal_number refusal == number
is_refusal number reply = false

-- how many refusals with this number there are
abbrev pub refusals_with : ℕ → List Entry → ℕ
refusals_with number h = count_by (λ e. is_refusal number e.reply) h

-- so many refusals there are with each number: with 1 at the first place, and so on
pub record CountsRefusals (counts : List ℕ) (h : List Entry) : Type 0 where
  pub places : length counts ≡ 23
  pub each : (place : ℕ) → place < 23 → slice_index counts place ≡ refusals_with (place + 1) h
