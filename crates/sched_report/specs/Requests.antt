-- The requests of a flow in the entries of its life.
use Rattle.std.specs.Prelude.{ℕ, ◌==◌, ◌&&◌, nat_lt, Bool, false, List, [], ◌∷◌, ◌++◌, take, drop}
use Rattle.std.specs.Prelude.{Option, None, Some, if◌then◌else◌}
use Rattle.std.specs.List.{list_any}
use Rattle.minislots.specs.declared.config.Config.{Config}
use Rattle.sched_calls.specs.declared.amount.Amount.{Amount}
use Rattle.sched_calls.specs.Amount.{requested}
use Rattle.sched_calls.specs.declared.call.Call.{Call}
use Rattle.sched_calls.specs.declared.call.Call.TheVariants as calls
use Rattle.sched_calls.specs.declared.reply.Reply.{Reply}
use Rattle.sched_calls.specs.declared.reply.Reply.TheVariants as replies
use Rattle.sched_calls.specs.declared.reply.Entry.{Entry}
use Rattle.sched_history.specs.Life.{asked_in, grants_since}
use Rattle.sched_report.specs.declared.service.Request.{Request}
use Rattle.sched_report.specs.Delays.{Claim}
use Rattle.sched_report.specs.Lives.{until}

-- a request for so much, where it is of this SID and for any bytes: one for none, which may supersede others, is no
-- request of a report
abbrev pub request_for : Config → ℕ → ℕ → Amount → ℕ → Option Request
request_for c sid other amount heard =
    if other == sid && nat_lt 0 (requested c amount)
    then Some (record { bytes = requested c amount; heard = heard })
    else None

-- the accepted request of this SID that an entry is
abbrev pub request_by : Config → ℕ → Call → Reply → Option Request
request_by c sid (calls.Ask receiver other amount heard) replies.Taken = request_for c sid other amount heard
request_by c sid (calls.Replace receiver other amount heard) replies.Taken = request_for c sid other amount heard
request_by c sid call reply = None

-- whether this is an accepted request of this SID that supersedes those before
abbrev pub supersedes_by : ℕ → Call → Reply → Bool
supersedes_by sid (calls.Replace receiver other amount heard) replies.Taken = other == sid
supersedes_by sid call reply = false

-- whether an entry is one
abbrev pub supersedes : ℕ → Entry → Bool
supersedes sid e = supersedes_by sid e.call e.reply

-- the request that is the last of these entries of a life, where it is one, with the entries that follow
abbrev pub claim_made : Config → ℕ → List Entry → Option Request → List Entry → List Claim
claim_made c sid upto None es = []
claim_made c sid upto (Some r) es = record {
  upto = asked_in c sid upto;
  heard = r.heard;
  grants = grants_since sid (upto ++ until (supersedes sid) es);
  superseded = list_any (supersedes sid) es;
} ∷ []

-- the requests in entries of a life that stand behind others
abbrev pub claims_after : Config → ℕ → List Entry → List Entry → List Claim
claims_after c sid before [] = []
claims_after c sid before (e ∷ es) =
    claim_made c sid (before ++ e ∷ []) (request_by c sid e.call e.reply) es ++ claims_after c sid (before ++ e ∷ []) es

-- the requests of this SID in the entries of a life, in order, where so many of the entries came before what is told
abbrev pub claims_in : Config → ℕ → ℕ → List Entry → List Claim
claims_in c sid passed es = claims_after c sid (take passed es) (drop passed es)
