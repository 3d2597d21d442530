-- The lives of flows in a history, in the order of their admissions.
use Rattle.std.specs.Prelude.{ℕ, ◌-◌, nat_lt, not, Bool, true, List, [], ◌∷◌, ◌++◌, length, map}
use Rattle.std.specs.Prelude.{Option, None, Some, is_some, option_map, if◌then◌else◌}
use Rattle.std.specs.List.{list_any}
use Rattle.std.specs.Option.{option_map_or}
use Rattle.sched_calls.specs.declared.spec.FlowSpec.{FlowSpec}
use Rattle.sched_calls.specs.declared.call.Call.{Call}
use Rattle.sched_calls.specs.declared.call.Call.TheVariants as calls
use Rattle.sched_calls.specs.declared.reply.Reply.{Reply}
use Rattle.sched_calls.specs.declared.reply.Reply.TheVariants as replies
use Rattle.sched_calls.specs.declared.reply.Entry.{Entry}
use Rattle.sched_history.specs.Latest.{latest}
use Rattle.sched_history.specs.Life.{turn_of, change_by}
use Rattle.sched_report.specs.declared.lives.Opening.{Opening}

-- A life of a flow: its SID, the parameters with which it was admitted, the entries up to its admission, those after it
-- up to its end, and whether it ended; and how many entries of the history behind its admission, also behind its end,
-- come before what is told
pub record PastLife : Type 0 where
  pub sid : ℕ
  pub first : FlowSpec
  pub upto : List Entry
  pub since : List Entry
  pub ended : Bool
  pub passed : ℕ

-- the parameters that an accepted change of this SID gives
abbrev pub new_spec : ℕ → Call → Reply → Option FlowSpec
new_spec sid call reply = option_map (λ given. given.spec) (change_by sid call reply)

-- the parameters of a flow that was admitted with these, after these entries of its life: those of its latest change
abbrev pub spec_after : ℕ → FlowSpec → List Entry → FlowSpec
spec_after sid first es = option_map_or (λ found. found.said) (latest (λ e. new_spec sid e.call e.reply) es) first

-- the parameters with which a life ended, or which it has
abbrev pub spec_of : PastLife → FlowSpec
spec_of life = spec_after life.sid life.first life.since

-- the SID and the parameters of an accepted admission
abbrev pub opening_by : Call → Reply → Option Opening
opening_by (calls.Admit sid spec) (replies.Admitted placement) = Some (record { sid = sid; spec = spec })
opening_by call reply = None

-- whether an entry is an accepted admission or removal of this SID
abbrev pub is_turn : ℕ → Entry → Bool
is_turn sid e = is_some (turn_of sid e)

-- the entries up to the next one that passes a test
abbrev pub until : (Entry → Bool) → List Entry → List Entry
until test [] = []
until test (e ∷ es) = if test e then [] else e ∷ until test es

-- the life that begins behind these entries, where one does, with those that follow: it ends at the next admission or
-- removal of its SID
abbrev pub life_begun : List Entry → Option Opening → List Entry → List PastLife
life_begun upto None es = []
life_begun upto (Some o) es = record {
  sid = o.sid;
  first = o.spec;
  upto = upto;
  since = until (is_turn o.sid) es;
  ended = list_any (is_turn o.sid) es;
  passed = 0;
} ∷ []

-- the lives that begin in entries which stand behind others
abbrev pub lives_after : List Entry → List Entry → List PastLife
lives_after before [] = []
lives_after before (e ∷ es) =
    life_begun (before ++ e ∷ []) (opening_by e.call e.reply) es ++ lives_after (before ++ e ∷ []) es

-- the lives of a history, in the order of their admissions
abbrev pub lives_of : List Entry → List PastLife
lives_of h = lives_after [] h

-- a life where so many entries of its history came before what is told
abbrev pub passing : ℕ → PastLife → PastLife
passing passed life = record life { passed = passed - length life.upto }

-- the lives of a history where so many of its entries came before what is told, in the order of their admissions
abbrev pub lives_in : ℕ → List Entry → List PastLife
lives_in passed h = map (passing passed) (lives_of h)

-- whether a life is told of: not where it ended before what is told
abbrev pub is_told : PastLife → Bool
is_told life = not (nat_lt (length life.since) life.passed)

-- a life with one entry more behind the history
abbrev pub with_entry : Entry → PastLife → PastLife
with_entry e life =
    if life.ended then life
    else if is_turn life.sid e then record life { ended = true }
    else record life { since = life.since ++ e ∷ [] }

-- the entry is an accepted request, of whichever SID
abbrev pub IsRequest : Call → Reply → Type 0
IsRequest (calls.Ask receiver sid amount heard) replies.Taken = Unit {0}
IsRequest (calls.Replace receiver sid amount heard) replies.Taken = Unit {0}
IsRequest call reply = ⊥

-- the entry begins a life, of whichever SID
abbrev pub IsOpening : Call → Reply → Type 0
IsOpening (calls.Admit sid spec) (replies.Admitted placement) = Unit {0}
IsOpening call reply = ⊥
