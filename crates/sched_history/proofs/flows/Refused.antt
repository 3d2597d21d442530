-- A refused call changes no live flow.
use Rattle.std.proofs.Common.{◌≡◌, ℕ, List, [], ◌∷◌, ◌++◌, None, refl}
use Rattle.minislots.specs.declared.config.Config.{Config}
use Rattle.minislots.specs.declared.stamp.Stamp.{Stamp}
use Rattle.flow_book.specs.declared.batches.Batches.{Batches}
use Rattle.sched_calls.specs.declared.call.Call.{Call}
use Rattle.sched_calls.specs.declared.call.Call.TheVariants as calls
use Rattle.sched_calls.specs.declared.reply.Refusal.{Refusal}
use Rattle.sched_calls.specs.declared.reply.Reply.TheVariants as replies
use Rattle.sched_calls.specs.declared.reply.Entry.{Entry}
use Rattle.sched_history.specs.Life.{turn_by, batches_by, added_by, replaced_by, change_by, rest_by, flows_of}
use Rattle.sched_history.specs.Life.{table_of}
use Rattle.sched_history.proofs.lives.FlowsAfter.{flows_of-quiet, table_of-stays}

turn_by-refused : (call : Call) (refusal : Refusal) (sid : ℕ) → turn_by sid call (replies.Refused refusal) ≡ None
turn_by-refused (calls.Admit other spec) refusal sid = refl
turn_by-refused (calls.Remove other) refusal sid = refl
turn_by-refused call refusal sid = refl

added_by-refused : (c : Config) (call : Call) (refusal : Refusal) (sid : ℕ)
    → added_by c sid call (replies.Refused refusal) ≡ 0
added_by-refused c (calls.Ask receiver other amount heard) refusal sid = refl
added_by-refused c call refusal sid = refl

replaced_by-refused : (c : Config) (call : Call) (refusal : Refusal) (sid : ℕ)
    → replaced_by c sid call (replies.Refused refusal) ≡ None
replaced_by-refused c (calls.Replace receiver other amount heard) refusal sid = refl
replaced_by-refused c call refusal sid = refl

change_by-refused : (call : Call) (refusal : Refusal) (sid : ℕ) → change_by sid call (replies.Refused refusal) ≡ None
change_by-refused (calls.Change other spec) refusal sid = refl
change_by-refused call refusal sid = refl

rest_by-refused : (call : Call) (refusal : Refusal) (sid : ℕ) → rest_by sid call (replies.Refused refusal) ≡ None
rest_by-refused (calls.Rest other) refusal sid = refl
rest_by-refused (calls.Wake other) refusal sid = refl
rest_by-refused (calls.Change other spec) refusal sid = refl
rest_by-refused call refusal sid = refl

batches_by-refused : (c : Config) (call : Call) (refusal : Refusal) (sid asked granted : ℕ) (b : Batches)
    → batches_by c sid call (replies.Refused refusal) b asked granted ≡ b
batches_by-refused c (calls.Ask receiver other amount heard) refusal sid asked granted b = refl
batches_by-refused c (calls.Replace receiver other amount heard) refusal sid asked granted b = refl
batches_by-refused c call refusal sid asked granted b = refl

-- no placement depends on a refusal
pub table_of-refused : (stamp : Stamp) (h : List Entry) (call : Call) (refusal : Refusal)
    → table_of (h ++ record { stamp = stamp; call = call; reply = replies.Refused refusal } ∷ []) ≡ table_of h
table_of-refused stamp h call refusal =
    table_of-stays h (record { stamp = stamp; call = call; reply = replies.Refused refusal })
    (turn_by-refused call refusal) (change_by-refused call refusal) (rest_by-refused call refusal)

-- the live flows stay as they are
pub flows_of-refused : (c : Config) (stamp : Stamp) (h : List Entry) (call : Call) (refusal : Refusal)
    → flows_of c (h ++ record { stamp = stamp; call = call; reply = replies.Refused refusal } ∷ []) ≡ flows_of c h
flows_of-refused c stamp h call refusal =
    flows_of-quiet c h (record { stamp = stamp; call = call; reply = replies.Refused refusal }) (record {
      turns = turn_by-refused call refusal;
      adds = added_by-refused c call refusal;
      replaces = replaced_by-refused c call refusal;
      changes = change_by-refused call refusal;
      batches = batches_by-refused c call refusal;
      grants = λ sid. refl;
    })
