-- A refused call changes nothing but the number of entries.
use Rattle.std.proofs.Common.{refl}
use Rattle.minislots.specs.declared.config.Config.{Config}
use Rattle.sched_calls.specs.declared.call.Call.{Call}
use Rattle.sched_calls.specs.declared.call.Call.TheVariants as calls
use Rattle.sched_calls.specs.declared.reply.Refusal.{Refusal}
use Rattle.sched_calls.specs.declared.reply.Reply.TheVariants.{Refused}
use Rattle.sched_history.specs.State.{IsQuiet}

-- nothing depends on a refusal
pub IsQuiet-refused : (c : Config) (call : Call) (refusal : Refusal) → IsQuiet c call (Refused refusal)
IsQuiet-refused c (calls.Admit sid spec) refusal = λ x. refl
IsQuiet-refused c (calls.Remove sid) refusal = λ x. refl
IsQuiet-refused c (calls.Ask receiver sid amount heard) refusal = λ x. refl
IsQuiet-refused c (calls.Heard receiver upto) refusal = λ x. refl
IsQuiet-refused c (calls.Build now) refusal = λ x. refl
IsQuiet-refused c (calls.Skip now) refusal = λ x. refl
IsQuiet-refused c (calls.Status sid) refusal = λ x. refl
IsQuiet-refused c (calls.Reserve usage slots) refusal = λ x. refl
IsQuiet-refused c (calls.Header header) refusal = λ x. refl
IsQuiet-refused c (calls.Replace receiver sid amount heard) refusal = λ x. refl
IsQuiet-refused c (calls.Change sid spec) refusal = λ x. refl
IsQuiet-refused c (calls.Rest sid) refusal = λ x. refl
IsQuiet-refused c (calls.Wake sid) refusal = λ x. refl
