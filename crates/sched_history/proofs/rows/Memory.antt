-- Worked examples of calls and replies that want no memory.
use Rattle.std.proofs.Common.{◌≡◌, ℕ, List, None, Some}
use Rattle.minislots.specs.declared.config.Config.{Config}
use Rattle.sched_calls.specs.declared.spec.FlowSpec.TheVariants.{Unsolicited, Polled}
use Rattle.periodic.specs.Placement.{NoPlacement}
use Rattle.sched_calls.specs.declared.opportunity.Header.{Header}
use Rattle.sched_calls.specs.declared.opportunity.Usage.{Usage}
use Rattle.sched_calls.specs.declared.call.Call.{Call}
use Rattle.sched_calls.specs.declared.amount.Amount.{Amount}
use Rattle.sched_calls.specs.declared.call.Call.TheVariants as calls
use Rattle.sched_calls.specs.declared.call.Call.TheVariants.{Admit, Remove, Ask, Heard, Skip, Status, Reserve}
use Rattle.sched_calls.specs.declared.reply.Refusal.{Refusal}
use Rattle.sched_calls.specs.declared.reply.Reply.TheVariants.{Admitted, Taken, Flow, Refused}
use Rattle.sched_calls.specs.declared.reply.Entry.{Entry}
use Rattle.sched_history.specs.Life.{table_of}
use Rattle.sched_history.specs.Time.{next_after}
use Rattle.sched_history.specs.Refusal.{refusal_of}
use Rattle.sched_calls.specs.Reply.{OwnsMemory}
use Rattle.sched_history.specs.Machine.{MayLackMemory}

module _ (c : Config) (h : List Entry) where
  -- a skip never lacks memory
  pub a_skip_lacks_no_memory : (now : ℕ) → MayLackMemory c h (Skip now) → ⊥
  a_skip_lacks_no_memory now lacks = lacks.takes

  -- nor does a request
  pub a_request_lacks_no_memory : (receiver sid : ℕ) (amount : Amount) (heard : ℕ)
      → MayLackMemory c h (Ask receiver sid amount heard) → ⊥
  a_request_lacks_no_memory receiver sid bytes heard lacks = lacks.takes

  -- nor a progress, a removal or a question for a flow's bytes
  pub a_progress_lacks_no_memory : (receiver upto : ℕ) → MayLackMemory c h (Heard receiver upto) → ⊥
  a_progress_lacks_no_memory receiver upto lacks = lacks.takes

  -- a removal takes no memory
  pub a_removal_lacks_no_memory : (sid : ℕ) → MayLackMemory c h (Remove sid) → ⊥
  a_removal_lacks_no_memory sid lacks = lacks.takes

  -- a status takes no memory
  pub a_status_lacks_no_memory : (sid : ℕ) → MayLackMemory c h (Status sid) → ⊥
  a_status_lacks_no_memory sid lacks = lacks.takes

  -- nor a Reserve
  pub a_reserve_lacks_no_memory : (usage : Usage) (slots : ℕ) → MayLackMemory c h (Reserve usage slots) → ⊥
  a_reserve_lacks_no_memory usage slots lacks = lacks.takes

  -- nor a header
  pub a_header_lacks_no_memory : (header : Header) → MayLackMemory c h (calls.Header header) → ⊥
  a_header_lacks_no_memory header lacks = lacks.takes

  -- nor an admission of a periodic flow for which there is no place
  pub an_admission_without_a_place_lacks_no_memory : (sid size interval jitter grants : ℕ)
      → NoPlacement c (table_of h) (Unsolicited size interval jitter grants) (next_after c h)
      → MayLackMemory c h (Admit sid (Unsolicited size interval jitter grants)) → ⊥
  an_admission_without_a_place_lacks_no_memory sid size interval jitter grants never lacks =
      never lacks.takes.0 lacks.takes.1

  -- a polled flow without a place takes no memory
  pub a_polled_admission_without_a_place_lacks_no_memory : (sid interval jitter rate burst peak : ℕ)
      → NoPlacement c (table_of h) (Polled interval jitter rate burst peak) (next_after c h)
      → MayLackMemory c h (Admit sid (Polled interval jitter rate burst peak)) → ⊥
  a_polled_admission_without_a_place_lacks_no_memory sid interval jitter rate burst peak never lacks =
      never lacks.takes.0 lacks.takes.1

  -- nor any call that a test refuses
  pub a_refused_call_lacks_no_memory : (call : Call) (refusal : Refusal) → refusal_of c h call ≡ Some refusal
      → MayLackMemory c h call → ⊥
  a_refused_call_lacks_no_memory call refusal refused lacks = let none = lacks.unrefused in cc

-- the copy of such a reply wants no memory either
pub a_taken_request_owns_no_memory : OwnsMemory Taken → ⊥
a_taken_request_owns_no_memory owns = owns

-- the answer to a status has no memory
pub the_bytes_of_a_flow_own_no_memory : (asked granted left : ℕ) → OwnsMemory (Flow asked granted left) → ⊥
the_bytes_of_a_flow_own_no_memory asked granted left owns = owns

-- a refusal has no memory
pub a_refusal_owns_no_memory : (refusal : Refusal) → OwnsMemory (Refused refusal) → ⊥
a_refusal_owns_no_memory refusal owns = owns

-- the admission of a best effort flow has no memory
pub an_admission_without_a_place_owns_no_memory : OwnsMemory (Admitted None) → ⊥
an_admission_without_a_place_owns_no_memory owns = owns
