-- Calls on which no live flow depends.
use Rattle.std.proofs.Common.{ℕ, refl}
use Rattle.minislots.specs.declared.config.Config.{Config}
use Rattle.sched_calls.specs.declared.opportunity.Header.{Header}
use Rattle.sched_calls.specs.declared.opportunity.Usage.{Usage}
use Rattle.sched_calls.specs.declared.call.Call.TheVariants as calls
use Rattle.sched_calls.specs.declared.reply.Reply.TheVariants as replies
use Rattle.sched_history.proofs.lives.FlowsAfter.{LeavesFlows}

-- of a progress
pub quiet-heard : (c : Config) (receiver upto : ℕ) → LeavesFlows c (calls.Heard receiver upto) replies.Noted
quiet-heard c receiver upto = record {
  turns = λ other. refl;
  adds = λ other. refl;
  replaces = λ other. refl;
  changes = λ other. refl;
  batches = λ other asked' granted' b. refl;
  grants = λ other. refl;
}

-- of a skip
pub quiet-skip : (c : Config) (now next : ℕ) → LeavesFlows c (calls.Skip now) (replies.Skipped next)
quiet-skip c now next = record {
  turns = λ other. refl;
  adds = λ other. refl;
  replaces = λ other. refl;
  changes = λ other. refl;
  batches = λ other asked' granted' b. refl;
  grants = λ other. refl;
}

-- of a question for bytes
pub quiet-status : (c : Config) (sid asked granted left : ℕ) → LeavesFlows c (calls.Status sid) (replies.Flow asked granted left)
quiet-status c sid asked granted left = record {
  turns = λ other. refl;
  adds = λ other. refl;
  replaces = λ other. refl;
  changes = λ other. refl;
  batches = λ other asked' granted' b. refl;
  grants = λ other. refl;
}

-- of a Reserve
pub quiet-reserve : (c : Config) (usage : Usage) (slots : ℕ) → LeavesFlows c (calls.Reserve usage slots) replies.Reserved
quiet-reserve c usage slots = record {
  turns = λ other. refl;
  adds = λ other. refl;
  replaces = λ other. refl;
  changes = λ other. refl;
  batches = λ other asked' granted' b. refl;
  grants = λ other. refl;
}

-- of a header
pub quiet-header : (c : Config) (header : Header) → LeavesFlows c (calls.Header header) replies.Noted
quiet-header c header = record {
  turns = λ other. refl;
  adds = λ other. refl;
  replaces = λ other. refl;
  changes = λ other. refl;
  batches = λ other asked' granted' b. refl;
  grants = λ other. refl;
}

-- of a rest
pub quiet-rest : (c : Config) (sid : ℕ) → LeavesFlows c (calls.Rest sid) replies.Noted
quiet-rest c sid = record {
  turns = λ other. refl;
  adds = λ other. refl;
  replaces = λ other. refl;
  changes = λ other. refl;
  batches = λ other asked' granted' b. refl;
  grants = λ other. refl;
}

-- of a wake
pub quiet-wake : (c : Config) (sid : ℕ) → LeavesFlows c (calls.Wake sid) replies.Noted
quiet-wake c sid = record {
  turns = λ other. refl;
  adds = λ other. refl;
  replaces = λ other. refl;
  changes = λ other. refl;
  batches = λ other asked' granted' b. refl;
  grants = λ other. refl;
}
