-- The value of each refusal fits its type where the minislots that it may tell do.
use Rattle.std.proofs.Common.{◌≡◌, ℕ, ◌+◌, ◌-◌, ◌^◌, ◌<◌, Bool, true, false, not, ◌==◌, ◌||◌, ◌&&◌, nat_lt, nat_le}
use Rattle.std.proofs.Common.{length, slice_index, Option, None, Some, subst, lit<}
use Rattle.std.specs.Option.{option_or, option_map}
use Rattle.minislots.specs.declared.config.Config.{Config}
use Rattle.sched_calls.specs.declared.spec.FlowFault.{FlowFault}
use Rattle.sched_calls.specs.declared.spec.FlowFault.TheVariants.{Size, IntervalNotWhole, IntervalNotFrames}
use Rattle.sched_calls.specs.declared.spec.FlowFault.TheVariants.{IntervalNotInCycle, Priority, Burst, Grants, Reserved}
use Rattle.sched_calls.specs.FlowSpec.{is_periodic, is_kind_of, grants_of, first_fault}
use Rattle.sched_calls.specs.declared.call.TheConstants.{MAX_RESERVES}
use Rattle.sched_calls.specs.declared.call.Call.{Call}
use Rattle.sched_calls.specs.declared.call.Call.TheVariants as calls
use Rattle.sched_calls.specs.declared.reply.Refusal.{Refusal}
use Rattle.sched_calls.specs.declared.reply.Refusal.TheVariants.{BadSid, SidLive, BadFlow, FlowsFull, PeriodicFull}
use Rattle.sched_calls.specs.declared.reply.Refusal.TheVariants.{NoFlow, NotAsking, BadReceiver, BadBytes}
use Rattle.sched_calls.specs.declared.reply.Refusal.TheVariants.{Acked, Ahead, Backwards, BadClock, TooEarly, Late}
use Rattle.sched_calls.specs.declared.reply.Refusal.TheVariants.{NotLate, BadLength, ReservesFull, BadBackoff}
use Rattle.sched_calls.specs.declared.reply.Refusal.TheVariants.{OtherKind, NotUnsolicited, TooShort}
use Rattle.flow_book.specs.Book.{without}
use Rattle.sched_history.specs.Situation.{Situation}
use Rattle.sched_history.specs.Refusal.{refused_if, refusal_in, is_bad_amount, most_ahead, last_clock, bad_sid}
use Rattle.sched_history.specs.Refusal.{is_live, is_silent, has_live, is_unsolicited, is_short_of_poll, is_great_amount}
use Rattle.sched_history.specs.Refusal.{interval_grants, is_to_bad_sid, is_wide}
use Rattle.sched_lines.specs.Line.{fault_number, refusal_value}
use Rattle.history_writing.specs.Fits.{ValueFits}

-- the value of the refusal fits, where it has one
abbrev pub RefusalFits : Refusal → Type 0
RefusalFits refusal = ValueFits (refusal_value refusal)

-- where the value of the first refusal of some tests fits, and that of each other
refused : (b : Bool) (first : Refusal) (rest : Option Refusal) (refusal : Refusal)
    → option_or (refused_if b first) rest ≡ Some refusal → RefusalFits first
    → (rest ≡ Some refusal → RefusalFits refusal) → RefusalFits refusal
refused true first rest refusal is here later = let same : first ≡ refusal = cc in subst RefusalFits same here
refused false first rest refusal is here later = later is

refused_last : (b : Bool) (first refusal : Refusal) → refused_if b first ≡ Some refusal → RefusalFits first
    → RefusalFits refusal
refused_last true first refusal is here = let same : first ≡ refusal = cc in subst RefusalFits same here
refused_last false first refusal is here = absurd (cc)

no_more : (refusal : Refusal) → None ≡ Some refusal → RefusalFits refusal
no_more refusal is = absurd (cc)

fault_fits : (fault : FlowFault) → fault_number fault < 2 ^ 64
fault_fits Size = lit< tt
fault_fits IntervalNotWhole = lit< tt
fault_fits IntervalNotFrames = lit< tt
fault_fits IntervalNotInCycle = lit< tt
fault_fits Priority = lit< tt
fault_fits Burst = lit< tt
fault_fits Grants = lit< tt
fault_fits Reserved = lit< tt

faulty : (fault : Option FlowFault) (rest : Option Refusal) (refusal : Refusal)
    → option_or (option_map BadFlow fault) rest ≡ Some refusal → (rest ≡ Some refusal → RefusalFits refusal)
    → RefusalFits refusal
faulty None rest refusal is later = later is
faulty (Some fault) rest refusal is later =
    let same : BadFlow fault ≡ refusal = cc in subst RefusalFits same (fault_fits fault)

module _ (c : Config) (s : Situation) (next-small : s.next < 2 ^ 64)
    (progress-small : (receiver : ℕ) → slice_index s.progress receiver < 2 ^ 64) where
  -- a SID that no flow may have, or none has
  unknown : (sid : ℕ) (rest : Option Refusal) (refusal : Refusal)
      → option_or (refused_if (bad_sid sid) BadSid) (option_or (refused_if (not (is_live sid s.flows)) NoFlow) rest)
      ≡ Some refusal → (rest ≡ Some refusal → RefusalFits refusal) → RefusalFits refusal
  unknown sid rest refusal is later =
      refused (bad_sid sid) BadSid _ refusal is tt (λ is.
      refused (not (is_live sid s.flows)) NoFlow rest refusal is tt later)

  -- or a minislot whose requests came too late, or are not described yet
  untimely : (receiver heard : ℕ) (refusal : Refusal)
      → option_or (refused_if (nat_lt heard (slice_index s.progress receiver)) (Acked
      (slice_index s.progress receiver)))
      (option_or (refused_if (nat_le s.next heard) (Ahead s.next)) None) ≡ Some refusal
      → RefusalFits refusal
  untimely receiver heard refusal is =
      let progress = slice_index s.progress receiver in
      refused (nat_lt heard progress) (Acked progress) _ refusal is (progress-small receiver) (λ is.
      refused (nat_le s.next heard) (Ahead s.next) _ refusal is next-small (no_more refusal))

  -- the value of each refusal fits
  pub refusal_fits : (call : Call) (refusal : Refusal) → refusal_in c s call ≡ Some refusal → RefusalFits refusal
  refusal_fits (calls.Admit sid spec) refusal is =
      refused (bad_sid sid) BadSid _ refusal is tt (λ is.
      refused (is_live sid s.flows) SidLive _ refusal is tt (λ is.
      faulty (first_fault c spec) _ refusal is (λ is.
      refused (nat_le c.flows (length s.flows)) FlowsFull _ refusal is tt (λ is.
      refused (is_periodic spec && nat_lt c.periodic (interval_grants s.flows + grants_of spec)) PeriodicFull _
      refusal is tt (no_more refusal)))))
  refusal_fits (calls.Remove sid) refusal is = unknown sid _ refusal is (no_more refusal)
  refusal_fits (calls.Ask receiver sid amount heard) refusal is =
      unknown sid _ refusal is (λ is.
      refused (is_silent sid s.flows) NotAsking _ refusal is tt (λ is.
      refused (nat_le c.receivers receiver) BadReceiver _ refusal is tt (λ is.
      refused (is_bad_amount c amount) BadBytes _ refusal is tt (untimely receiver heard refusal))))
  refusal_fits (calls.Replace receiver sid amount heard) refusal is =
      unknown sid _ refusal is (λ is.
      refused (is_silent sid s.flows) NotAsking _ refusal is tt (λ is.
      refused (nat_le c.receivers receiver) BadReceiver _ refusal is tt (λ is.
      refused (is_great_amount c amount) BadBytes _ refusal is tt (untimely receiver heard refusal))))
  refusal_fits (calls.Change sid spec) refusal is =
      unknown sid _ refusal is (λ is.
      refused (not (has_live (is_kind_of spec) sid s.flows)) OtherKind _ refusal is tt (λ is.
      faulty (first_fault c spec) _ refusal is (λ is.
      refused (is_periodic spec && nat_lt c.periodic (interval_grants
      (without sid s.flows) + grants_of spec)) PeriodicFull _
      refusal is tt (no_more refusal))))
  refusal_fits (calls.Rest sid) refusal is =
      unknown sid _ refusal is (λ is.
      refused (not (has_live is_unsolicited sid s.flows)) NotUnsolicited _ refusal is tt (λ is.
      refused (has_live (is_short_of_poll c) sid s.flows) TooShort _ refusal is tt (no_more refusal)))
  refusal_fits (calls.Wake sid) refusal is =
      unknown sid _ refusal is (λ is.
      refused (not (has_live is_unsolicited sid s.flows)) NotUnsolicited _ refusal is tt (no_more refusal))
  refusal_fits (calls.Heard receiver upto) refusal is =
      let progress = slice_index s.progress receiver in
      refused (nat_le c.receivers receiver) BadReceiver _ refusal is tt (λ is.
      refused (nat_lt s.next upto) (Ahead s.next) _ refusal is next-small (λ is.
      refused (nat_lt upto progress) (Backwards progress) _ refusal is (progress-small receiver) (no_more refusal)))
  refusal_fits (calls.Build now) refusal is =
      let next = s.next in
      refused (nat_lt last_clock now) BadClock _ refusal is tt (λ is.
      refused (nat_lt (now + most_ahead) (next + c.frame)) (TooEarly next) _ refusal is next-small (λ is.
      refused (nat_lt next (now + c.lead)) (Late next) _ refusal is next-small (no_more refusal)))
  refusal_fits (calls.Skip now) refusal is =
      let next = s.next in
      refused (nat_lt last_clock now) BadClock _ refusal is tt (λ is.
      refused (nat_le (now + c.lead) next) (NotLate next) _ refusal is next-small (no_more refusal))
  refusal_fits (calls.Reserve usage slots) refusal is =
      refused (is_to_bad_sid usage) BadSid _ refusal is tt (λ is.
      refused (slots == 0 || nat_lt (c.frame - c.req_slots) slots) BadLength _ refusal is tt (λ is.
      refused (nat_le MAX_RESERVES (length s.reserves)) ReservesFull _ refusal is tt (no_more refusal)))
  refusal_fits (calls.Header header) refusal is =
      refused_last
      (is_wide header.ranging_start || is_wide header.ranging_end || is_wide header.data_start
      || is_wide header.data_end) BadBackoff refusal is tt
  refusal_fits (calls.Status sid) refusal is = unknown sid _ refusal is (no_more refusal)
