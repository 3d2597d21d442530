-- A reply in plain numbers.
use Rattle.std.specs.Prelude.{ℕ, ◌≤◌, ◌++◌, length, drop, Option, None, Some}
use Rattle.map_codec.specs.WireMap.{spelling}
use Rattle.sched_calls.specs.declared.placement.Placement.{Placement}
use Rattle.sched_calls.specs.declared.reply.Reply.{Reply}
use Rattle.sched_calls.specs.declared.reply.Reply.TheVariants.{Admitted, Removed, Taken, Noted, Built, Skipped, Flow}
use Rattle.sched_calls.specs.declared.reply.Reply.TheVariants.{Refused, Reserved, Changed}
use Rattle.sched_lines.specs.Line.{refusal_number, refusal_value}
use Rattle.mapsched_c.specs.declared.reply.PlainReply.{PlainReply}
use Rattle.mapsched_c.specs.declared.reply.TheConstants.{MAX_STARTS}
use Rattle.mapsched_c.specs.declared.reply.answer.TheConstants.{ADMITTED, PLACED, REMOVED, TAKEN, NOTED, BUILT}
use Rattle.mapsched_c.specs.declared.reply.answer.TheConstants.{SKIPPED, FLOW, REFUSED, RESERVED, CHANGED}

-- a placement in the reply has no more starts than there is room for
abbrev pub HasRoom : Reply → Type 0
HasRoom (Admitted None) = Unit {0}
HasRoom (Admitted (Some placement)) = length placement.starts ≤ MAX_STARTS
HasRoom (Changed None) = Unit {0}
HasRoom (Changed (Some placement)) = length placement.starts ≤ MAX_STARTS
HasRoom Removed = Unit {0}
HasRoom Taken = Unit {0}
HasRoom Noted = Unit {0}
HasRoom Reserved = Unit {0}
HasRoom (Built m) = Unit {0}
HasRoom (Skipped next) = Unit {0}
HasRoom (Flow asked granted outstanding) = Unit {0}
HasRoom (Refused refusal) = Unit {0}

-- a reply of this kind without numbers, over what stood there
abbrev pub with_kind : PlainReply → ℕ → PlainReply
with_kind old kind = record old {
  kind = kind;
  refusal = 0;
  starts_count = 0;
  length = 0;
  value = 0;
  asked = 0;
  granted = 0;
  outstanding = 0;
}

-- the number, or 0 where there is none
abbrev pub or_zero : Option ℕ → ℕ
or_zero None = 0
or_zero (Some n) = n

-- a reply of this kind with a placement, over what stood there
abbrev pub with_placement : PlainReply → ℕ → Placement → PlainReply
with_placement old kind p = record (with_kind old kind) {
  starts_count = length p.starts;
  value = p.reference;
  starts = p.starts ++ drop (length p.starts) old.starts;
}

-- a reply, over what stood there: starts and bytes stand at the front, and the rest stays
abbrev pub plain_reply : PlainReply → Reply → PlainReply
plain_reply old (Admitted None) = with_kind old ADMITTED
plain_reply old (Admitted (Some p)) = with_placement old PLACED p
plain_reply old (Changed None) = with_kind old CHANGED
plain_reply old (Changed (Some p)) = with_placement old CHANGED p
plain_reply old Removed = with_kind old REMOVED
plain_reply old Taken = with_kind old TAKEN
plain_reply old Noted = with_kind old NOTED
plain_reply old Reserved = with_kind old RESERVED
plain_reply old (Built m) = record (with_kind old BUILT) {
  length = length (spelling m.wire);
  value = m.start;
  payload = spelling m.wire ++ drop (length (spelling m.wire)) old.payload;
}
plain_reply old (Skipped next) = record (with_kind old SKIPPED) { value = next }
plain_reply old (Flow asked granted outstanding) = record (with_kind old FLOW) {
  asked = asked;
  granted = granted;
  outstanding = outstanding;
}
plain_reply old (Refused refusal) = record (with_kind old REFUSED) {
  refusal = refusal_number refusal;
  value = or_zero (refusal_value refusal);
}
