-- What the minislots of the frames of a history are for.
use Rattle.std.specs.Prelude.{◌≡◌, ℕ, ◌+◌, ◌<◌, ◌^◌, ◌==◌, Bool, true, false, if◌then◌else◌, List, sum_by}
use Rattle.minislots.specs.declared.config.Config.{Config}
use Rattle.map_codec.specs.declared.element.Element.{Element}
use Rattle.map_codec.specs.declared.element.iuc.TheConstants.{REQUEST}
use Rattle.map_codec.specs.Element.{nulls, Ascends}
use Rattle.map_drawing.specs.declared.allocation.Allocation.{Allocation}
use Rattle.map_drawing.specs.declared.usage.TheConstants.{ALL_MODEMS}
use Rattle.map_drawing.specs.Allocation.{frame_slots, allocations_of}
use Rattle.map_build.specs.declared.met.Met.{Met}
use Rattle.map_build.specs.Reading.{meets_at}
use Rattle.sched_calls.specs.declared.reply.Reply.TheVariants.{Built}
use Rattle.sched_history.specs.Reserves.{met_after}
use Rattle.frame_picture.specs.OpenIdle.{is_open_idle}
use Rattle.frame_picture.specs.Frames.{Frame, is_unsolicited_after}
use Rattle.sched_report.specs.declared.slots.Slots.{Slots}
use Rattle.sched_report.specs.declared.slots.Use.{Use}
use Rattle.sched_report.specs.declared.slots.Use.TheVariants.{Request, Poll, Unsolicited, Opportunity, Data, Open, Idle}

-- what the minislots of an allocation are for, where a Reserve's opportunity that is met begins there or not, and the
-- flow that lives under its service identifier is unsolicited or not: what is met is an opportunity, whatever stands
-- there. Of the others a request region of one modem is a poll, one of all modems behind the first is an open idle, and
-- a grant to none is idle
unfoldable pub use_of : Allocation → Bool → Bool → Use
use_of a met unsolicited =
    if met then Opportunity
    else if is_open_idle a then Open
    else if a.iuc == REQUEST then if a.sid == ALL_MODEMS then Request else Poll
    else if a.sid == 0 then Idle
    else if unsolicited then Unsolicited
    else Data

-- the use is the request region, where all modems may ask
abbrev pub is_request : Use → Bool
is_request Request = true
is_request other = false

-- it is a poll: one modem may ask
abbrev pub is_poll : Use → Bool
is_poll Poll = true
is_poll other = false

-- it is a grant to an unsolicited flow
abbrev pub is_unsolicited : Use → Bool
is_unsolicited Unsolicited = true
is_unsolicited other = false

-- it is an opportunity that a Reserve asked for
abbrev pub is_opportunity : Use → Bool
is_opportunity Opportunity = true
is_opportunity other = false

-- it is a data grant, for bytes that were asked
abbrev pub is_data : Use → Bool
is_data Data = true
is_data other = false

-- it is an idle that is open to requests
abbrev pub is_open : Use → Bool
is_open Open = true
is_open other = false

-- it is a grant to no modem
abbrev pub is_idle : Use → Bool
is_idle Idle = true
is_idle other = false

-- the minislots of an allocation, where it has this use: its MAP meets these opportunities, and each flow is
-- unsolicited or not
abbrev pub slots_with : (Use → Bool) → List Met → (ℕ → Bool) → Allocation → ℕ
slots_with kind met unsolicited a =
    if kind (use_of a (meets_at met a.offset) (unsolicited a.sid)) then a.length else 0

-- the minislots of some allocations by their use
abbrev pub slots_among : List Met → (ℕ → Bool) → List Allocation → Slots
slots_among met unsolicited some = record {
  data_grants = sum_by (slots_with is_data met unsolicited) some;
  idle = sum_by (slots_with is_idle met unsolicited) some;
  open_idle = sum_by (slots_with is_open met unsolicited) some;
  opportunity = sum_by (slots_with is_opportunity met unsolicited) some;
  poll = sum_by (slots_with is_poll met unsolicited) some;
  request = sum_by (slots_with is_request met unsolicited) some;
  unsolicited = sum_by (slots_with is_unsolicited met unsolicited) some;
}

-- the minislots of a frame by their use: each belongs to the element that it stands behind, up to the next one. What
-- its MAP meets goes by the entries before it and by where its elements begin
abbrev pub slots_in : Config → Frame → Slots
slots_in c f =
    slots_among (met_after c f.before (Built f.built)) (is_unsolicited_after f.before)
    (allocations_of f.built.wire.elements)

-- the minislots of some frames by their use
abbrev pub slots_of : Config → List Frame → Slots
slots_of c fs = record {
  data_grants = sum_by (λ f. (slots_in c f).data_grants) fs;
  idle = sum_by (λ f. (slots_in c f).idle) fs;
  open_idle = sum_by (λ f. (slots_in c f).open_idle) fs;
  opportunity = sum_by (λ f. (slots_in c f).opportunity) fs;
  poll = sum_by (λ f. (slots_in c f).poll) fs;
  request = sum_by (λ f. (slots_in c f).request) fs;
  unsolicited = sum_by (λ f. (slots_in c f).unsolicited) fs;
}

-- the minislots of all uses together
abbrev pub all_slots : Slots → ℕ
all_slots s = s.data_grants + s.idle + s.open_idle + s.opportunity + s.poll + s.request + s.unsolicited

-- the minislots of one use more
abbrev pub with_slots : Slots → Use → ℕ → Slots
with_slots s Request n = record s { request = s.request + n }
with_slots s Poll n = record s { poll = s.poll + n }
with_slots s Unsolicited n = record s { unsolicited = s.unsolicited + n }
with_slots s Opportunity n = record s { opportunity = s.opportunity + n }
with_slots s Data n = record s { data_grants = s.data_grants + n }
with_slots s Open n = record s { open_idle = s.open_idle + n }
with_slots s Idle n = record s { idle = s.idle + n }

-- the minislots of two together
abbrev pub sum_of : Slots → Slots → Slots
sum_of a b = record {
  data_grants = a.data_grants + b.data_grants;
  idle = a.idle + b.idle;
  open_idle = a.open_idle + b.open_idle;
  opportunity = a.opportunity + b.opportunity;
  poll = a.poll + b.poll;
  request = a.request + b.request;
  unsolicited = a.unsolicited + b.unsolicited;
}

-- The elements are those of a frame: one Null, no offset before it descends, and fewer than 2^14 minislots
pub record AreOfFrame (es : List Element) : Type 0 where
  pub one_null : nulls es ≡ 1
  pub ascends : Ascends es
  pub short : frame_slots es < 2 ^ 14
