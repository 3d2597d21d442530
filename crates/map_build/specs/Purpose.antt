-- The kinds of allocations: what each is on the wire, and its class. A kind more is one line in each of these tables.
use Rattle.std.specs.Prelude.{◌≡◌, ℕ, ◌+◌, Bool, true, false, ◌==◌, ◌&&◌, nat_le, List, [], ◌∷◌}
use Rattle.std.specs.Prelude.{Option, None, Some, if◌then◌else◌}
use Rattle.minislots.specs.declared.config.Config.{Config}
use Rattle.minislots.specs.Units.{is_short}
use Rattle.map_codec.specs.declared.element.Element.{Element}
use Rattle.map_codec.specs.declared.element.iuc.TheConstants.{REQUEST, INITIAL_MAINTENANCE, STATION_MAINTENANCE}
use Rattle.flow_book.specs.declared.flow.Grant.{Grant}
use Rattle.periodic.specs.declared.placement.Spot.{Spot}
use Rattle.sched_calls.specs.declared.opportunity.Usage.{Usage}
use Rattle.sched_calls.specs.declared.opportunity.Usage.TheVariants.{Initial, InitialTo, Station, Request, Quiet, DataTo}
use Rattle.map_build.specs.declared.purpose.Allocation.{Allocation}
use Rattle.map_build.specs.declared.purpose.Kind.{Kind}
use Rattle.map_build.specs.declared.purpose.Purpose.{Purpose}
use Rattle.map_build.specs.declared.purpose.Purpose.TheVariants.{Poll, UnsolicitedGrant, Offer, DataGrant, Idle}
use Rattle.map_build.specs.UsageCodes.{long_iuc, data_iuc, full_iuc, unsolicited_iuc}

-- all modems
abbrev pub broadcast : ℕ
broadcast = 16383

-- the SID that an opportunity goes to
abbrev pub sid_for : Usage → ℕ
sid_for Initial = broadcast
sid_for (InitialTo sid) = sid
sid_for (Station sid) = sid
sid_for (Request sid) = sid
sid_for Quiet = 0
sid_for (DataTo sid) = sid

-- the usage code of an opportunity of so many minislots
abbrev pub iuc_for : Config → ℕ → Usage → ℕ
iuc_for c slots Initial = INITIAL_MAINTENANCE
iuc_for c slots (InitialTo sid) = INITIAL_MAINTENANCE
iuc_for c slots (Station sid) = STATION_MAINTENANCE
iuc_for c slots (Request sid) = REQUEST
iuc_for c slots Quiet = long_iuc c
iuc_for c slots (DataTo sid) = full_iuc c slots

-- whether an idle of so many minislots is open to the requests of all modems
abbrev pub is_open : Config → ℕ → Bool
is_open c slots = c.open_idle == 1 && nat_le c.poll_slots slots

-- what the element of an allocation of so many minislots says, and the bytes that are told beside it: those of a data
-- grant, else 0. An open idle says what a request region does.
abbrev pub kind_of : Config → ℕ → Purpose → Kind
kind_of c slots (Poll sid) = record { sid = sid; iuc = REQUEST; bytes = 0 }
kind_of c slots (UnsolicitedGrant sid size) = record { sid = sid; iuc = unsolicited_iuc c size; bytes = 0 }
kind_of c slots (Offer place usage) = record { sid = sid_for usage; iuc = iuc_for c slots usage; bytes = 0 }
kind_of c slots (DataGrant sid bytes) = record { sid = sid; iuc = data_iuc c bytes; bytes = bytes }
kind_of c slots Idle = record {
  sid = if is_open c slots then broadcast else 0;
  iuc = if is_open c slots then REQUEST else long_iuc c;
  bytes = 0;
}

-- the classes of allocations, in the order of who goes first where several could stand at an offset
pub data Class : Type 0 where
  -- what has its place in the cycle
  Placed : Class
  -- what was reserved
  Reserved : Class
  -- what was requested
  Requested : Class
  -- the rest
  Left : Class

-- the class of each kind
abbrev pub class_of : Purpose → Class
class_of (Poll sid) = Placed
class_of (UnsolicitedGrant sid size) = Placed
class_of (Offer place usage) = Reserved
class_of (DataGrant sid bytes) = Requested
class_of Idle = Left

-- the classes that go before this one
abbrev pub classes_before : Class → List Class
classes_before Placed = []
classes_before Reserved = Placed ∷ []
classes_before Requested = Placed ∷ Reserved ∷ []
classes_before Left = Placed ∷ Reserved ∷ Requested ∷ []

-- whether it is a data grant
abbrev pub is_data_grant : Purpose → Bool
is_data_grant (DataGrant sid bytes) = true
is_data_grant purpose = false

-- the place, among the opportunities that wait, of the one that it is
abbrev pub place_of : Purpose → Option ℕ
place_of (Offer place usage) = Some place
place_of purpose = None

-- the data grant of an allocation to this flow, in the frame that starts there
abbrev pub grant_to : ℕ → ℕ → Purpose → ℕ → Option Grant
grant_to start sid (DataGrant other bytes) offset =
    if other == sid then Some (record { start = start + offset; bytes = bytes }) else None
grant_to start sid purpose offset = None

-- what a flow's place is for: an unsolicited grant of so many bytes, or a poll
abbrev pub purpose_of : ℕ → Option ℕ → Purpose
purpose_of sid None = Poll sid
purpose_of sid (Some size) = UnsolicitedGrant sid size

-- the allocation of a spot
abbrev pub allocation_of : Spot → Allocation
allocation_of s = record { offset = s.offset; slots = s.slots; purpose = purpose_of s.sid s.size }

-- the element of an allocation
abbrev pub element_of : Config → Allocation → Element
element_of c a = record {
  sid = (kind_of c a.slots a.purpose).sid;
  iuc = (kind_of c a.slots a.purpose).iuc;
  offset = a.offset;
}

-- its bytes
abbrev pub bytes_in : Config → Allocation → ℕ
bytes_in c a = (kind_of c a.slots a.purpose).bytes

-- whether it is short is what the bytes of a data grant say
abbrev pub IsUsage : Config → Bool → Purpose → Type 0
IsUsage c short (DataGrant sid bytes) = short ≡ is_short c bytes
IsUsage c short purpose = Unit {0}

-- where it is known whether a data grant is short, it is so
abbrev pub HasUsage : Config → Option Bool → Purpose → Type 0
HasUsage c None purpose = Unit {0}
HasUsage c (Some short) purpose = IsUsage c short purpose
