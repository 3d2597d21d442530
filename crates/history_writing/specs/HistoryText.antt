-- The text of a history: its JSON value in compact form, and one newline.
use Rattle.std.specs.Prelude.{ℕ, ◌==◌, Bool, ◌&&◌, if◌then◌else◌, List, [], ◌∷◌, ◌++◌, map, codes}
use Rattle.serde_json.specs.Data.{Data, Members, array, object, no_members, member}
use Rattle.serde_json.specs.View.{items_of}
use Rattle.serde_json.specs.Written.{compact_text}
use Rattle.minislots.specs.declared.bursts.Bursts.{Bursts}
use Rattle.minislots.specs.declared.bursts.Bursts.TheVariants.{Uniform, Described}
use Rattle.minislots.specs.declared.bursts.Descriptors.{Descriptors}
use Rattle.minislots.specs.declared.bursts.Profile.{Profile}
use Rattle.minislots.specs.declared.config.Config.{Config}
use Rattle.sched_calls.specs.declared.reply.Entry.{Entry}
use Rattle.history_writing.specs.Json.{count, optional_member, call_data, reply_data}

-- a burst descriptor: a member for each of its numbers
unfoldable pub profile_data : Profile → Data
profile_data p = object (
    member (codes "bits") (count p.bits) (member (codes "guard") (count p.guard) (
    member (codes "information") (count p.information) (member (codes "parity") (count p.parity) (
    member (codes "preamble") (count p.preamble) (member (codes "shortened") (count p.shortened) no_members))))))

-- whether two burst descriptors have the same numbers
abbrev pub is_same_profile : Profile → Profile → Bool
is_same_profile p q = p.bits == q.bits && p.guard == q.guard && p.information == q.information
    && p.parity == q.parity && p.preamble == q.preamble && p.shortened == q.shortened

-- the descriptor of unsolicited grants, which stands only where it is another than that of long ones
unfoldable pub unsolicited_member : Descriptors → Members
unsolicited_member d = if is_same_profile d.unsolicited d.long then no_members
    else member (codes "unsolicited") (profile_data d.unsolicited) no_members

-- burst descriptors: the symbols of a minislot, and each descriptor
unfoldable pub descriptors_data : Descriptors → Data
descriptors_data d = object (
    member (codes "long") (profile_data d.long) (member (codes "short") (profile_data d.short) (
    member (codes "symbols") (count d.symbols) (unsolicited_member d))))

-- the fields of a configuration between its bursts and the overhead, and others behind them
abbrev pub front_members : Config → Members → Members
front_members c behind =
    member (codes "calls") (count c.calls) (
    member (codes "channel") (count c.channel) (member (codes "cycle") (count c.cycle) (
    member (codes "data_end") (count c.data_end) (member (codes "data_start") (count c.data_start) (
    optional_member 64 (codes "flows") c.flows (
    member (codes "frame") (count c.frame) (member (codes "grant_cap") (count c.grant_cap) (
    member (codes "lead") (count c.lead) (optional_member 0 (codes "open_idle") c.open_idle behind)))))))))

-- the fields behind the overhead
abbrev pub back_members : Config → Members
back_members c =
    optional_member 64 (codes "pending") c.pending (optional_member 40 (codes "periodic") c.periodic (
    member (codes "phy") (count c.phy) (member (codes "poll_slots") (count c.poll_slots) (
    member (codes "quantum") (count c.quantum) (
    member (codes "ranging_end") (count c.ranging_end) (member (codes "ranging_start") (count c.ranging_start) (
    member (codes "receivers") (count c.receivers) (member (codes "req_slots") (count c.req_slots) (
    optional_member 0 (codes "settle") c.settle (
    member (codes "short_max") (count c.short_max) (member (codes "start") (count c.start) (
    member (codes "ticks") (count c.ticks) (member (codes "ucd_count") (count c.ucd_count) no_members)))))))))))))

-- a configuration with these bursts
abbrev pub members_with : Config → Bursts → Members
members_with c (Uniform bytes_per_slot overhead) = member (codes "bytes_per_slot") (count bytes_per_slot)
    (front_members c (member (codes "overhead") (count overhead) (back_members c)))
members_with c (Described d) = member (codes "bursts") (descriptors_data d) (front_members c (back_members c))

-- a configuration: a member for each field, but for one that may be missing and is then the same
unfoldable pub config_data : Config → Data
config_data c = object (members_with c c.bursts)

-- an entry: its stamp, its call and its reply
unfoldable pub entry_data : Entry → Data
entry_data e = object (
    member (codes "call") (call_data e.call) (member (codes "reply") (reply_data e.reply)
    (member (codes "seat") (count e.stamp.seat) (member (codes "ticket") (count e.stamp.ticket) no_members))))

-- the entries, in their order
unfoldable pub entries_data : List Entry → Data
entries_data es = array (items_of (map entry_data es))

-- a history under a configuration
unfoldable pub history_data : Config → List Entry → Data
history_data c es = object (member (codes "config") (config_data c)
    (member (codes "entries") (entries_data es) no_members))

-- the text of a history: without a space, and ended by one newline
unfoldable pub history_text : Config → List Entry → List ℕ
history_text c es = compact_text (history_data c es) ++ 10 ∷ []
