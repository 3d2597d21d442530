-- The fields in which two configurations may differ, in the order in which they are documented.
use Rattle.std.specs.Prelude.{ℕ, ◌==◌, if◌then◌else◌, List, [], ◌∷◌, ◌++◌, Option, None, Some}
use Rattle.minislots.specs.declared.bursts.Bursts.{Bursts}
use Rattle.minislots.specs.declared.bursts.Bursts.TheVariants as bursts
use Rattle.minislots.specs.declared.bursts.Descriptors.{Descriptors}
use Rattle.minislots.specs.declared.bursts.Profile.{Profile}
use Rattle.minislots.specs.declared.config.Config.{Config}
use Rattle.live_command.specs.declared.difference.Difference.{Difference}
use Rattle.live_command.specs.declared.field.Field.{Field}
use Rattle.live_command.specs.declared.field.Field.TheVariants as field
use Rattle.live_command.specs.declared.field.Member.TheVariants as member
use Rattle.live_command.specs.declared.field.Usage.{Usage}
use Rattle.live_command.specs.declared.field.Usage.TheVariants as usage

-- a field in which the journal and what is handed in have these numbers
abbrev pub numbers : Field → ℕ → ℕ → Difference
numbers field journal given = record {
  field = field;
  journal = journal;
  given = given;
}

-- the first of these in which the numbers differ
abbrev pub first_of : List Difference → Option Difference
first_of [] = None
first_of (d ∷ fields) = if d.journal == d.given then first_of fields else Some d

-- the numbers of a profile
abbrev pub profile_numbers : Usage → Profile → Profile → List Difference
profile_numbers usage a b = numbers (field.Profile usage member.Preamble) a.preamble b.preamble
    ∷ numbers (field.Profile usage member.Guard) a.guard b.guard
    ∷ numbers (field.Profile usage member.Bits) a.bits b.bits
    ∷ numbers (field.Profile usage member.Parity) a.parity b.parity
    ∷ numbers (field.Profile usage member.Information) a.information b.information
    ∷ numbers (field.Profile usage member.Shortened) a.shortened b.shortened ∷ []

-- those of bursts with profiles
abbrev pub described_numbers : Descriptors → Descriptors → List Difference
described_numbers a b = (((numbers field.Symbols a.symbols b.symbols ∷ [])
    ++ profile_numbers usage.Short a.short b.short) ++ profile_numbers usage.Long a.long b.long)
    ++ profile_numbers usage.Unsolicited a.unsolicited b.unsolicited

-- the two numbers that stand in the place of bursts, where both have them
abbrev pub uniform_numbers : Bursts → Bursts → List Difference
uniform_numbers (bursts.Uniform bytes overhead) (bursts.Uniform other_bytes other_overhead) =
    numbers field.BytesPerSlot bytes other_bytes ∷ numbers field.Overhead overhead other_overhead ∷ []
uniform_numbers (bursts.Uniform bytes overhead) (bursts.Described b) = []
uniform_numbers (bursts.Described a) (bursts.Uniform other_bytes other_overhead) = []
uniform_numbers (bursts.Described a) (bursts.Described b) = []

-- the bursts: whether there are any, or their numbers where both have them
abbrev pub bursts_numbers : Bursts → Bursts → List Difference
bursts_numbers (bursts.Uniform bytes overhead) (bursts.Uniform other_bytes other_overhead) = []
bursts_numbers (bursts.Uniform bytes overhead) (bursts.Described b) = numbers field.Bursts 0 1 ∷ []
bursts_numbers (bursts.Described a) (bursts.Uniform other_bytes other_overhead) = numbers field.Bursts 1 0 ∷ []
bursts_numbers (bursts.Described a) (bursts.Described b) = described_numbers a b

-- the fields between these
abbrev pub numbers_between : Config → Config → List Difference
numbers_between a b = numbers field.Frame a.frame b.frame ∷ numbers field.Cycle a.cycle b.cycle
    ∷ numbers field.ReqSlots a.req_slots b.req_slots ∷ numbers field.PollSlots a.poll_slots b.poll_slots
    ∷ numbers field.Lead a.lead b.lead ∷ numbers field.ShortMax a.short_max b.short_max
    ∷ numbers field.Quantum a.quantum b.quantum ∷ numbers field.GrantCap a.grant_cap b.grant_cap
    ∷ numbers field.Receivers a.receivers b.receivers ∷ numbers field.Calls a.calls b.calls
    ∷ numbers field.Start a.start b.start ∷ numbers field.RangingStart a.ranging_start b.ranging_start
    ∷ numbers field.RangingEnd a.ranging_end b.ranging_end ∷ numbers field.DataStart a.data_start b.data_start
    ∷ numbers field.DataEnd a.data_end b.data_end ∷ numbers field.Channel a.channel b.channel
    ∷ numbers field.UcdCount a.ucd_count b.ucd_count ∷ numbers field.Phy a.phy b.phy ∷ []

-- the fields behind the bursts
abbrev pub numbers_behind : Config → Config → List Difference
numbers_behind a b = numbers field.Flows a.flows b.flows ∷ numbers field.Pending a.pending b.pending
    ∷ numbers field.Periodic a.periodic b.periodic ∷ numbers field.OpenIdle a.open_idle b.open_idle
    ∷ numbers field.Settle a.settle b.settle ∷ []

-- the fields of a journal's configuration and of one that is handed in
abbrev pub differences_of : Config → Config → List Difference
differences_of a b = ((((numbers field.Ticks a.ticks b.ticks ∷ []) ++ uniform_numbers a.bursts b.bursts)
    ++ numbers_between a b) ++ bursts_numbers a.bursts b.bursts) ++ numbers_behind a b
