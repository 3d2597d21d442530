-- Worked rows: one configuration and its units, and the first wrong field of others.
use Rattle.std.proofs.Common.{◌≡◌, refl, true, false, Some, None}
use Rattle.minislots.specs.declared.bursts.Bursts.TheVariants.{Uniform, Described}
use Rattle.minislots.specs.declared.bursts.Profile.{Profile}
use Rattle.minislots.specs.declared.config.Config.{Config}
use Rattle.minislots.specs.declared.config.ConfigFault.TheVariants.{Ticks, Bursts, Frame, Lead}
use Rattle.minislots.specs.declared.config.ConfigFault.TheVariants.{GrantCap, Start, DataEnd, Phy}
use Rattle.minislots.specs.declared.config.ConfigFault.TheVariants.{Flows, Pending, Periodic, OpenIdle, Settle}
use Rattle.minislots.specs.Config.{first_wrong, IsLawful}
use Rattle.minislots.specs.Bursts.{coded, symbols_of, slots_by, bytes_by}
use Rattle.minislots.specs.Units.{is_short, slots_floor, slots_of_micros, slots_for, bytes_in, wire_of}

-- minislots of 25 microseconds and 16 bytes, in frames of 40
abbrev base : Config
base = record {
  ticks = 4;
  bursts = Uniform 16 2;
  frame = 40;
  cycle = 20;
  req_slots = 4;
  poll_slots = 2;
  lead = 40;
  short_max = 8;
  quantum = 64;
  grant_cap = 2000;
  receivers = 1;
  calls = 1000;
  start = 800;
  ranging_start = 0;
  ranging_end = 0;
  data_start = 0;
  data_end = 0;
  channel = 3;
  ucd_count = 1;
  phy = 0;
  flows = 64;
  pending = 64;
  periodic = 40;
  open_idle = 0;
  settle = 0;
}

base_is_lawful : IsLawful base
unfolding first_wrong
base_is_lawful = refl

-- a UCD of minislots of 64 symbols with 64-QAM profiles, whose last codewords are shortened
abbrev short_qam64 : Profile
short_qam64 =
    record { preamble = 32; guard = 22; bits = 6; parity = 6; information = 76; shortened = 1 }

abbrev long_qam64 : Profile
long_qam64 =
    record { preamble = 32; guard = 22; bits = 6; parity = 9; information = 232; shortened = 1 }

abbrev described : Config
described = record base {
  ticks = 2;
  bursts = Described (record { symbols = 64; short = short_qam64; long = long_qam64; unsolicited = long_qam64 });
  short_max = 6;
}

described_is_lawful : IsLawful described
unfolding first_wrong slots_by
described_is_lawful = refl

coded_of_64_bytes : (coded short_qam64 64 ≡ 76) × (symbols_of short_qam64 64 ≡ 156)
coded_of_64_bytes = (refl, refl)

short_burst_of_64_bytes : (is_short described 64 ≡ true) × (slots_for described 64 ≡ 3)
unfolding slots_by
short_burst_of_64_bytes = (refl, refl)

coded_of_240_bytes : (coded long_qam64 240 ≡ 284) × (symbols_of long_qam64 240 ≡ 433)
coded_of_240_bytes = (refl, refl)

a_burst_too_long_for_short_grants_is_long : (is_short described 240 ≡ false) × (slots_for described 240 ≡ 7)
unfolding slots_by
a_burst_too_long_for_short_grants_is_long = (refl, refl)

the_longest_short_burst : (is_short described 211 ≡ true) × (slots_for described 211 ≡ 6)
unfolding slots_by
the_longest_short_burst = (refl, refl)

the_next_burst_is_long : (is_short described 212 ≡ false) × (slots_for described 212 ≡ 6)
unfolding slots_by
the_next_burst_is_long = (refl, refl)

coded_of_1526_bytes : (coded long_qam64 1526 ≡ 1652) × (symbols_of long_qam64 1526 ≡ 2257)
coded_of_1526_bytes = (refl, refl)

long_burst_of_1526_bytes : slots_for described 1526 ≡ 36
unfolding slots_by
long_burst_of_1526_bytes = refl

a_fixed_last_codeword_is_a_full_one : (coded (record long_qam64 { shortened = 0 }) 1526 ≡ 1750)
    × (symbols_of (record long_qam64 { shortened = 0 }) 1526 ≡ 2388)
    × (slots_by 64 (record long_qam64 { shortened = 0 }) 1526 ≡ 38)
unfolding slots_by
a_fixed_last_codeword_is_a_full_one = (refl, refl, refl)

-- short grants by QPSK, beside which long ones are shorter
abbrev short_qpsk : Profile
short_qpsk = record { preamble = 32; guard = 22; bits = 2; parity = 4; information = 40; shortened = 1 }

abbrev mixed : Config
mixed = record described {
  bursts = Described (record { symbols = 64; short = short_qpsk; long = long_qam64; unsolicited = long_qam64 });
  short_max = 8;
}

a_short_burst_that_long_grants_carry_in_less_is_long : (coded short_qpsk 80 ≡ 96) × (symbols_of short_qpsk 80 ≡ 438)
    × (slots_by 64 short_qpsk 80 ≡ 7) × (coded long_qam64 80 ≡ 98) × (symbols_of long_qam64 80 ≡ 185)
    × (is_short mixed 80 ≡ false) × (slots_for mixed 80 ≡ 3)
unfolding slots_by
a_short_burst_that_long_grants_carry_in_less_is_long = (refl, refl, refl, refl, refl, refl, refl)

bytes_in_6_and_36_slots : (bytes_in described 6 ≡ 229) × (bytes_in described 36 ≡ 1561)
unfolding bytes_by
bytes_in_6_and_36_slots = (refl, refl)

codewords_of_16_information_bytes_at_least :
    first_wrong (record described {
      bursts = Described (record {
        symbols = 64;
        short = record short_qam64 { information = 15 };
        long = long_qam64;
        unsolicited = long_qam64;
      });
    }) ≡ Some Bursts
unfolding first_wrong
codewords_of_16_information_bytes_at_least = refl

floor_of_790_micros : slots_floor base 790 ≡ 31
floor_of_790_micros = refl

no_whole_slots_in_790_micros : slots_of_micros base 790 ≡ None
no_whole_slots_in_790_micros = refl

whole_slots_in_800_micros : slots_of_micros base 800 ≡ Some 32
whole_slots_in_800_micros = refl

slots_for_one_byte : slots_for base 1 ≡ 3
slots_for_one_byte = refl

no_bytes_in_the_overhead : bytes_in base 2 ≡ 0
no_bytes_in_the_overhead = refl

bytes_in_36_slots : bytes_in base 36 ≡ 544
bytes_in_36_slots = refl

low_bits_stand_on_the_wire : wire_of 4294967320 ≡ 24
low_bits_stand_on_the_wire = refl

three_ticks : first_wrong (record base { ticks = 3 }) ≡ Some Ticks
unfolding first_wrong
three_ticks = refl

frame_of_15 : first_wrong (record base { frame = 15 }) ≡ Some Frame
unfolding first_wrong
frame_of_15 = refl

lead_before_start : first_wrong (record base { frame = 1024; start = 800; lead = 2049 }) ≡ Some Lead
unfolding first_wrong
lead_before_start = refl

start_within_a_frame : first_wrong (record base { frame = 1024; start = 800; lead = 2048 }) ≡ Some Start
unfolding first_wrong
start_within_a_frame = refl

cap_below_the_quantum : first_wrong (record base { grant_cap = 63 }) ≡ Some GrantCap
unfolding first_wrong
cap_below_the_quantum = refl

backoff_end_of_16 : first_wrong (record base { data_end = 16 }) ≡ Some DataEnd
unfolding first_wrong
backoff_end_of_16 = refl

phy_of_1 : IsLawful (record base { phy = 1 })
unfolding first_wrong
phy_of_1 = refl

phy_of_2 : first_wrong (record base { phy = 2 }) ≡ Some Phy
unfolding first_wrong
phy_of_2 = refl

phy_after_the_backoffs : first_wrong (record base { data_end = 16; phy = 2 }) ≡ Some DataEnd
unfolding first_wrong
phy_after_the_backoffs = refl

the_most_flows : IsLawful (record base { flows = 8191; pending = 125; periodic = 2560 })
unfolding first_wrong
the_most_flows = refl

the_fewest_flows : IsLawful (record base { flows = 1; pending = 1; periodic = 0 })
unfolding first_wrong
the_fewest_flows = refl

no_flows : first_wrong (record base { flows = 0; pending = 0; periodic = 2561 }) ≡ Some Flows
unfolding first_wrong
no_flows = refl

flows_of_8192 : first_wrong (record base { flows = 8192 }) ≡ Some Flows
unfolding first_wrong
flows_of_8192 = refl

no_pending_grants : first_wrong (record base { pending = 0; periodic = 2561 }) ≡ Some Pending
unfolding first_wrong
no_pending_grants = refl

pending_of_126 : first_wrong (record base { pending = 126 }) ≡ Some Pending
unfolding first_wrong
pending_of_126 = refl

periodic_of_2561 : first_wrong (record base { periodic = 2561 }) ≡ Some Periodic
unfolding first_wrong
periodic_of_2561 = refl

idles_open_for_requests : IsLawful (record base { open_idle = 1; settle = 4096 })
unfolding first_wrong
idles_open_for_requests = refl

open_idle_of_2 : first_wrong (record base { open_idle = 2; settle = 4097 }) ≡ Some OpenIdle
unfolding first_wrong
open_idle_of_2 = refl

settle_of_4097 : first_wrong (record base { settle = 4097 }) ≡ Some Settle
unfolding first_wrong
settle_of_4097 = refl

flows_after_phy : first_wrong (record base { phy = 2; flows = 0 }) ≡ Some Phy
unfolding first_wrong
flows_after_phy = refl
