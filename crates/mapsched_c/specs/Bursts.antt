-- Burst descriptors in plain numbers.
use Rattle.std.specs.Prelude.{◌==◌, ◌&&◌, Bool, if◌then◌else◌}
use Rattle.minislots.specs.declared.bursts.Descriptors.{Descriptors}
use Rattle.minislots.specs.declared.bursts.Profile.{Profile}
use Rattle.mapsched_c.specs.declared.bursts.PlainBursts.{PlainBursts}
use Rattle.mapsched_c.specs.declared.bursts.PlainProfile.{PlainProfile}

-- the descriptor of these numbers
abbrev pub profile_of : PlainProfile → Profile
profile_of p = record {
  preamble = p.preamble;
  guard = p.guard;
  bits = p.bits;
  parity = p.parity;
  information = p.information;
  shortened = p.shortened;
}

-- each of its numbers is 0
abbrev pub is_left_out : PlainProfile → Bool
is_left_out p =
    p.preamble == 0 && p.guard == 0 && p.bits == 0 && p.parity == 0 && p.information == 0 && p.shortened == 0

-- the descriptors of these numbers: where that of unsolicited grants is left out, it is that of long data grants
abbrev pub descriptors_of : PlainBursts → Descriptors
descriptors_of b = record {
  symbols = b.symbols;
  short = profile_of b.short_data;
  long = profile_of b.long_data;
  unsolicited = profile_of (if is_left_out b.unsolicited then b.long_data else b.unsolicited);
}
