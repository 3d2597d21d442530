-- A profile's numbers multiplied out for a channel's minislots, by which its bursts take no division.
use Rattle.std.specs.Prelude.{ℕ, ◌+◌, ◌-◌, ◌*◌, ◌/◌, ◌^◌, ◌==◌, if◌then◌else◌}
use Rattle.minislots.specs.declared.bursts.Bursts.{Bursts}
use Rattle.minislots.specs.declared.bursts.Bursts.TheVariants.{Uniform, Described}
use Rattle.minislots.specs.declared.bursts.Profile.{Profile}
use Rattle.minislots.specs.declared.products.Products.{Products}
use Rattle.minislots.specs.Bursts.{least_information, parity_bytes, codeword}

-- what a number is multiplied by in the place of a division by this one, where its product is then divided by the scale
abbrev pub inverse : ℕ → ℕ → ℕ
inverse scale divisor = scale / divisor + 1

-- the scale of inverses by which bytes are divided
abbrev pub byte_scale : ℕ
byte_scale = 2 ^ 31

-- and of those by which bits are
abbrev pub bit_scale : ℕ
bit_scale = 2 ^ 39

-- the information bytes that a last codeword is filled up to
abbrev pub filled_up : Profile → ℕ
filled_up p = if p.shortened == 1 then least_information else p.information

-- the bits of a burst of one byte that is not filled up, and those but one of a minislot, so that a division rounds up
abbrev pub first_bits : ℕ → Profile → ℕ
first_bits symbols p = p.bits * (p.preamble + p.guard) + 8 * (parity_bytes p + 1) + (p.bits * symbols - 1)

-- a profile's numbers, where a minislot has so many symbols: without FEC there are no full codewords, and any byte has
-- room in the last one
abbrev pub products : ℕ → Profile → Products
products symbols p = record {
  by_slot = inverse bit_scale (p.bits * symbols);
  by_information = if p.parity == 0 then 0 else inverse byte_scale p.information;
  by_codeword = if p.parity == 0 then 0 else inverse byte_scale (codeword p);
  information = p.information;
  parity = parity_bytes p;
  codeword = codeword p;
  shortest = if p.parity == 0 then 0 else filled_up p + parity_bytes p;
  parity_bits = 8 * parity_bytes p;
  codeword_bits = 8 * codeword p;
  slot_bits = p.bits * symbols;
  head_bits = p.bits * (p.preamble + p.guard);
  first_bits = first_bits symbols p;
  least_bits = first_bits symbols p + 8 * (if p.parity == 0 then 0 else filled_up p - 1);
}

-- those of no profile
abbrev pub no_products : Products
no_products = record {
  by_slot = 0;
  by_information = 0;
  by_codeword = 0;
  information = 0;
  parity = 0;
  codeword = 0;
  shortest = 0;
  parity_bits = 0;
  codeword_bits = 0;
  slot_bits = 0;
  head_bits = 0;
  first_bits = 0;
  least_bits = 0;
}

-- those of the profile of long data grants, where there is one
abbrev pub long_products : Bursts → Products
long_products (Uniform bytes_per_slot overhead) = no_products
long_products (Described d) = products d.symbols d.long

-- and of that of short ones
abbrev pub short_products : Bursts → Products
short_products (Uniform bytes_per_slot overhead) = no_products
short_products (Described d) = products d.symbols d.short
