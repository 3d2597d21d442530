-- What the data grants of a configuration go by.
use Rattle.std.specs.Prelude.{◌-◌}
use Rattle.minislots.specs.declared.config.Config.{Config}
use Rattle.minislots.specs.declared.config.GrantSizes.{GrantSizes}
use Rattle.minislots.specs.Bursts.{short_sizes}
use Rattle.minislots.specs.Products.{long_products, short_products}
use Rattle.minislots.specs.Units.{slots_for, is_short}

-- how many numbers of bytes have short grants, the minislots and the usage of a grant of the grant cap, the most bytes
-- of a short grant, and the numbers of both profiles
abbrev pub grant_sizes : Config → GrantSizes
grant_sizes c = record {
  short = short_sizes c.bursts c.short_max;
  cap_slots = slots_for c c.grant_cap;
  cap_is_short = is_short c c.grant_cap;
  short_bytes = short_sizes c.bursts c.short_max - 1;
  by_long = long_products c.bursts;
  by_short = short_products c.bursts;
}
