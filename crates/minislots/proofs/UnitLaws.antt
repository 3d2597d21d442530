-- Data grants in minislots and in bytes, where the channel's bursts are lawful.
use Rattle.std.proofs.Common.{◌≡◌, ℕ, zero, suc, ◌-◌, ◌<◌, ◌≤◌, ◌==◌, min, arith, ap, ◌∙◌}
use Rattle.minislots.specs.declared.bursts.Bursts.TheVariants.{Described}
use Rattle.minislots.specs.declared.bursts.Descriptors.{Descriptors}
use Rattle.minislots.specs.declared.config.Config.{Config}
use Rattle.minislots.specs.declared.config.GrantSizes.{GrantSizes}
use Rattle.minislots.specs.Bursts.{HasBursts, IsCapacity, short_sizes}
use Rattle.minislots.specs.Products.{products, long_products, short_products}
use Rattle.minislots.specs.Sizes.{grant_sizes}
use Rattle.minislots.specs.Units.{slots_for, bytes_in, slots_for_unsolicited}
use Rattle.minislots.proofs.BurstLaws.{by_bursts, by_bursts-rises, length-positive}
use Rattle.minislots.proofs.BurstLaws.{unsolicited-positive, either-positive}

-- what is kept of a channel with these descriptors
module _ (c : Config) (d : Descriptors) (sizes : GrantSizes) (are : sizes ≡ grant_sizes c)
    (these : c.bursts ≡ Described d) where
  pub short-are : sizes.short ≡ short_sizes (Described d) c.short_max
  short-are = ap (λ s. s.short) are ∙ ap (λ b. short_sizes b c.short_max) these

  pub short_bytes-are : sizes.short_bytes ≡ short_sizes (Described d) c.short_max - 1
  short_bytes-are = ap (λ s. s.short_bytes) are ∙ ap (λ b. short_sizes b c.short_max - 1) these

  pub by_long-is : sizes.by_long ≡ products d.symbols d.long
  by_long-is = ap (λ s. s.by_long) are ∙ ap long_products these

  pub by_short-is : sizes.by_short ≡ products d.symbols d.short
  by_short-is = ap (λ s. s.by_short) are ∙ ap short_products these

module _ (c : Config) (bursts : HasBursts c.bursts) where
  -- a grant that fits the minislots has no more bytes than they carry
  pub fits_bytes : (n k : ℕ) → slots_for c n ≤ k → n ≤ bytes_in c k
  fits_bytes zero k h = omega arith
  fits_bytes (suc n) k h = (by_bursts c.bursts c.short_max bursts k (suc n) (omega arith)).0 h

  -- minislots that a grant of the grant cap fits carry no fewer bytes
  pub cap-is-most : (slots : ℕ) → slots_for c c.grant_cap ≤ slots → c.grant_cap ≡ min (bytes_in c slots) c.grant_cap
  cap-is-most slots fits = omega (arith, fits_bytes c.grant_cap slots fits)

  -- a grant of any bytes takes some minislots
  pub slots_for-positive : (n : ℕ) → 0 < n → 0 < slots_for c n
  slots_for-positive n some = length-positive c.bursts c.short_max bursts n some

  -- and so does an unsolicited grant
  pub slots_for_unsolicited-positive : (n : ℕ) → 0 < n → 0 < slots_for_unsolicited c n
  slots_for_unsolicited-positive n some = either-positive (c.phy == 1) _ _
      (unsolicited-positive c.bursts bursts n some) (length-positive c.bursts c.short_max bursts n some)

  -- at least one byte, and no more than the minislots carry, is a grant that fits them
  pub fits_slots : (n k : ℕ) → 0 < n → n ≤ bytes_in c k → slots_for c n ≤ k
  fits_slots n k some h = (by_bursts c.bursts c.short_max bursts k n some).1 h

  -- so many bytes, and no more, are carried
  pub carries : (n k : ℕ) → n ≡ bytes_in c k → IsCapacity (slots_for c) k n
  carries n k is = rw is (by_bursts c.bursts c.short_max bursts k)

  -- more bytes take no fewer minislots
  pub slots_for-rises : (n k : ℕ) → n ≡ slots_for c k → (fewer : ℕ) → fewer ≤ k → slots_for c fewer ≤ n
  slots_for-rises n k is fewer le = rw is (by_bursts-rises c.bursts c.short_max bursts fewer k le)
