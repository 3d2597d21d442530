-- The two generators as numbers, and their registers.
use Rattle.std.proofs.Common.{◌≡◌, ℕ, ◌+◌, ◌^◌, ◌<◌, List, length, refl, ap, sym, arith}
use Rattle.wire_frame.specs.Polynomial.{coefficients}
use Rattle.wire_frame.specs.Checksum.{ccitt, ethernet}
use Rattle.wire_frame.specs.Register.{after_bytes}
use Rattle.wire_frame.specs.declared.tables.TheConstants.{CCITT, ETHERNET}
use Rattle.wire_frame.proofs.Values.{value}
use Rattle.wire_frame.proofs.Bytes.{after_bytes_is}
use Rattle.wire_frame.proofs.Sums.{register, register-lt}

-- the generator of CRC-CCITT as a number
pub ccitt_value : value ccitt ≡ CCITT
unfolding value ccitt coefficients
ccitt_value = refl

-- it has degree 16
pub length-ccitt : length ccitt ≡ 16
unfolding ccitt coefficients
length-ccitt = refl

ethernet_value : value ethernet ≡ ETHERNET
unfolding value ethernet coefficients
ethernet_value = refl

-- the generator of the CRC of Ethernet has degree 32
pub length-ethernet : length ethernet ≡ 32
unfolding ethernet coefficients
length-ethernet = refl

-- the register that takes bytes is the register after the message
pub ccitt_register : (bytes : List ℕ) → register ccitt bytes ≡ after_bytes CCITT 65535 bytes
ccitt_register bytes = simp (ccitt_value, length-ccitt) (sym (after_bytes_is CCITT 65535 bytes))

-- the same of the CRC of Ethernet
pub ethernet_register : (bytes : List ℕ) → register ethernet bytes ≡ after_bytes ETHERNET 4294967295 bytes
ethernet_register bytes = simp (ethernet_value, length-ethernet) (sym (after_bytes_is ETHERNET 4294967295 bytes))

-- what a result owes to be the checksum of CRC-CCITT
pub ccitt_sum : (bytes : List ℕ) (sum : ℕ) → sum + after_bytes CCITT 65535 bytes + 1 ≡ 2 ^ 16
    → sum + register ccitt bytes + 1 ≡ 2 ^ length ccitt
ccitt_sum bytes sum e =
    let whole : 2 ^ length ccitt ≡ 2 ^ 16 = ap (λ x. 2 ^ x) length-ccitt in
    let same = ccitt_register bytes in
    omega (arith, e, whole, same)

-- what a result owes to be the CRC of Ethernet
pub ethernet_sum : (bytes : List ℕ) (sum : ℕ) → sum + after_bytes ETHERNET 4294967295 bytes + 1 ≡ 2 ^ 32
    → sum + register ethernet bytes + 1 ≡ 2 ^ length ethernet
ethernet_sum bytes sum e =
    let whole : 2 ^ length ethernet ≡ 2 ^ 32 = ap (λ x. 2 ^ x) length-ethernet in
    let same = ethernet_register bytes in
    omega (arith, e, whole, same)

-- a register of 16 bits stays one
pub ccitt-lt : (bytes : List ℕ) → after_bytes CCITT 65535 bytes < 2 ^ 16
ccitt-lt bytes =
    let whole : 2 ^ length ccitt ≡ 2 ^ 16 = ap (λ x. 2 ^ x) length-ccitt in
    let same = ccitt_register bytes in
    let below = register-lt ccitt bytes in
    omega (arith, whole, same, below)

-- a register of 32 bits stays one
pub ethernet-lt : (bytes : List ℕ) → after_bytes ETHERNET 4294967295 bytes < 2 ^ 32
ethernet-lt bytes =
    let whole : 2 ^ length ethernet ≡ 2 ^ 32 = ap (λ x. 2 ^ x) length-ethernet in
    let same = ethernet_register bytes in
    let below = register-lt ethernet bytes in
    omega (arith, whole, same, below)
