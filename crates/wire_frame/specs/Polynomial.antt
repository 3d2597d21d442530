-- Polynomials over GF(2). A list of bits is the polynomial with these coefficients, that of the highest power first,
-- which is the order of the wire. Lists of one length are polynomials below one degree.
use Rattle.std.specs.Prelude.{◌≡◌, ℕ, zero, suc, ◌/◌, ◌%◌, ◌^◌, ◌==◌, Bool, true, false, not}
use Rattle.std.specs.Prelude.{List, [], ◌∷◌, ◌++◌, length, replicate}

-- so many coefficients 0
abbrev pub zeros : ℕ → List Bool
zeros n = replicate n false

-- so many coefficients 1
abbrev pub ones : ℕ → List Bool
ones n = replicate n true

-- the sum of two coefficients
abbrev pub plus : Bool → Bool → Bool
plus true b = not b
plus false b = b

-- the sum of two lists of one length
unfoldable pub add : List Bool → List Bool → List Bool
add [] q = q
add (a ∷ p) [] = a ∷ p
add (a ∷ p) (b ∷ q) = plus a b ∷ add p q

-- a polynomial times a coefficient
abbrev pub scaled : Bool → List Bool → List Bool
scaled true g = g
scaled false g = zeros (length g)

-- A generator of degree w has the coefficient 1 at the power w, and is named by the w coefficients below.
abbrev pub generator : List Bool → List Bool
generator low = true ∷ low

-- the product of a polynomial and a generator: n coefficients times w + 1 of them give n + w
unfoldable pub product : List Bool → List Bool → List Bool
product [] low = zeros (length low)
product (bit ∷ bits) low = add (scaled bit (generator low) ++ zeros (length bits)) (false ∷ product bits low)

-- R is the remainder of M by a generator G of degree w: there is a quotient Q with M = Q * G + R, and R is of a degree
-- below w
pub record IsRemainder (low dividend rest : List Bool) : Type 0 where
  pub quotient : List Bool
  pub degree : length rest ≡ length low
  pub is : dividend ≡ add (product quotient low) (zeros (length quotient) ++ rest)

-- a number is odd
abbrev pub is_odd : ℕ → Bool
is_odd n = n % 2 == 1

-- the lowest bits of a number, so many, the least first
unfoldable pub bits : ℕ → ℕ → List Bool
bits zero n = []
bits (suc k) n = is_odd n ∷ bits k (n / 2)

-- the same bits, the highest first
unfoldable pub coefficients : ℕ → ℕ → List Bool
coefficients zero n = []
coefficients (suc k) n = is_odd (n / 2 ^ k) ∷ coefficients k n
