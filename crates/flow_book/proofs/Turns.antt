-- The number of a flow's turn stands for its rank, the start of its last grant, and its SID.
use Rattle.std.proofs.Common.{◌≡◌, ℕ, ◌+◌, ◌-◌, ◌*◌, ◌/◌, ◌%◌, ◌^◌, ◌<◌, ◌≤◌, nat_lt, Option, None, Some, true, arith}
use Rattle.std.specs.Option.{IfSome}
use Rattle.std.proofs.lemmas.Bool.Decides.{nat_tests}
use Rattle.flow_book.specs.Entry.{IsTurn, turn_in}
use Rattle.flow_book.proofs.Order.{goes_first}

-- of two flows the one with the higher SID is served first where its turn is less
pub turn-first : (r s : ℕ) (a b : Option ℕ) (x y t u : ℕ) → y < x → r ≤ 255 → s ≤ 255 → IsTurn r a x t → IsTurn s b y u
    → nat_lt t u ≡ goes_first r a x s b y
turn-first r s None None x y t u lower p q e f = grind (arith, nat_tests, e.0, e.1, f.0, f.1)
turn-first r s None (Some n) x y t u lower p q e f = grind (arith, nat_tests, e.0, e.1, f.0, f.1, f.2)
turn-first r s (Some m) None x y t u lower p q e f = grind (arith, nat_tests, e.0, e.1, e.2, f.0, f.1)
turn-first r s (Some m) (Some n) x y t u lower p q e f =
    grind (arith, nat_tests, e.0, e.1, e.2, f.0, f.1, f.2)

-- a flow of a lesser turn is served first
pub less-first : (r s : ℕ) (a b : Option ℕ) (x y t u : ℕ) → r ≤ 255 → s ≤ 255 → IsTurn r a x t → IsTurn s b y u
    → t < u → goes_first r a x s b y ≡ true
less-first r s None None x y t u p q e f less = grind (arith, nat_tests, e.0, e.1, f.0, f.1)
less-first r s None (Some n) x y t u p q e f less = grind (arith, nat_tests, e.0, e.1, f.0, f.1, f.2)
less-first r s (Some m) None x y t u p q e f less = grind (arith, nat_tests, e.0, e.1, e.2, f.0, f.1)
less-first r s (Some m) (Some n) x y t u p q e f less =
    grind (arith, nat_tests, e.0, e.1, e.2, f.0, f.1, f.2)

-- flows of the same turn have the same SID
pub turn-sid : (r s : ℕ) (a b : Option ℕ) (x y t : ℕ) → IsTurn r a x t → IsTurn s b y t → x ≡ y
turn-sid r s None None x y t e f = omega (arith, e.0, e.1, f.0, f.1)
turn-sid r s None (Some n) x y t e f = omega (arith, e.0, e.1, f.0, f.2)
turn-sid r s (Some m) None x y t e f = omega (arith, e.0, e.2, f.0, f.1)
turn-sid r s (Some m) (Some n) x y t e f = omega (arith, e.0, e.2, f.0, f.2)

-- after a grant a flow has the turn of its start, in the same rank and of the same SID
pub turn-after : (r : ℕ) (a : Option ℕ) (x t start n : ℕ) → start < 2 ^ 64 → IsTurn r a x t
    → n ≡ t / 2 ^ 81 * 2 ^ 81 + (start + 1) * 2 ^ 16 + t % 2 ^ 16 → IsTurn r (Some start) x n
turn-after r None x t start n early e is = (e.0, early, omega (arith, e.0, e.1, is))
turn-after r (Some m) x t start n early e is = (e.0, early, omega (arith, e.0, e.1, e.2, is))

-- which is no earlier where its last grant starts no later
pub turn-later : (r : ℕ) (a : Option ℕ) (x t start n : ℕ) → IsTurn r a x t → IfSome a (λ m. m ≤ start)
    → n ≡ t / 2 ^ 81 * 2 ^ 81 + (start + 1) * 2 ^ 16 + t % 2 ^ 16 → t ≤ n
turn-later r None x t start n e late is = omega (arith, e.0, e.1, is)
turn-later r (Some m) x t start n e late is = omega (arith, e.0, e.1, e.2, late, is)

-- in another rank a flow has the turn of the same last grant, and of the same SID
pub turn-in : (r : ℕ) (a : Option ℕ) (x t rank n : ℕ) → IsTurn r a x t
    → n ≡ (255 - rank) * 2 ^ 81 + t % 2 ^ 81 → IsTurn rank a x n
turn-in r None x t rank n e is = (e.0, omega (arith, e.0, e.1, is))
turn-in r (Some m) x t rank n e is = (e.0, e.1, omega (arith, e.0, e.1, e.2, is))

-- in a lower rank it is no earlier
pub turn-in-later : (r : ℕ) (a : Option ℕ) (x t rank : ℕ) → rank ≤ r → IsTurn r a x t → t ≤ turn_in rank t
turn-in-later r None x t rank low e = omega (arith, e.0, e.1, low)
turn-in-later r (Some m) x t rank low e = omega (arith, e.0, e.1, e.2, low)
