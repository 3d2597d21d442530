-- What follows where a list of maps only grows.
use Rattle.std.proofs.Common.{◌≡◌, ℕ, zero, suc, ◌+◌, List, [], ◌∷◌, ◌++◌, length, Some, slice_get, refl, ap, sym}
use Rattle.std.proofs.Common.{◌∙◌, subst, arith, length-append, append_assoc}
use Rattle.map_snapshot.specs.Maps.{map_in}
use Rattle.map_snapshot.specs.Laws.{NeverFalls, StaysRead, StandsAtItsVersion}
use Rattle.map_snapshot.proofs.Beginnings.{prefix_length}

-- what stands behind so many members
get_behind : {A : Type 0} (xs : List A) (y : A) (ys : List A) (k : ℕ) → length xs ≡ k
    → slice_get (xs ++ y ∷ ys) k ≡ Some y
get_behind [] y ys zero len = refl
get_behind [] y ys (suc k) len = absurd (omega (arith, len))
get_behind (x ∷ xs) y ys zero len = absurd (omega (arith, len))
get_behind (x ∷ xs) y ys (suc k) len = get_behind xs y ys k (omega (arith, len))

-- the newest of a longer list has no lower version
pub never_falls : NeverFalls
never_falls list longer p q begins first then = omega
    (arith, prefix_length list longer begins, first.version, then.version)

-- where the shorter list has a newest, the longer has one
pub stays_read : StaysRead
stays_read [] longer begins none = refl
stays_read (x ∷ list) longer begins none = absurd (cc (begins.1, none))

-- the newest of a list stands at its version in each longer list
pub stands : StandsAtItsVersion
stands list longer p k begins first version =
    let whole : longer ≡ first.before ++ map_in p ∷ begins.0 =
    sym begins.1 ∙ (ap (λ l. l ++ begins.0) first.list_is ∙ append_assoc first.before (map_in p ∷ []) begins.0) in
    let count : length list ≡ length first.before + 1 = ap length first.list_is ∙ length-append first.before
    (map_in p ∷ []) in
    subst (λ l. slice_get l k ≡ Some (map_in p)) (sym whole)
    (get_behind first.before (map_in p) begins.0 k (omega (arith, count, first.version, version)))
