-- What is told of the refusals with one number.
use Rattle.std.proofs.Common.{◌≡◌, ℕ, ◌+◌, ◌<◌, ◌≤◌, List, [], ◌++◌, take, get_or, count_by, nat_lt, refl}
use Rattle.std.proofs.lemmas.Bool.{lt-ltb, le-ltb}
use Rattle.report_writing.specs.Tables.{refused_at, refused_begin, refused_cells}

module _ (counts : List ℕ) (i : ℕ) where
  -- where there are some
  pub refused_at-some : (told : ℕ) → told ≡ count_by (nat_lt 0) (take i counts) → 0 < get_or counts i 0
      → refused_at counts i ≡ refused_begin told ++ refused_cells (i + 1) (get_or counts i 0)
  unfolding refused_at
  refused_at-some told is some = rw (lt-ltb 0 (get_or counts i 0) some, is) refl

  -- where there are none
  pub refused_at-none : get_or counts i 0 ≤ 0 → refused_at counts i ≡ []
  unfolding refused_at
  refused_at-none none = rw (le-ltb 0 (get_or counts i 0) none) refl
