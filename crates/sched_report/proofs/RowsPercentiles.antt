-- Worked rows: the values that so many in a hundred do not exceed.
use Rattle.std.proofs.Common.{◌≡◌, [], ◌∷◌, None, Some, refl}
use Rattle.std.specs.List.{range_with_len}
use Rattle.sched_report.specs.Spread.{percentile_of}

no_middle_of_nothing : percentile_of 50 [] ≡ None
no_middle_of_nothing = refl

the_middle_of_one : percentile_of 50 (17 ∷ []) ≡ Some 17
the_middle_of_one = refl

-- of two the first is the middle, as one of two is half of them
the_middle_of_two : percentile_of 50 (56 ∷ 46 ∷ []) ≡ Some 46
the_middle_of_two = refl

the_99th_of_two : percentile_of 99 (56 ∷ 46 ∷ []) ≡ Some 56
the_99th_of_two = refl

the_middle_of_three : percentile_of 50 (30 ∷ 10 ∷ 20 ∷ []) ≡ Some 20
the_middle_of_three = refl

-- equal values count as often as they stand there
the_middle_of_equal_ones : percentile_of 50 (9 ∷ 3 ∷ 3 ∷ 3 ∷ 8 ∷ []) ≡ Some 3
the_middle_of_equal_ones = refl

nothing_is_waited : percentile_of 99 (0 ∷ 0 ∷ []) ≡ Some 0
nothing_is_waited = refl

-- of 1 to 100 it is the last but one, and of 1 to 101 too: 99 of 101 are fewer than 99 in a hundred, and 100 are enough
the_99th_of_a_hundred : percentile_of 99 (range_with_len 1 100) ≡ Some 99
the_99th_of_a_hundred = refl

the_99th_of_a_hundred_and_one : percentile_of 99 (range_with_len 1 101) ≡ Some 100
the_99th_of_a_hundred_and_one = refl
