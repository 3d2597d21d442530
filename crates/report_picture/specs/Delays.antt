-- The delays of requests by rank.
use Rattle.std.specs.Prelude.{ℕ, ◌*◌, ◌==◌, nat_le, Bool, if◌then◌else◌, List, [], ◌∷◌, ◌++◌, codes}
use Rattle.std.specs.Prelude.{flat_map, length, slice_index_or, Option, None, Some}
use Rattle.std.specs.List.{range_with_len}
use Rattle.sched_report.specs.declared.life.TheConstants.{POLLED}
use Rattle.sched_report.specs.declared.ranks.RankSums.{RankSums}
use Rattle.sched_report.specs.declared.ranks_told.RankTold.{RankTold}
use Rattle.report_picture.specs.declared.spread.Spread.{Spread}
use Rattle.report_picture.specs.declared.scale.Scale.{Scale}
use Rattle.report_picture.specs.declared.ranks.TheConstants.{NO_RANK}
use Rattle.report_picture.specs.Filled.{filled}
use Rattle.report_picture.specs.Axis.{place, round_step, microseconds}
use Rattle.report_picture.specs.Scale.{scale_of, delay_place}
use Rattle.report_picture.specs.Decades.{decade_ticks}

-- these delays, where there are all four
unfoldable pub spread_with : Option ℕ → Option ℕ → Option ℕ → Option ℕ → Option Spread
spread_with (Some least) (Some middle) (Some p99) (Some greatest) =
    Some (record { least = least; middle = middle; p99 = p99; greatest = greatest })
spread_with least middle p99 greatest = None

-- how the delays of a rank are spread, where a request of it was served
abbrev pub spread_of : RankTold → Option Spread
spread_of r = spread_with r.numbers.sums.least r.numbers.middle r.numbers.p99 r.numbers.sums.greatest

-- the tick of so many tenths of a millisecond over so many rows
unfoldable pub delay_tick : Scale → ℕ → ℕ → List ℕ
delay_tick s rows n =
    if nat_le n s.tenths then
    filled (codes "<path class='tick' d='M~-4V@'/><text class='at' x='~' y='-10'>~</text>\n")
    (place 6400 n s.tenths ∷ (32 * rows) ∷ place 6400 n s.tenths ∷ n ∷ [])
    else []

-- the ticks of a linear axis
abbrev pub even_ticks : Scale → ℕ → List ℕ
even_ticks s rows = flat_map (λ i. delay_tick s rows (round_step s.tenths * i)) (range_with_len 0 11)

-- the ticks of delays, on an axis that is logarithmic where it begins at one
abbrev pub ticks_from : Option ℕ → Scale → ℕ → List ℕ
ticks_from None s rows = even_ticks s rows
ticks_from (Some start) s rows = decade_ticks s start rows

-- the same, by the scale alone
abbrev pub delay_ticks : Scale → ℕ → List ℕ
delay_ticks s rows = ticks_from s.start s rows

-- the name of a rank
unfoldable pub rank_text : ℕ → List ℕ
rank_text rank =
    if rank == POLLED then codes "<text class='end' x='-8' y='20'>polled</text>"
    else filled (codes "<text class='end' x='-8' y='20'>priority @</text>") (rank ∷ [])

-- the marks of delays: from the least to the 99th, to the greatest, at the 99th and at the middle
unfoldable pub marks_text : Scale → Spread → List ℕ
marks_text s d =
    filled
    (codes "<path class='range' d='M~ 9V23H~V9z'/><path class='most' d='M~ 16H~'/><path class='most' d='M~ 8v16'/>")
    (delay_place s d.least ∷ delay_place s d.p99 ∷ delay_place s d.least ∷ delay_place s d.greatest
    ∷ delay_place s d.greatest ∷ [])
    ++ filled (codes "<path d='M~ 9l7 14h-14z'/><circle class='middle' cx='~' cy='16' r='5'/>\n")
    (delay_place s d.p99 ∷ delay_place s d.middle ∷ [])

-- delays in milliseconds
unfoldable pub numbers_text : Scale → Spread → List ℕ
numbers_text s d =
    filled (codes "<text class='end' x='824' y='20'>^</text><text class='end' x='914' y='20'>^</text>")
    (microseconds s.ticks d.least ∷ microseconds s.ticks d.middle ∷ [])
    ++ filled (codes "<text class='end' x='1014' y='20'>^</text><text class='end' x='1104' y='20'>^</text>")
    (microseconds s.ticks d.p99 ∷ microseconds s.ticks d.greatest ∷ [])

-- the delays of a rank, where there are any
unfoldable pub spread_text : Scale → Option Spread → List ℕ
spread_text s None = []
spread_text s (Some d) = marks_text s d ++ numbers_text s d

-- the rank at a place
abbrev pub rank_at : List RankTold → ℕ → RankTold
rank_at ranks i = slice_index_or ranks i NO_RANK

-- how many requests of a rank wait, were dropped and, where that is told, were replaced
unfoldable pub unserved_text : Bool → RankSums → List ℕ
unserved_text replaced sums =
    if replaced
    then filled (codes "<text class='end' x='1164' y='20'>@</text><text class='end' x='1224' y='20'>@</text>")
    (sums.waiting ∷ sums.dropped ∷ [])
    ++ filled (codes "<text class='end' x='1284' y='20'>@</text>\n") (sums.replaced ∷ [])
    else filled (codes "<text class='end' x='1194' y='20'>@</text><text class='end' x='1284' y='20'>@</text>\n")
    (sums.waiting ∷ sums.dropped ∷ [])

-- how many were served, and the others
unfoldable pub counts_text : Bool → RankSums → List ℕ
counts_text replaced sums =
    filled (codes "<text class='end' x='724' y='20'>@</text>") (sums.served ∷ []) ++ unserved_text replaced sums

-- the row of a rank: its name, how many of its requests were served, wait, were dropped and were replaced, and their
-- delays
unfoldable pub row_text : Scale → Bool → List RankTold → ℕ → List ℕ
row_text s replaced ranks i =
    filled (codes "<g transform='translate(0 @)'>") ((32 * i) ∷ [])
    ++ (rank_text (rank_at ranks i).rank
    ++ (counts_text replaced (rank_at ranks i).numbers.sums
    ++ (spread_text s (spread_of (rank_at ranks i)) ++ codes "</g>\n")))

-- the rows of ranks, one below the other
abbrev pub rows_text : Scale → Bool → List RankTold → List ℕ
rows_text s replaced ranks = flat_map (row_text s replaced ranks) (range_with_len 0 (length ranks))

-- the end of what the delays are: whether their axis is logarithmic
unfoldable pub title_end : Option ℕ → List ℕ
title_end None = codes "to the end of the data grant that served it.</text>\n"
title_end (Some start) = codes "to the end of the data grant that served it. The axis is logarithmic.</text>\n"

-- what the delays are
unfoldable pub delays_title : Option ℕ → List ℕ
delays_title start =
    codes "<text class='head' x='96' y='492'>Delays of requests by rank, in ms: from where a request was heard "
    ++ title_end start

-- what their marks are for
unfoldable pub marks_legend : List ℕ
marks_legend =
    codes "<path class='range' d='M96 506h28v14h-28z'/><text x='132' y='517'>least to 99 in a hundred</text>"
    ++ (codes "<circle class='middle' cx='330' cy='513' r='5'/><text x='344' y='517'>middle: 50 in a hundred</text>"
    ++ (codes "<path d='M520 506l7 14h-14z'/><text x='536' y='517'>99 in a hundred</text>"
    ++ (codes "<path class='most' d='M670 513h20'/>"
    ++ codes "<path class='most' d='M690 505v16'/><text x='702' y='517'>greatest</text>\n")))

-- what the delays are, and what their marks are for
unfoldable pub delays_legend : Option ℕ → List ℕ
delays_legend start = delays_title start ++ marks_legend

-- the names of the columns behind those of delays
unfoldable pub last_columns : Bool → List ℕ
last_columns replaced =
    if replaced
    then codes "<text class='end' x='1164' y='-10'>waiting</text><text class='end' x='1224' y='-10'>dropped</text>"
    ++ codes "<text class='end' x='1284' y='-10'>replaced</text>\n"
    else codes "<text class='end' x='1194' y='-10'>waiting</text><text class='end' x='1284' y='-10'>dropped</text>\n"

-- the names of the columns of numbers
unfoldable pub columns_text : Bool → List ℕ
columns_text replaced =
    codes "<g transform='translate(96 560)'>\n<text class='end' x='-24' y='-10'>ms</text>"
    ++ (codes "<text class='end' x='724' y='-10'>served</text><text class='end' x='824' y='-10'>least</text>"
    ++ (codes "<text class='end' x='914' y='-10'>middle</text><text class='end' x='1014' y='-10'>99 in 100</text>"
    ++ (codes "<text class='end' x='1104' y='-10'>greatest</text>" ++ last_columns replaced)))

-- what stands in the place of rows where no rank has any
unfoldable pub no_rows_text : ℕ → List ℕ
no_rows_text rows =
    if rows == 0 then codes "<text class='head' x='0' y='20'>No request was accepted, so there is no delay.</text>\n"
    else []

-- the delays of ranks, on channels whose minislots have so many ticks
unfoldable pub delays_text : ℕ → Bool → List RankTold → List ℕ
delays_text ticks replaced ranks =
    delays_legend (scale_of ticks ranks).start ++ (columns_text replaced
    ++ (delay_ticks (scale_of ticks ranks) (length ranks)
    ++ (rows_text (scale_of ticks ranks) replaced ranks ++ (no_rows_text (length ranks) ++ codes "</g>\n"))))
