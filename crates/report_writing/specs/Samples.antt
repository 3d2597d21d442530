-- The lines of the OpenMetrics text format: what is told of a family of metrics, and its samples.
use Rattle.std.specs.Prelude.{ℕ, ◌+◌, ◌*◌, ◌/◌, ◌%◌, ◌==◌, if◌then◌else◌, List, [], ◌∷◌, ◌++◌, codes, decimal}
use Rattle.std.specs.Prelude.{Option, None, Some}
use Rattle.sched_report.specs.declared.life.TheConstants.{POLLED}
use Rattle.report_writing.specs.declared.metrics.sample.Measure.{Measure}
use Rattle.report_writing.specs.declared.metrics.sample.Measure.TheVariants.{Bytes, Seconds, Pieces}
use Rattle.report_writing.specs.declared.metrics.sample.Whose.{Whose}
use Rattle.report_writing.specs.declared.metrics.sample.Whose.TheVariants.{Call, Use, Refusal, Sid, Rank, Life}
use Rattle.report_writing.specs.declared.metrics.sample.Whose.TheVariants.{Receiver}

-- a point and the eight digits behind it of so many hundred millionths
abbrev pub hundred_millionths_end : ℕ → List ℕ
hundred_millionths_end n =
    46 ∷ (48 + n / 10000000 % 10) ∷ (48 + n / 1000000 % 10) ∷ (48 + n / 100000 % 10) ∷ (48 + n / 10000 % 10)
    ∷ (48 + n / 1000 % 10) ∷ (48 + n / 100 % 10) ∷ (48 + n / 10 % 10) ∷ (48 + n % 10) ∷ []

-- so many hundred millionths: a whole number, a point and eight digits
unfoldable pub hundred_millionths_text : ℕ → List ℕ
hundred_millionths_text n = decimal (n / 100000000) ++ hundred_millionths_end n

-- the seconds of so many minislots of so many ticks, each of which has 625 hundred millionths of one, exactly
abbrev pub seconds_text : ℕ → ℕ → List ℕ
seconds_text ticks minislots = hundred_millionths_text (minislots * ticks * 625)

-- the type of a family
unfoldable pub type_line : List ℕ → List ℕ → List ℕ
type_line name kind = codes "# TYPE " ++ (name ++ (codes " " ++ (kind ++ codes "\n")))

-- what its numbers are counted in, where these are no pieces
unfoldable pub unit_line : List ℕ → Measure → List ℕ
unit_line name Bytes = codes "# UNIT " ++ (name ++ codes " bytes\n")
unit_line name Seconds = codes "# UNIT " ++ (name ++ codes " seconds\n")
unit_line name Pieces = []

-- what they are
unfoldable pub help_line : List ℕ → List ℕ → List ℕ
help_line name help = codes "# HELP " ++ (name ++ (codes " " ++ (help ++ codes "\n")))

-- all that is told of a family before its samples
unfoldable pub heading : List ℕ → List ℕ → Measure → List ℕ → List ℕ
heading name kind measure help = type_line name kind ++ (unit_line name measure ++ help_line name help)

-- a label with its value
unfoldable pub label : List ℕ → List ℕ → List ℕ
label name value = name ++ (codes "=\"" ++ (value ++ codes "\""))

-- the name of a rank
abbrev pub rank_value : ℕ → List ℕ
rank_value rank = if rank == POLLED then codes "polled" else decimal rank

-- whose number a sample has
unfoldable pub labels_of : Whose → List ℕ
labels_of (Call name) = label (codes "call") name.now
labels_of (Use name) = label (codes "use") name.now
labels_of (Refusal number) = label (codes "number") (decimal number)
labels_of (Sid sid) = label (codes "sid") (decimal sid)
labels_of (Rank rank) = label (codes "rank") (rank_value rank)
labels_of (Life place sid) = label (codes "life") (decimal place) ++ (codes "," ++ label (codes "sid") (decimal sid))
labels_of (Receiver number) = label (codes "receiver") (decimal number)

-- what stands before a number that has labels
unfoldable pub sample_front : List ℕ → List ℕ → List ℕ
sample_front name labels = name ++ (codes "{" ++ (labels ++ codes "} "))

-- a sample: a number of pieces or bytes with labels
unfoldable pub count_sample : List ℕ → List ℕ → ℕ → List ℕ
count_sample name labels n = sample_front name labels ++ (decimal n ++ codes "\n")

-- it, where there is such a number
abbrev pub count_sample_or_none : List ℕ → List ℕ → Option ℕ → List ℕ
count_sample_or_none name labels None = []
count_sample_or_none name labels (Some n) = count_sample name labels n

-- the time of so many minislots with labels
unfoldable pub time_sample : ℕ → List ℕ → List ℕ → ℕ → List ℕ
time_sample ticks name labels minislots = sample_front name labels ++ (seconds_text ticks minislots ++ codes "\n")

-- it, where there is one
abbrev pub time_sample_or_none : ℕ → List ℕ → List ℕ → Option ℕ → List ℕ
time_sample_or_none ticks name labels None = []
time_sample_or_none ticks name labels (Some minislots) = time_sample ticks name labels minislots

-- a number without labels
unfoldable pub count_line : List ℕ → ℕ → List ℕ
count_line name n = name ++ (codes " " ++ (decimal n ++ codes "\n"))

-- it, where there is such a number
abbrev pub count_line_or_none : List ℕ → Option ℕ → List ℕ
count_line_or_none name None = []
count_line_or_none name (Some n) = count_line name n

-- a time without labels
unfoldable pub time_line : ℕ → List ℕ → ℕ → List ℕ
time_line ticks name minislots = name ++ (codes " " ++ (seconds_text ticks minislots ++ codes "\n"))

-- it, where there is one
abbrev pub time_line_or_none : ℕ → List ℕ → Option ℕ → List ℕ
time_line_or_none ticks name None = []
time_line_or_none ticks name (Some minislots) = time_line ticks name minislots

-- the labels of a delay that some part of all delays do not exceed
unfoldable pub quantile_labels : List ℕ → List ℕ → List ℕ
quantile_labels labels part = labels ++ (codes "," ++ label (codes "quantile") part)

-- that delay
unfoldable pub quantile_sample : ℕ → List ℕ → List ℕ → List ℕ → ℕ → List ℕ
quantile_sample ticks name labels part minislots =
    sample_front name (quantile_labels labels part) ++ (seconds_text ticks minislots ++ codes "\n")

-- how delays are spread: the least, the middle, that of 99 in a hundred, and the greatest
unfoldable pub spread_samples : ℕ → List ℕ → List ℕ → ℕ → ℕ → ℕ → ℕ → List ℕ
spread_samples ticks name labels greatest least middle p99 =
    quantile_sample ticks name labels (codes "0.0") least
    ++ (quantile_sample ticks name labels (codes "0.5") middle
    ++ (quantile_sample ticks name labels (codes "0.99") p99
    ++ quantile_sample ticks name labels (codes "1.0") greatest))

-- and nothing where there are none
abbrev pub delay_samples : ℕ → List ℕ → List ℕ → Option ℕ → Option ℕ → Option ℕ → Option ℕ → List ℕ
delay_samples ticks name labels (Some greatest) (Some least) (Some middle) (Some p99) =
    spread_samples ticks name labels greatest least middle p99
delay_samples ticks name labels greatest least middle p99 = []
