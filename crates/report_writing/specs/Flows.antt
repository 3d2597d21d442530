-- The table of the lives of flows.
use Rattle.std.specs.Prelude.{ℕ, ◌≡◌, ◌-◌, ◌==◌, nat_lt, Bool, true, false, if◌then◌else◌, List, [], ◌++◌, length, take}
use Rattle.std.specs.Prelude.{flat_map, codes, decimal, Option, None, Some}
use Rattle.std.specs.List.Sorted.{IsPermutation, IsSortedBy, IsStableBy}
use Rattle.std.specs.Ordering.{is_lt, nat_cmp, bool_cmp, ordering_then}
use Rattle.sched_calls.specs.declared.spec.FlowSpec.{FlowSpec}
use Rattle.sched_calls.specs.declared.spec.FlowSpec.TheVariants.{Unsolicited, Polled, BestEffort}
use Rattle.sched_report.specs.declared.life.LifeNumbers.{LifeNumbers}
use Rattle.report_writing.specs.Columns.{right, narrower, number_column, number_or_none, ms_or_none, bits_a_second}
use Rattle.report_writing.specs.Tables.{replaced_column}

-- a kind of flow, and the priority of a best effort one
unfoldable pub kind_title : FlowSpec → List ℕ
kind_title (Unsolicited size interval jitter grants) = codes " unsol "
kind_title (Polled interval jitter rate burst peak) = codes " polled"
kind_title (BestEffort priority rate burst peak reserved reserved-burst) = codes " best " ++ decimal priority

-- the ceiling of a flow's rate, where it has one: 0 is none
abbrev pub ceiling_of : FlowSpec → Option ℕ
ceiling_of (Unsolicited size interval jitter grants) = None
ceiling_of (Polled interval jitter rate burst peak) = if rate == 0 then None else Some rate
ceiling_of (BestEffort priority rate burst peak reserved reserved-burst) = if rate == 0 then None else Some rate

-- the bits a second that a life asked, was granted, and may be granted at most
unfoldable pub life_rates : ℕ → Bool → LifeNumbers → List ℕ
life_rates ticks replaced n =
    number_or_none (narrower replaced 8) (bits_a_second n.sums.asked (n.to - n.from) ticks)
    ++ (number_or_none (narrower replaced 8) (bits_a_second n.granted (n.to - n.from) ticks)
    ++ number_or_none (narrower replaced 8) (ceiling_of n.spec))

-- its requests: how many there are, and how many wait, were dropped and, where that is told, were replaced
unfoldable pub life_counts : Bool → LifeNumbers → List ℕ
life_counts replaced n =
    number_column (narrower replaced 6) n.sums.asks ++ (number_column 4 n.waiting
    ++ (number_column 4 n.dropped ++ replaced_column replaced n.sums.replaced))

-- the delays of those that were served
unfoldable pub life_delays : ℕ → LifeNumbers → List ℕ
life_delays ticks n =
    ms_or_none 7 ticks n.middle ++ (ms_or_none 7 ticks n.p99 ++ ms_or_none 7 ticks n.sums.delays.greatest)

-- the line of a life
unfoldable pub life_line : ℕ → Bool → LifeNumbers → List ℕ
life_line ticks replaced n =
    right 3 (decimal n.sid) ++ (kind_title n.spec ++ (life_rates ticks replaced n
    ++ (life_counts replaced n ++ (life_delays ticks n ++ codes "\n"))))

-- a life stands before another where it asked for more bytes, or for as many and lives while the other has ended
abbrev pub stands_before : LifeNumbers → LifeNumbers → Bool
stands_before a b = is_lt (ordering_then (nat_cmp b.sums.asked a.sums.asked) (bool_cmp a.ended b.ended))

-- The lives are all of these, and none stands before one in front of it; those of which neither stands before the other
-- keep the order of their admissions
pub record AreByBytes (lives ordered : List LifeNumbers) : Type 0 where
  pub all : IsPermutation lives ordered
  pub sorted : IsSortedBy stands_before ordered
  pub stable : IsStableBy stands_before lives ordered

-- the lives in the order in which they are told: in that of their admissions where all are, or else by their bytes
abbrev pub AreOrdered : Bool → List LifeNumbers → List LifeNumbers → Type 0
AreOrdered true lives ordered = ordered ≡ lives
AreOrdered false lives ordered = AreByBytes lives ordered

-- the lives that are told: all, or else the first 30
abbrev pub told_of : Bool → List LifeNumbers → List LifeNumbers
told_of true ordered = ordered
told_of false ordered = take 30 ordered

-- in which order they stand
unfoldable pub order_text : Bool → List ℕ
order_text all =
    if all then codes "\nflows, in the order of their admissions:\n"
    else codes "\nflows, those first that asked for the most bytes:\n"

-- the names of the columns
unfoldable pub flows_heading : Bool → List ℕ
flows_heading replaced =
    if replaced
    then codes " SID kind   asked/s granted ceiling  asks wait drop repl  middle     p99    most\n"
    else codes " SID kind   asked/s  granted  ceiling   asks wait drop  middle     p99    most\n"

-- what the columns are
unfoldable pub columns_text : Bool → List ℕ
columns_text replaced =
    codes "bits per second asked, granted and at most; delays in milliseconds\n" ++ flows_heading replaced

-- how many lives there are, where some are left out
unfoldable pub left_out_text : Bool → ℕ → List ℕ
left_out_text all lives =
    if all then []
    else if nat_lt 30 lives then
    codes "30 of " ++ (decimal lives ++ codes " lives of flows: those that asked for most bytes\n")
    else []

-- the table of these lives, where there are any
unfoldable pub flows_text : ℕ → Bool → Bool → List LifeNumbers → List ℕ
flows_text ticks replaced all ordered =
    if nat_lt 0 (length ordered) then
    order_text all ++ (columns_text replaced
    ++ (flat_map (life_line ticks replaced) (told_of all ordered) ++ left_out_text all (length ordered)))
    else []
