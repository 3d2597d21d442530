-- The tables of a report: its frames, the use of minislots, the calls, the refusals and the ranks.
use Rattle.std.specs.Prelude.{ℕ, ◌+◌, ◌-◌, ◌%◌, ◌==◌, nat_lt, Bool, if◌then◌else◌, List, [], ◌++◌, length, take}
use Rattle.std.specs.Prelude.{flat_map, codes, decimal, count_by, slice_index, Option, None, Some}
use Rattle.std.specs.List.{range_with_len}
use Rattle.sched_report.specs.declared.calls.Calls.{Calls}
use Rattle.sched_report.specs.declared.slots.Slots.{Slots}
use Rattle.sched_report.specs.declared.totals.Totals.{Totals}
use Rattle.sched_report.specs.declared.life.TheConstants.{POLLED}
use Rattle.sched_report.specs.declared.ranks_told.RankTold.{RankTold}
use Rattle.sched_report.specs.Uses.{all_slots}
use Rattle.report_writing.specs.Columns.{spaces, left, right, narrower, number_column, percent_column}
use Rattle.report_writing.specs.Columns.{microseconds, ms_text, ms_or_none}

-- how many frames there are, and from which minislot to which they reach
unfoldable pub reach_text : ℕ → ℕ → ℕ → List ℕ
reach_text frames from to =
    decimal frames ++ (codes " frames, minislots " ++ (decimal from ++ (codes " to " ++ decimal to)))

-- so many microseconds in milliseconds, and how often frames were left out
unfoldable pub time_text : ℕ → ℕ → List ℕ
time_text microseconds skips =
    codes ", " ++ (ms_text 20 microseconds ++ (codes " ms, " ++ (decimal skips ++ codes " skips\n")))

-- how often frames were left out, where there is none
unfoldable pub no_frames_text : ℕ → List ℕ
no_frames_text skips = codes "no frames, " ++ (decimal skips ++ codes " skips\n")

-- the first line, where the frames reach from there to there
abbrev pub head_between : ℕ → Totals → Option ℕ → Option ℕ → List ℕ
head_between ticks t (Some from) (Some to) =
    reach_text t.frames from to ++ time_text (microseconds ticks (to - from)) t.skips
head_between ticks t (Some from) None = no_frames_text t.skips
head_between ticks t None to = no_frames_text t.skips

-- the first line
unfoldable pub head_text : ℕ → Totals → List ℕ
head_text ticks t = head_between ticks t t.from t.to

-- a use of minislots: its name, how many they are, and how many in a hundred of all
unfoldable pub use_cells : List ℕ → ℕ → ℕ → List ℕ
use_cells name minislots all = left 11 name ++ (number_column 14 minislots ++ percent_column 7 minislots all)

-- a kind of call, at the right of the uses, and how many calls there were
unfoldable pub call_cells : List ℕ → ℕ → List ℕ
call_cells name count = spaces 8 ++ (left 7 name ++ (number_column 11 count ++ codes "\n"))

-- a line of both
unfoldable pub use_line : List ℕ → ℕ → ℕ → List ℕ → ℕ → List ℕ
use_line name minislots all call count = use_cells name minislots all ++ call_cells call count

-- a line of a call alone
unfoldable pub call_line : List ℕ → ℕ → List ℕ
call_line name count = spaces 34 ++ call_cells name count

-- minislots in which modems may ask and of unsolicited grants, of so many in all, and calls about flows
unfoldable pub first_uses : Slots → ℕ → Calls → List ℕ
first_uses s all c =
    use_line (codes "request") s.request all (codes "admit") c.admit
    ++ (use_line (codes "poll") s.poll all (codes "remove") c.remove
    ++ use_line (codes "unsolicited") s.unsolicited all (codes "ask") c.ask)

-- the other minislots, and the calls beside them
unfoldable pub last_uses : Slots → ℕ → Calls → List ℕ
last_uses s all c =
    use_line (codes "opportunity") s.opportunity all (codes "heard") c.heard
    ++ (use_line (codes "data") s.data_grants all (codes "build") c.build
    ++ use_line (codes "idle") s.idle all (codes "skip") c.skip)

-- the call beside which open idles are told, where idles are open
abbrev pub reserve_line : Bool → Slots → ℕ → Calls → List ℕ
reserve_line opens s all c =
    if opens then use_line (codes "open") s.open_idle all (codes "reserve") c.reserve
    else call_line (codes "reserve") c.reserve

-- the other calls
unfoldable pub last_calls : Bool → Slots → ℕ → Calls → List ℕ
last_calls opens s all c =
    reserve_line opens s all c ++ (call_line (codes "header") c.header ++ call_line (codes "status") c.status)

-- how many calls of a kind there were, where there were any
abbrev pub call_line_above_0 : List ℕ → ℕ → List ℕ
call_line_above_0 name count = if nat_lt 0 count then call_line name count else []

-- the calls that change what flows have or wait for
unfoldable pub flow_calls : Calls → List ℕ
flow_calls c =
    call_line_above_0 (codes "replace") c.replace ++ (call_line_above_0 (codes "change") c.change
    ++ (call_line_above_0 (codes "rest") c.rest ++ call_line_above_0 (codes "wake") c.wake))

-- the use of minislots, with open idles or without, and beside it the calls
unfoldable pub uses_text : Bool → Slots → Calls → List ℕ
uses_text opens s c =
    codes "\nuse              minislots       %        calls\n"
    ++ (first_uses s (all_slots s) c ++ (last_uses s (all_slots s) c
    ++ (last_calls opens s (all_slots s) c ++ flow_calls c)))

-- how many of the first numbers there were refusals with, so many of them
abbrev pub told_before : List ℕ → ℕ → ℕ
told_before counts place = count_by (nat_lt 0) (take place counts)

-- a new line begins where as many numbers were told as fill up those before it: five are in each
unfoldable pub refused_begin : ℕ → List ℕ
refused_begin told = if told % 5 == 0 then codes "\nrefused" else []

-- a number, and how many refusals there were with it
unfoldable pub refused_cells : ℕ → ℕ → List ℕ
refused_cells number count = right 3 (decimal number) ++ (codes ":" ++ number_column 8 count)

-- the refusals with the number at a place, which are counted from 1, where there are any
unfoldable pub refused_at : List ℕ → ℕ → List ℕ
refused_at counts place =
    if nat_lt 0 (slice_index counts place) then
    refused_begin (told_before counts place) ++ refused_cells (place + 1) (slice_index counts place)
    else []

-- the end of the lines, where there are any
unfoldable pub refused_end : ℕ → List ℕ
refused_end told = if nat_lt 0 told then codes "\n" else []

-- the refusals with each number of which there is one
unfoldable pub refused_text : List ℕ → List ℕ
refused_text counts =
    flat_map (refused_at counts) (range_with_len 0 (length counts)) ++ refused_end (count_by (nat_lt 0) counts)

-- the name of a rank
unfoldable pub rank_title : ℕ → List ℕ
rank_title rank = if rank == POLLED then codes "polled" else codes "best " ++ decimal rank

-- how many requests were replaced, in a report that tells it
abbrev pub replaced_column : Bool → ℕ → List ℕ
replaced_column replaced n = if replaced then number_column 4 n else []

-- the bytes that a rank was granted, and its requests: how many there are, and how many were served, wait, were dropped
-- and, where that is told, were replaced
unfoldable pub rank_counts : Bool → RankTold → List ℕ
rank_counts replaced t =
    number_column 9 t.numbers.sums.granted ++ (number_column (narrower replaced 7) t.numbers.sums.asks
    ++ (number_column (narrower replaced 7) t.numbers.sums.served
    ++ (number_column (narrower replaced 5) t.numbers.sums.waiting
    ++ (number_column (narrower replaced 5) t.numbers.sums.dropped
    ++ replaced_column replaced t.numbers.sums.replaced))))

-- the delays of those that were served
unfoldable pub rank_delays : ℕ → RankTold → List ℕ
rank_delays ticks t =
    ms_or_none 7 ticks t.numbers.sums.least ++ (ms_or_none 7 ticks t.numbers.middle
    ++ (ms_or_none 7 ticks t.numbers.p99 ++ ms_or_none 7 ticks t.numbers.sums.greatest))

-- the line of a rank
unfoldable pub rank_line : ℕ → Bool → RankTold → List ℕ
rank_line ticks replaced t = rank_title t.rank ++ (rank_counts replaced t ++ (rank_delays ticks t ++ codes "\n"))

-- what the columns are
unfoldable pub ranks_heading : Bool → List ℕ
ranks_heading replaced =
    if replaced
    then codes "\nrank       bytes   asks served wait drop repl   least  middle     p99    most ms\n"
    else codes "\nrank       bytes    asks  served  wait  drop   least  middle     p99    most ms\n"

-- the table of these ranks
unfoldable pub ranks_table : ℕ → Bool → List RankTold → List ℕ
ranks_table ticks replaced ranks = ranks_heading replaced ++ flat_map (rank_line ticks replaced) ranks

-- the ranks that asked, where there are any
unfoldable pub ranks_text : ℕ → Bool → List RankTold → List ℕ
ranks_text ticks replaced ranks = if nat_lt 0 (length ranks) then ranks_table ticks replaced ranks else []
