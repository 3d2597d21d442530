-- The JSON of a report: its numbers, each under its name, keys in ascending order.
use Rattle.std.specs.Prelude.{◌≡◌, ℕ, zero, suc, ◌+◌, ◌==◌, nat_lt, Bool, if◌then◌else◌, List, [], ◌∷◌, ◌++◌, map}
use Rattle.std.specs.Prelude.{codes, decimal, slice_index, Option, None, Some}
use Rattle.serde_json.specs.Data.{Data, Members, string, array, object, no_members, member}
use Rattle.serde_json.specs.View.{items_of}
use Rattle.serde_json.specs.Written.{compact_text}
use Rattle.sched_calls.specs.declared.spec.FlowSpec.{FlowSpec}
use Rattle.sched_calls.specs.declared.spec.FlowSpec.TheVariants.{Unsolicited, Polled, BestEffort}
use Rattle.sched_report.specs.declared.calls.Calls.{Calls}
use Rattle.sched_report.specs.declared.slots.Slots.{Slots}
use Rattle.sched_report.specs.declared.totals.Totals.{Totals}
use Rattle.sched_report.specs.declared.life.LifeNumbers.{LifeNumbers}
use Rattle.sched_report.specs.declared.life.TheConstants.{POLLED}
use Rattle.sched_report.specs.declared.ranks_told.RankTold.{RankTold}
use Rattle.sched_report.specs.Counts.{CountsRefusals}
use Rattle.sched_report.specs.RanksTold.{AreRanksTold}
use Rattle.sched_report.specs.Window.{Window, entries_of, totals_told}
use Rattle.history_writing.specs.Json.{count}
use Rattle.report_writing.specs.Cells.{delay_data, maybe_data, with_given}
use Rattle.report_writing.specs.Gathered.{AreLivesTold}
use Rattle.report_writing.specs.Reserved.{under_of}

-- the name of a kind of flow
abbrev pub kind_name : FlowSpec → List ℕ
kind_name (Unsolicited size interval jitter grants) = codes "unsolicited"
kind_name (Polled interval jitter rate burst peak) = codes "polled"
kind_name (BestEffort priority rate burst peak reserved reserved-burst) = codes "best_effort"

-- the rank of a flow that asks: that of polled flows, or the priority of a best effort one
abbrev pub rank_of : FlowSpec → Option ℕ
rank_of (Unsolicited size interval jitter grants) = None
rank_of (Polled interval jitter rate burst peak) = Some POLLED
rank_of (BestEffort priority rate burst peak reserved reserved-burst) = Some priority

-- a number that is told in some reports alone
abbrev pub told_if : Bool → ℕ → Option ℕ
told_if told n = if told then Some n else None

-- a number that is told where it is not 0
abbrev pub told_above_0 : ℕ → Option ℕ
told_above_0 n = told_if (nat_lt 0 n) n

-- whether a report tells how many requests were replaced: where one was accepted that supersedes those before
abbrev pub tells_replaced : Totals → Bool
tells_replaced t = nat_lt 0 t.replaces

-- a life of a flow, with its replaced requests or without, with what was outstanding where what is told began if there
-- was something, and where it has a minimum reserved rate with how often it waited under it
unfoldable pub life_data : Bool → LifeNumbers → Data
life_data replaced n = object (
    member (codes "asked") (count n.sums.asked) (member (codes "asks") (count n.sums.asks) (
    with_given (codes "carried") (told_above_0 n.carried) (
    member (codes "delay") (delay_data n.sums.delays.greatest n.sums.delays.least n.middle n.p99) (
    member (codes "dropped") (count n.dropped) (member (codes "from") (count n.from) (
    member (codes "granted") (count n.granted) (member (codes "kind") (string (kind_name n.spec)) (
    member (codes "outstanding") (count n.outstanding) (with_given (codes "priority") n.priority (
    with_given (codes "replaced") (told_if replaced n.sums.replaced) (
    member (codes "served") (count n.sums.delays.served) (member (codes "sid") (count n.sid) (
    member (codes "to") (count n.to) (with_given (codes "under") (under_of n) (
    member (codes "waiting") (count n.waiting) no_members))))))))))))))))

-- the name of polled flows' rank, or else a priority
abbrev pub rank_name : ℕ → Data
rank_name rank = if rank == POLLED then string (codes "polled") else count rank

-- a rank
unfoldable pub rank_data : Bool → RankTold → Data
rank_data replaced t = object (
    member (codes "asks") (count t.numbers.sums.asks) (
    member (codes "delay")
    (delay_data t.numbers.sums.greatest t.numbers.sums.least t.numbers.middle t.numbers.p99) (
    member (codes "dropped") (count t.numbers.sums.dropped) (
    member (codes "granted") (count t.numbers.sums.granted) (member (codes "rank") (rank_name t.rank) (
    with_given (codes "replaced") (told_if replaced t.numbers.sums.replaced) (
    member (codes "served") (count t.numbers.sums.served) (
    member (codes "waiting") (count t.numbers.sums.waiting) no_members))))))))

-- the calls of each kind, of four kinds where there are any
unfoldable pub calls_data : Calls → Data
calls_data c = object (
    member (codes "admit") (count c.admit) (member (codes "ask") (count c.ask) (
    member (codes "build") (count c.build) (with_given (codes "change") (told_above_0 c.change) (
    member (codes "header") (count c.header) (member (codes "heard") (count c.heard) (
    member (codes "remove") (count c.remove) (with_given (codes "replace") (told_above_0 c.replace) (
    member (codes "reserve") (count c.reserve) (with_given (codes "rest") (told_above_0 c.rest) (
    member (codes "skip") (count c.skip) (member (codes "status") (count c.status) (
    with_given (codes "wake") (told_above_0 c.wake) no_members)))))))))))))

-- the minislots of each use, with those of open idles or without
unfoldable pub use_data : Bool → Slots → Data
use_data opens s = object (
    member (codes "data") (count s.data_grants) (member (codes "idle") (count s.idle) (
    with_given (codes "open") (told_if opens s.open_idle) (
    member (codes "opportunity") (count s.opportunity) (member (codes "poll") (count s.poll) (
    member (codes "request") (count s.request) (member (codes "unsolicited") (count s.unsolicited) no_members)))))))

-- a member for the refusals with the number at a place, which are counted from 1, where there are any
abbrev pub with_refusals : ℕ → ℕ → Members → Members
with_refusals place zero others = others
with_refusals place (suc n) others = member (decimal (place + 1)) (count (suc n)) others

-- and for those at each of these places
abbrev pub refused_members : List ℕ → List ℕ → Members
refused_members [] counts = no_members
refused_members (place ∷ places) counts =
    with_refusals place (slice_index counts place) (refused_members places counts)

-- the places of the numbers from 1 to 23, in the ascending order of their texts
abbrev pub by_text : List ℕ
by_text =
    0 ∷ 9 ∷ 10 ∷ 11 ∷ 12 ∷ 13 ∷ 14 ∷ 15 ∷ 16 ∷ 17 ∷ 18 ∷ 1 ∷ 19 ∷ 20 ∷ 21 ∷ 22 ∷ 2 ∷ 3 ∷ 4 ∷ 5 ∷ 6 ∷ 7 ∷ 8 ∷ []

-- the refusals with each number of which there is one
abbrev pub refused_data : List ℕ → Data
refused_data counts = object (refused_members by_text counts)

-- the lives, in their order
abbrev pub lives_data : Bool → List LifeNumbers → Data
lives_data replaced lives = array (items_of (map (life_data replaced) lives))

-- the ranks, in their order
abbrev pub ranks_data : Bool → List RankTold → Data
ranks_data replaced ranks = array (items_of (map (rank_data replaced) ranks))

-- a report
unfoldable pub report_data : Totals → List ℕ → List LifeNumbers → List RankTold → Data
report_data t refused lives ranks = object (
    member (codes "calls") (calls_data t.calls) (member (codes "frames") (count t.frames) (
    member (codes "from") (maybe_data t.from) (member (codes "lives") (lives_data (tells_replaced t) lives) (
    member (codes "priorities") (ranks_data (tells_replaced t) ranks) (
    member (codes "refused") (refused_data refused) (
    member (codes "skips") (count t.skips) (member (codes "to") (maybe_data t.to) (
    member (codes "use") (use_data t.opens t.slots) no_members)))))))))

-- its text: without a space, and ended by one newline
unfoldable pub report_text : Totals → List ℕ → List LifeNumbers → List RankTold → List ℕ
report_text t refused lives ranks = compact_text (report_data t refused lives ranks) ++ 10 ∷ []

-- The text is that of the report on a history
pub record IsReportText (w : Window) (text : List ℕ) : Type 0 where
  pub refused : List ℕ
  pub counts : CountsRefusals refused (entries_of w)
  pub lives : List LifeNumbers
  pub are_lives : AreLivesTold w lives
  pub ranks : List RankTold
  pub are_ranks : AreRanksTold w ranks
  pub text_is : text ≡ report_text (totals_told w) refused lives ranks
