-- What is told of all lives of a history.
use Rattle.std.specs.Prelude.{◌≡◌, ℕ, ◌<◌, ◌≤◌, ◌^◌, ◌⊎◌, List, ◌++◌, length, take, slice_index_or}
use Rattle.minislots.specs.declared.config.Config.{Config}
use Rattle.minislots.specs.Config.{IsLawful}
use Rattle.map_build.specs.declared.met.Met.{Met}
use Rattle.sched_calls.specs.declared.frame_map.FrameMap.{FrameMap}
use Rattle.sched_calls.specs.declared.call.Call.{Call}
use Rattle.sched_calls.specs.declared.reply.Reply.{Reply}
use Rattle.sched_calls.specs.declared.reply.Reply.TheVariants.{Built}
use Rattle.sched_calls.specs.declared.reply.Entry.{Entry}
use Rattle.sched_calls.specs.declared.reply.TheConstants.{MAX_WHOLE_HISTORY}
use Rattle.sched_history.specs.Facts.{IsOrderly}
use Rattle.sched_history.specs.History.{IsStep, IsLegal}
use Rattle.sched_history.specs.Machine.{MayLackMemory}
use Rattle.sched_history.specs.Reserves.{met_after}
use Rattle.sched_history.specs.Time.{next_after}
use Rattle.sched_report.specs.declared.life.LifeTally.{LifeTally}
use Rattle.sched_report.specs.declared.life.LifeNumbers.{LifeNumbers}
use Rattle.sched_report.specs.Delays.{AreSums}
use Rattle.sched_report.specs.Lives.{PastLife, spec_of, lives_in, IsRequest, IsOpening}
use Rattle.sched_report.specs.Spread.{TellsPercentile}
use Rattle.sched_report.specs.Said.{claims_of, delays_in, priority_of, granted_in, carried_in, asked_since, grants_in}
use Rattle.sched_report.specs.Said.{outstanding_in}
use Rattle.sched_report.specs.Said.{waiting_in, dropped_in}
use Rattle.sched_report.specs.Oldest.{oldest_in}
use Rattle.sched_report.specs.Told.{IsLifeOf, MayNote, Meets}
use Rattle.sched_report.specs.WaitsIn.{under_in, held_in}

-- What is told is of these lives, each at its place
pub record AreLives (c : Config) (ts : List LifeTally) (lives : List PastLife) : Type 0 where
  pub long : length ts ≡ length lives
  pub each : (k : ℕ) (t : LifeTally) (life : PastLife) → k < length ts
      → IsLifeOf c (slice_index_or ts k t) (slice_index_or lives k life)

-- the entry may follow each of the lives
abbrev pub MayNoteEach : Config → List PastLife → ℕ → Entry → Type 0
MayNoteEach c lives slot e =
    (k : ℕ) (life : PastLife) → k < length lives → MayNote c (slice_index_or lives k life) slot e

-- the MAP of an entry that follows each of the lives meets these opportunities
abbrev pub MeetsEach : Config → List PastLife → Entry → List Met → Type 0
MeetsEach c lives e met = (k : ℕ) (life : PastLife) → k < length lives → Meets c (slice_index_or lives k life) e met

-- the MAP of a reply, where it has one, starts in reach and is in order
abbrev pub HasOrderlyMap : Config → Reply → Type 0
HasOrderlyMap c reply = (m : FrameMap) → reply ≡ Built m → (m.start < 2 ^ 62) × IsOrderly c m

-- a report keeps something of the entry: it begins a life, or is a request
abbrev pub AddsToReport : Call → Reply → Type 0
AddsToReport call reply = IsRequest call reply ⊎ IsOpening call reply

-- so the report may lack memory for it, or the auditor may
abbrev pub MayLackReportMemory : Config → List Entry → Entry → Type 0
MayLackReportMemory c h e = MayLackMemory c h e.call ⊎ AddsToReport e.call e.reply

-- What is told is of the lives of this history, which is legal, behind so many of its entries, and the entry may follow
-- it, whose MAP meets these opportunities then
pub record MayFollow (c : Config) (passed : ℕ) (h : List Entry) (ts : List LifeTally) (slot : ℕ) (met : List Met)
    (e : Entry) : Type 0 where
  pub lawful : IsLawful c
  pub legal : IsLegal c h
  pub step : IsStep c h e.call e.reply
  pub short : length h < MAX_WHOLE_HISTORY
  pub next : slot ≡ next_after c h
  pub lives : AreLives c ts (lives_in passed h)
  pub meets : met ≡ met_after c h e.reply
  pub passed_few : passed ≤ length h

-- These are the numbers of a life: where the next frame started at its admission or where what is told begins, and
-- where it started at its end or starts now, whether it ended, what was outstanding when that began, what it asked and
-- was granted, its requests that were not served, for how long the first of those that wait has waited, the delays that
-- 50 and 99 in a hundred of those that were served do not exceed, and how often it waited under its reservation and at
-- a ceiling
pub record AreLifeNumbers (c : Config) (n : LifeNumbers) (life : PastLife) : Type 0 where
  pub sid : n.sid ≡ life.sid
  pub spec : n.spec ≡ spec_of life
  pub from : n.from ≡ next_after c (life.upto ++ take life.passed life.since)
  pub to : n.to ≡ next_after c (life.upto ++ life.since)
  pub ended : n.ended ≡ life.ended
  pub priority : n.priority ≡ priority_of (spec_of life)
  pub carried : n.carried ≡ carried_in c life
  pub sums : AreSums c n.sums (claims_of c life) (asked_since c life) (grants_in life)
  pub granted : n.granted ≡ granted_in c life
  pub outstanding : n.outstanding ≡ outstanding_in c life
  pub waiting : n.waiting ≡ waiting_in c life
  pub dropped : n.dropped ≡ dropped_in c life
  pub oldest : n.oldest ≡ oldest_in c life
  pub middle : TellsPercentile 50 (delays_in c life) n.middle
  pub p99 : TellsPercentile 99 (delays_in c life) n.p99
  pub under : n.under ≡ under_in c life
  pub held : n.held ≡ held_in c life
