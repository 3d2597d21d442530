-- What is read of a journal by a reader that judges nothing.
use Rattle.std.specs.Prelude.{ℕ, ◌+◌, List, [], ◌∷◌, ◌++◌, length, Option}
use Rattle.minislots.specs.declared.config.Config.{Config}
use Rattle.sched_calls.specs.declared.reply.Entry.{Entry}
use Rattle.sched_calls.specs.Reply.{IsEncodable}
use Rattle.text_stream.specs.Told.{untold}
use Rattle.journal_entries.specs.declared.unjudged.UnjudgedEntries.{UnjudgedEntries}
use Rattle.journal_entries.specs.declared.unjudged.Read.{Read}
use Rattle.journal_entries.specs.declared.unjudged.Read.TheVariants as read
use Rattle.journal_entries.specs.Standing.{StandFor}
use Rattle.journal_entries.specs.Journal.{Came, StandSoFar, FindsLegal, FindsNoEntryIn}

-- the first lines of a journal, up to those that are left, stand for this legal history
abbrev pub HasRead : Option (List ℕ) → Option (List ℕ) → UnjudgedEntries → Config → List Entry → Type 0
HasRead before remaining entries c es = StandSoFar before (untold entries.lines remaining) c es

-- The first lines came, the last of which stands for this entry behind the others. Of the bytes behind them some are
-- at hand
pub record StandWith (before untaken remaining : Option (List ℕ)) (c : Config) (es : List Entry) (e : Entry)
    : Type 0 where
  pub lines : List (List ℕ)
  pub behind : List ℕ
  pub came : Came before untaken lines []
  pub at_hand : Came before remaining lines behind
  pub stand : StandFor lines c (es ++ e ∷ [])

-- what the next line is behind those that stand for a legal history
abbrev pub IsRead : Option (List ℕ) → Option (List ℕ) → UnjudgedEntries → Config → List Entry → Read → Type 0
IsRead before remaining new c es (read.Entry e) = StandWith before (untold new.lines remaining) remaining c es e
IsRead before remaining new c es read.NoEntry = FindsNoEntryIn before remaining c es (length es + 1)
IsRead before remaining new c es (read.End torn) = FindsLegal before remaining c es torn

-- the MAP of an entry that is read has bytes
abbrev pub ReadsBytes : Read → Type 0
ReadsBytes (read.Entry e) = IsEncodable e.reply
ReadsBytes read.NoEntry = Unit {0}
ReadsBytes (read.End torn) = Unit {0}
