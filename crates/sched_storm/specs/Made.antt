-- The calls that a worker of a storm made, and the lists that its seat found when it entered the lock with them: the
-- lists entered.
use Rattle.std.specs.Prelude.{◌≡◌, ◌⊎◌, ◌≤◌, ◌++◌, ℕ, Bool, not, List, [], ◌∷◌, length, map, filter, Option, is_some}
use Rattle.std.specs.Prelude.{IfSome, IfNone}
use Rattle.std.specs.Option.{option_to_list}
use mathlib.Core.List.{IsPrefix}
use Rattle.minislots.specs.declared.config.Config.{Config}
use Rattle.sched_calls.specs.declared.call.Call.{Call}
use Rattle.sched_calls.specs.declared.reply.Entry.{Entry}
use Rattle.sched_history.specs.Machine.{MayLackMemory}
use Rattle.sched_desk.specs.Closed.{entries_of}

-- a call that a worker made: the list entered with it, and the entry that it added to that list, if any
pub record MadeCall : Type 0 where
  pub call : Call
  pub entered : List Entry
  pub added : Option Entry

-- whether the call was recorded
abbrev pub is_recorded : MadeCall → Bool
is_recorded m = is_some m.added

-- the list that the seat left behind
abbrev pub list_left : MadeCall → List Entry
list_left m = m.entered ++ option_to_list m.added

-- the calls made, in order
abbrev pub calls_made : List MadeCall → List Call
calls_made made = map (λ m. m.call) made

-- those of them that were recorded
abbrev pub calls_recorded : List MadeCall → List Call
calls_recorded made = calls_made (filter is_recorded made)

-- how many of them were not
abbrev pub left_out_count : List MadeCall → ℕ
left_out_count made = length (filter (λ m. not (is_recorded m)) made)

-- the calls of entries
abbrev pub calls_in : List Entry → List Call
calls_in h = map (λ e. e.call) h

-- why a call may be left out: the list entered is full, or no refusal meets the call after that list, and it takes
-- memory
abbrev pub MayBeLeftOut : Config → MadeCall → Type 0
MayBeLeftOut c m = (c.calls ≤ length m.entered) ⊎ MayLackMemory c m.entered m.call

-- the second list is the first, and then entries of other seats than this one alone
pub record GrowsByOthers (number : ℕ) (from to : List Entry) : Type 0 where
  pub begins : IsPrefix from to
  pub same_own : entries_of number to ≡ entries_of number from

-- the seat with this number, which had seen this list, made this call
pub record IsMadeAfter (c : Config) (number : ℕ) (from : List Entry) (m : MadeCall) : Type 0 where
  -- since then others alone had added to the list entered
  pub enters : GrowsByOthers number from m.entered
  -- it added an entry of its own with this call, or the call may be left out
  pub adds : IfSome m.added (λ e. (e.stamp.seat ≡ number) × (e.call ≡ m.call))
  pub leaves_out : IfNone m.added (MayBeLeftOut c m)

-- the seat with this number, which had seen the first list, made these calls one after the other, and no others that
-- were recorded up to the last list
abbrev pub Leads : Config → ℕ → List Entry → List MadeCall → List Entry → Type 0
Leads c number from [] h = GrowsByOthers number from h
Leads c number from (m ∷ ms) h = IsMadeAfter c number from m × Leads c number (list_left m) ms h
