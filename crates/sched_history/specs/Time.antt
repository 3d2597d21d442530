-- The time of a history: the frame that the next MAP describes, and how far requests were heard.
use Rattle.std.specs.Prelude.{◌≡◌, ℕ, ◌+◌, ◌*◌, ◌%◌, ◌≤◌, min, Bool, true, false, ◌==◌, List}
use Rattle.std.specs.Prelude.{[], ◌∷◌, map, count_by, Option, None, Some, if◌then◌else◌}
use Rattle.std.specs.Option.{option_map_or}
use Rattle.minislots.specs.declared.config.Config.{Config}
use Rattle.periodic.specs.Placement.{count_from}
use Rattle.sched_calls.specs.declared.call.Call.{Call}
use Rattle.sched_calls.specs.declared.call.Call.TheVariants as calls
use Rattle.sched_calls.specs.declared.reply.Reply.{Reply}
use Rattle.sched_calls.specs.declared.reply.Reply.TheVariants as replies
use Rattle.sched_calls.specs.declared.reply.Entry.{Entry}
use Rattle.sched_history.specs.Latest.{latest}

-- the answer of an accepted skip
abbrev pub skip_by : Reply → Option ℕ
skip_by (replies.Skipped next) = Some next
skip_by reply = None

-- whether a MAP was built
abbrev pub is_built : Reply → Bool
is_built (replies.Built m) = true
is_built reply = false

-- how many MAPs were built in these entries
abbrev pub builds_in : List Entry → ℕ
builds_in entries = count_by (λ e. is_built e.reply) entries

-- where the next MAP's frame starts: at the latest skip's answer or the configured start, a frame later for each MAP
abbrev pub next_after : Config → List Entry → ℕ
next_after c h =
    option_map_or (λ found. found.said + c.frame * builds_in found.after) (latest (λ e. skip_by e.reply) h)
    (c.start + c.frame * builds_in h)

-- the progress of this receiver that an accepted entry notes
abbrev pub progress_by : ℕ → Call → Reply → Option ℕ
progress_by receiver (calls.Heard other upto) replies.Noted = if other == receiver then Some upto else None
progress_by receiver call reply = None

-- the minislot before which a receiver has handed in every request that it heard
abbrev pub progress_of : Config → ℕ → List Entry → ℕ
progress_of c receiver h =
    option_map_or (λ found. found.said) (latest (λ e. progress_by receiver e.call e.reply) h) c.start

-- the least of some numbers
abbrev pub least : List ℕ → ℕ
least [] = 0
least (x ∷ []) = x
least (x ∷ y ∷ xs) = min x (least (y ∷ xs))

-- the least progress of all receivers
abbrev pub ack_after : Config → List Entry → ℕ
ack_after c h = least (map (λ receiver. progress_of c receiver h) (count_from 0 c.receivers))

-- The start is the least multiple of the frame's length at or after the minislot
pub record IsFirstStart (c : Config) (slot start : ℕ) : Type 0 where
  pub whole : start % c.frame ≡ 0
  pub reached : slot ≤ start
  pub least : (n : ℕ) → n % c.frame ≡ 0 → slot ≤ n → start ≤ n
