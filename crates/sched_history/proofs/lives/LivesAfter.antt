-- The life of each SID after one more entry.
use Rattle.std.proofs.Common.{◌≡◌, ℕ, List, [], ◌∷◌, ◌++◌, Option, None, Some, refl, ap, ◌∙◌}
use Rattle.std.specs.Option.{option_map, option_and_then}
use Rattle.sched_calls.specs.declared.reply.Entry.{Entry}
use Rattle.sched_history.specs.Latest.{Found, latest}
use Rattle.sched_history.specs.Life.{Admission, Turn, Begins, Ends, turn_by, turn_of, Life, life_after, life_of}
use Rattle.sched_history.proofs.lists.Latests.{with_after, latest-says, latest-silent}

-- a life with one more entry
abbrev pub with_since : Entry → Life → Life
with_since e life = record life { since = life.since ++ e ∷ [] }

-- the life that a latest turn leaves, found so
abbrev left_by : Found Entry Turn → Option Life
left_by found = life_after found.said found.after

life_after-more : (e : Entry) (turn : Turn) (after : List Entry)
    → life_after turn (after ++ e ∷ []) ≡ option_map (with_since e) (life_after turn after)
life_after-more e (Begins admission) after = refl
life_after-more e Ends after = refl

left_by-more : (e : Entry) (found : Option (Found Entry Turn))
    → option_and_then left_by (option_map (with_after e) found)
    ≡ option_map (with_since e) (option_and_then left_by found)
left_by-more e None = refl
left_by-more e (Some found) = life_after-more e found.said found.after

-- an entry that is no turn of the SID comes into its life
pub life_of-stays : (sid : ℕ) (h : List Entry) (e : Entry) → turn_by sid e.call e.reply ≡ None
    → life_of sid (h ++ e ∷ []) ≡ option_map (with_since e) (life_of sid h)
life_of-stays sid h e none =
    ap (option_and_then left_by) (latest-silent (turn_of sid) h e none) ∙ left_by-more e (latest (turn_of sid) h)

-- an admission begins a life
pub life_of-begins : (sid : ℕ) (h : List Entry) (e : Entry) (admission : Admission)
    → turn_by sid e.call e.reply ≡ Some (Begins admission)
    → life_of sid (h ++ e ∷ []) ≡ Some (record { admission = admission; since = [] })
life_of-begins sid h e admission begins =
    ap (option_and_then left_by) (latest-says (turn_of sid) h e (Begins admission) begins)

-- a removal ends the life
pub life_of-ends : (sid : ℕ) (h : List Entry) (e : Entry) → turn_by sid e.call e.reply ≡ Some Ends
    → life_of sid (h ++ e ∷ []) ≡ None
life_of-ends sid h e ends = ap (option_and_then left_by) (latest-says (turn_of sid) h e Ends ends)
