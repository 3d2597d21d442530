-- Worked machines that keep at most two entries: when one is full, and what a hand-over changes.
use Rattle.std.proofs.Common.{◌≡◌, ℕ, true, false, List, [], ◌∷◌, refl}
use Rattle.minislots.specs.declared.config.Config.{Config}
use Rattle.sched_calls.proofs.Base.{base}
use Rattle.sched_calls.specs.declared.call.Call.TheVariants.{Status}
use Rattle.sched_calls.specs.declared.reply.Reply.TheVariants.{Flow}
use Rattle.sched_calls.specs.declared.reply.Entry.{Entry}
use Rattle.sched_history.specs.Life.{sids}
use Rattle.sched_history.specs.History.{IsStep}
use Rattle.sched_history.specs.Machine.{Machine, kept_of, is_full}
use Rattle.sched_history.proofs.rows.TwoMaps.{built, admitted, asked}

-- the channel of which two entries are kept at most
abbrev of_two : Config
of_two = record base { calls = 2 }

-- so many of these entries were handed over
abbrev with_handed : ℕ → List Entry → Machine
with_handed n h = record { config = of_two; history = h; handed = n }

-- two entries that are kept fill it
pub two_kept_entries_are_full : is_full (with_handed 0 (built ∷ admitted ∷ [])) ≡ true
two_kept_entries_are_full = refl

-- one does not
pub one_kept_entry_is_not_full : is_full (with_handed 0 (built ∷ [])) ≡ false
one_kept_entry_is_not_full = refl

-- once they were handed over nothing is kept, and there is room again
pub what_was_handed_over_is_not_kept : kept_of (with_handed 2 (built ∷ admitted ∷ [])) ≡ []
what_was_handed_over_is_not_kept = refl

-- so it is not full
pub after_a_hand_over_it_is_not_full : is_full (with_handed 2 (built ∷ admitted ∷ [])) ≡ false
after_a_hand_over_it_is_not_full = refl

-- of three entries the last two are kept where one was handed over: it is full
pub the_last_entries_are_kept : kept_of (with_handed 1 (built ∷ admitted ∷ asked ∷ [])) ≡ admitted ∷ asked ∷ []
the_last_entries_are_kept = refl

-- two kept ones fill it, however many there were before them
pub two_kept_of_three_are_full : is_full (with_handed 1 (built ∷ admitted ∷ asked ∷ [])) ≡ true
two_kept_of_three_are_full = refl

-- where two were it is not, though its whole history has more entries than may be kept
pub one_kept_of_three_is_not_full : is_full (with_handed 2 (built ∷ admitted ∷ asked ∷ [])) ≡ false
one_kept_of_three_is_not_full = refl

-- a status counts what was asked in entries that were handed over
pub a_status_counts_what_was_handed_over : let m = with_handed 3 (built ∷ admitted ∷ asked ∷ []) in
    IsStep m.config m.history (Status 17) (Flow 100 0 100)
unfolding sids
a_status_counts_what_was_handed_over = refl
