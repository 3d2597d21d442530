-- The limits in figures, which definitions name by the constants of the code.
use Rattle.std.proofs.Common.{◌≡◌, ℕ, refl}
use Rattle.sched_calls.specs.declared.call.TheConstants.{MAX_SCRIPTS}
use Rattle.sched_calls.specs.declared.reply.TheConstants.{MAX_ENTRIES, MAX_WHOLE_HISTORY}

-- the most scripts that are run at the same time
pub most_scripts : ◌≡◌ {A = ℕ} MAX_SCRIPTS 16
most_scripts = refl

-- the most entries of a list that is audited
pub most_entries : ◌≡◌ {A = ℕ} MAX_ENTRIES 16777216
most_entries = refl

-- the most entries of a whole history: 2 ^ 44
pub most_history : ◌≡◌ {A = ℕ} MAX_WHOLE_HISTORY 17592186044416
most_history = refl
