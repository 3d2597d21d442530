-- How far a run has come.
use Rattle.std.proofs.Common.{◌≡◌, ℕ, ◌+◌, ◌<◌, ◌≤◌, List, [], ◌∷◌, ◌++◌, length, get_or, take}
use Rattle.std.proofs.Common.{Option, ap, sym, subst}
use Rattle.std.specs.Prelude.{flat_map}
use Rattle.std.specs.Io.KnownBytes.{Appends, append_known}
use Rattle.std.proofs.KnownBytes.{Appends-trans}
use Rattle.std.proofs.lemmas.List.{append-nil, take_all}
use Rattle.std.proofs.lemmas.List.Concat.{flat_map-append}
use Rattle.sched_calls.specs.declared.call.Call.{Call}
use Rattle.minislots.specs.declared.config.Config.{Config}
use Rattle.sched_calls.specs.declared.reply.Entry.{Entry}
use Rattle.sched_history.specs.Machine.{Machine}
use Rattle.sched_calls.specs.Reply.{Answer}
use Rattle.sched_history.specs.Answer.{MakesCall, MakesCalls, recorded_entries}
use Rattle.text_stream.proofs.Written.{Appends-out}
use Rattle.sched_history.proofs.runs.Made.{MakesCalls-push, MakesCalls-legal}
use Rattle.run_command.specs.declared.output.Words.{Words}
use Rattle.run_command.specs.declared.output.RunOutput.{RunOutput}
use Rattle.run_command.specs.declared.output.RunOutput.TheVariants.{Lines, History, Journal}
use Rattle.run_command.specs.Run.{HistoryFits, AnswersLeaving, line_with, output_of}
use Rattle.sched_history.proofs.runs.Leaving.{MakesCalls-count}

-- from one state of the scheduler and the writer these calls led to others, and such lines of their answers were
-- written
pub record Runs (line : Answer → List ℕ) (old new : Machine) (calls : List Call)
    (before after : Option (List ℕ)) : Type 0 where
  -- the answers, in the order of their calls
  pub answers : List Answer
  -- they are those that the scheduler gives
  pub makes : MakesCalls old new calls answers
  -- and their lines were written
  pub written : Appends before after (flat_map line answers)

-- one call more, and its line
pub Runs-push : (line : Answer → List ℕ) (old mid new : Machine) (calls : List Call) (i : ℕ) (d : Call)
    (answer : Answer) (before between after : Option (List ℕ)) → i < length calls
    → Runs line old mid (take i calls) before between → MakesCall mid new i (get_or calls i d) answer
    → Appends between after (line answer)
    → Runs line old new (take (i + 1) calls) before after
Runs-push line old mid new calls i d answer before between after below runs one more = record {
  answers = runs.answers ++ answer ∷ [];
  makes = MakesCalls-push old mid new calls i d runs.answers answer below runs.makes one;
  written = rw (flat_map-append, append-nil)
      (Appends-trans before between after (flat_map line runs.answers) (line answer) runs.written more);
}

-- the lines that waited are written
pub Runs-written : (line : Answer → List ℕ) (old new : Machine) (calls : List Call)
    (before between after : Option (List ℕ)) (waiting : List ℕ)
    → Runs line old new calls before (append_known between waiting) → Appends between after waiting
    → Runs line old new calls before after
Runs-written line old new calls before between after waiting runs out = record {
  answers = runs.answers;
  makes = runs.makes;
  written = Appends-out before between after waiting (flat_map line runs.answers) runs.written out;
}

-- all calls, with their lines
pub Runs-whole : (words : Words) (old new : Machine) (calls : List Call) (n : ℕ)
    (before after : Option (List ℕ)) (unrecorded : ℕ) → length calls ≤ n
    → Runs (line_with words) old new (take n calls) before after
    → unrecorded + length new.history ≡ length calls
    → AnswersLeaving (Lines words) old.config calls before after unrecorded
Runs-whole words old new calls n before after unrecorded all runs count =
    let makes : MakesCalls old new calls runs.answers = rw (take_all n calls all) at runs.makes in
    record {
      answered = record {
        answers = runs.answers;
        each = makes.each;
        legal = MakesCalls-legal old new calls runs.answers makes;
        fits = λ text. absurd (let no : Lines words ≡ History = text in cc);
        journal_fits = λ text. absurd (let no : Lines words ≡ Journal = text in cc);
        written = runs.written;
      };
      count = MakesCalls-count old new calls runs.answers unrecorded makes count;
    }

-- all calls, with a text of their history
pub history-written : (output : RunOutput) (text : Config → List Entry → List ℕ) (old new : Machine) (calls : List Call)
    (answers : List Answer) (before after : Option (List ℕ)) (unrecorded : ℕ)
    → output_of output old.config calls answers ≡ text old.config (recorded_entries 0 calls answers)
    → MakesCalls old new calls answers → HistoryFits old.config new.history
    → Appends before after (text old.config new.history) → unrecorded + length new.history ≡ length calls
    → AnswersLeaving output old.config calls before after unrecorded
history-written output text old new calls answers before after unrecorded is makes fits written count =
    let all_fit = rw (ap (λ (m : Machine). m.history) makes.state) at fits in
    record {
      answered = record {
        answers = answers;
        each = makes.each;
        legal = MakesCalls-legal old new calls answers makes;
        fits = λ asked. all_fit;
        journal_fits = λ asked. all_fit;
        written = subst (Appends before after) (sym is)
            (rw (ap (λ (m : Machine). m.history) makes.state) at written);
      };
      count = MakesCalls-count old new calls answers unrecorded makes count;
    }
