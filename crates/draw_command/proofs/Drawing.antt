-- How far a drawing of a run has come.
use Rattle.std.proofs.Common.{◌≡◌, ℕ, ◌+◌, ◌<◌, false, List, [], ◌∷◌, ◌++◌, length, get_or, take, Option, ap}
use Rattle.std.specs.Io.KnownBytes.{Appends}
use Rattle.sched_calls.specs.declared.call.Call.{Call}
use Rattle.sched_history.specs.Machine.{Machine}
use Rattle.sched_calls.specs.Reply.{Answer}
use Rattle.frame_picture.specs.declared.span.Span.{Span}
use Rattle.frame_picture.specs.Picture.{plan_text}
use Rattle.sched_history.specs.Answer.{MakesCall}
use Rattle.draw_command.specs.Drawing.{lacks_memory, MakesWhole, DrawsLeaving}
use Rattle.sched_lines.proofs.Fitting.{all-push}
use Rattle.sched_history.proofs.runs.Leaving.{MakesCalls-count}
use Rattle.sched_history.proofs.runs.Made.{MakesCalls-push, MakesCalls-legal}

-- one call more, for which there was memory
pub MakesWhole-push : (old mid new : Machine) (calls : List Call) (i : ℕ) (d : Call) (answer : Answer)
    → i < length calls → MakesWhole old mid (take i calls) → MakesCall mid new i (get_or calls i d) answer
    → lacks_memory answer ≡ false → MakesWhole old new (take (i + 1) calls)
MakesWhole-push old mid new calls i d answer below whole one had = record {
  answers = whole.answers ++ answer ∷ [];
  makes = MakesCalls-push old mid new calls i d whole.answers answer below whole.makes one;
  had_memory = all-push (λ (a : Answer). lacks_memory a ≡ false) whole.answers answer whole.had_memory had;
}

-- all calls, and the picture of their MAPs
pub Draws-whole : (old new : Machine) (span : Span) (calls : List Call) (before after : Option (List ℕ))
    (unrecorded : ℕ) → MakesWhole old new calls → Appends before after (plan_text old.config span new.history)
    → unrecorded + length new.history ≡ length calls → DrawsLeaving old.config span calls before after unrecorded
Draws-whole old new span calls before after unrecorded whole written count = record {
  draws = record {
    answers = whole.answers;
    each = whole.makes.each;
    legal = MakesCalls-legal old new calls whole.answers whole.makes;
    had_memory = whole.had_memory;
    written = rw (ap (λ (m : Machine). m.history) whole.makes.state) at written;
  };
  count = MakesCalls-count old new calls whole.answers unrecorded whole.makes count;
}
