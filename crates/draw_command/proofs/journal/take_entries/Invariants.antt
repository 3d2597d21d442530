-- The entries so far, as many as there were turns, were taken by the part, and no read failed.
use Rattle.std.proofs.Common.{◌≡◌, ℕ, List, [], Option, length}
use Rattle.journal_entries.specs.Unjudged.{HasRead}
use Rattle.frame_picture.specs.Part.{HasTaken}
use Rattle.draw_command.proofs.journal.take_entries.Given as goal

abbrev pub invariant-loop-place : goal.invariant-loop-place
invariant-loop-place g l = record {
  so_far : (before : Option (List ℕ))
      → HasRead before (g.R.Source.remaining l.initial.reader) l.initial.entries l.initial.part.config []
      → HasRead before (g.R.Source.remaining l.reader) l.entries l.initial.part.config l.part.auditor.history;
  taken : HasTaken l.part;
  config : l.part.config ≡ l.initial.part.config;
  span : l.part.span ≡ l.initial.part.span;
  count : l.place ≡ length l.part.auditor.history;
  unfailed : g.R.Source.has_failed l.reader ≡ g.R.Source.has_failed l.initial.reader;
}
