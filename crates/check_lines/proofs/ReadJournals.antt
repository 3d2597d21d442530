-- What is found in a journal, whatever words stand behind it.
use Rattle.std.proofs.Common.{◌≡◌, ℕ, List, Option, Result, Ok, Err, sym, subst}
use Rattle.std.specs.Prelude.{IfOk, IfErr}
use Rattle.text_stream.specs.declared.fault.TextFault.{TextFault}
use Rattle.text_stream.specs.declared.fault.TextFault.TheVariants.{Memory}
use Rattle.journal_entries.specs.declared.end.EntriesEnd.{EntriesEnd}
use Rattle.journal_entries.specs.declared.entries.JournalEntries.{JournalEntries}
use Rattle.journal_entries.specs.Journal.{StopsJournal}
use Rattle.journal_entries.specs.Next.{HasGiven}
use Rattle.check_lines.specs.declared.journal.JournalReport.{JournalReport}
use Rattle.check_lines.specs.Journal.{FindsEnd}

module _ (given : Option (List ℕ) → Type 0) (left : Option (List ℕ)) where
  -- the end that was reported is the one that was found
  pub FindsEnd-reported : (end : EntriesEnd) (r : Result JournalReport TextFault)
      → IfOk r (λ report. report.end ≡ end)
      → ((before : Option (List ℕ)) → given before → (count : ℕ) → FindsEnd before left count end)
      → IfOk r (λ report. (before : Option (List ℕ)) → given before → FindsEnd before left report.entries report.end)
  FindsEnd-reported end (Ok report) is finds = λ before has.
      subst (FindsEnd before left report.entries) (sym is) (finds before has report.entries)
  FindsEnd-reported end (Err e) is finds = tt

  -- or memory ran out
  pub StopsJournal-memory : (r : Result JournalReport TextFault) → IfErr r (λ e. e ≡ Memory)
      → IfErr r (λ fault. (before : Option (List ℕ)) → given before → StopsJournal before left fault)
  StopsJournal-memory (Ok report) is = tt
  StopsJournal-memory (Err e) is = λ before has. subst (StopsJournal before left) (sym is) tt

-- what was found behind an opening that was read
pub FindsEnd-opened : (r : Result JournalReport TextFault) (before left known : Option (List ℕ))
    (entries : JournalEntries)
    → IfOk r (λ report. (b : Option (List ℕ)) → HasGiven b known entries → FindsEnd b left report.entries report.end)
    → HasGiven before known entries → IfOk r (λ report. FindsEnd before left report.entries report.end)
FindsEnd-opened (Ok report) before left known entries finds given = finds before given
FindsEnd-opened (Err e) before left known entries finds given = tt
