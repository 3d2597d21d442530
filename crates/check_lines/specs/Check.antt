-- What is read and written where any file is checked.
use Rattle.std.specs.Prelude.{◌≡◌, ◌⊎◌, ℕ, List, Option}
use Rattle.std.specs.Io.KnownBytes.{Keeps}
use Rattle.text_stream.specs.declared.fault.TextFault.TheVariants.{Input, Memory}
use Rattle.text_stream.specs.declared.run_fault.RunFault.{RunFault}
use Rattle.text_stream.specs.declared.run_fault.RunFault.TheVariants.{Text}
use Rattle.journal_entries.specs.End.{StopsCommand}
use Rattle.check_lines.specs.Document.{Checks, StopsCheck}
use Rattle.check_lines.specs.declared.form.CheckForm.{CheckForm}
use Rattle.check_lines.specs.declared.kind.FileKind.{FileKind}
use Rattle.check_lines.specs.declared.kind.FileKind.TheVariants as kind
use Rattle.check_lines.specs.declared.verdict.Verdict.{Verdict}
use Rattle.check_lines.specs.declared.verdict.Verdict.TheVariants.{Document, Journal, Opening, Live}
use Rattle.check_lines.specs.Front.{IsFront}
use Rattle.check_lines.specs.Kind.{kind_of_front}
use Rattle.check_lines.specs.Journal.{ChecksJournal}
use Rattle.check_lines.specs.Live.{ChecksLive, StopsLive}

-- a file was checked as a document, and what was found was written in this form
abbrev pub ChecksDocument : CheckForm → Option (List ℕ) → Option (List ℕ) → Option (List ℕ) → Option (List ℕ)
    → Verdict → Type 0
ChecksDocument form unread left before after (Document found) = Checks form unread left before after found
ChecksDocument form unread left before after (Journal end) = ⊥
ChecksDocument form unread left before after (Opening fault) = ⊥
ChecksDocument form unread left before after (Live bad) = ⊥

-- as a journal
abbrev pub ChecksAsJournal : CheckForm → Option (List ℕ) → Option (List ℕ) → Option (List ℕ) → Option (List ℕ)
    → Verdict → Type 0
ChecksAsJournal form unread left before after (Document found) = ⊥
ChecksAsJournal form unread left before after (Journal end) = ChecksJournal form unread left before after end
ChecksAsJournal form unread left before after (Opening fault) = ⊥
ChecksAsJournal form unread left before after (Live bad) = ⊥

-- a file was checked as this kind
abbrev pub ChecksAs : CheckForm → FileKind → Option (List ℕ) → Option (List ℕ) → Option (List ℕ) → Option (List ℕ)
    → Verdict → Type 0
ChecksAs form kind.Document unread left before after found = ChecksDocument form unread left before after found
ChecksAs form kind.Journal unread left before after found = ChecksAsJournal form unread left before after found
ChecksAs form kind.Live unread left before after found = ChecksLive form unread left before after found

-- A file was checked as the kind that its first bytes begin. What is known of the bytes to be read is as it was before
-- they were looked at
pub record ChecksAny (form : CheckForm) (unread left before after : Option (List ℕ)) (found : Verdict)
    : Type 0 where
  pub text : Option (List ℕ)
  pub same : Keeps unread text
  pub front : List ℕ
  pub is_front : IsFront text front
  pub checks : ChecksAs form (kind_of_front front) text left before after found

-- why the check of a file of this kind ends
abbrev pub StopsAs : FileKind → Option (List ℕ) → Option (List ℕ) → RunFault → Type 0
StopsAs kind.Document unread left fault = StopsCheck unread left fault
StopsAs kind.Journal unread left fault = StopsCommand unread left fault
StopsAs kind.Live unread left fault = StopsLive unread left fault

-- The check of a file ended as that of the kind that its first bytes begin
pub record StopsKind (unread left : Option (List ℕ)) (fault : RunFault) : Type 0 where
  pub text : Option (List ℕ)
  pub same : Keeps unread text
  pub front : List ℕ
  pub is_front : IsFront text front
  pub stops : StopsAs (kind_of_front front) text left fault

-- why a check ends: a read failed or memory ran out, which tell nothing more; or as that of its kind
abbrev pub StopsAny : Option (List ℕ) → Option (List ℕ) → RunFault → Type 0
StopsAny unread left fault =
    (fault ≡ Text Input) ⊎ ((fault ≡ Text Memory) ⊎ StopsKind unread left fault)
