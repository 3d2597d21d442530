-- What the file of a journal stands for, by how far it is one.
use Rattle.std.specs.Prelude.{◌≡◌, ℕ, Bool, true, List, [], length, Option, None, Some}
use Rattle.minislots.specs.declared.config.Config.{Config}
use Rattle.sched_calls.specs.declared.reply.Entry.{Entry}
use Rattle.text_stream.specs.Lines.{IsWithinLine}
use Rattle.journal_file.specs.declared.notes.Note.{Note}
use Rattle.journal_file.specs.declared.place.Place.{Place}
use Rattle.journal_file.specs.declared.place.Place.TheVariants.{Unread, NoLine, Resumed, Whole, Failed}
use Rattle.journal_file.specs.Notes.{told_more}
use Rattle.journal_file.specs.Standing.{IsResumed, IsJournal, IsLeft, IsUnbegun}

-- a fact of the bytes that were found and of those that there are now, where they are known
abbrev pub Known : (List ℕ → List ℕ → Type 0) → Option (List ℕ) → Option (List ℕ) → Type 0
Known P None text = Unit {0}
Known P (Some found) None = ⊥
Known P (Some found) (Some text) = P found text

-- the file can be begun: it was read, and was not begun yet
abbrev pub IsReadyAt : Place → Type 0
IsReadyAt Unread = ⊥
IsReadyAt (NoLine n) = Unit {0}
IsReadyAt (Resumed entries end torn) = Unit {0}
IsReadyAt Whole = ⊥
IsReadyAt Failed = ⊥

-- it was begun, and where a call has failed since, that is known
abbrev pub IsBegunAt : Place → Bool → Type 0
IsBegunAt Unread failed = ⊥
IsBegunAt (NoLine n) failed = ⊥
IsBegunAt (Resumed entries end torn) failed = ⊥
IsBegunAt Whole failed = Unit {0}
IsBegunAt Failed failed = failed ≡ true

module _ (c : Config) (found : Option (List ℕ)) (before : Option (List Note)) where
  -- the bytes are a journal of the entries, and what is to be told of it was told
  abbrev pub IsWholeJournal : Option (List ℕ) → Option (List Note) → List Entry → Type 0
  IsWholeJournal text told es =
      Known (λ f t. (notes : List Note) × IsJournal c f t es notes × (told ≡ told_more before notes)) found text

  -- the same of a journal with what a failed call has left behind it
  abbrev pub IsLeftJournal : Option (List ℕ) → Option (List Note) → List Entry → Type 0
  IsLeftJournal text told es =
      Known (λ f t. (notes : List Note) × IsLeft c f t es notes × (told ≡ told_more before notes)) found text

  -- what the bytes of the file stand for
  abbrev pub StandsInFile : Place → Option (List ℕ) → Option (List Note) → List Entry → Type 0
  StandsInFile Unread text told es = ⊥
  StandsInFile (NoLine n) text told es = ⊥
  StandsInFile (Resumed entries end torn) text told es = ⊥
  StandsInFile Whole text told es = IsWholeJournal text told es
  StandsInFile Failed text told es = IsLeftJournal text told es

  -- what the bytes on its device stand for: they are those of the file, or where a call has failed they are a journal
  abbrev pub StandsOnDevice : Place → Option (List ℕ) → Option (List ℕ) → Option (List Note) → List Entry → Type 0
  StandsOnDevice Unread text reached told es = ⊥
  StandsOnDevice (NoLine n) text reached told es = ⊥
  StandsOnDevice (Resumed entries end torn) text reached told es = ⊥
  StandsOnDevice Whole text reached told es = (reached ≡ text) × IsWholeJournal text told es
  StandsOnDevice Failed text reached told es = IsWholeJournal reached told es

  -- what they stand for once the file is begun
  abbrev pub MayBegin : Place → Option (List ℕ) → Option (List Note) → List Entry → Type 0
  MayBegin Unread text told es = ⊥
  MayBegin (NoLine n) text told es = (told ≡ before)
      × Known (λ f t. IsWithinLine f × (es ≡ []) × (t ≡ f) × (length f ≡ n)) found text
  MayBegin (Resumed entries end torn) text told es = (told ≡ before) × (entries ≡ length es)
      × Known (λ f t. (t ≡ f) × ((front : List ℕ) × IsResumed c f front es torn × (length front ≡ end))) found text
  MayBegin Whole text told es = ⊥
  MayBegin Failed text told es = (told ≡ before) × Known (λ f t. IsUnbegun c f t es) found text
