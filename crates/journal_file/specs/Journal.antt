-- What callers see of a journal in a file.
use Rattle.std.specs.Prelude.{◌≡◌, ℕ, Bool, true, ◌||◌, ◌&&◌, List, Option}
use Rattle.minislots.specs.declared.config.Config.{Config}
use Rattle.sched_calls.specs.declared.reply.Entry.{Entry}
use Rattle.journal_file.specs.declared.journal.FileJournal.{FileJournal}
use Rattle.journal_file.specs.declared.notes.Note.{Note}
use Rattle.journal_file.specs.declared.place.Place.TheVariants.{Whole}
use Rattle.live_command.specs.declared.journal.BeginFault.{BeginFault}
use Rattle.journal_file.specs.Place.{StandsInFile, StandsOnDevice, MayBegin}
use Rattle.journal_file.specs.Refusing.{MayRefuse}

-- where the bytes of a journal are looked at: in its file, or on the device that has the file
pub data Medium : Type 0 where
  File : Medium
  Device : Medium

-- How a journal is looked at: on this medium, beside whether all has to reach the device, the bytes that were found in
-- its file, and the notes told before
pub record View : Type 0 where
  pub medium : Medium
  pub asked : Bool
  pub found : Option (List ℕ)
  pub before : Option (List Note)

module _ {S N : Type 0} where
  -- the file
  abbrev pub store_of : FileJournal S N → S
  store_of j = j.file.store

  -- where notes are told
  abbrev pub notes_in : FileJournal S N → N
  notes_in j = j.notes

  -- whether what is put there has to reach the device
  abbrev pub is_synced : FileJournal S N → Bool
  is_synced j = j.file.is_synced

  -- it ends with whole lines
  abbrev pub is_whole : FileJournal S N → Type 0
  is_whole j = j.file.place ≡ Whole

  -- whether a call has failed: one that changes the file, or one that reads it
  abbrev pub file_failed : (S → Bool) → Bool → FileJournal S N → Bool
  file_failed failed may_misread j = (j.file.misread && may_misread) || failed j.file.store

  -- nothing of it was changed, and nothing was told
  abbrev pub IsUntouched : FileJournal S N → FileJournal S N → Type 0
  IsUntouched old new = (store_of new ≡ store_of old) × (notes_in new ≡ notes_in old)

  module _ (contents : S → Option (List ℕ)) (reached : S → Option (List ℕ)) (told : N → Option (List Note)) where
    -- what it has now is what it is looked at beside
    abbrev pub view_of : FileJournal S N → Medium → View
    view_of j medium = record {
      medium = medium;
      asked = j.file.is_synced;
      found = contents j.file.store;
      before = told j.notes;
    }

    -- what it stands for on a medium; nothing is said of a device that all need not reach
    abbrev pub StandsOn : Medium → FileJournal S N → View → Config → List Entry → Type 0
    StandsOn File j v c es =
        StandsInFile c v.found v.before j.file.place (contents j.file.store) (told j.notes) es
    StandsOn Device j v c es = v.asked ≡ true → (j.file.is_synced ≡ true) × StandsOnDevice c v.found v.before
        j.file.place (contents j.file.store) (reached j.file.store) (told j.notes) es

    -- it was begun, and stands for this configuration and these entries
    abbrev pub FileStandsFor : FileJournal S N → View → Config → List Entry → Type 0
    FileStandsFor j v = StandsOn v.medium j v

    -- it stands for them once it is begun
    abbrev pub FileMayBegin : FileJournal S N → View → Config → List Entry → Type 0
    FileMayBegin j v c es = (j.file.is_synced ≡ v.asked)
        × MayBegin c v.found v.before j.file.place (contents j.file.store) (told j.notes) es

    -- it may refuse to begin under this configuration, for this fault
    abbrev pub FileMayRefuse : FileJournal S N → Config → BeginFault → Type 0
    FileMayRefuse j = MayRefuse j.file.place (contents j.file.store)
