-- What a journal in a file stands for, on each medium.
use Rattle.std.proofs.Common.{◌≡◌, ℕ, Bool, true, List, [], ◌++◌, take, Option, sym, ap, ◌∙◌, subst, append-nil}
use Rattle.std.specs.Prelude.{flat_map}
use Rattle.std.specs.Io.KnownBytes.{append_known}
use Rattle.minislots.specs.declared.config.Config.{Config}
use Rattle.sched_calls.specs.declared.reply.Entry.{Entry}
use Rattle.history_writing.specs.Journal.{entry_line}
use Rattle.live_command.specs.Journal.{Grows, GrowsInPart}
use Rattle.journal_file.specs.declared.journal.FileJournal.{FileJournal}
use Rattle.journal_file.specs.declared.line_file.LineFile.{LineFile}
use Rattle.journal_file.specs.declared.notes.Note.{Note}
use Rattle.journal_file.specs.declared.place.Place.TheVariants.{Whole}
use Rattle.journal_file.specs.Journal.{Medium, File, Device, View, StandsOn, FileStandsFor}
use Rattle.journal_file.specs.LineFile.{IsWhole, IsBroken}
use Rattle.journal_file.specs.Place.{IsWholeJournal}
use Rattle.journal_file.proofs.Places.{grown, grown-part}

module _ {S N : Type 0} (contents reached : S → Option (List ℕ)) (told : N → Option (List Note)) where
  -- on each medium a whole journal stands for its entries
  stands_on : (medium : Medium) (j : FileJournal S N) (v : View) (c : Config) (es : List Entry) → j.file.place ≡ Whole
      → j.file.is_synced ≡ v.asked → (j.file.is_synced ≡ true → reached j.file.store ≡ contents j.file.store)
      → IsWholeJournal c v.found v.before (contents j.file.store) (told j.notes) es
      → StandsOn contents reached told medium j v c es
  stands_on File j v c es place asked synced is = rw place is
  stands_on Device j v c es place asked synced is = λ on.
      let synced_too : j.file.is_synced ≡ true = asked ∙ on in
      (synced_too, rw place (synced synced_too, is))

  -- so does one that a change has made whole
  pub stands_whole : (old new : LineFile S) (j : FileJournal S N) (v : View) (c : Config) (es : List Entry)
      → IsWhole contents reached old new → j.file ≡ new → old.is_synced ≡ v.asked
      → IsWholeJournal c v.found v.before (contents new.store) (told j.notes) es
      → FileStandsFor contents reached told j v c es
  stands_whole old new j v c es whole same asked is =
      stands_on v.medium j v c es (ap (λ (f : LineFile S). f.place) same ∙ whole.place)
      (ap (λ (f : LineFile S). f.is_synced) same ∙ whole.asked ∙ asked)
      (λ on. rw same (whole.synced (sym whole.asked ∙ sym (ap (λ (f : LineFile S). f.is_synced) same) ∙ on)))
      (rw same is)

  same_on : (medium : Medium) (old new : FileJournal S N) (v : View) (c : Config) (es : List Entry)
      → new.file ≡ old.file → new.notes ≡ old.notes → StandsOn contents reached told medium old v c es
      → StandsOn contents reached told medium new v c es
  same_on File old new v c es file notes stands = rw (file, notes) stands
  same_on Device old new v c es file notes stands = rw (file, notes) stands

  -- where nothing of the file was changed, it stands for the same
  pub grown_none : (old new : FileJournal S N) (entries : List Entry) → new.file ≡ old.file → new.notes ≡ old.notes
      → (v : View) (c : Config) → GrowsInPart (FileStandsFor contents reached told old v c)
      (FileStandsFor contents reached told new v c) entries
  grown_none old new entries file notes v c before stands = (
    0,
    same_on v.medium old new v c (before ++ []) file notes
        (subst (FileStandsFor contents reached told old v c) (sym (append-nil before)) stands),
  )

  -- on each medium lines are put behind a whole journal
  grown_ok-on : (medium : Medium) (old new : FileJournal S N) (v : View) (c : Config) (text : List ℕ)
      (entries : List Entry) → old.file.place ≡ Whole → IsWhole contents reached old.file new.file
      → new.notes ≡ old.notes → text ≡ flat_map entry_line entries
      → contents new.file.store ≡ append_known (contents old.file.store) text
      → Grows (StandsOn contents reached told medium old v c) (StandsOn contents reached told medium new v c) entries
  grown_ok-on File old new v c text entries place whole notes lines more before stands =
      rw (whole.place, notes, more, lines) (grown c v.found (contents old.file.store) v.before (told old.notes) before
      entries (rw place at stands))
  grown_ok-on Device old new v c text entries place whole notes lines more before stands = λ on.
      let was = rw place at (stands on) in
      let asked : new.file.is_synced ≡ true = whole.asked ∙ was.0 in
      rw whole.place (
        asked,
        (
          whole.synced was.0,
          rw (notes, more, lines)
              (grown c v.found (contents old.file.store) v.before (told old.notes) before entries was.1.1),
        ),
      )

  -- or a part of them, since a call failed: in the file there may be some, and on the device there are none
  grown_err-on : (medium : Medium) (failed : S → Bool) (old new : FileJournal S N) (v : View) (c : Config)
      (text : List ℕ) (entries : List Entry) → old.file.place ≡ Whole → IsBroken failed old.file new.file
      → new.notes ≡ old.notes → text ≡ flat_map entry_line entries
      → (k : ℕ) × contents new.file.store ≡ append_known (contents old.file.store) (take k text)
      → reached new.file.store ≡ reached old.file.store
      → GrowsInPart (StandsOn contents reached told medium old v c) (StandsOn contents reached told medium new v c)
      entries
  grown_err-on File failed old new v c text entries place broken notes lines more kept before stands =
      let part = grown-part c v.found (contents old.file.store) v.before (told old.notes) before entries more.0
      (rw place at stands) in
      (part.0, rw (broken.place, notes, more.1, lines) part.1)
  grown_err-on Device failed old new v c text entries place broken notes lines more kept before stands = (
    0,
    λ on.
        let was = rw place at (stands on) in
        rw broken.place (
          broken.asked ∙ was.0,
          rw (notes, kept, was.1.0) (subst
              (IsWholeJournal c v.found v.before (contents old.file.store) (told old.notes))
              (sym (append-nil before)) was.1.1),
        ),
  )

  -- lines are put behind a journal
  pub grown_ok : (old new : FileJournal S N) (text : List ℕ) (entries : List Entry) → old.file.place ≡ Whole
      → IsWhole contents reached old.file new.file → new.notes ≡ old.notes → text ≡ flat_map entry_line entries
      → contents new.file.store ≡ append_known (contents old.file.store) text → (v : View) (c : Config)
      → Grows (FileStandsFor contents reached told old v c) (FileStandsFor contents reached told new v c) entries
  grown_ok old new text entries place whole notes lines more v c =
      grown_ok-on v.medium old new v c text entries place whole notes lines more

  -- or a part of them
  pub grown_err : (failed : S → Bool) (old new : FileJournal S N) (text : List ℕ) (entries : List Entry)
      → old.file.place ≡ Whole → IsBroken failed old.file new.file → new.notes ≡ old.notes
      → text ≡ flat_map entry_line entries
      → (k : ℕ) × contents new.file.store ≡ append_known (contents old.file.store) (take k text)
      → reached new.file.store ≡ reached old.file.store → (v : View) (c : Config)
      → GrowsInPart (FileStandsFor contents reached told old v c) (FileStandsFor contents reached told new v c) entries
  grown_err failed old new text entries place broken notes lines more kept v c =
      grown_err-on v.medium failed old new v c text entries place broken notes lines more kept
