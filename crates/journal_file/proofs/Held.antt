-- The whole of a conversation, from what was found in its file.
use Rattle.std.proofs.Common.{◌≡◌, ℕ, List, [], ◌∷◌, ◌++◌, length, Option, None, Some, refl, sym, inl, inr}
use Rattle.std.specs.Io.KnownBytes.{IsAtEnd, prepend_known}
use Rattle.minislots.specs.declared.config.Config.{Config}
use Rattle.sched_calls.specs.declared.reply.Entry.{Entry}
use Rattle.sched_history.specs.Machine.{Machine}
use Rattle.live_command.specs.declared.fault.LiveFault.{LiveFault}
use Rattle.live_command.specs.declared.journal.BeginFault.{BeginFault}
use Rattle.live_command.specs.declared.journal.BeginFault.TheVariants as begins
use Rattle.live_command.specs.declared.wording.Wording.{Wording}
use Rattle.live_command.specs.Going.{WentOn, EndsGoing}
use Rattle.live_command.specs.Held.{Ends}
use Rattle.journal_file.specs.declared.journal.FileJournal.{FileJournal}
use Rattle.journal_file.specs.declared.notes.Note.{Note}
use Rattle.journal_file.specs.declared.place.Place.{Place}
use Rattle.journal_file.specs.declared.place.Place.TheVariants.{Unread, NoLine, Resumed, Whole, Failed}
use Rattle.journal_file.specs.Found.{HasNoLine, IsFound, IsJournalTo, ContinuesTo}
use Rattle.journal_file.specs.Journal.{Medium, store_of, view_of, IsUntouched, is_synced, FileMayBegin, FileMayRefuse}
use Rattle.journal_file.specs.Place.{MayBegin}
use Rattle.journal_file.specs.Refusing.{MayRefuse, RefusesBytes}
use Rattle.journal_file.specs.Store.{HasLength}

-- where nothing is at hand, what is untold is what will be read
pub none_at_hand : (left : Option (List ℕ)) → prepend_known [] left ≡ left
none_at_hand None = refl
none_at_hand (Some text) = refl

-- the end of what is untold is that of what will be read
at_end-behind : (held : List ℕ) (left : Option (List ℕ)) → IsAtEnd (prepend_known held left) → IsAtEnd left
at_end-behind held None ended = tt
at_end-behind [] (Some text) ended = ended
at_end-behind (b ∷ held) (Some text) ended = absurd (let no : b ∷ (held ++ text) ≡ [] = ended in cc)

-- the input has ended where nothing of it is untold
pub went_on : (wording : Wording) (old new : Machine) (unread before written : Option (List ℕ)) (held : List ℕ)
    (left : Option (List ℕ)) (stands : List Entry → Type 0)
    → WentOn wording old new unread (prepend_known held left) before written stands
    → WentOn wording old new unread left before written stands
went_on wording old new unread before written held left stands went =
    let all = went.conversed in
    record {
      behind = went.behind;
      goes = went.goes;
      conversed = record {
        lines = all.lines;
        read = all.read;
        ended = at_end-behind held left all.ended;
        texts = all.texts;
        point = all.point;
        says = all.says;
        history = all.history;
        out = all.out;
        stood = all.stood;
      };
    }

-- a file without a whole line
pub is_none : (known : Option (List ℕ)) (place : Place) → IsFound known None place → HasNoLine known
is_none known Unread found = absurd found
is_none known (NoLine n) found = found.1
is_none known (Resumed entries end torn) found = absurd found
is_none known Whole found = absurd found
is_none known Failed found = absurd found

may_no_line : (c : Config) (known : Option (List ℕ)) (before : Option (List Note)) (n : ℕ) → HasLength known n
    → HasNoLine known → MayBegin c known before (NoLine n) known before []
may_no_line c None before n long none = (refl, tt)
may_no_line c (Some text) before n long none = (refl, (none, refl, refl, sym long))

may_none-at : (c : Config) (known : Option (List ℕ)) (before : Option (List Note)) (place : Place)
    → IsFound known None place → MayBegin c known before place known before []
may_none-at c known before Unread found = absurd found
may_none-at c known before (NoLine n) found = may_no_line c known before n found.0 found.1
may_none-at c known before (Resumed entries end torn) found = absurd found
may_none-at c known before Whole found = absurd found
may_none-at c known before Failed found = absurd found

-- What was found of a journal that is resumed
pub record IsResumedAt (known : Option (List ℕ)) (m : Machine) (place : Place) : Type 0 where
  pub entries : ℕ
  pub end : ℕ
  pub torn : ℕ
  pub place_is : place ≡ Resumed entries end torn
  pub continues : ContinuesTo known m end torn
  pub many : entries ≡ length m.history

pub resumed_at : (known : Option (List ℕ)) (m : Machine) (place : Place) → IsFound known (Some m) place
    → IsResumedAt known m place
resumed_at known m Unread found = absurd found
resumed_at known m (NoLine n) found = absurd found
resumed_at known m (Resumed count end torn) found =
    record { entries = count; end = end; torn = torn; place_is = refl; continues = found.0; many = found.1 }
resumed_at known m Whole found = absurd found
resumed_at known m Failed found = absurd found

may_journal : (c : Config) (known : Option (List ℕ)) (before : Option (List Note)) (es : List Entry)
    (entries end torn : ℕ) → IsJournalTo known c es end torn → entries ≡ length es
    → MayBegin c known before (Resumed entries end torn) known before es
may_journal c None before es entries end torn is many = (refl, many, tt)
may_journal c (Some text) before es entries end torn is many = (refl, many, (refl, is))

refuses_no_line : (known : Option (List ℕ)) (n : ℕ) (c : Config) (why : BeginFault) → HasLength known n
    → HasNoLine known → MayRefuse (NoLine n) known c why → RefusesBytes known c why
refuses_no_line None n c why long none may = tt
refuses_no_line (Some text) n c begins.Memory long none may = none
refuses_no_line (Some text) n c begins.Other long none may = (none, may long)
refuses_no_line (Some text) n c begins.Failed long none may = tt

refuses_none-at : (known : Option (List ℕ)) (place : Place) (c : Config) (why : BeginFault) → IsFound known None place
    → MayRefuse place known c why → RefusesBytes known c why
refuses_none-at known Unread c why found may = absurd found
refuses_none-at known (NoLine n) c why found may = refuses_no_line known n c why found.0 found.1 may
refuses_none-at known (Resumed entries end torn) c why found may = absurd found
refuses_none-at known Whole c why found may = absurd found
refuses_none-at known Failed c why found may = absurd found

refuses_journal : (known : Option (List ℕ)) (entries end torn : ℕ) (c : Config) (why : BeginFault)
    → MayRefuse (Resumed entries end torn) known c why → RefusesBytes known c why
refuses_journal None entries end torn c why may = tt
refuses_journal (Some text) entries end torn c begins.Memory may = absurd may
refuses_journal (Some text) entries end torn c begins.Other may = absurd may
refuses_journal (Some text) entries end torn c begins.Failed may = tt

module _ {S N : Type 0} (contents reached : S → Option (List ℕ)) (told : N → Option (List Note))
    (old new : FileJournal S N) (same : IsUntouched old new) (asked : is_synced new ≡ is_synced old) where
  -- what was found without a line may be begun
  pub may_none : (medium : Medium) (c : Config) → IsFound (contents (store_of old)) None new.file.place
      → FileMayBegin contents reached told new (view_of contents reached told old medium) c []
  may_none medium c found =
      (asked, rw (same.0, same.1) (may_none-at c (contents (store_of old)) (told old.notes) new.file.place found))

  -- and so may what was found of a journal
  pub may_resumed : (medium : Medium) (m : Machine) → IsResumedAt (contents (store_of old)) m new.file.place
      → FileMayBegin contents reached told new (view_of contents reached told old medium) m.config m.history
  may_resumed medium m at = (
    asked,
    rw (same.0, same.1, at.place_is) (may_journal m.config (contents (store_of old)) (told old.notes) m.history
        at.entries at.end at.torn at.continues.0 at.many),
  )

  -- why the file may refuse, by its bytes
  pub refuses_none : (c : Config) (why : BeginFault) → IsFound (contents (store_of old)) None new.file.place
      → FileMayRefuse contents reached told new c why → RefusesBytes (contents (store_of old)) c why
  refuses_none c why found may =
      refuses_none-at (contents (store_of old)) new.file.place c why found (rw same.0 at may)

  pub refuses_resumed : (c : Config) (why : BeginFault) (m : Machine)
      → IsResumedAt (contents (store_of old)) m new.file.place → FileMayRefuse contents reached told new c why
      → RefusesBytes (contents (store_of old)) c why
  refuses_resumed c why m at may = refuses_journal (contents (store_of old)) at.entries at.end at.torn c why
      (rw (same.0, at.place_is) at may)

-- what a new conversation that ends early has left, in other words
pub ends_map : (wording : Wording) (unread left before written : Option (List ℕ))
    (refuses refuses' : Config → BeginFault → Type 0) (may stands : Config → List Entry → Type 0)
    (untouched untouched' quiet : Type 0) (fault : LiveFault)
    → ((c : Config) (why : BeginFault) → refuses c why → refuses' c why) → (untouched → untouched')
    → Ends wording unread left before written refuses may stands untouched quiet fault
    → Ends wording unread left before written refuses' may stands untouched' quiet fault
ends_map wording unread left before written refuses refuses' may stands untouched untouched' quiet fault why none
    (inl opening) = inl (opening.0, opening.1, opening.2, none opening.3)
ends_map wording unread left before written refuses refuses' may stands untouched untouched' quiet fault why none
    (inr (inl is)) = inr (inl (record {
      config = is.config;
      behind = is.behind;
      opened = is.opened;
      unbegun = record {
        why = is.unbegun.why;
        refused = why is.config is.unbegun.why is.unbegun.refused;
        is = is.unbegun.is;
        unwritten = is.unbegun.unwritten;
        begins = is.unbegun.begins;
      };
    }))
ends_map wording unread left before written refuses refuses' may stands untouched untouched' quiet fault why none
    (inr (inr talk)) = inr (inr talk)

-- and one that was resumed
pub going_map : (wording : Wording) (old new : Machine) (unread left before written : Option (List ℕ))
    (refuses refuses' : BeginFault → Type 0) (may stands : List Entry → Type 0)
    (untouched untouched' quiet quiet' : Type 0) (fault : LiveFault)
    → ((why : BeginFault) → refuses why → refuses' why) → (untouched → untouched') → (quiet → quiet')
    → EndsGoing wording old new unread left before written refuses may stands untouched quiet fault
    → EndsGoing wording old new unread left before written refuses' may stands untouched' quiet' fault
going_map wording old new unread left before written refuses refuses' may stands untouched untouched' quiet quiet' fault
    why none still (inl front) = inl (front.0, none front.1)
going_map wording old new unread left before written refuses refuses' may stands untouched untouched' quiet quiet' fault
    why none still (inr (inl is)) = inr (inl (record {
      behind = is.behind;
      goes = is.goes;
      unbegun = record {
        why = is.unbegun.why;
        refused = why is.unbegun.why is.unbegun.refused;
        is = is.unbegun.is;
        unwritten = still is.unbegun.unwritten;
        begins = is.unbegun.begins;
      };
    }))
going_map wording old new unread left before written refuses refuses' may stands untouched untouched' quiet quiet' fault
    why none still (inr (inr early)) = inr (inr early)
