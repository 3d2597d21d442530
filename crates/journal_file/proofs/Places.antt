-- What a file stands for after each change of it.
use Rattle.std.proofs.Common.{◌≡◌, ◌⊎◌, ℕ, ◌^◌, ◌-◌, min, Bool, true, false, List, [], ◌++◌, length, take}
use Rattle.std.proofs.Common.{Option, None, Some, refl, sym, ap, ◌∙◌, subst, inl, inr, append-nil, arith}
use Rattle.std.specs.Prelude.{flat_map, ◌==◌, if◌then◌else◌}
use Rattle.std.specs.Io.KnownBytes.{append_known}
use Rattle.std.proofs.Math.Seq.{take-append_seam}
use Rattle.std.proofs.lemmas.Bool.Decides.{Decides-eqb}
use Rattle.minislots.specs.declared.config.Config.{Config}
use Rattle.sched_calls.specs.declared.reply.Entry.{Entry}
use Rattle.journal_entries.specs.Standing.{ended_lines}
use Rattle.history_writing.specs.Journal.{opening_line, entry_line}
use Rattle.journal_file.specs.declared.notes.Note.{Note}
use Rattle.journal_file.specs.declared.place.Place.TheVariants.{NoLine, Resumed, Failed}
use Rattle.journal_file.specs.LineFile.{cut_torn}
use Rattle.journal_file.specs.Notes.{told_more}
use Rattle.journal_file.specs.Place.{IsWholeJournal, IsLeftJournal, MayBegin}
use Rattle.journal_file.specs.Standing.{IsResumed, notes_of}
use Rattle.journal_file.specs.Store.{HasLength, Lacks}
use Rattle.journal_file.proofs.Finding.{all_bytes, none_of}
use Rattle.journal_file.proofs.Growing.{IsJournal-more, IsLeft-more}

-- nothing was told
told_none : (told before : Option (List Note)) → told ≡ before → told ≡ told_more before []
told_none told None is = is
told_none told (Some notes) is = is ∙ ap Some (sym (append-nil notes))

-- a file without a line that got what it lacks of the opening's is begun
pub begun : (c : Config) (found text : Option (List ℕ)) (before told : Option (List Note)) (n : ℕ)
    (opening rest : List ℕ) (es : List Entry) → opening ≡ opening_line c → (HasLength text n → Lacks text opening rest)
    → MayBegin c found before (NoLine n) text told es
    → IsWholeJournal c found before (append_known text rest) told es
begun c None text before told n opening rest es is lacks may = tt
begun c (Some found) None before told n opening rest es is lacks may = absurd may.1
begun c (Some found) (Some text) before told n opening rest es is lacks may =
    let known : n ≡ length text = sym (ap length may.1.2 ∙ may.1.3) in
    let whole : opening_line c ≡ text ++ rest = sym is ∙ lacks known in (
      [],
      record {
        front = text ++ rest;
        resumed = [];
        begins = inl (
          record {
            within = may.1.0;
            lacked = rest;
            opening = whole ∙ ap (λ (t : List ℕ). t ++ rest) may.1.2;
            front_is = sym whole;
            none = refl;
          },
          refl,
        );
        added = [];
        entries_are = may.1.1;
        text_is = sym (append-nil (text ++ rest));
      },
      told_none told before may.0,
    )

-- or a part of it is there, since a call failed
pub begun-part : (c : Config) (found text : Option (List ℕ)) (before told : Option (List Note)) (n : ℕ)
    (opening rest : List ℕ) (k : ℕ) (es : List Entry) → opening ≡ opening_line c
    → (HasLength text n → Lacks text opening rest) → MayBegin c found before (NoLine n) text told es
    → MayBegin c found before Failed (append_known text (take k rest)) told es
begun-part c None text before told n opening rest k es is lacks may = (may.0, tt)
begun-part c (Some found) None before told n opening rest k es is lacks may = absurd may.1
begun-part c (Some found) (Some text) before told n opening rest k es is lacks may =
    let known : n ≡ length text = sym (ap length may.1.2 ∙ may.1.3) in
    let whole : opening_line c ≡ found ++ rest =
    sym is ∙ lacks known ∙ ap (λ (t : List ℕ). t ++ rest) may.1.2 in (
      may.0,
      inl (
        may.1.0,
        may.1.1,
        inr (rest, k, whole, ap (λ (t : List ℕ). t ++ take k rest) may.1.2),
      ),
    )

-- no bytes, where the least of their number and a greater one is none
min_none : (n : ℕ) → min n (2 ^ 64 - 1) ≡ 0 → n ≡ 0
min_none n none = omega (arith, none)

-- one of two
either : (b : Bool) (text front : List ℕ) (end : ℕ) → (b ≡ true → text ≡ front) → take end text ≡ front
    → (if b then Some text else Some (take end text)) ≡ Some front
either true text front end all some = ap Some (all refl)
either false text front end all some = ap Some some

-- the whole lines of what was found are what is left where the torn bytes are cut off
cut_is : (c : Config) (found front : List ℕ) (es : List Entry) (end torn : ℕ) → IsResumed c found front es torn
    → length front ≡ end → cut_torn (Some found) end torn ≡ Some front
cut_is c found front es end torn resumed long =
    let legal = resumed.legal in
    let behind = legal.behind in
    let parts : found ≡ front ++ behind =
    all_bytes found (ended_lines legal.lines ++ behind) resumed.left legal.came.came.consumed legal.came.ended
    ∙ ap (λ (t : List ℕ). t ++ behind) (sym resumed.front_is) in
    let taken : take end found ≡ front =
    ap (take end) parts ∙ ap (λ (n : ℕ). take n (front ++ behind)) (sym long) ∙ take-append_seam front behind in
    let all : torn ≡ 0 → found ≡ front = λ none.
    let nothing : behind ≡ [] = none_of behind (min_none (length behind) (sym legal.torn_is ∙ none)) in
    parts ∙ ap (λ (t : List ℕ). front ++ t) nothing ∙ append-nil front in
    either (torn == 0) found front end (λ is. all ((Decides-eqb torn 0).0 is)) taken

-- a journal that was found, of which the torn bytes are cut off, is whole
pub resumed : (c : Config) (found text : Option (List ℕ)) (before told : Option (List Note)) (entries end torn : ℕ)
    (es : List Entry) → MayBegin c found before (Resumed entries end torn) text told es
    → IsWholeJournal c found before (cut_torn text end torn) (told_more told (notes_of entries torn)) es
resumed c None text before told entries end torn es may = tt
resumed c (Some found) None before told entries end torn es may = absurd may.2
resumed c (Some found) (Some text) before told entries end torn es may =
    let front = may.2.1.0 in
    let is = may.2.1.1 in
    let cut : cut_torn (Some text) end torn ≡ Some front =
    ap (λ (t : List ℕ). cut_torn (Some t) end torn) may.2.0 ∙ cut_is c found front es end torn is may.2.1.2 in
    subst (λ (t : Option (List ℕ)). IsWholeJournal c (Some found) before t (told_more told (notes_of entries torn)) es)
    (sym cut) (
      notes_of entries torn,
      record {
        front = front;
        resumed = es;
        begins = inr (torn, is, ap (λ (n : ℕ). notes_of n torn) may.1);
        added = [];
        entries_are = sym (append-nil es);
        text_is = sym (append-nil front);
      },
      ap (λ (t : Option (List Note)). told_more t (notes_of entries torn)) may.0,
    )

-- or a call failed
pub resumed-failed : (c : Config) (found text new : Option (List ℕ)) (before told : Option (List Note))
    (entries end torn : ℕ) (es : List Entry) → MayBegin c found before (Resumed entries end torn) text told es
    → (new ≡ cut_torn text end torn) ⊎ (new ≡ text) → MayBegin c found before Failed new told es
resumed-failed c None text new before told entries end torn es may cuts = (may.0, tt)
resumed-failed c (Some found) None new before told entries end torn es may cuts = absurd may.2
resumed-failed c (Some found) (Some text) new before told entries end torn es may (inl cuts) =
    let front = may.2.1.0 in
    let is : new ≡ Some front = cuts ∙ ap (λ (t : List ℕ). cut_torn (Some t) end torn) may.2.0
    ∙ cut_is c found front es end torn may.2.1.1 may.2.1.2 in
    rw is (may.0, inr (front, torn, may.2.1.1, inr refl))
resumed-failed c (Some found) (Some text) new before told entries end torn es may (inr same) =
    rw same (may.0, inr (may.2.1.0, torn, may.2.1.1, inl may.2.0))

-- lines were put behind a journal
pub grown : (c : Config) (found text : Option (List ℕ)) (before told : Option (List Note)) (es entries : List Entry)
    → IsWholeJournal c found before text told es
    → IsWholeJournal c found before (append_known text (flat_map entry_line entries)) told (es ++ entries)
grown c None text before told es entries was = tt
grown c (Some found) None before told es entries was = absurd was
grown c (Some found) (Some text) before told es entries was =
    (was.0, IsJournal-more c found text _ es entries was.0 was.1 refl, was.2)

-- or a part of them
pub grown-part : (c : Config) (found text : Option (List ℕ)) (before told : Option (List Note))
    (es entries : List Entry) (k : ℕ) → IsWholeJournal c found before text told es
    → (n : ℕ) × IsLeftJournal c found before (append_known text (take k (flat_map entry_line entries))) told
    (es ++ take n entries)
grown-part c None text before told es entries k was = (0, tt)
grown-part c (Some found) None before told es entries k was = absurd was
grown-part c (Some found) (Some text) before told es entries k was =
    let more = IsLeft-more c found text _ es entries was.0 k was.1 refl in
    (more.0, (was.0, more.1, was.2))
