-- What a journal was left with is what a later reading finds.
use Rattle.std.proofs.Common.{◌≡◌, ℕ, ◌-◌, ◌^◌, min, List, [], ◌∷◌, ◌++◌, length, map, Option, Some, refl, sym}
use Rattle.std.proofs.Common.{ap, ap₂, ◌∙◌, subst, inl, inr, arith, append_assoc, append-nil, length-append}
use Rattle.std.specs.Prelude.{IfSome}
use Rattle.std.specs.List.{AllByRecursion}
use Rattle.std.proofs.lemmas.List.{map-append}
use Rattle.std.proofs.lemmas.Grind.{flat_map-append}
use Rattle.std.proofs.Math.Seq.{take-append_seam}
use Rattle.serde_json.specs.Data.{object, no_members}
use Rattle.minislots.specs.declared.config.Config.{Config}
use Rattle.minislots.specs.Config.{IsLawful}
use Rattle.text_stream.specs.declared.TheConstants.{NEWLINE}
use Rattle.text_stream.specs.Lines.{IsWithinLine}
use Rattle.periodic.proofs.Joined.{all-append}
use Rattle.map_build.specs.EachAfter.{EachAfter}
use Rattle.sched_calls.specs.declared.reply.Entry.{Entry}
use Rattle.sched_history.specs.History.{IsStep, IsLegal}
use Rattle.sched_history.proofs.steps.LegalHistories.{EachAfter-take}
use Rattle.history_writing.specs.Fits.{CallFits, ConfigFits}
use Rattle.history_writing.specs.Journal.{opening_line}
use Rattle.journal_entries.specs.Standing.{StandFor, entry_in_line, ended_lines}
use Rattle.journal_entries.specs.Journal.{FindsLegal}
use Rattle.journal_entries.specs.declared.judging.Judged.{Judged}
use Rattle.journal_entries.specs.declared.judging.Judged.TheVariants as judged
use Rattle.journal_entries.specs.declared.resuming.Resumed.{Resumed}
use Rattle.journal_entries.specs.declared.resuming.Resumed.TheVariants as resumed
use Rattle.journal_entries.specs.Judging.{Finds, FindsBad, Resumes}
use Rattle.journal_file.specs.declared.notes.Note.{Note}
use Rattle.journal_file.specs.Standing.{IsFront, IsJournal, IsLeft}
use Rattle.laws.specs.JournalAgain.{HasReadableLine}
use Rattle.laws.specs.LawfulHistory.{IsLawfulHistory, IsCallOfTypes}
use Rattle.laws.specs.ResumedJournal.{IsResumedTo, IsJudgedLegal, IsFoundAgain, IsWholeAgain}
use Rattle.laws.proofs.CallsRead.{entry_in_line-fits}
use Rattle.laws.proofs.TornLines.{torn_within}
use Rattle.laws.proofs.OneReading.{only_legal, not_illegal, not_no_entry, not_no_opening}
use Rattle.laws.proofs.LinesAgain.{line_of, entries_read, lines_text, lines_within, journal_text-read}
use Rattle.laws.proofs.ReadableLines.{opening-short, readable-behind}

-- Whole lines that stand for a configuration and entries
record AreRead (c : Config) (text : List ℕ) (es : List Entry) : Type 0 where
  lines : List (List ℕ)
  within : AllByRecursion IsWithinLine lines
  stand : StandFor lines c es
  text_is : text ≡ ended_lines lines

-- whole lines were there, or the line of the configuration is one
front_read : (c : Config) (found text : List ℕ) (es : List Entry) (notes : List Note) → ConfigFits c → IsLawful c
    → IsFront c found text es notes → AreRead c text es
front_read c found text es notes fits lawful (inr was) = record {
  lines = was.1.legal.lines;
  within = was.1.legal.came.came.within;
  stand = was.1.legal.stand;
  text_is = was.1.front_is;
}
front_read c found text es notes fits lawful (inl begun) =
    let read = journal_text-read c [] fits lawful (record { opening = opening-short c fits; entries = tt }) in
    record {
      lines = read.0;
      within = read.1.within;
      stand = subst (StandFor read.0 c) (sym begun.0.none) read.1.stand;
      text_is = begun.0.front_is ∙ sym (append-nil (opening_line c)) ∙ read.1.text;
    }

-- the lines of entries behind lines
stand-behind : (lines : List (List ℕ)) (c : Config) (before es : List Entry) → StandFor lines c before
    → AllByRecursion HasReadableLine es → StandFor (lines ++ map line_of es) c (before ++ es)
stand-behind lines c before es stand readable = record {
  opening = stand.opening;
  others = stand.others ++ map line_of es;
  lines_are = ap (λ (l : List (List ℕ)). l ++ map line_of es) stand.lines_are;
  config_is = stand.config_is;
  entries_are = map-append entry_in_line stand.others (map line_of es)
      ∙ ap₂ (λ (a b : List (Option Entry)). a ++ b) stand.entries_are (entries_read es readable)
      ∙ sym (map-append Some before es);
}

-- what each member has with those before it, the later ones have
each-behind : {X : Type 0} (P : List X → X → Type 0) (before xs ys : List X) → EachAfter P before (xs ++ ys)
    → EachAfter P (before ++ xs) ys
each-behind P before [] ys each = rw append-nil each
each-behind P before (x ∷ xs) ys each = rw append_assoc at (each-behind P (before ++ x ∷ []) xs ys each.1)

-- what holds of all that lines may stand for holds of what they stand for
all-read : {X Y : Type 0} (f : X → Option Y) (P : Y → Type 0) → ((x : X) → IfSome (f x) P) → (xs : List X) (ys : List Y)
    → map f xs ≡ map Some ys → AllByRecursion P ys
all-read f P each [] [] is = tt
all-read f P each [] (y ∷ ys) is = absurd (cc)
all-read f P each (x ∷ xs) [] is = absurd (cc)
all-read f P each (x ∷ xs) (y ∷ ys) is =
    let here : f x ≡ Some y = cc in
    let others : map f xs ≡ map Some ys = cc in
    (subst (λ o. IfSome o P) here (each x), all-read f P each xs ys others)

-- the history and the torn bytes are found
found_legal : (c : Config) (found text : List ℕ) (es : List Entry) (notes : List Note) → IsLawfulHistory c es
    → (left : IsLeft c found text es notes) → AllByRecursion IsCallOfTypes left.journal.added
    → FindsLegal (Some text) (Some []) c es (min (length left.torn) (2 ^ 64 - 1))
found_legal c found text es notes is left types =
    let journal = left.journal in
    let resumed = journal.resumed in
    let added = journal.added in
    let step : List Entry → Entry → Type 0 = λ h e. IsStep c h e.call e.reply in
    let read = front_read c found journal.front resumed notes is.config_fits is.lawful journal.begins in
    let legal : IsLegal c (resumed ++ added) = subst (IsLegal c) journal.entries_are is.legal in
    let first : IsLegal c resumed = subst (IsLegal c) (take-append_seam resumed added)
    (EachAfter-take step [] (resumed ++ added) (length resumed) legal) in
    let many = ap length journal.entries_are ∙ length-append resumed added in
    let readable = readable-behind c resumed added is.lawful is.config_fits first
    (each-behind step [] resumed added legal)
    (all-read entry_in_line (λ e. CallFits e.call) entry_in_line-fits read.stand.others resumed read.stand.entries_are)
    types (omega (arith, many, is.few)) in
    let lines = read.lines ++ map line_of added in
    let whole : left.whole ≡ ended_lines lines = journal.text_is
    ∙ ap₂ (λ (a b : List ℕ). a ++ b) read.text_is (lines_text added)
    ∙ sym (flat_map-append (λ (line : List ℕ). line ++ NEWLINE ∷ []) read.lines (map line_of added)) in
    record {
      lines = lines;
      behind = left.torn;
      came = record {
        came = record {
          consumed = left.text_is ∙ ap (λ (t : List ℕ). t ++ left.torn) whole
              ∙ sym (append-nil (ended_lines lines ++ left.torn));
          within = all-append IsWithinLine read.lines (map line_of added) read.within (lines_within added);
        };
        ended = refl;
        is_torn = torn_within left.torn left.torn_is;
      };
      stand = subst (StandFor lines c) (sym journal.entries_are)
          (stand-behind read.lines c resumed added read.stand readable);
      legal = is.legal;
      torn_is = refl;
    }

module _ (text : List ℕ) (c : Config) (es : List Entry) (torn : ℕ)
    (found : FindsLegal (Some text) (Some []) c es torn) where
  not_bad : (left : Option (List ℕ)) (n : ℕ) → FindsBad (Some text) left n → ⊥
  not_bad left n (inl none) = not_no_opening text c es torn found left none.1
  not_bad left n (inr none) = not_no_entry text c es torn found left n none

  resumed_to : (left : Option (List ℕ)) (answer : Resumed) → Resumes (Some text) left answer
      → IsResumedTo c es torn answer
  resumed_to left (resumed.Ready scheduler n) on =
      only_legal text c es torn found left scheduler.config scheduler.history n on.found
  resumed_to left (resumed.Bad n) (inl bad) = absurd (not_bad left n bad)
  resumed_to left (resumed.Bad n) (inr illegal) = absurd (not_illegal text c es torn found left illegal.0 illegal.1)

  judged_legal : (left : Option (List ℕ)) (verdict : Judged) → Finds (Some text) left verdict
      → IsJudgedLegal c es torn verdict
  judged_legal left (judged.Legal auditor n) finds =
      only_legal text c es torn found left auditor.config auditor.history n finds
  judged_legal left (judged.Illegal i entries) finds = absurd (not_illegal text c es torn found left i finds.0)
  judged_legal left (judged.Bad n) finds = absurd (not_bad left n finds)

-- and nothing else
pub found_again : IsFoundAgain
found_again c found text es notes is left types =
    let torn = min (length left.torn) (2 ^ 64 - 1) in
    let legal = found_legal c found text es notes is left types in
    record {
      found = legal;
      resumed = resumed_to text c es torn legal;
      judged = judged_legal text c es torn legal;
    }

-- a journal with nothing behind it
pub whole_again : IsWholeAgain
whole_again c found text es notes is journal types = found_again c found text es notes is (record {
  whole = text;
  torn = [];
  text_is = sym (append-nil text);
  torn_is = record { value = object no_members; count = 0; part = refl };
  journal = journal;
}) types
