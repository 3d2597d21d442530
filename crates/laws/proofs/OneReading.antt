-- A journal that is found legal has no other reading: its bytes are lines in one way, and a line stands for one thing.
use Rattle.std.proofs.Common.{◌≡◌, ℕ, ◌-◌, ◌^◌, min, List, [], ◌∷◌, ◌++◌, length, map, take, Option, None, Some}
use Rattle.std.proofs.Common.{refl, sym, ap, ap₂, ◌∙◌, subst, inl, inr, append_assoc, append-nil}
use Rattle.std.specs.List.{AllByRecursion}
use Rattle.std.proofs.lemmas.List.{map-append}
use Rattle.minislots.specs.declared.config.Config.{Config}
use Rattle.sched_calls.specs.declared.reply.Entry.{Entry}
use Rattle.sched_history.specs.History.{IsStep, IsLegal}
use Rattle.sched_history.proofs.state.Judging.{IsFirstIllegal-not}
use Rattle.sched_history.proofs.steps.LegalHistories.{EachAfter-take}
use Rattle.text_stream.specs.declared.TheConstants.{NEWLINE}
use Rattle.text_stream.specs.Lines.{IsWithinLine}
use Rattle.journal_entries.specs.Standing.{StandFor, config_in_line, entry_in_line, ended_lines}
use Rattle.journal_entries.specs.Journal.{Came, CameAll, FindsLegal, FindsIllegal, FindsNoEntry, HasNoOpening}

some-same : {X : Type 0} (x y : X) → Some x ≡ Some y → x ≡ y
some-same x y is = cc

cons-same : {X : Type 0} (x y : X) (xs ys : List X) → x ∷ xs ≡ y ∷ ys → (x ≡ y) × (xs ≡ ys)
cons-same x y xs ys is = (cc, cc)

-- the bytes up to the first newline are one line
line-same : (l m x y : List ℕ) → IsWithinLine l → IsWithinLine m → l ++ NEWLINE ∷ x ≡ m ++ NEWLINE ∷ y
    → (l ≡ m) × (x ≡ y)
line-same [] [] x y p q is = (refl, (cons-same NEWLINE NEWLINE x y is).1)
line-same [] (b ∷ m) x y p q is = absurd (q.0 (sym (cons-same NEWLINE b x (m ++ NEWLINE ∷ y) is).0))
line-same (a ∷ l) [] x y p q is = absurd (p.0 (cons-same a NEWLINE (l ++ NEWLINE ∷ x) y is).0)
line-same (a ∷ l) (b ∷ m) x y p q is =
    let both = cons-same a b (l ++ NEWLINE ∷ x) (m ++ NEWLINE ∷ y) is in
    let rest = line-same l m x y p.1 q.1 both.1 in
    (ap₂ (λ (n : ℕ) (ns : List ℕ). n ∷ ns) both.0 rest.0, rest.1)

-- there is none where no newline is
no-line : (l x t : List ℕ) → IsWithinLine t → t ≡ l ++ NEWLINE ∷ x → ⊥
no-line [] x [] within is = cc
no-line [] x (b ∷ t) within is = within.0 (cons-same b NEWLINE t x is).0
no-line (a ∷ l) x [] within is = cc
no-line (a ∷ l) x (b ∷ t) within is = no-line l x t within.1 (cons-same b a t (l ++ NEWLINE ∷ x) is).1

ended-cons : (l : List ℕ) (ls : List (List ℕ)) (b : List ℕ)
    → ended_lines (l ∷ ls) ++ b ≡ l ++ NEWLINE ∷ (ended_lines ls ++ b)
ended-cons l ls b = append_assoc (l ++ NEWLINE ∷ []) (ended_lines ls) b
    ∙ append_assoc l (NEWLINE ∷ []) (ended_lines ls ++ b)

-- These lines are the first of all, and the bytes behind them are the others and what stands behind all
record AreFirst (ls all : List (List ℕ)) (behind torn : List ℕ) : Type 0 where
  others : List (List ℕ)
  all_are : all ≡ ls ++ others
  behind_is : behind ≡ ended_lines others ++ torn

are_first : (ls all : List (List ℕ)) (behind torn : List ℕ) → AllByRecursion IsWithinLine ls
    → AllByRecursion IsWithinLine all → IsWithinLine torn → ended_lines ls ++ behind ≡ ended_lines all ++ torn
    → AreFirst ls all behind torn
are_first [] all behind torn p q within is = record { others = all; all_are = refl; behind_is = is }
are_first (l ∷ ls) [] behind torn p q within is =
    absurd (no-line l (ended_lines ls ++ behind) torn within (sym is ∙ ended-cons l ls behind))
are_first (l ∷ ls) (m ∷ all) behind torn p q within is =
    let same = line-same l m (ended_lines ls ++ behind) (ended_lines all ++ torn) p.0 q.0
    (sym (ended-cons l ls behind) ∙ is ∙ ended-cons m all torn) in
    let rest = are_first ls all behind torn p.1 q.1 within same.1 in
    record {
      others = rest.others;
      all_are = ap₂ (λ (x : List ℕ) (xs : List (List ℕ)). x ∷ xs) (sym same.0) rest.all_are;
      behind_is = rest.behind_is;
    }

-- no line stands behind where no newline is
none-behind : (others : List (List ℕ)) (behind torn : List ℕ) → IsWithinLine behind
    → behind ≡ ended_lines others ++ torn → others ≡ []
none-behind [] behind torn within is = refl
none-behind (m ∷ others) behind torn within is =
    absurd (no-line m (ended_lines others ++ torn) behind within (is ∙ ended-cons m others torn))

-- entries that are the first of others
entries-first : (es all : List Entry) (rest : List (Option Entry)) → map Some all ≡ map Some es ++ rest
    → es ≡ take (length es) all
entries-first [] all rest is = refl
entries-first (e ∷ es) [] rest is = absurd (cc)
entries-first (e ∷ es) (x ∷ all) rest is =
    let both = cons-same (Some x) (Some e) (map Some all) (map Some es ++ rest) is in
    ap₂ (λ (n : Entry) (ns : List Entry). n ∷ ns) (sym (some-same x e both.0)) (entries-first es all rest both.1)

entries-same : (es all : List Entry) → map Some all ≡ map Some es → es ≡ all
entries-same [] [] is = refl
entries-same [] (x ∷ all) is = absurd (cc)
entries-same (e ∷ es) [] is = absurd (cc)
entries-same (e ∷ es) (x ∷ all) is =
    let both = cons-same (Some x) (Some e) (map Some all) (map Some es) is in
    ap₂ (λ (n : Entry) (ns : List Entry). n ∷ ns) (sym (some-same x e both.0)) (entries-same es all both.1)

none-among : (es all : List Entry) (rest : List (Option Entry)) → map Some all ≡ map Some es ++ None ∷ rest → ⊥
none-among [] [] rest is = cc
none-among [] (x ∷ all) rest is = cc
none-among (e ∷ es) [] rest is = cc
none-among (e ∷ es) (x ∷ all) rest is =
    none-among es all rest (cons-same (Some x) (Some e) (map Some all) (map Some es ++ None ∷ rest) is).1

module _ (text : List ℕ) (c : Config) (es : List Entry) (torn : ℕ)
    (found : FindsLegal (Some text) (Some []) c es torn) where
  all_bytes : text ≡ ended_lines found.lines ++ found.behind
  all_bytes = found.came.came.consumed ∙ append-nil (ended_lines found.lines ++ found.behind)

  -- lines that came first are the first of all
  came_first : (left : Option (List ℕ)) (ls : List (List ℕ)) (behind : List ℕ) → Came (Some text) left ls behind
      → (rest : List ℕ) × AreFirst ls found.lines rest found.behind
  came_first None ls behind came = absurd came.consumed
  came_first (Some ys) ls behind came = (
    behind ++ ys,
    are_first ls found.lines (behind ++ ys) found.behind came.within found.came.came.within found.came.is_torn
        (sym (append_assoc (ended_lines ls) behind ys) ∙ sym came.consumed ∙ all_bytes),
  )

  -- and where all came, nothing else stands behind them
  all_first : (left : Option (List ℕ)) (ls : List (List ℕ)) (behind : List ℕ) → CameAll (Some text) left ls behind
      → AreFirst ls found.lines behind found.behind
  all_first None ls behind all = absurd all.came.consumed
  all_first (Some ys) ls behind all =
      let bytes = all.came.consumed ∙ ap (λ (b : List ℕ). (ended_lines ls ++ behind) ++ b) all.ended
      ∙ append-nil (ended_lines ls ++ behind) in
      are_first ls found.lines behind found.behind all.came.within found.came.came.within found.came.is_torn
      (sym bytes ∙ all_bytes)

  -- first lines that stand for a configuration and entries: it is this one, and they are its first
  stand_first : (ls others : List (List ℕ)) (d : Config) (first : List Entry) → StandFor ls d first
      → found.lines ≡ ls ++ others
      → (d ≡ c) × (map Some es ≡ map Some first ++ map entry_in_line others)
  stand_first ls others d first stand is =
      let same = cons-same found.stand.opening stand.opening found.stand.others (stand.others ++ others)
      (sym found.stand.lines_are ∙ is ∙ ap (λ (l : List (List ℕ)). l ++ others) stand.lines_are) in (
        some-same d c (sym stand.config_is ∙ ap config_in_line (sym same.0) ∙ found.stand.config_is),
        sym found.stand.entries_are ∙ ap (map entry_in_line) same.1
            ∙ map-append entry_in_line stand.others others
            ∙ ap (λ (l : List (Option Entry)). l ++ map entry_in_line others) stand.entries_are,
      )

  -- it is found legal in no other way
  pub only_legal : (left : Option (List ℕ)) (d : Config) (hs : List Entry) (n : ℕ) → FindsLegal (Some text) left d hs n
      → (d ≡ c) × (hs ≡ es) × (n ≡ torn)
  only_legal left d hs n other =
      let first = all_first left other.lines other.behind other.came in
      let none = none-behind first.others other.behind found.behind other.came.is_torn first.behind_is in
      let stand = stand_first other.lines first.others d hs other.stand first.all_are in
      let entries = stand.1
      ∙ ap (λ (l : List (List ℕ)). map Some hs ++ map entry_in_line l) none ∙ append-nil (map Some hs) in
      let bytes : other.behind ≡ found.behind = first.behind_is
      ∙ ap (λ (l : List (List ℕ)). ended_lines l ++ found.behind) none in (
        stand.0,
        entries-same hs es entries,
        other.torn_is ∙ ap (λ (b : List ℕ). min (length b) (2 ^ 64 - 1)) bytes ∙ sym found.torn_is,
      )

  -- no entry of it is illegal
  pub not_illegal : (left : Option (List ℕ)) (i : ℕ) → FindsIllegal (Some text) left i → ⊥
  not_illegal left i (d, hs, other) =
      let first = (came_first left other.lines other.behind other.came).1 in
      let stand = stand_first other.lines first.others d hs other.stand first.all_are in
      let front = entries-first hs es (map entry_in_line first.others) stand.1 in
      let legal : IsLegal c hs = subst (IsLegal c) (sym front)
      (EachAfter-take (λ h e. IsStep c h e.call e.reply) [] es (length hs) found.legal) in
      IsFirstIllegal-not d hs i (subst (λ (c : Config). IsLegal c hs) (sym stand.0) legal) other.first

  -- no line of it stands for no entry
  pub not_no_entry : (left : Option (List ℕ)) (n : ℕ) → FindsNoEntry (Some text) left n → ⊥
  not_no_entry left n (d, hs, other) =
      let first = (came_first left (other.lines ++ other.line ∷ []) other.behind other.came).1 in
      let all = first.all_are ∙ append_assoc other.lines (other.line ∷ []) first.others in
      let stand = stand_first other.lines (other.line ∷ first.others) d hs other.stand all in
      none-among hs es (map entry_in_line first.others)
      (stand.1 ∙ ap (λ (o : Option Entry). map Some hs ++ o ∷ map entry_in_line first.others) other.none)

  -- its first line stands for a configuration
  pub not_no_opening : (left : Option (List ℕ)) → HasNoOpening (Some text) left → ⊥
  not_no_opening left (inl other) =
      let first = all_first left [] other.behind other.came in
      let none = none-behind first.others other.behind found.behind other.came.is_torn first.behind_is in
      let no : [] ≡ found.stand.opening ∷ found.stand.others =
      sym none ∙ sym first.all_are ∙ found.stand.lines_are in
      absurd (cc no)
  not_no_opening left (inr other) =
      let first = (came_first left (other.line ∷ []) other.behind other.came).1 in
      let same = cons-same found.stand.opening other.line found.stand.others first.others
      (sym found.stand.lines_are ∙ first.all_are) in
      let no : Some c ≡ None = sym found.stand.config_is ∙ ap config_in_line same.0 ∙ other.none in
      absurd (cc no)
