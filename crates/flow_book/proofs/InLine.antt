-- The flow behind the first so many that wait in line.
use Rattle.std.proofs.Common.{◌≡◌, ◌≢◌, refl, sym, ap, ◌∙◌, subst, ℕ, zero, suc, ◌+◌, ◌/◌, ◌^◌, ◌<◌, ◌≤◌}
use Rattle.std.proofs.Common.{Bool, true, false, not, ◌&&◌, nat_lt, List, [], ◌∷◌, map, filter, length, get_or}
use Rattle.std.proofs.Common.{Option, Some, None, Contains, take, min, true≢false, inl, inr, arith}
use Rattle.std.specs.List.{AllByRecursion, count_by}
use Rattle.std.proofs.lemmas.Bool.{cond_both, cases_lt}
use Rattle.std.proofs.lemmas.Bool.Decides.{nat_tests}
use Rattle.std.proofs.lemmas.List.{length-map, length-take, get_or-take, get_or_default}
use Rattle.std.proofs.lemmas.List.Elements.{All-from_recursion, recursion_from_All}
use Rattle.std.proofs.lemmas.List.Sums.{length-filter}
use Rattle.minislots.specs.declared.config.Config.{Config}
use Rattle.flow_book.specs.Entry.{top_rank}
use Rattle.flow_book.specs.declared.flow.Flow.{Flow}
use Rattle.flow_book.specs.declared.shown.Hidden.{Hidden}
use Rattle.flow_book.specs.Flows.{LiveFlow}
use Rattle.flow_book.specs.Choice.{last_start}
use Rattle.flow_book.specs.Entry.{live, IsTurn, KeepsSums}
use Rattle.flow_book.specs.Book.{Ascend}
use Rattle.sched_calls.specs.Sids.{AscendBy, put_in}
use Rattle.flow_book.specs.Shown.{waits, since, comes_before, count_before, is_shown, is_hidden, least_with, ack_of, IsFirstHidden, number_of, number_in_line}
use Rattle.flow_book.specs.Line.{numbers_of, itself, sorted_into, sorted, comes_first, held_back}
use Rattle.sched_calls.proofs.Insertion.{all-put_in}
use Rattle.flow_book.proofs.Lines.{IsNew, ascends-more, all-sorted_into, length-sorted_into, count-sorted_into}
use Rattle.flow_book.proofs.Lines.{count-below, count-kept, count-same, count-more, count-one_more}

-- each SID is one of 16 bits
abbrev pub AreSmall : List LiveFlow → Type 0
AreSmall flows = AllByRecursion (λ f. f.sid < 2 ^ 16) flows

sid-small : (rank : ℕ) (last : Option ℕ) (sid turn : ℕ) → IsTurn rank last sid turn → sid < 2 ^ 16
sid-small rank None sid turn is = is.0
sid-small rank (Some start) sid turn is = is.0

few-behind : (c : Config) (n : ℕ) (items : List Flow) → AllByRecursion (λ (g : LiveFlow). n < g.sid) (map live items)
    → Ascend (map live items) → AllByRecursion (KeepsSums c) items → n < 2 ^ 16 → n + length items < 2 ^ 16
few-behind c n [] above up all lt = omega (arith, lt)
few-behind c n (f ∷ items) above up all lt =
    let small = sid-small (top_rank f.spec) (last_start f.grants.items) f.sid f.turn all.0.turn.1 in
    omega (arith, above.0, few-behind c f.sid items up.0 up.1 all.1 small)

-- there are no more flows than SIDs
pub few-flows : (c : Config) (items : List Flow) → Ascend (map live items) → AllByRecursion (KeepsSums c) items
    → length items ≤ 2 ^ 16
few-flows c [] up all = omega arith
few-flows c (f ∷ items) up all =
    let small = sid-small (top_rank f.spec) (last_start f.grants.items) f.sid f.turn all.0.turn.1 in
    omega (arith, few-behind c f.sid items up.0 up.1 all.1 small)

apart : (a b s t : ℕ) → s < t → t < 2 ^ 16 → number_of a s ≡ number_of b t → ⊥
apart a b s t lt small same = absurd (omega (arith, same))

all-apart : (f : LiveFlow) (fs : List LiveFlow) → AllByRecursion (λ g. f.sid < g.sid) fs → AreSmall fs
    → AllByRecursion (λ g. number_in_line f ≢ number_in_line g) fs
all-apart f [] above small = tt
all-apart f (g ∷ fs) above small =
    (apart (since f) (since g) f.sid g.sid above.0 small.0, all-apart f fs above.1 small.1)

all-new : (line : List ℕ) (n : ℕ) (fs : List LiveFlow) → AllByRecursion (λ g. IsNew (number_in_line g) line) fs
    → AllByRecursion (λ g. n ≢ number_in_line g) fs
    → AllByRecursion (λ g. IsNew (number_in_line g) (put_in itself n line)) fs
all-new line n [] new differ = tt
all-new line n (g ∷ fs) new differ =
    (all-put_in itself (λ m. m ≢ number_in_line g) n line differ.0 new.0, all-new line n fs new.1 differ.1)

-- the numbers of flows ascend in order
ascends-into : (line : List ℕ) (flows : List LiveFlow) → AscendBy itself line
    → AllByRecursion (λ f. IsNew (number_in_line f) line) flows → Ascend flows → AreSmall flows
    → AscendBy itself (sorted_into line (numbers_of flows))
ascends-into line [] up new ascend small = up
ascends-into line (f ∷ fs) up new ascend small =
    cond_both (waits f) (f ∷ filter waits fs) (filter waits fs)
    (λ fs. AscendBy itself (sorted_into line (map number_in_line fs)))
    (λ yes'. ascends-into (put_in itself (number_in_line f) line) fs (ascends-more (number_in_line f) line new.0 up)
    (all-new line (number_in_line f) fs new.1 (all-apart f fs ascend.0 small.1)) ascend.1 small.1)
    (λ no'. ascends-into line fs up new.1 ascend.1 small.1)

none-yet : (flows : List LiveFlow) → AllByRecursion (λ f. IsNew (number_in_line f) []) flows
none-yet [] = tt
none-yet (f ∷ flows) = (tt, none-yet flows)

pub ascends : (flows : List LiveFlow) → Ascend flows → AreSmall flows → AscendBy itself (sorted (numbers_of flows))
ascends flows ascend small = ascends-into [] flows tt (none-yet flows) ascend small

-- the number is that of a flow that waits
abbrev pub IsOf : List LiveFlow → ℕ → Type 0
IsOf flows n = (f : LiveFlow) × Contains flows f × (waits f ≡ true) × (n ≡ number_in_line f)

numbers-of : (all flows : List LiveFlow) → ((f : LiveFlow) → Contains flows f → Contains all f)
    → AllByRecursion (IsOf all) (numbers_of flows)
numbers-of all [] within = tt
numbers-of all (f ∷ flows) within =
    cond_both (waits f) (f ∷ filter waits flows) (filter waits flows)
    (λ fs. AllByRecursion (IsOf all) (map number_in_line fs))
    (λ yes'. (
      (f, within f (zero, omega arith, refl), yes', refl),
      numbers-of all flows (λ g has. within g (
        suc has.0,
        omega (arith, has.1),
        has.2,
      )),
    ))
    (λ no'. numbers-of all flows (λ g has. within g (suc has.0, omega (arith, has.1), has.2)))

-- the order in line is that of the numbers
before-is : (f g : LiveFlow) → f.sid < 2 ^ 16 → g.sid < 2 ^ 16
    → comes_before f g ≡ nat_lt (number_in_line f) (number_in_line g)
before-is f g small little = grind (arith, nat_tests)

all-before : (f : LiveFlow) (flows : List LiveFlow) → f.sid < 2 ^ 16 → AreSmall flows
    → AllByRecursion (λ g. (waits g && comes_before g f) ≡ (waits g && nat_lt (number_in_line g) (number_in_line f))) flows
all-before f [] little small = tt
all-before f (g ∷ flows) little small =
    (ap (λ b. waits g && b) (before-is g f small.0 little), all-before f flows little small.1)

-- so many of those that wait come before a flow as have lesser numbers
pub count-is : (flows : List LiveFlow) (f : LiveFlow) → f.sid < 2 ^ 16 → AreSmall flows
    → count_before flows f ≡ count_by (λ n. nat_lt n (number_in_line f)) (sorted (numbers_of flows))
count-is flows f little small =
    count-same (λ g. waits g && comes_before g f) (λ g. waits g && nat_lt (number_in_line g) (number_in_line f)) flows
    (all-before f flows little small)
    ∙ sym (count-kept (λ n. nat_lt n (number_in_line f)) number_in_line waits flows)
    ∙ omega (arith, count-sorted_into (λ n. nat_lt n (number_in_line f)) [] (numbers_of flows))

both-still : (a : Bool) (k m n : ℕ) → m ≤ n → (a && nat_lt k m) ≡ true → (a && nat_lt k n) ≡ true
both-still true k m n le both = grind (arith, nat_tests, both)
both-still false k m n le both = both

both-true : (a : Bool) (k n : ℕ) → a ≡ true → k < n → (a && nat_lt k n) ≡ true
both-true a k n yes' lt = let less : nat_lt k n ≡ true = grind (arith, nat_tests) in rw (yes', less) refl

and-false : (a : Bool) → (a && false) ≡ false
and-false true = refl
and-false false = refl

not-itself : (a : Bool) (n : ℕ) → (a && nat_lt n n) ≡ false
not-itself a n = let same : nat_lt n n ≡ false = grind (arith, nat_tests) in rw same (and-false a)

both-first : (a b : Bool) → (a && b) ≡ true → a ≡ true
both-first true b both = refl
both-first false b both = both

-- the flows of a book have SIDs of 16 bits
pub small-of : (c : Config) (items : List Flow) → AllByRecursion (KeepsSums c) items → AreSmall (map live items)
small-of c [] sums = tt
small-of c (f ∷ items) sums =
    (sid-small (top_rank f.spec) (last_start f.grants.items) f.sid f.turn sums.0.turn.1, small-of c items sums.1)

least-of-all : (p : ℕ) (ms : List ℕ) → least_with p ms ≤ p
least-of-all p [] = omega arith
least-of-all p (m ∷ ms) = omega (arith, least-of-all p ms)

module _ (most : ℕ) (flows : List LiveFlow) (ascend : Ascend flows) (small : AreSmall flows) where
  -- the number behind the first so many is that of the first flow that is hidden
  pub some-hidden : (n : ℕ) → most < length (sorted (numbers_of flows)) → get_or (sorted (numbers_of flows)) most n ≡ n
      → IsFirstHidden most flows (Some (record { number = n }))
  some-hidden n lt at =
      let found : IsOf flows n = subst (IsOf flows) at (All-from_recursion (IsOf flows) (sorted (numbers_of flows))
      (all-sorted_into (IsOf flows) [] (numbers_of flows) tt (numbers-of flows flows (λ f has. has))) most n lt) in
      let f = found.0 in
      let has = found.1 in
      let little : f.sid < 2 ^ 16 =
      subst (λ (g : LiveFlow). g.sid < 2 ^ 16) has.2 (All-from_recursion (λ g. g.sid < 2 ^ 16) flows small has.0 f has.1) in
      let below = count-below (sorted (numbers_of flows)) most n (ascends flows ascend small) lt in
      let count : count_before flows f ≡ most =
      count-is flows f little small
      ∙ ap (λ k. count_by (λ m. nat_lt m k) (sorted (numbers_of flows))) (sym found.3 ∙ sym at) ∙ below in
      (f, has, found.2, count, ap (λ k. record { number = k }) found.3)

  first : (b : Bool) (n : ℕ) → (b ≡ true → n < most) → (b && not (nat_lt n most)) ≡ false
  first true n few = let lt : n < most = few refl in grind (arith, nat_tests)
  first false n few = refl

  itself-after : (f : LiveFlow) → (waits f && comes_before f f) ≡ false
  itself-after f = let same : comes_before f f ≡ false = grind (arith, nat_tests) in grind (arith, nat_tests, same)

  -- where no more than so many wait none is hidden
  pub few-wait : count_by waits flows ≤ most → IsFirstHidden most flows None
  few-wait few = recursion_from_All (λ f. is_hidden most flows f ≡ false) flows (λ i d lt.
      let f = get_or flows i d in
      first (waits f) (count_before flows f) (λ waiting. omega (
        arith,
        few,
        count-one_more (λ g. waits g && comes_before g f) waits flows i f (λ g both. both-first _ _ both) lt
            (get_or_default flows i f d lt) (itself-after f) waiting,
      )))

  pub none-hidden : length (sorted (numbers_of flows)) ≤ most → IsFirstHidden most flows None
  none-hidden few =
      few-wait (omega (
        arith,
        few,
        length-filter waits flows,
        length-map (filter waits flows) number_in_line,
        length-sorted_into [] (numbers_of flows),
      ))

  -- so many that wait have lesser numbers
  abbrev below : ℕ → ℕ
  below n = count_by (λ g. waits g && nat_lt (number_in_line g) n) flows

  before-below : (f : LiveFlow) → f.sid < 2 ^ 16 → count_before flows f ≡ below (number_in_line f)
  before-below f little =
      count-same (λ g. waits g && comes_before g f) (λ g. waits g && nat_lt (number_in_line g) (number_in_line f)) flows
      (all-before f flows little small)

  little-of : (f : LiveFlow) → Contains flows f → f.sid < 2 ^ 16
  little-of f has =
      subst (λ (g : LiveFlow). g.sid < 2 ^ 16) has.2 (All-from_recursion (λ g. g.sid < 2 ^ 16) flows small has.0 f has.1)

  -- of those that wait fewer come before one with a lesser number, and no fewer before another
  fewer-below : (f : LiveFlow) (n : ℕ) → Contains flows f → waits f ≡ true → number_in_line f < n
      → below (number_in_line f) < below n
  fewer-below f n has waiting lt =
      count-one_more (λ g. waits g && nat_lt (number_in_line g) (number_in_line f))
      (λ g. waits g && nat_lt (number_in_line g) n) flows has.0 f
      (λ g both. both-still (waits g) (number_in_line g) (number_in_line f) n (omega arith) both) has.1 has.2
      (not-itself (waits f) (number_in_line f)) (both-true (waits f) (number_in_line f) n waiting lt)

  no-fewer-below : (m n : ℕ) → m ≤ n → below m ≤ below n
  no-fewer-below m n le =
      count-more (λ g. waits g && nat_lt (number_in_line g) m) (λ g. waits g && nat_lt (number_in_line g) n) flows
      (λ g both. both-still (waits g) (number_in_line g) m n le both)

  shown-by : (f g : LiveFlow) → Contains flows f → waits f ≡ true → f.sid < 2 ^ 16 → g.sid < 2 ^ 16
      → count_before flows g ≡ most → nat_lt (count_before flows f) most ≡ nat_lt (number_in_line f) (number_in_line g)
  shown-by f g has waiting little other behind = elim (cases_lt (number_in_line f) (number_in_line g)) [
    | inl lt ↦
        let fewer = fewer-below f (number_in_line g) has waiting lt in
        let few : count_before flows f < most =
        omega (arith, fewer, before-below f little, before-below g other, behind) in
        grind (arith, nat_tests, few)
    | inr not_lt ↦
        let more = no-fewer-below (number_in_line g) (number_in_line f) (omega arith) in
        let many : most ≤ count_before flows f =
        omega (arith, more, before-below f little, before-below g other, behind) in
        grind (arith, nat_tests, many)
  ]

  shown-one : (b : Bool) (x y : Bool) → (b ≡ true → x ≡ y) → (b && x) ≡ (b && y)
  shown-one true x y same = same refl
  shown-one false x y same = refl

  shown-none : (b : Bool) (x : Bool) → (b && not x) ≡ false → (b && x) ≡ (b && true)
  shown-none true true none = refl
  shown-none true false none = absurd (true≢false none)
  shown-none false x none = refl

  -- which flows are shown, by the first that is hidden
  pub shown-is : (o : Option Hidden) (f : LiveFlow) → IsFirstHidden most flows o → Contains flows f
      → is_shown most flows f ≡ (waits f && comes_first o f)
  shown-is None f is has =
      shown-none (waits f) (nat_lt (count_before flows f) most)
      (subst (λ g. is_hidden most flows g ≡ false) has.2
      (All-from_recursion (λ g. is_hidden most flows g ≡ false) flows is has.0 f has.1))
  shown-is (Some hidden) f is has =
      let g = is.0 in
      shown-one (waits f) (nat_lt (count_before flows f) most) (nat_lt (number_in_line f) hidden.number) (λ waiting.
      shown-by f g has waiting (little-of f has) (little-of g is.1) is.3
      ∙ ap (λ (h : Hidden). nat_lt (number_in_line f) h.number) (sym is.4))

  least-above : (p n : ℕ) (ms : List ℕ) → AllByRecursion (λ m. n ≤ m) ms → min n p ≤ least_with p ms
  least-above p n [] all = omega arith
  least-above p n (m ∷ ms) all = omega (arith, all.0, least-above p n ms all.1)

  none-kept : (p : LiveFlow → Bool) (fs : List LiveFlow) → AllByRecursion (λ f. p f ≡ false) fs → filter p fs ≡ []
  none-kept p [] all = refl
  none-kept p (f ∷ fs) all = rw all.0 (none-kept p fs all.1)

  hidden-parts : (b : Bool) (n : ℕ) → (b && not (nat_lt n most)) ≡ true → (b ≡ true) × (most ≤ n)
  hidden-parts true n both = (refl, grind (arith, nat_tests, both))
  hidden-parts false n both = absurd (true≢false (sym both))

  no-earlier : (g f : LiveFlow) → Contains flows g → count_before flows g ≡ most → Contains flows f
      → is_hidden most flows f ≡ true → since g ≤ since f
  no-earlier g f has behind own hides =
      let parts = hidden-parts (waits f) (count_before flows f) hides in
      elim (cases_lt (number_in_line f) (number_in_line g)) [
        | inl lt ↦ absurd (omega (
          arith,
          fewer-below f (number_in_line g) own parts.0 lt,
          parts.1,
          behind,
          before-below f (little-of f own),
          before-below g (little-of g has),
        ))
        | inr not_lt ↦ omega (arith, not_lt, little-of f own)
      ]

  least-member : (p : ℕ) (g : LiveFlow) (fs : List LiveFlow) (i : ℕ) → i < length fs → get_or fs i g ≡ g
      → is_hidden most flows g ≡ true → least_with p (map since (filter (is_hidden most flows) fs)) ≤ since g
  least-member p g [] i lt at hides = absurd (omega arith)
  least-member p g (f ∷ fs) zero lt at hides =
      let here : is_hidden most flows f ≡ true = ap (is_hidden most flows) at ∙ hides in
      rw here (omega (arith, ap since at))
  least-member p g (f ∷ fs) (suc i) lt at hides =
      cond_both (is_hidden most flows f) (f ∷ filter (is_hidden most flows) fs) (filter (is_hidden most flows) fs)
      (λ fs. least_with p (map since fs) ≤ since g)
      (λ yes'. omega (arith, least-member p g fs i (omega arith) at hides))
      (λ no'. least-member p g fs i (omega arith) at hides)

  -- those that are hidden wait since no earlier minislot than the first of them
  all-since : (g : LiveFlow) → Contains flows g → count_before flows g ≡ most → (fs : List LiveFlow)
      → ((f : LiveFlow) → Contains fs f → Contains flows f)
      → AllByRecursion (λ m. since g ≤ m) (map since (filter (is_hidden most flows) fs))
  all-since g has behind [] within = tt
  all-since g has behind (f ∷ fs) within =
      cond_both (is_hidden most flows f) (f ∷ filter (is_hidden most flows) fs) (filter (is_hidden most flows) fs)
      (λ fs. AllByRecursion (λ m. since g ≤ m) (map since fs))
      (λ yes'. (no-earlier g f has behind (within f (zero, omega arith, refl)) yes', all-since g has behind fs (λ h own. within h (suc own.0, omega (arith, own.1), own.2))))
      (λ no'. all-since g has behind fs (λ h own. within h (suc own.0, omega (arith, own.1), own.2)))

  -- the acknowledge time, by the first that is hidden
  pub ack-is : (o : Option Hidden) (progress : ℕ) → IsFirstHidden most flows o
      → held_back o progress ≡ ack_of most progress flows
  ack-is None progress is = rw (none-kept (is_hidden most flows) flows is) refl
  ack-is (Some hidden) progress is =
      let g = is.0 in
      let n : hidden.number / 2 ^ 16 ≡ since g =
      let at : hidden.number ≡ number_in_line g = ap (λ (h : Hidden). h.number) is.4 in
      let little = little-of g is.1 in omega (arith, at, little) in
      let itself' : nat_lt (count_before flows g) most ≡ false =
      let here = is.3 in grind (arith, nat_tests, here) in
      let hides : is_hidden most flows g ≡ true = rw (is.2, itself') refl in
      let ms = map since (filter (is_hidden most flows) flows) in
      let above = least-above progress (since g) ms (all-since g is.1 is.3 flows (λ f own. own)) in
      let below = least-member progress g flows is.1.0 is.1.1 is.1.2 hides in
      omega (arith, n, above, below, least-of-all progress ms)

  pub all-shown : (o : Option Hidden) → IsFirstHidden most flows o
      → AllByRecursion (λ f. is_shown most flows f ≡ (waits f && comes_first o f)) flows
  all-shown o is = recursion_from_All (λ f. is_shown most flows f ≡ (waits f && comes_first o f)) flows (λ i d lt.
      shown-is o (get_or flows i d) is (i, lt, get_or_default flows i (get_or flows i d) d lt))

  -- no more than so many are shown
  pub few-shown : count_by (is_shown most flows) flows ≤ most
  few-shown = elim (cases_lt most (length (sorted (numbers_of flows)))) [
    | inl lt ↦
        let ns = sorted (numbers_of flows) in
        let n = get_or ns most 0 in
        let is = some-hidden n lt (get_or_default ns most n 0 lt) in
        omega (
          arith,
          count-same (is_shown most flows) (λ f. waits f && nat_lt (number_in_line f) n) flows
              (all-shown (Some (record { number = n })) is),
          count-kept (λ m. nat_lt m n) number_in_line waits flows,
          count-sorted_into (λ m. nat_lt m n) [] (numbers_of flows),
          count-below ns most 0 (ascends flows ascend small) lt,
        )
    | inr few ↦
        omega (
          arith,
          count-more (is_shown most flows) waits flows
              (λ f both. both-first (waits f) (nat_lt (count_before flows f) most) both),
          length-filter waits flows,
          length-map (filter waits flows) number_in_line,
          length-sorted_into [] (numbers_of flows),
          few,
        )
  ]

-- the acknowledge time is at most the least progress
pub ack-most : (most progress : ℕ) (flows : List LiveFlow) → ack_of most progress flows ≤ progress
ack-most most progress flows = least-of-all progress (map since (filter (is_hidden most flows) flows))

-- what stands behind the first so many of a line stands there in the whole of it
module _ (whole line : List ℕ) (most : ℕ) (kept : line ≡ take (most + 1) whole) where
  kept-length : length line ≡ min (most + 1) (length whole)
  kept-length = ap length kept ∙ length-take (most + 1) whole

  pub stands-behind : most < length line → most < length whole
  stands-behind lt = omega (arith, kept-length)

  pub none-behind : length line ≤ most → length whole ≤ most
  none-behind few = omega (arith, kept-length)

  pub same-behind : (n : ℕ) → n ≡ get_or line most n → get_or whole most n ≡ n
  same-behind n at =
      sym (at ∙ ap (λ l. get_or l most n) kept ∙ get_or-take (most + 1) whole most n (omega arith))
