-- The flows that wait after a MAP, by the two parts of its queue.
use Rattle.std.proofs.Common.{◌≡◌, ◌≢◌, refl, sym, ap, ◌∙◌, subst, ℕ, zero, suc, ◌+◌, ◌-◌, ◌%◌, ◌^◌, ◌<◌, ◌≤◌, arith}
use Rattle.std.proofs.Common.{Bool, true, false, ◌==◌, nat_lt, inl, inr, List, [], ◌∷◌, ◌++◌, map, filter}
use Rattle.std.proofs.Common.{take, append-nil, find, length, get_or, Option, Some, None, option_map, unwrap_or, slice_get, IsSomeAnd, MatchOption}
use Rattle.std.specs.List.{AllByRecursion, AllZip, count_by}
use Rattle.std.proofs.lemmas.Bool.{cond_both}
use Rattle.std.proofs.lemmas.Bool.Decides.{nat_tests}
use Rattle.std.proofs.lemmas.List.{length-map, length-take, take-take, map-append}
use Rattle.std.proofs.lemmas.List.Elements.{recursion_from_All, filter_passes, filter_more}
use Rattle.std.proofs.lemmas.List.Sums.{length-filter}
use Rattle.std.proofs.lemmas.Option.{slice_get_within, slice_get-get_or, slice_get-map, same_Some}
use Rattle.std.proofs.lemmas.Slice.Zip.{AllZip-right}
use Rattle.minislots.specs.declared.config.Config.{Config}
use Rattle.flow_book.specs.Entry.{top_rank}
use Rattle.flow_book.specs.declared.flow.Flow.{Flow}
use Rattle.flow_book.specs.declared.waiting.Waiting.{Waiting}
use Rattle.flow_book.specs.declared.shown.Hidden.{Hidden}
use Rattle.flow_book.specs.Batches.{since_of}
use Rattle.flow_book.specs.Flows.{LiveFlow, granted, outstanding}
use Rattle.flow_book.specs.Choice.{last_start}
use Rattle.flow_book.specs.Entry.{live, IsTurn, IsBook, IsSoundFlow}
use Rattle.sched_calls.specs.Sids.{AscendBy, put_in}
use Rattle.flow_book.specs.Queue.{IsAt, IsIn, IsQueueIn, AreOnce, still_waits}
use Rattle.flow_book.specs.Shown.{waits, number_of, number_in_line, is_shown, IsFirstHidden}
use Rattle.flow_book.specs.Line.{itself, sorted_into, sorted, sid_of, numbers_of}
use Rattle.flow_book.specs.Pending.{waiting_in, sid_at, number_at, IsWaitingOf, AreInLine}
use Rattle.flow_book.specs.Overlay.{IsSameFlow}
use Rattle.flow_book.proofs.InLine.{small-of, few-wait, some-hidden, same-behind}
use Rattle.flow_book.proofs.InOrder.{sorted-same, order-sids, shown-few, shown-many}
use Rattle.sched_calls.proofs.Insertion.{all-put_in, ascends-put_in}
use Rattle.flow_book.proofs.Lines.{put_in-either, length-sorted_into, take-put_in, sorted_into-append}
use Rattle.flow_book.proofs.Matching.{Has, has-kept, all-kept, go-together, zip-values, zip-more}
use Rattle.flow_book.proofs.Once.{by-turn-once}
use Rattle.flow_book.proofs.Queues.{all-both, flow-at, turn-at, wants-at, knows-at, place-of-sid}
use Rattle.sched_calls.proofs.Removal.{all-filter, ascends-filter}
use Rattle.flow_book.proofs.StillWaiting.{in-or-out, stays-in}

-- a turn ends with its SID
turn-ends : (r : ℕ) (a : Option ℕ) (x t : ℕ) → IsTurn r a x t → t % 2 ^ 16 ≡ x
turn-ends r None x t e = omega (arith, e.0, e.1)
turn-ends r (Some m) x t e = omega (arith, e.0, e.1, e.2)

more-than : (n : ℕ) → nat_lt 0 n ≡ true → 0 < n
more-than n yes' = grind (arith, nat_tests)

passes : (n : ℕ) → 0 < n → nat_lt 0 n ≡ true
passes n lt = grind (arith, nat_tests)

-- within a list there is one at each place
pub one-at : {X : Type 0} (xs : List X) (k : ℕ) → k < length xs → (x : X) × (slice_get xs k ≡ Some x)
one-at [] k lt = absurd (omega arith)
one-at (x ∷ xs) zero lt = (x, refl)
one-at (x ∷ xs) (suc k) lt = one-at xs k (omega arith)

-- these wait, each once, and no other flow waits
pub record AreWaiting (items : List Flow) (ws : List Waiting) : Type 0 where
  pub each : AllByRecursion (IsAt items) ws
  pub wait : AllByRecursion (λ w. still_waits w ≡ true) ws
  pub apart : AreOnce ws
  pub whole : (place : ℕ) (f : Flow) → slice_get items place ≡ Some f → 0 < outstanding (live f) → IsIn place ws

module _ {X : Type 0} where
  all-append : (P : X → Type 0) (xs ys : List X) → AllByRecursion P xs → AllByRecursion P ys → AllByRecursion P (xs ++ ys)
  all-append P [] ys all more = more
  all-append P (x ∷ xs) ys all more = (all.0, all-append P xs ys all.1 more)

in-left : (place : ℕ) (xs ys : List Waiting) → IsIn place xs → IsIn place (xs ++ ys)
in-left place [] ys here = absurd here
in-left place (x ∷ xs) ys (inl here) = inl here
in-left place (x ∷ xs) ys (inr rest) = inr (in-left place xs ys rest)

in-right : (place : ℕ) (xs ys : List Waiting) → IsIn place ys → IsIn place (xs ++ ys)
in-right place [] ys here = here
in-right place (x ∷ xs) ys here = inr (in-right place xs ys here)

none-is : (place : ℕ) (ws : List Waiting) → (IsIn place ws → ⊥) → AllByRecursion (λ v. v.place ≢ place) ws
none-is place [] out = tt
none-is place (w ∷ ws) out = ((λ same. out (inl same)), none-is place ws (λ here. out (inr here)))

apart-append : (xs ys : List Waiting) → AreOnce xs → AreOnce ys
    → AllByRecursion (λ x. AllByRecursion (λ y. y.place ≢ x.place) ys) xs → AreOnce (xs ++ ys)
apart-append [] ys apart apart' cross = apart'
apart-append (x ∷ xs) ys apart apart' cross =
    (all-append (λ y. y.place ≢ x.place) xs ys apart.0 cross.0, apart-append xs ys apart.1 apart' cross.1)

module _ (items : List Flow) where
  each-cross : (served ws : List Waiting) → AllByRecursion (λ w. IsIn w.place served → ⊥) ws
      → AllByRecursion (λ w. AllByRecursion (λ v. v.place ≢ w.place) (filter still_waits served)) ws
  each-cross served [] out = tt
  each-cross served (w ∷ ws) out = (
    all-filter (λ v. v.place ≢ w.place) still_waits served (none-is w.place served out.0),
    each-cross served ws out.1,
  )

  all-wait : (ws : List Waiting) → AllByRecursion (λ w. still_waits w ≡ true) (filter still_waits ws)
  all-wait ws = recursion_from_All (λ w. still_waits w ≡ true) (filter still_waits ws) (filter_passes still_waits ws)

  -- those of the two parts of a queue that still wait
  pub are-waiting : (queue served : List Waiting) → IsQueueIn items queue served
      → AreWaiting items (waiting_in queue served)
  are-waiting queue served is =
      let others = filter still_waits queue in
      let left = filter still_waits served in
      let each = all-filter (IsAt items) still_waits served is.served_ones.each in
      let up = ascends-filter (λ w. w.turn) still_waits served is.served_ones.ascending in
      record {
        each = all-append (IsAt items) others left is.others.each each;
        wait = all-append (λ w. still_waits w ≡ true) others left (all-wait queue) (all-wait served);
        apart = apart-append others left (by-turn-once items others is.others.each is.others.ascending)
            (by-turn-once items left each up) (each-cross served others is.others.among);
        whole = λ place f found more. elim (in-or-out place served) [
          | inl here ↦ in-right place others left (stays-in items served place f found more is.served_ones.each here)
          | inr out ↦ in-left place others left (is.others.whole place f found out more)
        ];
      }

-- those that wait, put in order of SID
abbrev placed : List Waiting → List Waiting
placed [] = []
placed (w ∷ ws) = put_in sid_at w (placed ws)

all-placed : (P : Waiting → Type 0) (ws : List Waiting) → AllByRecursion P ws → AllByRecursion P (placed ws)
all-placed P [] all = tt
all-placed P (w ∷ ws) all = all-put_in sid_at P w (placed ws) all.0 (all-placed P ws all.1)

has-new : (P : Waiting → Type 0) (w : Waiting) (ws : List Waiting) → P w → Has P (put_in sid_at w ws)
has-new P w [] here = inl here
has-new P w (v ∷ ws) here =
    cond_both (nat_lt (sid_at w) (sid_at v)) (w ∷ v ∷ ws) (v ∷ put_in sid_at w ws) (Has P)
    (λ low. inl here) (λ high. inr (has-new P w ws here))

has-old : (P : Waiting → Type 0) (w : Waiting) (ws : List Waiting) → Has P ws → Has P (put_in sid_at w ws)
has-old P w [] has = absurd has
has-old P w (v ∷ ws) (inl here) =
    cond_both (nat_lt (sid_at w) (sid_at v)) (w ∷ v ∷ ws) (v ∷ put_in sid_at w ws) (Has P)
    (λ low. inr (inl here)) (λ high. inl here)
has-old P w (v ∷ ws) (inr rest) =
    cond_both (nat_lt (sid_at w) (sid_at v)) (w ∷ v ∷ ws) (v ∷ put_in sid_at w ws) (Has P)
    (λ low. inr (inr rest)) (λ high. inr (has-old P w ws rest))

has-placed : (P : Waiting → Type 0) (ws : List Waiting) → Has P ws → Has P (placed ws)
has-placed P [] has = has
has-placed P (w ∷ ws) (inl here) = has-new P w (placed ws) here
has-placed P (w ∷ ws) (inr rest) = has-old P w (placed ws) (has-placed P ws rest)

-- the numbers of those that wait are in order the same
module _ (number : Waiting → ℕ) where
  sorted-put_in : (line : List ℕ) (w : Waiting) (ws : List Waiting)
      → sorted_into line (map number (put_in sid_at w ws)) ≡ sorted_into line (map number (w ∷ ws))
  sorted-put_in line w [] = refl
  sorted-put_in line w (v ∷ ws) =
      cond_both (nat_lt (sid_at w) (sid_at v)) (w ∷ v ∷ ws) (v ∷ put_in sid_at w ws)
      (λ vs. sorted_into line (map number vs) ≡ sorted_into line (map number (w ∷ v ∷ ws)))
      (λ low. refl)
      (λ high. sorted-put_in (put_in itself (number v) line) w ws
      ∙ ap (λ l. sorted_into l (map number ws)) (put_in-either (number w) (number v) line))

  sorted-placed : (line : List ℕ) (ws : List Waiting)
      → sorted_into line (map number (placed ws)) ≡ sorted_into line (map number ws)
  sorted-placed line [] = refl
  sorted-placed line (w ∷ ws) = sorted-put_in line w (placed ws) ∙ sorted-placed (put_in itself (number w) line) ws

none-found : (sid : ℕ) (ws : List Waiting) → AllByRecursion (λ v. sid_at v ≢ sid) ws
    → find (λ v. sid_at v == sid) ws ≡ None
none-found sid [] all = refl
none-found sid (v ∷ ws) all =
    let fails : (sid_at v == sid) ≡ false = let differ = all.0 in grind (arith, nat_tests) in
    rw fails (none-found sid ws all.1)

module _ (c : Config) (items : List Flow) (are : IsBook c items) where
  -- one that waits is that of the flow at its place
  pub waiting-at : (w : Waiting) (f : Flow) → IsAt items w → slice_get items w.place ≡ Some f
      → IsWaitingOf (map live items) (live f) w
  waiting-at w f at found =
      let knows = knows-at c items are w.place f found in
      let turn = turn-at items w f at found in
      record {
        at = slice_get-map live items w.place ∙ ap (option_map live) found;
        sid = turn-ends (top_rank f.spec) (last_start f.grants.items) f.sid w.turn
            (subst (λ t. IsTurn (top_rank f.spec) (last_start f.grants.items) f.sid t) turn knows.1);
        wants = sym (wants-at items w f at found);
      }

  -- those of different places are of different SIDs
  sids-differ : (w v : Waiting) → IsAt items w → IsAt items v → v.place ≢ w.place → sid_at v ≢ sid_at w
  sids-differ w v at at' differ same =
      let f = flow-at items w (slice_get items w.place) refl at in
      let g = flow-at items v (slice_get items v.place) refl at' in
      let p = waiting-at w f.0 at f.1 in
      let q = waiting-at v g.0 at' g.1 in
      differ (place-of-sid c items are v.place w.place g.0 f.0 g.1 f.1 (sym q.sid ∙ same ∙ p.sid))

  ascends-placed : (ws : List Waiting) → AllByRecursion (IsAt items) ws → AreOnce ws → AscendBy sid_at (placed ws)
  ascends-placed [] each apart = tt
  ascends-placed (w ∷ ws) each apart =
      ascends-put_in sid_at w (placed ws)
      (none-found (sid_at w) (placed ws) (all-placed (λ v. sid_at v ≢ sid_at w) ws
      (all-both (IsAt items) (λ v. v.place ≢ w.place) (λ v. sid_at v ≢ sid_at w) ws
      (λ v at differ. sids-differ w v each.0 at differ) each.1 apart.0)))
      (ascends-placed ws each.1 apart.1)

  has-of : (f : Flow) (ws : List Waiting) (place : ℕ) → slice_get items place ≡ Some f → AllByRecursion (IsAt items) ws
      → IsIn place ws → Has (IsWaitingOf (map live items) (live f)) ws
  has-of f [] place found each here = absurd here
  has-of f (w ∷ ws) place found each (inl here) = inl (waiting-at w f each.0 (ap (slice_get items) here ∙ found))
  has-of f (w ∷ ws) place found each (inr rest) = inr (has-of f ws place found each.1 rest)

  flows-have : (ws : List Waiting) → AreWaiting items ws
      → AllByRecursion (λ f. Has (IsWaitingOf (map live items) f) (placed ws)) (filter waits (map live items))
  flows-have ws is =
      let flows = map live items in
      all-kept (λ f. Has (IsWaitingOf flows f) (placed ws)) waits flows
      (recursion_from_All (λ f. waits f ≡ true → Has (IsWaitingOf flows f) (placed ws)) flows (λ k d lt waiting.
      let one = one-at items k (omega (arith, lt, length-map items live)) in
      let same : get_or flows k d ≡ live one.0 =
      same_Some _ _ (sym (slice_get-get_or flows k d lt) ∙ slice_get-map live items k ∙ ap (option_map live) one.1) in
      let more : 0 < outstanding (live one.0) = more-than (outstanding (live one.0)) (ap waits (sym same) ∙ waiting) in
      subst (λ f. Has (IsWaitingOf flows f) (placed ws)) (sym same)
      (has-placed (IsWaitingOf flows (live one.0)) ws
      (has-of one.0 ws k one.1 is.each (is.whole k one.0 one.1 more)))))

  one-waits : (w : Waiting) → IsAt items w → still_waits w ≡ true
      → Has (λ f. IsWaitingOf (map live items) f w) (filter waits (map live items))
  one-waits w at yes' =
      let flows = map live items in
      let one = flow-at items w (slice_get items w.place) refl at in
      let f = live one.0 in
      let is = waiting-at w one.0 at one.1 in
      let lt = slice_get_within flows w.place f is.at in
      let here : get_or flows w.place f ≡ f = same_Some _ _ (sym (slice_get-get_or flows w.place f lt) ∙ is.at) in
      has-kept (λ g. IsWaitingOf flows g w) waits flows w.place f lt
      (ap waits here ∙ ap (nat_lt 0) (sym is.wants) ∙ yes') (subst (λ g. IsWaitingOf flows g w) (sym here) is)

  -- in order of SID they are those of the flows that wait
  go-with : (ws : List Waiting) → AreWaiting items ws
      → AllZip (IsWaitingOf (map live items)) (filter waits (map live items)) (placed ws)
  go-with ws is =
      let flows = map live items in
      go-together (IsWaitingOf flows) (λ f. f.sid) sid_at (λ f w goes. sym goes.sid) (filter waits flows) (placed ws)
      (ascends-filter (λ f. f.sid) waits flows are.sound.ascending) (ascends-placed ws is.each is.apart)
      (flows-have ws is)
      (all-placed (λ w. Has (λ f. IsWaitingOf flows f w) (filter waits flows)) ws
      (all-both (IsAt items) (λ w. still_waits w ≡ true) (λ w. Has (λ f. IsWaitingOf flows f w) (filter waits flows)) ws
      one-waits is.each is.wait))

-- a flow before a MAP gives the number after it, by what it waits for then
number-here : (f : LiveFlow) (n : ℕ) (o : Option Flow) → IsSomeAnd (option_map live o) (λ g. IsSameFlow g f)
    → granted f ≤ f.asked → n ≡ outstanding f
    → unwrap_or (option_map (λ (g : Flow). number_of (since_of g.batches (g.asked - n)) g.sid) o) 0 ≡ number_in_line f
number-here f n None same within wants = absurd same
number-here f n (Some g) same within wants =
    let batches : g.batches ≡ f.batches = ap (λ (h : LiveFlow). h.batches) same in
    let asked : g.asked ≡ f.asked = ap (λ (h : LiveFlow). h.asked) same in
    let sid : g.sid ≡ f.sid = ap (λ (h : LiveFlow). h.sid) same in
    let left : g.asked - n ≡ granted f = omega (arith, asked, wants, within) in
    rw (left, batches, sid) refl

module _ (flows : List Flow) (after : List LiveFlow) (same : AllZip IsSameFlow (map live flows) after) where
  -- its number is that of the flow
  pub numbered : (f : LiveFlow) (w : Waiting) → granted f ≤ f.asked → IsWaitingOf after f w
      → number_at flows w ≡ number_in_line f
  numbered f w within is =
      let there = AllZip-right IsSameFlow (map live flows) after same w.place in
      let here : IsSomeAnd (slice_get (map live flows) w.place) (λ g. IsSameFlow g f) =
      subst (λ o. MatchOption o (Unit {0}) (λ y. IsSomeAnd (slice_get (map live flows) w.place) (λ g. IsSameFlow g y)))
      is.at there in
      number-here f w.wants (slice_get flows w.place)
      (subst (λ o. IsSomeAnd o (λ g. IsSameFlow g f)) (slice_get-map live flows w.place) here) within is.wants

module _ (c : Config) (flows items : List Flow) (ws : List Waiting) (book : IsBook c items)
    (same : AllZip IsSameFlow (map live flows) (map live items)) (are : AreWaiting items ws) where
  within-all : AllByRecursion (λ f. granted f ≤ f.asked) (map live items)
  within-all =
      all-both (IsSoundFlow c) (IsSoundFlow c) (λ f. granted f ≤ f.asked) (map live items) (λ f sound sound'. sound.within)
      book.sound.each book.sound.each

  -- their numbers are those of the flows that wait
  pub in-line : AreInLine flows ws (map live items)
  in-line = record {
    ascending = book.sound.ascending;
    small = small-of c items book.sums;
    numbers = sym (sorted-placed (number_at flows) [] ws)
        ∙ ap sorted (zip-values (λ f w. number_at flows w ≡ number_in_line f) number_in_line (number_at flows)
        (filter waits (map live items)) (placed ws) (λ f w is. is)
        (zip-more (IsWaitingOf (map live items)) (λ f. granted f ≤ f.asked) (λ f w. number_at flows w ≡ number_in_line f)
        (filter waits (map live items)) (placed ws) (numbered flows (map live items) same)
        (all-filter (λ f. granted f ≤ f.asked) waits (map live items) within-all) (go-with c items book ws are)));
  }

-- as many wait as there are numbers
pub as-many : (flows : List Flow) (ws : List Waiting) (after : List LiveFlow) → AreInLine flows ws after
    → length ws ≡ count_by waits after
as-many flows ws after are =
    omega (
      arith,
      length-map ws (number_at flows),
      length-sorted_into [] (map (number_at flows) ws),
      ap length are.numbers,
      length-sorted_into [] (numbers_of after),
      length-map (filter waits after) number_in_line,
      length-filter waits after,
    )

module _ (c : Config) (flows items : List Flow) (book : IsBook c items)
    (same : AllZip IsSameFlow (map live flows) (map live items)) (queue served : List Waiting)
    (is : IsQueueIn items queue served) where
  -- the numbers of those that wait are in order those of the flows
  pub waiting-line : AreInLine flows (waiting_in queue served) (map live items)
  waiting-line = in-line c flows items (waiting_in queue served) book same (are-waiting items queue served is)

  -- where no more wait than are shown those that wait are
  pub few-sids : (most : ℕ) → length (waiting_in queue served) ≤ most → sorted (map sid_at (waiting_in queue served))
      ≡ map (λ (f : LiveFlow). f.sid) (filter (is_shown most (map live items)) (map live items))
  few-sids most few =
      let ws = waiting_in queue served in
      let after = map live items in
      let fs = filter waits after in
      let are = are-waiting items queue served is in
      let sids = map (λ (f : LiveFlow). f.sid) fs in
      let same-sids : map sid_at (placed ws) ≡ sids =
      zip-values (IsWaitingOf after) (λ f. f.sid) sid_at fs (placed ws) (λ f w goes. goes.sid)
      (go-with c items book ws are) in
      let order = order-sids fs (ascends-filter (λ (f : LiveFlow). f.sid) waits after book.sound.ascending) in
      sym (sorted-placed sid_at [] ws) ∙ ap sorted same-sids ∙ sorted-same sids sids (λ p. refl) order
      ∙ ap (map (λ (f : LiveFlow). f.sid)) (sym (shown-few most after waiting-line.ascending waiting-line.small
      (omega (arith, few, as-many flows ws after waiting-line))))

  -- and none is hidden
  pub few-hidden : (most : ℕ) → length (waiting_in queue served) ≤ most → IsFirstHidden most (map live items) None
  few-hidden most few =
      few-wait most (map live items) waiting-line.ascending waiting-line.small
      (omega (arith, few, as-many flows (waiting_in queue served) (map live items) waiting-line))

  module _ (most : ℕ) (many : most < length (waiting_in queue served)) (kept : List ℕ)
      (first : kept ≡ take (most + 1) (sorted (map (number_at flows) (waiting_in queue served)))) where
    whole-is : kept ≡ take (most + 1) (sorted (numbers_of (map live items)))
    whole-is = first ∙ ap (take (most + 1)) waiting-line.numbers

    long : most < length (sorted (numbers_of (map live items)))
    long =
        let ws = waiting_in queue served in
        omega (
          arith,
          many,
          length-map ws (number_at flows),
          length-sorted_into [] (map (number_at flows) ws),
          ap length waiting-line.numbers,
        )

    -- the least numbers in line, and one more
    pub kept-long : length kept ≡ most + 1
    kept-long =
        omega (arith, ap length whole-is, length-take (most + 1) (sorted (numbers_of (map live items))), long)

    -- the first of them are of those that are shown
    pub many-sids : sorted (map sid_of (take most kept))
        ≡ map (λ (f : LiveFlow). f.sid) (filter (is_shown most (map live items)) (map live items))
    many-sids =
        let whole = sorted (numbers_of (map live items)) in
        ap (λ ns. sorted (map sid_of ns)) (ap (take most) whole-is ∙ take-take most (most + 1) whole (omega arith))
        ∙ shown-many most (map live items) waiting-line.ascending waiting-line.small long

    -- and the last is that of the first that is hidden
    pub many-hidden : (hidden : Hidden) → hidden.number ≡ get_or kept most hidden.number
        → IsFirstHidden most (map live items) (Some hidden)
    many-hidden hidden at =
        some-hidden most (map live items) waiting-line.ascending waiting-line.small hidden.number long
        (same-behind (sorted (numbers_of (map live items))) kept most whole-is hidden.number at)

module _ (p : Waiting → Bool) (part : List Waiting) (i : ℕ) (w : Waiting) (lt : i < length part)
    (is : w ≡ get_or part i w) where
  -- one more that passes is kept
  pub kept-too : p w ≡ true → filter p (take (i + 1) part) ≡ filter p (take i part) ++ w ∷ []
  kept-too pass =
      let one : filter p (w ∷ []) ≡ w ∷ [] = rw pass refl in
      filter_more p part i w lt ∙ ap (λ v. filter p (take i part) ++ filter p (v ∷ [])) (sym is)
      ∙ ap (λ vs. filter p (take i part) ++ vs) one

  -- and one that fails is not
  pub left-out : p w ≡ false → filter p (take (i + 1) part) ≡ filter p (take i part)
  left-out fail =
      let none : filter p (w ∷ []) ≡ [] = rw fail refl in
      filter_more p part i w lt ∙ ap (λ v. filter p (take i part) ++ filter p (v ∷ [])) (sym is)
      ∙ ap (λ vs. filter p (take i part) ++ vs) none ∙ append-nil (filter p (take i part))

  -- and its number is put in
  pub number-too : (number : Waiting → ℕ) (most : ℕ) (whole line : List ℕ) → p w ≡ true
      → line ≡ take most (sorted_into whole (map number (filter p (take i part))))
      → take most (put_in itself (number w) line)
      ≡ take most (sorted_into whole (map number (filter p (take (i + 1) part))))
  number-too number most whole line pass kept =
      let ns = map number (filter p (take i part)) in
      let more : map number (filter p (take (i + 1) part)) ≡ ns ++ number w ∷ [] =
      ap (map number) (kept-too pass) ∙ map-append number (filter p (take i part)) (w ∷ []) in
      ap (λ l. take most (put_in itself (number w) l)) kept
      ∙ take-put_in most (number w) (sorted_into whole ns)
      ∙ ap (take most) (sym (ap (sorted_into whole) more ∙ sorted_into-append whole ns (number w ∷ [])))
