-- The numbers in line of the flows after a MAP, flow by flow and all at once.
use Rattle.std.proofs.Common.{◌≡◌, ◌≢◌, refl, sym, ap, ◌∙◌, subst, ℕ, zero, suc, ◌+◌, ◌<◌, ◌^◌, inl, inr, nat_lt, cond}
use Rattle.std.proofs.Common.{List, [], ◌∷◌, map, length, set, get_or, drop, slice_get, option_map, Some, None, arith}
use Rattle.std.specs.List.{AllByRecursion, AllZip}
use Rattle.std.proofs.lemmas.Bool.{cases_eq}
use Rattle.std.proofs.lemmas.List.{length-map, length-set, drop_more}
use Rattle.std.proofs.lemmas.List.Elements.{All-from_recursion, length_all_zip}
use Rattle.std.proofs.lemmas.Option.{slice_get_within, slice_get-get_or, slice_get-map}
use Rattle.minislots.specs.declared.config.Config.{Config}
use Rattle.flow_book.specs.declared.flow.Flow.{Flow}
use Rattle.flow_book.specs.declared.waiting.Waiting.{Waiting}
use Rattle.flow_book.specs.Flows.{LiveFlow}
use Rattle.flow_book.specs.Entry.{live, IsBook, IsSoundFlow}
use Rattle.flow_book.specs.Book.{Ascend}
use Rattle.sched_calls.specs.Sids.{AscendBy}
use Rattle.flow_book.specs.Overlay.{IsSameFlow}
use Rattle.flow_book.specs.Pending.{number_at, waiting_in}
use Rattle.flow_book.specs.Queue.{IsAt, IsIn, AreOnce, IsQueueIn}
use Rattle.flow_book.specs.Shown.{waits}
use Rattle.flow_book.specs.Line.{itself, sorted, numbers_of}
use Rattle.std.specs.BTreeSet.{BTreeSet, IsFromIterResult}
use Rattle.std.specs.Ordering.{nat_cmp}
use Rattle.flow_book.specs.Numbers.{DifferByOne, number_where}
use Rattle.flow_book.specs.Mending.{AreServed, number_after}
use Rattle.flow_book.proofs.InLine.{AreSmall, small-of, ascends}
use Rattle.sched_calls.proofs.Insertion.{all-set}
use Rattle.flow_book.proofs.Collected.{collected}
use Rattle.flow_book.proofs.NumbersOf.{differ-changed}
use Rattle.flow_book.proofs.Pendings.{waiting-at, numbered, waiting-line}
use Rattle.flow_book.proofs.Queues.{flow-at, at-within, set-here, set-other}
use Rattle.flow_book.proofs.StillWaiting.{all-at}
use Rattle.flow_book.proofs.TakenOver.{zip-at}

-- The flows are those after a MAP but at the places that are left, where they are those before
pub record IsMixed (before after : List LiveFlow) (left : List Waiting) (mixed : List LiveFlow) : Type 0 where
  pub ascending : Ascend mixed
  pub small : AreSmall mixed
  pub long : length mixed ≡ length after
  pub done : (place : ℕ) → (IsIn place left → ⊥) → slice_get mixed place ≡ slice_get after place
  pub rest : (place : ℕ) → IsIn place left → slice_get mixed place ≡ slice_get before place

-- with another of its SID in its place SIDs ascend
ascends-set : (flows : List LiveFlow) (k : ℕ) (f g : LiveFlow) → Ascend flows → slice_get flows k ≡ Some f
    → g.sid ≡ f.sid → Ascend (set flows k g)
ascends-set [] k f g up at same = absurd (cc)
ascends-set (h ∷ flows) zero f g up at same =
    let found : Some h ≡ Some f = at in
    let is : h ≡ f = cc in
    let sid : h.sid ≡ g.sid = ap (λ (k : LiveFlow). k.sid) is ∙ sym same in
    (subst (λ n. AllByRecursion (λ (k : LiveFlow). n < k.sid) flows) sid up.0, up.1)
ascends-set (h ∷ flows) (suc k) f g up at same =
    let above : h.sid < f.sid = all-at (λ (j : LiveFlow). h.sid < j.sid) flows k f up.0 at in (
      all-set (λ (j : LiveFlow). h.sid < j.sid) flows k g up.0 (omega (arith, above, same)),
      ascends-set flows k f g up.1 at same,
    )

once-drop : (i : ℕ) (ws : List Waiting) → AreOnce ws → AreOnce (drop i ws)
once-drop zero ws once = once
once-drop (suc i) [] once = tt
once-drop (suc i) (w ∷ ws) once = once-drop i ws once.1

not-place : (place : ℕ) (w : Waiting) (ws : List Waiting) → AllByRecursion (λ v. v.place ≢ w.place) ws → IsIn place ws
    → place ≢ w.place
not-place place w [] all here = absurd here
not-place place w (v ∷ ws) all (inl here) = λ same. absurd (all.0 (here ∙ same))
not-place place w (v ∷ ws) all (inr rest) = not-place place w ws all.1 rest

same-flows : (xs ys : List LiveFlow) → length xs ≡ length ys → ((k : ℕ) → slice_get xs k ≡ slice_get ys k) → xs ≡ ys
same-flows [] [] long each = refl
same-flows [] (y ∷ ys) long each = absurd (omega arith)
same-flows (x ∷ xs) [] long each = absurd (omega arith)
same-flows (x ∷ xs) (y ∷ ys) long each =
    let first : Some x ≡ Some y = each 0 in
    let is : x ≡ y = cc in
    ap (λ z. z ∷ xs) is ∙ ap (λ zs. y ∷ zs) (same-flows xs ys (omega arith) (λ k. each (suc k)))

-- at the end they are those after the MAP
pub mixed-all : (before after mixed : List LiveFlow) → IsMixed before after [] mixed → mixed ≡ after
mixed-all before after mixed is = same-flows mixed after is.long (λ k. is.done k (λ here. here))

module _ (c : Config) (old items : List Flow) (served : List Waiting) (are : AreServed c old items served) where
  as-many : length items ≡ length old
  as-many =
      omega (
        arith,
        length_all_zip IsSameFlow (map live old) (map live items) are.same,
        length-map old live,
        length-map items live,
      )

  -- at first they are those before it
  pub mixed-none : IsMixed (map live old) (map live items) served (map live old)
  mixed-none = record {
    ascending = are.before.sound.ascending;
    small = small-of are.config old are.before.sums;
    long = omega (arith, as-many, length-map old live, length-map items live);
    done = λ place out. elim (are.rest place) [
      | inl here ↦ absurd (out here)
      | inr same ↦ sym same
    ];
    rest = λ place here. refl;
  }

  module _ (i : ℕ) (w : Waiting) (lt : i < length served) (is : w ≡ get_or served i w) where
    left-is : drop i served ≡ w ∷ drop (i + 1) served
    left-is = drop_more served i w lt ∙ ap (λ v. v ∷ drop (i + 1) served) (sym is)

    at-one : IsAt items w
    at-one = rw is (All-from_recursion (IsAt items) served are.each i w lt)

    -- its place is one of the flows'
    pub place-within : w.place < length old
    place-within = omega (arith, as-many, at-within items w at-one)

    -- the flows at its place before and after the MAP
    pub record AreThere (before after : Flow) : Type 0 where
      pub was : slice_get old w.place ≡ Some before
      pub here : slice_get items w.place ≡ Some after
      pub sid : after.sid ≡ before.sid
      pub number : number_after old w ≡ number_where (live after)

    pub are-there : (f : Flow) × (g : Flow) × AreThere f g
    are-there =
        let g = flow-at items w (slice_get items w.place) refl at-one in
        let f = get_or old w.place g.0 in
        let was : slice_get old w.place ≡ Some f = slice_get-get_or old w.place g.0 place-within in
        let same = zip-at old items w.place f g.0 are.same was g.1 in
        let waiting = waiting-at c items are.book w g.0 at-one g.1 in
        let sound = all-at (IsSoundFlow c) (map live items) w.place (live g.0) are.book.sound.each waiting.at in
        let number = numbered old (map live items) are.same (live g.0) w sound.within waiting in (
          f,
          g.0,
          record {
            was = was;
            here = g.1;
            sid = sym (ap (λ (h : LiveFlow). h.sid) same);
            number = ap (λ n. cond (nat_lt 0 n) (Some (number_at old w)) None) waiting.wants
                ∙ ap (λ n. cond (waits (live g.0)) (Some n) None) number;
          },
        )

    module _ (mixed : List LiveFlow) (m : IsMixed (map live old) (map live items) (drop i served) mixed) where
      left-mixed : IsMixed (map live old) (map live items) (w ∷ drop (i + 1) served) mixed
      left-mixed = subst (λ ws. IsMixed (map live old) (map live items) ws mixed) left-is m

      -- the flow at its place is still that before
      mixed-at : slice_get mixed w.place ≡ Some (live are-there.0)
      mixed-at =
          left-mixed.rest w.place (inl refl) ∙ slice_get-map live old w.place
          ∙ ap (option_map live) are-there.2.was

      abbrev pub next : List LiveFlow
      next = set mixed w.place (live are-there.1)

      -- with that after the MAP in its place one more is done
      pub mixed-more : IsMixed (map live old) (map live items) (drop (i + 1) served) next
      mixed-more =
          let there = are-there.2 in
          let g = live are-there.1 in
          let within = slice_get_within mixed w.place (live are-there.0) mixed-at in
          let once : AreOnce (w ∷ drop (i + 1) served) = subst AreOnce left-is (once-drop i served are.once) in
          let small-after = all-at (λ (f : LiveFlow). f.sid < 2 ^ 16) (map live items) w.place g
          (small-of c items are.book.sums) (slice_get-map live items w.place ∙ ap (option_map live) there.here) in
          record {
            ascending = ascends-set mixed w.place (live are-there.0) g m.ascending mixed-at there.sid;
            small = all-set (λ (f : LiveFlow). f.sid < 2 ^ 16) mixed w.place g m.small small-after;
            long = omega (arith, length-set mixed w.place g, m.long);
            done = λ place out. elim (cases_eq place w.place) [
              | inl same ↦ rw same (set-here mixed w.place g within
                  ∙ sym (slice_get-map live items w.place ∙ ap (option_map live) there.here))
              | inr differ ↦ set-other mixed w.place g place differ ∙ left-mixed.done place (λ here. elim here [
                | inl mine ↦ differ (sym mine)
                | inr rest ↦ out rest
              ])
            ];
            rest = λ place here.
                set-other mixed w.place g place (not-place place w (drop (i + 1) served) once.0 here)
                ∙ left-mixed.rest place (inr here);
          }

      -- and its number takes the place of that before
      pub differ-mixed : DifferByOne (number_where (live are-there.0)) (number_after old w) mixed next
      differ-mixed =
          let there = are-there.2 in
          rw there.number (differ-changed mixed m.ascending m.small w.place (live are-there.0) mixed-at
          (live are-there.1) there.sid)

-- the numbers of those that wait in the two parts are those of the flows after the MAP
pub filled : (c : Config) (flows items : List Flow) (queue served : List Waiting) (s : BTreeSet ℕ) → IsBook c items
    → IsQueueIn items queue served → AllZip IsSameFlow (map live flows) (map live items)
    → IsFromIterResult nat_cmp (map (number_at flows) (waiting_in queue served)) s
    → s.keys ≡ sorted (numbers_of (map live items))
filled c flows items queue served s book is same made =
    let line = waiting-line c flows items book same queue served is in
    let up : AscendBy itself (sorted (map (number_at flows) (waiting_in queue served))) =
    subst (AscendBy itself) (sym line.numbers) (ascends (map live items) line.ascending line.small) in
    collected (map (number_at flows) (waiting_in queue served)) s made up ∙ line.numbers
