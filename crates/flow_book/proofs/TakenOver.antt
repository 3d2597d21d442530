-- The flows of a book that takes in the data grants of a MAP, one by one.
use Rattle.std.proofs.Common.{◌≡◌, refl, sym, ap, ◌∙◌, subst, ℕ, zero, suc, ◌+◌, ◌-◌, ◌<◌, ◌≤◌, ◌⊎◌, inl, inr}
use Rattle.std.proofs.Common.{List, [], ◌∷◌, ◌++◌, map, length, take, get_or, set, slice_get}
use Rattle.std.proofs.Common.{Some, option_map, Bool, true, false, cond, arith}
use Rattle.std.specs.Prelude.{if◌then◌else◌}
use Rattle.std.specs.List.{AllByRecursion, AllZip}
use Rattle.std.specs.Option.{option_map_or}
use Rattle.std.proofs.lemmas.List.{length-map, length-set, get_or-set_same, take_more}
use Rattle.std.proofs.lemmas.List.Elements.{All-from_recursion, length_all_zip}
use Rattle.std.proofs.lemmas.Option.{slice_get_within, slice_get-get_or, slice_get_read, slice_get-map}
use Rattle.minislots.specs.declared.config.Config.{Config}
use Rattle.sched_calls.specs.FlowSpec.{takes_requests}
use Rattle.flow_book.specs.declared.flow.Flow.{Flow}
use Rattle.flow_book.specs.declared.granted.GrantList.{GrantList}
use Rattle.flow_book.specs.declared.waiting.Waiting.{Waiting}
use Rattle.flow_book.specs.Flows.{LiveFlow}
use Rattle.flow_book.specs.FlowList.{AreGrantsAt}
use Rattle.flow_book.specs.Entry.{live, IsCopy, IsSoundFlow, KeepsSums}
use Rattle.sched_calls.specs.Sids.{AscendBy}
use Rattle.flow_book.specs.Queue.{IsAt, IsIn}
use Rattle.flow_book.specs.Overlay.{IsSameFlow}
use Rattle.flow_book.specs.Tiers.{HasTier, limits_in}
use Rattle.flow_book.specs.declared.tiers.Tier.{Tier}
use Rattle.flow_book.specs.Taking.{CanBeTaken, IsTaken}
use Rattle.flow_book.proofs.Once.{fresh-once}
use Rattle.flow_book.proofs.Queues.{at-within, flow-at, turn-at, wants-at, same-turn, same-but}
use Rattle.flow_book.proofs.ByTier.{limits-at, queued-limits, silent-limits}
use Rattle.flow_book.proofs.StillWaiting.{in-or-out, all-at}
use Rattle.flow_book.proofs.Sums.{copy-sums}

-- one of a list with one more is in the list or is that one
pub in-either : (place : ℕ) (front : List Waiting) (w : Waiting) → IsIn place (front ++ w ∷ [])
    → IsIn place front ⊎ (w.place ≡ place)
in-either place [] w (inl here) = inr here
in-either place [] w (inr rest) = absurd rest
in-either place (v ∷ front) w (inl here) = inl (inl here)
in-either place (v ∷ front) w (inr rest) = elim (in-either place front w rest) [
  | inl early ↦ inl (inr early)
  | inr last ↦ inr last
]

-- one of a list is in the list with others behind it
pub in-front : (place : ℕ) (front back : List Waiting) → IsIn place front → IsIn place (front ++ back)
in-front place [] back here = absurd here
in-front place (v ∷ front) back (inl here) = inl here
in-front place (v ∷ front) back (inr rest) = inr (in-front place front back rest)

-- and so is the one behind it
pub in-last : (front : List Waiting) (w : Waiting) → IsIn w.place (front ++ w ∷ [])
in-last [] w = inl refl
in-last (v ∷ front) w = inr (in-last front w)

module _ {X : Type 0} where
  -- what holds of the one at each place holds of each
  all-each : (P : X → Type 0) (xs : List X) → ((k : ℕ) (x : X) → slice_get xs k ≡ Some x → P x)
      → AllByRecursion P xs
  all-each P [] each = tt
  all-each P (x ∷ xs) each = (each 0 x refl, all-each P xs (λ k. each (suc k)))

-- the grants of the flow at a place are its own
grants-theirs : (place : ℕ) (flows : List LiveFlow) (grants : GrantList) (f : LiveFlow)
    → slice_get flows place ≡ Some f → AreGrantsAt place flows grants
    → (grants.items ≡ f.grants) × (grants.sustained ≡ f.sustained) × (grants.peak ≡ f.peak)
    × (grants.reserved ≡ f.reserved)
grants-theirs place flows grants f at are = (
  are.0 ∙ ap (λ o. option_map_or (λ (h : LiveFlow). h.grants) o []) at,
  are.1 ∙ ap (λ o. option_map_or (λ (h : LiveFlow). h.sustained) o []) at,
  are.2 ∙ ap (λ o. option_map_or (λ (h : LiveFlow). h.peak) o []) at,
  are.3 ∙ ap (λ o. option_map_or (λ (h : LiveFlow). h.reserved) o []) at,
)

-- at one place the flows are the same but for their grants
pub zip-at : (old items : List Flow) (place : ℕ) (f g : Flow) → AllZip IsSameFlow (map live old) (map live items)
    → slice_get old place ≡ Some f → slice_get items place ≡ Some g → IsSameFlow (live f) (live g)
zip-at [] items place f g zip found at = absurd (cc)
zip-at (x ∷ old) [] place f g zip found at = absurd (cc)
zip-at (x ∷ old) (y ∷ items) zero f g zip found at =
    let e : Some x ≡ Some f = found in
    let e' : Some y ≡ Some g = at in
    let mine : x ≡ f = cc in
    let yours : y ≡ g = cc in
    subst (λ (h : Flow). IsSameFlow (live h) (live g)) mine
    (subst (λ (h : Flow). IsSameFlow (live x) (live h)) yours zip.0)
zip-at (x ∷ old) (y ∷ items) (suc place) f g zip found at = zip-at old items place f g zip.1 found at

-- flows that are as many show the same where those at each place do
same-shown : (new items : List Flow) → length new ≡ length items
    → ((k : ℕ) (f g : Flow) → slice_get new k ≡ Some f → slice_get items k ≡ Some g → live f ≡ live g)
    → map live new ≡ map live items
same-shown [] [] long each = refl
same-shown [] (g ∷ items) long each = absurd (omega arith)
same-shown (f ∷ new) [] long each = absurd (omega arith)
same-shown (f ∷ new) (g ∷ items) long each =
    ap (λ h. h ∷ map live new) (each 0 f g refl refl)
    ∙ ap (λ hs. live g ∷ hs) (same-shown new items (omega arith) (λ k. each (suc k)))

module _ (items : List Flow) where
  -- none of those before it in the queue is at its place
  pub fresh : (queue : List Waiting) (i : ℕ) (d : Waiting) → i < length queue → AllByRecursion (IsAt items) queue
      → AscendBy (λ w. w.turn) queue → IsIn (get_or queue i d).place (take i queue) → ⊥
  fresh [] i d lt all up here = absurd (omega arith)
  fresh (w ∷ queue) zero d lt all up here = here
  fresh (w ∷ queue) (suc i) d lt all up (inl same) =
      let at : IsAt items (get_or queue i d) = All-from_recursion (IsAt items) queue all.1 i d (omega arith) in
      let above : w.turn < (get_or queue i d).turn =
      All-from_recursion (λ v. w.turn < v.turn) queue up.0 i d (omega arith) in
      absurd (omega (arith, above, same-turn items w (get_or queue i d) all.0 at same))
  fresh (w ∷ queue) (suc i) d lt all up (inr rest) = fresh queue i d (omega arith) all.1 up.1 rest

-- The flows at the places that are done are copies of those after the MAP, the others are those before it
pub record IsPart (old items : List Flow) (done : List Waiting) (new : List Flow) : Type 0 where
  pub there : (place : ℕ) (f g : Flow) → IsIn place done → slice_get new place ≡ Some f
      → slice_get items place ≡ Some g → IsCopy g f
  pub rest : (place : ℕ) → (IsIn place done → ⊥) → slice_get new place ≡ slice_get old place

-- at first none is done
pub part-none : (old items : List Flow) → IsPart old items [] old
part-none old items = record { there = λ place f g here found at. absurd here; rest = λ place out. refl }

-- one of the queue, and the flows at its place before and after the MAP
pub record IsHere (old items : List Flow) (w : Waiting) (f g : Flow) : Type 0 where
  pub is : IsAt items w
  pub at : slice_get items w.place ≡ Some g
  pub found : slice_get old w.place ≡ Some f
  pub same : IsSameFlow (live f) (live g)

module _ (c : Config) (old items : List Flow) (tiers : List Tier) (queue : List Waiting)
    (can : CanBeTaken c old items tiers queue) where
  -- they are as many
  as-many : length items ≡ length old
  as-many =
      omega (
        arith,
        length_all_zip IsSameFlow (map live old) (map live items) can.same,
        length-map old live,
        length-map items live,
      )

  module _ (i : ℕ) (w : Waiting) (lt : i < length queue) (is : w ≡ get_or queue i w) where
    at-queue : IsAt items w
    at-queue = rw is (All-from_recursion (IsAt items) queue can.each i w lt)

    has-tier : HasTier items tiers w
    has-tier = rw is (All-from_recursion (HasTier items tiers) queue can.tiered i w lt)

    -- its place is one of the flows'
    pub place-within : w.place < length old
    place-within = omega (arith, as-many, at-within items w at-queue)

    not-done : IsIn w.place (take i queue) → ⊥
    not-done here =
        fresh-once queue i w lt can.once
        (subst (λ (v : Waiting). IsIn v.place (take i queue)) is here)

    module _ (new : List Flow) (f : Flow) (long : length new ≡ length old) (read : f ≡ get_or new w.place f)
        (part : IsPart old items (take i queue) new) where
      -- the flow at its place is still that before the MAP
      pub is-here : (g : Flow) × IsHere old items w f g
      is-here =
          let g = flow-at items w (slice_get items w.place) refl at-queue in
          let found : slice_get old w.place ≡ Some f =
          sym (part.rest w.place not-done)
          ∙ slice_get_read new (length new) w.place f refl (omega (arith, place-within)) read in (
            g.0,
            record {
              is = at-queue;
              at = g.1;
              found = found;
              same = zip-at old items w.place f g.0 can.same found g.1;
            },
          )

      -- which asked for what it waits for
      pub wants-asked : w.wants ≤ f.asked
      wants-asked =
          let g = is-here.0 in
          let here = is-here.1 in
          omega (
            arith,
            wants-at items w g here.is here.at,
            ap (λ (h : LiveFlow). h.asked) here.same,
          )

      -- with the grants after the MAP, and what the queue has of it, it is a copy of that after it
      pub copied : (grants : GrantList) → AreGrantsAt w.place (map live items) grants → IsCopy is-here.0 (record f {
        turn = w.turn;
        granted = f.asked - w.wants;
        limits = if takes_requests f.spec then limits_in tiers w else f.limits;
        grants = grants;
      })
      copied grants are =
          let g = is-here.0 in
          let here = is-here.1 in
          let there = slice_get-map live items w.place ∙ ap (option_map live) here.at in
          let theirs = grants-theirs w.place (map live items) grants (live g) there are in
          let sound = all-at (IsSoundFlow c) (map live items) w.place (live g) can.book.sound.each there in
          let keeps = all-at (KeepsSums c) items w.place g can.book.sums here.at in
          record {
            same = rw (theirs.0, theirs.1, theirs.2, theirs.3) here.same;
            granted = omega (
              arith,
              wants-at items w g here.is here.at,
              ap (λ (h : LiveFlow). h.asked) here.same,
              sound.within,
              keeps.granted,
            );
            turn = sym (turn-at items w g here.is here.at);
            limits = limits-by g here keeps (takes_requests f.spec) refl;
          }
        where
          limits-by : (g : Flow) → IsHere old items w f g → KeepsSums c g → (b : Bool) → takes_requests f.spec ≡ b
              → cond b (limits_in tiers w) f.limits ≡ g.limits
          limits-by g here keeps true takes =
              let spec : f.spec ≡ g.spec = ap (λ (h : LiveFlow). h.spec) here.same in
              sym (limits-at c items tiers w g keeps here.is has-tier here.at)
              ∙ queued-limits g (ap takes_requests (sym spec) ∙ takes)
          limits-by g here keeps false silent =
              let spec : f.spec ≡ g.spec = ap (λ (h : LiveFlow). h.spec) here.same in
              let before = all-at (KeepsSums c) old w.place f can.before.sums here.found in
              silent-limits c f before silent
              ∙ sym (silent-limits c g keeps (ap takes_requests (sym spec) ∙ silent))

      -- so one place more is done where it is put there
      pub part-more : (e : Flow) → IsCopy is-here.0 e → IsPart old items (take (i + 1) queue) (set new w.place e)
      part-more e copy =
          let done = take i queue in
          let more : take (i + 1) queue ≡ done ++ w ∷ [] =
          take_more queue i w lt ∙ ap (λ (v : Waiting). done ++ v ∷ []) (sym is) in
          let within : w.place < length new = omega (arith, place-within) in
          let put : slice_get (set new w.place e) w.place ≡ Some e =
          slice_get-get_or (set new w.place e) w.place e (omega (arith, length-set new w.place e))
          ∙ ap Some (get_or-set_same new w.place e e within) in
          rw more (record {
            there = λ place f' g' here found at. elim (in-either place done w here) [
              | inl early ↦ part.there place f' g' early
                  (sym (same-but new w.place e place (λ same. not-done (subst (λ k. IsIn k done) same early))) ∙ found) at
              | inr last ↦ (
                  let mine : Some e ≡ Some f' = sym put ∙ ap (slice_get (set new w.place e)) last ∙ found in
                  let yours : Some is-here.0 ≡ Some g' = sym is-here.1.at ∙ ap (slice_get items) last ∙ at in
                  let e-is : e ≡ f' = cc in
                  let g-is : is-here.0 ≡ g' = cc in
                  subst (λ (h : Flow). IsCopy h f') g-is (subst (λ (h : Flow). IsCopy is-here.0 h) e-is copy))
            ];
            rest = λ place out.
                same-but new w.place e place
                (λ same. out (subst (λ k. IsIn k (done ++ w ∷ [])) (sym same) (in-last done w)))
                ∙ part.rest place (λ early. out (in-front place done (w ∷ []) early));
          })

  module _ (new : List Flow) (long : length new ≡ length old) (part : IsPart old items queue new) where
    -- where all are done the flow at each place shows what that after the MAP does, and keeps its sums
    shown-at : (place : ℕ) (f g : Flow) → slice_get new place ≡ Some f → slice_get items place ≡ Some g
        → (live f ≡ live g) × KeepsSums c f
    shown-at place f g found at = elim (in-or-out place queue) [
      | inl here ↦ (
          let copy = part.there place f g here found at in
          (copy.same, copy-sums c g f copy (all-at (KeepsSums c) items place g can.book.sums at)))
      | inr out ↦ (
          let stays : slice_get old place ≡ Some f = sym (part.rest place out) ∙ found in
          elim (can.rest place) [
            | inl here ↦ absurd (out here)
            | inr same ↦ (
                let e : Some (live g) ≡ Some (live f) =
                ap (option_map live) (sym at) ∙ sym (slice_get-map live items place) ∙ same
                ∙ slice_get-map live old place ∙ ap (option_map live) stays in
                let equal : live f ≡ live g = cc in
                (equal, all-at (KeepsSums c) old place f can.before.sums stays))
          ])
    ]

    -- there is one after the MAP
    after-at : (place : ℕ) (f : Flow) → slice_get new place ≡ Some f
        → (g : Flow) × (slice_get items place ≡ Some g)
    after-at place f found = (
      get_or items place f,
      slice_get-get_or items place f
          (omega (arith, as-many, slice_get_within new place f found)),
    )

    -- then the book has taken them in
    pub is-taken : IsTaken c new items
    is-taken =
        let shows : map live new ≡ map live items =
        same-shown new items (omega (arith, as-many)) (λ k f g found at. (shown-at k f g found at).0) in
        record {
          shows = shows;
          book = record {
            sound = rw shows can.book.sound;
            sums = all-each (KeepsSums c) new
                (λ k f found. let g = after-at k f found in (shown-at k f g.0 found g.1).1);
          };
        }
