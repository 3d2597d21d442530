-- The two parts of the queue while a MAP is planned.
use Rattle.std.proofs.Common.{◌≡◌, ◌≢◌, refl, sym, ap, ◌∙◌, subst, ℕ, zero, suc, ◌<◌, ◌≤◌, inl, inr, Bool, true, false}
use Rattle.std.proofs.Common.{List, [], ◌∷◌, filter, take, drop, get_or, set, remove, slice_get, Option, Some, None, cond}
use Rattle.std.proofs.Common.{◌+◌, map, length, nat_lt, arith}
use Rattle.std.specs.List.{AllByRecursion}
use Rattle.std.specs.Option.{MatchOption}
use Rattle.std.proofs.lemmas.Bool.{cases_eq}
use Rattle.std.proofs.lemmas.Bool.Decides.{nat_tests}
use Rattle.std.proofs.lemmas.List.Edits.{length-remove}
use Rattle.std.proofs.lemmas.Option.{slice_get_within, get_or_from_slice_get}
use Rattle.std.proofs.lemmas.List.{drop_all}
use Rattle.minislots.specs.declared.config.Config.{Config}
use Rattle.flow_book.specs.declared.flow.Flow.{Flow}
use Rattle.flow_book.specs.declared.waiting.Waiting.{Waiting}
use Rattle.flow_book.specs.declared.parts.Standing.TheVariants.{Queued, Served}
use Rattle.flow_book.specs.Choice.{NoneEligible}
use Rattle.flow_book.specs.Entry.{live}
use Rattle.flow_book.specs.Queue.{IsAt, IsIn, IsQueue, IsQueueAmong, IsQueueIn, IsPassed, IsNoSooner, HasStartedPart}
use Rattle.flow_book.specs.Queue.{IsSoonest, IsOrderIn, IsShortQueue, StandsBehind, AreOnce, served_of}
use Rattle.flow_book.specs.Queue.{NoneWaitsBefore}
use Rattle.flow_book.specs.Queue.{still_waits}
use Rattle.flow_book.specs.Tiers.{HasTier, turn_at}
use Rattle.flow_book.specs.declared.soonest.Able.{Able}
use Rattle.flow_book.specs.declared.parts.Standing.{Standing}
use Rattle.flow_book.specs.declared.tiers.Tier.{Tier}
use Rattle.flow_book.specs.Parts.{one_at, sooner_of, HasStartedIn, IsAheadOf, IsNextIn, IsPutIn, IsPutBack}
use Rattle.flow_book.proofs.Once.{by-turn-once, once-remove, once-alone}
use Rattle.flow_book.proofs.Order.{all-implied}
use Rattle.flow_book.proofs.Queues.{with-one, all-remove, in-rest, in-removed, taken-among, taken-out, among-as}
use Rattle.sched_calls.proofs.Removal.{all-filter, ascends-filter}
use Rattle.flow_book.proofs.Serving.{pick, kept-of, first-next, none-next, all-later, all-sooner, no-sooner}
use Rattle.flow_book.proofs.StillWaiting.{all-at, kept-at, kept-index, gone-kept, kept-parts, all-parts, ascends-take}
use Rattle.flow_book.proofs.StillWaiting.{none-served, still-queue}
use Rattle.flow_book.proofs.StillWaiting.{in-take}

-- the one at a place of a list is in it
pub in-at : (queue : List Waiting) (i : ℕ) (w : Waiting) → slice_get queue i ≡ Some w → IsIn w.place queue
in-at [] i w found = absurd (cc)
in-at (v ∷ queue) zero w found =
    let e : Some v ≡ Some w = found in
    let is : v ≡ w = cc in
    inl (ap (λ (u : Waiting). u.place) is)
in-at (v ∷ queue) (suc i) w found = inr (in-at queue i w found)

-- at first none is served
pub order-none : (b : Bool) (items : List Flow) (queue : List Waiting) → IsQueue items queue → IsOrderIn b items queue []
order-none true items queue is = none-served items queue is
order-none false items queue is = (
  record {
    waiting = still-queue items queue is;
    each = is.each;
    once = by-turn-once items queue is.each is.ascending;
  },
  refl,
)

-- those that a MAP served are what is told of their flows, each once
pub served-each : (b : Bool) (items : List Flow) (queue served : List Waiting) → IsOrderIn b items queue served
    → AllByRecursion (IsAt items) (served_of b queue served) × AreOnce (served_of b queue served)
served-each true items queue served is =
    (is.served_ones.each, by-turn-once items served is.served_ones.each is.served_ones.ascending)
served-each false items queue served is = (is.0.each, is.0.once)

-- where none wants anything before a place, none does where one wants nothing any more
pub none-set : (first : ℕ) (queue : List Waiting) (i : ℕ) (e : Waiting) → e.wants ≡ 0 → NoneWaitsBefore first queue
    → NoneWaitsBefore first (set queue i e)
none-set zero queue i e gone none = tt
none-set (suc first) [] zero e gone none = none
none-set (suc first) [] (suc i) e gone none = none
none-set (suc first) (w ∷ queue) zero e gone none = (gone, none.1)
none-set (suc first) (w ∷ queue) (suc i) e gone none = (none.0, none-set first queue i e gone none.1)

module _ (items : List Flow) (queue served : List Waiting) (is : IsQueueIn items queue served) (i : ℕ)
    (w waiting : Waiting)
    (same : w.place ≡ waiting.place) where
  -- one of the queue that is served goes to those served
  pub put-queued : (e : Waiting) (after : List Waiting) → slice_get queue i ≡ Some w → still_waits w ≡ true
      → still_waits e ≡ false → after ≡ with-one waiting served
      → IsPutIn items waiting queue served (set queue i e) after
  put-queued e after here still gone put =
      let lt = slice_get_within queue i w here in
      let read : get_or queue i w ≡ w = get_or_from_slice_get queue i w w here in
      let keeps : still_waits (get_or queue i w) ≡ true = ap still_waits read ∙ still in
      let out : IsIn w.place served → ⊥ =
      subst (λ (v : Waiting). IsIn v.place served → ⊥) read
      (kept-at (λ v. IsIn v.place served → ⊥) still_waits queue i w lt keeps is.others.among) in
      let j = kept-index still_waits queue i w lt keeps in
      let at : (get_or (filter still_waits queue) j.0 w).place ≡ waiting.place =
      ap (λ (v : Waiting). v.place) (j.2 ∙ read) ∙ same in
      let left : remove (filter still_waits queue) j.0 ≡ filter still_waits (set queue i e) =
      j.3 ∙ sym (gone-kept still_waits queue i e lt gone) in
      record {
        left = served;
        among = is.served_ones;
        out = subst (λ k. IsIn k served → ⊥) same out;
        stay = λ place here. inr here;
        tiered = λ tiers all. all;
        others_tiered = λ tiers all. subst (AllByRecursion (HasTier items tiers)) left
            (all-remove (HasTier items tiers) (filter still_waits queue) j.0 all);
        others = subst (IsQueueAmong items (λ place. (IsIn place served → ⊥) × (place ≢ waiting.place))) left
            (subst (λ k. IsQueueAmong items (λ place. (IsIn place served → ⊥) × (place ≢ k))
            (remove (filter still_waits queue) j.0)) at
            (taken-among items (λ place. IsIn place served → ⊥) (filter still_waits queue) j.0 w j.1 is.others));
        is = put;
      }

  -- and one that was served is put among the others
  pub put-again : (after : List Waiting) → slice_get served i ≡ Some w → after ≡ with-one waiting (remove served i)
      → IsPutIn items waiting queue served queue after
  put-again after here put =
      let lt = slice_get_within served i w here in
      let read : get_or served i w ≡ w = get_or_from_slice_get served i w w here in
      let at : (get_or served i w).place ≡ waiting.place = ap (λ (v : Waiting). v.place) read ∙ same in
      let left = remove served i in
      let taken : IsQueueAmong items (λ k. IsIn k served × (k ≢ waiting.place)) left =
      subst (λ p. IsQueueAmong items (λ k. IsIn k served × (k ≢ p)) left) at
      (taken-among items (λ k. IsIn k served) served i w lt is.served_ones) in
      let stays : (k : ℕ) → k ≢ waiting.place → IsIn k served → IsIn k left =
      λ k differ in-it. in-rest k served i w lt (λ equal. differ (sym equal ∙ at)) in-it in
      let differs : (k : ℕ) → IsIn k left → k ≢ waiting.place = λ k in-it equal.
      (let v = pick (λ v. IsIn v.place served × (v.place ≢ waiting.place)) k left in-it taken.among in
      v.2.1 (v.1 ∙ equal)) in
      let there : IsIn waiting.place served = subst (λ k. IsIn k served) same (in-at served i w here) in
      record {
        left = left;
        among = among-as items (λ k. IsIn k served × (k ≢ waiting.place)) (λ k. IsIn k left) left
            (λ k both. stays k both.1 both.0) (λ k in-it. (in-removed k served i in-it, differs k in-it)) taken;
        out = λ in-it. differs waiting.place in-it refl;
        stay = λ k in-it. elim (cases_eq k waiting.place) [
          | inl equal ↦ inl equal
          | inr differ ↦ inr (stays k differ in-it)
        ];
        others = among-as items (λ k. IsIn k served → ⊥) (λ k. (IsIn k left → ⊥) × (k ≢ waiting.place))
            (filter still_waits queue)
            (λ k out. (
              (λ in-it. out (in-removed k served i in-it)),
              (λ equal. out (subst (λ n. IsIn n served) (sym equal) there)),
            ))
            (λ k both in-it. both.0 (stays k both.1 in-it)) is.others;
        tiered = λ tiers. all-remove (HasTier items tiers) served i;
        others_tiered = λ tiers all. all;
        is = put;
      }

-- one of a short queue is put among the others
pub put-back : (items : List Flow) (queue : List Waiting) (i : ℕ) (w waiting : Waiting) (after : List Waiting)
    → IsShortQueue items queue → slice_get queue i ≡ Some w → still_waits w ≡ true → w.place ≡ waiting.place
    → StandsBehind i waiting queue after → IsPutBack items waiting queue after
put-back items queue i w waiting after is here still same put =
    let lt = slice_get_within queue i w here in
    let read : get_or queue i w ≡ w = get_or_from_slice_get queue i w w here in
    let at : (get_or queue i w).place ≡ waiting.place = ap (λ (v : Waiting). v.place) read ∙ same in
    let ws = filter still_waits queue in
    let j = kept-index still_waits queue i w lt (ap still_waits read ∙ still) in
    let at' : (get_or ws j.0 w).place ≡ waiting.place = ap (λ (v : Waiting). v.place) (j.2 ∙ read) ∙ same in
    record {
      others = remove queue i;
      each = all-remove (IsAt items) queue i is.each;
      tiered = λ tiers. all-remove (HasTier items tiers) queue i;
      once = once-remove queue i is.once;
      new = subst (λ k. AllByRecursion (λ v. v.place ≢ k) (remove queue i)) at (once-alone queue i w lt is.once);
      among = subst (IsQueueAmong items (λ other. other ≢ waiting.place)) j.3
          (subst (λ k. IsQueueAmong items (λ other. other ≢ k) (remove ws j.0)) at'
          (taken-out items ws j.0 w j.1 is.waiting));
      stay = λ k in-it. elim (cases_eq k waiting.place) [
        | inl equal ↦ inl equal
        | inr differ ↦ inr (in-rest k queue i w lt (λ equal. differ (sym equal ∙ at)) in-it)
      ];
      at = put.at;
      within = put.within;
      is = put.is;
      still = put.still;
    }

-- one of the queue fewer waits where one that is served wants nothing there any more
pub fewer-wait : (queue : List Waiting) (i : ℕ) (w e : Waiting) → slice_get queue i ≡ Some w → still_waits w ≡ true
    → still_waits e ≡ false
    → length (filter still_waits (set queue i e)) + 1 ≡ length (filter still_waits queue)
fewer-wait queue i w e here still gone =
    let lt = slice_get_within queue i w here in
    let read : get_or queue i w ≡ w = get_or_from_slice_get queue i w w here in
    let j = kept-index still_waits queue i w lt (ap still_waits read ∙ still) in
    omega (
      arith,
      length-remove (filter still_waits queue) j.0 j.1,
      ap length j.3,
      ap length (gone-kept still_waits queue i e lt gone),
    )

-- one at least of the queue waits
pub one-waits : (queue : List Waiting) (i : ℕ) (w : Waiting) → slice_get queue i ≡ Some w → still_waits w ≡ true
    → 0 < length (filter still_waits queue)
one-waits queue i w here still =
    let lt = slice_get_within queue i w here in
    let read : get_or queue i w ≡ w = get_or_from_slice_get queue i w w here in
    let j = kept-index still_waits queue i w lt (ap still_waits read ∙ still) in
    omega (arith, j.1)

module _ (c : Config) (items : List Flow) (tiers : List Tier) (queue served : List Waiting) (start room : ℕ)
    (has : HasStartedIn c items tiers queue served start) where
  -- the queue is a part
  pub queued-part : HasStartedPart c items tiers queue start
  queued-part = record {
    book = has.book;
    ascending = has.order.others.ascending;
    each = has.order.others.each;
    tiered = has.others;
    started = has.started;
  }

  -- and so are those served, up to a place
  pub served-part : (n : ℕ) → HasStartedPart c items tiers (take n served) start
  served-part n = record {
    book = has.book;
    ascending = ascends-filter (λ w. w.turn) still_waits (take n served)
        (ascends-take (λ w. w.turn) n served has.order.served_ones.ascending);
    each = all-filter (IsAt items) still_waits (take n served)
        (all-parts (IsAt items) n served has.order.served_ones.each).0;
    tiered = all-filter (HasTier items tiers) still_waits (take n served)
        (all-parts (HasTier items tiers) n served has.ones).0;
    started = has.started;
  }

  -- of those that still wait in the two parts each has a turn no earlier than its own
  queue-later : AllByRecursion (λ v. v.turn ≤ turn_at c tiers start v) (filter still_waits queue)
  queue-later =
      all-later c items tiers start (filter still_waits queue) has.book has.started has.order.others.each has.others

  served-later : AllByRecursion (λ v. v.turn ≤ turn_at c tiers start v) served
  served-later = all-later c items tiers start served has.book has.started has.order.served_ones.each has.ones

  -- one that may be served and stands here is next where none of both parts is sooner
  stands-next : (at : Standing) (among ws : List Waiting) (index turn : ℕ)
      → (is : IsSoonest c items tiers among ws start room index turn) → one_at at queue served ≡ Some is.able.waiting
      → AllByRecursion (IsNoSooner c tiers start room items turn) (filter still_waits queue)
      → AllByRecursion (IsNoSooner c tiers start room items turn) (filter still_waits served)
      → IsNextIn c items queue served start room at
  stands-next at among ws index turn is here all all' =
      let w = is.able.waiting in
      let two = known-at at w here is.able.waits in
      record {
        waiting = w;
        here = here;
        waits = is.able.waits;
        flow = is.able.flow;
        stands = is.able.at;
        next = first-next c start room items tiers queue served has w is.able.flow is.able.at two.0 two.1 is.able.may
            (rw (sym is.is) all) (rw (sym is.is) all');
      }
    where
      known-at : (at : Standing) (w : Waiting) → one_at at queue served ≡ Some w → still_waits w ≡ true
          → IsAt items w × HasTier items tiers w
      known-at (Queued i) w here still = (
        kept-of (IsAt items) queue i w here still has.order.others.each,
        kept-of (HasTier items tiers) queue i w here still has.others,
      )
      known-at (Served i) w here still = (
        all-at (IsAt items) served i w has.order.served_ones.each here,
        all-at (HasTier items tiers) served i w has.ones here,
      )

  abbrev Found : List Waiting → Option Able → Type 0
  Found ws queued =
      MatchOption queued (AllByRecursion (IsPassed c start room items) (filter still_waits ws))
      (λ able. IsSoonest c items tiers ws ws start room able.index able.turn)

  -- where none of some may be served none is sooner than any turn
  passed-late : (turn : ℕ) (ws : List Waiting) → AllByRecursion (IsPassed c start room items) ws
      → AllByRecursion (IsNoSooner c tiers start room items turn) ws
  passed-late turn ws =
      all-implied (IsPassed c start room items) (IsNoSooner c tiers start room items turn) ws (λ v pass. inl pass)

  -- those served from a place on are no sooner than a turn that is no later than theirs
  served-late : (turn ahead : ℕ) → AllByRecursion (IsNoSooner c tiers start room items turn)
      (filter still_waits (take ahead served)) → AllByRecursion (λ v. turn ≤ v.turn) (drop ahead served)
      → AllByRecursion (IsNoSooner c tiers start room items turn) (filter still_waits served)
  served-late turn ahead front behind =
      kept-parts (IsNoSooner c tiers start room items turn) still_waits ahead served front
      (no-sooner c start room items tiers turn (drop ahead served) behind
      (all-parts (λ v. v.turn ≤ turn_at c tiers start v) ahead served served-later).1)

  -- the one of the queue is next where none of those served that come ahead is sooner
  queued-is : (ahead : ℕ) (a : Able) → IsSoonest c items tiers queue queue start room a.index a.turn
      → AllByRecursion (λ v. a.turn ≤ v.turn) (drop ahead served)
      → AllByRecursion (IsNoSooner c tiers start room items a.turn) (filter still_waits (take ahead served))
      → IsNextIn c items queue served start room (Queued a.index)
  queued-is ahead a is around front =
      stands-next (Queued a.index) queue queue a.index a.turn is is.able.here is.first
      (served-late a.turn ahead front around)

  -- and one of these where none of the queue is sooner
  served-is : (ahead : ℕ) (p : Able)
      → IsSoonest c items tiers (take ahead served) (take ahead served) start room p.index p.turn
      → AllByRecursion (IsNoSooner c tiers start room items p.turn) (filter still_waits queue)
      → AllByRecursion (λ v. p.turn ≤ v.turn) (drop ahead served)
      → IsNextIn c items queue served start room (Served p.index)
  served-is ahead p is all behind =
      stands-next (Served p.index) (take ahead served) (take ahead served) p.index p.turn is
      (in-take ahead served p.index is.able.waiting is.able.here) all (served-late p.turn ahead is.first behind)

  none-behind : (ahead turn : ℕ) → ahead ≡ length served → AllByRecursion (λ v. turn ≤ v.turn) (drop ahead served)
  none-behind ahead turn all =
      subst (λ ws. AllByRecursion (λ v. turn ≤ v.turn) ws) (sym (drop_all ahead served (omega (arith, all)))) tt

  -- the sooner of both is next
  sooner-by : (ahead : ℕ) (a p : Able) (b : Bool) → nat_lt a.turn p.turn ≡ b
      → IsSoonest c items tiers queue queue start room a.index a.turn
      → AllByRecursion (λ v. a.turn ≤ v.turn) (drop ahead served)
      → IsSoonest c items tiers (take ahead served) (take ahead served) start room p.index p.turn
      → IsNextIn c items queue served start room (cond b (Queued a.index) (Served p.index))
  sooner-by ahead a p true less is around is' =
      let le : a.turn ≤ p.turn = grind (arith, nat_tests) in
      queued-is ahead a is around
      (all-sooner c start room items tiers a.turn p.turn (filter still_waits (take ahead served)) le is'.first)
  sooner-by ahead a p false more is around is' =
      let le : p.turn ≤ a.turn = grind (arith, nat_tests) in
      served-is ahead p is' (all-sooner c start room items tiers p.turn a.turn (filter still_waits queue) le is.first)
      (all-implied (λ v. a.turn ≤ v.turn) (λ v. p.turn ≤ v.turn) (drop ahead served) (λ v lt. omega (arith, lt, le))
      around)

  cond-some : (b : Bool) (x y : Standing) → cond b (Some x) (Some y) ≡ Some (cond b x y)
  cond-some true x y = refl
  cond-some false x y = refl

  -- of what was found of the queue, and of those served that come ahead of that
  pub sooner-next : (ahead : ℕ) (queued passed : Option Able) → Found queue queued → IsAheadOf served ahead queued
      → Found (take ahead served) passed
      → MatchOption (sooner_of queued passed) (NoneEligible c (map live items) start room)
      (IsNextIn c items queue served start room)
  sooner-next ahead None None found all found' =
      none-next c start room items tiers queue served has found
      (kept-parts (IsPassed c start room items) still_waits ahead served found'
      (subst (λ ws. AllByRecursion (IsPassed c start room items) ws) (sym (drop_all ahead served (omega
      (arith, all)))) tt))
  sooner-next ahead (Some a) None found around found' =
      queued-is ahead a found around (passed-late a.turn (filter still_waits (take ahead served)) found')
  sooner-next ahead None (Some p) found all found' =
      served-is ahead p found' (passed-late p.turn (filter still_waits queue) found) (none-behind ahead p.turn all)
  sooner-next ahead (Some a) (Some p) found around found' =
      subst (λ o. MatchOption o (NoneEligible c (map live items) start room) (IsNextIn c items queue served start room))
      (sym (cond-some (nat_lt a.turn p.turn) (Queued a.index) (Served p.index)))
      (sooner-by ahead a p (nat_lt a.turn p.turn) refl found around found')

  -- where none were served what was found of the queue is next
  pub alone-next : (queued : Option Able) → length served ≡ 0 → Found queue queued
      → MatchOption (sooner_of queued None) (NoneEligible c (map live items) start room)
      (IsNextIn c items queue served start room)
  alone-next queued none found =
      sooner-next 0 queued None found (ahead-none queued served none) tt
    where
      ahead-none : (queued : Option Able) (ws : List Waiting) → length ws ≡ 0 → IsAheadOf ws 0 queued
      ahead-none None [] none = refl
      ahead-none (Some a) [] none = tt
      ahead-none queued (v ∷ ws) none = absurd (omega (arith, none))

  -- where none was served it is the soonest of the queue, at its place
  pub next-alone : (index : ℕ) → length served ≡ 0
      → (turn : ℕ) × IsSoonest c items tiers queue queue start room index turn
      → IsNextIn c items queue served start room (Queued index)
  next-alone index none found = alone-next (Some (record { index = index; turn = found.0 })) none found.1
