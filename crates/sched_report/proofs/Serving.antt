-- What is kept of a life with one request or one grant more, and where its requests are superseded.
use Rattle.std.proofs.Common.{◌≡◌, ℕ, ◌+◌, ◌<◌, ◌≤◌, ◌&&◌, not, Bool, List, [], ◌∷◌, ◌++◌, map, length, refl, sym, ap}
use Rattle.std.proofs.Common.{◌∙◌, subst, append_assoc, inl, inr, cond, arith}
use Rattle.std.specs.Prelude.{is_none}
use Rattle.std.specs.List.{AllByRecursion}
use Rattle.std.specs.Prelude.{vec_len, vec_capacity}
use Rattle.std.specs.VecDeque.{deque_len}
use Rattle.std.proofs.lemmas.List.{append-nil, length_push, length-map, map-append}
use Rattle.std.proofs.lemmas.List.Elements.{filter_map-append}
use Rattle.std.proofs.lemmas.List.Sums.{sum_by_push, sum_by-append}
use Rattle.minislots.specs.declared.config.Config.{Config}
use Rattle.flow_book.specs.declared.flow.Grant.{Grant}
use Rattle.flow_book.specs.Flows.{bytes_of}
use Rattle.sched_report.specs.declared.service.Request.{Request}
use Rattle.sched_report.specs.declared.service.Service.{Service}
use Rattle.sched_report.specs.declared.service.Waiting.{Waiting}
use Rattle.sched_report.specs.declared.spread.Step.{Step}
use Rattle.sched_report.specs.Delays.{Claim, delay_until, delay_of, delays_of, replaced_of, unserved_of, AreDelays}
use Rattle.sched_report.specs.Steps.{AreStepsOf}
use Rattle.sched_report.specs.Served.{waits_with, with_grants, as_superseded, IsSettled, AreAscending}
use Rattle.sched_report.specs.Served.{IsServiceOf, IsWaitingBehind}
use Rattle.sched_report.proofs.Reaching.{AreUnreached, AreReachedBetween, waits-more, delays-unreached, delays-last}
use Rattle.sched_report.proofs.Reaching.{yes, no, ascending-push, ascending-behind, unreached-first}
use Rattle.sched_report.proofs.Unserved.{each_once, unserved-settled, unserved-waiting, replaced-waiting}
use Rattle.sched_report.proofs.Unserved.{delays-settled, replaced-settled, delays-superseded, replaced-superseded}

-- where the first that waits is not reached, none is
all_unreached : (granted last : ℕ) (ws : List Waiting) → IsWaitingBehind granted ws → AreAscending 0 last ws
    → AreUnreached granted ws
all_unreached granted last [] behind ascend = tt
all_unreached granted last (w ∷ ws) behind ascend = (behind, unreached-first granted w.upto last ws behind ascend.2)

-- those that waited and are reached now were reached in between
between : (before after : ℕ) (passed rest : List Waiting) → AreUnreached before (passed ++ rest)
    → AllByRecursion (λ w. w.upto ≤ after) passed → AreReachedBetween before after passed
between before after [] rest unreached reached = tt
between before after (w ∷ passed) rest unreached reached =
    ((unreached.0, reached.0), between before after passed rest unreached.1 reached.1)

-- one more that is not reached
unreached-push : (granted : ℕ) (ws : List Waiting) (w : Waiting) → AreUnreached granted ws → granted < w.upto
    → AreUnreached granted (ws ++ w ∷ [])
unreached-push granted [] w unreached past = (past, tt)
unreached-push granted (v ∷ ws) w unreached past = (unreached.0, unreached-push granted ws w unreached.1 past)

-- a request that is settled is so with more grants
settled-more : (grants more : List Grant) (m : Claim) → IsSettled grants m
    → IsSettled (grants ++ more) (with_grants more m)
settled-more grants more m settled =
    elim settled [
      | inl over ↦
          let same : m ≡ with_grants more m = sym (yes m.superseded m (record m { grants = m.grants ++ more }) over) in
          subst (IsSettled (grants ++ more)) same (inl over)
      | inr served ↦
          let seen : record m { grants = m.grants ++ more } ≡ with_grants more m =
          sym (no m.superseded m (record m { grants = m.grants ++ more }) served.stays) in
          subst (IsSettled (grants ++ more)) seen (inr (record {
            stays = served.stays;
            sees = ap (λ (gs : List Grant). gs ++ more) served.sees;
            some = served.some;
            within = omega (arith, served.within, sum_by-append (λ (g : Grant). g.bytes) grants more);
          }))
    ]

all_settled-more : (grants more : List Grant) (ms : List Claim) → AllByRecursion (IsSettled grants) ms
    → AllByRecursion (IsSettled (grants ++ more)) (map (with_grants more) ms)
all_settled-more grants more [] settled = tt
all_settled-more grants more (m ∷ ms) settled =
    (settled-more grants more m settled.0, all_settled-more grants more ms settled.1)

-- and so is one that waited and is reached
reached_settled : (grants : List Grant) (before : ℕ) (ws : List Waiting) → AreReachedBetween before (bytes_of grants) ws
    → AllByRecursion (IsSettled grants) (map (waits_with grants) ws)
reached_settled grants before [] reached = tt
reached_settled grants before (w ∷ ws) reached = (
  inr (record { stays = refl; sees = refl; some = omega (arith, reached.0.0); within = reached.0.1 }),
  reached_settled grants before ws reached.1,
)

all_settled-append : (grants : List Grant) (ms ns : List Claim) → AllByRecursion (IsSettled grants) ms
    → AllByRecursion (IsSettled grants) ns → AllByRecursion (IsSettled grants) (ms ++ ns)
all_settled-append grants [] ns first second = second
all_settled-append grants (m ∷ ms) ns first second = (first.0, all_settled-append grants ms ns first.1 second)

-- superseded ones are settled
superseded_settled : (grants : List Grant) (ms : List Claim)
    → AllByRecursion (IsSettled grants) (map as_superseded ms)
superseded_settled grants [] = tt
superseded_settled grants (m ∷ ms) = (inl refl, superseded_settled grants ms)

module _ (c : Config) (ms ns : List Claim) where
  abbrev replaced : Claim → Bool
  replaced m = m.superseded && is_none (delay_of c m)

  abbrev unserved : Claim → Bool
  unserved m = not m.superseded && is_none (delay_of c m)

  pub delays-append : delays_of c (ms ++ ns) ≡ delays_of c ms ++ delays_of c ns
  delays-append = filter_map-append (delay_of c) ms ns

  replaced-append : replaced_of c (ms ++ ns) ≡ replaced_of c ms + replaced_of c ns
  replaced-append = sum_by-append (λ (m : Claim). cond (replaced m) 1 0) ms ns

  unserved-append : unserved_of c (ms ++ ns) ≡ unserved_of c ms + unserved_of c ns
  unserved-append = sum_by-append (λ (m : Claim). cond (unserved m) 1 0) ms ns

module _ (c : Config) (s : Service) (claims : List Claim) (bytes : ℕ) (grants : List Grant)
    (is : IsServiceOf c s claims bytes grants) where
  abbrev waiting : List Claim
  waiting = map (waits_with grants) s.waiting.items

  unreached : AreUnreached (bytes_of grants) s.waiting.items
  unreached = subst (λ n. AreUnreached n s.waiting.items) is.granted is.unreached

  -- the delays are those of the requests that are settled
  delays-split : delays_of c claims ≡ delays_of c is.settled
  delays-split =
      ap (delays_of c) is.split ∙ delays-append c is.settled waiting
      ∙ ap (λ (ds : List ℕ). delays_of c is.settled ++ ds) (delays-unreached c grants s.waiting.items unreached)
      ∙ append-nil (delays_of c is.settled)

  -- and of them were those that were replaced
  replaced-split : replaced_of c claims ≡ replaced_of c is.settled
  replaced-split =
      omega (
        arith,
        ap (replaced_of c) is.split,
        replaced-append c is.settled waiting,
        replaced-waiting c grants s.waiting.items,
      )

  -- those that wait are all that were neither served nor replaced
  pub unserved-kept : unserved_of c claims ≡ length s.waiting.items
  unserved-kept =
      omega (
        arith,
        ap (unserved_of c) is.split,
        unserved-append c is.settled waiting,
        unserved-settled c grants is.settled is.are_settled,
        unserved-waiting c grants s.waiting.items unreached,
      )

  -- no more were served, were replaced and wait than there are
  pub few_served : s.delays.served + s.replaced + length s.waiting.items ≤ length claims
  few_served = omega (arith, is.delays.served, is.replaced, unserved-kept, each_once c claims)

module _ (c : Config) (s new : Service) (claims : List Claim) (bytes : ℕ) (grants : List Grant)
    (is : IsServiceOf c s claims bytes grants) where
  -- with one request more, which waits
  pub IsServiceOf-asked : (r : Request) → 0 < r.bytes → new.asks ≡ s.asks + 1 → new.asked ≡ s.asked + r.bytes
      → new.granted ≡ s.granted → new.replaced ≡ s.replaced → new.delays ≡ s.delays
      → new.waiting.items ≡ s.waiting.items ++ record { upto = s.asked + r.bytes; heard = r.heard } ∷ []
      → new.spread.steps.items ≡ s.spread.steps.items
      → vec_len new.spread.steps + deque_len new.waiting ≤ vec_capacity new.spread.steps
      → IsServiceOf c new
      (claims ++ waits_with grants (record { upto = bytes + r.bytes; heard = r.heard }) ∷ []) (bytes + r.bytes) grants
  IsServiceOf-asked r some asks asked granted replaced delays waiting steps room =
      let w : Waiting = record { upto = s.asked + r.bytes; heard = r.heard } in
      let m : Claim = waits_with grants (record { upto = bytes + r.bytes; heard = r.heard }) in
      let here : m ≡ waits_with grants w =
      ap (λ (n : ℕ). waits_with grants (record { upto = n + r.bytes; heard = r.heard })) (sym is.asked) in
      let past : bytes_of grants < m.upto = omega (arith, is.granted, is.asked, is.within, some) in
      let alone : delays_of c (m ∷ []) ≡ [] =
      delays-unreached c grants (record { upto = bytes + r.bytes; heard = r.heard } ∷ []) (past, tt) in
      let same : delays_of c (claims ++ m ∷ []) ≡ delays_of c claims =
      delays-append c claims (m ∷ []) ∙ ap (λ (ds : List ℕ). delays_of c claims ++ ds) alone
      ∙ append-nil (delays_of c claims) in
      record {
        asks = asks ∙ omega (arith, is.asks, length_push claims m);
        asked = asked ∙ ap (λ (n : ℕ). n + r.bytes) is.asked;
        granted = granted ∙ is.granted;
        within = omega (arith, granted, asked, is.within);
        delays = subst (AreDelays new.delays) (sym same)
            (subst (λ d. AreDelays d (delays_of c claims)) (sym delays) is.delays);
        replaced = omega (
          arith,
          replaced,
          is.replaced,
          replaced-append c claims (m ∷ []),
          replaced-waiting c grants (record { upto = bytes + r.bytes; heard = r.heard } ∷ []),
        );
        settled = is.settled;
        split = ap (λ (n : Claim). claims ++ n ∷ []) here
            ∙ ap (λ (ms : List Claim). ms ++ waits_with grants w ∷ []) is.split
            ∙ append_assoc is.settled (map (waits_with grants) s.waiting.items) (waits_with grants w ∷ [])
            ∙ ap (λ (ms : List Claim). is.settled ++ ms)
            (sym (map-append (waits_with grants) s.waiting.items (w ∷ []))
            ∙ ap (map (waits_with grants)) (sym waiting));
        are_settled = is.are_settled;
        unreached = subst (AreUnreached new.granted) (sym waiting)
            (subst (λ n. AreUnreached n (s.waiting.items ++ w ∷ [])) (sym granted)
            (unreached-push s.granted s.waiting.items w is.unreached (omega (arith, is.within, some))));
        ascending = subst (AreAscending 0 new.asked) (sym waiting)
            (subst (λ n. AreAscending 0 n (s.waiting.items ++ w ∷ [])) (sym asked)
            (ascending-push 0 s.asked s.waiting.items w (omega arith) (omega arith) is.ascending));
        steps = subst (AreStepsOf new.spread.steps.items) (sym same)
            (subst (λ (ss : List Step). AreStepsOf ss (delays_of c claims)) (sym steps) is.steps);
        room = room;
      }

  -- with a request that supersedes those before, before it is counted
  pub IsServiceOf-superseded : new.asks ≡ s.asks → new.asked ≡ s.granted → new.granted ≡ s.granted
      → new.replaced ≡ s.replaced + length s.waiting.items → new.delays ≡ s.delays → new.waiting.items ≡ []
      → new.spread.steps.items ≡ s.spread.steps.items
      → vec_len new.spread.steps + deque_len new.waiting ≤ vec_capacity new.spread.steps
      → IsServiceOf c new (map as_superseded claims) s.granted grants
  IsServiceOf-superseded asks asked granted replaced delays waiting steps room =
      let same : delays_of c (map as_superseded claims) ≡ delays_of c claims = delays-superseded c claims in
      record {
        asks = asks ∙ is.asks ∙ sym (length-map claims as_superseded);
        asked = asked;
        granted = granted ∙ is.granted;
        within = omega (arith, asked, granted);
        delays = subst (AreDelays new.delays) (sym same)
            (subst (λ d. AreDelays d (delays_of c claims)) (sym delays) is.delays);
        replaced = omega (
          arith,
          replaced,
          is.replaced,
          unserved-kept c s claims bytes grants is,
          replaced-superseded c claims,
        );
        settled = map as_superseded claims;
        split = sym (ap (λ (ws : List Waiting). map as_superseded claims ++ map (waits_with grants) ws) waiting
            ∙ append-nil (map as_superseded claims));
        are_settled = superseded_settled grants claims;
        unreached = subst (AreUnreached new.granted) (sym waiting) tt;
        ascending = subst (AreAscending 0 new.asked) (sym waiting) tt;
        steps = subst (AreStepsOf new.spread.steps.items) (sym same)
            (subst (λ (ss : List Step). AreStepsOf ss (delays_of c claims)) (sym steps) is.steps);
        room = room;
      }

  -- with one grant more, which serves the first that wait
  pub IsServiceOf-granted : (g : Grant) (passed : List Waiting) → new.asks ≡ s.asks → new.asked ≡ s.asked
      → new.granted ≡ s.granted + g.bytes → new.replaced ≡ s.replaced → s.granted + g.bytes ≤ s.asked
      → s.waiting.items ≡ passed ++ new.waiting.items → AllByRecursion (λ w. w.upto ≤ new.granted) passed
      → IsWaitingBehind new.granted new.waiting.items
      → AreDelays new.delays (delays_of c claims ++ map (λ w. delay_until c w.heard g) passed)
      → AreStepsOf new.spread.steps.items (delays_of c claims ++ map (λ w. delay_until c w.heard g) passed)
      → vec_len new.spread.steps + deque_len new.waiting ≤ vec_capacity new.spread.steps
      → IsServiceOf c new (map (with_grants (g ∷ [])) claims) bytes (grants ++ g ∷ [])
  IsServiceOf-granted g passed asks asked granted replaced within passes reached behind delays steps room =
      let left : List Waiting = new.waiting.items in
      let more : List Grant = grants ++ g ∷ [] in
      let old : List Claim = map (with_grants (g ∷ [])) is.settled in
      let sum : bytes_of more ≡ bytes_of grants + g.bytes = sum_by_push (λ (g : Grant). g.bytes) grants g in
      let reaches : new.granted ≡ bytes_of more = omega (arith, granted, is.granted, sum) in
      let now : AreReachedBetween s.granted new.granted passed =
      between s.granted new.granted passed left (subst (AreUnreached s.granted) passes is.unreached) reached in
      let ascend : AreAscending 0 s.asked left =
      ascending-behind 0 s.asked passed left (subst (AreAscending 0 s.asked) passes is.ascending) in
      let unreached : AreUnreached new.granted left = all_unreached new.granted s.asked left behind ascend in
      let split : map (with_grants (g ∷ [])) claims
      ≡ (old ++ map (waits_with more) passed) ++ map (waits_with more) left =
      ap (map (with_grants (g ∷ []))) is.split
      ∙ map-append (with_grants (g ∷ [])) is.settled (map (waits_with grants) s.waiting.items)
      ∙ ap (λ (ms : List Claim). old ++ ms)
      (waits-more grants (g ∷ []) s.waiting.items ∙ ap (map (waits_with more)) passes
      ∙ map-append (waits_with more) passed left)
      ∙ sym (append_assoc old (map (waits_with more) passed) (map (waits_with more) left)) in
      let settled : AllByRecursion (IsSettled more) (old ++ map (waits_with more) passed) =
      all_settled-append more old (map (waits_with more) passed)
      (all_settled-more grants (g ∷ []) is.settled is.are_settled)
      (reached_settled more s.granted passed (subst (λ n. AreReachedBetween s.granted n passed) reaches now)) in
      let before : delays_of c old ≡ delays_of c claims =
      delays-settled c grants (g ∷ []) is.settled is.are_settled
      ∙ sym (delays-split c s claims bytes grants is) in
      let last : delays_of c (map (waits_with more) passed) ≡ map (λ w. delay_until c w.heard g) passed =
      delays-last c grants g passed
      (subst (λ n. AreReachedBetween n (n + g.bytes) passed) is.granted
      (subst (λ n. AreReachedBetween s.granted n passed) granted now)) in
      let none : delays_of c (map (waits_with more) left) ≡ [] =
      delays-unreached c more left (subst (λ n. AreUnreached n left) reaches unreached) in
      let same : delays_of c (map (with_grants (g ∷ [])) claims)
      ≡ delays_of c claims ++ map (λ w. delay_until c w.heard g) passed =
      ap (delays_of c) split
      ∙ delays-append c (old ++ map (waits_with more) passed) (map (waits_with more) left)
      ∙ ap (λ (ds : List ℕ). delays_of c (old ++ map (waits_with more) passed) ++ ds) none
      ∙ append-nil (delays_of c (old ++ map (waits_with more) passed))
      ∙ delays-append c old (map (waits_with more) passed)
      ∙ ap (λ (ds : List ℕ). ds ++ delays_of c (map (waits_with more) passed)) before
      ∙ ap (λ (ds : List ℕ). delays_of c claims ++ ds) last in
      record {
        asks = asks ∙ is.asks ∙ sym (length-map claims (with_grants (g ∷ [])));
        asked = asked ∙ is.asked;
        granted = reaches;
        within = omega (arith, granted, asked, within);
        delays = subst (AreDelays new.delays) (sym same) delays;
        replaced = omega (
          arith,
          replaced,
          is.replaced,
          replaced-split c s claims bytes grants is,
          replaced-settled c grants (g ∷ []) is.settled is.are_settled,
          ap (replaced_of c) split,
          replaced-append c (old ++ map (waits_with more) passed) (map (waits_with more) left),
          replaced-append c old (map (waits_with more) passed),
          replaced-waiting c more passed,
          replaced-waiting c more left,
        );
        settled = old ++ map (waits_with more) passed;
        split = split;
        are_settled = settled;
        unreached = unreached;
        ascending = subst (λ n. AreAscending 0 n left) (sym asked) ascend;
        steps = subst (AreStepsOf new.spread.steps.items) (sym same) steps;
        room = room;
      }

-- what is kept does not depend on room
pub IsServiceOf-same : (c : Config) (s new : Service) (claims : List Claim) (bytes : ℕ) (grants : List Grant)
    → new.asks ≡ s.asks → new.asked ≡ s.asked → new.granted ≡ s.granted → new.replaced ≡ s.replaced
    → new.delays ≡ s.delays
    → new.waiting.items ≡ s.waiting.items → new.spread.steps.items ≡ s.spread.steps.items
    → vec_len new.spread.steps + deque_len new.waiting ≤ vec_capacity new.spread.steps
    → IsServiceOf c s claims bytes grants → IsServiceOf c new claims bytes grants
IsServiceOf-same c s new claims bytes grants asks asked granted replaced delays waiting steps room is = record {
  asks = asks ∙ is.asks;
  asked = asked ∙ is.asked;
  granted = granted ∙ is.granted;
  within = omega (arith, granted, asked, is.within);
  delays = subst (λ d. AreDelays d (delays_of c claims)) (sym delays) is.delays;
  replaced = replaced ∙ is.replaced;
  settled = is.settled;
  split = is.split ∙ ap (λ (ws : List Waiting). is.settled ++ map (waits_with grants) ws) (sym waiting);
  are_settled = is.are_settled;
  unreached = subst (AreUnreached new.granted) (sym waiting)
      (subst (λ n. AreUnreached n s.waiting.items) (sym granted) is.unreached);
  ascending = subst (AreAscending 0 new.asked) (sym waiting)
      (subst (λ n. AreAscending 0 n s.waiting.items) (sym asked) is.ascending);
  steps = subst (λ (ss : List Step). AreStepsOf ss (delays_of c claims)) (sym steps) is.steps;
  room = room;
}
