-- The queue whose tiers are numbered one by one.
use Rattle.std.proofs.Common.{◌≡◌, ◌≢◌, refl, sym, ap, ◌∙◌, subst, ℕ, zero, suc, ◌+◌, ◌<◌, ◌≤◌, ◌==◌, Bool, true, false}
use Rattle.std.proofs.Common.{List, [], ◌∷◌, ◌++◌, length, take, slice_get, get_or, set, Some, cond, None, inl, inr, arith}
use Rattle.std.specs.List.{AllByRecursion, AllZip}
use Rattle.std.proofs.lemmas.Bool.Decides.{nat_tests}
use Rattle.std.proofs.lemmas.List.{take_all, take_more, take_more_set, length_push}
use Rattle.std.proofs.lemmas.List.Elements.{All-from_recursion}
use Rattle.std.proofs.lemmas.Option.{slice_get_past}
use Rattle.flow_book.specs.declared.flow.Flow.{Flow}
use Rattle.flow_book.specs.declared.waiting.Waiting.{Waiting}
use Rattle.flow_book.specs.declared.tiers.Tier.{Tier}
use Rattle.flow_book.specs.declared.tiers.TheConstants.{NO_TIER}
use Rattle.flow_book.specs.Queue.{IsAt, IsIn, IsQueue}
use Rattle.flow_book.specs.Tiers.{HasTier, IsRenumbered}
use Rattle.sched_calls.specs.Sids.{AscendBy}
use Rattle.flow_book.specs.Entry.{is_plain}
use Rattle.flow_book.proofs.ByTier.{told}
use Rattle.flow_book.proofs.Queues.{tier-at}
use Rattle.flow_book.proofs.StillWaiting.{all-joined}

-- one that has a number has the tier of the flow at its place
abbrev HasNumber : List Flow → List Tier → Waiting → Type 0
HasNumber items tiers w = w.tier ≢ NO_TIER → (f : Flow) → slice_get items w.place ≡ Some f
    → slice_get tiers w.tier ≡ Some (told w.place f)

module _ {X : Type 0} where
  -- what is there stays where one more is behind it
  slice-push : (xs : List X) (k : ℕ) (x y : X) → slice_get xs k ≡ Some x → slice_get (xs ++ y ∷ []) k ≡ Some x
  slice-push [] k x y is = absurd (cc)
  slice-push (z ∷ xs) zero x y is = is
  slice-push (z ∷ xs) (suc k) x y is = slice-push xs k x y is

  slice-last : (xs : List X) (y : X) → slice_get (xs ++ y ∷ []) (length xs) ≡ Some y
  slice-last [] y = refl
  slice-last (z ∷ xs) y = slice-last xs y

  -- place by place one more step is made at a place
  zip-set : (R : X → X → Type 0) (xs ys : List X) (i : ℕ) (e d : X) → i < length ys → AllZip R xs ys
      → ((x : X) → R x (get_or ys i d) → R x e) → AllZip R xs (set ys i e)
  zip-set R [] [] i e d lt all step = absurd (omega arith)
  zip-set R [] (y ∷ ys) i e d lt all step = absurd all
  zip-set R (x ∷ xs) [] i e d lt all step = absurd all
  zip-set R (x ∷ xs) (y ∷ ys) zero e d lt all step = (step x all.0, all.1)
  zip-set R (x ∷ xs) (y ∷ ys) (suc i) e d lt all step = (all.0, zip-set R xs ys i e d (omega arith) all.1 step)

  zip-all : (R : X → X → Type 0) (P Q : X → Type 0) (xs ys : List X) → ((x y : X) → R x y → P x → Q y) → AllZip R xs ys
      → AllByRecursion P xs → AllByRecursion Q ys
  zip-all R P Q [] [] step zip all = tt
  zip-all R P Q [] (y ∷ ys) step zip all = absurd zip
  zip-all R P Q (x ∷ xs) [] step zip all = absurd zip
  zip-all R P Q (x ∷ xs) (y ∷ ys) step zip all = (step x y zip.0 all.0, zip-all R P Q xs ys step zip.1 all.1)

renumbered-same : (ws : List Waiting) → AllZip IsRenumbered ws ws
renumbered-same [] = tt
renumbered-same (w ∷ ws) =
    (record { turn = refl; wants = refl; place = refl; sustained = refl; tier = refl }, renumbered-same ws)

-- one that has a number gets another
renumbered : (v w : Waiting) (n : ℕ) → (w.tier == NO_TIER) ≡ false → n < NO_TIER → IsRenumbered v w
    → IsRenumbered v (record w { tier = n })
renumbered v w n has low is =
    let fails : (n == NO_TIER) ≡ false = grind (arith, nat_tests) in
    record {
      turn = is.turn;
      wants = is.wants;
      place = is.place;
      sustained = is.sustained;
      tier = fails ∙ sym has ∙ is.tier;
    }

ascends : (vs ws : List Waiting) → AllZip IsRenumbered vs ws → AscendBy (λ v. v.turn) vs → AscendBy (λ w. w.turn) ws
ascends [] [] zip up = tt
ascends [] (w ∷ ws) zip up = absurd zip
ascends (v ∷ vs) [] zip up = absurd zip
ascends (v ∷ vs) (w ∷ ws) zip up = (
  zip-all IsRenumbered (λ x. v.turn < x.turn) (λ y. w.turn < y.turn) vs ws
      (λ x y is lt. omega (arith, lt, is.turn, zip.0.turn)) zip.1 up.0,
  ascends vs ws zip.1 up.1,
)

in-renumbered : (place : ℕ) (vs ws : List Waiting) → AllZip IsRenumbered vs ws → IsIn place vs → IsIn place ws
in-renumbered place [] ws zip here = absurd here
in-renumbered place (v ∷ vs) [] zip here = absurd zip
in-renumbered place (v ∷ vs) (w ∷ ws) zip (inl here) = inl (zip.0.place ∙ here)
in-renumbered place (v ∷ vs) (w ∷ ws) zip (inr rest) = inr (in-renumbered place vs ws zip.1 rest)

module _ (items : List Flow) where
  -- it stands where it stood
  at-renumbered : (v w : Waiting) → IsRenumbered v w → IsAt items v → IsAt items w
  at-renumbered v w is at = rw (is.place, is.turn, is.wants, is.sustained, is.tier) at

  -- and so do all
  queue-renumbered : (vs ws : List Waiting) → AllZip IsRenumbered vs ws → IsQueue items vs → IsQueue items ws
  queue-renumbered vs ws zip is = record {
    ascending = ascends vs ws zip is.ascending;
    each = zip-all IsRenumbered (IsAt items) (IsAt items) vs ws at-renumbered zip is.each;
    among = zip-all IsRenumbered (λ v. Unit {0}) (λ w. Unit {0}) vs ws (λ v w r any. any) zip is.among;
    whole = λ place f found any waits. in-renumbered place vs ws zip (is.whole place f found any waits);
  }

  -- with one tier more those before it keep theirs
  number-more : (tiers : List Tier) (t : Tier) (w : Waiting) → HasNumber items tiers w
      → HasNumber items (tiers ++ t ∷ []) w
  number-more tiers t w has = λ some f at.
      slice-push tiers w.tier (told w.place f) t (has some f at)

  all-more : (tiers : List Tier) (t : Tier) (ws : List Waiting) → AllByRecursion (HasNumber items tiers) ws
      → AllByRecursion (HasNumber items (tiers ++ t ∷ [])) ws
  all-more tiers t [] all = tt
  all-more tiers t (w ∷ ws) all = (number-more tiers t w all.0, all-more tiers t ws all.1)

  -- and it is that of the one with its number
  number-last : (tiers : List Tier) (t : Tier) (w : Waiting) → w.tier ≡ length tiers
      → ((f : Flow) → slice_get items w.place ≡ Some f → t ≡ told w.place f) → HasNumber items (tiers ++ t ∷ []) w
  number-last tiers t w last is = λ some f at.
      ap (slice_get (tiers ++ t ∷ [])) last ∙ slice-last tiers t ∙ ap Some (is f at)

  tier-by : (tiers : List Tier) (w : Waiting) (f : Flow) (b : Bool) → (w.tier == NO_TIER) ≡ b → length tiers ≤ NO_TIER
      → HasNumber items tiers w → slice_get items w.place ≡ Some f
      → slice_get tiers w.tier ≡ cond b None (Some (told w.place f))
  tier-by tiers w f true none few has at =
      let is : w.tier ≡ NO_TIER = grind (arith, nat_tests) in
      slice_get_past tiers w.tier (omega (arith, is, few))
  tier-by tiers w f false some few has at =
      let is : w.tier ≢ NO_TIER = λ same. absurd (grind (arith, nat_tests)) in
      has is f at

  -- so each has its tier
  tiers-numbered : (tiers : List Tier) (ws : List Waiting) → length tiers ≤ NO_TIER → AllByRecursion (IsAt items) ws
      → AllByRecursion (HasNumber items tiers) ws → AllByRecursion (HasTier items tiers) ws
  tiers-numbered tiers [] few at all = tt
  tiers-numbered tiers (w ∷ ws) few at all = (
    (λ f found. tier-by tiers w f (is_plain f) (sym (tier-at items w f at.0 found)) few all.0 found),
    tiers-numbered tiers ws few at.1 all.1,
  )

-- Those of a queue before a place have the tiers of their flows, and the others are as they were
pub record IsNumbered (items : List Flow) (old queue : List Waiting) (tiers : List Tier) (i : ℕ) : Type 0 where
  pub same : AllZip IsRenumbered old queue
  pub few : length tiers ≤ NO_TIER
  pub tiered : AllByRecursion (HasNumber items tiers) (take i queue)

pub numbered-none : (items : List Flow) (queue : List Waiting) → IsNumbered items queue queue [] 0
numbered-none items queue = record { same = renumbered-same queue; few = omega arith; tiered = tt }

module _ (items : List Flow) (old queue : List Waiting) (tiers : List Tier) (i : ℕ) (w : Waiting) (lt : i < length queue)
    (here : w ≡ get_or queue i w) (is : IsNumbered items old queue tiers i) where
  -- it stands at its place
  pub numbered-at : IsQueue items old → IsAt items w
  numbered-at order =
      let each = (queue-renumbered items old queue is.same order).each in
      subst (IsAt items) (sym here) (All-from_recursion (IsAt items) queue each i w lt)

  -- one that has no tier stays as it is
  pub numbered-past : w.tier ≡ NO_TIER → IsNumbered items old queue tiers (i + 1)
  numbered-past none = record {
    same = is.same;
    few = is.few;
    tiered = subst (AllByRecursion (HasNumber items tiers))
        (sym (take_more queue i w lt ∙ ap (λ v. take i queue ++ v ∷ []) (sym here)))
        (all-joined (HasNumber items tiers) (take i queue) (w ∷ []) is.tiered ((λ some. absurd (some none)), tt));
  }

  -- and another gets the number of the tier that is pushed
  pub numbered-more : (w.tier ≢ NO_TIER) → (n : ℕ) → n ≡ length tiers → n < NO_TIER → (t : Tier)
      → ((f : Flow) → slice_get items w.place ≡ Some f → t ≡ told w.place f)
      → IsNumbered items old (set queue i (record w { tier = n })) (tiers ++ t ∷ []) (i + 1)
  numbered-more some n last low t is-told =
      let new = record w { tier = n } in
      let P = HasNumber items (tiers ++ t ∷ []) in
      let fails : (w.tier == NO_TIER) ≡ false = grind (arith, nat_tests) in
      record {
        same = zip-set IsRenumbered old queue i new w lt is.same
            (λ v r. renumbered v w n fails low (subst (IsRenumbered v) (sym here) r));
        few = omega (arith, length_push tiers t, last, low);
        tiered = subst (AllByRecursion P) (sym (take_more_set queue i new lt))
            (all-joined P (take i queue) (new ∷ []) (all-more items tiers t (take i queue) is.tiered)
            (number-last items tiers t new last is-told, tt));
      }

-- at the end all have theirs
pub numbered-all : (items : List Flow) (old queue : List Waiting) (tiers : List Tier) (i : ℕ) → length queue ≤ i
    → IsQueue items old → IsNumbered items old queue tiers i
    → IsQueue items queue × AllByRecursion (HasTier items tiers) queue
numbered-all items old queue tiers i past order is =
    let new = queue-renumbered items old queue is.same order in (
      new,
      tiers-numbered items tiers queue is.few new.each
          (subst (AllByRecursion (HasNumber items tiers)) (take_all i queue past) is.tiered),
    )
