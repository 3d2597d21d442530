-- What is known of a flow with its carried grant.
use Rattle.std.proofs.Common.{◌≡◌, refl, sym, ap, ◌∙◌, subst, ℕ, ◌+◌, ◌-◌, ◌*◌, ◌<◌, ◌≤◌, List, [], ◌∷◌, ◌++◌, map, length, take, get_or}
use Rattle.std.proofs.Common.{Option, None, Some, arith}
use Rattle.std.specs.Option.{IfNone}
use Rattle.std.specs.List.{AllByRecursion, insert}
use Rattle.std.proofs.lemmas.List.{take_more, take_all, map-append}
use Rattle.std.proofs.lemmas.List.Edits.{insert_end}
use Rattle.std.proofs.lemmas.Nat.{mul-le}
use Rattle.std.proofs.lemmas.Bool.Decides.{nat_tests}
use Rattle.minislots.specs.declared.config.Config.{Config}
use Rattle.sched_calls.specs.declared.state.FlowState.{FlowState}
use Rattle.sched_calls.specs.Sids.{AscendBy}
use Rattle.flow_book.specs.declared.flow.Flow.{Flow}
use Rattle.flow_book.specs.Flows.{LiveFlow, HaveStartedBy, AreMadeBy, bytes_of, granted}
use Rattle.flow_book.specs.Choice.{last_start, last_slot}
use Rattle.flow_book.specs.Bucket.{BucketView, StandsFor, IsSettled, level_of}
use Rattle.flow_book.specs.Limits.{ChargesAtGrants, AreLimitsOf, AreSettled}
use Rattle.flow_book.specs.Entry.{live, top_rank, IsTurn, IsSoundFlow, KeepsSums, IsBook}
use Rattle.sched_calls.specs.FlowSpec.{rank_of}
use Rattle.flow_book.specs.Carried.{carried_grants, carried_charges, carried_flow, MayBeCarried}
use Rattle.flow_book.proofs.Buckets.{spent-stands, settled-spent}
use Rattle.flow_book.proofs.Order.{all-push}
use Rattle.flow_book.proofs.States.{level-least}

-- all that it was granted
pub carried-bytes : (last : Option ℕ) (n : ℕ) → IfNone last (n ≡ 0) → bytes_of (carried_grants last n) ≡ n
carried-bytes None n none = sym none
carried-bytes (Some start) n none = omega arith

-- its last grant starts where the carried one does
pub carried-last : (last : Option ℕ) (n : ℕ) → last_start (carried_grants last n) ≡ last
carried-last None n = refl
carried-last (Some start) n = refl

-- no grant starts behind that
pub carried-started : (last : Option ℕ) (n : ℕ) → HaveStartedBy (last_slot (carried_grants last n)) (carried_grants last n)
carried-started None n = tt
carried-started (Some start) n = (omega arith, tt)

-- what is charged is made there
carried-made : (last : Option ℕ) (n burst : ℕ) (level : Option ℕ) (slot : ℕ) → HaveStartedBy slot (carried_grants last n)
    → AreMadeBy slot (carried_charges last burst level)
carried-made None n burst level slot started = tt
carried-made (Some start) n burst None slot started = tt
carried-made (Some start) n burst (Some units) slot started = (started.0, tt)

pub carried-charges : (f : FlowState) → ChargesAtGrants (carried_flow f)
carried-charges f = record {
  sustained = λ slot started. carried-made f.last f.granted _ f.sustained slot started;
  peak = λ slot started. carried-made f.last f.granted _ f.peak slot started;
  reserved = λ slot started. carried-made f.last f.granted _ f.reserved slot started;
}

module _ (c : Config) (rate burst : ℕ) (b : BucketView) (stands : StandsFor c rate burst b []) (start level : ℕ)
    (may : (0 < rate) × (level ≤ 1280000 * burst)) where
  -- with the level at its start
  abbrev pub leveled : BucketView
  leveled = record b { level = level; since = start }

  -- the part of the burst that is spent
  abbrev spent : ℕ
  spent = 1280000 * burst - level

  whole : level_of b start ≡ 1280000 * burst
  whole = level-least c rate burst start [] (level_of b start) (stands.level may.0 start tt)

  left : level_of b start - spent ≡ level
  left = omega (arith, whole, may.1)

  -- a bucket that stands for no grants stands for the carried grant
  pub leveled-stands : StandsFor c rate burst leveled (carried_charges (Some start) burst (Some level))
  leveled-stands =
      rw left at (spent-stands c rate burst b [] stands start spent tt (omega (arith, whole)))

  -- and is settled by it
  pub leveled-settled : IsSettled leveled (carried_charges (Some start) burst (Some level))
  leveled-settled =
      let some = mul-le 1 rate c.ticks rate stands.ticks (omega arith) in
      let full : b.full ≡ 1280000 * burst = let limited = may.0 in grind (arith, nat_tests, stands.full) in
      settled-spent b [] start spent level (omega (arith, some, may.0, stands.per_slot)) (omega (arith, full, may.1)) tt

-- a flow that keeps its sums and was granted no more than it asked is sound
pub sound-sums : (c : Config) (f : Flow) → KeepsSums c f → granted (live f) ≤ f.asked → IsSoundFlow c (live f)
sound-sums c f keeps within = record {
  within = within;
  kept = keeps.limits.sustained.kept;
  peak_kept = keeps.limits.peak.kept;
  reserved_kept = keeps.limits.reserved.kept;
}

-- the carried flow was
pub carried-within : (f : FlowState) → MayBeCarried f → granted (carried_flow f) ≤ f.asked
carried-within f may = omega (arith, carried-bytes f.last f.granted may.none, may.within)

above : (sid : ℕ) (flows : List FlowState) → AllByRecursion (λ f. sid < f.sid) flows
    → AllByRecursion (λ f. sid < f.sid) (map carried_flow flows)
above sid [] all = tt
above sid (f ∷ flows) all = (all.0, above sid flows all.1)

-- the carried flows are in the same order
pub carried-ascend : (flows : List FlowState) → AscendBy (λ f. f.sid) flows
    → AscendBy (λ f. f.sid) (map carried_flow flows)
carried-ascend [] up = tt
carried-ascend (f ∷ flows) up = (above f.sid flows up.0, carried-ascend flows up.1)

-- what it keeps is that of the carried flow
pub carried-sums : (c : Config) (s : FlowState) (e : Flow) → MayBeCarried s → live e ≡ carried_flow s
    → e.granted ≡ s.granted → rank_of s.spec ≤ 255 → IsTurn (top_rank s.spec) s.last s.sid e.turn
    → AreLimitsOf c (carried_flow s) e.limits → AreSettled (carried_flow s) e.limits → KeepsSums c e
carried-sums c s e may shows bytes small turn stand settled =
    let grants : e.grants.items ≡ carried_grants s.last s.granted = ap (λ (f : LiveFlow). f.grants) shows in
    let spec : e.spec ≡ s.spec = ap (λ (f : LiveFlow). f.spec) shows in
    let sid : e.sid ≡ s.sid = ap (λ (f : LiveFlow). f.sid) shows in
    record {
      granted = bytes ∙ sym (carried-bytes s.last s.granted may.none) ∙ ap bytes_of (sym grants);
      turn = rw (spec, sid, grants, carried-last s.last s.granted) (small, turn);
      last = rw grants (carried-started s.last s.granted);
      charges = rw shows (carried-charges s);
      limits = rw shows stand;
      settled = rw shows settled;
    }

-- The flows are the first so many of a state, sound and with what they keep
pub record AreCarried (c : Config) (states : List FlowState) (i : ℕ) (flows : List Flow) : Type 0 where
  pub shown : map live flows ≡ map carried_flow (take i states)
  pub sound : AllByRecursion (IsSoundFlow c) (map live flows)
  pub sums : AllByRecursion (KeepsSums c) flows

-- and one more
pub carried-more : (c : Config) (states : List FlowState) (i place : ℕ) (flows : List Flow) (f : FlowState) (e : Flow)
    → i < length states → f ≡ get_or states i f → place ≡ length flows → MayBeCarried f → live e ≡ carried_flow f
    → KeepsSums c e → AreCarried c states i flows → AreCarried c states (i + 1) (insert flows place e)
carried-more c states i place flows f e lt is last may shows keeps are =
    let more : insert flows place e ≡ flows ++ e ∷ [] = ap (λ k. insert flows k e) last ∙ insert_end flows e in
    let within : granted (live e) ≤ e.asked =
    subst (λ (g : LiveFlow). granted g ≤ g.asked) (sym shows) (carried-within f may) in
    let first : take (i + 1) states ≡ take i states ++ f ∷ [] =
    take_more states i f lt ∙ ap (λ g. take i states ++ g ∷ []) (sym is) in
    record {
      shown = rw (more, first, map-append live flows (e ∷ []), map-append carried_flow (take i states) (f ∷ []), shows)
          (ap (λ fs. fs ++ carried_flow f ∷ []) are.shown);
      sound = rw (more, map-append live flows (e ∷ []))
          (all-push (IsSoundFlow c) (map live flows) (live e) are.sound (sound-sums c e keeps within));
      sums = rw more (all-push (KeepsSums c) flows e are.sums keeps);
    }

-- all of them are a book's
pub carried-book : (c : Config) (states : List FlowState) (i : ℕ) (flows : List Flow) → length states ≤ i
    → AscendBy (λ f. f.sid) states → AreCarried c states i flows
    → IsBook c flows × (map live flows ≡ map carried_flow states)
carried-book c states i flows past up are =
    let shown : map live flows ≡ map carried_flow states =
    are.shown ∙ ap (map carried_flow) (take_all i states past) in (
      record {
        sound = record { ascending = rw shown (carried-ascend states up); each = are.sound };
        sums = are.sums;
      },
      shown,
    )
