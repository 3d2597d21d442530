-- What peak rates and reservations of flows that wait leave, by their tiers.
use Rattle.std.proofs.Common.{◌≡◌, ◌≢◌, refl, sym, ap, ◌∙◌, ℕ, ◌<◌, ◌≤◌, ◌==◌, ◌&&◌, Bool, true, false, List}
use Rattle.std.proofs.Common.{length, get_or, slice_get, set, cond, Option, Some, None, option_map, inl, inr, arith}
use Rattle.std.specs.Option.{option_map_or}
use Rattle.std.proofs.lemmas.Bool.{cases_eq}
use Rattle.std.proofs.lemmas.Bool.Decides.{nat_tests}
use Rattle.std.proofs.lemmas.Option.{slice_get-get_or, slice_get_past}
use Rattle.minislots.specs.declared.config.Config.{Config}
use Rattle.sched_calls.specs.FlowSpec.{rank_of, rate_of, burst_of, peak_of, reserved_of, reserved_burst_of, takes_requests}
use Rattle.sched_calls.specs.declared.spec.TheConstants.{PEAK_BURST}
use Rattle.sched_calls.specs.declared.spec.FlowSpec.{FlowSpec}
use Rattle.sched_calls.specs.declared.spec.FlowSpec.TheVariants.{Unsolicited, Polled, BestEffort}
use Rattle.flow_book.specs.declared.flow.Flow.{Flow}
use Rattle.flow_book.specs.Flows.{Charge}
use Rattle.flow_book.specs.declared.limits.Limits.{Limits}
use Rattle.flow_book.specs.declared.waiting.Waiting.{Waiting}
use Rattle.flow_book.specs.declared.tiers.Tier.{Tier}
use Rattle.flow_book.specs.Bucket.{BucketView, StandsFor, IsSettled, HasOneMore, StaysSettled, most_of}
use Rattle.flow_book.specs.Limits.{HasBegunBy, most_in}
use Rattle.flow_book.specs.Entry.{is_plain, KeepsSums}
use Rattle.flow_book.specs.Queue.{IsAt}
use Rattle.flow_book.specs.Tiers.{unlimited, closed, queue_limits, limits_by, peak_in, reserved_in, rank_in, limits_in, tier_of, HasTier, IsSpent}
use Rattle.flow_book.proofs.Buckets.{no-ceiling, same-fields}
use Rattle.flow_book.proofs.Queues.{sustained-at, same-but, set-here, set-other}
use Rattle.flow_book.proofs.Reservation.{both-hold}

abbrev pub told : ℕ → Flow → Tier
told place f = record { place = place; rank = rank_of f.spec; peak = f.limits.peak; reserved = f.limits.reserved }

-- the tier of a flow at a place, none where it is plain
abbrev tier-if : Bool → ℕ → Flow → Option Tier
tier-if b place f = cond {A = Option Tier} b None (Some (told place f))

-- with other buckets
abbrev spent-to : Limits → Option Tier → Option Tier
spent-to l o = option_map {U = Tier} (λ t. record t { peak = l.peak; reserved = l.reserved }) o

-- the bucket of a rate of 0 holds nothing back
no-rate : (c : Config) (rate burst : ℕ) (b : BucketView) (charges : List Charge) → StandsFor c rate burst b charges
    → IsSettled b charges → (b.per_slot == 0) ≡ true → b ≡ unlimited
no-rate c rate burst b charges stands settled is =
    let none : b.per_slot ≡ 0 = grind (arith, nat_tests) in
    let free = no-ceiling c rate burst b charges stands none in
    let empty : b.full ≡ 0 = rw free at stands.full in
    same-fields b unlimited none empty (omega (arith, settled.level, empty)) (settled.first none)

-- a flow that takes no requests has no rate
silent-rates : (spec : FlowSpec) → takes_requests spec ≡ false
    → (rate_of spec ≡ 0) × (peak_of spec ≡ 0) × (reserved_of spec ≡ 0)
silent-rates (Unsolicited size interval jitter grants) silent = (refl, refl, refl)
silent-rates (Polled interval jitter rate burst peak) silent = absurd (cc)
silent-rates (BestEffort priority rate burst peak reserved reserved-burst) silent = absurd (cc)

no-rate-of : (c : Config) (rate burst : ℕ) (b : BucketView) (charges : List Charge) → StandsFor c rate burst b charges
    → IsSettled b charges → rate ≡ 0 → b ≡ unlimited
no-rate-of c rate burst b charges stands settled none =
    let slow = rw none at stands.per_slot in
    let none : b.per_slot ≡ 0 = omega (arith, slow) in
    no-rate c rate burst b charges stands settled (grind (arith, nat_tests))

-- so where a flow is plain its buckets hold nothing back, and else they are those of its tier
peak-by : (c : Config) (place : ℕ) (f : Flow) (b : Bool) → is_plain f ≡ b → KeepsSums c f
    → f.limits.peak ≡ option_map_or (λ (t : Tier). t.peak) (tier-if b place f) unlimited
peak-by c place f true plain keeps =
    no-rate c (peak_of f.spec) PEAK_BURST f.limits.peak f.grants.peak keeps.limits.peak keeps.settled.peak
    (both-hold (f.limits.peak.per_slot == 0) (f.limits.reserved.per_slot == 0) plain).0
peak-by c place f false tiered keeps = refl

reserved-by : (c : Config) (place : ℕ) (f : Flow) (b : Bool) → is_plain f ≡ b → KeepsSums c f
    → f.limits.reserved ≡ option_map_or (λ (t : Tier). t.reserved) (tier-if b place f) unlimited
reserved-by c place f true plain keeps =
    no-rate c (reserved_of f.spec) (reserved_burst_of f.spec) f.limits.reserved f.grants.reserved
    keeps.limits.reserved keeps.settled.reserved
    (both-hold (f.limits.peak.per_slot == 0) (f.limits.reserved.per_slot == 0) plain).1
reserved-by c place f false tiered keeps = refl

pub same-limits : (x y : Limits) → x.sustained ≡ y.sustained → x.peak ≡ y.peak → x.reserved ≡ y.reserved → x ≡ y
same-limits x y sustained peak reserved =
    ap (λ b. record { sustained = b; peak = x.peak; reserved = x.reserved }) sustained
    ∙ ap (λ b. record { sustained = y.sustained; peak = b; reserved = x.reserved }) peak
    ∙ ap (λ b. record { sustained = y.sustained; peak = y.peak; reserved = b }) reserved

-- what its ceilings leave to a flow that takes requests they leave to it in the queue
pub queued-limits : (f : Flow) → takes_requests f.spec ≡ true → queue_limits f ≡ f.limits
queued-limits f takes =
    same-limits (queue_limits f) f.limits (ap (λ b. cond b f.limits.sustained closed) takes) refl refl

-- and another has no byte there
pub queued-nothing : (f : Flow) (slot limit : ℕ) → takes_requests f.spec ≡ false
    → most_in (queue_limits f) slot limit ≡ 0
queued-nothing f slot limit silent =
    ap (λ b. most_of (cond b f.limits.sustained closed) slot (most_of f.limits.peak slot limit)) silent
    ∙ nothing (most_of f.limits.peak slot limit)
  where
    nothing : (n : ℕ) → most_of closed slot n ≡ 0
    nothing n = omega arith

-- its buckets are counted from no later there
pub queued-begun : (f : Flow) (slot : ℕ) → HasBegunBy slot f.limits → HasBegunBy slot (queue_limits f)
queued-begun f slot begun = record {
  sustained = by (takes_requests f.spec);
  peak = begun.peak;
  reserved = begun.reserved;
}
  where
    by : (b : Bool) → (cond b f.limits.sustained closed).since ≤ slot
    by true = begun.sustained
    by false = omega arith

-- so its buckets hold nothing back
pub silent-limits : (c : Config) (f : Flow) → KeepsSums c f → takes_requests f.spec ≡ false
    → f.limits ≡ record { sustained = unlimited; peak = unlimited; reserved = unlimited }
silent-limits c f keeps silent =
    let none = silent-rates f.spec silent in
    same-limits f.limits (record { sustained = unlimited; peak = unlimited; reserved = unlimited })
    (no-rate-of c (rate_of f.spec) (burst_of f.spec) f.limits.sustained f.grants.sustained keeps.limits.sustained
    keeps.settled.sustained none.0)
    (no-rate-of c (peak_of f.spec) PEAK_BURST f.limits.peak f.grants.peak keeps.limits.peak keeps.settled.peak none.1)
    (no-rate-of c (reserved_of f.spec) (reserved_burst_of f.spec) f.limits.reserved f.grants.reserved
    keeps.limits.reserved keeps.settled.reserved none.2)

-- so what its ceilings leave to it is what one that waits has of them
pub limits-at : (c : Config) (items : List Flow) (tiers : List Tier) (w : Waiting) (f : Flow) → KeepsSums c f
    → IsAt items w → HasTier items tiers w → slice_get items w.place ≡ Some f → queue_limits f ≡ limits_in tiers w
limits-at c items tiers w f keeps is has at =
    same-limits (queue_limits f) (limits_in tiers w) (sustained-at items w f is at)
    (peak-by c w.place f (is_plain f) refl keeps
    ∙ sym (ap (λ o. option_map_or (λ (t : Tier). t.peak) o unlimited) (has f at)))
    (reserved-by c w.place f (is_plain f) refl keeps
    ∙ sym (ap (λ o. option_map_or (λ (t : Tier). t.reserved) o unlimited) (has f at)))

-- the tier of a flow with a reservation has its rank
pub rank-at : (items : List Flow) (tiers : List Tier) (w : Waiting) (f : Flow) → HasTier items tiers w
    → slice_get items w.place ≡ Some f → (f.limits.reserved.per_slot == 0) ≡ false → rank_in tiers w ≡ rank_of f.spec
rank-at items tiers w f has at some =
    ap (λ o. option_map_or (λ (t : Tier). t.rank) o 0) (has f at ∙ tiered (f.limits.peak.per_slot == 0) refl)
  where
    tiered : (b : Bool) → (f.limits.peak.per_slot == 0) ≡ b → tier_of w.place f ≡ Some (told w.place f)
    tiered true is = ap (λ t. tier-if (t && (f.limits.reserved.per_slot == 0)) w.place f) is
        ∙ ap (λ t. tier-if t w.place f) some
    tiered false is = ap (λ t. tier-if (t && (f.limits.reserved.per_slot == 0)) w.place f) is

-- one whose number is past the tiers has none
pub none-in : (tiers : List Tier) (w : Waiting) → length tiers ≤ w.tier
    → limits_in tiers w ≡ record { sustained = w.sustained; peak = unlimited; reserved = unlimited }
none-in tiers w past =
    let none = slice_get_past tiers w.tier past in
    same-limits (limits_in tiers w) (record { sustained = w.sustained; peak = unlimited; reserved = unlimited }) refl
    (ap (λ o. option_map_or (λ (t : Tier). t.peak) o unlimited) none)
    (ap (λ o. option_map_or (λ (t : Tier). t.reserved) o unlimited) none)

-- and so it is of no rank
pub no-reserved-in : (tiers : List Tier) (w : Waiting) → length tiers ≤ w.tier → reserved_in tiers w ≡ unlimited
no-reserved-in tiers w past =
    ap (λ o. option_map_or (λ (t : Tier). t.reserved) o unlimited) (slice_get_past tiers w.tier past)

module _ (tiers : List Tier) (w new : Waiting) (t : Tier) (lt : w.tier < length tiers) (is : t ≡ get_or tiers w.tier t) where
  own-there : slice_get tiers w.tier ≡ Some t
  own-there = slice_get-get_or tiers w.tier t lt ∙ ap Some (sym is)

  -- and another has what its own has
  pub here-in : limits_in tiers w ≡ limits_by t w.sustained
  here-in =
      same-limits (limits_in tiers w) (limits_by t w.sustained) refl
      (ap (λ o. option_map_or (λ (u : Tier). u.peak) o unlimited) own-there)
      (ap (λ o. option_map_or (λ (u : Tier). u.reserved) o unlimited) own-there)

  pub reserved-here : reserved_in tiers w ≡ t.reserved
  reserved-here = ap (λ o. option_map_or (λ (u : Tier). u.reserved) o unlimited) own-there

  pub rank-here : rank_in tiers w ≡ t.rank
  rank-here = ap (λ o. option_map_or (λ (u : Tier). u.rank) o 0) own-there

  module _ (u : Tier) (kept : u ≡ record t { peak = u.peak; reserved = u.reserved }) (same : new.tier ≡ w.tier) where
    abbrev put : List Tier
    put = set tiers w.tier u

    put-there : slice_get put new.tier ≡ Some u
    put-there = ap (slice_get put) same ∙ set-here tiers w.tier u lt

    -- of which another is put in its place
    pub put-in : limits_in put new ≡ limits_by u new.sustained
    put-in =
        same-limits (limits_in put new) (limits_by u new.sustained) refl
        (ap (λ o. option_map_or (λ (v : Tier). v.peak) o unlimited) put-there)
        (ap (λ o. option_map_or (λ (v : Tier). v.reserved) o unlimited) put-there)

    pub put-spent : IsSpent tiers put w new
    put-spent = record {
      same = same;
      own = set-here tiers w.tier u lt ∙ ap Some kept
          ∙ ap (λ (l : Limits). Some (record t { peak = l.peak; reserved = l.reserved })) (sym put-in)
          ∙ sym (ap (spent-to (limits_in put new)) own-there);
      rest = λ k other. set-other tiers w.tier u k other;
    }

-- where it has no tier none is changed
pub none-spent : (tiers : List Tier) (w new : Waiting) → length tiers ≤ w.tier → new.tier ≡ w.tier
    → IsSpent tiers tiers w new
none-spent tiers w new past same =
    let none = slice_get_past tiers w.tier past in
    record {
      same = same;
      own = none ∙ sym (ap (spent-to (limits_in tiers new)) none);
      rest = λ k other. refl;
    }

-- a bucket of a rate of 0 stands for one grant more too
pub unlimited-more : (slot bytes : ℕ) → HasOneMore unlimited unlimited slot bytes
unlimited-more slot bytes = λ c rate burst grants stands started.
    let free = no-ceiling c rate burst unlimited grants stands refl in
    record {
      ticks = stands.ticks;
      per_slot = stands.per_slot;
      full = stands.full;
      kept = λ limited. absurd (omega (arith, limited, free));
      since = λ later all. omega arith;
      level = λ limited. absurd (omega (arith, limited, free));
    }

pub unlimited-settled : (slot bytes : ℕ) → StaysSettled unlimited unlimited slot bytes
unlimited-settled slot bytes = λ grants settled started. record {
  level = omega arith;
  started = λ limited. absurd (omega arith);
  last = λ limited. absurd (omega arith);
  first = λ none. refl;
}

-- the tier of a flow at a place is told by whether it is plain
tier-by : (place : ℕ) (f : Flow) (b : Bool) → is_plain f ≡ b → tier_of place f ≡ tier-if b place f
tier-by place f b is = ap (λ t. tier-if t place f) is

-- flows at two places have no tier in common
apart : (i j : ℕ) (f g : Flow) (a b : Bool) → i ≢ j → tier-if a i f ≡ tier-if b j g → a ≡ true
apart i j f g true b differ same = refl
apart i j f g false true differ same = absurd (cc)
apart i j f g false false differ same =
    let t : Tier = told i f in
    let u : Tier = told j g in
    let e : Some t ≡ Some u = same in
    let equal : t ≡ u = cc in
    absurd (differ (ap (λ (v : Tier). v.place) equal))

module _ (c : Config) (items : List Flow) (tiers after : List Tier) (w new : Waiting) (f g : Flow)
    (at : slice_get items w.place ≡ Some f) (has : HasTier items tiers w) (spent : IsSpent tiers after w new) where
  -- a flow at another place has its tier still where that of one is changed
  pub other-tier : (v : Waiting) → v.place ≢ w.place → HasTier items tiers v → HasTier (set items w.place g) after v
  other-tier v differ is = λ h found.
      let there : slice_get items v.place ≡ Some h = sym (same-but items w.place g v.place differ) ∙ found in
      let mine = is h there in
      elim (cases_eq v.tier w.tier) [
        | inl same ↦ (
            let both : tier_of v.place h ≡ tier_of w.place f = sym mine ∙ ap (slice_get tiers) same ∙ has f at in
            let none = apart v.place w.place h f (is_plain h) (is_plain f) differ both in
            let no-tier : tier_of v.place h ≡ None = tier-by v.place h true none in
            let gone : slice_get after w.tier ≡ None =
            spent.own ∙ ap (spent-to (limits_in after new)) (has f at ∙ sym both ∙ no-tier) in
            ap (slice_get after) same ∙ gone ∙ sym no-tier)
        | inr other ↦ spent.rest v.tier other ∙ mine
      ]

  own-by : (b : Bool) → is_plain f ≡ b → is_plain g ≡ b → rank_of g.spec ≡ rank_of f.spec
      → g.limits.peak ≡ peak_in after new → g.limits.reserved ≡ reserved_in after new
      → slice_get after w.tier ≡ tier_of w.place g
  own-by b is mine rank peak reserved =
      spent.own ∙ ap (spent-to (limits_in after new)) (has f at ∙ tier-by w.place f b is) ∙ own-cond b
      ∙ sym (tier-by w.place g b mine)
    where
      own-cond : (b : Bool) → spent-to (limits_in after new) (tier-if b w.place f) ≡ tier-if b w.place g
      own-cond true = refl
      own-cond false = ap Some (told-same rank peak reserved)
        where
          told-same : rank_of g.spec ≡ rank_of f.spec → g.limits.peak ≡ peak_in after new
              → g.limits.reserved ≡ reserved_in after new
              → record {
                place = w.place;
                rank = rank_of f.spec;
                peak = peak_in after new;
                reserved = reserved_in after new;
              } ≡ told w.place g
          told-same rank peak reserved = rw (rank, peak, reserved) refl

  -- and the flow that is put at its place has its own
  pub own-tier : w.place < length items → new.place ≡ w.place → is_plain g ≡ is_plain f
      → rank_of g.spec ≡ rank_of f.spec → g.limits.peak ≡ peak_in after new → g.limits.reserved ≡ reserved_in after new
      → HasTier (set items w.place g) after new
  own-tier within place plain rank peak reserved = λ h found.
      let e : Some h ≡ Some g =
      sym found ∙ ap (slice_get (set items w.place g)) place ∙ set-here items w.place g within in
      let is : h ≡ g = cc in
      ap (slice_get after) spent.same ∙ own-by (is_plain f) refl plain rank peak reserved
      ∙ ap (λ k. tier_of k g) (sym place) ∙ ap (tier_of new.place) (sym is)
