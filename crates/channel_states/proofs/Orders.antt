-- Flows and Reserves that come in order, by those that are left.
use Rattle.std.proofs.Common.{◌≡◌, ℕ, ◌+◌, ◌<◌, ◌≤◌, List, drop, get_or, length, arith}
use Rattle.std.specs.List.{AllByRecursion}
use Rattle.std.proofs.lemmas.List.{drop_more}
use Rattle.minislots.specs.declared.config.Config.{Config}
use Rattle.sched_calls.specs.declared.state.FlowState.{FlowState}
use Rattle.sched_calls.specs.declared.state.ReserveState.{ReserveState}
use Rattle.sched_calls.specs.Sids.{AscendBy}
use Rattle.periodic.proofs.Joined.{all-weaker}
use Rattle.channel_states.specs.Possible.{IsPossibleReserve, NeverAscend}
use Rattle.channel_states.proofs.Left.{IsSame, drop-here}

-- flows in order of SID, none below this one
abbrev pub AreFrom : ℕ → List FlowState → Type 0
AreFrom least flows = AllByRecursion (λ f. least ≤ f.sid) flows × AscendBy (λ f. f.sid) flows

-- all flows are in order where those that are left are
abbrev pub AreOrdered : ℕ → List FlowState → ℕ → Type 0
AreOrdered least flows i = IsSame (AscendBy (λ f. f.sid) flows) (AreFrom least (drop i flows))

-- one less is left
pub ordered-less : (flows : List FlowState) (least i : ℕ) (f : FlowState) → i < length flows → f ≡ get_or flows i f
    → least ≤ f.sid → AreOrdered least flows i → AreOrdered (f.sid + 1) flows (i + 1)
ordered-less flows least i f within is late left =
    let rest = drop (i + 1) flows in
    record {
      gives = λ from.
          left.gives (rw (drop-here flows i f within is) (
            (
              late,
              all-weaker (λ g. f.sid + 1 ≤ g.sid)
                  (λ g. least ≤ g.sid) (λ g above. omega arith) rest from.0,
            ),
            (all-weaker (λ g. f.sid + 1 ≤ g.sid) (λ g. f.sid < g.sid) (λ g above. omega arith) rest from.0, from.1),
          ));
      needs = λ all.
          (let now = rw (drop-here flows i f within is) at (left.needs all) in (
            all-weaker (λ g. f.sid < g.sid) (λ g. f.sid + 1 ≤ g.sid) (λ g above. omega arith) rest now.1.0,
            now.1.1,
          ));
    }

-- Reserves that may wait in this order, none of which saw more MAPs than these
abbrev pub AreUpTo : Config → ℕ → List ReserveState → Type 0
AreUpTo c most rs = AllByRecursion (λ r. r.maps ≤ most) rs × AllByRecursion (IsPossibleReserve c) rs × NeverAscend rs

-- Reserves may wait in this order
abbrev pub MayWait : Config → List ReserveState → Type 0
MayWait c rs = AllByRecursion (IsPossibleReserve c) rs × NeverAscend rs

-- all may where those that are left may
abbrev pub AreWaiting : Config → ℕ → List ReserveState → ℕ → Type 0
AreWaiting c most rs i = IsSame (MayWait c rs) (AreUpTo c most (drop i rs))

-- one less is left
pub waiting-less : (c : Config) (rs : List ReserveState) (most i : ℕ) (d : ReserveState) → i < length rs
    → (get_or rs i d).maps ≤ most → IsPossibleReserve c (get_or rs i d) → AreWaiting c most rs i
    → AreWaiting c (get_or rs i d).maps rs (i + 1)
waiting-less c rs most i d within low may left =
    let r = get_or rs i d in
    record {
      gives = λ upto.
          left.gives (rw (drop_more rs i d within) (
            (
              low,
              all-weaker (λ s. s.maps ≤ r.maps) (λ s. s.maps ≤ most)
                  (λ s below. omega arith) (drop (i + 1) rs) upto.0,
            ),
            (may, upto.1),
            (upto.0, upto.2),
          ));
      needs = λ all. (let now = rw (drop_more rs i d within) at (left.needs all) in (now.2.0, now.1.1, now.2.1));
    }
