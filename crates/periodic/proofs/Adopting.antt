-- Starts that are handed in, one after another, and a placement judged by them.
use Rattle.std.proofs.Common.{◌≡◌, sym, ap, subst, ℕ, ◌+◌, ◌-◌, ◌*◌, ◌<◌, ◌≤◌, List, drop, get_or}
use Rattle.std.proofs.Common.{length, arith}
use Rattle.std.specs.List.{AllByRecursion}
use Rattle.std.proofs.lemmas.List.{drop_more, drop_all}
use Rattle.minislots.specs.declared.config.Config.{Config}
use Rattle.minislots.specs.Config.{IsLawful}
use Rattle.sched_calls.specs.declared.spec.FlowSpec.{FlowSpec}
use Rattle.sched_calls.specs.FlowSpec.{interval_frames}
use Rattle.periodic.specs.declared.bits.Bits.{Bits}
use Rattle.sched_calls.specs.declared.placement.Placement.{Placement}
use Rattle.periodic.specs.declared.search.Wanted.{Wanted}
use Rattle.periodic.specs.Placement.{Placed, phase_of, offset_of, FollowFrom, IsPlacement}
use Rattle.periodic.specs.Rows.{AreRowsOf}
use Rattle.periodic.specs.Counts.{AreCounts}
use Rattle.periodic.specs.Search.{CanBeSought, IsWantedOf, AreStarts, HasRoomAt}
use Rattle.periodic.specs.Table.{AreSound}
use Rattle.periodic.proofs.Choosing.{starts-of-lawful, lawful-of-starts}
use Rattle.periodic.proofs.Counting.{few-of-room, room-of-few}

-- each of these starts is one of those that there may be, and they follow from this minislot on
abbrev pub AreInTurn : (ℕ → Type 0) → ℕ → ℕ → List ℕ → Type 0
AreInTurn P slots from starts = FollowFrom slots from starts × AllByRecursion P starts

-- The starts that are left are in turn exactly where all starts are
pub record IsGoneThrough (P : ℕ → Type 0) (slots first from : ℕ) (starts left : List ℕ) : Type 0 where
  pub gives : AreInTurn P slots from left → AreInTurn P slots first starts
  pub needs : AreInTurn P slots first starts → AreInTurn P slots from left

-- at first all are left
pub gone-none : (P : ℕ → Type 0) (slots first : ℕ) (starts : List ℕ) → IsGoneThrough P slots first first starts starts
gone-none P slots first starts = record { gives = λ turn. turn; needs = λ turn. turn }

module _ (P : ℕ → Type 0) (slots first from : ℕ) (starts : List ℕ) (i : ℕ) (within : i < length starts) where
  -- one start more
  pub gone-more : from ≤ get_or starts i 0 → P (get_or starts i 0)
      → IsGoneThrough P slots first from starts (drop i starts)
      → IsGoneThrough P slots first (get_or starts i 0 + slots) starts (drop (i + 1) starts)
  gone-more late here gone = record {
    gives = λ rest. gone.gives (rw (drop_more starts i 0 within) ((late, rest.0), (here, rest.1)));
    needs = λ all. let turn = rw (drop_more starts i 0 within) at (gone.needs all) in (turn.0.1, turn.1.1);
  }

  -- a start that comes too early, or is none of those that there may be
  pub gone-wrong : (from ≤ get_or starts i 0 → P (get_or starts i 0) → ⊥)
      → IsGoneThrough P slots first from starts (drop i starts) → AreInTurn P slots first starts → ⊥
  gone-wrong wrong gone all =
      let turn = rw (drop_more starts i 0 within) at (gone.needs all) in wrong turn.0.0 turn.1.0

-- where none is left all are in turn
pub gone-all : (P : ℕ → Type 0) (slots first from i : ℕ) (starts : List ℕ) → length starts ≤ i
    → IsGoneThrough P slots first from starts (drop i starts) → AreInTurn P slots first starts
gone-all P slots first from i starts none gone = gone.gives (rw (drop_all i starts none) (tt, tt))

module _ (c : Config) (table : List Placed) (rows : List Bits) (counts : List ℕ) (spec : FlowSpec) (p : Placement)
    (next : ℕ) (w : Wanted) (lawful : IsLawful c) (sound : AreSound c table) (are : AreRowsOf c table rows)
    (counted : AreCounts c table counts) (sought : CanBeSought c w) (wanted : IsWantedOf c spec w) (phase offset : ℕ) (at : phase_of c spec p ≡ phase) (from : offset_of c p ≡ offset)
    (lt : phase < w.interval)
  where
    -- a placement that keeps to its window, with starts that are lawful in the rows and for which there is room, is
    -- lawful
    pub placement-judged : next ≤ p.reference → p.reference - next < w.interval * c.frame → c.req_slots ≤ offset
        → HasRoomAt c counts w phase → AreStarts c rows w phase offset p.starts → IsPlacement c table spec next p
    placement-judged late within after room each =
        let frames : w.interval * c.frame ≡ interval_frames c spec * c.frame = ap (λ m. m * c.frame) wanted.interval in
        record {
          not_before = late;
          first = omega arith;
          after_requests = subst (λ m. c.req_slots ≤ m) (sym from) after;
          starts = lawful-of-starts c table rows spec w lawful sound are sought wanted p phase offset at from lt each;
          few = few-of-room c table counts spec w p phase counted sought wanted at lt sound.few room;
        }

    -- and a lawful one does
    pub judged-placement : IsPlacement c table spec next p → (next ≤ p.reference)
        × (p.reference - next < w.interval * c.frame) × (c.req_slots ≤ offset) × HasRoomAt c counts w phase
        × AreStarts c rows w phase offset p.starts
    judged-placement is =
        let frames : w.interval * c.frame ≡ interval_frames c spec * c.frame =
        ap (λ m. m * c.frame) wanted.interval in (
          is.not_before,
          omega (arith, is.not_before, is.first),
          subst (λ m. c.req_slots ≤ m) from is.after_requests,
          room-of-few c table counts spec w p phase counted sought wanted at lt is.starts is.few,
          starts-of-lawful c table rows spec w lawful sound are sought wanted p phase offset at from lt is.starts,
        )
