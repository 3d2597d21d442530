-- The first lawful starts at the least phase and offset are the placement that is taken.
use Rattle.std.proofs.Common.{◌≡◌, refl, sym, ap, ◌∙◌, subst, ℕ, ◌+◌, ◌*◌, ◌/◌, ◌%◌, ◌<◌, List, inl, inr, arith}
use Rattle.std.proofs.lemmas.Bool.{cases_eq, eq-eqb}
use Rattle.minislots.specs.declared.config.Config.{Config}
use Rattle.minislots.specs.Config.{IsLawful}
use Rattle.minislots.proofs.Bounds.{bounds_of}
use Rattle.sched_calls.specs.declared.spec.FlowSpec.{FlowSpec}
use Rattle.sched_calls.specs.FlowSpec.{interval_frames, jitter_slots, periodic_slots, grants_of}
use Rattle.periodic.specs.declared.bits.Bits.{Bits}
use Rattle.sched_calls.specs.declared.placement.Placement.{Placement}
use Rattle.periodic.specs.declared.search.Wanted.{Wanted}
use Rattle.periodic.specs.declared.search.Found.{Found}
use Rattle.periodic.specs.Placement.{Placed, phase_of, offset_of, group_at, starts_in, spots_in, IsLawfulStart}
use Rattle.periodic.specs.Placement.{FollowFrom, AreLawfulStarts, HasLawfulStarts, IsPlacement, NoPlacement}
use Rattle.periodic.specs.Choice.{StartsEarlier, AreEarlier, IsChosen}
use Rattle.periodic.specs.Table.{AreSound}
use Rattle.periodic.specs.Rows.{row_at, AreRowsOf}
use Rattle.periodic.specs.Counts.{AreCounts}
use Rattle.periodic.specs.Search.{CanBeSought, IsWantedOf, IsStartOf, AreStartsIn, AreStarts, HasRoomAt, NonePhase}
use Rattle.periodic.specs.Search.{IsFirstFound, AreNoLater, IsReference, starts_of}
use Rattle.periodic.proofs.Counting.{few-of-room, room-of-few, no-starts}
use Rattle.periodic.proofs.Earlier.{none-before-none, none-before}
use Rattle.periodic.proofs.Frames.{spots-within}
use Rattle.periodic.proofs.Groups.{frame-phase, frame-index, frame-within, frame-of, index-within}
use Rattle.periodic.proofs.Joined.{all-weaker}
use Rattle.periodic.proofs.Occupied.{free-part, free-whole}

-- at a nominal frame the placement's starts are the group of its index
pub starts-at : (c : Config) (spec : FlowSpec) (p : Placement) (place : ℕ)
    → place % interval_frames c spec ≡ phase_of c spec p
    → starts_in c spec p place ≡ group_at (grants_of spec) (place / interval_frames c spec) p.starts
starts-at c spec p place nominal = rw (eq-eqb (place % interval_frames c spec) (phase_of c spec p) nominal) refl

module _ (c : Config) (table : List Placed) (rows : List Bits) (spec : FlowSpec) (w : Wanted) (lawful : IsLawful c)
    (sound : AreSound c table) (are : AreRowsOf c table rows) (sought : CanBeSought c w)
    (wanted : IsWantedOf c spec w) where
  -- a lawful start beside the spots is one in the frame's row
  start-told : (offset place start : ℕ)
      → IsLawfulStart c (jitter_slots c spec) (periodic_slots c spec) offset (spots_in c place table) start
      → IsStartOf c w offset (row_at c rows place) start
  start-told offset place start is = record {
    free = record {
      after = is.after_nominal;
      within = omega (arith, is.within_frame, wanted.slots);
      clear = λ m from to. (are.each place).clear m
          (omega (arith, to, is.within_frame, wanted.slots, (bounds_of c lawful).frame_most))
          (free-part (spots_in c place table) start (periodic_slots c spec) m is.free from
          (omega (arith, to, wanted.slots)));
    };
    within_jitter = omega (arith, is.within_jitter, wanted.jitter);
  }

  -- and the other way round
  start-lawful : (offset place start : ℕ) → IsStartOf c w offset (row_at c rows place) start
      → IsLawfulStart c (jitter_slots c spec) (periodic_slots c spec) offset (spots_in c place table) start
  start-lawful offset place start is = record {
    after_nominal = is.free.after;
    within_jitter = omega (arith, is.within_jitter, wanted.jitter);
    within_frame = omega (arith, is.free.within, wanted.slots);
    free = free-whole c (spots_in c place table) start (periodic_slots c spec)
        (spots-within c place table lawful sound.each) (omega (arith, sought.not_empty, wanted.slots))
        (λ m from to. (are.each place).free m
        (omega (arith, to, is.free.within, wanted.slots, (bounds_of c lawful).frame_most))
        (is.free.clear m from (omega (arith, to, wanted.slots))));
  }

  -- starts beside the spots are starts in the frame's row
  frame-told : (offset place : ℕ) (starts : List ℕ)
      → AreLawfulStarts c spec offset (spots_in c place table) starts
      → AreStartsIn c w offset (row_at c rows place) starts
  frame-told offset place starts is = record {
    count = is.count ∙ sym wanted.grants;
    in_turn = subst (λ n. FollowFrom n offset starts) (sym wanted.slots) is.in_turn;
    each = all-weaker
        (IsLawfulStart c (jitter_slots c spec) (periodic_slots c spec) offset (spots_in c place table))
        (IsStartOf c w offset (row_at c rows place)) (start-told offset place) starts is.each;
  }

  -- and the other way round
  frame-lawful : (offset place : ℕ) (starts : List ℕ) → AreStartsIn c w offset (row_at c rows place) starts
      → AreLawfulStarts c spec offset (spots_in c place table) starts
  frame-lawful offset place starts is = record {
    count = is.count ∙ wanted.grants;
    in_turn = subst (λ n. FollowFrom n offset starts) wanted.slots is.in_turn;
    each = all-weaker (IsStartOf c w offset (row_at c rows place))
        (IsLawfulStart c (jitter_slots c spec) (periodic_slots c spec) offset (spots_in c place table))
        (start-lawful offset place) starts is.each;
  }

module _ (c : Config) (table : List Placed) (rows : List Bits) (spec : FlowSpec) (w : Wanted) (lawful : IsLawful c)
    (sound : AreSound c table) (are : AreRowsOf c table rows) (sought : CanBeSought c w)
    (wanted : IsWantedOf c spec w) (p : Placement) (phase offset : ℕ) (at : phase_of c spec p ≡ phase)
    (from : offset_of c p ≡ offset) (lt : phase < w.interval) where
  -- the group of an index is what the placement has in the frame of that index
  group-is : (index : ℕ) → starts_in c spec p (phase + index * w.interval) ≡ group_at w.grants index p.starts
  group-is index =
      let f = interval_frames c spec in
      let place = phase + index * w.interval in
      let here : place % f ≡ phase_of c spec p =
      ap (λ n. place % n) (sym wanted.interval) ∙ frame-phase w.interval phase lt index ∙ sym at in
      let count : place / f ≡ index =
      ap (λ n. place / n) (sym wanted.interval) ∙ frame-index w.interval phase lt index in
      starts-at c spec p place here ∙ ap (λ n. group_at (grants_of spec) n p.starts) count
      ∙ ap (λ n. group_at n index p.starts) (sym wanted.grants)

  -- the starts of a lawful placement are lawful at its phase and offset
  pub starts-of-lawful : HasLawfulStarts c spec p (λ place. spots_in c place table)
      → AreStarts c rows w phase offset p.starts
  starts-of-lawful is = record {
    count = is.count ∙ ap (λ n. c.cycle / n * grants_of spec) (sym wanted.interval)
        ∙ ap (λ n. c.cycle / w.interval * n) (sym wanted.grants);
    each = λ index within.
        let place = phase + index * w.interval in
        let nominal : place % interval_frames c spec ≡ phase_of c spec p =
        ap (λ n. place % n) (sym wanted.interval) ∙ frame-phase w.interval phase lt index ∙ sym at in
        let here = is.each place (frame-within w.interval phase lt c.cycle index sought.divides within) nominal in
        subst (AreStartsIn c w offset (row_at c rows place)) (group-is index)
        (frame-told c table rows spec w lawful sound are sought wanted offset place (starts_in c spec p place)
        (subst (λ o. AreLawfulStarts c spec o (spots_in c place table) (starts_in c spec p place)) from here));
  }

  -- and the other way round
  pub lawful-of-starts : AreStarts c rows w phase offset p.starts
      → HasLawfulStarts c spec p (λ place. spots_in c place table)
  lawful-of-starts is = record {
    count = is.count ∙ ap (λ n. c.cycle / n * w.grants) wanted.interval
        ∙ ap (λ n. c.cycle / interval_frames c spec * n) wanted.grants;
    each = λ place within nominal.
        let index = place / w.interval in
        let here : place % w.interval ≡ phase = ap (λ n. place % n) wanted.interval ∙ nominal ∙ at in
        let same : place ≡ phase + index * w.interval = frame-of w.interval phase lt place here in
        let low = index-within w.interval phase lt c.cycle place sought.divides within in
        let lawful-there = frame-lawful c table rows spec w lawful sound are sought wanted offset
        (phase + index * w.interval) (group_at w.grants index p.starts)
        (is.each index low) in
        let with-starts = subst (AreLawfulStarts c spec offset (spots_in c (phase + index * w.interval) table))
        (sym (group-is index)) lawful-there in
        let there = subst (λ k. AreLawfulStarts c spec offset (spots_in c k table) (starts_in c spec p k)) (sym same)
        with-starts in
        subst (λ o. AreLawfulStarts c spec o (spots_in c place table) (starts_in c spec p place)) (sym from) there;
  }

module _ (c : Config) (table : List Placed) (rows : List Bits) (counts : List ℕ) (spec : FlowSpec) (next : ℕ)
    (w : Wanted) (lawful : IsLawful c) (sound : AreSound c table) (are : AreRowsOf c table rows)
    (counted : AreCounts c table counts) (sought : CanBeSought c w) (wanted : IsWantedOf c spec w) where
  phase-within : (p : Placement) → phase_of c spec p < w.interval
  phase-within p =
      let some = sought.interval_positive in omega (arith, wanted.interval, some)

  -- the frames of a lawful placement's phase have room
  room-there : (p : Placement) (phase : ℕ) → phase_of c spec p ≡ phase → phase < w.interval
      → IsPlacement c table spec next p → HasRoomAt c counts w phase
  room-there p phase at lt is =
      room-of-few c table counts spec w p phase counted sought wanted at lt is.starts is.few

  -- where no phase has lawful starts no placement is lawful
  pub none-lawful : 0 < c.frame → NonePhase c rows counts w w.interval → NoPlacement c table spec next
  none-lawful frame none p is =
      none (phase_of c spec p) (phase-within p) (room-there p (phase_of c spec p) refl (phase-within p) is)
      (offset_of c p) is.after_requests (omega arith) p.starts
      (starts-of-lawful c table rows spec w lawful sound are sought wanted p (phase_of c spec p) (offset_of c p)
      refl refl
      (phase-within p) is.starts)

  module _ (f : Found) (starts : List ℕ) (p other : Placement) (found : IsFirstFound c rows counts w f starts)
      (same : p.starts ≡ starts)
      (phase : phase_of c spec p ≡ f.phase) (offset : offset_of c p ≡ f.offset)
      (even : phase_of c spec other ≡ phase_of c spec p) (level : offset_of c other ≡ offset_of c p)
      (may : IsPlacement c table spec next other) where
    -- what is found first has no later starts in a nominal frame than another placement of its phase and offset
    no-later : (place : ℕ) → place < c.cycle → place % interval_frames c spec ≡ phase_of c spec p
        → AreNoLater (starts_in c spec p place) (starts_in c spec other place)
    no-later place within nominal =
        let index = place / w.interval in
        let low = index-within w.interval f.phase found.phase_within c.cycle place sought.divides within in
        let turn : place / interval_frames c spec ≡ index = ap (λ n. place / n) (sym wanted.interval) in
        let mine : starts_in c spec p place ≡ group_at w.grants index (starts) =
        starts-at c spec p place nominal ∙ ap (λ n. group_at (grants_of spec) n p.starts) turn
        ∙ ap (λ n. group_at n index p.starts) (sym wanted.grants) ∙ ap (group_at w.grants index) same in
        let theirs : starts_in c spec other place ≡ group_at w.grants index other.starts =
        starts-at c spec other place (nominal ∙ sym even)
        ∙ ap (λ n. group_at (grants_of spec) n other.starts) turn
        ∙ ap (λ n. group_at n index other.starts) (sym wanted.grants) in
        let least = found.at_phase.first.least other.starts
        (starts-of-lawful c table rows spec w lawful sound are sought wanted other f.phase f.offset
        (even ∙ phase) (level ∙ offset) found.phase_within may.starts) index low in
        subst (λ ss. AreNoLater ss (starts_in c spec other place)) (sym mine)
        (subst (AreNoLater (group_at w.grants index (starts))) (sym theirs) least)

    -- so none has earlier ones in any frame
    no-earlier : StartsEarlier c spec other p → ⊥
    no-earlier before =
        let place = before.0 in
        elim (cases_eq (place % interval_frames c spec) (phase_of c spec p)) [
          | inl nominal ↦ none-before (starts_in c spec p place) (starts_in c spec other place)
              (no-later place before.1 nominal) before.2
          | inr differ ↦ none-before-none (starts_in c spec other place)
              (subst (AreEarlier (starts_in c spec other place)) (no-starts c spec p place differ) before.2)
        ]

  -- what is found first is chosen
  pub found-chosen : (f : Found) (starts : List ℕ) (reference : ℕ) → 0 < c.frame
      → IsFirstFound c rows counts w f starts
      → IsReference c w.interval next f.phase f.offset reference
      → IsChosen c table spec next (record { reference = reference; starts = starts })
  found-chosen f starts reference frame found is =
      let p : Placement = record { reference = reference; starts = starts } in
      let phase : phase_of c spec p ≡ f.phase = ap (λ n. reference / c.frame % n) (sym wanted.interval) ∙ is.phase_is in
      let offset : offset_of c p ≡ f.offset = is.offset_is in
      record {
        lawful = record {
          not_before = is.not_before;
          first =
              (let first : reference < next + interval_frames c spec * c.frame =
              subst (λ n. reference < next + n * c.frame) wanted.interval is.first in first);
          after_requests = (let after = found.at_phase.after_requests in omega arith);
          starts = lawful-of-starts c table rows spec w lawful sound are sought wanted p f.phase f.offset phase offset
              found.phase_within found.at_phase.first.lawful;
          few = few-of-room c table counts spec w p f.phase counted sought wanted phase found.phase_within sound.few
              found.room;
        };
        first = λ other may before. elim before [
          | inl lower ↦ found.before (phase_of c spec other) (omega arith)
              (room-there other (phase_of c spec other) refl (phase-within other) may) (offset_of c other)
              may.after_requests (omega arith) other.starts
              (starts-of-lawful c table rows spec w lawful sound are sought wanted other (phase_of c spec other)
              (offset_of c other) refl refl (phase-within other) may.starts)
          | inr later ↦ elim later.1 [
            | inl lower ↦ found.at_phase.before (offset_of c other) may.after_requests (omega arith) other.starts
                (starts-of-lawful c table rows spec w lawful sound are sought wanted other f.phase (offset_of c other)
                (later.0 ∙ phase) refl found.phase_within may.starts)
            | inr even ↦ no-earlier f starts p other found refl phase offset later.0 even.0 may even.1
          ]
        ];
      }
