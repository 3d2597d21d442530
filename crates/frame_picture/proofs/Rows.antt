-- The rows of a history's front.
use Rattle.std.proofs.Common.{◌≡◌, ℕ, zero, suc, ◌+◌, ◌-◌, ◌<◌, ◌≤◌, ◌&&◌, Bool, false, List, [], ◌∷◌, ◌++◌}
use Rattle.std.proofs.Common.{length, map, flat_map, get_or, Option, None, Some, refl, sym, ap, ◌∙◌, arith}
use Rattle.std.proofs.Common.{append-nil, codes, inl, inr, add-one, ltb}
use Rattle.std.specs.Prelude.{if◌then◌else◌, IfSome}
use Rattle.std.specs.List.{range_with_len, AllByRecursion}
use Rattle.std.specs.Io.KnownBytes.{Appends}
use Rattle.std.proofs.KnownBytes.{Appends-trans, Appends-nil}
use Rattle.std.proofs.lemmas.Bool.{cases_lt, lt-ltb, le-ltb, le-leb, lt-leb}
use Rattle.std.proofs.lemmas.List.FromFn.{map-range_with_len_more}
use Rattle.std.proofs.lemmas.List.{get_or_past}
use Rattle.map_codec.specs.declared.element.Element.{Element}
use Rattle.map_codec.specs.Element.{element_at, IsInRange}
use Rattle.map_codec.specs.Element.{no_element}
use Rattle.map_codec.specs.WireMap.{IsWellFormed}
use Rattle.map_codec.proofs.Spelling.{in_range_at}
use Rattle.map_build.specs.declared.met.Met.{Met}
use Rattle.map_build.specs.Reading.{meets_at}
use Rattle.map_drawing.specs.Allocation.{front_length}
use Rattle.sched_calls.specs.declared.frame_map.FrameMap.{FrameMap}
use Rattle.sched_calls.specs.declared.reply.TheConstants.{MAX_ENTRIES}
use Rattle.sched_calls.specs.declared.reply.Entry.{Entry}
use Rattle.sched_calls.specs.declared.reply.Reply.{Reply}
use Rattle.sched_calls.specs.declared.reply.Reply.TheVariants as replies
use Rattle.sched_history.specs.History.{map_by}
use Rattle.sched_calls.specs.Reply.{IsEncodable}
use Rattle.frame_picture.specs.declared.flows.TheConstants.{SIDS}
use Rattle.frame_picture.specs.declared.layout.Scale.{Scale}
use Rattle.frame_picture.specs.declared.span.Span.{Span}
use Rattle.frame_picture.specs.declared.span.Place.{Place}
use Rattle.frame_picture.specs.declared.bar.Bar.{Bar}
use Rattle.frame_picture.specs.declared.along.Along.{Along}
use Rattle.frame_picture.specs.Along.{IsAlong, next_start, left_out}
use Rattle.frame_picture.specs.Frames.{Frame, frame_by, frames_of, frames_in, place_in}
use Rattle.frame_picture.specs.Frames.{is_unsolicited_after}
use Rattle.frame_picture.specs.Bar.{bar_at, bar_with}
use Rattle.frame_picture.specs.Bars.{bar_text, bars_text}
use Rattle.frame_picture.specs.Picture.{start_text, left_text, map_text, built_text, entry_text, row_text, rows_text}
use Rattle.frame_picture.proofs.Drawn.{rows_text-append}
use Rattle.frame_picture.proofs.FrameLists.{frames_of-push, frames_in-early, frames_in-before, frames_in-behind, frames_in-more}
use Rattle.frame_picture.proofs.FrameLists.{length-frames_in}

-- the SIDs of a MAP are below 65536
small_sid : (es : List Element) (i : ℕ) → AllByRecursion IsInRange es → (element_at es i).sid < SIDS
small_sid es i fits =
    elim (cases_lt i (length es)) [
      | inl inside ↦ omega (arith, (in_range_at es i no_element fits inside).sid)
      | inr outside ↦ omega (arith, ap (λ (e : Element). e.sid) (get_or_past es i no_element outside))
    ]

-- where two tests agree on the SIDs of elements, the bars are the same
same_bars : (units : ℕ) (p q : ℕ → Bool) (met : List Met) (es : List Element) (bytes : List ℕ)
    → ((i : ℕ) → p (element_at es i).sid ≡ q (element_at es i).sid)
    → (n : ℕ)
    → map (bar_at units p met es bytes) (range_with_len 0 n) ≡ map (bar_at units q met es bytes) (range_with_len 0 n)
same_bars units p q met es bytes agree zero = refl
same_bars units p q met es bytes agree (suc n) =
    let is_met : Bool = meets_at met (element_at es n).offset in
    let step : map (bar_at units p met es bytes) (range_with_len 0 (n + 1))
    ≡ map (bar_at units q met es bytes) (range_with_len 0 (n + 1)) =
    map-range_with_len_more (bar_at units p met es bytes) 0 n n (omega arith)
    ∙ ap (λ (bs : List Bar). bs ++ bar_at units p met es bytes n ∷ []) (same_bars units p q met es bytes agree n)
    ∙ ap (λ (b : Bool).
    map (bar_at units q met es bytes) (range_with_len 0 n) ++ bar_with units es bytes n b is_met ∷ [])
    (agree n)
    ∙ sym (map-range_with_len_more (bar_at units q met es bytes) 0 n n (omega arith)) in
    rw add-one at step

-- the row of a MAP, where it is known what the entries before it tell
pub same_row : (scale : Scale) (place : Place) (along : Along) (h : List Entry) (met : List Met) (m : FrameMap)
    → IsWellFormed m.wire → IsAlong scale along h
    → map_text scale place along.next (λ sid. get_or along.flows sid false) met m
    ≡ map_text scale place (next_start scale h) (is_unsolicited_after h) met m
unfolding map_text
same_row scale place along h met m whole known =
    let flows = along.flows in
    let tells = known.flows in
    let es = m.wire.elements in
    let agree : (i : ℕ) → get_or flows (element_at es i).sid false ≡ is_unsolicited_after h (element_at es i).sid =
    λ i. tells (element_at es i).sid (small_sid es i whole.in_range) in
    ap (λ (bs : List Bar). start_text scale.ticks place m.start
    ++ (left_text (left_out scale along.next m.start) ++ (flat_map bar_text bs ++ codes "</g>\n")))
    (same_bars scale.units (λ sid. get_or flows sid false) (is_unsolicited_after h) met es m.bytes agree
    (front_length es))
    ∙ ap (λ (next : ℕ). start_text scale.ticks place m.start
    ++ (left_text (left_out scale next m.start)
    ++ (bars_text scale.units (is_unsolicited_after h) met es m.bytes ++ codes "</g>\n"))) known.next

-- places with the same numbers are the same
same_place : (p q : Place) → p.number ≡ q.number → p.row ≡ q.row → p ≡ q
same_place p q number row =
    ap (λ (k : ℕ). record { number = k; row = p.row }) number
    ∙ ap (λ (k : ℕ). record { number = q.number; row = k }) row

-- a frame before the span has no place
place-before : (span : Span) (n : ℕ) → n < span.from → place_in span n ≡ None
unfolding place_in
place-before span n below =
    ap (λ (b : Bool).
    if b && ltb (n - span.from) span.count then Some (record { number = n; row = n - span.from }) else None)
    (lt-leb span.from n below)

-- nor has one behind it
place-behind : (span : Span) (n : ℕ) → span.from ≤ n → span.count ≤ n - span.from → place_in span n ≡ None
unfolding place_in
place-behind span n reached past =
    ap (λ (b : Bool).
    if b && ltb (n - span.from) span.count then Some (record { number = n; row = n - span.from }) else None)
    (le-leb span.from n reached)
    ∙ ap (λ (b : Bool). if b then Some (record { number = n; row = n - span.from }) else None)
    (le-ltb (n - span.from) span.count past)

-- a frame in the span has its place
place-inside : (span : Span) (n : ℕ) → span.from ≤ n → n - span.from < span.count
    → place_in span n ≡ Some (record { number = n; row = n - span.from })
unfolding place_in
place-inside span n reached room =
    ap (λ (b : Bool).
    if b && ltb (n - span.from) span.count then Some (record { number = n; row = n - span.from }) else None)
    (le-leb span.from n reached)
    ∙ ap (λ (b : Bool). if b then Some (record { number = n; row = n - span.from }) else None)
    (lt-ltb (n - span.from) span.count room)

module _ (scale : Scale) (met : List Entry → Reply → List Met) (span : Span) (h : List Entry) (fs : List Frame)
    (along : Along) (known : IsAlong scale along h) where
  abbrev rows : List Frame → List ℕ
  rows gs = rows_text scale met span.from 0 (frames_in span gs)

  abbrev by_place : (o : Option Place) (m : FrameMap) → List ℕ
  by_place o m =
      entry_text scale o along.next (λ sid. get_or along.flows sid false) (met h (replies.Built m)) (replies.Built m)

  -- what the next MAP adds
  next_row : (m : FrameMap) → IsWellFormed m.wire
      → rows (fs ++ record { before = h; built = m } ∷ []) ≡ rows fs ++ by_place (place_in span (length fs)) m
  unfolding entry_text
  next_row m whole =
      let f : Frame = record { before = h; built = m } in
      let none : place_in span (length fs) ≡ None → rows fs ≡ rows fs ++ by_place (place_in span (length fs)) m =
      λ is. sym (ap (λ (o : Option Place). rows fs ++ by_place o m) is ∙ append-nil (rows fs)) in
      elim (cases_lt (length fs) span.from) [
        | inl before ↦
            ap (rows_text scale met span.from 0) (frames_in-before span fs f before)
            ∙ none (place-before span (length fs) before)
        | inr reached ↦
            elim (cases_lt (length fs - span.from) span.count) [
              | inl room ↦
                  let place : Place = record { number = length fs; row = length fs - span.from } in
                  let size : length (frames_in span fs) ≡ length fs - span.from =
                  omega (arith, length-frames_in span fs, room) in
                  let at : Place = record {
                    number = span.from + (0 + length (frames_in span fs));
                    row = 0 + length (frames_in span fs);
                  } in
                  let here : at ≡ place =
                  same_place at place (omega (arith, size, reached)) (omega (arith, size)) in
                  ap (rows_text scale met span.from 0) (frames_in-more span fs f reached room)
                  ∙ rows_text-append scale met span.from 0 (frames_in span fs) (f ∷ [])
                  ∙ ap (λ (t : List ℕ). rows fs ++ t)
                  (append-nil (row_text scale met at f)
                  ∙ ap (λ (p : Place). row_text scale met p f) here
                  ∙ sym (same_row scale place along h (met h (replies.Built m)) m whole known)
                  ∙ sym (ap (λ (o : Option Place). by_place o m) (place-inside span (length fs) reached room)))
              | inr past ↦
                  ap (rows_text scale met span.from 0) (frames_in-behind span fs f reached past)
                  ∙ none (place-behind span (length fs) reached past)
            ]
      ]

  -- an entry without a MAP has no row
  no_text : (o : Option Place) (reply : Reply) → map_by reply ≡ None
      → entry_text scale o along.next (λ sid. get_or along.flows sid false) (met h reply) reply ≡ []
  unfolding entry_text
  no_text None reply none = refl
  no_text (Some place) reply none =
      ap (λ (m : Option FrameMap). built_text scale place along.next (λ sid. get_or along.flows sid false)
      (met h reply) m) none

  -- and adds nothing
  still : (reply : Reply) → map_by reply ≡ None
      → rows (fs ++ frame_by h (map_by reply))
      ≡ rows fs
      ++ entry_text scale (place_in span (length fs)) along.next (λ sid. get_or along.flows sid false) (met h reply)
      reply
  still reply none =
      ap (λ (o : Option FrameMap). rows (fs ++ frame_by h o)) none ∙ ap rows (append-nil fs)
      ∙ sym (ap (λ (t : List ℕ). rows fs ++ t) (no_text (place_in span (length fs)) reply none) ∙ append-nil (rows fs))

  -- what the next entry adds
  next_rows : (reply : Reply) → IsEncodable reply
      → rows (fs ++ frame_by h (map_by reply))
      ≡ rows fs
      ++ entry_text scale (place_in span (length fs)) along.next (λ sid. get_or along.flows sid false) (met h reply)
      reply
  next_rows (replies.Built m) whole = next_row m whole
  next_rows (replies.Admitted placement) whole = still (replies.Admitted placement) refl
  next_rows (replies.Changed placement) whole = still (replies.Changed placement) refl
  next_rows replies.Removed whole = still replies.Removed refl
  next_rows replies.Taken whole = still replies.Taken refl
  next_rows replies.Noted whole = still replies.Noted refl
  next_rows replies.Reserved whole = still replies.Reserved refl
  next_rows (replies.Skipped next) whole = still (replies.Skipped next) refl
  next_rows (replies.Flow asked granted outstanding) whole = still (replies.Flow asked granted outstanding) refl
  next_rows (replies.Refused refusal) whole = still (replies.Refused refusal) refl

-- the rows of one entry more
pub rows_more : (a b c : Option (List ℕ)) (scale : Scale) (met : List Entry → Reply → List Met) (span : Span)
    (along : Along) (h longer : List Entry) (e : Entry) → longer ≡ h ++ e ∷ [] → IsEncodable e.reply
    → IsAlong scale along h → Appends a b (rows_text scale met span.from 0 (frames_in span (frames_of h)))
    → Appends b c (entry_text scale (place_in span along.number) along.next (λ sid. get_or along.flows sid false)
    (met h e.reply) e.reply)
    → Appends a c (rows_text scale met span.from 0 (frames_in span (frames_of longer)))
rows_more a b c scale met span along h longer e is whole known before one =
    let fs = frames_of h in
    let flows : ℕ → Bool = λ sid. get_or along.flows sid false in
    let next = next_rows scale met span h fs along known e.reply whole in
    let all : rows_text scale met span.from 0 (frames_in span (frames_of longer))
    ≡ rows_text scale met span.from 0 (frames_in span fs)
    ++ entry_text scale (place_in span along.number) along.next flows (met h e.reply) e.reply =
    ap (λ (gs : List Frame). rows_text scale met span.from 0 (frames_in span gs))
    (ap frames_of is ∙ frames_of-push h e)
    ∙ next
    ∙ ap (λ (k : ℕ). rows_text scale met span.from 0 (frames_in span fs)
    ++ entry_text scale (place_in span k) along.next flows (met h e.reply) e.reply) (sym known.number) in
    rw all (Appends-trans a b c (rows_text scale met span.from 0 (frames_in span fs))
    (entry_text scale (place_in span along.number) along.next flows (met h e.reply) e.reply) before one)

-- behind entries whose frames come before the span nothing is drawn yet
pub rows_none : (a : Option (List ℕ)) (scale : Scale) (met : List Entry → Reply → List Met) (span : Span)
    (along : Along) (before : List Entry) → IsAlong scale along before → along.number ≤ span.from
    → Appends a a (rows_text scale met span.from 0 (frames_in span (frames_of (before ++ []))))
rows_none a scale met span along before known early =
    let none : frames_in span (frames_of (before ++ [])) ≡ [] =
    ap (λ (h : List Entry). frames_in span (frames_of h)) (append-nil before)
    ∙ frames_in-early span (frames_of before) (omega (arith, known.number, early)) in
    rw none (Appends-nil a)

-- a row whose frame has a number near that of the first one
pub row_within : (o : Option Place) (n from : ℕ) → n ≤ from + MAX_ENTRIES → IfSome o (λ p. p.row + from ≡ n)
    → IfSome o (λ p. p.row ≤ MAX_ENTRIES)
row_within None n from few near = tt
row_within (Some p) n from few near = omega (arith, few, near)

-- each entry of a history whose MAPs have bytes
pub whole_at : (h : List Entry) (i : ℕ) (d : Entry) → AllByRecursion (λ e. IsEncodable e.reply) h → i < length h
    → IsEncodable (get_or h i d).reply
whole_at [] i d whole below = absurd (omega (arith, below))
whole_at (e ∷ es) zero d whole below = whole.0
whole_at (e ∷ es) (suc i) d whole below = whole_at es i d whole.1 (omega (arith, below))
