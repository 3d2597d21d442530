-- The frames of a history's front.
use Rattle.std.proofs.Common.{◌≡◌, ℕ, ◌+◌, ◌-◌, ◌<◌, ◌≤◌, List, [], ◌∷◌, ◌++◌, length, take, drop, get_or}
use Rattle.std.proofs.Common.{Option, None, Some, refl, sym, ap, ◌∙◌, arith, append_assoc, append-nil, length-append}
use Rattle.std.specs.Prelude.{min}
use Rattle.std.proofs.lemmas.List.{take_more, length-take, length-take-le, length-drop, take_all, take-append-le}
use Rattle.std.proofs.lemmas.List.{drop-append-le, drop_all}
use Rattle.sched_calls.specs.declared.frame_map.FrameMap.{FrameMap}
use Rattle.sched_calls.specs.declared.reply.Entry.{Entry}
use Rattle.sched_history.specs.History.{map_by}
use Rattle.frame_picture.specs.declared.span.Span.{Span}
use Rattle.frame_picture.specs.Frames.{Frame, frame_by, frames_after, frames_of, frames_in}

-- the frames of two lists of entries, one behind the other
pub frames_after-append : (before xs ys : List Entry)
    → frames_after before (xs ++ ys) ≡ frames_after before xs ++ frames_after (before ++ xs) ys
frames_after-append before [] ys = ap (λ (b : List Entry). frames_after b ys) (sym (append-nil before))
frames_after-append before (e ∷ es) ys =
    ap (λ (fs : List Frame). frame_by before (map_by e.reply) ++ fs) (frames_after-append (before ++ e ∷ []) es ys)
    ∙ sym (append_assoc (frame_by before (map_by e.reply)) (frames_after (before ++ e ∷ []) es)
    (frames_after ((before ++ e ∷ []) ++ es) ys))
    ∙ ap (λ (b : List Entry). frames_after before (e ∷ es) ++ frames_after b ys) (append_assoc before (e ∷ []) es)

-- the frames of a longer front
pub frames_of-more : (h : List Entry) (i : ℕ) (d : Entry) → i < length h
    → frames_of (take (i + 1) h) ≡ frames_of (take i h) ++ frame_by (take i h) (map_by (get_or h i d).reply)
frames_of-more h i d below =
    ap frames_of (take_more h i d below) ∙ frames_after-append [] (take i h) (get_or h i d ∷ [])
    ∙ ap (λ (fs : List Frame). frames_of (take i h) ++ fs)
    (append-nil (frame_by (take i h) (map_by (get_or h i d).reply)))

-- as many as there are MAPs, whatever stands before
same_count : (a b : List Entry) (o : Option FrameMap) → length (frame_by a o) ≡ length (frame_by b o)
same_count a b None = refl
same_count a b (Some m) = refl

-- how many they are
pub count-more : (h : List Entry) (i : ℕ) (d : Entry) → i < length h
    → length (frames_of (take (i + 1) h))
    ≡ length (frames_of (take i h)) + length (frame_by [] (map_by (get_or h i d).reply))
count-more h i d below =
    ap length (frames_of-more h i d below)
    ∙ length-append (frames_of (take i h)) (frame_by (take i h) (map_by (get_or h i d).reply))
    ∙ ap (λ (k : ℕ). length (frames_of (take i h)) + k) (same_count (take i h) [] (map_by (get_or h i d).reply))

-- the frames of one entry more
pub frames_of-push : (h : List Entry) (e : Entry)
    → frames_of (h ++ e ∷ []) ≡ frames_of h ++ frame_by h (map_by e.reply)
frames_of-push h e =
    frames_after-append [] h (e ∷ [])
    ∙ ap (λ (fs : List Frame). frames_of h ++ fs) (append-nil (frame_by h (map_by e.reply)))

-- how many they are
pub count-push : (h : List Entry) (e : Entry)
    → length (frames_of (h ++ e ∷ [])) ≡ length (frames_of h) + length (frame_by [] (map_by e.reply))
count-push h e =
    ap length (frames_of-push h e) ∙ length-append (frames_of h) (frame_by h (map_by e.reply))
    ∙ ap (λ (k : ℕ). length (frames_of h) + k) (same_count h [] (map_by e.reply))

-- an entry builds one frame at most
pub one_frame : (before : List Entry) (o : Option FrameMap) → length (frame_by before o) ≤ 1
one_frame before (Some m) = omega arith
one_frame before None = omega arith

few_frames : (before h : List Entry) → length (frames_after before h) ≤ length h
few_frames before [] = omega arith
few_frames before (e ∷ es) =
    omega (
      arith,
      length-append (frame_by before (map_by e.reply)) (frames_after (before ++ e ∷ []) es),
      one_frame before (map_by e.reply),
      few_frames (before ++ e ∷ []) es,
    )

-- a front of a history builds no more frames than it has entries
pub frames_of-front-≤ : (h : List Entry) (i : ℕ) → i ≤ length h → length (frames_of (take i h)) ≤ i
frames_of-front-≤ h i within = omega (arith, few_frames [] (take i h), length-take-le i h within)

-- a history builds no more frames than it has entries
pub frames_of-≤ : (h : List Entry) → length (frames_of h) ≤ length h
frames_of-≤ h = few_frames [] h

-- nor do entries behind others
pub frames_behind-≤ : (before h : List Entry) → length (frames_of (before ++ h)) ≤ length (frames_of before) + length h
frames_behind-≤ before h =
    let apart : length (frames_of (before ++ h)) ≡ length (frames_of before ++ frames_after ([] ++ before) h) =
    ap length (frames_after-append [] before h) in
    omega (arith, apart, length-append (frames_of before) (frames_after ([] ++ before) h), few_frames ([] ++ before) h)

-- of frames before the span none is drawn
pub frames_in-early : (span : Span) (fs : List Frame) → length fs ≤ span.from → frames_in span fs ≡ []
frames_in-early span fs early =
    ap (take span.count) (drop_all span.from fs early) ∙ take_all span.count [] (omega arith)

-- how many frames of so many are drawn
pub length-frames_in : (span : Span) (fs : List Frame)
    → length (frames_in span fs) ≡ min span.count (length fs - span.from)
length-frames_in span fs =
    length-take span.count (drop span.from fs) ∙ ap (min span.count) (length-drop span.from fs)

-- where a frame comes before the span, none is drawn
pub frames_in-before : (span : Span) (fs : List Frame) (f : Frame) → length fs < span.from
    → frames_in span (fs ++ f ∷ []) ≡ frames_in span fs
frames_in-before span fs f below =
    let longer : length (fs ++ f ∷ []) ≡ length fs + 1 = length-append fs (f ∷ []) in
    ap (take span.count) (drop_all span.from (fs ++ f ∷ []) (omega (arith, longer, below))
    ∙ sym (drop_all span.from fs (omega (arith, below))))

module _ (span : Span) (fs : List Frame) (f : Frame) (reached : span.from ≤ length fs) where
  dropped : drop span.from (fs ++ f ∷ []) ≡ drop span.from fs ++ f ∷ []
  dropped = drop-append-le span.from fs (f ∷ []) reached

  -- where it comes behind the span, what is drawn stays
  pub frames_in-behind : span.count ≤ length fs - span.from → frames_in span (fs ++ f ∷ []) ≡ frames_in span fs
  frames_in-behind past =
      ap (take span.count) dropped
      ∙ take-append-le span.count (drop span.from fs) (f ∷ []) (omega (arith, past, length-drop span.from fs))

  -- where it is in the span, it is drawn behind the others
  pub frames_in-more : length fs - span.from < span.count
      → frames_in span (fs ++ f ∷ []) ≡ frames_in span fs ++ f ∷ []
  frames_in-more room =
      let size : length (drop span.from fs) ≡ length fs - span.from = length-drop span.from fs in
      let longer : length (drop span.from fs ++ f ∷ []) ≡ length (drop span.from fs) + 1 =
      length-append (drop span.from fs) (f ∷ []) in
      ap (take span.count) dropped
      ∙ take_all span.count (drop span.from fs ++ f ∷ []) (omega (arith, size, longer, room))
      ∙ ap (λ (xs : List Frame). xs ++ f ∷ [])
      (sym (take_all span.count (drop span.from fs) (omega (arith, size, room))))
