-- What is least or greatest in a history, with one entry more.
use Rattle.std.proofs.Common.{◌≡◌, ℕ, ◌+◌, ◌-◌, ◌<◌, ◌≤◌, List, [], ◌∷◌, ◌++◌, length, map, Option, None, Some}
use Rattle.std.proofs.Common.{refl, ap, sym, ◌∙◌, append_assoc, arith}
use Rattle.std.specs.Prelude.{max, min, slice_index}
use Rattle.std.proofs.lemmas.List.{append-nil, map-append, length_push}
use Rattle.std.proofs.lemmas.List.Elements.{filter_map-append}
use Rattle.minislots.specs.declared.config.Config.{Config}
use Rattle.sched_calls.specs.declared.frame_map.FrameMap.{FrameMap}
use Rattle.sched_calls.specs.declared.reply.Reply.{Reply}
use Rattle.sched_calls.specs.declared.reply.Reply.TheVariants as replies
use Rattle.sched_calls.specs.declared.reply.Entry.{Entry}
use Rattle.sched_history.specs.History.{map_by}
use Rattle.sched_history.specs.Facts.{maps_of}
use Rattle.sched_history.specs.Reserves.{lapses_by, lapses_in}
use Rattle.sched_history.proofs.time.NextFrames.{maps_of-built, maps_of-unbuilt}
use Rattle.frame_picture.specs.Frames.{Frame, frames_after}
use Rattle.sched_report.specs.declared.extremes.Extremes.{Extremes}
use Rattle.sched_report.specs.Gaps.{gap_in}
use Rattle.sched_report.specs.Extremes.{clock_of, margin_in, margins_of, lag_in, greatest, lesser_with, least, AreExtremes}
use Rattle.sched_report.proofs.Pushed.{frames_after-built, frames_after-unbuilt}

greatest-push : (ns : List ℕ) (n : ℕ) → greatest (ns ++ n ∷ []) ≡ max (greatest ns) n
greatest-push [] n = omega arith
greatest-push (k ∷ ns) n = let rest = greatest-push ns n in omega (arith, rest)

lesser-swap : (k n : ℕ) (o : Option ℕ) → min k (lesser_with n o) ≡ min n (lesser_with k o)
lesser-swap k n None = omega arith
lesser-swap k n (Some j) = omega arith

least-push : (ns : List ℕ) (n : ℕ) → least (ns ++ n ∷ []) ≡ Some (lesser_with n (least ns))
least-push [] n = refl
least-push (k ∷ ns) n =
    ap (λ (o : Option ℕ). Some (lesser_with k o)) (least-push ns n) ∙ ap Some (lesser-swap k n (least ns))

-- the greatest and the least of what some members have, with one more
greatest-map : {X : Type 0} (f : X → ℕ) (xs : List X) (x : X)
    → greatest (map f (xs ++ x ∷ [])) ≡ max (greatest (map f xs)) (f x)
greatest-map f xs x = ap greatest (map-append f xs (x ∷ [])) ∙ greatest-push (map f xs) (f x)

least-map : {X : Type 0} (f : X → ℕ) (xs : List X) (x : X)
    → least (map f (xs ++ x ∷ [])) ≡ Some (lesser_with (f x) (least (map f xs)))
least-map f xs x = ap least (map-append f xs (x ∷ [])) ∙ least-push (map f xs) (f x)

-- what lapses with one entry more
lapses-push : (c : Config) (before es : List Entry) (e : Entry)
    → lapses_in c before (es ++ e ∷ []) ≡ lapses_in c before es + lapses_by c (before ++ es) e.reply
lapses-push c before [] e =
    omega (arith, ap (λ (h : List Entry). lapses_by c h e.reply) (append-nil before))
lapses-push c before (x ∷ es) e = omega (
  arith,
  lapses-push c (before ++ x ∷ []) es e,
  ap (λ (h : List Entry). lapses_by c h e.reply) (append_assoc before (x ∷ []) es),
)

one_margin : (e : Entry) (m : FrameMap) → e.reply ≡ replies.Built m
    → margins_of (e ∷ []) ≡ (m.start - clock_of e.call) ∷ []
one_margin e m is = rw is refl

no_margin : (e : Entry) → map_by e.reply ≡ None → margins_of (e ∷ []) ≡ []
no_margin e is = rw is refl

-- nothing lapses without a MAP
no_lapse : (c : Config) (h : List Entry) (reply : Reply) → map_by reply ≡ None → lapses_by c h reply ≡ 0
no_lapse c h (replies.Built m) none = absurd cc
no_lapse c h reply none = refl

module _ (c : Config) (before es : List Entry) (e : Entry) (old : Extremes) (are : AreExtremes c before es old) where
  -- a reply with no MAP leaves the extremes
  pub extremes-unbuilt : map_by e.reply ≡ None → AreExtremes c before (es ++ e ∷ []) old
  extremes-unbuilt none =
      let maps : maps_of (es ++ e ∷ []) ≡ maps_of es = maps_of-unbuilt es e none in
      let frames : frames_after before (es ++ e ∷ []) ≡ frames_after before es = frames_after-unbuilt before es e none in
      let margins : margins_of (es ++ e ∷ []) ≡ margins_of es =
      filter_map-append margin_in es (e ∷ []) ∙ ap (λ (l : List ℕ). margins_of es ++ l) (no_margin e none)
      ∙ append-nil (margins_of es) in
      record {
        elements = are.elements ∙ sym (ap (λ (ms : List FrameMap). greatest (map (λ m. length m.wire.elements) ms)) maps);
        margin = are.margin ∙ sym (ap least margins);
        gap = are.gap ∙ sym (ap (λ (fs : List Frame). least (map (gap_in c) fs)) frames);
        places = are.places;
        lags = λ receiver below. are.lags receiver below
            ∙ sym (ap (λ (fs : List Frame). greatest (map (lag_in c receiver) fs)) frames);
        lapsed = omega (
          arith,
          are.lapsed,
          lapses-push c before es e,
          no_lapse c (before ++ es) e.reply none,
        );
        few = omega (arith, are.few, length_push es e);
      }

  -- a MAP may raise or lower them
  pub extremes-built : (m : FrameMap) (new : Extremes) → e.reply ≡ replies.Built m
      → new.elements ≡ max old.elements (length m.wire.elements)
      → new.margin ≡ Some (lesser_with (m.start - clock_of e.call) old.margin)
      → new.gap ≡ Some (lesser_with (gap_in c (record { before = before ++ es; built = m })) old.gap)
      → length new.lags ≡ length old.lags
      → ((receiver : ℕ) → receiver < c.receivers → slice_index new.lags receiver
      ≡ max (slice_index old.lags receiver) (lag_in c receiver (record { before = before ++ es; built = m })))
      → new.lapsed ≡ old.lapsed + lapses_by c (before ++ es) (replies.Built m)
      → lapses_by c (before ++ es) (replies.Built m) ≤ 64
      → AreExtremes c before (es ++ e ∷ []) new
  extremes-built m new is elements margin gap places lags lapsed few =
      let f : Frame = record { before = before ++ es; built = m } in
      let maps : maps_of (es ++ e ∷ []) ≡ maps_of es ++ m ∷ [] = maps_of-built es e m is in
      let frames : frames_after before (es ++ e ∷ []) ≡ frames_after before es ++ f ∷ [] =
      frames_after-built before es e m is in
      let margins : margins_of (es ++ e ∷ []) ≡ margins_of es ++ (m.start - clock_of e.call) ∷ [] =
      filter_map-append margin_in es (e ∷ []) ∙ ap (λ (l : List ℕ). margins_of es ++ l) (one_margin e m is) in
      let long : FrameMap → ℕ = λ n. length n.wire.elements in
      record {
        elements = elements ∙ ap (λ n. max n (long m)) are.elements
            ∙ sym (ap (λ (ms : List FrameMap). greatest (map long ms)) maps ∙ greatest-map long (maps_of es) m);
        margin = margin ∙ ap (λ o. Some (lesser_with (m.start - clock_of e.call) o)) are.margin
            ∙ sym (ap least margins ∙ least-push (margins_of es) (m.start - clock_of e.call));
        gap = gap ∙ ap (λ o. Some (lesser_with (gap_in c f) o)) are.gap
            ∙ sym (ap (λ (fs : List Frame). least (map (gap_in c) fs)) frames
            ∙ least-map (gap_in c) (frames_after before es) f);
        places = places ∙ are.places;
        lags = λ receiver below. lags receiver below
            ∙ ap (λ n. max n (lag_in c receiver f)) (are.lags receiver below)
            ∙ sym (ap (λ (fs : List Frame). greatest (map (lag_in c receiver) fs)) frames
            ∙ greatest-map (lag_in c receiver) (frames_after before es) f);
        lapsed = omega (
          arith,
          lapsed,
          are.lapsed,
          lapses-push c before es e,
          ap (λ (r : Reply). lapses_by c (before ++ es) r) is,
        );
        few = omega (arith, lapsed, few, are.few, length_push es e);
      }
