-- What is kept while entries come one by one.
use Rattle.std.proofs.Common.{◌≡◌, ℕ, ◌+◌, ◌-◌, ◌<◌, ◌≤◌, List, [], ◌∷◌, ◌++◌, length, Option, None, Some}
use Rattle.std.proofs.Common.{refl, sym, ap, ◌∙◌, subst, arith, append_assoc, append-nil}
use Rattle.std.specs.Prelude.{min}
use Rattle.std.specs.List.{AllByRecursion}
use Rattle.flow_book.proofs.Order.{all-push}
use Rattle.minislots.specs.declared.config.Config.{Config}
use Rattle.map_build.specs.declared.met.Met.{Met}
use Rattle.sched_calls.specs.declared.frame_map.FrameMap.{FrameMap}
use Rattle.sched_calls.specs.declared.reply.Entry.{Entry}
use Rattle.sched_calls.specs.declared.reply.TheConstants.{MAX_ENTRIES}
use Rattle.sched_calls.specs.Reply.{IsEncodable}
use Rattle.sched_calls.specs.declared.reply.Reply.{Reply}
use Rattle.sched_history.specs.History.{map_by}
use Rattle.sched_history.specs.Reserves.{met_after}
use Rattle.frame_picture.specs.declared.along.Along.{Along}
use Rattle.frame_picture.specs.declared.layout.Scale.{Scale}
use Rattle.frame_picture.specs.declared.span.Span.{Span}
use Rattle.frame_picture.specs.Along.{IsAlong}
use Rattle.frame_picture.specs.Frames.{frame_by, frames_of, frames_in}
use Rattle.frame_picture.specs.Layout.{scale_of}
use Rattle.frame_picture.specs.Meeting.{met_by_each, TellsMet}
use Rattle.frame_picture.specs.Part.{IsPart, Keeps, HasManyDrawn}
use Rattle.frame_picture.proofs.Meetings.{met_by_each-push, tells-each}
use Rattle.frame_picture.proofs.FrameLists.{frames_of-push, count-push, one_frame, frames_behind-≤, frames_in-behind}
use Rattle.frame_picture.proofs.FrameLists.{length-frames_in}

-- a whole history is a part of its own
pub whole_part : (scale : Scale) (met : List Entry → Reply → List Met) (span : Span) (along : Along) (total : ℕ)
    (found : List (List Met)) (h : List Entry) → IsAlong scale along [] → along.number ≡ 0
    → total ≡ length (frames_of h) → TellsMet met [] h found → IsPart scale met span along total found h h
whole_part scale met span along total found h known first count tells = record {
  before = [];
  known = known;
  early = omega (arith, first);
  within = omega (arith, first);
  drawn = refl;
  count = count;
  tells = tells;
}

-- what is kept is a part
pub part_of : (c : Config) (span : Span) (along : Along) (total : ℕ) (found : List (List Met)) (kept h : List Entry)
    → Keeps c span along total found kept h → IsPart (scale_of c) (met_after c) span along total found kept h
part_of c span along total found kept h k = record {
  before = k.before;
  known = k.known;
  early = k.early;
  within = k.within;
  drawn = k.drawn;
  count = k.count;
  tells = tells-each c k.before kept found k.meets;
}

module _ (scale : Scale) (met : List Entry → Reply → List Met) (span : Span) (along : Along) (total : ℕ)
    (found : List (List Met)) (kept h : List Entry) where
  -- so many of its frames are drawn
  pub rows_are : IsPart scale met span along total found kept h
      → min span.count (total - span.from) ≡ length (frames_in span (frames_of h))
  rows_are part =
      ap (λ (n : ℕ). min span.count (n - span.from)) part.count ∙ sym (length-frames_in span (frames_of h))

  -- which are no more than the entries that are kept
  pub rows_few : IsPart scale met span along total found kept h → length kept ≤ MAX_ENTRIES
      → min span.count (total - span.from) ≤ MAX_ENTRIES
  rows_few part few =
      let rows = rows_are part in
      let same = ap length part.drawn in
      omega (
        arith,
        rows,
        same,
        length-frames_in span (frames_of (part.before ++ kept)),
        frames_behind-≤ part.before kept,
        part.known.number,
        part.early,
        few,
      )

module _ (c : Config) (span : Span) (along : Along) (total : ℕ) (found : List (List Met)) (kept h : List Entry) where
  module _ (e : Entry) (k : Keeps c span along total found kept h) (after : ℕ)
      (more : after ≡ total + length (frame_by [] (map_by e.reply))) where
    counted : after ≡ length (frames_of (h ++ e ∷ []))
    counted = omega (arith, more, k.count, count-push h e)

    meets_none : (xs : List Entry) → xs ≡ [] → found ≡ met_by_each c k.before xs
        → found ≡ met_by_each c (h ++ e ∷ []) xs
    meets_none [] none meets = meets
    meets_none (x ∷ xs) none meets = absurd (omega (arith, ap length none))

    -- before the first frame in the span nothing is kept
    pub keeps-ahead : (next : Along) → total < span.from
        → ((before : List Entry) → IsAlong (scale_of c) along before → IsAlong (scale_of c) next (before ++ e ∷ []))
        → Keeps c span next after found kept (h ++ e ∷ [])
    keeps-ahead next ahead goes =
        let same : k.before ≡ h = (k.ahead ahead).0 in
        let none : kept ≡ [] = (k.ahead ahead).1 in
        let now : IsAlong (scale_of c) next (h ++ e ∷ []) =
        goes h (subst (λ b. IsAlong (scale_of c) along b) same k.known) in
        let all : (h ++ e ∷ []) ++ kept ≡ h ++ e ∷ [] =
        ap (λ (xs : List Entry). (h ++ e ∷ []) ++ xs) none ∙ append-nil (h ++ e ∷ []) in
        let one = one_frame [] (map_by e.reply) in
        record {
          before = h ++ e ∷ [];
          known = now;
          early = omega (arith, now.number, counted, more, one, ahead);
          within = omega (arith, now.number, counted);
          drawn = ap (λ (xs : List Entry). frames_in span (frames_of xs)) all;
          count = counted;
          ahead = λ _. (refl, none);
          inside = λ _. all;
          reached = λ some. absurd (omega (arith, some, ap length none));
          few = k.few;
          whole = k.whole;
          meets = meets_none kept none k.meets;
        }

    -- the first entry that is kept comes right behind the frames before the span
    first_kept : (b xs : List Entry) → (0 < length xs → span.from ≤ along.number)
        → along.number ≡ length (frames_of b) → b ++ xs ≡ h → span.from ≤ total → span.from ≤ along.number
    first_kept b [] some number all reached =
        let same : length (frames_of b) ≡ length (frames_of h) =
        ap (λ (xs : List Entry). length (frames_of xs)) (sym (append-nil b) ∙ all) in
        omega (arith, number, same, k.count, reached)
    first_kept b (x ∷ xs) some number all reached = some (omega arith)

    -- then all are, up to the last frame in the span
    pub keeps-inside : (longer : List Entry) (more_found : List (List Met)) → span.from ≤ total
        → total - span.from < span.count → longer ≡ kept ++ e ∷ [] → length longer ≤ MAX_ENTRIES
        → IsEncodable e.reply → more_found ≡ found ++ met_after c h e.reply ∷ []
        → Keeps c span along after more_found longer (h ++ e ∷ [])
    keeps-inside longer more_found reached inside is few whole found_is =
        let all : k.before ++ kept ≡ h = k.inside inside in
        let now : k.before ++ longer ≡ h ++ e ∷ [] =
        ap (λ (xs : List Entry). k.before ++ xs) is ∙ sym (append_assoc k.before kept (e ∷ []))
        ∙ ap (λ (xs : List Entry). xs ++ e ∷ []) all in
        record {
          before = k.before;
          known = k.known;
          early = k.early;
          within = omega (arith, k.within, more);
          drawn = ap (λ (xs : List Entry). frames_in span (frames_of xs)) now;
          count = counted;
          ahead = λ less. absurd (omega (arith, less, reached, more));
          inside = λ _. now;
          reached = λ _. first_kept k.before kept k.reached k.known.number all reached;
          few = few;
          whole = subst (λ (xs : List Entry). AllByRecursion (λ e. IsEncodable e.reply) xs)
              (sym is) (all-push (λ e. IsEncodable e.reply) kept e k.whole whole);
          meets = found_is
              ∙ ap (λ (ms : List (List Met)). ms ++ met_after c h e.reply ∷ []) k.meets
              ∙ ap (λ (b : List Entry). met_by_each c k.before kept ++ met_after c b e.reply ∷ []) (sym all)
              ∙ sym (met_by_each-push c k.before kept e)
              ∙ ap (λ (xs : List Entry). met_by_each c k.before xs) (sym is);
        }

    closed_by : (o : Option FrameMap) → span.from ≤ length (frames_of h) → span.count ≤ length (frames_of h) - span.from
        → frames_in span (frames_of h ++ frame_by h o) ≡ frames_in span (frames_of h)
    closed_by None reached past = ap (frames_in span) (append-nil (frames_of h))
    closed_by (Some m) reached past =
        frames_in-behind span (frames_of h) (record { before = h; built = m }) reached past

    -- and nothing behind it
    pub keeps-past : span.from ≤ total → span.count ≤ total - span.from
        → Keeps c span along after found kept (h ++ e ∷ [])
    keeps-past reached past = record {
      before = k.before;
      known = k.known;
      early = k.early;
      within = omega (arith, k.within, more);
      drawn = k.drawn
          ∙ sym (ap (frames_in span) (frames_of-push h e)
          ∙ closed_by (map_by e.reply) (omega (arith, k.count, reached)) (omega (arith, k.count, past)));
      count = counted;
      ahead = λ less. absurd (omega (arith, less, reached, more));
      inside = λ less. absurd (omega (arith, less, past, more));
      reached = k.reached;
      few = k.few;
      whole = k.whole;
      meets = k.meets;
    }

  -- where too many are to be kept there are too many
  pub keeps-many : (e : Entry) → Keeps c span along total found kept h → total - span.from < span.count
      → MAX_ENTRIES ≤ length kept → HasManyDrawn span (h ++ e ∷ [])
  keeps-many e k inside many =
      let all : k.before ++ kept ≡ h = k.inside inside in
      let frames : length (frames_of (k.before ++ kept)) ≡ length (frames_of h) =
      ap (λ (xs : List Entry). length (frames_of xs)) all in
      let reached : span.from ≤ along.number = k.reached (omega (arith, many)) in
      record {
        before = k.before;
        among = kept;
        last = e;
        all = ap (λ (xs : List Entry). xs ++ e ∷ []) (sym all);
        reached = omega (arith, k.known.number, k.early, reached);
        inside = omega (arith, frames, k.count, inside);
        many = many;
      }
