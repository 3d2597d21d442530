-- The numbers of entries, and of one entry more.
use Rattle.std.proofs.Common.{◌≡◌, ℕ, ◌+◌, ◌-◌, ◌^◌, ◌<◌, ◌≤◌, Bool, false, List, [], ◌∷◌, ◌++◌, length, map}
use Rattle.std.proofs.Common.{Option, None, Some, rules, refl, sym, ap, subst, ◌∙◌, cond, arith, inl, inr}
use Rattle.std.proofs.Common.{length-append}
use Rattle.std.specs.Prelude.{max, min, slice_index, slice_set, ◌≢◌, ◌==◌}
use Rattle.std.proofs.lemmas.Bool.{cases_eq, eq-eqb, ne_eqb}
use Rattle.std.proofs.lemmas.List.{append-nil, map-append, get_or-set_same, get_or-set_other, length-set}
use Rattle.std.proofs.lemmas.List.Elements.{filter_map-append}
use Rattle.std.proofs.lemmas.List.Sums.{sum_by_push, count_by-le-length}
use Rattle.sched_calls.specs.declared.frame_map.FrameMap.{FrameMap}
use Rattle.sched_calls.specs.declared.reply.Refusal.{Refusal}
use Rattle.sched_calls.specs.declared.reply.Reply.{Reply}
use Rattle.sched_calls.specs.declared.reply.Reply.TheVariants.{Admitted, Changed, Removed, Taken, Noted, Reserved}
use Rattle.sched_calls.specs.declared.reply.Reply.TheVariants.{Built, Skipped, Flow, Refused}
use Rattle.sched_calls.specs.declared.reply.Entry.{Entry}
use Rattle.sched_lines.specs.Line.{refusal_number}
use Rattle.live_command.specs.declared.numbers.Numbers.{Numbers}
use Rattle.live_command.specs.Numbers.{clock_of, map_in, maps_of, margin_in, margins_of, is_refusal, refusals_with}
use Rattle.live_command.specs.Numbers.{greatest, lesser_with, least, CountsRefusals, AreNumbersOf}

greatest-push : (ns : List ℕ) (n : ℕ) → greatest (ns ++ n ∷ []) ≡ max (greatest ns) n
greatest-push [] n = omega arith
greatest-push (k ∷ ns) n = let rest = greatest-push ns n in omega (arith, rest)

lesser-swap : (k n : ℕ) (o : Option ℕ) → min k (lesser_with n o) ≡ min n (lesser_with k o)
lesser-swap k n None = omega arith
lesser-swap k n (Some j) = omega arith

least-push : (ns : List ℕ) (n : ℕ) → least (ns ++ n ∷ []) ≡ Some (lesser_with n (least ns))
least-push [] n = refl
least-push (k ∷ ns) n =
    ap (λ (o : Option ℕ). Some (lesser_with k o)) (least-push ns n) ∙ ap Some (lesser-swap k n (least ns))

-- the number of a refusal is from 1 to 23
within : (refusal : Refusal) → (1 ≤ refusal_number refusal) × (refusal_number refusal ≤ 23)
within refusal = search rules

-- the refusals with a number, of one entry more
refusals-push : (number : ℕ) (es : List Entry) (e : Entry)
    → refusals_with number (es ++ e ∷ []) ≡ refusals_with number es + cond (is_refusal number e.reply) 1 0
refusals-push number es e = sum_by_push (λ (x : Entry). cond (is_refusal number x.reply) 1 0) es e

module _ (counts : List ℕ) (es : List Entry) (e : Entry) (counted : CountsRefusals counts es) where
  -- an entry that is no refusal
  pub refused-same : ((number : ℕ) → is_refusal number e.reply ≡ false) → CountsRefusals counts (es ++ e ∷ [])
  refused-same none = record {
    places = counted.places;
    each = λ place within.
        let more : refusals_with (place + 1) (es ++ e ∷ []) ≡ refusals_with (place + 1) es + 0 =
        refusals-push (place + 1) es e ∙ ap (λ (b : Bool). refusals_with (place + 1) es + cond b 1 0)
        (none (place + 1)) in
        omega (arith, counted.each place within, more);
  }

  -- a refusal, which is counted at its place
  refused-more : (refusal : Refusal) (count : ℕ) → e.reply ≡ Refused refusal
      → count ≡ slice_index counts (refusal_number refusal - 1) + 1
      → CountsRefusals (slice_set counts (refusal_number refusal - 1) count) (es ++ e ∷ [])
  refused-more refusal count is one = record {
    places = length-set counts (refusal_number refusal - 1) count ∙ counted.places;
    each = λ place inside.
        let number = refusal_number refusal in
        let bounds = within refusal in
        let more : refusals_with (place + 1) (es ++ e ∷ [])
        ≡ refusals_with (place + 1) es + cond (number == place + 1) 1 0 =
        refusals-push (place + 1) es e ∙ ap (λ (r : Reply). refusals_with (place + 1) es
        + cond (is_refusal (place + 1) r) 1 0) is in
        elim (cases_eq number (place + 1)) [
          | inl same ↦
              let at : place ≡ number - 1 = omega (arith, same) in
              let here : slice_index (slice_set counts (number - 1) count) (number - 1) ≡ count =
              get_or-set_same counts (number - 1) count 0 (omega (arith, counted.places, bounds.0, bounds.1)) in
              let now : slice_index (slice_set counts (number - 1) count) place ≡ count =
              ap (slice_index (slice_set counts (number - 1) count)) at ∙ here in
              let before : slice_index counts (number - 1) ≡ refusals_with (place + 1) es =
              ap (slice_index counts) (sym at) ∙ counted.each place inside in
              let added : refusals_with (place + 1) (es ++ e ∷ []) ≡ refusals_with (place + 1) es + 1 =
              more ∙ ap (λ (b : Bool). refusals_with (place + 1) es + cond b 1 0) (eq-eqb number (place + 1) same) in
              omega (arith, now, one, before, added)
          | inr other ↦
              let at : place ≢ number - 1 = λ same. other (omega (arith, same, bounds.0)) in
              let there : slice_index (slice_set counts (number - 1) count) place ≡ slice_index counts place =
              get_or-set_other counts (number - 1) place count 0 at in
              let added : refusals_with (place + 1) (es ++ e ∷ []) ≡ refusals_with (place + 1) es + 0 =
              more ∙ ap (λ (b : Bool). refusals_with (place + 1) es + cond b 1 0) (ne_eqb number (place + 1) other) in
              omega (arith, there, counted.each place inside, added)
        ];
  }

one_map : (e : Entry) (m : FrameMap) → e.reply ≡ Built m → maps_of (e ∷ []) ≡ m ∷ []
one_map e m is = rw is refl

one_margin : (e : Entry) (m : FrameMap) → e.reply ≡ Built m
    → margins_of (e ∷ []) ≡ (m.start - clock_of e.call) ∷ []
one_margin e m is = rw is refl

no_map : (e : Entry) → map_in e.reply ≡ None → maps_of (e ∷ []) ≡ []
no_map e is = rw is refl

no_margin : (e : Entry) → map_in e.reply ≡ None → margins_of (e ∷ []) ≡ []
no_margin e is = rw is refl

module _ (old new : Numbers) (es : List Entry) (e : Entry) (are : AreNumbersOf old es)
    (entries : new.entries ≡ old.entries + 1) where
  -- the entry of a MAP
  pub numbers-map : (m : FrameMap) → e.reply ≡ Built m → new.maps ≡ old.maps + 1 → new.refused ≡ old.refused
      → new.elements ≡ max old.elements (length m.wire.elements) → new.behind ≡ max old.behind (m.start - m.ack)
      → new.margin ≡ Some (lesser_with (m.start - clock_of e.call) old.margin)
      → AreNumbersOf new (es ++ e ∷ [])
  numbers-map m is maps refused elements behind margin =
      let all : maps_of (es ++ e ∷ []) ≡ maps_of es ++ m ∷ [] =
      filter_map-append (λ (x : Entry). map_in x.reply) es (e ∷ [])
      ∙ ap (λ (l : List FrameMap). maps_of es ++ l) (one_map e m is) in
      let margins : margins_of (es ++ e ∷ []) ≡ margins_of es ++ (m.start - clock_of e.call) ∷ [] =
      filter_map-append margin_in es (e ∷ []) ∙ ap (λ (l : List ℕ). margins_of es ++ l) (one_margin e m is) in
      let greater : (f : FrameMap → ℕ) → greatest (map f (maps_of (es ++ e ∷ [])))
      ≡ max (greatest (map f (maps_of es))) (f m) =
      λ f. ap (λ (l : List FrameMap). greatest (map f l)) all
      ∙ ap greatest (map-append f (maps_of es) (m ∷ [])) ∙ greatest-push (map f (maps_of es)) (f m) in
      record {
        entries = omega (arith, entries, are.entries, length-append es (e ∷ []));
        maps = maps ∙ ap (λ (n : ℕ). n + 1) are.maps ∙ sym (length-append (maps_of es) (m ∷ []))
            ∙ sym (ap length all);
        refused = subst (λ (l : List ℕ). CountsRefusals l (es ++ e ∷ [])) (sym refused)
            (refused-same old.refused es e are.refused
            (λ number. ap (is_refusal number) is));
        elements = elements ∙ ap (λ (n : ℕ). max n (length m.wire.elements)) are.elements
            ∙ sym (greater (λ (k : FrameMap). length k.wire.elements));
        margin = margin ∙ ap (λ (o : Option ℕ). Some (lesser_with (m.start - clock_of e.call) o)) are.margin
            ∙ sym (ap least margins ∙ least-push (margins_of es) (m.start - clock_of e.call));
        behind = behind ∙ ap (λ (n : ℕ). max n (m.start - m.ack)) are.behind
            ∙ sym (greater (λ (k : FrameMap). k.start - k.ack));
      }

  -- any other entry
  pub numbers-other : map_in e.reply ≡ None → CountsRefusals new.refused (es ++ e ∷ []) → new.maps ≡ old.maps
      → new.elements ≡ old.elements → new.behind ≡ old.behind → new.margin ≡ old.margin
      → AreNumbersOf new (es ++ e ∷ [])
  numbers-other none refused maps elements behind margin =
      let all : maps_of (es ++ e ∷ []) ≡ maps_of es =
      filter_map-append (λ (x : Entry). map_in x.reply) es (e ∷ [])
      ∙ ap (λ (l : List FrameMap). maps_of es ++ l) (no_map e none) ∙ append-nil (maps_of es) in
      let margins : margins_of (es ++ e ∷ []) ≡ margins_of es =
      filter_map-append margin_in es (e ∷ []) ∙ ap (λ (l : List ℕ). margins_of es ++ l) (no_margin e none)
      ∙ append-nil (margins_of es) in
      record {
        entries = omega (arith, entries, are.entries, length-append es (e ∷ []));
        maps = maps ∙ are.maps ∙ sym (ap length all);
        refused = refused;
        elements = elements ∙ are.elements
            ∙ sym (ap (λ (l : List FrameMap). greatest (map (λ (k : FrameMap). length k.wire.elements) l)) all);
        margin = margin ∙ are.margin ∙ sym (ap least margins);
        behind = behind ∙ are.behind
            ∙ sym (ap (λ (l : List FrameMap). greatest (map (λ (k : FrameMap). k.start - k.ack) l)) all);
      }

  -- the entry of a refusal
  pub numbers-refused : (refusal : Refusal) (count : ℕ) → length es < 2 ^ 64 - 1 → e.reply ≡ Refused refusal
      → (slice_index old.refused (refusal_number refusal - 1) < 2 ^ 64 - 1
      → count ≡ slice_index old.refused (refusal_number refusal - 1) + 1)
      → new ≡ record old {
        entries = new.entries;
        refused = slice_set old.refused (refusal_number refusal - 1) count;
      } → AreNumbersOf new (es ++ e ∷ [])
  numbers-refused refusal count few is one state =
      let number = refusal_number refusal in
      let bounds = within refusal in
      let known : slice_index old.refused (number - 1) ≡ refusals_with (number - 1 + 1) es =
      are.refused.each (number - 1) (omega (arith, bounds.0, bounds.1)) in
      let most : refusals_with (number - 1 + 1) es ≤ length es =
      count_by-le-length (λ (x : Entry). is_refusal (number - 1 + 1) x.reply) es in
      let fits : slice_index old.refused (number - 1) < 2 ^ 64 - 1 = omega (arith, few, known, most) in
      let refused = refused-more old.refused es e are.refused refusal count is (one fits) in
      numbers-other (ap map_in is)
      (subst (λ (n : Numbers). CountsRefusals n.refused (es ++ e ∷ [])) (sym state) refused)
      (ap (λ (n : Numbers). n.maps) state) (ap (λ (n : Numbers). n.elements) state)
      (ap (λ (n : Numbers). n.behind) state) (ap (λ (n : Numbers). n.margin) state)

-- a reply that is neither a MAP nor a refusal
pub neither : (reply : Reply) → ((m : FrameMap) → reply ≢ Built m) → ((refusal : Refusal) → reply ≢ Refused refusal)
    → (map_in reply ≡ None) × ((number : ℕ) → is_refusal number reply ≡ false)
neither (Built m) built refused = absurd (built m refl)
neither (Refused refusal) built refused = absurd (refused refusal refl)
neither (Admitted p) built refused = (refl, λ number. refl)
neither (Changed p) built refused = (refl, λ number. refl)
neither Removed built refused = (refl, λ number. refl)
neither Taken built refused = (refl, λ number. refl)
neither Noted built refused = (refl, λ number. refl)
neither Reserved built refused = (refl, λ number. refl)
neither (Skipped next) built refused = (refl, λ number. refl)
neither (Flow asked granted outstanding) built refused = (refl, λ number. refl)

one_at_most : (e : Entry) (o : Option FrameMap) → map_in e.reply ≡ o → length (maps_of (e ∷ [])) ≤ 1
one_at_most e None is = rw is (omega arith)
one_at_most e (Some m) is = rw is (omega arith)

-- there are no more MAPs than entries
pub fits_maps : (es : List Entry) → length (maps_of es) ≤ length es
fits_maps [] = omega arith
fits_maps (e ∷ es) =
    let all : length (maps_of (e ∷ es)) ≡ length (maps_of (e ∷ [])) + length (maps_of es) =
    ap length (filter_map-append (λ (x : Entry). map_in x.reply) (e ∷ []) es)
    ∙ length-append (maps_of (e ∷ [])) (maps_of es) in
    omega (arith, all, one_at_most e (map_in e.reply) refl, fits_maps es)
