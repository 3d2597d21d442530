-- What is drawn piece by piece.
use Rattle.std.proofs.Common.{◌≡◌, ℕ, ◌+◌, Bool, true, List, [], ◌∷◌, ◌++◌, length, map, flat_map, refl, sym}
use Rattle.std.proofs.Common.{Option, None, Some, Result, Ok, Err, ap, ◌∙◌, append_assoc, append-nil, arith}
use Rattle.std.specs.Prelude.{MatchResult}
use Rattle.std.specs.List.{range_with_len}
use Rattle.std.specs.Io.KnownBytes.{Appends, append_known}
use Rattle.std.proofs.KnownBytes.{Appends-trans}
use Rattle.std.proofs.lemmas.Grind.{flat_map-append}
use Rattle.std.proofs.lemmas.List.FromFn.{map-range_with_len_more}
use Rattle.map_drawing.proofs.Ranges.{flat_map_next}
use Rattle.text_stream.specs.declared.fault.TextFault.{TextFault}
use Rattle.text_stream.specs.declared.fault.TextFault.TheVariants.{Output}
use Rattle.map_build.specs.declared.met.Met.{Met}
use Rattle.sched_calls.specs.declared.reply.Entry.{Entry}
use Rattle.sched_calls.specs.declared.reply.Reply.{Reply}
use Rattle.frame_picture.specs.declared.bar.Bar.{Bar}
use Rattle.frame_picture.specs.declared.layout.Scale.{Scale}
use Rattle.frame_picture.specs.declared.span.Place.{Place}
use Rattle.frame_picture.specs.Frames.{Frame}
use Rattle.frame_picture.specs.Bars.{bar_text}
use Rattle.frame_picture.specs.Picture.{row_text, rows_text}

module _ (a b c : Option (List ℕ)) where
  -- one bar more
  pub bars_more : (f : ℕ → Bar) (n : ℕ) → Appends a b (flat_map bar_text (map f (range_with_len 0 n)))
      → Appends b c (bar_text (f n)) → Appends a c (flat_map bar_text (map f (range_with_len 0 (n + 1))))
  bars_more f n before one =
      rw (map-range_with_len_more f 0 n n (omega arith), flat_map-append, append-nil)
      (Appends-trans a b c (flat_map bar_text (map f (range_with_len 0 n))) (bar_text (f n)) before one)

  -- what one number more makes
  pub text_more : (f : ℕ → List ℕ) (n : ℕ) → Appends a b (flat_map f (range_with_len 0 n)) → Appends b c (f n)
      → Appends a c (flat_map f (range_with_len 0 (n + 1)))
  text_more f n before one =
      rw (flat_map_next f n) (Appends-trans a b c (flat_map f (range_with_len 0 n)) (f n) before one)

-- what is written or waits, and a text behind it
pub then_text : {A : Type 0} (a b c : Option (List ℕ)) (x y : List ℕ) (old mid new : Bool) (r : Result A TextFault)
    → Appends a b x × (mid ≡ old) → MatchResult r (λ _. Appends b c y × (new ≡ mid)) (λ e. (e ≡ Output) × (new ≡ true))
    → MatchResult r (λ _. Appends a c (x ++ y) × (new ≡ old)) (λ e. (e ≡ Output) × (new ≡ true))
then_text a b c x y old mid new (Ok v) first next = (Appends-trans a b c x y first.0 next.0, next.1 ∙ first.1)
then_text a b c x y old mid new (Err e) first next = next

-- the rows of frames, and then of others
pub rows_text-append : (scale : Scale) (met : List Entry → Reply → List Met) (from row : ℕ) (fs gs : List Frame)
    → rows_text scale met from row (fs ++ gs)
    ≡ rows_text scale met from row fs ++ rows_text scale met from (row + length fs) gs
rows_text-append scale met from row [] gs =
    let same : row + 0 ≡ row = omega arith in rw same refl
rows_text-append scale met from row (f ∷ fs) gs =
    let place : Place = record { number = from + row; row = row } in
    let same : row + 1 + length fs ≡ row + length (f ∷ fs) = omega arith in
    ap (λ (t : List ℕ). row_text scale met place f ++ t)
    (rows_text-append scale met from (row + 1) fs gs
    ∙ ap (λ (k : ℕ). rows_text scale met from (row + 1) fs ++ rows_text scale met from k gs) same)
    ∙ sym (append_assoc (row_text scale met place f) (rows_text scale met from (row + 1) fs)
    (rows_text scale met from (row + length (f ∷ fs)) gs))

-- a text that waits behind nothing, and is written
pub Appends-whole : (a b c : Option (List ℕ)) (waiting text : List ℕ)
    → Appends (append_known a []) (append_known b waiting) text → Appends b c waiting → Appends a c text
Appends-whole None b c waiting text drawn out = tt
Appends-whole (Some xs) None c waiting text drawn out = absurd drawn
Appends-whole (Some xs) (Some ys) None waiting text drawn out = absurd out
Appends-whole (Some xs) (Some ys) (Some zs) waiting text drawn out =
    out ∙ drawn ∙ ap (λ (t : List ℕ). t ++ text) (append-nil xs)
