-- What is kept after one frame more.
use Rattle.std.proofs.Common.{◌≡◌, ℕ, ◌+◌, ◌-◌, ◌*◌, ◌/◌, ◌%◌, ◌<◌, ◌≤◌, List, [], ◌∷◌, ◌++◌, length, take}
use Rattle.std.proofs.Common.{get_or, set, inl, inr, ap, sym, subst, ◌∙◌, arith}
use Rattle.std.proofs.Math.Nat.{mul-div_cancel, mul-mod_right, mod-eq-sub-mul-div, div-lt_iff_lt-mul, mul-div-le}
use Rattle.std.proofs.lemmas.Bool.{cases_lt}
use Rattle.std.proofs.lemmas.Grind.{get_or-set_at}
use Rattle.std.proofs.lemmas.List.{take-append-le, take_all, length_push, length-set, get_or-set_other}
use Rattle.minislots.specs.declared.config.Config.{Config}
use Rattle.frame_picture.specs.Frames.{Frame}
use Rattle.sched_report.specs.declared.slots.Slots.{Slots}
use Rattle.report_picture.specs.declared.over_time.UseOverTime.{UseOverTime}
use Rattle.report_picture.specs.OverTime.{use_in, start_of, IsWidth}
use Rattle.report_picture.specs.Kept.{IsOverTime, IsReadyFor, HasBegun}
use Rattle.report_picture.proofs.Widths.{width-some}
use Rattle.report_picture.proofs.Starts.{start_of-front, start_of-new, mark-some}

-- so many times a number, divided by it
times-div : (n k : ℕ) → 0 < n → n * k / n ≡ k
times-div n k some =
    let swap : n * k ≡ k * n = omega arith in
    ap (λ m. m / n) swap ∙ mul-div_cancel k some

whole-div : (n k : ℕ) → n % k ≡ 0 → k * (n / k) ≡ n
whole-div n k none = omega (arith, mod-eq-sub-mul-div n k, mul-div-le n k, none)

module _ (c : Config) (u : UseOverTime) (fs : List Frame) (start : ℕ) (is : IsReadyFor c u fs) where
  -- where the next frame is not the first one of a step, nothing is noted
  pub begun-between : (u.frames % u.width ≡ 0 → ⊥) → HasBegun c u fs start
  begun-between between = record {
    ready = is;
    first = λ i d here.
        absurd (between (ap (λ n. n % u.width) (is.are.count ∙ sym here) ∙ mul-mod_right u.width i));
  }

  -- where it is, its start is
  pub begun-at : u.frames % u.width ≡ 0
      → HasBegun c (record u { firsts = set u.firsts (u.frames / u.width) start }) fs start
  begun-at begins =
      let at = u.frames / u.width in
      let some : 0 < u.width = width-some (length fs + 1) u.width is.width in
      let end : u.width * at ≡ u.frames = whole-div u.frames u.width begins in
      let below : u.frames < 801 * u.width = omega (arith, is.width.enough, is.are.count, some) in
      let few : at < 801 = (div-lt_iff_lt-mul {k = u.width} {x = u.frames} {y = 801} some).1 below in
      record {
        ready = record {
          are = record {
            count = is.are.count;
            long = is.are.long;
            total = is.are.total;
            marks = is.are.marks;
          };
          starts = record {
            long_firsts = length-set u.firsts at start ∙ is.starts.long_firsts;
            long_lasts = is.starts.long_lasts;
            last = is.starts.last;
            firsts = λ i d within.
                get_or-set_other u.firsts at i start d
                (λ same. omega (arith, ap (λ k. u.width * k) same, end, within, is.are.count))
                ∙ is.starts.firsts i d within;
            lasts = is.starts.lasts;
          };
          width = is.width;
        };
        first = λ i d here.
            let same : i ≡ at = sym (times-div u.width i some) ∙ ap (λ n. n / u.width) (here ∙ sym is.are.count) in
            get_or-set_at u.firsts at i start d same (omega (arith, is.starts.long_firsts, few));
      }

module _ (c : Config) (u : UseOverTime) (fs : List Frame) (f : Frame) (total : Slots) (start : ℕ)
    (begun : HasBegun c u fs start) (all : total ≡ use_in c (fs ++ f ∷ [])) (starts : start ≡ f.built.start) where
  is : IsReadyFor c u fs
  is = begun.ready

  longer : length (fs ++ f ∷ []) ≡ length fs + 1
  longer = length_push fs f

  new_width : IsWidth (length (fs ++ f ∷ [])) u.width
  new_width = subst (λ n. IsWidth n u.width) (sym longer) is.width

  some : 0 < u.width
  some = width-some (length fs + 1) u.width is.width

  -- a mark before the new frame stays
  before : (i : ℕ) (s : Slots) → u.width * i ≤ length fs
      → get_or u.marks i s ≡ use_in c (take (u.width * i) (fs ++ f ∷ []))
  before i s within =
      is.are.marks i s within ∙ ap (use_in c) (sym (take-append-le (u.width * i) fs (f ∷ []) within))

  -- the new frame is the last one
  new_last : (k : ℕ) → k ≡ length fs → start ≡ start_of (fs ++ f ∷ []) k
  new_last k here = starts ∙ sym (start_of-new fs f k here)

  -- where the frame behind a mark starts
  first_there : (i d : ℕ) → u.width * i < length (fs ++ f ∷ [])
      → get_or u.firsts i d ≡ start_of (fs ++ f ∷ []) (u.width * i)
  first_there i d within = elim (cases_lt (u.width * i) (length fs)) [
    | inl below ↦ is.starts.firsts i d below ∙ sym (start_of-front fs f (u.width * i) below)
    | inr past ↦
        let here : u.width * i ≡ length fs = omega (arith, past, within, longer) in
        begun.first i d here ∙ new_last (u.width * i) here
  ]

  -- and where the one before it does
  last_there : (i d : ℕ) → 0 < i → u.width * i ≤ length fs
      → get_or u.lasts i d ≡ start_of (fs ++ f ∷ []) (u.width * i - 1)
  last_there i d later within =
      is.starts.lasts i d later within
      ∙ sym (start_of-front fs f (u.width * i - 1) (omega (arith, within, mark-some u.width i some later)))

  -- where the new frame ends no step, no mark stands behind it
  pub added-between : ((u.frames + 1) % u.width ≡ 0 → ⊥)
      → IsOverTime c (record u { frames = u.frames + 1; total = total; last = start }) (fs ++ f ∷ [])
  added-between between =
      let not_past : (i : ℕ) → u.width * i ≤ length (fs ++ f ∷ []) → u.width * i ≤ length fs = λ i within.
      elim (cases_lt (length fs) (u.width * i)) [
        | inl past ↦
            let end : u.frames + 1 ≡ u.width * i = omega (arith, past, within, longer, is.are.count) in
            absurd (between (ap (λ n. n % u.width) end ∙ mul-mod_right u.width i))
        | inr within ↦ within
      ] in
      record {
        are = record {
          count = omega (arith, is.are.count, longer);
          long = is.are.long;
          total = all;
          marks = λ i s within. before i s (not_past i within);
        };
        starts = record {
          long_firsts = is.starts.long_firsts;
          long_lasts = is.starts.long_lasts;
          last = new_last (length (fs ++ f ∷ []) - 1) (omega (arith, longer));
          firsts = first_there;
          lasts = λ i d later within. last_there i d later (not_past i within);
        };
        width = new_width;
      }

  -- where it ends one, the mark behind it is the use of all frames
  pub added-at : (u.frames + 1) % u.width ≡ 0
      → IsOverTime c (record u {
        frames = u.frames + 1;
        total = total;
        last = start;
        marks = set u.marks ((u.frames + 1) / u.width) total;
        lasts = set u.lasts ((u.frames + 1) / u.width) start;
      }) (fs ++ f ∷ [])
  added-at ends =
      let at = (u.frames + 1) / u.width in
      let end : u.width * at ≡ u.frames + 1 = whole-div (u.frames + 1) u.width ends in
      let below : u.frames + 1 < 801 * u.width = omega (arith, is.width.enough, is.are.count, some) in
      let few : at < 801 = (div-lt_iff_lt-mul {k = u.width} {x = u.frames + 1} {y = 801} some).1 below in
      let here : (i : ℕ) → length fs < u.width * i → u.width * i ≤ length (fs ++ f ∷ []) → i ≡ at = λ i past within.
      let same : u.width * i ≡ u.frames + 1 = omega (arith, past, within, longer, is.are.count) in
      sym (times-div u.width i some) ∙ ap (λ n. n / u.width) same in
      record {
        are = record {
          count = omega (arith, is.are.count, longer);
          long = length-set u.marks at total ∙ is.are.long;
          total = all;
          marks = λ i s within. elim (cases_lt (length fs) (u.width * i)) [
            | inl past ↦
                get_or-set_at u.marks at i total s (here i past within) (omega (arith, is.are.long, few)) ∙ all
                ∙ ap (use_in c) (sym (take_all (u.width * i) (fs ++ f ∷ []) (omega (arith, past, longer))))
            | inr within ↦
                get_or-set_other u.marks at i total s
                (λ same. omega (arith, ap (λ k. u.width * k) same, end, within, is.are.count))
                ∙ before i s within
          ];
        };
        starts = record {
          long_firsts = is.starts.long_firsts;
          long_lasts = length-set u.lasts at start ∙ is.starts.long_lasts;
          last = new_last (length (fs ++ f ∷ []) - 1) (omega (arith, longer));
          firsts = first_there;
          lasts = λ i d later within. elim (cases_lt (length fs) (u.width * i)) [
            | inl past ↦
                get_or-set_at u.lasts at i start d (here i past within) (omega (arith, is.starts.long_lasts, few))
                ∙ new_last (u.width * i - 1) (omega (arith, past, within, longer))
            | inr within ↦
                get_or-set_other u.lasts at i start d
                (λ same. omega (arith, ap (λ k. u.width * k) same, end, within, is.are.count))
                ∙ last_there i d later within
          ];
        };
        width = new_width;
      }
