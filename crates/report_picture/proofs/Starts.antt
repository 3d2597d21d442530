-- Where the frames start of a course with one frame more.
use Rattle.std.proofs.Common.{◌≡◌, ℕ, ◌*◌, ◌<◌, ◌≤◌, List, [], ◌∷◌, ◌++◌, length, get_or, map}
use Rattle.std.proofs.Common.{ap, sym, ◌∙◌, inl, inr, arith}
use Rattle.std.proofs.Math.Nat.{mul-le-mul_left}
use Rattle.std.proofs.lemmas.Bool.{cases_lt}
use Rattle.std.proofs.lemmas.List.{map_push, length-map, get_or_append_left, get_or_push}
use Rattle.frame_picture.specs.Frames.{Frame}
use Rattle.report_picture.specs.OverTime.{start_of}

-- one of those before it
pub start_of-front : (fs : List Frame) (f : Frame) (k : ℕ) → k < length fs
    → start_of (fs ++ f ∷ []) k ≡ start_of fs k
start_of-front fs f k below =
    ap (λ (ss : List ℕ). get_or ss k 0) (map_push (λ (g : Frame). g.built.start) fs f)
    ∙ get_or_append_left (map (λ g. g.built.start) fs) (f.built.start ∷ []) 0 k
    (omega (arith, below, length-map fs (λ (g : Frame). g.built.start)))

-- the new one
pub start_of-new : (fs : List Frame) (f : Frame) (k : ℕ) → k ≡ length fs
    → start_of (fs ++ f ∷ []) k ≡ f.built.start
start_of-new fs f k is =
    ap (λ (ss : List ℕ). get_or ss k 0) (map_push (λ (g : Frame). g.built.start) fs f)
    ∙ get_or_push (map (λ g. g.built.start) fs) f.built.start 0 k
    (length-map fs (λ (g : Frame). g.built.start) ∙ sym is)

-- a mark behind the first one stands behind some frame
pub mark-some : (w i : ℕ) → 0 < w → 0 < i → 0 < w * i
mark-some w i some later =
    let one : w * 1 ≤ w * i = mul-le-mul_left w (omega (arith, later)) in
    omega (arith, one, some)

-- where every second mark stands, of 800 steps
pub half-marks : (w i n : ℕ) → 0 < w → n ≡ 800 * w → w * 2 * i ≤ n → i ≤ 400
half-marks w i n some all within = elim (cases_lt 400 i) [
  | inl far ↦
      let above : w * 2 * 401 ≤ w * 2 * i = mul-le-mul_left (w * 2) (omega (arith, far)) in
      absurd (omega (arith, above, within, all, some))
  | inr near ↦ near
]
