-- The text of a flow: what stands there stands for the flow again; its numbers fit 64 bits, its names are ASCII, and
-- its keys are in order.
use Rattle.std.proofs.Common.{◌≡◌, ℕ, ◌<◌, ◌≤◌, ◌^◌, ◌==◌, max, true, List, [], ◌∷◌, map, None, Some, inl, inr, IsUtf8}
use Rattle.std.proofs.Common.{refl, ap, ◌∙◌, arith}
use Rattle.std.specs.Prelude.{codes, Option, option_and_then, if◌then◌else◌}
use Rattle.std.specs.List.{AllByRecursion}
use Rattle.std.proofs.lemmas.Bool.{lt-ltb, cases_Bool}
use Rattle.std.proofs.lemmas.Bool.Decides.{nat_tests}
use Rattle.json.proofs.Printed.Utf8.{are_ascii, IsUtf8-are_ascii}
use Rattle.serde_json.specs.Data.{Data, Members, object, string, depth, items_depth}
use Rattle.serde_json.specs.Find.{get}
use Rattle.serde_json.specs.View.{items_of}
use Rattle.sched_calls.specs.declared.spec.FlowSpec.{FlowSpec}
use Rattle.sched_calls.specs.declared.spec.FlowSpec.TheVariants.{Unsolicited, Polled, BestEffort}
use Rattle.json_fields.specs.Fields.{below, number_at, u8_at, u8_or, u32_at, u32_or, text_at, or_number}
use Rattle.call_reading.specs.Calls.{unsolicited_of, polled_of, best_effort_of, flow_of}
use Rattle.history_writing.specs.Json.{count, counts, optional_member, flow_data}
use Rattle.history_writing.specs.Fits.{FlowFits}
use Rattle.state_text.proofs.Readable.{IsReadable, AreReadable, MembersReadable}
use Rattle.state_text.proofs.Parts.{Part, always, unless, laid, found_in, found-laid, sorted}

-- ---- it is read back

-- a number that fits
pub below-fits : (limit n : ℕ) → n < limit → below limit n ≡ Some n
below-fits limit n fits = rw (lt-ltb n limit fits) refl

-- what stands under the key of a number that may be left out
abbrev pub or_none : ℕ → ℕ → Option Data
or_none missing n = if n == missing then None else Some (count n)

-- such a number is read back: where it is left out it is the one of a missing member
pub or_missing-data : (limit missing : ℕ) (key : List ℕ) (n : ℕ) (d : Data) → n < limit → get key d ≡ or_none missing n
    → or_number missing (get key d) (option_and_then (λ n. below limit n) (number_at key d)) ≡ Some n
unfolding number_at
or_missing-data limit missing key n d fits is = elim (cases_Bool (n == missing)) [
  | inl same ↦
      let none : get key d ≡ None = is ∙ rw same refl in
      let as_missing : missing ≡ n = grind (arith, nat_tests) in
      rw none (ap Some as_missing)
  | inr other ↦
      let some : get key d ≡ Some (count n) = is ∙ rw other refl in
      rw some (rw (below-fits limit n fits) refl)
]

-- the members of a flow of best effort, by their places
abbrev best_effort_parts : (priority rate burst peak reserved reserved-burst : ℕ) → List Part
best_effort_parts priority rate burst peak reserved reserved-burst =
    always (codes "burst") (count burst) ∷ always (codes "kind") (string (codes "best_effort"))
    ∷ unless 0 (codes "peak") peak ∷ always (codes "priority") (count priority) ∷ always (codes "rate") (count rate)
    ∷ unless 0 (codes "reserved") reserved ∷ unless 0 (codes "reserved_burst") reserved-burst ∷ []

-- a number of 32 bits that may be left out is read back from its place
word_or-laid : (key : List ℕ) (n : ℕ) (ps : List Part) → n < 2 ^ 32 → found_in key ps ≡ or_none 0 n
    → u32_or 0 key (object (laid ps)) ≡ Some n
unfolding u32_or u32_at
word_or-laid key n ps fits there =
    or_missing-data (2 ^ 32) 0 key n (object (laid ps)) fits (found-laid key ps ∙ there)

-- a flow of best effort is read back
best_effort_of-data : (priority rate burst peak reserved reserved-burst : ℕ)
    → FlowFits (BestEffort priority rate burst peak reserved reserved-burst)
    → best_effort_of (object (laid (best_effort_parts priority rate burst peak reserved reserved-burst)))
    ≡ Some (BestEffort priority rate burst peak reserved reserved-burst)
unfolding best_effort_of u8_at u32_at number_at
best_effort_of-data priority rate burst peak reserved reserved-burst fits =
    let ps = best_effort_parts priority rate burst peak reserved reserved-burst in
    let first = found-laid (codes "priority") ps in
    let second = found-laid (codes "rate") ps in
    rw (
      first,
      second,
      word_or-laid (codes "peak") peak ps fits.3 refl,
      word_or-laid (codes "reserved") reserved ps fits.4 refl,
      word_or-laid (codes "reserved_burst") reserved-burst ps fits.5 refl,
    ) (rw (below-fits (2 ^ 8) priority fits.0) (
    rw (below-fits (2 ^ 32) rate fits.1) (rw (below-fits (2 ^ 32) burst fits.2) refl)))

-- a flow is read back
pub flow_of-data : (spec : FlowSpec) → FlowFits spec → flow_of (flow_data spec) ≡ Some spec
unfolding flow_of unsolicited_of polled_of best_effort_of u8_at u8_or u32_at u32_or number_at text_at flow_data
flow_of-data (Unsolicited size interval jitter grants) fits =
    rw (below-fits (2 ^ 32) size fits.0) (
    rw (below-fits (2 ^ 32) interval fits.1) (rw (below-fits (2 ^ 32) jitter fits.2)
    (rw (below-fits (2 ^ 8) grants fits.3) refl)))
flow_of-data (Polled interval jitter rate burst peak) fits = elim (cases_Bool (peak == 0)) [
  | inl none ↦
      let as_missing : 0 ≡ peak = grind (arith, nat_tests) in
      rw none (rw (below-fits (2 ^ 32) interval fits.0) (
      rw (below-fits (2 ^ 32) jitter fits.1) (rw (below-fits (2 ^ 32) rate fits.2)
      (rw (below-fits (2 ^ 32) burst fits.3)
      (ap (λ (n : ℕ). Some (Polled interval jitter rate burst n)) as_missing)))))
  | inr stands ↦
      rw stands (rw (below-fits (2 ^ 32) interval fits.0) (
      rw (below-fits (2 ^ 32) jitter fits.1) (rw (below-fits (2 ^ 32) rate fits.2)
      (rw (below-fits (2 ^ 32) burst fits.3) (rw (below-fits (2 ^ 32) peak fits.4) refl)))))
]
flow_of-data (BestEffort priority rate burst peak reserved reserved-burst) fits =
    best_effort_of-data priority rate burst peak reserved reserved-burst fits

-- ---- its numbers fit, and its keys are in order

-- narrower numbers
pub of_byte : (n : ℕ) → n < 2 ^ 8 → n < 2 ^ 64
of_byte n h = omega (arith, h)

-- a number of 16 bits fits 64
pub of_half : (n : ℕ) → n < 2 ^ 16 → n < 2 ^ 64
of_half n h = omega (arith, h)

-- a number of 32 bits fits 64
pub of_word : (n : ℕ) → n < 2 ^ 32 → n < 2 ^ 64
of_word n h = omega (arith, h)

-- a name is UTF-8
pub name : (s : List ℕ) → are_ascii s ≡ true → IsUtf8 s
name s small = IsUtf8-are_ascii s small

-- numbers that fit
pub counts_readable : (limit : ℕ) (ns : List ℕ) → limit ≤ 2 ^ 64 → AllByRecursion (λ n. n < limit) ns
    → AreReadable (items_of (map count ns))
counts_readable limit [] most fits = tt
counts_readable limit (n ∷ ns) most fits =
    let here = fits.0 in
    (omega (arith, here, most), counts_readable limit ns most fits.1)

-- a number that may be left out
pub optional_readable : (missing : ℕ) (key : List ℕ) (n : ℕ) (behind : Members) → are_ascii key ≡ true → n < 2 ^ 64
    → MembersReadable behind → MembersReadable (optional_member missing key n behind)
optional_readable missing key n behind ascii fits readable = elim (cases_Bool (n == missing)) [
  | inl same ↦ rw same readable
  | inr other ↦ rw other (ascii, fits, readable)
]

-- a flow is read again in its text
pub flow_readable : (spec : FlowSpec) → FlowFits spec → IsReadable (flow_data spec)
unfolding flow_data
flow_readable (Unsolicited size interval jitter grants) fits = (
  refl,
  (
    refl,
    of_byte grants fits.3,
    (
      refl,
      of_word interval fits.1,
      (
        refl,
        of_word jitter fits.2,
        (refl, name (codes "unsolicited") refl, (refl, of_word size fits.0, tt)),
      ),
    ),
  ),
)
flow_readable (Polled interval jitter rate burst peak) fits = (
  sorted (always (codes "burst") (count burst) ∷ always (codes "interval_us") (count interval)
      ∷ always (codes "jitter_us") (count jitter) ∷ always (codes "kind") (string (codes "polled"))
      ∷ unless 0 (codes "peak") peak ∷ always (codes "rate") (count rate) ∷ []) refl,
  (
    refl,
    of_word burst fits.3,
    (
      refl,
      of_word interval fits.0,
      (
        refl,
        of_word jitter fits.1,
        (
          refl,
          name (codes "polled") refl,
          optional_readable 0 (codes "peak") peak _ refl (of_word peak fits.4) (refl, of_word rate fits.2, tt),
        ),
      ),
    ),
  ),
)
flow_readable (BestEffort priority rate burst peak reserved reserved-burst) fits = (
  sorted (always (codes "burst") (count burst) ∷ always (codes "kind") (string (codes "best_effort"))
      ∷ unless 0 (codes "peak") peak ∷ always (codes "priority") (count priority)
      ∷ always (codes "rate") (count rate) ∷ unless 0 (codes "reserved") reserved
      ∷ unless 0 (codes "reserved_burst") reserved-burst ∷ []) refl,
  (
    refl,
    of_word burst fits.2,
    (
      refl,
      name (codes "best_effort") refl,
      optional_readable 0 (codes "peak") peak _ refl (of_word peak fits.3) (
        refl,
        of_byte priority fits.0,
        (
          refl,
          of_word rate fits.1,
          optional_readable 0 (codes "reserved") reserved _ refl (of_word reserved fits.4)
              (optional_readable 0 (codes "reserved_burst") reserved-burst _ refl (of_word reserved-burst fits.5) tt),
        ),
      ),
    ),
  ),
)

-- ---- how deep it nests

-- whole numbers nest nothing
depth-numbers : (ns : List ℕ) → items_depth (items_of (map count ns)) ≡ 0
depth-numbers [] = refl
depth-numbers (n ∷ ns) = ap (max 0) (depth-numbers ns)

-- an array of them is one level deep
pub depth-counts : (ns : List ℕ) → depth (counts ns) ≡ 1
unfolding counts
depth-counts ns = let e = depth-numbers ns in omega (arith, e)

-- and so is a flow
pub depth-flow : (spec : FlowSpec) → depth (flow_data spec) ≡ 1
unfolding flow_data
depth-flow (Unsolicited size interval jitter grants) = refl
depth-flow (Polled interval jitter rate burst peak) = elim (cases_Bool (peak == 0)) [
  | inl none ↦ rw none refl
  | inr stands ↦ rw stands refl
]
depth-flow (BestEffort priority rate burst peak reserved reserved-burst) = elim (cases_Bool (peak == 0)) [
  | inl a ↦ elim (cases_Bool (reserved == 0)) [
    | inl b ↦ elim (cases_Bool (reserved-burst == 0)) [
      | inl d ↦ rw (a, b, d) refl
      | inr d ↦ rw (a, b, d) refl
    ]
    | inr b ↦ elim (cases_Bool (reserved-burst == 0)) [
      | inl d ↦ rw (a, b, d) refl
      | inr d ↦ rw (a, b, d) refl
    ]
  ]
  | inr a ↦ elim (cases_Bool (reserved == 0)) [
    | inl b ↦ elim (cases_Bool (reserved-burst == 0)) [
      | inl d ↦ rw (a, b, d) refl
      | inr d ↦ rw (a, b, d) refl
    ]
    | inr b ↦ elim (cases_Bool (reserved-burst == 0)) [
      | inl d ↦ rw (a, b, d) refl
      | inr d ↦ rw (a, b, d) refl
    ]
  ]
]
