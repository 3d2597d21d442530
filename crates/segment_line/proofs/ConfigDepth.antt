-- The JSON value of a configuration nests no deeper than three levels.
use Rattle.std.proofs.Common.{◌≡◌, ◌≤◌, refl, arith}
use Rattle.std.proofs.Common.{◌==◌, inl, inr}
use Rattle.std.specs.Prelude.{codes}
use Rattle.std.proofs.lemmas.Bool.{cases_Bool}
use Rattle.serde_json.specs.Data.{Members, object, member, depth, members_depth}
use Rattle.minislots.specs.declared.bursts.Bursts.{Bursts}
use Rattle.minislots.specs.declared.bursts.Bursts.TheVariants.{Uniform, Described}
use Rattle.minislots.specs.declared.bursts.Descriptors.{Descriptors}
use Rattle.minislots.specs.declared.bursts.Profile.{Profile}
use Rattle.minislots.specs.declared.config.Config.{Config}
use Rattle.history_writing.specs.Json.{count}
use Rattle.history_writing.specs.HistoryText.{profile_data, descriptors_data, members_with, config_data}
use Rattle.history_writing.specs.HistoryText.{front_members, back_members}
use Rattle.segment_line.proofs.ConfigBack.{unsolicited_stands}

depth-profile : (p : Profile) → depth (profile_data p) ≡ 1
unfolding profile_data
depth-profile p = refl

depth-descriptors : (d : Descriptors) → depth (descriptors_data d) ≤ 2
unfolding descriptors_data
depth-descriptors d =
    let long = depth-profile d.long in
    let short = depth-profile d.short in
    let unsolicited = depth-profile d.unsolicited in
    elim (unsolicited_stands d) [
      | inl as_long ↦ rw as_long.0 (omega (arith, long, short))
      | inr stands ↦ rw stands (omega (arith, long, short, unsolicited))
    ]

depth-front : (c : Config) (behind : Members) → members_depth (front_members c behind) ≤ members_depth behind
depth-front c behind = elim (cases_Bool (c.flows == 64)) [
  | inl a ↦ elim (cases_Bool (c.open_idle == 0)) [
    | inl b ↦ rw (a, b) (omega arith)
    | inr b ↦ rw (a, b) (omega arith)
  ]
  | inr a ↦ elim (cases_Bool (c.open_idle == 0)) [
    | inl b ↦ rw (a, b) (omega arith)
    | inr b ↦ rw (a, b) (omega arith)
  ]
]

depth-back : (c : Config) → members_depth (back_members c) ≡ 0
depth-back c = elim (cases_Bool (c.pending == 64)) [
  | inl a ↦ elim (cases_Bool (c.periodic == 40)) [
    | inl b ↦ elim (cases_Bool (c.settle == 0)) [
      | inl d ↦ rw (a, b, d) refl
      | inr d ↦ rw (a, b, d) refl
    ]
    | inr b ↦ elim (cases_Bool (c.settle == 0)) [
      | inl d ↦ rw (a, b, d) refl
      | inr d ↦ rw (a, b, d) refl
    ]
  ]
  | inr a ↦ elim (cases_Bool (c.periodic == 40)) [
    | inl b ↦ elim (cases_Bool (c.settle == 0)) [
      | inl d ↦ rw (a, b, d) refl
      | inr d ↦ rw (a, b, d) refl
    ]
    | inr b ↦ elim (cases_Bool (c.settle == 0)) [
      | inl d ↦ rw (a, b, d) refl
      | inr d ↦ rw (a, b, d) refl
    ]
  ]
]

depth-with : (c : Config) (bursts : Bursts) → depth (object (members_with c bursts)) ≤ 3
depth-with c (Uniform bytes_per_slot overhead) =
    let front = depth-front c (member (codes "overhead") (count overhead) (back_members c)) in
    let back = depth-back c in
    omega (arith, front, back)
depth-with c (Described d) =
    let front = depth-front c (back_members c) in
    let back = depth-back c in
    let descriptors = depth-descriptors d in
    omega (arith, front, back, descriptors)

-- a configuration nests no deeper than three levels
pub depth-config : (c : Config) → depth (config_data c) ≤ 3
unfolding config_data
depth-config c = depth-with c c.bursts
