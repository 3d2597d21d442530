-- How many bytes the texts of numbers, of a flow and of a configuration have at most.
use Rattle.std.proofs.Common.{◌≡◌, ℕ, ◌+◌, ◌*◌, ◌≤◌, List, [], ◌∷◌, length, map, refl, arith}
use Rattle.std.proofs.Common.{◌==◌, inl, inr}
use Rattle.std.specs.Prelude.{codes}
use Rattle.std.proofs.lemmas.Bool.{cases_Bool}
use Rattle.serde_json.specs.Data.{Members, object, member}
use Rattle.serde_json.specs.View.{items_of}
use Rattle.minislots.specs.declared.bursts.Bursts.{Bursts}
use Rattle.minislots.specs.declared.bursts.Bursts.TheVariants.{Uniform, Described}
use Rattle.minislots.specs.declared.bursts.Descriptors.{Descriptors}
use Rattle.minislots.specs.declared.bursts.Profile.{Profile}
use Rattle.minislots.specs.declared.config.Config.{Config}
use Rattle.sched_calls.specs.declared.spec.FlowSpec.{FlowSpec}
use Rattle.sched_calls.specs.declared.spec.FlowSpec.TheVariants.{Unsolicited, Polled, BestEffort}
use Rattle.history_writing.specs.Json.{count, counts, flow_data}
use Rattle.history_writing.specs.HistoryText.{profile_data, descriptors_data, members_with, config_data}
use Rattle.history_writing.specs.HistoryText.{front_members, back_members}
use Rattle.segment_line.proofs.ConfigBack.{unsolicited_stands}
use Rattle.segment_line.proofs.TextRoom.{room, items_room, members_room}

items_room-counts : (ns : List ℕ) → items_room (items_of (map count ns)) ≡ 21 * length ns
items_room-counts [] = refl
items_room-counts (n ∷ ns) = omega (arith, items_room-counts ns)

-- an array of whole numbers
pub room-counts : (ns : List ℕ) → room (counts ns) ≡ 21 * length ns + 2
unfolding counts
room-counts ns = omega (arith, items_room-counts ns)

-- the parameters of a flow
pub room-flow : (spec : FlowSpec) → room (flow_data spec) ≤ 210
unfolding flow_data
room-flow (Unsolicited size interval jitter grants) = omega arith
room-flow (Polled interval jitter rate burst peak) = elim (cases_Bool (peak == 0)) [
  | inl none ↦ rw none (omega arith)
  | inr stands ↦ rw stands (omega arith)
]
room-flow (BestEffort priority rate burst peak reserved reserved-burst) = elim (cases_Bool (peak == 0)) [
  | inl a ↦ elim (cases_Bool (reserved == 0)) [
    | inl b ↦ elim (cases_Bool (reserved-burst == 0)) [
      | inl d ↦ rw (a, b, d) (omega arith)
      | inr d ↦ rw (a, b, d) (omega arith)
    ]
    | inr b ↦ elim (cases_Bool (reserved-burst == 0)) [
      | inl d ↦ rw (a, b, d) (omega arith)
      | inr d ↦ rw (a, b, d) (omega arith)
    ]
  ]
  | inr a ↦ elim (cases_Bool (reserved == 0)) [
    | inl b ↦ elim (cases_Bool (reserved-burst == 0)) [
      | inl d ↦ rw (a, b, d) (omega arith)
      | inr d ↦ rw (a, b, d) (omega arith)
    ]
    | inr b ↦ elim (cases_Bool (reserved-burst == 0)) [
      | inl d ↦ rw (a, b, d) (omega arith)
      | inr d ↦ rw (a, b, d) (omega arith)
    ]
  ]
]

room-profile : (p : Profile) → room (profile_data p) ≤ 500
unfolding profile_data
room-profile p = omega arith

room-descriptors : (d : Descriptors) → room (descriptors_data d) ≤ 2000
unfolding descriptors_data
room-descriptors d =
    let long = room-profile d.long in
    let short = room-profile d.short in
    let unsolicited = room-profile d.unsolicited in
    elim (unsolicited_stands d) [
      | inl as_long ↦ rw as_long.0 (omega (arith, long, short))
      | inr stands ↦ rw stands (omega (arith, long, short, unsolicited))
    ]

room-front : (c : Config) (behind : Members) → members_room (front_members c behind) ≤ members_room behind + 1000
room-front c behind = elim (cases_Bool (c.flows == 64)) [
  | inl a ↦ elim (cases_Bool (c.open_idle == 0)) [
    | inl b ↦ rw (a, b) (omega arith)
    | inr b ↦ rw (a, b) (omega arith)
  ]
  | inr a ↦ elim (cases_Bool (c.open_idle == 0)) [
    | inl b ↦ rw (a, b) (omega arith)
    | inr b ↦ rw (a, b) (omega arith)
  ]
]

room-back : (c : Config) → members_room (back_members c) ≤ 1500
room-back c = elim (cases_Bool (c.pending == 64)) [
  | inl a ↦ elim (cases_Bool (c.periodic == 40)) [
    | inl b ↦ elim (cases_Bool (c.settle == 0)) [
      | inl d ↦ rw (a, b, d) (omega arith)
      | inr d ↦ rw (a, b, d) (omega arith)
    ]
    | inr b ↦ elim (cases_Bool (c.settle == 0)) [
      | inl d ↦ rw (a, b, d) (omega arith)
      | inr d ↦ rw (a, b, d) (omega arith)
    ]
  ]
  | inr a ↦ elim (cases_Bool (c.periodic == 40)) [
    | inl b ↦ elim (cases_Bool (c.settle == 0)) [
      | inl d ↦ rw (a, b, d) (omega arith)
      | inr d ↦ rw (a, b, d) (omega arith)
    ]
    | inr b ↦ elim (cases_Bool (c.settle == 0)) [
      | inl d ↦ rw (a, b, d) (omega arith)
      | inr d ↦ rw (a, b, d) (omega arith)
    ]
  ]
]

room-with : (c : Config) (bursts : Bursts) → room (object (members_with c bursts)) ≤ 5000
room-with c (Uniform bytes_per_slot overhead) =
    let front = room-front c (member (codes "overhead") (count overhead) (back_members c)) in
    let back = room-back c in
    omega (arith, front, back)
room-with c (Described d) =
    let front = room-front c (back_members c) in
    let back = room-back c in
    let descriptors = room-descriptors d in
    omega (arith, front, back, descriptors)

-- a configuration
pub room-config : (c : Config) → room (config_data c) ≤ 5000
unfolding config_data
room-config c = room-with c c.bursts
