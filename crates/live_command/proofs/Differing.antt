-- The first field in which two configurations differ, and that where there is none they are the same.
use Rattle.std.proofs.Common.{◌≡◌, ℕ, List, [], ◌∷◌, ◌++◌, Option, None, Some, Bool, true, false, refl, sym, ap, ◌∙◌}
use Rattle.std.proofs.Common.{rules}
use Rattle.std.specs.Prelude.{◌==◌, ◌&&◌, if◌then◌else◌, ◌≢◌, IfSome}
use Rattle.std.specs.Option.{option_or}
use Rattle.minislots.specs.declared.bursts.Bursts.{Bursts}
use Rattle.minislots.specs.declared.bursts.Bursts.TheVariants as bursts
use Rattle.minislots.specs.declared.bursts.Descriptors.{Descriptors}
use Rattle.minislots.specs.declared.bursts.Profile.{Profile}
use Rattle.minislots.specs.declared.config.Config.{Config}
use Rattle.live_command.specs.declared.difference.Difference.{Difference}
use Rattle.live_command.specs.declared.field.Usage.{Usage}
use Rattle.live_command.specs.declared.field.Usage.TheVariants as usages
use Rattle.live_command.specs.declared.field.Field.TheVariants as field
use Rattle.live_command.specs.Difference.{numbers, first_of, profile_numbers, described_numbers, uniform_numbers}
use Rattle.live_command.specs.Difference.{bursts_numbers, numbers_between, numbers_behind, differences_of}

chosen : (same : Bool) (d : Difference) (x y : Option Difference)
    → (if same then option_or x y else Some d) ≡ option_or (if same then x else Some d) y
chosen true d x y = refl
chosen false d x y = refl

-- the first of two lists is that of the first, or else of the second
pub first_of_append : (fields others : List Difference)
    → first_of (fields ++ others) ≡ option_or (first_of fields) (first_of others)
first_of_append [] others = refl
first_of_append (d ∷ fields) others =
    ap (λ x. if d.journal == d.given then x else Some d) (first_of_append fields others)
    ∙ chosen (d.journal == d.given) d (first_of fields) (first_of others)

-- all numbers are the same
abbrev pub are_alike : List Difference → Bool
are_alike [] = true
are_alike (d ∷ fields) = (d.journal == d.given) && are_alike fields

none_chosen : (same : Bool) (d : Difference) (x : Option Difference) → (if same then x else Some d) ≡ None
    → (same ≡ true) × (x ≡ None)
none_chosen true d x is = (refl, is)
none_chosen false d x is = cc

and_true : (a b : Bool) → a ≡ true → b ≡ true → (a && b) ≡ true
and_true true b left right = right
and_true false b left right = left

-- so they are where none differs
pub alike : (fields : List Difference) → first_of fields ≡ None → are_alike fields ≡ true
alike [] is = refl
alike (d ∷ fields) is =
    let both = none_chosen (d.journal == d.given) d (first_of fields) is in
    and_true (d.journal == d.given) (are_alike fields) both.0 (alike fields both.1)

none_left : (x y : Option Difference) → option_or x y ≡ None → (x ≡ None) × (y ≡ None)
none_left None y is = (refl, is)
none_left (Some d) y is = cc

-- in both parts
parts : (fields others : List Difference) → first_of (fields ++ others) ≡ None
    → (first_of fields ≡ None) × (first_of others ≡ None)
parts fields others is = none_left (first_of fields) (first_of others) (sym (first_of_append fields others) ∙ is)

-- profiles of which no number differs are the same
same_profile : (usage : Usage) (a b : Profile) → are_alike (profile_numbers usage a b) ≡ true → b ≡ a
same_profile usage a b none = search rules

same_described : (a b : Descriptors) → first_of (described_numbers a b) ≡ None → b ≡ a
same_described a b none =
    let first : List Difference = numbers field.Symbols a.symbols b.symbols ∷ [] in
    let short = profile_numbers usages.Short a.short b.short in
    let long = profile_numbers usages.Long a.long b.long in
    let other = profile_numbers usages.Unsolicited a.unsolicited b.unsolicited in
    let fourth = parts ((first ++ short) ++ long) other none in
    let third = parts (first ++ short) long fourth.0 in
    let second = parts first short third.0 in
    let symbols = alike first second.0 in
    let of_others = same_profile usages.Unsolicited a.unsolicited b.unsolicited (alike other fourth.1) in
    let of_long = same_profile usages.Long a.long b.long (alike long third.1) in
    let of_short = same_profile usages.Short a.short b.short (alike short second.1) in
    search rules

-- and bursts
same_bursts : (a b : Bursts) → first_of (uniform_numbers a b) ≡ None → first_of (bursts_numbers a b) ≡ None → b ≡ a
same_bursts (bursts.Uniform bytes overhead) (bursts.Uniform other_bytes other_overhead) uniform described =
    let same = alike (uniform_numbers (bursts.Uniform bytes overhead) (bursts.Uniform other_bytes other_overhead))
    uniform in
    search rules
same_bursts (bursts.Uniform bytes overhead) (bursts.Described b) uniform described = cc
same_bursts (bursts.Described a) (bursts.Uniform other_bytes other_overhead) uniform described = cc
same_bursts (bursts.Described a) (bursts.Described b) uniform described =
    ap bursts.Described (same_described a b described)

and_both : (x y : Bool) → (x && y) ≡ true → (x ≡ true) × (y ≡ true)
and_both true y is = (refl, is)
and_both false y is = cc

number_at : (m n : ℕ) (y : Bool) → (m == n && y) ≡ true → (m ≡ n) × (y ≡ true)
number_at m n y is =
    let both = and_both (m == n) y is in
    (search rules, both.1)

-- configurations with the same fields are the same
same_record : (a b : Config) → a.ticks ≡ b.ticks → a.bursts ≡ b.bursts → a.frame ≡ b.frame → a.cycle ≡ b.cycle
    → a.req_slots ≡ b.req_slots → a.poll_slots ≡ b.poll_slots → a.lead ≡ b.lead → a.short_max ≡ b.short_max
    → a.quantum ≡ b.quantum → a.grant_cap ≡ b.grant_cap → a.receivers ≡ b.receivers → a.calls ≡ b.calls
    → a.start ≡ b.start → a.ranging_start ≡ b.ranging_start → a.ranging_end ≡ b.ranging_end
    → a.data_start ≡ b.data_start → a.data_end ≡ b.data_end → a.channel ≡ b.channel → a.ucd_count ≡ b.ucd_count
    → a.phy ≡ b.phy → a.flows ≡ b.flows → a.pending ≡ b.pending → a.periodic ≡ b.periodic
    → a.open_idle ≡ b.open_idle → a.settle ≡ b.settle → b ≡ a
same_record a b ticks of_bursts frame cycle req_slots poll_slots lead short_max quantum grant_cap receivers calls
    start ranging_start ranging_end data_start data_end channel ucd_count phy flows pending periodic open_idle
    settle = search rules

-- so where no number between the bursts, and none behind them differs
same_others : (a b : Config) → a.ticks ≡ b.ticks → a.bursts ≡ b.bursts → are_alike (numbers_between a b) ≡ true
    → are_alike (numbers_behind a b) ≡ true → b ≡ a
same_others a b ticks of_bursts between behind =
    let frame = number_at a.frame b.frame _ between in
    let cycle = number_at a.cycle b.cycle _ frame.1 in
    let req_slots = number_at a.req_slots b.req_slots _ cycle.1 in
    let poll_slots = number_at a.poll_slots b.poll_slots _ req_slots.1 in
    let lead = number_at a.lead b.lead _ poll_slots.1 in
    let short_max = number_at a.short_max b.short_max _ lead.1 in
    let quantum = number_at a.quantum b.quantum _ short_max.1 in
    let grant_cap = number_at a.grant_cap b.grant_cap _ quantum.1 in
    let receivers = number_at a.receivers b.receivers _ grant_cap.1 in
    let calls = number_at a.calls b.calls _ receivers.1 in
    let start = number_at a.start b.start _ calls.1 in
    let ranging_start = number_at a.ranging_start b.ranging_start _ start.1 in
    let ranging_end = number_at a.ranging_end b.ranging_end _ ranging_start.1 in
    let data_start = number_at a.data_start b.data_start _ ranging_end.1 in
    let data_end = number_at a.data_end b.data_end _ data_start.1 in
    let channel = number_at a.channel b.channel _ data_end.1 in
    let ucd_count = number_at a.ucd_count b.ucd_count _ channel.1 in
    let phy = number_at a.phy b.phy _ ucd_count.1 in
    let flows = number_at a.flows b.flows _ behind in
    let pending = number_at a.pending b.pending _ flows.1 in
    let periodic = number_at a.periodic b.periodic _ pending.1 in
    let open_idle = number_at a.open_idle b.open_idle _ periodic.1 in
    let settle = number_at a.settle b.settle _ open_idle.1 in
    same_record a b ticks of_bursts frame.0 cycle.0 req_slots.0 poll_slots.0 lead.0 short_max.0 quantum.0
    grant_cap.0 receivers.0 calls.0 start.0 ranging_start.0 ranging_end.0 data_start.0 data_end.0 channel.0
    ucd_count.0 phy.0 flows.0 pending.0 periodic.0 open_idle.0 settle.0

-- and so are configurations
pub same_config : (a b : Config) → first_of (differences_of a b) ≡ None → b ≡ a
same_config a b none =
    let first : List Difference = numbers field.Ticks a.ticks b.ticks ∷ [] in
    let uniform = uniform_numbers a.bursts b.bursts in
    let between = numbers_between a b in
    let described = bursts_numbers a.bursts b.bursts in
    let fifth = parts (((first ++ uniform) ++ between) ++ described) (numbers_behind a b) none in
    let fourth = parts ((first ++ uniform) ++ between) described fifth.0 in
    let third = parts (first ++ uniform) between fourth.0 in
    let second = parts first uniform third.0 in
    let of_ticks = number_at a.ticks b.ticks true (alike first second.0) in
    let of_bursts = same_bursts a.bursts b.bursts second.1 fourth.1 in
    same_others a b of_ticks.0 (sym of_bursts) (alike between third.1) (alike (numbers_behind a b) fifth.1)

is_same : (n : ℕ) → (n == n) ≡ true
is_same n = search rules

same_numbers : (fields others : List Difference) → first_of fields ≡ None → first_of others ≡ None
    → first_of (fields ++ others) ≡ None
same_numbers fields others first second = first_of_append fields others ∙ rw (first, second) refl

none_of_profile : (usage : Usage) (a : Profile) → first_of (profile_numbers usage a a) ≡ None
none_of_profile usage a = rw (
  is_same a.preamble,
  is_same a.guard,
  is_same a.bits,
  is_same a.parity,
  is_same a.information,
  is_same a.shortened,
) refl

none_of_described : (a : Descriptors) → first_of (described_numbers a a) ≡ None
none_of_described a =
    let first : List Difference = numbers field.Symbols a.symbols a.symbols ∷ [] in
    let short = profile_numbers usages.Short a.short a.short in
    let long = profile_numbers usages.Long a.long a.long in
    same_numbers ((first ++ short) ++ long) (profile_numbers usages.Unsolicited a.unsolicited a.unsolicited)
    (same_numbers (first ++ short) long
    (same_numbers first short (rw (is_same a.symbols) refl) (none_of_profile usages.Short a.short))
    (none_of_profile usages.Long a.long)) (none_of_profile usages.Unsolicited a.unsolicited)

none_of_bursts : (b : Bursts) → (first_of (uniform_numbers b b) ≡ None) × (first_of (bursts_numbers b b) ≡ None)
none_of_bursts (bursts.Uniform bytes overhead) =
    (rw (is_same bytes, is_same overhead) refl, refl)
none_of_bursts (bursts.Described a) = (refl, none_of_described a)

-- a configuration has no difference to itself
pub none_of_same : (c : Config) → first_of (differences_of c c) ≡ None
none_of_same c =
    let bursts = none_of_bursts c.bursts in
    let between : first_of (numbers_between c c) ≡ None = rw (
      is_same c.frame,
      is_same c.cycle,
      is_same c.req_slots,
      is_same c.poll_slots,
      is_same c.lead,
      is_same c.short_max,
      is_same c.quantum,
      is_same c.grant_cap,
      is_same c.receivers,
      is_same c.calls,
      is_same c.start,
      is_same c.ranging_start,
      is_same c.ranging_end,
      is_same c.data_start,
      is_same c.data_end,
      is_same c.channel,
      is_same c.ucd_count,
      is_same c.phy,
    ) refl in
    let first : List Difference = numbers field.Ticks c.ticks c.ticks ∷ [] in
    let uniform = uniform_numbers c.bursts c.bursts in
    let described = bursts_numbers c.bursts c.bursts in
    let front = same_numbers first uniform (rw (is_same c.ticks) refl) bursts.0 in
    same_numbers (((first ++ uniform) ++ numbers_between c c) ++ described) (numbers_behind c c)
    (same_numbers ((first ++ uniform) ++ numbers_between c c) described
    (same_numbers (first ++ uniform) (numbers_between c c) front between) bursts.1)
    (rw (is_same c.flows, is_same c.pending, is_same c.periodic, is_same c.open_idle, is_same c.settle) refl)

-- so where there is one, the configurations differ
pub differ : (a b : Config) (r : Option Difference) → r ≡ first_of (differences_of a b) → IfSome r (λ d. b ≢ a)
differ a b None is = tt
differ a b (Some d) is = λ same.
    let none = none_of_same a in
    let some : Some d ≡ first_of (differences_of a a) = is ∙ ap (λ (c : Config). first_of (differences_of a c)) same in
    cc

-- the first difference, part by part
pub first_by_parts : (a b : Config) → first_of (differences_of a b) ≡ option_or (option_or (option_or (option_or
    (first_of (numbers field.Ticks a.ticks b.ticks ∷ [])) (first_of (uniform_numbers a.bursts b.bursts)))
    (first_of (numbers_between a b))) (first_of (bursts_numbers a.bursts b.bursts))) (first_of (numbers_behind a b))
first_by_parts a b =
    let first : List Difference = numbers field.Ticks a.ticks b.ticks ∷ [] in
    let uniform = uniform_numbers a.bursts b.bursts in
    let between = numbers_between a b in
    let described = bursts_numbers a.bursts b.bursts in
    let behind = numbers_behind a b in
    first_of_append (((first ++ uniform) ++ between) ++ described) behind
    ∙ ap (λ x. option_or x (first_of behind)) (first_of_append ((first ++ uniform) ++ between) described
    ∙ ap (λ x. option_or x (first_of described)) (first_of_append (first ++ uniform) between
    ∙ ap (λ x. option_or x (first_of between)) (first_of_append first uniform)))
