-- What an argument's id and scope are, as the others of its fields change.
use Rattle.std.proofs.Common.{◌≡◌, ◌∙◌, ℕ, Bool, List, false, ap}
use Rattle.std.specs.Borrow.{Bor}
use Rattle.clap.specs.declared.builder.arg.Arg.{Arg}
use Rattle.command_line.specs.Taken.{IsOption}

-- an argument's id, and whether it counts for subcommands
abbrev pub place_of : Arg → Bor (List ℕ) × Bool
place_of a = (a.id, a.global)

pub IsOption-new : {made : Arg} {id : Bor (List ℕ)} → made.id ≡ id → made.global ≡ false → IsOption made id.now
IsOption-new new plain = record { named = ap (λ i. i.now) new; local = plain }

pub IsOption-same : {old new : Arg} {id : List ℕ} → IsOption old id → place_of new ≡ place_of old → IsOption new id
IsOption-same {old} {new} {id} is same = record {
  named = ap (λ (p : Bor (List ℕ) × Bool). p.0.now) same ∙ is.named;
  local = ap (λ (p : Bor (List ℕ) × Bool). p.1) same ∙ is.local;
}

pub IsOption-conflict : {old new : Arg} {id : List ℕ} → IsOption old id
    → new ≡ record old { conflicts = new.conflicts } → IsOption new id
IsOption-conflict is adds = IsOption-same is (ap place_of adds)

pub IsOption-requirement : {old new : Arg} {id : List ℕ} → IsOption old id
    → new ≡ record old { needs = new.needs } → IsOption new id
IsOption-requirement is adds = IsOption-same is (ap place_of adds)
