-- In a legal history the placed flows are the live periodic ones, in their order.
use Rattle.std.proofs.Common.{◌≡◌, ℕ, Bool, cond, List, [], ◌∷◌, map, Option, None, Some, refl}
use Rattle.std.specs.Prelude.{is_some}
use Rattle.std.specs.List.{filter, filter_map, cons_option}
use Rattle.std.specs.Option.{option_map, option_and_then}
use Rattle.minislots.specs.declared.config.Config.{Config}
use Rattle.sched_calls.specs.FlowSpec.{is_periodic}
use Rattle.flow_book.specs.Flows.{LiveFlow}
use Rattle.sched_calls.specs.declared.placement.Placement.{Placement}
use Rattle.periodic.specs.Placement.{Placed}
use Rattle.map_build.specs.Spots.{ArePeriodicOf}
use Rattle.sched_calls.specs.declared.reply.Entry.{Entry}
use Rattle.sched_history.specs.Life.{Life, life_of, given_in, rests_in, flow_in_life, placed_in_life, sids}
use Rattle.sched_history.specs.Life.{flows_of, table_of}
use Rattle.sched_history.specs.History.{IsLegal}
use Rattle.sched_history.proofs.placements.Counts.{IsPaired, life_of-pairs}
use Rattle.sched_history.proofs.lives.Finding.{flow_at, placed_at}

-- the placed flow of a life with this placement
abbrev placed_life : ℕ → Life → Placement → Placed
placed_life sid life p =
    record { sid = sid; spec = (given_in sid life).spec; placement = p; rests = rests_in sid life.since }

-- a life adds its key to both lists, or to neither
keyed : {K : Type 0} (c : Config) (kp : Placed → K) (kf : LiveFlow → K)
    → ((sid : ℕ) (life : Life) (p : Placement) → kp (placed_life sid life p)
    ≡ kf
    (flow_in_life c sid life))
    → (sid : ℕ) (life : Life) (placement : Option Placement) (periodic : Bool) → is_some placement ≡ periodic
    → (ps : List Placed) (fs : List LiveFlow) → map kp ps ≡ map kf fs
    → map kp (cons_option
    (option_map (λ p. placed_life sid life p) placement) ps) ≡ map kf
    (cond periodic (flow_in_life c sid life ∷ fs) fs)
keyed c kp kf same sid life None periodic paired ps fs rest = rw (← paired) rest
keyed c kp kf same sid life (Some p) periodic paired ps fs rest = rw (← paired, same sid life p, rest) refl

keyed-life : {K : Type 0} (c : Config) (kp : Placed → K) (kf : LiveFlow → K)
    → ((sid : ℕ) (life : Life) (p : Placement) → kp (placed_life sid life p)
    ≡ kf
    (flow_in_life c sid life))
    → (sid : ℕ) (o : Option Life) → ((life : Life) → o ≡ Some life → IsPaired (given_in sid life))
    → (ps : List Placed) (fs : List LiveFlow)
    → map kp ps ≡ map kf (filter (λ f. is_periodic f.spec) fs)
    → map kp (cons_option (option_and_then (placed_in_life sid) o) ps) ≡ map kf
    (filter (λ f. is_periodic f.spec) (cons_option (option_map (flow_in_life c sid) o) fs))
keyed-life c kp kf same sid None paired ps fs rest = rest
keyed-life c kp kf same sid (Some life) paired ps fs rest =
    keyed c kp kf same sid life (given_in sid life).placement (is_periodic (given_in sid life).spec) (paired life refl) ps
    (filter (λ f. is_periodic f.spec) fs) rest

keyed_all : {K : Type 0} (c : Config) (kp : Placed → K) (kf : LiveFlow → K)
    → ((sid : ℕ) (life : Life) (p : Placement) → kp (placed_life sid life p)
    ≡ kf
    (flow_in_life c sid life))
    → (h : List Entry) (xs : List ℕ) → ((sid : ℕ) (life : Life) → life_of sid h ≡ Some life → IsPaired (given_in sid life))
    → map kp (filter_map (placed_at h) xs) ≡ map kf (filter (λ f. is_periodic f.spec) (filter_map (flow_at c h) xs))
keyed_all c kp kf same h [] paired = refl
keyed_all c kp kf same h (x ∷ xs) paired = keyed-life c kp kf same x (life_of x h) (paired x) (filter_map
    (placed_at h) xs)
    (filter_map (flow_at c h) xs) (keyed_all c kp kf same h xs paired)

-- the placed flows are the live periodic ones, in their order
pub ArePeriodicOf-legal : (c : Config) (h : List Entry) → IsLegal c h → ArePeriodicOf (flows_of c h) (table_of h)
ArePeriodicOf-legal c h legal = record {
  sids = keyed_all c (λ p. p.sid) (λ f. f.sid) (λ sid life p. refl) h sids
      (λ sid life. life_of-pairs c h sid life legal);
  specs = keyed_all c (λ p. p.spec) (λ f. f.spec) (λ sid life p. refl) h sids
      (λ sid life. life_of-pairs c h sid life legal);
}
