-- Situations of one state take the same steps, and stay of one state.
use Rattle.std.proofs.Common.{◌≡◌, refl, sym, ap, subst, ◌+◌, Bool, true, false, List, Option, None, Some}
use Rattle.std.specs.List.{AllByRecursion}
use Rattle.std.specs.Option.{MatchOption, option_map_or}
use Rattle.minislots.specs.declared.config.Config.{Config}
use Rattle.periodic.specs.declared.placement.Spot.{Spot}
use Rattle.periodic.specs.Placement.{Placed}
use Rattle.periodic.specs.Table.{placed_at, without}
use Rattle.map_build.specs.Spots.{ArePeriodicOf}
use Rattle.sched_calls.specs.declared.call.Call.{Call}
use Rattle.sched_calls.specs.declared.call.Call.TheVariants as calls
use Rattle.sched_calls.specs.declared.opportunity.Header.{Header}
use Rattle.sched_calls.specs.declared.reply.Refusal.{Refusal}
use Rattle.sched_calls.specs.declared.reply.Reply.{Reply}
use Rattle.sched_calls.specs.declared.reply.Reply.TheVariants as replies
use Rattle.sched_history.specs.declared.scheduler.reserves.Reserve.{Reserve}
use Rattle.sched_history.specs.Reserves.{header_by, reserves_past_call}
use Rattle.sched_history.specs.Situation.{Situation, settles_in, spots_next, flows_by, placed_by, next_by, heard_by}
use Rattle.sched_history.specs.Situation.{settling_by, ack_by, after}
use Rattle.sched_history.specs.Refusal.{refusal_in}
use Rattle.sched_history.specs.History.{AnswersIn, IsStepIn}
use Rattle.restart_laws.proofs.Alike.{IsSteadyFlow, AlikeTables, IsSteady, IsAlike}
use Rattle.restart_laws.proofs.tables.Alike.{placed-same, tables-same, with_placed-alike, without-alike}
use Rattle.restart_laws.proofs.tables.Alike.{with_rest-alike}
use Rattle.restart_laws.proofs.maps.Lists.{ascend-alike, alike-itself}
use Rattle.restart_laws.proofs.maps.Choice.{AreAlikeAt}
use Rattle.restart_laws.proofs.steps.Refusals.{refusal-alike}
use Rattle.restart_laws.proofs.steps.Demands.{spots-alike, settles-alike}
use Rattle.restart_laws.proofs.steps.Answers.{answers-alike}
use Rattle.restart_laws.proofs.steps.FlowsAfter.{LeavesAlike, leaves-alike}

-- A step of a situation is one of another, and leaves both steady and of one state
pub record IsStepOfBoth (c : Config) (x y : Situation) (call : Call) (reply : Reply) : Type 0 where
  pub step : IsStepIn c y call reply
  pub alike : IsAlike c (after c x call reply) (after c y call reply)
  pub steady : IsSteady c (after c x call reply)
  pub other : IsSteady c (after c y call reply)

-- tables stay alike
placed_by-alike : (c : Config) (call : Call) (reply : Reply) (ps qs : List Placed) → AlikeTables c ps qs
    → AlikeTables c (placed_by call reply ps) (placed_by call reply qs)
placed_by-alike c (calls.Admit sid spec) (replies.Admitted (Some p)) ps qs same =
    with_placed-alike c (placed_at sid spec p) (placed_at sid spec p) ps qs (placed-same c (placed_at sid spec p)) same
placed_by-alike c (calls.Remove sid) replies.Removed ps qs same = without-alike c sid ps qs same
placed_by-alike c (calls.Change sid spec) (replies.Changed (Some p)) ps qs same =
    with_placed-alike c (placed_at sid spec p) (placed_at sid spec p) (without sid ps) (without sid qs)
    (placed-same c (placed_at sid spec p)) (without-alike c sid ps qs same)
placed_by-alike c (calls.Change sid spec) (replies.Changed None) ps qs same = without-alike c sid ps qs same
placed_by-alike c (calls.Rest sid) replies.Noted ps qs same = with_rest-alike c sid true ps qs same
placed_by-alike c (calls.Wake sid) replies.Noted ps qs same = with_rest-alike c sid false ps qs same
placed_by-alike c call reply ps qs same = same

reserves-same : (c : Config) (call : Call) (reply : Reply) (settles settles' : Bool) (spots spots' : List Spot)
    (rs rs' : List Reserve) → settles ≡ settles' → spots ≡ spots' → rs ≡ rs'
    → reserves_past_call c settles spots call reply rs ≡ reserves_past_call c settles' spots' call reply rs'
reserves-same c call reply settles settles' spots spots' rs rs' a b d = rw (a, b, d) refl

module _ (c : Config) (x y : Situation) (alike : IsAlike c x y) where
  -- flows that are steady at the next frame's start of one are at that of the other
  next-steady : (sx : IsSteady c x) (sy : IsSteady c y) → AreAlikeAt c x.next x.flows y.flows
  next-steady sx sy = record {
    same = alike.flows;
    up = sx.ascending;
    own = sx.flows;
    others = subst (λ n. AllByRecursion (IsSteadyFlow c n) y.flows) (sym alike.next) sy.flows;
  }

  after-alike : (call : Call) (reply : Reply) → LeavesAlike c x y call reply
      → IsAlike c (after c x call reply) (after c y call reply)
  after-alike call reply left = record {
    entries = ap (λ n. n + 1) alike.entries;
    flows = left.same;
    placed = placed_by-alike c call reply x.placed y.placed alike.placed;
    next = ap (next_by c reply) alike.next;
    progress = ap (heard_by call reply) alike.progress;
    reserves = reserves-same c call reply (settles_in c x) (settles_in c y) (spots_next c x) (spots_next c y) x.reserves
        y.reserves (settles-alike c x y alike) (spots-alike c x y alike) alike.reserves;
    header = ap (option_map_or (λ (h : Header). h) (header_by call reply)) alike.header;
    settling = ap (settling_by reply) alike.settling;
    ack = ap (ack_by reply) alike.ack;
  }

  step-from : (call : Call) (reply : Reply) (o : Option Refusal) → AreAlikeAt c x.next x.flows y.flows → IsSteady c x
      → ArePeriodicOf x.flows x.placed
      → MatchOption o (AnswersIn c x call reply) (λ refusal. reply ≡ replies.Refused refusal)
      → MatchOption o (AnswersIn c y call reply) (λ refusal. reply ≡ replies.Refused refusal)
  step-from call reply None are sx periodic answers = answers-alike c x y alike sx are periodic call reply answers
  step-from call reply (Some refusal) are sx periodic refused = refused

  -- situations of one state take the same steps, and stay of one state
  pub step-alike : IsSteady c x → IsSteady c y → ArePeriodicOf x.flows x.placed → (call : Call) (reply : Reply)
      → IsStepIn c x call reply → IsStepOfBoth c x y call reply
  step-alike sx sy periodic call reply step =
      let are : AreAlikeAt c x.next x.flows y.flows = next-steady sx sy in
      let left : LeavesAlike c x y call reply = leaves-alike c x y alike are call reply step in
      record {
        step = subst (λ o. MatchOption o (AnswersIn c y call reply) (λ refusal. reply ≡ replies.Refused refusal))
            (refusal-alike c x y alike call) (step-from call reply (refusal_in c x call) are sx periodic step);
        alike = after-alike call reply left;
        steady = record { ascending = left.up; flows = left.own };
        other = record {
          ascending = ascend-alike c (flows_by c call reply x.flows) (flows_by c call reply y.flows) left.same left.up;
          flows = subst (λ n. AllByRecursion (IsSteadyFlow c (next_by c reply n)) (flows_by c call reply y.flows))
              alike.next left.others;
        };
      }

-- a situation is of its own state
pub alike-same : (c : Config) (x : Situation) → IsAlike c x x
alike-same c x = record {
  entries = refl;
  flows = alike-itself c x.flows;
  placed = tables-same c x.placed;
  next = refl;
  progress = refl;
  reserves = refl;
  header = refl;
  settling = refl;
  ack = refl;
}

-- a step leaves a steady situation steady
pub step-steady : (c : Config) (x : Situation) (call : Call) (reply : Reply) → IsSteady c x → IsStepIn c x call reply
    → IsSteady c (after c x call reply)
step-steady c x call reply sx step =
    let left : LeavesAlike c x x call reply =
    leaves-alike c x x (alike-same c x) (next-steady c x x (alike-same c x) sx sx) call reply step in
    record { ascending = left.up; flows = left.own }
