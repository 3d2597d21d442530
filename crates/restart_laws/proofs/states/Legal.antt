-- What every legal history leaves is steady.
use Rattle.std.proofs.Common.{List, [], ◌∷◌, ◌++◌, sym, subst}
use Rattle.minislots.specs.declared.config.Config.{Config}
use Rattle.sched_calls.specs.declared.reply.Entry.{Entry}
use Rattle.sched_history.specs.Situation.{situation_of}
use Rattle.sched_history.specs.History.{IsStep, IsLegal}
use Rattle.sched_history.proofs.situations.Leaving.{situation_of-push}
use Rattle.sched_history.proofs.situations.Opening.{situation_of-open}
use Rattle.sched_history.proofs.steps.LegalHistories.{legal_induction}
use Rattle.restart_laws.proofs.steps.Step.{step-steady}
use Rattle.restart_laws.proofs.Alike.{IsSteady}

module _ (c : Config) where
  -- a step leaves a steady situation steady
  steady-push : (h : List Entry) (e : Entry) → IsLegal c h → IsStep c h e.call e.reply → IsSteady c (situation_of c h)
      → IsSteady c (situation_of c (h ++ e ∷ []))
  steady-push h e legal step steady =
      subst (IsSteady c) (sym (situation_of-push c h e step))
      (step-steady c (situation_of c h) e.call e.reply steady step)

  -- so what a legal history leaves is
  pub IsSteady-legal : (h : List Entry) → IsLegal c h → IsSteady c (situation_of c h)
  IsSteady-legal =
      legal_induction c (λ h. IsSteady c (situation_of c h)) steady-push
      (subst (IsSteady c) (sym (situation_of-open c)) (record { ascending = tt; flows = tt }))
