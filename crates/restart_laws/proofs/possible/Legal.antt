-- What every step keeps holds of what every legal history leaves.
use Rattle.std.proofs.Common.{◌≡◌, List, [], ◌∷◌, ◌++◌, sym, ◌∙◌, subst}
use Rattle.minislots.specs.declared.config.Config.{Config}
use Rattle.sched_calls.specs.declared.reply.Entry.{Entry}
use Rattle.sched_history.specs.Opening.{opening}
use Rattle.sched_history.specs.Situation.{Situation, situation_of}
use Rattle.sched_history.specs.History.{IsStep, IsLegal}
use Rattle.sched_history.proofs.situations.Leaving.{situation_of-push}
use Rattle.sched_history.proofs.situations.Opening.{situation_of-open}
use Rattle.sched_history.proofs.steps.LegalHistories.{legal_induction}
use Rattle.sched_history.proofs.steps.Steps.{IsLegal-push}
use Rattle.restart_laws.proofs.possible.Effects.{Effect, left, IsLeft}
use Rattle.restart_laws.proofs.possible.EffectOf.{effect-of}

module _ (c : Config) (K : Situation → Type 0) (known : (h : List Entry) → IsLegal c h → K (situation_of c h))
    (P : Situation → Type 0)
    (keeps : (x : Situation) (effect : Effect c x) → K x → K (left c x effect) → P x → P (left c x effect)) where
  more : (h : List Entry) (e : Entry) → IsLegal c h → IsStep c h e.call e.reply → P (situation_of c h)
      → P (situation_of c (h ++ e ∷ []))
  more h e legal step holds =
      let goes : IsLeft c (situation_of c h) _ = effect-of c (situation_of c h) e.call e.reply step in
      let leaves : situation_of c (h ++ e ∷ []) ≡ left c (situation_of c h) goes.effect =
      situation_of-push c h e step ∙ goes.is in
      subst P (sym leaves)
      (keeps (situation_of c h) goes.effect (known h legal)
      (subst K leaves (known (h ++ e ∷ []) (IsLegal-push c h e legal step))) holds)

  -- what is known of all is given to each step
  pub kept-legal : P (opening c) → (h : List Entry) → IsLegal c h → P (situation_of c h)
  kept-legal opens = legal_induction c (λ h. P (situation_of c h)) more (subst P (sym (situation_of-open c)) opens)
