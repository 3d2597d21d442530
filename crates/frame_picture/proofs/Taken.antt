-- An auditor that took an entry more.
use Rattle.std.proofs.Common.{◌≡◌, ◌<◌, ◌≤◌, [], ◌∷◌, ◌++◌, length, length-append, ap, ◌∙◌, subst, arith}
use Rattle.minislots.specs.declared.config.Config.{Config}
use Rattle.sched_calls.specs.declared.reply.Entry.{Entry}
use Rattle.sched_calls.specs.declared.reply.TheConstants.{MAX_WHOLE_HISTORY}
use Rattle.sched_history.specs.History.{IsLegal}
use Rattle.sched_history.specs.Machine.{Past}

module _ (c : Config) (old new : Past) (e : Entry) (same : old.config ≡ c)
    (taken : ◌≡◌ {A = Past} new (record old { history = old.history ++ e ∷ [] })) where
  -- its configuration stays
  pub taken-config : new.config ≡ c
  taken-config = ap (λ (p : Past). p.config) taken ∙ same

  -- the entry stands behind the others
  pub taken-grown : new.history ≡ old.history ++ e ∷ []
  taken-grown = ap (λ (p : Past). p.history) taken

  -- they are legal
  pub taken-legal : IsLegal new.config new.history → IsLegal c new.history
  taken-legal legal = subst (λ (k : Config). IsLegal k new.history) taken-config legal

  -- and no more than a whole history may have
  pub taken-most : length old.history < MAX_WHOLE_HISTORY → length new.history ≤ MAX_WHOLE_HISTORY
  taken-most short = omega (arith, short, ap length taken-grown, length-append old.history (e ∷ []))
