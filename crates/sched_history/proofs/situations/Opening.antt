-- What is left where nothing was called, and the legal histories from there.
use Rattle.std.proofs.Common.{◌≡◌, ℕ, ◌+◌, ◌*◌, List, [], sym, subst, refl, arith}
use Rattle.minislots.specs.declared.config.Config.{Config}
use Rattle.minislots.specs.Config.{IsLawful}
use Rattle.sched_calls.specs.declared.reply.Entry.{Entry}
use Rattle.sched_history.specs.Time.{next_after}
use Rattle.sched_history.specs.Situation.{situation_of}
use Rattle.sched_history.specs.Opening.{opening}
use Rattle.sched_history.specs.History.{IsLegal, IsLegalFrom}
use Rattle.sched_history.specs.State.{IsSoundIn}
use Rattle.sched_history.proofs.lives.LiveFlows.{flows_of-none, table_of-none}
use Rattle.sched_history.proofs.situations.GoingOn.{GoesOn-from, IsLegalFrom-split}
use Rattle.sched_history.proofs.situations.Sound.{IsSoundIn-legal}

module _ (c : Config) where
  next-open : next_after c [] ≡ c.start
  next-open = omega arith

  -- before any call what is left is the opening's
  pub situation_of-open : situation_of c [] ≡ opening c
  situation_of-open =
      rw (flows_of-none c [] (λ sid. refl), table_of-none [] (λ sid. refl), next-open) refl

  -- so a legal history is legal from there
  pub IsLegalFrom-opening : (h : List Entry) → IsLegal c h → IsLegalFrom c (opening c) h
  IsLegalFrom-opening h legal = subst (λ s. IsLegalFrom c s h) situation_of-open (IsLegalFrom-split c [] h legal).1

  -- and one that is legal from there is legal
  pub IsLegal-from_opening : (h : List Entry) → IsLegalFrom c (opening c) h → IsLegal c h
  IsLegal-from_opening h from =
      (GoesOn-from c [] h tt (subst (λ s. IsLegalFrom c s h) (sym situation_of-open) from)).legal

  -- it is sound
  pub IsSoundIn-open : IsLawful c → IsSoundIn c (opening c)
  IsSoundIn-open lawful = subst (IsSoundIn c) situation_of-open (IsSoundIn-legal c [] lawful tt)
