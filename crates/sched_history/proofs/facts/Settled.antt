-- A MAP of a legal history settles exactly where it is to.
use Rattle.std.proofs.Common.{List, [], ◌∙◌}
use Rattle.minislots.specs.declared.config.Config.{Config}
use Rattle.map_build.specs.EachAfter.{EachAfter}
use Rattle.sched_calls.specs.declared.call.Call.{Call}
use Rattle.sched_calls.specs.declared.reply.Reply.{Reply}
use Rattle.sched_calls.specs.declared.reply.Reply.TheVariants as replies
use Rattle.sched_calls.specs.declared.reply.Entry.{Entry}
use Rattle.sched_history.specs.History.{IsStep, IsLegal}
use Rattle.sched_history.specs.Facts.{SettlesInTime}
use Rattle.sched_history.proofs.steps.LegalHistories.{IsNextMap-from_step, EachAfter-from_legal}
use Rattle.sched_history.proofs.settling.Heads.{is_quiet-next}
use Rattle.sched_history.proofs.settling.SettlesNext.{settles_by_any-legal}

module _ (c : Config) where
  settles_by : (h : List Entry) (call : Call) (reply : Reply) → IsLegal c h → IsStep c h call reply
      → SettlesInTime c h reply
  settles_by h call (replies.Built m) legal step =
      is_quiet-next c h m (IsNextMap-from_step c h call m step) ∙ settles_by_any-legal c h legal
  settles_by h call reply legal step = tt

  -- each MAP settles where it is to, and nowhere else
  pub settles_in_time : (h : List Entry) → IsLegal c h
      → EachAfter (λ before e. SettlesInTime c before e.reply) [] h
  settles_in_time = EachAfter-from_legal c (λ before e. SettlesInTime c before e.reply)
      (λ h e legal step. settles_by h e.call e.reply legal step)
