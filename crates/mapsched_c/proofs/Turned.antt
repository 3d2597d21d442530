-- The reply of a worker's turn has no more starts than there is room for.
use Rattle.std.proofs.Common.{◌≡◌, subst}
use Rattle.std.specs.Prelude.{Option, None, Some, Ok, MatchOption}
use Rattle.minislots.specs.Config.{IsLawful}
use Rattle.sched_calls.specs.declared.call.Call.{Call}
use Rattle.sched_calls.specs.declared.reply.Reply.{Reply}
use Rattle.sched_history.specs.History.{IsLegal}
use Rattle.ticket_lock.specs.Standing.{stamp_of}
use Rattle.sched_desk.specs.Desk.{history_seen}
use Rattle.worker_sched.specs.declared.worker.Turn.TheVariants.{Ended, NoTicket}
use Rattle.worker_sched.specs.Worker.{Stands, WorkerState, TakesTurn, TakesTurnWith}
use Rattle.mapsched_c.specs.Reply.{HasRoom}
use Rattle.mapsched_c.proofs.Room.{last_room}

module _ (w x : WorkerState) (call : Call) (reply : Reply) (lawful : IsLawful w.place.config) where
  with_ticket : (o : Option Stands)
      → MatchOption o ((Ended (Ok reply) ≡ NoTicket) × (x ≡ w)) (λ t. TakesTurnWith t w x call (Ended (Ok reply)))
      → HasRoom reply
  with_ticket None told = absurd (let e = told.0 in cc)
  with_ticket (Some t) (s, seated, turned) =
      last_room w.place.config (history_seen turned.holder) (stamp_of turned.holder) call reply lawful
      (subst (IsLegal w.place.config) turned.answered.history_is turned.answered.sees.legal)

  -- a turn that has ended with a reply was a step
  pub turned_room : TakesTurn w x call (Ended (Ok reply)) → HasRoom reply
  turned_room told = with_ticket w.ticket told
