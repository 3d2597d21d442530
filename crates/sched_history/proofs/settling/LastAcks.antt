-- The acknowledge time of the last MAP, with one entry more.
use Rattle.std.proofs.Common.{◌≡◌, false, ap, ◌∙◌, [], ◌∷◌, ◌++◌, List, Some}
use Rattle.minislots.specs.declared.config.Config.{Config}
use Rattle.sched_calls.specs.declared.frame_map.FrameMap.{FrameMap}
use Rattle.sched_calls.specs.declared.reply.Reply.TheVariants as replies
use Rattle.sched_calls.specs.declared.reply.Entry.{Entry}
use Rattle.sched_history.specs.Settling.{maps_of, ack_behind, last_ack}
use Rattle.sched_history.specs.Time.{is_built}
use Rattle.sched_history.proofs.lists.Latests.{said-push}
use Rattle.sched_history.proofs.settling.SettlingAfter.{unbuilt}
use Rattle.sched_history.proofs.time.NextFrames.{maps_of-built, maps_of-unbuilt}

module _ (c : Config) (h : List Entry) (e : Entry) where
  -- an entry without a MAP leaves it
  pub last_ack-same : is_built e.reply ≡ false → last_ack c (h ++ e ∷ []) ≡ last_ack c h
  last_ack-same none = ap (ack_behind c.start) (maps_of-unbuilt h e (unbuilt e.reply none))

  -- of a MAP it is that one's
  pub last_ack-built : (m : FrameMap) → e.reply ≡ replies.Built m → last_ack c (h ++ e ∷ []) ≡ m.ack
  last_ack-built m is =
      ap (ack_behind c.start) (maps_of-built h e m is)
      ∙ said-push (λ (n : FrameMap). Some n.ack) c.start (maps_of h) m
