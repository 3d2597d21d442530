-- The Reserves after one more entry.
use Rattle.std.proofs.Common.{◌≡◌, false, List, [], ◌∷◌, ◌++◌, None, refl, sym, ap, ◌∙◌, append_assoc}
use Rattle.std.proofs.lemmas.List.{append-nil}
use Rattle.minislots.specs.declared.config.Config.{Config}
use Rattle.sched_calls.specs.declared.frame_map.FrameMap.{FrameMap}
use Rattle.sched_history.specs.declared.scheduler.reserves.Reserve.{Reserve}
use Rattle.sched_calls.specs.declared.call.Call.{Call}
use Rattle.sched_calls.specs.declared.call.Call.TheVariants as calls
use Rattle.sched_calls.specs.declared.reply.Reply.{Reply}
use Rattle.sched_calls.specs.declared.reply.Reply.TheVariants as replies
use Rattle.sched_calls.specs.declared.reply.Entry.{Entry}
use Rattle.sched_history.specs.Time.{is_built}
use Rattle.sched_history.specs.Reserves.{reserve_by, reserves_behind, reserves_by, reserves_with}
use Rattle.sched_history.specs.Reserves.{reserves_then, reserves_after, reserves_of}

unbuilt-same : (c : Config) (h : List Entry) (reply : Reply) (rs : List Reserve) → is_built reply ≡ false
    → reserves_by c h reply rs ≡ rs
unbuilt-same c h (replies.Built m) rs none = absurd cc
unbuilt-same c h reply rs none = refl

-- no MAP is a Reserve
pub reserve_by-built : (call : Call) (m : FrameMap) → reserve_by call (replies.Built m) ≡ None
reserve_by-built (calls.Reserve usage slots) m = refl
reserve_by-built call m = refl

module _ (c : Config) where
  reserves_after-push : (before : List Entry) (rs : List Reserve) (h : List Entry) (e : Entry)
      → reserves_after c before rs (h ++ e ∷ []) ≡ reserves_then c (before ++ h) e (reserves_after c before rs h)
  reserves_after-push before rs [] e = ap (λ all. reserves_then c all e rs) (sym (append-nil before))
  reserves_after-push before rs (x ∷ h) e =
      reserves_after-push (before ++ x ∷ []) (reserves_then c before x rs) h e
      ∙ ap (λ all. reserves_then c all e (reserves_after c (before ++ x ∷ []) (reserves_then c before x rs) h))
      (append_assoc before (x ∷ []) h)

  -- the Reserves with one entry more are those after it
  pub reserves_of-push : (h : List Entry) (e : Entry)
      → reserves_of c (h ++ e ∷ []) ≡ reserves_then c h e (reserves_of c h)
  reserves_of-push h e = reserves_after-push [] [] h e

  -- an entry with neither a Reserve nor a MAP leaves them
  pub reserves_of-same : (h : List Entry) (e : Entry) → reserve_by e.call e.reply ≡ None → is_built e.reply ≡ false
      → reserves_of c (h ++ e ∷ []) ≡ reserves_of c h
  reserves_of-same h e none unbuilt =
      reserves_of-push h e
      ∙ ap (λ o. reserves_with o (reserves_by c h e.reply (reserves_of c h))) none
      ∙ unbuilt-same c h e.reply (reserves_of c h) unbuilt

  -- a MAP meets some, and the others are older
  pub reserves_of-built : (h : List Entry) (e : Entry) (m : FrameMap) → e.reply ≡ replies.Built m
      → reserves_of c (h ++ e ∷ []) ≡ reserves_behind c h m.wire.elements (reserves_of c h)
  reserves_of-built h e m is =
      reserves_of-push h e
      ∙ ap (λ (r : Reply). reserves_with (reserve_by e.call r) (reserves_by c h r (reserves_of c h))) is
      ∙ ap (λ o. reserves_with o (reserves_behind c h m.wire.elements (reserves_of c h))) (reserve_by-built e.call m)
