-- The numbers of a history with one entry more.
use Rattle.std.proofs.Common.{◌≡◌, ℕ, List, [], ◌∷◌, ◌++◌, None, Some, refl, ap, ◌∙◌}
use Rattle.std.specs.Prelude.{slice_get}
use Rattle.std.specs.Option.{option_map, option_or}
use Rattle.std.proofs.lemmas.List.{append-nil}
use Rattle.std.proofs.lemmas.List.Sums.{sum_by_push}
use Rattle.minislots.specs.declared.config.Config.{Config}
use Rattle.sched_calls.specs.declared.frame_map.FrameMap.{FrameMap}
use Rattle.sched_calls.specs.declared.reply.Reply.TheVariants as replies
use Rattle.sched_calls.specs.declared.reply.Entry.{Entry}
use Rattle.sched_history.specs.History.{map_by}
use Rattle.frame_picture.specs.Frames.{Frame, frame_by, frames_after}
use Rattle.frame_picture.proofs.FrameLists.{frames_after-append}
use Rattle.sched_report.specs.Uses.{slots_in, slots_of, sum_of}
use Rattle.sched_report.specs.Totals.{last_of}
use Rattle.sched_report.proofs.SlotLists.{same_slots}

-- the frames with one entry more
frames_after-push : (before es : List Entry) (e : Entry)
    → frames_after before (es ++ e ∷ []) ≡ frames_after before es ++ frame_by (before ++ es) (map_by e.reply)
frames_after-push before es e =
    frames_after-append before es (e ∷ [])
    ∙ ap (λ (fs : List Frame). frames_after before es ++ fs) (append-nil (frame_by (before ++ es) (map_by e.reply)))

-- where it has a MAP, a frame more
pub frames_after-built : (before es : List Entry) (e : Entry) (m : FrameMap) → e.reply ≡ replies.Built m
    → frames_after before (es ++ e ∷ [])
    ≡ frames_after before es ++ record { before = before ++ es; built = m } ∷ []
frames_after-built before es e m is =
    frames_after-push before es e
    ∙ ap (λ r. frames_after before es ++ frame_by (before ++ es) (map_by r)) is

-- where it has none, the same
pub frames_after-unbuilt : (before es : List Entry) (e : Entry) → map_by e.reply ≡ None
    → frames_after before (es ++ e ∷ []) ≡ frames_after before es
frames_after-unbuilt before es e none =
    frames_after-push before es e ∙ ap (λ o. frames_after before es ++ frame_by (before ++ es) o) none
    ∙ append-nil (frames_after before es)

-- the minislots of one frame more
slots_of-frame : (c : Config) (fs : List Frame) (f : Frame)
    → slots_of c (fs ++ f ∷ []) ≡ sum_of (slots_of c fs) (slots_in c f)
slots_of-frame c fs f = same_slots _ _
    (sum_by_push (λ (g : Frame). (slots_in c g).data_grants) fs f)
    (sum_by_push (λ (g : Frame). (slots_in c g).idle) fs f)
    (sum_by_push (λ (g : Frame). (slots_in c g).open_idle) fs f)
    (sum_by_push (λ (g : Frame). (slots_in c g).opportunity) fs f)
    (sum_by_push (λ (g : Frame). (slots_in c g).poll) fs f)
    (sum_by_push (λ (g : Frame). (slots_in c g).request) fs f)
    (sum_by_push (λ (g : Frame). (slots_in c g).unsolicited) fs f)

-- the minislots with one MAP more
pub slots_of-built : (c : Config) (before es : List Entry) (e : Entry) (m : FrameMap) → e.reply ≡ replies.Built m
    → slots_of c (frames_after before (es ++ e ∷ []))
    ≡ sum_of (slots_of c (frames_after before es)) (slots_in c (record { before = before ++ es; built = m }))
slots_of-built c before es e m is =
    ap (slots_of c) (frames_after-built before es e m is)
    ∙ slots_of-frame c (frames_after before es) (record { before = before ++ es; built = m })

-- and with no MAP
pub slots_of-unbuilt : (c : Config) (before es : List Entry) (e : Entry) → map_by e.reply ≡ None
    → slots_of c (frames_after before (es ++ e ∷ [])) ≡ slots_of c (frames_after before es)
slots_of-unbuilt c before es e none = ap (slots_of c) (frames_after-unbuilt before es e none)

-- the first of some members with one behind is the first of them, or else it
pub first-push : {X : Type 0} (f : X → ℕ) (xs : List X) (x : X)
    → option_map f (slice_get (xs ++ x ∷ []) 0) ≡ option_or (option_map f (slice_get xs 0)) (Some (f x))
first-push f [] x = refl
first-push f (y ∷ xs) x = refl

-- the last of some members with one behind is that
pub last-push : {X : Type 0} (xs : List X) (x : X) → last_of (xs ++ x ∷ []) ≡ Some x
last-push [] x = refl
last-push (y ∷ []) x = refl
last-push (y ∷ z ∷ xs) x = last-push (z ∷ xs) x
