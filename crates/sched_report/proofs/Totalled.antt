-- The totals of a history with one entry more.
use Rattle.std.proofs.Common.{◌≡◌, ℕ, ◌+◌, ◌≤◌, ◌^◌, List, [], ◌∷◌, ◌++◌, length, Option, None, Some, refl, ap}
use Rattle.std.proofs.Common.{◌∙◌, sym, Bool, false, if◌then◌else◌, arith}
use Rattle.std.specs.Prelude.{slice_get, count_by}
use Rattle.std.specs.Option.{option_map, option_or}
use Rattle.std.proofs.lemmas.List.{length_push}
use Rattle.std.proofs.lemmas.List.Sums.{sum_by_push}
use Rattle.minislots.specs.declared.config.Config.{Config}
use Rattle.sched_calls.specs.declared.frame_map.FrameMap.{FrameMap}
use Rattle.sched_calls.specs.declared.reply.Reply.{Reply}
use Rattle.sched_calls.specs.declared.reply.Reply.TheVariants as replies
use Rattle.sched_calls.specs.declared.reply.Entry.{Entry}
use Rattle.sched_history.specs.History.{map_by}
use Rattle.sched_history.specs.Facts.{maps_of}
use Rattle.sched_history.proofs.time.NextFrames.{maps_of-built, maps_of-unbuilt}
use Rattle.sched_report.specs.declared.calls.Calls.{Calls}
use Rattle.sched_report.specs.declared.slots.Slots.{Slots}
use Rattle.sched_report.specs.declared.totals.Totals.{Totals}
use Rattle.sched_report.specs.Counts.{calls_of}
use Rattle.sched_report.specs.Uses.{slots_in, all_slots, sum_of}
use Rattle.sched_report.specs.Totals.{last_of, is_skip_answer, is_replacement, totals_of, with_frame, AreTotals}
use Rattle.sched_report.proofs.Pushed.{slots_of-built, slots_of-unbuilt, first-push, last-push}

-- so many of each number
abbrev totals_with : ℕ → Option ℕ → Option ℕ → ℕ → ℕ → Calls → Slots → Bool → Totals
totals_with frames from to skips replaces calls slots opens = record {
  frames = frames;
  from = from;
  to = to;
  skips = skips;
  replaces = replaces;
  calls = calls;
  slots = slots;
  opens = opens;
}

-- numbers are the same where each of them is
pub same_totals : (a b : Totals) → a.frames ≡ b.frames → a.from ≡ b.from → a.to ≡ b.to → a.skips ≡ b.skips
    → a.replaces ≡ b.replaces → a.calls ≡ b.calls → a.slots ≡ b.slots → a.opens ≡ b.opens → a ≡ b
same_totals a b frames from to skips replaces calls slots opens =
    ap (λ n. totals_with n a.from a.to a.skips a.replaces a.calls a.slots a.opens) frames
    ∙ ap (λ n. totals_with b.frames n a.to a.skips a.replaces a.calls a.slots a.opens) from
    ∙ ap (λ n. totals_with b.frames b.from n a.skips a.replaces a.calls a.slots a.opens) to
    ∙ ap (λ n. totals_with b.frames b.from b.to n a.replaces a.calls a.slots a.opens) skips
    ∙ ap (λ n. totals_with b.frames b.from b.to b.skips n a.calls a.slots a.opens) replaces
    ∙ ap (λ n. totals_with b.frames b.from b.to b.skips b.replaces n a.slots a.opens) calls
    ∙ ap (λ n. totals_with b.frames b.from b.to b.skips b.replaces b.calls n a.opens) slots
    ∙ ap (λ n. totals_with b.frames b.from b.to b.skips b.replaces b.calls b.slots n) opens

module _ (c : Config) (before h : List Entry) (e : Entry) (t : Totals) (calls : Calls) (replaces : ℕ)
    (are : AreTotals c before h t)
    (called : calls ≡ calls_of (h ++ e ∷ []))
    (replaced : replaces ≡ t.replaces + (if is_replacement e.call e.reply then 1 else 0)) where
  -- the totals with the call of the entry
  abbrev counted_call : Totals
  counted_call = record t { calls = calls; replaces = replaces }

  -- how many requests superseded others
  replaces-push : replaces ≡ count_by (λ x. is_replacement x.call x.reply) (h ++ e ∷ [])
  replaces-push =
      omega (
        arith,
        replaced,
        ap (λ (t : Totals). t.replaces) are.value,
        sum_by_push (λ (x : Entry). if is_replacement x.call x.reply then 1 else 0) h e,
      )

  -- how often frames were left out
  skips-push : count_by (λ x. is_skip_answer x.reply) (h ++ e ∷ [])
      ≡ count_by (λ x. is_skip_answer x.reply) h + (if is_skip_answer e.reply then 1 else 0)
  skips-push = sum_by_push (λ x. if is_skip_answer x.reply then 1 else 0) h e

  -- a MAP more is a frame more
  pub totals-built : (m : FrameMap) (s : Slots) → e.reply ≡ replies.Built m
      → s ≡ slots_in c (record { before = before ++ h; built = m })
      → with_frame c.frame counted_call m s ≡ totals_of c before (h ++ e ∷ [])
  totals-built m s is slots =
      let maps : maps_of (h ++ e ∷ []) ≡ maps_of h ++ m ∷ [] = maps_of-built h e m is in
      same_totals _ _
      (ap (λ n. n + 1) (ap (λ t. t.frames) are.value) ∙ sym (ap length maps ∙ length_push (maps_of h) m))
      (ap (λ o. option_or o (Some m.start)) (ap (λ t. t.from) are.value)
      ∙ sym (ap (λ ms. option_map (λ m. m.start) (slice_get ms 0)) maps
      ∙ first-push (λ (n : FrameMap). n.start) (maps_of h) m))
      (sym (ap (λ ms. option_map (λ m. m.start + c.frame) (last_of ms)) maps
      ∙ ap (option_map (λ m. m.start + c.frame)) (last-push (maps_of h) m)))
      (ap (λ t. t.skips) are.value ∙ sym (skips-push ∙ rw is (omega arith)))
      replaces-push
      called
      (ap (λ u. sum_of t.slots u) slots
      ∙ ap (λ u. sum_of u.slots (slots_in c (record { before = before ++ h; built = m }))) are.value
      ∙ sym (slots_of-built c before h e m is))
      (ap (λ t. t.opens) are.value)

  -- without a MAP there is no frame more
  pub totals-unbuilt : (skips : ℕ) → map_by e.reply ≡ None
      → skips ≡ t.skips + (if is_skip_answer e.reply then 1 else 0)
      → record counted_call { skips = skips } ≡ totals_of c before (h ++ e ∷ [])
  totals-unbuilt skips none more =
      let maps : maps_of (h ++ e ∷ []) ≡ maps_of h = maps_of-unbuilt h e none in
      same_totals _ _
      (ap (λ t. t.frames) are.value ∙ sym (ap length maps))
      (ap (λ t. t.from) are.value ∙ sym (ap (λ ms. option_map (λ m. m.start) (slice_get ms 0)) maps))
      (ap (λ t. t.to) are.value ∙ sym (ap (λ ms. option_map (λ m. m.start + c.frame) (last_of ms)) maps))
      (more ∙ ap (λ n. n + (if is_skip_answer e.reply then 1 else 0)) (ap (λ t. t.skips) are.value) ∙ sym skips-push)
      replaces-push
      called
      (ap (λ t. t.slots) are.value ∙ sym (slots_of-unbuilt c before h e none))
      (ap (λ t. t.opens) are.value)

  -- what is counted with a MAP more
  pub AreTotals-built : (m : FrameMap) (new : Totals) → e.reply ≡ replies.Built m
      → new ≡ with_frame c.frame counted_call m (slots_in c (record { before = before ++ h; built = m }))
      → all_slots new.slots ≤ all_slots t.slots + 2 ^ 14 → AreTotals c before (h ++ e ∷ []) new
  AreTotals-built m new is counted more = record {
    value = counted ∙ totals-built m (slots_in c (record { before = before ++ h; built = m })) is refl;
    few = omega (arith, ap (λ (t : Totals). t.frames) counted, are.few, length_push h e);
    bounded = omega (arith, more, are.bounded, length_push h e);
  }

  -- and without one
  pub AreTotals-unbuilt : (skips : ℕ) → map_by e.reply ≡ None
      → skips ≡ t.skips + (if is_skip_answer e.reply then 1 else 0)
      → AreTotals c before (h ++ e ∷ []) (record counted_call { skips = skips })
  AreTotals-unbuilt skips none more = record {
    value = totals-unbuilt skips none more;
    few = omega (arith, are.few, length_push h e);
    bounded = omega (arith, are.bounded, length_push h e);
  }

-- a reply that has no MAP and leaves out no frame
pub neither : (reply : Reply) → ((m : FrameMap) → reply ≡ replies.Built m → ⊥)
    → ((n : ℕ) → reply ≡ replies.Skipped n → ⊥)
    → (map_by reply ≡ None) × (is_skip_answer reply ≡ false)
neither (replies.Built m) unbuilt unskipped = absurd (unbuilt m refl)
neither (replies.Skipped n) unbuilt unskipped = absurd (unskipped n refl)
neither (replies.Admitted placement) unbuilt unskipped = (refl, refl)
neither (replies.Changed placement) unbuilt unskipped = (refl, refl)
neither replies.Removed unbuilt unskipped = (refl, refl)
neither replies.Taken unbuilt unskipped = (refl, refl)
neither replies.Noted unbuilt unskipped = (refl, refl)
neither replies.Reserved unbuilt unskipped = (refl, refl)
neither (replies.Flow asked granted outstanding) unbuilt unskipped = (refl, refl)
neither (replies.Refused refusal) unbuilt unskipped = (refl, refl)
