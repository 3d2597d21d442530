-- The next frame and the progress of receivers after one more entry.
use Rattle.std.proofs.Common.{◌≡◌, ℕ, ◌+◌, ◌*◌, Bool, true, false, cond, List, []}
use Rattle.std.proofs.Common.{◌∷◌, ◌++◌, Option, None, Some, refl, ap, ◌∙◌, arith}
use Rattle.std.specs.Option.{option_map, option_map_or}
use Rattle.std.proofs.lemmas.List.Sums.{sum_by_push}
use Rattle.minislots.specs.declared.config.Config.{Config}
use Rattle.sched_calls.specs.declared.frame_map.FrameMap.{FrameMap}
use Rattle.sched_calls.specs.declared.reply.Reply.TheVariants as replies
use Rattle.sched_calls.specs.declared.reply.Entry.{Entry}
use Rattle.sched_history.specs.Latest.{Found, latest}
use Rattle.sched_history.specs.Time.{skip_by, is_built, builds_in, next_after, progress_by, progress_of}
use Rattle.sched_history.proofs.lists.Latests.{with_after, latest-says, latest-silent}

-- how many MAPs are built with one more entry
pub builds_in-push : (entries : List Entry) (e : Entry)
    → builds_in (entries ++ e ∷ []) ≡ builds_in entries + cond {A = ℕ} (is_built e.reply) 1 0
builds_in-push entries e = sum_by_push (λ x. cond (is_built x.reply) 1 0) entries e

-- one MAP more is a frame later
later : (start frame builds : ℕ) (b : Bool) → start + frame * (builds + cond {A = ℕ} b 1 0)
    ≡ start + frame * builds + cond {A = ℕ} b frame 0
later start frame builds true = omega arith
later start frame builds false = omega arith

module _ (c : Config) (h : List Entry) (e : Entry) where
  -- where the next frame starts, from the latest skip
  abbrev from_skip : Option (Found Entry ℕ) → List Entry → ℕ
  from_skip found entries =
      option_map_or (λ found. found.said + c.frame * builds_in found.after) found
      (c.start + c.frame * builds_in entries)

  from_skip-more : (found : Option (Found Entry ℕ))
      → from_skip (option_map (with_after e) found) (h ++ e ∷ [])
      ≡ from_skip found h + cond {A = ℕ} (is_built e.reply) c.frame 0
  from_skip-more None = rw (builds_in-push h e) (later c.start c.frame (builds_in h) (is_built e.reply))
  from_skip-more (Some found) =
      rw (builds_in-push found.after e) (later found.said c.frame (builds_in found.after) (is_built e.reply))

  -- an entry that is no skip moves the next frame where it has a MAP
  pub next_after-more : skip_by e.reply ≡ None → next_after c (h ++ e ∷ [])
      ≡ next_after c h + cond {A = ℕ} (is_built e.reply) c.frame 0
  next_after-more none =
      ap (λ found. from_skip found (h ++ e ∷ [])) (latest-silent (λ x. skip_by x.reply) h e none)
      ∙ from_skip-more (latest (λ x. skip_by x.reply) h)

  -- after a MAP the next frame is the one behind it
  pub next_after-built : (m : FrameMap) → e.reply ≡ replies.Built m
      → next_after c (h ++ e ∷ []) ≡ next_after c h + c.frame
  next_after-built m is = let none : skip_by e.reply ≡ None = rw is refl in next_after-more none ∙ rw is refl

  -- an entry with neither a MAP nor a skip leaves the next frame
  pub next_after-same : skip_by e.reply ≡ None → is_built e.reply ≡ false → next_after c (h ++ e ∷ []) ≡ next_after c h
  next_after-same none unbuilt = let more = next_after-more none in
      let same : cond {A = ℕ} (is_built e.reply) c.frame 0 ≡ 0 = rw unbuilt refl in omega arith

  -- after a skip the next frame starts where it says
  pub next_after-skipped : (n : ℕ) → e.reply ≡ replies.Skipped n → next_after c (h ++ e ∷ []) ≡ n
  next_after-skipped n is =
      ap (λ found. from_skip found (h ++ e ∷ [])) (latest-says (λ x. skip_by x.reply) h e n (rw is refl))
      ∙ (omega arith)

said-more : (e : Entry) (found : Option (Found Entry ℕ)) (start : ℕ)
    → option_map_or (λ found. found.said) (option_map (with_after e) found) start
    ≡ option_map_or (λ found. found.said) found start
said-more e None start = refl
said-more e (Some found) start = refl

module _ (c : Config) (receiver : ℕ) (h : List Entry) (e : Entry) where
  -- an entry that notes nothing of a receiver leaves its progress
  pub progress_of-same : progress_by receiver e.call e.reply ≡ None
      → progress_of c receiver (h ++ e ∷ []) ≡ progress_of c receiver h
  progress_of-same none =
      ap (λ found. option_map_or (λ found. found.said) found c.start)
      (latest-silent (λ x. progress_by receiver x.call x.reply) h e none)
      ∙ said-more e (latest (λ x. progress_by receiver x.call x.reply) h) c.start

  -- after a note the receiver's progress is what it says
  pub progress_of-noted : (upto : ℕ) → progress_by receiver e.call e.reply ≡ Some upto
      → progress_of c receiver (h ++ e ∷ []) ≡ upto
  progress_of-noted upto noted =
      ap (λ found. option_map_or (λ found. found.said) found c.start)
      (latest-says (λ x. progress_by receiver x.call x.reply) h e upto noted)
