-- The first free starts of a frame, one behind the other: others come no earlier, so where these end too late or too
-- soon no others serve.
use Rattle.std.proofs.Common.{◌≡◌, refl, ℕ, ◌+◌, ◌<◌, ◌≤◌, List, [], ◌∷◌, ◌++◌, length, arith}
use Rattle.std.specs.List.{AllByRecursion}
use Rattle.std.proofs.lemmas.List.{length-append}
use Rattle.minislots.specs.declared.config.Config.{Config}
use Rattle.periodic.specs.declared.search.Wanted.{Wanted}
use Rattle.periodic.specs.Bits.{IsClear}
use Rattle.periodic.specs.Placement.{FollowFrom}
use Rattle.periodic.specs.Search.{AreNoLater}
use Rattle.periodic.specs.Search.{IsFreeStart, IsNextStart, IsStartOf, AreNextStarts, AreStartsIn, AreFirstIn}

-- so many minislots from there on are free in a frame of this length
abbrev pub CanStand : List ℕ → ℕ → ℕ → ℕ → Type 0
CanStand words frame slots start = (start + slots ≤ frame) × IsClear words start slots

-- the minislot behind the last of these grants, or the first one of all
abbrev pub end_of : ℕ → ℕ → List ℕ → ℕ
end_of slots from [] = from
end_of slots from (start ∷ starts) = end_of slots (start + slots) starts

-- what keeps to a bound keeps the first list to it
pub last-within : (starts others : List ℕ) (last most : ℕ) → AreNoLater (starts ++ last ∷ []) others
    → AllByRecursion (λ o. o ≤ most) others → last ≤ most
last-within [] [] last most late within = absurd late
last-within [] (o ∷ others) last most late within = omega (arith, late.0, within.0)
last-within (s ∷ starts) [] last most late within = absurd late
last-within (s ∷ starts) (o ∷ others) last most late within = last-within starts others last most late.1 within.1

-- starts end where the last one does
pub end-push : (slots from : ℕ) (starts : List ℕ) (start : ℕ) → end_of slots from (starts ++ start ∷ []) ≡ start + slots
end-push slots from [] start = refl
end-push slots from (s ∷ starts) start = end-push slots (s + slots) starts start

module _ (words : List ℕ) (frame slots : ℕ) where
  free-from : (from start : ℕ) → from ≤ start → CanStand words frame slots start
      → IsFreeStart words frame slots from start
  free-from from start le can = record { after = le; within = can.0; clear = can.1 }

  -- starts in turn, of which there are no fewer, are no earlier than the next free ones
  pub next-no-later : (from after : ℕ) (starts others : List ℕ) → from ≤ after
      → AreNextStarts words frame slots from starts → FollowFrom slots after others
      → AllByRecursion (CanStand words frame slots) others → length starts ≤ length others → AreNoLater starts others
  next-no-later from after [] others le next turn can long = tt
  next-no-later from after (s ∷ starts) [] le next turn can long = absurd (omega arith)
  next-no-later from after (s ∷ starts) (o ∷ others) le next turn can long =
      let first : s ≤ o = next.0.least o (free-from from o (omega (arith, turn.0)) can.0) in (
        first,
        next-no-later (s + slots) (o + slots) starts others (omega arith) next.1 turn.1 can.1 (omega arith),
      )

  -- where none is free behind the next free ones, there are no more in turn
  pub next-longest : (from after : ℕ) (starts others : List ℕ) → from ≤ after
      → AreNextStarts words frame slots from starts
      → ((start : ℕ) → IsFreeStart words frame slots (end_of slots from starts) start → ⊥)
      → FollowFrom slots after others
      → AllByRecursion (CanStand words frame slots) others → length starts < length others → ⊥
  next-longest from after [] [] le next none turn can long = absurd (omega arith)
  next-longest from after [] (o ∷ others) le next none turn can long =
      none o (free-from from o (omega (arith, turn.0)) can.0)
  next-longest from after (s ∷ starts) [] le next none turn can long = absurd (omega arith)
  next-longest from after (s ∷ starts) (o ∷ others) le next none turn can long =
      let first : s ≤ o = next.0.least o (free-from from o (omega (arith, turn.0)) can.0) in
      next-longest (s + slots) (o + slots) starts others (omega arith) next.1 none turn.1 can.1 (omega arith)

  -- one start more
  pub next-push : (from : ℕ) (starts : List ℕ) (start : ℕ) → AreNextStarts words frame slots from starts
      → IsNextStart words frame slots (end_of slots from starts) start
      → AreNextStarts words frame slots from (starts ++ start ∷ [])
  next-push from [] start next here = (here, tt)
  next-push from (s ∷ starts) start next here = (next.0, next-push (s + slots) starts start next.1 here)

  -- they stand in turn
  pub next-follow : (from : ℕ) (starts : List ℕ) → AreNextStarts words frame slots from starts
      → FollowFrom slots from starts
  next-follow from [] next = tt
  next-follow from (s ∷ starts) next = (next.0.free.after, next-follow (s + slots) starts next.1)

-- starts in a window can stand
pub can-stand : (c : Config) (w : Wanted) (offset : ℕ) (words others : List ℕ)
    → AllByRecursion (IsStartOf c w offset words) others → AllByRecursion (CanStand words c.frame w.slots) others
can-stand c w offset words [] all = tt
can-stand c w offset words (o ∷ others) all =
    ((all.0.free.within, all.0.free.clear), can-stand c w offset words others all.1)

-- and keep to its end
pub keep-within : (c : Config) (w : Wanted) (offset : ℕ) (words others : List ℕ)
    → AllByRecursion (IsStartOf c w offset words) others → AllByRecursion (λ o. o ≤ offset + w.jitter) others
keep-within c w offset words [] all = tt
keep-within c w offset words (o ∷ others) all = (all.0.within_jitter, keep-within c w offset words others all.1)

-- free starts that keep to the window's end are starts in it
pub starts-within : (c : Config) (w : Wanted) (offset from : ℕ) (words starts : List ℕ) → offset ≤ from
    → AreNextStarts words c.frame w.slots from starts → AllByRecursion (λ s. s ≤ offset + w.jitter) starts
    → AllByRecursion (IsStartOf c w offset words) starts
starts-within c w offset from words [] le next within = tt
starts-within c w offset from words (s ∷ starts) le next within =
    let free = next.0.free in (
      record {
        free = record { after = omega (arith, free.after); within = free.within; clear = free.clear };
        within_jitter = within.0;
      },
      starts-within c w offset (s + w.slots) words starts (omega (arith, free.after)) next.1 within.1,
    )

module _ (c : Config) (w : Wanted) (offset : ℕ) (words starts : List ℕ)
    (next : AreNextStarts words c.frame w.slots offset starts) where
  -- the next free starts, as many as are wanted and within the window, are the first
  pub first-in : length starts ≡ w.grants → AllByRecursion (λ s. s ≤ offset + w.jitter) starts
      → AreFirstIn c w offset words starts
  first-in count within = record {
    lawful = record {
      count = count;
      in_turn = next-follow words c.frame w.slots offset starts next;
      each = starts-within c w offset offset words starts (omega arith) next within;
    };
    least = λ others are. next-no-later words c.frame w.slots offset offset starts others (omega arith) next are.in_turn
        (can-stand c w offset words others are.each) (omega (arith, are.count, count));
  }

  -- where no more are free, no later offset has starts
  pub no-more : (between : ℕ) (others : List ℕ) → offset ≤ between → length starts < w.grants
      → ((start : ℕ) → IsFreeStart words c.frame w.slots (end_of w.slots offset starts) start → ⊥)
      → AreStartsIn c w between words others → ⊥
  no-more between others le few none are =
      next-longest words c.frame w.slots offset between starts others le next none are.in_turn
      (can-stand c w between words others are.each) (omega (arith, are.count))

  -- where the next one is after the window's end, an offset with starts lies no further before it than the jitter
  pub too-late : (between last : ℕ) (others : List ℕ) → offset ≤ between → length starts < w.grants
      → IsNextStart words c.frame w.slots (end_of w.slots offset starts) last
      → AreStartsIn c w between words others → last ≤ between + w.jitter
  too-late between last others le few here are =
      let more = next-push words c.frame w.slots offset starts last next here in
      let long = length-append starts (last ∷ []) in
      last-within starts others last (between + w.jitter)
      (next-no-later words c.frame w.slots offset between (starts ++ last ∷ []) others le more are.in_turn
      (can-stand c w between words others are.each) (omega (arith, are.count, long)))
      (keep-within c w between words others are.each)
