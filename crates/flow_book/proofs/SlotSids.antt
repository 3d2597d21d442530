-- Where the flow of an SID stands among flows that are picked by their slots.
use Rattle.std.proofs.Common.{◌≡◌, ◌∙◌, ap, sym, ℕ, ◌<◌, ◌==◌, List, [], ◌∷◌, map, length, get_or, position}
use Rattle.std.proofs.Common.{refl, nat_lt, arith}
use Rattle.std.specs.List.{AllByRecursion, position_or_len}
use Rattle.std.proofs.lemmas.List.{get_or-map}
use Rattle.sched_calls.specs.Sids.{AscendBy}
use Rattle.flow_book.specs.declared.flow.Flow.{Flow}
use Rattle.flow_book.specs.Entry.{live}
use Rattle.flow_book.specs.Book.{Ascend}
use Rattle.flow_book.specs.Slots.{picked, sid_in}
use Rattle.flow_book.proofs.Searches.{ascends-of}
use Rattle.flow_book.proofs.Places.{position-map, position_or_len-map}
use Rattle.flow_book.proofs.Slots.{AreBelow, map-map, map-same}

module _ {X : Type 0} (number : X → ℕ) where
  all-numbers : (P : ℕ → Type 0) (xs : List X) → AllByRecursion (λ x. P (number x)) xs
      → AllByRecursion P (map number xs)
  all-numbers P [] all = tt
  all-numbers P (x ∷ xs) all = (all.0, all-numbers P xs all.1)

  -- where members ascend by their numbers, the numbers do
  ascends-numbers : (xs : List X) → AscendBy number xs → AscendBy (λ n. n) (map number xs)
  ascends-numbers [] up = tt
  ascends-numbers (x ∷ xs) up = (all-numbers (λ n. number x < n) xs up.0, ascends-numbers xs up.1)

-- the SIDs of the flows are those in their slots
pub sids-picked : (flows : List Flow) (slots : List ℕ) → AreBelow slots (length flows)
    → map (λ f. f.sid) (picked flows slots) ≡ map (sid_in flows) slots
sids-picked [] [] below = refl
sids-picked [] (s ∷ slots) below = absurd (omega (arith, below 0 (omega arith)))
sids-picked (f ∷ flows) slots below =
    map-map (λ (g : Flow). g.sid) (λ s. get_or (f ∷ flows) s f) slots
    ∙ map-same (λ s. (get_or (f ∷ flows) s f).sid) (sid_in (f ∷ flows)) slots
    (λ i lt. sym (get_or-map (λ (g : Flow). g.sid) (f ∷ flows) (get_or slots i 0) f 0 (below i lt)))

module _ (flows : List Flow) (slots : List ℕ) (below : AreBelow slots (length flows)) where
  -- where the flows ascend, the slots do by the SIDs in them
  pub ascends-slots : Ascend (map live (picked flows slots)) → AscendBy (sid_in flows) slots
  ascends-slots up =
      let sids = ascends-numbers (λ (f : Flow). f.sid) (picked flows slots)
      (ascends-of live (λ g. g.sid) (picked flows slots) up) in
      ascends-of (sid_in flows) (λ n. n) slots (rw (sids-picked flows slots below) at sids)

  -- a flow stands where its slot does
  pub position-picked : (sid : ℕ) → position (λ s. sid_in flows s == sid) slots
      ≡ position (λ f. f.sid == sid) (picked flows slots)
  position-picked sid =
      sym (position-map (sid_in flows) (λ n. n == sid) slots)
      ∙ ap (position (λ n. n == sid)) (sym (sids-picked flows slots below))
      ∙ position-map (λ (f : Flow). f.sid) (λ n. n == sid) (picked flows slots)

  -- and the first of a higher SID where its slot does
  pub position_or_len-picked : (sid : ℕ) → position_or_len (λ s. nat_lt sid (sid_in flows s)) slots
      ≡ position_or_len (λ f. nat_lt sid f.sid) (picked flows slots)
  position_or_len-picked sid =
      sym (position_or_len-map (sid_in flows) (λ n. nat_lt sid n) slots)
      ∙ ap (position_or_len (λ n. nat_lt sid n)) (sym (sids-picked flows slots below))
      ∙ position_or_len-map (λ (f : Flow). f.sid) (λ n. nat_lt sid n) (picked flows slots)
