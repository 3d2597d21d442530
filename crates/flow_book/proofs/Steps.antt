-- One step of the search for the flow that is served first.
use Rattle.std.proofs.Common.{◌≡◌, sym, ap, ◌∙◌, ℕ, ◌+◌, ◌<◌, Bool, true, false, List, [], ◌∷◌, ◌++◌, map, length}
use Rattle.std.proofs.Common.{get_or, take, drop, Option, None, Some, IsTrue, MatchOption, Bor, option_map}
use Rattle.std.proofs.Common.{option_copied, IfSome, ◌&&◌, ◌⊎◌, inl, inr, refl, arith}
use Rattle.std.specs.List.{AllByRecursion}
use Rattle.std.proofs.Math.ListN.{get_or-map}
use Rattle.std.proofs.lemmas.List.Elements.{All-from_recursion}
use Rattle.std.proofs.lemmas.List.{take_more, drop_more, take-append-drop, map-append, length-map}
use Rattle.minislots.specs.declared.config.Config.{Config}
use Rattle.flow_book.specs.declared.flow.Flow.{Flow}
use Rattle.flow_book.specs.Flows.{LiveFlow}
use Rattle.flow_book.specs.Choice.{is_before, IsEligible, IsNextOf}
use Rattle.flow_book.specs.Entry.{live}
use Rattle.flow_book.specs.Book.{Ascend}
use Rattle.flow_book.proofs.Order.{lower-before, all-contains, next-first, next-changes, next-stays}

module _ {X Y : Type 0} (h : X → Y) (items : List X) (i : ℕ) (x : X) (lt : i < length items)
    (is : x ≡ get_or items i x) where
  -- the values up to this one are those before it, and this one
  pub taken-item : map h (take (i + 1) items) ≡ map h (take i items) ++ h x ∷ []
  taken-item =
      ap (map h) (take_more items i x lt ∙ ap (λ (y : X). take i items ++ y ∷ []) (sym is))
      ∙ map-append h (take i items) (x ∷ [])

  -- what holds of each value holds of this one
  pub all-item : (P : Y → Type 0) → AllByRecursion P (map h items) → P (h x)
  all-item P all =
      let at : h x ≡ get_or (map h items) i (h x) = ap h is ∙ sym (get_or-map h items i x) in
      rw at (All-from_recursion P (map h items) all i (h x) (omega (arith, length-map items h)))

-- of two tests of which not both pass one fails
pub both-true : (a b r : Bool) → r ≡ (a && b) → r ≡ true → (a ≡ true) × (b ≡ true)
both-true true true r is e = (refl, refl)
both-true true false r is e = absurd (cc)
both-true false b r is e = absurd (cc)

-- a test of two that fails fails by one of them
pub both-false : (a b r : Bool) → r ≡ (a && b) → r ≡ false → (a ≡ false) ⊎ (b ≡ false)
both-false true true r is e = absurd (cc)
both-false true false r is e = inr refl
both-false false b r is e = inl refl

-- those before it have lower SIDs
pub lower-item : (items : List Flow) (i : ℕ) (f : Flow) → i < length items → f ≡ get_or items i f
    → Ascend (map live items) → AllByRecursion (λ g. g.sid < (live f).sid) (map live (take i items))
lower-item items i f lt is up =
    let split : items ≡ take i items ++ f ∷ drop (i + 1) items =
    sym (take-append-drop i items)
    ∙ ap (λ gs. take i items ++ gs) (drop_more items i f lt
    ∙ ap (λ (g : Flow). g ∷ drop (i + 1) items) (sym is)) in
    let parts : map live items ≡ map live (take i items) ++ live f ∷ map live (drop (i + 1) items) =
    ap (map live) split ∙ map-append live (take i items) (f ∷ drop (i + 1) items) in
    lower-before (map live (take i items)) (live f) (map live (drop (i + 1) items)) (rw parts at up)

module _ (c : Config) (start room : ℕ) (flows : List LiveFlow) (f : Flow) where
  -- the next of those before it has a lower SID
  pub next-lower : (o : Option (Bor Flow)) → IsNextOf c start room flows (option_map live (option_copied o))
      → AllByRecursion (λ g. g.sid < (live f).sid) flows → IfSome o (λ n. n.now.sid < f.sid)
  next-lower None is lower = tt
  next-lower (Some n) is lower = all-contains (λ (g : LiveFlow). g.sid < f.sid) flows (live n.now) lower is.live

  -- a flow that may be served and comes before the next is the next
  pub step-changes : (o : Option (Bor Flow)) (r : Bool)
      → IsNextOf c start room flows (option_map live (option_copied o)) → IsEligible c start room (live f)
      → MatchOption o (IsTrue r) (λ n. r ≡ is_before c start (live f) (live n.now)) → r ≡ true
      → IsNextOf c start room (flows ++ live f ∷ []) (Some (live f))
  step-changes None r is may tested passes = next-first c start room flows (live f) is may
  step-changes (Some n) r is may tested passes =
      next-changes c start room flows (live n.now) (live f) is may (sym tested ∙ passes)

  -- one that may and doesn't comes after it
  pub step-stays : (o : Option (Bor Flow)) (r : Bool)
      → IsNextOf c start room flows (option_map live (option_copied o))
      → AllByRecursion (λ g. g.sid < (live f).sid) flows
      → MatchOption o (IsTrue r) (λ n. r ≡ is_before c start (live f) (live n.now)) → r ≡ false
      → IsNextOf c start room (flows ++ live f ∷ []) (option_map live (option_copied o))
  step-stays None r is lower tested fails = absurd (cc)
  step-stays (Some n) r is lower tested fails =
      next-stays c start room flows (live n.now) (live f) is lower (sym tested ∙ fails)
