-- The one of a list that is served first at a minislot, as its places are gone through.
use Rattle.std.proofs.Common.{◌≡◌, sym, ap, ◌∙◌, subst, ℕ, ◌+◌, ◌<◌, ◌≤◌, Bool, true, false, cond, nat_lt, List, [], ◌∷◌, ◌++◌}
use Rattle.std.proofs.Common.{filter, take, drop, get_or, length, inl, inr, arith}
use Rattle.std.specs.List.{AllByRecursion}
use Rattle.std.proofs.lemmas.Bool.Decides.{nat_tests}
use Rattle.std.proofs.lemmas.List.{take_more, drop_more, take-append-drop, take_all}
use Rattle.std.proofs.lemmas.Option.{get_or_from_slice_get}
use Rattle.minislots.specs.declared.config.Config.{Config}
use Rattle.flow_book.specs.declared.flow.Flow.{Flow}
use Rattle.flow_book.specs.declared.soonest.Able.{Able}
use Rattle.flow_book.specs.declared.waiting.Waiting.{Waiting}
use Rattle.flow_book.specs.declared.tiers.Tier.{Tier}
use Rattle.flow_book.specs.Queue.{IsAble, IsFirstAble, IsSoonest, IsPassed, IsNoSooner, HasStartedPart, still_waits}
use Rattle.flow_book.specs.Tiers.{turn_at}
use Rattle.flow_book.proofs.Order.{all-implied}
use Rattle.flow_book.proofs.Serving.{all-later, all-sooner, late-behind}
use Rattle.flow_book.proofs.StillWaiting.{kept-more}

module _ (c : Config) (items : List Flow) (tiers : List Tier) (queue : List Waiting) (start room : ℕ) where
  -- the one that may be served at a place is the one that stands there
  pub able-is : (i : ℕ) (w : Waiting) → w ≡ get_or queue i w → (is : IsAble c items queue start room i) → is.waiting ≡ w
  able-is i w here is =
      sym (here ∙ get_or_from_slice_get queue i is.waiting w is.here)

  -- the first that may be served is the soonest of those before it
  pub first-soonest : (i turn : ℕ) (w : Waiting) → w ≡ get_or queue i w → turn ≡ turn_at c tiers start w
      → IsFirstAble c items queue start room i → IsSoonest c items tiers (take i queue) queue start room i turn
  first-soonest i turn w here is first = record {
    able = first.able;
    is = is ∙ ap (turn_at c tiers start) (sym (able-is i w here first.able));
    first = all-implied (IsPassed c start room items) (IsNoSooner c tiers start room items turn)
        (filter still_waits (take i queue)) (λ v pass. inl pass) first.passed;
  }

  -- it stays so with one more that is no sooner
  pub soonest-more : (i index turn : ℕ) (w : Waiting) → i < length queue → w ≡ get_or queue i w
      → (still_waits w ≡ true → IsNoSooner c tiers start room items turn w)
      → IsSoonest c items tiers (take i queue) queue start room index turn
      → IsSoonest c items tiers (take (i + 1) queue) queue start room index turn
  soonest-more i index turn w lt here late is =
      let P = IsNoSooner c tiers start room items turn in
      record {
        able = is.able;
        is = is.is;
        first = subst (λ ws. AllByRecursion P (filter still_waits ws))
            (sym (take_more queue i w lt ∙ ap (λ v. take i queue ++ v ∷ []) (sym here)))
            (kept-more P still_waits (take i queue) w late is.first);
      }

  -- and one more that is sooner takes its place
  pub soonest-new : (i index turn sooner : ℕ) (w : Waiting) → i < length queue → w ≡ get_or queue i w → sooner < turn
      → sooner ≡ turn_at c tiers start w → IsAble c items queue start room i
      → IsSoonest c items tiers (take i queue) queue start room index turn
      → IsSoonest c items tiers (take (i + 1) queue) queue start room i sooner
  soonest-new i index turn sooner w lt here less is able old =
      soonest-more i i sooner w lt here (λ still. inr (omega (arith, is))) (record {
        able = able;
        is = is ∙ ap (turn_at c tiers start) (sym (able-is i w here able));
        first = all-sooner c start room items tiers sooner turn (filter still_waits (take i queue)) (omega (arith, less))
            old.first;
      })

  -- so of the two the one of the earlier turn is the soonest
  pub soonest-step : (i turn : ℕ) (best : Able) (w : Waiting) (b : Bool) → nat_lt turn best.turn ≡ b → i < length queue
      → w ≡ get_or queue i w → turn ≡ turn_at c tiers start w → IsAble c items queue start room i
      → IsSoonest c items tiers (take i queue) queue start room best.index best.turn
      → (best' : Able) → best' ≡ cond b (record { index = i; turn = turn }) best
      → IsSoonest c items tiers (take (i + 1) queue) queue start room best'.index best'.turn
  soonest-step i turn best w true less lt here is able old best' which =
      let low : turn < best.turn = grind (arith, nat_tests) in
      rw which (soonest-new i best.index best.turn turn w lt here low is able old)
  soonest-step i turn best w false more lt here is able old best' which =
      let low : best.turn ≤ turn = grind (arith, nat_tests) in
      rw which (soonest-more i best.index best.turn w lt here (λ still. inr (omega (arith, low, is))) old)

  -- at the end it is the soonest of all
  pub soonest-end : (i index turn : ℕ) → length queue ≤ i
      → IsSoonest c items tiers (take i queue) queue start room index turn
      → IsSoonest c items tiers queue queue start room index turn
  soonest-end i index turn past is =
      subst (λ ws. IsSoonest c items tiers ws queue start room index turn) (take_all i queue past) is

  -- and before where one waits whose own turn is no earlier
  pub soonest-whole : (i index turn : ℕ) (w : Waiting) → HasStartedPart c items tiers queue start → i < length queue
      → w ≡ get_or queue i w → still_waits w ≡ true → turn ≤ w.turn
      → IsSoonest c items tiers (take i queue) queue start room index turn
      → IsSoonest c items tiers queue queue start room index turn
  soonest-whole i index turn w has lt here still low is =
      let split : queue ≡ take i queue ++ w ∷ drop (i + 1) queue =
      sym (take-append-drop i queue) ∙ ap (λ ws. take i queue ++ ws) (drop_more queue i w lt
      ∙ ap (λ v. v ∷ drop (i + 1) queue) (sym here)) in
      record {
        able = is.able;
        is = is.is;
        first = late-behind c start room items tiers turn (take i queue) w (drop (i + 1) queue) queue split still low
            has.ascending (all-later c items tiers start (filter still_waits queue) has.book has.started has.each
            has.tiered) is.first;
      }
