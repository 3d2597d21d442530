-- The numbers of the lives of a rank, with one life more.
use Rattle.std.proofs.Common.{◌≡◌, ℕ, ◌+◌, ◌<◌, true, List, [], ◌∷◌, ◌++◌, length, take, get_or}
use Rattle.std.proofs.Common.{Option, None, Some, refl, sym, ap, ◌∙◌, subst, arith}
use Rattle.std.specs.Prelude.{min, max}
use Rattle.std.specs.Option.{option_map_or}
use Rattle.std.proofs.lemmas.List.{take_more, append-nil}
use Rattle.std.proofs.lemmas.List.Concat.{flat_map-append}
use Rattle.std.proofs.lemmas.List.Elements.{filter-append}
use Rattle.std.proofs.lemmas.List.Sums.{sum_by_push}
use Rattle.std.proofs.Common.{length-append}
use Rattle.minislots.specs.declared.config.Config.{Config}
use Rattle.sched_calls.specs.declared.spec.FlowSpec.{FlowSpec}
use Rattle.sched_calls.specs.declared.spec.FlowSpec.TheVariants.{Unsolicited, Polled, BestEffort}
use Rattle.sched_calls.specs.FlowSpec.{takes_requests}
use Rattle.sched_report.specs.declared.life.LifeTally.{LifeTally}
use Rattle.sched_report.specs.declared.ranks.RankSums.{RankSums}
use Rattle.sched_report.specs.Delays.{least_of, greatest_of}
use Rattle.sched_report.specs.Lives.{PastLife, spec_of}
use Rattle.sched_report.specs.Said.{claims_of, delays_in, granted_under, granted_in, waiting_in, dropped_in}
use Rattle.sched_report.specs.Said.{replaced_in}
use Rattle.sched_report.specs.Ranks.{is_chosen, chosen, delays_in_all, both_least, both_greatest, AreRankSums}
use Rattle.sched_report.specs.Told.{IsLifeOf}
use Rattle.sched_report.specs.ToldLives.{AreLives}

-- the lives of a rank among one more
pub chosen-more : (rank : Option ℕ) (ls : List PastLife) (i : ℕ) (d : PastLife) → i < length ls
    → chosen rank (take (i + 1) ls) ≡ chosen rank (take i ls) ++ chosen rank (get_or ls i d ∷ [])
chosen-more rank ls i d inside =
    ap (chosen rank) (take_more ls i d inside)
    ∙ filter-append (λ (l : PastLife). is_chosen rank (spec_of l)) (take i ls) (get_or ls i d ∷ [])

-- the delays of two lists of lives
pub delays_in_all-append : (c : Config) (xs ys : List PastLife)
    → delays_in_all c (xs ++ ys) ≡ delays_in_all c xs ++ delays_in_all c ys
delays_in_all-append c xs ys = flat_map-append (delays_in c) xs ys

-- the least of two lists is that of their least ones
least_more : (n : ℕ) (a b : Option ℕ) → Some (option_map_or (λ m. min n m) (both_least a b) n)
    ≡ both_least (Some (option_map_or (λ m. min n m) a n)) b
least_more n None None = refl
least_more n None (Some y) = refl
least_more n (Some x) None = refl
least_more n (Some x) (Some y) = let same : min n (min x y) ≡ min (min n x) y = omega arith in ap Some same

-- the least of two lists is the least of the least of each
pub least_of-append : (xs ys : List ℕ) → least_of (xs ++ ys) ≡ both_least (least_of xs) (least_of ys)
least_of-append [] ys = refl
least_of-append (n ∷ xs) ys =
    ap (λ o. Some (option_map_or (λ m. min n m) o n)) (least_of-append xs ys) ∙ least_more n (least_of xs) (least_of ys)

-- and so the greatest
greatest_more : (n : ℕ) (a b : Option ℕ) → Some (option_map_or (λ m. max n m) (both_greatest a b) n)
    ≡ both_greatest (Some (option_map_or (λ m. max n m) a n)) b
greatest_more n None None = refl
greatest_more n None (Some y) = refl
greatest_more n (Some x) None = refl
greatest_more n (Some x) (Some y) = let same : max n (max x y) ≡ max (max n x) y = omega arith in ap Some same

-- the greatest of two lists is the greatest of the greatest of each
pub greatest_of-append : (xs ys : List ℕ) → greatest_of (xs ++ ys) ≡ both_greatest (greatest_of xs) (greatest_of ys)
greatest_of-append [] ys = refl
greatest_of-append (n ∷ xs) ys =
    ap (λ o. Some (option_map_or (λ m. max n m) o n)) (greatest_of-append xs ys)
    ∙ greatest_more n (greatest_of xs) (greatest_of ys)

-- a flow that asks is granted the bytes of its data grants
pub granted_under-asking : (spec : FlowSpec) (unsolicited bytes : ℕ) → takes_requests spec ≡ true
    → granted_under spec unsolicited bytes ≡ bytes
granted_under-asking (Unsolicited size interval jitter grants) unsolicited bytes asks = absurd (cc)
granted_under-asking (Polled interval jitter rate burst peak) unsolicited bytes asks = refl
granted_under-asking (BestEffort priority rate burst peak reserved reserved-burst) unsolicited bytes asks = refl

-- the sums over some lives and one more
pub AreRankSums-push : (c : Config) (s new : RankSums) (ls : List PastLife) (l : PastLife) → AreRankSums c s ls
    → new.asks ≡ s.asks + length (claims_of c l) → new.granted ≡ s.granted + granted_in c l
    → new.waiting ≡ s.waiting + waiting_in c l → new.dropped ≡ s.dropped + dropped_in c l
    → new.replaced ≡ s.replaced + replaced_in c l
    → new.served ≡ s.served + length (delays_in c l) → new.least ≡ both_least s.least (least_of (delays_in c l))
    → new.greatest ≡ both_greatest s.greatest (greatest_of (delays_in c l)) → AreRankSums c new (ls ++ l ∷ [])
AreRankSums-push c s new ls l are asks granted waiting dropped replaced served least greatest =
    let all : delays_in_all c (ls ++ l ∷ []) ≡ delays_in_all c ls ++ delays_in c l =
    delays_in_all-append c ls (l ∷ [])
    ∙ ap (λ (ds : List ℕ). delays_in_all c ls ++ ds) (append-nil (delays_in c l)) in
    record {
      asks = omega (arith, asks, are.asks, sum_by_push (λ (l : PastLife). length (claims_of c l)) ls l);
      granted = omega (arith, granted, are.granted, sum_by_push (granted_in c) ls l);
      waiting = omega (arith, waiting, are.waiting, sum_by_push (waiting_in c) ls l);
      dropped = omega (arith, dropped, are.dropped, sum_by_push (dropped_in c) ls l);
      replaced = omega (arith, replaced, are.replaced, sum_by_push (replaced_in c) ls l);
      served = omega (
        arith,
        served,
        are.served,
        ap length all,
        length-append (delays_in_all c ls) (delays_in c l),
      );
      least = least ∙ ap (λ o. both_least o (least_of (delays_in c l))) are.least
          ∙ sym (least_of-append (delays_in_all c ls) (delays_in c l)) ∙ ap least_of (sym all);
      greatest = greatest ∙ ap (λ o. both_greatest o (greatest_of (delays_in c l))) are.greatest
          ∙ sym (greatest_of-append (delays_in_all c ls) (delays_in c l)) ∙ ap greatest_of (sym all);
    }

-- what is told of a life that is read in a loop
pub life_at : (c : Config) (ts : List LifeTally) (ls : List PastLife) → AreLives c ts ls → (i : ℕ) (t : LifeTally)
    (d : PastLife) → i < length ts → t ≡ get_or ts i t → IsLifeOf c t (get_or ls i d)
life_at c ts ls are i t d inside is =
    subst (λ (t : LifeTally). IsLifeOf c t (get_or ls i d)) (sym is) (are.each i t d inside)
