-- The numbers of the ranks so far.
use Rattle.std.proofs.Common.{◌≡◌, ℕ, ◌+◌, ◌<◌, ◌≤◌, true, false, Bool, cond, List, [], ◌∷◌, ◌++◌, get_or, take, map}
use Rattle.std.proofs.Common.{sym, ap, ◌∙◌, arith}
use Rattle.std.specs.Prelude.{filter}
use Rattle.std.specs.List.{AllByRecursion}
use Rattle.std.proofs.lemmas.Bool.{lt-ltb, le-ltb}
use Rattle.std.proofs.lemmas.List.{take_more, take_all, map_push, append-nil}
use Rattle.std.proofs.lemmas.List.Elements.{filter-append}
use Rattle.flow_book.proofs.Order.{all-push}
use Rattle.sched_report.specs.declared.ranks.RankNumbers.{RankNumbers}
use Rattle.sched_report.specs.declared.ranks_told.RankTold.{RankTold}
use Rattle.sched_report.specs.Window.{Window, lives_told}
use Rattle.sched_report.specs.Ranks.{lives_of_rank, asks_among, AreRankNumbers}
use Rattle.sched_report.specs.RanksTold.{AreRanksTold, IsRankTold, ranks_served, has_asked}

-- The ranks are those of the first ones that asked, each with its numbers
pub record AreFirstRanks (w : Window) (told : List RankTold) (n : ℕ) : Type 0 where
  pub those : map (λ t. t.rank) told ≡ filter (has_asked w) (take n ranks_served)
  pub each : AllByRecursion (IsRankTold w) told

-- whether a rank asked, by the number of its requests
asked-some : (w : Window) (rank : ℕ) (numbers : RankNumbers)
    → AreRankNumbers w.config numbers (lives_of_rank rank (lives_told w)) → 0 < numbers.sums.asks → has_asked w rank ≡ true
asked-some w rank numbers are some =
    lt-ltb 0 (asks_among w.config (lives_of_rank rank (lives_told w))) (omega (arith, some, are.sums.asks))

asked-none : (w : Window) (rank : ℕ) (numbers : RankNumbers)
    → AreRankNumbers w.config numbers (lives_of_rank rank (lives_told w)) → numbers.sums.asks ≤ 0 → has_asked w rank ≡ false
asked-none w rank numbers are none =
    le-ltb 0 (asks_among w.config (lives_of_rank rank (lives_told w))) (omega (arith, none, are.sums.asks))

-- the ranks that asked among the first, and the next one
ranks-more : (w : Window) (n d : ℕ) → n < 9
    → filter (has_asked w) (take (n + 1) ranks_served)
    ≡ filter (has_asked w) (take n ranks_served) ++ filter (has_asked w) (get_or ranks_served n d ∷ [])
ranks-more w n d below =
    ap (filter (has_asked w)) (take_more ranks_served n d below)
    ∙ filter-append (has_asked w) (take n ranks_served) (get_or ranks_served n d ∷ [])

-- one more that asked
pub first-ranks-more : (w : Window) (told : List RankTold) (n d : ℕ) (new : RankTold)
    → AreFirstRanks w told n → n < 9 → new.rank ≡ get_or ranks_served n d → IsRankTold w new
    → 0 < new.numbers.sums.asks → AreFirstRanks w (told ++ new ∷ []) (n + 1)
first-ranks-more w told n d new first below is numbers some =
    let asked = asked-some w new.rank new.numbers numbers some in
    let one : filter (has_asked w) (get_or ranks_served n d ∷ []) ≡ new.rank ∷ [] =
    ap (λ (r : ℕ). filter (has_asked w) (r ∷ [])) (sym is)
    ∙ ap (λ (b : Bool). cond b (new.rank ∷ []) []) asked in
    record {
      those = map_push (λ (t : RankTold). t.rank) told new ∙ ap (λ (rs : List ℕ). rs ++ new.rank ∷ []) first.those
          ∙ ap (λ (rs : List ℕ). filter (has_asked w) (take n ranks_served) ++ rs) (sym one)
          ∙ sym (ranks-more w n d below);
      each = all-push (IsRankTold w) told new first.each numbers;
    }

-- and one that did not
pub first-ranks-same : (w : Window) (told : List RankTold) (n d : ℕ) (numbers : RankNumbers)
    → AreFirstRanks w told n → n < 9 → AreRankNumbers w.config numbers (lives_of_rank (get_or ranks_served n d) (lives_told w))
    → numbers.sums.asks ≤ 0 → AreFirstRanks w told (n + 1)
first-ranks-same w told n d numbers first below are none =
    let rank = get_or ranks_served n d in
    let no : filter (has_asked w) (rank ∷ []) ≡ [] =
    ap (λ (b : Bool). cond b (rank ∷ []) []) (asked-none w rank numbers are none) in
    record {
      those = first.those ∙ sym (append-nil (filter (has_asked w) (take n ranks_served)))
          ∙ ap (λ (rs : List ℕ). filter (has_asked w) (take n ranks_served) ++ rs) (sym no)
          ∙ sym (ranks-more w n d below);
      each = first.each;
    }

-- all of them
pub first-ranks-all : (w : Window) (told : List RankTold) (n : ℕ)
    → AreFirstRanks w told n → 9 ≤ n → AreRanksTold w told
first-ranks-all w told n first past = record {
  those = first.those ∙ ap (filter (has_asked w)) (take_all n ranks_served past);
  each = first.each;
}
