-- The numbers of the lives so far.
use Rattle.std.proofs.Common.{◌≡◌, ℕ, ◌+◌, ◌<◌, ◌≤◌, Bool, true, false, cond, List, [], ◌∷◌, ◌++◌, length, take, take_all}
use Rattle.std.proofs.Common.{get_or, sym, ap, ◌∙◌, subst, append-nil}
use Rattle.std.specs.Prelude.{filter}
use Rattle.std.proofs.lemmas.List.{take_more}
use Rattle.std.proofs.lemmas.List.Elements.{filter-append}
use Rattle.minislots.specs.declared.config.Config.{Config}
use Rattle.sched_report.specs.declared.life.LifeNumbers.{LifeNumbers}
use Rattle.sched_report.specs.Lives.{PastLife, is_told}
use Rattle.sched_report.specs.ToldLives.{AreLifeNumbers}
use Rattle.sched_report.specs.Window.{Window, lives_told}
use Rattle.report_writing.specs.Gathered.{AreNumbersOf, AreLivesTold}

-- the numbers of one life more
numbers-push : (c : Config) (ns : List LifeNumbers) (ls : List PastLife) (n : LifeNumbers) (l : PastLife)
    → AreNumbersOf c ns ls → AreLifeNumbers c n l → AreNumbersOf c (ns ++ n ∷ []) (ls ++ l ∷ [])
numbers-push c [] [] n l are one = (one, tt)
numbers-push c [] (m ∷ ls) n l are one = absurd are
numbers-push c (m ∷ ns) [] n l are one = absurd are
numbers-push c (m ∷ ns) (k ∷ ls) n l are one = (are.0, numbers-push c ns ls n l are.1 one)

-- the numbers are those of the first lives that are told of
abbrev pub AreFirstLives : Window → List LifeNumbers → ℕ → Type 0
AreFirstLives w numbers n = AreNumbersOf w.config numbers (filter is_told (take n (lives_told w)))

module _ (w : Window) (numbers : List LifeNumbers) (n : ℕ) (d : PastLife) (below : n < length (lives_told w))
    (first : AreFirstLives w numbers n) where
  -- the next life
  abbrev next : PastLife
  next = get_or (lives_told w) n d

  more : (b : Bool) → b ≡ is_told next
      → filter is_told (take (n + 1) (lives_told w)) ≡ filter is_told (take n (lives_told w)) ++ cond b (next ∷ []) []
  more b is =
      ap (filter is_told) (take_more (lives_told w) n d below)
      ∙ filter-append is_told (take n (lives_told w)) (next ∷ [])
      ∙ ap (λ (t : Bool). filter is_told (take n (lives_told w)) ++ cond t (next ∷ []) []) (sym is)

  -- is told of
  pub first-lives-more : (new : LifeNumbers) → true ≡ is_told next → AreLifeNumbers w.config new next
      → AreFirstLives w (numbers ++ new ∷ []) (n + 1)
  first-lives-more new is one =
      subst (AreNumbersOf w.config (numbers ++ new ∷ [])) (sym (more true is))
      (numbers-push w.config numbers (filter is_told (take n (lives_told w))) new next first one)

  -- or is not
  pub first-lives-same : false ≡ is_told next → AreFirstLives w numbers (n + 1)
  first-lives-same is =
      subst (AreNumbersOf w.config numbers)
      (sym (more false is ∙ append-nil (filter is_told (take n (lives_told w))))) first

-- of all lives
pub first-lives-all : (w : Window) (numbers : List LifeNumbers) (n : ℕ) → AreFirstLives w numbers n
    → length (lives_told w) ≤ n → AreLivesTold w numbers
first-lives-all w numbers n first all =
    subst (λ (ls : List PastLife). AreNumbersOf w.config numbers (filter is_told ls)) (take_all n (lives_told w) all) first
