-- The numbers of the lives that are told of.
use Rattle.std.specs.Prelude.{◌<◌, List, [], ◌∷◌, ◌^◌, filter}
use Rattle.std.specs.List.{All}
use Rattle.minislots.specs.declared.config.Config.{Config}
use Rattle.sched_report.specs.declared.life.LifeNumbers.{LifeNumbers}
use Rattle.sched_report.specs.Lives.{PastLife, is_told}
use Rattle.sched_report.specs.ToldLives.{AreLifeNumbers}
use Rattle.sched_report.specs.Window.{Window, lives_told}

-- the numbers are those of these lives, one after the other
abbrev pub AreNumbersOf : Config → List LifeNumbers → List PastLife → Type 0
AreNumbersOf c [] [] = Unit {0}
AreNumbersOf c [] (life ∷ lives) = ⊥
AreNumbersOf c (n ∷ numbers) [] = ⊥
AreNumbersOf c (n ∷ numbers) (life ∷ lives) = AreLifeNumbers c n life × AreNumbersOf c numbers lives

-- they are those of the lives of a history that did not end before what is told, in the order of the admissions
abbrev pub AreLivesTold : Window → List LifeNumbers → Type 0
AreLivesTold w numbers = AreNumbersOf w.config numbers (filter is_told (lives_told w))

-- no life was granted more bytes than that
abbrev pub AreFew : List LifeNumbers → Type 0
AreFew numbers = All (λ n. n.granted < 2 ^ 90) numbers
