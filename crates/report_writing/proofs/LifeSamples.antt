-- The samples of lives, life by life.
use Rattle.std.proofs.Common.{◌≡◌, ℕ, suc, ◌+◌, ◌<◌, ◌++◌, List, length, get_or, drop, ap, ◌∙◌, arith}
use Rattle.std.proofs.Math.Seq.{drop-cons}
use Rattle.sched_report.specs.declared.life.LifeNumbers.{LifeNumbers}
use Rattle.report_writing.specs.declared.metrics.life.LifeMetric.{LifeMetric}
use Rattle.report_writing.specs.LifeMetrics.{life_samples, samples_from}

-- those of the first of the lives that are left, and those of the lives behind it
pub samples_from-drop : (ticks : ℕ) (metric : LifeMetric) (lives : List LifeNumbers) (i : ℕ) (d : LifeNumbers)
    → i < length lives
    → samples_from ticks metric i (drop i lives)
    ≡ life_samples ticks metric i (get_or lives i d) ++ samples_from ticks metric (i + 1) (drop (i + 1) lives)
samples_from-drop ticks metric lives i d below =
    let next : suc i ≡ i + 1 = omega arith in
    ap (λ (left : List LifeNumbers). samples_from ticks metric i left) (drop-cons lives i d below)
    ∙ ap (λ n. life_samples ticks metric i (get_or lives i d) ++ samples_from ticks metric (i + 1) (drop n lives)) next
