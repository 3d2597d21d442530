-- What is told of a life alone.
use Rattle.std.proofs.Common.{◌++◌, ◌∷◌, [], ℕ, List, None, length, sym, ap, ◌∙◌, subst, arith}
use Rattle.std.proofs.lemmas.List.{append-nil}
use Rattle.sched_history.specs.Time.{next_after}
use Rattle.sched_report.specs.declared.life.LifeTally.{LifeTally}
use Rattle.sched_report.specs.Delays.{greatest_of}
use Rattle.sched_report.specs.Lives.{PastLife}
use Rattle.sched_report.specs.Ranks.{chosen, delays_in_all}
use Rattle.sched_report.specs.Said.{delays_in, priority_of}
use Rattle.sched_report.specs.Spread.{TellsPercentile}
use Rattle.sched_report.specs.ToldLives.{AreLives}
use Rattle.sched_report.proofs.LifeTold.{some_end, end_told, granted-split, AreLives-one, one_of}
use Rattle.sched_report.proofs.life.LifeTally.numbers.Goals as goal

pub percentile-requires-clause-lives : goal.percentile-requires-clause-lives
percentile-requires-clause-lives c =
    let k = c.requires.0 in
    let l = c.requires.1 in (
      k,
      l ∷ [],
      subst (λ (ts : List LifeTally). AreLives k ts (l ∷ [])) (sym c.from_ref-one.ensures.value)
          (AreLives-one k c.args.self.now l c.requires.2),
      omega (arith, c.from-served.ensures, c.sums-sums.ensures.few),
    )

pub percentile-requires-2-clause-lives : goal.percentile-requires-2-clause-lives
percentile-requires-2-clause-lives c =
    let k = c.requires.0 in
    let l = c.requires.1 in (
      k,
      l ∷ [],
      subst (λ (ts : List LifeTally). AreLives k ts (l ∷ [])) (sym c.from_ref-one.ensures.value)
          (AreLives-one k c.args.self.now l c.requires.2),
      omega (arith, c.from-served.ensures, c.sums-sums.ensures.few),
    )

pub percentile-requires-clause-served : goal.percentile-requires-clause-served
percentile-requires-clause-served c = λ k ls are.
    let one = one_of k c.args.self.now ls
    (subst (λ (ts : List LifeTally). AreLives k ts ls) c.from_ref-one.ensures.value are) in
    c.from-served.ensures ∙ (c.sums-sums.ensures.sums k one.0 one.2).delays.served
    ∙ ap length (sym (append-nil (delays_in k one.0)))
    ∙ ap (λ (some : List PastLife). length (delays_in_all k (chosen None some))) (sym one.1)

pub percentile-requires-2-clause-served : goal.percentile-requires-2-clause-served
percentile-requires-2-clause-served c = λ k ls are.
    let one = one_of k c.args.self.now ls
    (subst (λ (ts : List LifeTally). AreLives k ts ls) c.from_ref-one.ensures.value are) in
    c.from-served.ensures ∙ (c.sums-sums.ensures.sums k one.0 one.2).delays.served
    ∙ ap length (sym (append-nil (delays_in k one.0)))
    ∙ ap (λ (some : List PastLife). length (delays_in_all k (chosen None some))) (sym one.1)

pub percentile-requires-clause-greatest : goal.percentile-requires-clause-greatest
percentile-requires-clause-greatest c = λ k ls are.
    let one = one_of k c.args.self.now ls
    (subst (λ (ts : List LifeTally). AreLives k ts ls) c.from_ref-one.ensures.value are) in
    (c.sums-sums.ensures.sums k one.0 one.2).delays.greatest
    ∙ ap greatest_of (sym (append-nil (delays_in k one.0)))
    ∙ ap (λ (some : List PastLife). greatest_of (delays_in_all k (chosen None some))) (sym one.1)

pub percentile-requires-2-clause-greatest : goal.percentile-requires-2-clause-greatest
percentile-requires-2-clause-greatest c = λ k ls are.
    let one = one_of k c.args.self.now ls
    (subst (λ (ts : List LifeTally). AreLives k ts ls) c.from_ref-one.ensures.value are) in
    (c.sums-sums.ensures.sums k one.0 one.2).delays.greatest
    ∙ ap greatest_of (sym (append-nil (delays_in k one.0)))
    ∙ ap (λ (some : List PastLife). greatest_of (delays_in_all k (chosen None some))) (sym one.1)

pub overflow_sub-result : goal.overflow_sub-result
overflow_sub-result c = omega (arith, c.sums-sums.ensures.within)

pub returns-clause-told : goal.returns-clause-told
returns-clause-told c = λ k life is now under held.
    let t = c.args.self.now in
    let sums = c.sums-sums.ensures.sums k life is in
    let alone : AreLives k c.from_ref-one.result.now (life ∷ []) =
    subst (λ (ts : List LifeTally). AreLives k ts (life ∷ [])) (sym c.from_ref-one.ensures.value)
    (AreLives-one k t life is) in
    record {
      sid = is.sid;
      spec = is.spec;
      from = is.from;
      to = c.unwrap_or.ensures
          ∙ end_told life.ended (next_after k (life.upto ++ life.since)) c.args.next t.to is.to now;
      ended = c.is_some.ensures ∙ some_end life.ended (next_after k (life.upto ++ life.since)) t.to is.to;
      priority = c.priority_of.ensures ∙ ap priority_of is.spec;
      carried = is.carried;
      sums = sums;
      granted = c.granted.ensures.granted k life is;
      outstanding = omega (
        arith,
        sums.asked,
        sums.granted,
        granted-split life,
        is.service.asked,
        is.service.granted,
        is.service.within,
      );
      waiting = c.waiting.ensures k life is;
      dropped = c.dropped.ensures k life is;
      oldest = c.oldest.ensures k life is now;
      middle = subst (λ (ds : List ℕ). TellsPercentile 50 ds c.percentile.result) (append-nil (delays_in k life))
          (c.percentile.ensures k (life ∷ []) alone);
      p99 = subst (λ (ds : List ℕ). TellsPercentile 99 ds c.percentile-2.result) (append-nil (delays_in k life))
          (c.percentile-2.ensures k (life ∷ []) alone);
      under = under;
      held = held;
    }
