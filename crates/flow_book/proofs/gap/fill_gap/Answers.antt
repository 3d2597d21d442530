-- One more of them stands in its turn, and the gap has one place less.
use Rattle.std.proofs.Common.{◌≡◌, ◌<◌, ◌≤◌, ◌+◌, ◌-◌, ◌∙◌, ◌∷◌, sym, ap, subst, take, drop, get_or, length, arith}
use Rattle.std.specs.List.{AllByRecursion}
use Rattle.std.proofs.lemmas.List.{drop_more, get_or_default}
use Rattle.flow_book.specs.declared.waiting.Waiting.{Waiting}
use Rattle.flow_book.specs.Gap.{around, all_put_in}
use Rattle.flow_book.proofs.Gaps.{ascends-take, take-same}
use Rattle.flow_book.proofs.Order.{all-implied}
use Rattle.flow_book.proofs.Queues.{with-one}
use Rattle.flow_book.proofs.Searches.{rises}
use Rattle.sched_calls.specs.Sids.{AscendBy}
use Rattle.flow_book.proofs.gap.fill_gap.Goals as goal

pub put_behind-first-requires-clause-ascending : goal.put_behind-first-requires-clause-ascending
put_behind-first-requires-clause-ascending c =
    let is = c.loop-index.invariant in
    subst (AscendBy (λ (w : Waiting). w.turn)) (sym is.front)
    (ascends-take c.args.queue.now c.loop-index.first c.args.first is.within c.requires.ascending)

pub put_behind-first-requires-clause-earlier : goal.put_behind-first-requires-clause-earlier
put_behind-first-requires-clause-earlier c =
    let is = c.loop-index.invariant in
    let one = c.index-ones-index.result in
    let i = c.loop-index.index in
    let same : i - 1 + 1 ≡ i = omega (arith, c.loop-index-test.true) in
    let turn : (get_or c.args.ones.now (i - 1) one).turn ≡ one.turn =
    ap (λ (w : Waiting). w.turn) (sym c.index-ones-index.is) in
    subst (λ n. AllByRecursion (λ (w : Waiting). one.turn < w.turn) (drop (c.loop-index.first + n) c.loop-index.queue))
    (sym same)
    (all-implied (λ w. (get_or c.args.ones.now (i - 1) one).turn < w.turn) (λ w. one.turn < w.turn)
    (drop (c.loop-index.first + i) c.loop-index.queue) (λ w lt. omega (arith, lt, turn))
    (is.behind one (omega (arith, c.loop-index-test.true))))

pub loop-index-preserved : goal.loop-index-preserved
loop-index-preserved c =
    let is = c.loop-index.invariant in
    let ones = c.args.ones.now in
    let one = c.index-ones-index.result in
    let i = c.loop-index.index in
    let first = c.put_behind-first.result in
    let new = c.put_behind-first.new.queue in
    let base = take c.args.first c.args.queue.now in
    let put = c.put_behind-first.ensures in
    let same : i - 1 + 1 ≡ i = omega (arith, c.loop-index-test.true) in
    let less : i - 1 + 1 - 1 ≡ i - 1 = omega arith in
    let lt : i - 1 < length ones = omega (arith, c.loop-index-test.true) in
    let split : drop (i - 1) ones ≡ one ∷ drop i ones =
    drop_more ones (i - 1) one lt ∙ ap (λ w. w ∷ drop (i - 1 + 1) ones) (sym c.index-ones-index.is)
    ∙ ap (λ n. one ∷ drop n ones) same in
    record {
      within = omega (arith, is.within, put.within);
      long = omega (arith, is.long, put.len);
      around = ap (λ n. around first n new) (sym less) ∙ put.put
          ∙ ap (λ n. with-one one (around c.loop-index.first n c.loop-index.queue)) same
          ∙ ap (with-one one) is.around ∙ ap (λ ws. all_put_in ws base) (sym split);
      front = put.front
          ∙ (take-same c.loop-index.queue c.args.queue.now first c.loop-index.first put.within is.front);
      behind = λ d some.
          let early : (get_or ones (i - 1 - 1) d).turn < (get_or ones (i - 1) d).turn =
          rises (λ (w : Waiting). w.turn) ones (i - 1 - 1) (i - 1) d c.requires.ones (omega (arith, some)) lt in
          let here : (get_or ones (i - 1) d).turn ≡ one.turn =
          ap (λ (w : Waiting). w.turn) (get_or_default ones (i - 1) d one lt ∙ sym c.index-ones-index.is) in
          subst (λ n. AllByRecursion (λ (w : Waiting). (get_or ones (i - 1 - 1) d).turn < w.turn) (drop (first + n) new))
          less
          (all-implied (λ w. one.turn ≤ w.turn) (λ w. (get_or ones (i - 1 - 1) d).turn < w.turn)
          (drop (first + (i - 1 + 1 - 1)) new) (λ w le. omega (arith, le, early, here)) put.behind);
    }
