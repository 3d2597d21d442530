-- The first starts fit one behind the other within the jitter, or they say up to which offset none do.
use Rattle.std.proofs.Common.{◌≡◌, ◌∙◌, sym, subst, ◌+◌, ◌<◌, ◌≤◌, [], ◌∷◌, length, take, arith}
use Rattle.std.proofs.lemmas.List.{take_more_set, length-set, length-take-le}
use Rattle.periodic.specs.Search.{IsNextStart, AreFirstIn}
use Rattle.periodic.proofs.Greedy.{end-push, next-push, first-in, no-more, too-late}
use Rattle.periodic.proofs.Joined.{all-append}
use Rattle.periodic.proofs.search.starts_in.Goals as goal

pub loop-index-preserved : goal.loop-index-preserved
loop-index-preserved c =
    let w = c.args.wanted in
    let config = c.args.config.now in
    let words = c.args.bits.now.words in
    let starts = c.loop-index.starts in
    let index = c.loop-index.index in
    let start = c.in-Some.start in
    let inv = c.loop-index.invariant in
    let front = take index starts in
    let frame : c.from-frame.result ≡ config.frame = c.from-frame.ensures ∙ c.frame.ensures.value in
    let found = subst (λ n. IsNextStart words n w.slots c.loop-index.from start) frame c.in-Some.ensures.found in
    let here = subst (λ n. IsNextStart words config.frame w.slots n start) inv.from_is found in
    let few : index < length starts = omega (arith, inv.long, c.requires.sought.grants_most) in
    rw (take_more_set starts index start few) (record {
      long = length-set starts index start ∙ inv.long;
      next = next-push words config.frame w.slots c.args.offset front start inv.next here;
      within = all-append (λ s. s ≤ c.args.offset + w.jitter) front (start ∷ []) inv.within
          (omega (arith, c.if-start-offset.false), tt);
      from_is = sym (end-push w.slots c.args.offset front start);
      later = omega (arith, inv.later, found.free.after);
      most = omega (arith, found.free.within, c.frame.ensures.most);
    })

pub overflow_sub-start : goal.overflow_sub-start
overflow_sub-start c = omega (arith, c.loop-index.invariant.later, c.in-Some.ensures.found.free.after)

pub returns-in_default-clause-blocked : goal.returns-in_default-clause-blocked
returns-in_default-clause-blocked c =
    let w = c.args.wanted in
    let config = c.args.config.now in
    let inv = c.loop-index.invariant in
    let starts = c.loop-index.starts in
    let index = c.loop-index.index in
    let frame : c.from-frame.result ≡ config.frame = c.from-frame.ensures ∙ c.frame.ensures.value in
    let long = length-take-le index starts (omega (arith, inv.long, c.requires.sought.grants_most)) in
    record {
      later = omega (arith, c.requires.within, frame);
      most = omega (arith, frame);
      none = λ between from to found.
          no-more config w c.args.offset c.args.bits.now.words (take index starts) inv.next between found.0 from
          (omega (arith, long)) (λ start is. c.in_default.ensures.absent start (record {
            after = omega (arith, is.after, inv.from_is);
            within = omega (arith, is.within, frame);
            clear = is.clear;
          }))
          found.1;
    }

pub returns-then-start-offset-clause-blocked : goal.returns-then-start-offset-clause-blocked
returns-then-start-offset-clause-blocked c =
    let w = c.args.wanted in
    let config = c.args.config.now in
    let words = c.args.bits.now.words in
    let inv = c.loop-index.invariant in
    let starts = c.loop-index.starts in
    let index = c.loop-index.index in
    let start = c.in-Some.start in
    let frame : c.from-frame.result ≡ config.frame = c.from-frame.ensures ∙ c.frame.ensures.value in
    let long = length-take-le index starts (omega (arith, inv.long, c.requires.sought.grants_most)) in
    let found = subst (λ n. IsNextStart words n w.slots c.loop-index.from start) frame c.in-Some.ensures.found in
    let here = subst (λ n. IsNextStart words config.frame w.slots n start) inv.from_is found in
    record {
      later = omega (arith, c.if-start-offset.true);
      most = omega (arith, found.free.within);
      none = λ between from to others.
          let last = too-late config w c.args.offset words (take index starts) inv.next between start others.0 from
          (omega (arith, long)) here others.1 in
          omega (arith, last, to);
    }

pub returns-clause-found : goal.returns-clause-found
returns-clause-found c =
    let w = c.args.wanted in
    let inv = c.loop-index.invariant in
    let starts = c.loop-index.starts in
    let index = c.loop-index.index in
    let all : index ≡ w.grants = omega arith in
    let long = length-take-le index starts (omega (arith, inv.long, c.requires.sought.grants_most)) in
    subst (λ n. AreFirstIn c.args.config.now w c.args.offset c.args.bits.now.words (take n starts)) all
    (first-in c.args.config.now w c.args.offset c.args.bits.now.words (take index starts) inv.next (long ∙ all)
    inv.within)
