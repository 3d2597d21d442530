-- Each begins anew in its turn.
use Rattle.std.proofs.Common.{ℕ, ◌<◌, length, get_or, set, sym, ap, ◌∙◌, subst, inl, inr, arith}
use Rattle.std.proofs.lemmas.Bool.{cases_eq}
use Rattle.std.proofs.lemmas.List.{length-set, length-map, get_or-set_same, get_or-set_other, get_or_default}
use Rattle.sched_report.specs.declared.life.LifeTally.{LifeTally}
use Rattle.sched_report.specs.Lives.{lives_of, passing, lives_in}
use Rattle.sched_report.specs.Told.{IsLifeOf}
use Rattle.sched_report.proofs.LivesEach.{no_life}
use Rattle.sched_report.proofs.Renewed.{renewed}
use Rattle.sched_report.proofs.lives.renew_each.Goals as goal

pub renew-requires : goal.renew-requires
renew-requires c =
    let k = c.requires.0 in
    let p = c.requires.1 in
    let h = c.requires.2 in
    let are = c.requires.3 in
    let i = c.loop-index.index in
    let t = c.index-lives-index.result in
    let below : i < length c.args.lives.now =
    omega (arith, c.loop-index-test.true, c.loop-index.auto.index-end, c.loop-index.invariant.long) in (
      k,
      get_or (lives_in p h) i no_life,
      subst (λ (u : LifeTally). IsLifeOf k u (get_or (lives_in p h) i no_life))
          (sym (c.loop-index.invariant.rest i t (omega arith))) (are.each i t no_life below),
    )

pub loop-index-preserved : goal.loop-index-preserved
loop-index-preserved c =
    let lives = c.loop-index.lives in
    let old = c.args.lives.now in
    let inv = c.loop-index.invariant in
    let i = c.loop-index.index in
    let d = c.index-lives-index.result in
    let new = c.renew.new.self in
    let in_old : i < length old =
    omega (arith, c.loop-index-test.true, c.loop-index.auto.index-end, inv.long) in
    let inside : i < length lives = omega (arith, in_old, inv.long) in
    record {
      long = length-set lives i new ∙ inv.long;
      done = λ k t below k' p h life legal next are. elim (cases_eq k i) [
        | inl at ↦
            let within : i < length (lives_of h) =
            omega (arith, in_old, are.long, length-map (lives_of h) (passing p)) in
            let is : IsLifeOf k' (get_or lives i d) (get_or (lives_in p h) i life) =
            subst (λ (u : LifeTally). IsLifeOf k' u (get_or (lives_in p h) i life))
            (sym (inv.rest i d (omega arith))) (are.each i d life in_old) in
            let now : IsLifeOf k' new (get_or (lives_in (length h) h) i life) =
            renewed k' h legal i life within p c.args.next (get_or lives i d) new next is c.renew.ensures.life in
            subst (λ (k : ℕ). IsLifeOf k' (get_or (set lives i new) k t) (get_or (lives_in (length h) h) k life)) (sym at)
            (subst (λ (u : LifeTally). IsLifeOf k' u (get_or (lives_in (length h) h) i life))
            (sym (get_or-set_same lives i new t inside)) now)
        | inr apart ↦
            subst (λ (u : LifeTally). IsLifeOf k' u (get_or (lives_in (length h) h) k life))
            (sym (get_or-set_other lives i k new t apart))
            (inv.done k t (omega (arith, below, apart)) k' p h life legal next are)
      ];
      rest = λ k t past.
          get_or-set_other lives i k new t (λ same. omega (arith, past, same)) ∙ inv.rest k t (omega (arith, past));
      sids = λ k t below. elim (cases_eq k i) [
        | inl at ↦
            ap (λ (k : ℕ). (get_or (set lives i new) k t).sid) at
            ∙ ap (λ (u : LifeTally). u.sid) (get_or-set_same lives i new t inside)
            ∙ c.renew.ensures.sid ∙ ap (λ (u : LifeTally). u.sid) (get_or_default lives i d t inside)
            ∙ inv.sids i t in_old ∙ ap (λ (k : ℕ). (get_or old k t).sid) (sym at)
        | inr apart ↦
            ap (λ (u : LifeTally). u.sid) (get_or-set_other lives i k new t apart) ∙ inv.sids k t below
      ];
      ends = λ k t below. elim (cases_eq k i) [
        | inl at ↦
            ap (λ (k : ℕ). (get_or (set lives i new) k t).to) at
            ∙ ap (λ (u : LifeTally). u.to) (get_or-set_same lives i new t inside)
            ∙ c.renew.ensures.to ∙ ap (λ (u : LifeTally). u.to) (get_or_default lives i d t inside)
            ∙ inv.ends i t in_old ∙ ap (λ (k : ℕ). (get_or old k t).to) (sym at)
        | inr apart ↦
            ap (λ (u : LifeTally). u.to) (get_or-set_other lives i k new t apart) ∙ inv.ends k t below
      ];
    }

pub returns-clause-lives : goal.returns-clause-lives
returns-clause-lives c = λ k p h legal next are.
    let inv = c.loop-index.invariant in
    record {
      long = inv.long ∙ are.long ∙ length-map (lives_of h) (passing p) ∙ sym (length-map (lives_of h) (passing (length h)));
      each = λ i t life below.
          inv.done i t (omega (arith, below, c.loop-index-test.false, c.loop-index.auto.index-end, inv.long)) k p h life
          legal next are;
    }
