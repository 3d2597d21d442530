-- Nothing was asked or granted since.
use Rattle.std.proofs.Common.{◌≡◌, ◌-◌, ◌≤◌, List, [], ◌++◌, Bool, true, false, not, length, take, drop, take_all}
use Rattle.std.proofs.Common.{None, Some, sym, ap, ◌∙◌, subst, inl, inr, if◌then◌else◌, arith}
use Rattle.std.specs.Prelude.{is_some}
use Rattle.std.proofs.lemmas.Bool.{cases_Bool, lt-ltb, le-ltb}
use Rattle.std.proofs.lemmas.List.{drop_all}
use Rattle.flow_book.specs.Flows.{bytes_of}
use Rattle.sched_calls.specs.declared.reply.Entry.{Entry}
use Rattle.sched_history.specs.Life.{asked_in, grants_since}
use Rattle.sched_history.specs.Time.{next_after}
use Rattle.sched_report.specs.Delays.{Claim}
use Rattle.sched_report.specs.Requests.{claims_after, claims_in}
use Rattle.sched_report.specs.Said.{unsolicited_after}
use Rattle.sched_report.specs.Served.{IsServiceOf}
use Rattle.sched_report.proofs.LifeTold.{end_told}
use Rattle.sched_report.proofs.life.LifeTally.renew.Goals as goal

-- the one is true where the other is not
flip : (b r : Bool) → b ≡ not r → r ≡ not b
flip b true is = sym (ap not is)
flip b false is = sym (ap not is)

pub returns-clause-life : goal.returns-clause-life
returns-clause-life c = λ k life passed is now going gone.
    let t = c.args.self.now in
    let sid = life.sid in
    let since = life.since in
    let end = next_after k (life.upto ++ since) in
    let within : length since ≤ passed =
    elim (cases_Bool life.ended) [
      | inl ended ↦ omega (arith, gone ended)
      | inr alive ↦ omega (arith, going alive)
    ] in
    let all : take passed since ≡ since = take_all passed since within in
    let none : drop passed since ≡ [] = drop_all passed since within in
    let bytes = c.renew-asked.ensures.bytes k (claims_in k sid life.passed since) (asked_in k sid since)
    (grants_since sid since) is.service in
    record {
      sid = is.sid;
      spec = is.spec;
      from = c.unwrap_or.ensures ∙ end_told life.ended end c.args.next t.to is.to now
          ∙ ap (λ (es : List Entry). next_after k (life.upto ++ es)) (sym all);
      to = is.to;
      service = subst (λ (ms : List Claim). IsServiceOf k c.renew-asked.new.self ms (asked_in k sid since)
          (grants_since sid since)) (sym (ap (claims_after k sid (take passed since)) none))
          (c.renew-asked.ensures.none k (claims_in k sid life.passed since) (asked_in k sid since)
          (grants_since sid since) is.service);
      before = bytes.1 ∙ ap (λ (es : List Entry). bytes_of (grants_since sid es)) (sym all);
      carried = ap (λ n. n - c.renew-asked.result.1) bytes.0 ∙ ap (λ n. asked_in k sid since - n) bytes.1
          ∙ ap (λ (es : List Entry). asked_in k sid es - bytes_of (grants_since sid es)) (sym all);
      told = elim (cases_Bool life.ended) [
        | inl ended ↦
            flip _ _ c.is_none.ensures
            ∙ ap (λ o. not (is_some o)) (is.to ∙ ap (λ b. if b then Some end else None) ended)
            ∙ sym (ap not (lt-ltb (length since) passed (gone ended)))
        | inr alive ↦
            flip _ _ c.is_none.ensures
            ∙ ap (λ o. not (is_some o)) (is.to ∙ ap (λ b. if b then Some end else None) alive)
            ∙ sym (ap not (le-ltb (length since) passed (omega (arith, going alive))))
      ];
      few = is.few;
      unsolicited = sym (ap (unsolicited_after k sid life.first life.upto (take passed since)) none);
      bounded = omega arith;
    }
