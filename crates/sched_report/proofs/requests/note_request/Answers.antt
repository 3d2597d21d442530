-- The request is counted behind those before, which it supersedes or not.
use Rattle.std.proofs.Common.{◌≡◌, ℕ, true, false, List, map, None, Some, sym, ◌∙◌, subst, arith}
use Rattle.minislots.specs.declared.config.Config.{Config}
use Rattle.sched_calls.specs.declared.reply.Entry.{Entry}
use Rattle.sched_history.specs.Life.{asked_in, grants_since}
use Rattle.sched_report.specs.declared.service.Service.{Service}
use Rattle.sched_report.specs.Requests.{supersedes, claims_in}
use Rattle.sched_report.specs.Served.{as_superseded, IsServiceOf, IsServiceAfter, MayAsk}
use Rattle.sched_report.proofs.Claims.{asked_before, claims_before, after-noted, with-none, few_claims, may_ask}
use Rattle.sched_report.proofs.Claims.{IsServiceBefore}
use Rattle.sched_report.proofs.LifeNotes.{none_of, ungranted}
use Rattle.sched_report.proofs.requests.note_request.Goals as goal
use Rattle.sched_report.proofs.requests.note_request.Goals.{then-supersedes, else-supersedes}

-- where the requests before are superseded
before-true : (c : Config) (sid p : ℕ) (es : List Entry) (e : Entry) (s new : Service) (is : supersedes sid e ≡ true)
    → IsServiceAfter c s sid p es
    → IsServiceOf c new (map as_superseded (claims_in c sid p es)) s.granted (grants_since sid es)
    → IsServiceBefore c sid p es e new true is
before-true c sid p es e s new is old service =
    subst (λ n. IsServiceOf c new (map as_superseded (claims_in c sid p es)) n (grants_since sid es)) old.granted service

pub supersede-requires : goal.supersede-requires
supersede-requires c =
    let k = c.args.config.now in
    let p = c.requires.may.0 in
    let before = c.requires.may.1 in (
      k,
      claims_in k c.args.sid p before,
      asked_in k c.args.sid before,
      grants_since c.args.sid before,
      c.requires.may.2,
      omega (arith, few_claims k c.args.sid p before, c.requires.may.4.few),
    )

pub ask-requires-clause-may : goal.ask-requires-clause-may
ask-requires-clause-may c =
    let k = c.args.config.now in
    let sid = c.args.sid in
    let e = c.args.entry.now in
    let p = c.requires.may.0 in
    let es = c.requires.may.1 in
    let old = c.requires.may.2 in
    let asks = sym c.request_of.ensures ∙ c.in-Some.is in
    elim c.if-supersedes.branch [
      | then-supersedes w ↦
          let is : supersedes sid e ≡ true = sym c.supersedes.ensures ∙ w.if-supersedes.true in
          let service = before-true k sid p es e c.args.service.now w.supersede.new.self is old
          (w.supersede.ensures.superseded k (claims_in k sid p es) (asked_in k sid es) (grants_since sid es) old) in (
            k,
            subst (λ (s : Service). MayAsk k s c.in-Some.request) (sym w.service-is)
                (may_ask k sid p es e w.supersede.new.self true is service c.requires.may.4 c.in-Some.request asks),
          )
      | else-supersedes w ↦
          let is : supersedes sid e ≡ false = sym c.supersedes.ensures ∙ w.if-supersedes.false in (
            k,
            subst (λ (s : Service). MayAsk k s c.in-Some.request) (sym w.service-is)
                (may_ask k sid p es e c.args.service.now false is old c.requires.may.4 c.in-Some.request asks),
          )
    ]

pub returns-in-Some : goal.returns-in-Some
returns-in-Some c = λ p es old within.
    let k = c.args.config.now in
    let sid = c.args.sid in
    let e = c.args.entry.now in
    let r = c.in-Some.request in
    let asks = sym c.request_of.ensures ∙ c.in-Some.is in
    let none = ungranted sid e.reply c.requires.unbuilt in
    let claims = claims_in k sid p es in
    let grants = grants_since sid es in
    elim c.if-supersedes.branch [
      | then-supersedes w ↦
          let is : supersedes sid e ≡ true = sym c.supersedes.ensures ∙ w.if-supersedes.true in
          let service = before-true k sid p es e c.args.service.now w.supersede.new.self is old
          (w.supersede.ensures.superseded k claims (asked_in k sid es) grants old) in
          after-noted k sid p es e within none c.ask.new.self true (Some r) is asks
          (c.ask.ensures k (claims_before true claims) (asked_before k sid true es) grants
          (subst (λ (s : Service). IsServiceOf k s (claims_before true claims) (asked_before k sid true es) grants)
          (sym w.service-is) service))
      | else-supersedes w ↦
          let is : supersedes sid e ≡ false = sym c.supersedes.ensures ∙ w.if-supersedes.false in
          after-noted k sid p es e within none c.ask.new.self false (Some r) is asks
          (c.ask.ensures k claims (asked_in k sid es) grants
          (subst (λ (s : Service). IsServiceOf k s claims (asked_in k sid es) grants) (sym w.service-is) old))
    ]

pub returns-in_default : goal.returns-in_default
returns-in_default c = λ p es old within.
    let k = c.args.config.now in
    let sid = c.args.sid in
    let e = c.args.entry.now in
    let silent = sym c.request_of.ensures ∙ none_of _ c.in_default.not-Some in
    let none = ungranted sid e.reply c.requires.unbuilt in
    let claims = claims_in k sid p es in
    let grants = grants_since sid es in
    elim c.if-supersedes.branch [
      | then-supersedes w ↦
          let is : supersedes sid e ≡ true = sym c.supersedes.ensures ∙ w.if-supersedes.true in
          let service = before-true k sid p es e c.args.service.now w.supersede.new.self is old
          (w.supersede.ensures.superseded k claims (asked_in k sid es) grants old) in
          after-noted k sid p es e within none c.if-supersedes.service true None is silent
          (with-none k c.if-supersedes.service (claims_before true claims) (asked_before k sid true es) grants
          (subst (λ (s : Service). IsServiceOf k s (claims_before true claims) (asked_before k sid true es) grants)
          (sym w.service-is) service))
      | else-supersedes w ↦
          let is : supersedes sid e ≡ false = sym c.supersedes.ensures ∙ w.if-supersedes.false in
          after-noted k sid p es e within none c.if-supersedes.service false None is silent
          (with-none k c.if-supersedes.service claims (asked_in k sid es) grants
          (subst (λ (s : Service). IsServiceOf k s claims (asked_in k sid es) grants) (sym w.service-is) old))
    ]
