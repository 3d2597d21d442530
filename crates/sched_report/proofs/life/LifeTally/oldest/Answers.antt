-- By whether it ended, and whether a request waits.
use Rattle.std.proofs.Common.{◌≡◌, ◌-◌, ◌++◌, ℕ, None, Some, false, sym, ap, ◌∙◌, if◌then◌else◌}
use Rattle.std.specs.Prelude.{is_some, option_map}
use Rattle.sched_history.specs.Life.{asked_in, grants_since}
use Rattle.sched_history.specs.Time.{next_after}
use Rattle.sched_report.specs.Oldest.{first_heard}
use Rattle.sched_report.specs.Said.{claims_of}
use Rattle.sched_report.proofs.LifeTold.{some_end}
use Rattle.sched_report.proofs.life.LifeTally.oldest.Goals as goal

pub returns-in-Some-first_heard : goal.returns-in-Some-first_heard
returns-in-Some-first_heard c = λ k life is now.
    let n = next_after k (life.upto ++ life.since) in
    let heard = c.in-Some-first_heard.heard in
    let alive : life.ended ≡ false =
    sym (some_end life.ended n c.args.self.now.to is.to) ∙ ap is_some c.in-None.is in
    let first : Some heard ≡ first_heard k (claims_of k life) =
    sym c.in-Some-first_heard.is ∙ c.first_heard.ensures k (claims_of k life) (asked_in k life.sid life.since)
    (grants_since life.sid life.since) is.service in
    ap Some (c.saturating_sub.ensures ∙ ap (λ (m : ℕ). m - heard) (now alive))
    ∙ ap (option_map (λ first. n - first)) first
    ∙ sym (ap (λ b. if b then None else option_map (λ first. n - first) (first_heard k (claims_of k life))) alive)

pub returns-in-None-first_heard : goal.returns-in-None-first_heard
returns-in-None-first_heard c = λ k life is now.
    let n = next_after k (life.upto ++ life.since) in
    let alive : life.ended ≡ false =
    sym (some_end life.ended n c.args.self.now.to is.to) ∙ ap is_some c.in-None.is in
    let none : None ≡ first_heard k (claims_of k life) =
    sym c.in-None-first_heard.is ∙ c.first_heard.ensures k (claims_of k life) (asked_in k life.sid life.since)
    (grants_since life.sid life.since) is.service in
    ap (option_map (λ first. n - first)) none
    ∙ sym (ap (λ b. if b then None else option_map (λ first. n - first) (first_heard k (claims_of k life))) alive)
