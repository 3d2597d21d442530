-- By the kind of the flow.
use Rattle.std.proofs.Common.{◌≡◌, sym, ap, ◌∙◌, arith}
use Rattle.flow_book.specs.Flows.{bytes_of}
use Rattle.sched_history.specs.Life.{asked_in, grants_since}
use Rattle.sched_report.specs.Lives.{spec_of}
use Rattle.sched_report.specs.Said.{claims_of, grants_in, granted_under, unsolicited_in}
use Rattle.sched_report.proofs.LifeTold.{granted_under-data, granted-split}
use Rattle.sched_report.proofs.life.LifeTally.granted.Goals as goal

pub returns-in-Unsolicited-clause-few : goal.returns-in-Unsolicited-clause-few
returns-in-Unsolicited-clause-few c =
    let is = c.requires.2 in
    omega (arith, is.bounded, is.few)

pub returns-in-Unsolicited-clause-granted : goal.returns-in-Unsolicited-clause-granted
returns-in-Unsolicited-clause-granted c = λ k life is.
    is.unsolicited
    ∙ sym (ap (λ s. granted_under s (unsolicited_in k life) (bytes_of (grants_in life)))
    (sym is.spec ∙ c.in-Unsolicited.is))

pub overflow_sub-granted : goal.overflow_sub-granted
overflow_sub-granted c =
    let k = c.requires.0 in
    let life = c.requires.1 in
    let is = c.requires.2 in
    omega (
      arith,
      c.granted.ensures k (claims_of k life) (asked_in k life.sid life.since) (grants_since life.sid life.since)
          is.service,
      is.before,
      granted-split life,
    )

pub returns-in_default-clause-granted : goal.returns-in_default-clause-granted
returns-in_default-clause-granted c = λ k life is.
    let bytes : c.from.result ≡ bytes_of (grants_in life) =
    omega (
      arith,
      c.from.ensures,
      c.granted.ensures k (claims_of k life) (asked_in k life.sid life.since) (grants_since life.sid life.since)
          is.service,
      is.before,
      granted-split life,
    ) in
    bytes
    ∙ sym (granted_under-data (spec_of life) (unsolicited_in k life) (bytes_of (grants_in life))
    (λ size interval jitter grants same. c.in_default.not-Unsolicited size interval jitter grants (is.spec ∙ same)))
