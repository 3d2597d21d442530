-- A bucket has what the grants leave that it stands for.
use Rattle.std.proofs.Common.{◌≡◌, ◌∙◌, arith}
use Rattle.flow_book.specs.Bucket.{level_of}
use Rattle.flow_book.proofs.Buckets.{nothing-unlimited}
use Rattle.flow_book.proofs.bucket.Bucket.level_at.Goals as goal

pub returns-clause-least : goal.returns-clause-least
returns-clause-least c = λ channel rate burst grants stands started.
    let value : c.from.result ≡ level_of c.args.self.now c.args.slot =
    omega (arith, c.level.ensures, c.from.ensures) in (
      (λ limited. rw value (stands.level limited c.args.slot started)),
      (λ none. value ∙ nothing-unlimited channel rate burst c.args.self.now grants stands c.args.slot none),
    )
