-- What is taken leaves a bound one, and what is freed widens it.
use Rattle.std.proofs.Common.{◌∙◌, ap}
use Rattle.minislots.proofs.Bounds.{bounds_of}
use Rattle.periodic.specs.Bits.{bit_for}
use Rattle.periodic.proofs.Bounding.{taken-bounded}
use Rattle.periodic.proofs.widest.mark.Goals as goal

pub returns-then-taken-clause-bounded : goal.returns-then-taken-clause-bounded
returns-then-taken-clause-bounded c =
    taken-bounded c.args.config.now c.args.start c.args.end c.args.most.now c.args.bits.now.words c.mark.new.self.words
    c.mark.ensures.outside c.requires.bounded (bounds_of _ c.requires.lawful).frame_most
    (λ m lt from to. c.mark.ensures.inside m lt from to ∙ ap bit_for c.if-taken.true)

pub returns-clause-bounded : goal.returns-clause-bounded
returns-clause-bounded c = c.widened.ensures c.args.bits.now.words c.mark.ensures.outside c.requires.bounded
