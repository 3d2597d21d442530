-- One word more is written, and those before the first and after the last have no minislot that is marked.
use Rattle.std.proofs.Common.{◌∙◌, inl, inr, arith}
use Rattle.std.proofs.lemmas.List.{length-set}
use Rattle.periodic.specs.Bits.{bit_for}
use Rattle.periodic.proofs.Words.{written-more}
use Rattle.periodic.proofs.bits.Bits.mark.Goals as goal

pub loop-place-preserved : goal.loop-place-preserved
loop-place-preserved c =
    let words = c.loop-place.self.words in
    let place = c.loop-place.place in
    let word = c.written.result in
    record {
      long = length-set words place word ∙ c.loop-place.invariant.long;
      written = written-more c.args.self.now.words words c.args.start c.args.end (bit_for c.args.taken) place word
          (omega (arith, c.loop-place.invariant.long)) c.loop-place.invariant.written
          (λ i lt from to. c.written.ensures.inside i lt (c.bits_between-bits.ensures.inside i lt from to))
          (λ i lt apart. c.written.ensures.outside i lt (elim apart [
            | inl below ↦ c.bits_between-bits.ensures.below i lt below
            | inr above ↦ c.bits_between-bits.ensures.above i lt above
          ]));
    }

pub returns-clause-inside : goal.returns-clause-inside
returns-clause-inside c = λ m most from lt. c.loop-place.invariant.written.inside m (omega arith) from lt
