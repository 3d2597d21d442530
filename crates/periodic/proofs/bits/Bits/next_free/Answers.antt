-- The first that is clear in the first word that has one.
use Rattle.std.proofs.Common.{◌∙◌, ◌*◌, ◌%◌, ◌≤◌, inl, inr, arith}
use Rattle.std.proofs.lemmas.Bool.{cases_lt}
use Rattle.periodic.proofs.Words.{bit_of-in, before-first, at-first}
use Rattle.periodic.proofs.bits.Bits.next_free.Goals as goal

pub returns-in-Some-clause-none_before : goal.returns-in-Some-clause-none_before
returns-in-Some-clause-none_before c = λ m from lt.
    let place = c.min-first.result in
    let first = c.in-Some.ensures.found in
    let late : place * 64 ≤ m = omega (arith, from, c.min-first.ensures) in
    bit_of-in c.args.self.now.words place m (omega (arith, late, lt, first.most))
    ∙ before-first 0 _ place c.args.from c.in-Some.free m first from late lt

pub returns-in-Some-clause-is : goal.returns-in-Some-clause-is
returns-in-Some-clause-is c = λ lt.
    let first = c.in-Some.ensures.found in
    bit_of-in c.args.self.now.words c.min-first.result c.in-Some.free (omega (arith, first.least, first.most))
    ∙ at-first 0 _ c.min-first.result c.args.from c.in-Some.free first

pub loop-place-init : goal.loop-place-init
loop-place-init c = λ m from lt.
    bit_of-in c.args.self.now.words c.min-first.result m (omega (arith, from, lt, c.min-first.ensures))
    ∙ c.in_default.ensures.absent (m % 64) (omega arith) (omega (arith, from, lt, c.min-first.ensures))

pub returns-in-Some-first_clear-clause-none_before : goal.returns-in-Some-first_clear-clause-none_before
returns-in-Some-first_clear-clause-none_before c = λ m from lt.
    let words = c.args.self.now.words in
    let place = c.loop-place.place in
    let first = c.in-Some-first_clear.ensures.found in
    elim (cases_lt m (place * 64)) [
      | inl early ↦ c.loop-place.invariant m from early
      | inr late ↦ bit_of-in words place m (omega (arith, late, lt, first.most))
          ∙ before-first 0 _ place 0 c.in-Some-first_clear.free m first (omega arith) late lt
    ]

pub returns-in-Some-first_clear-clause-is : goal.returns-in-Some-first_clear-clause-is
returns-in-Some-first_clear-clause-is c = λ lt.
    let first = c.in-Some-first_clear.ensures.found in
    bit_of-in c.args.self.now.words c.loop-place.place c.in-Some-first_clear.free
    (omega (arith, first.least, first.most))
    ∙ at-first 0 _ c.loop-place.place 0 c.in-Some-first_clear.free first

pub loop-place-preserved : goal.loop-place-preserved
loop-place-preserved c = λ m from lt.
    let words = c.args.self.now.words in
    let place = c.loop-place.place in
    elim (cases_lt m (place * 64)) [
      | inl early ↦ c.loop-place.invariant m from early
      | inr late ↦ bit_of-in words place m (omega (arith, late, lt))
          ∙ c.in_default-first_clear.ensures.absent (m % 64) (omega arith) (omega arith)
    ]
