-- The entry has a MAP, or is a refusal, or neither.
use Rattle.std.proofs.Common.{◌∙◌, refl, ap, arith, Some}
use Rattle.live_command.specs.Numbers.{map_in, is_refusal}
use Rattle.live_command.proofs.Counting.{numbers-map, numbers-refused, numbers-other, refused-same, neither, fits_maps}
use Rattle.live_command.proofs.numbers.Numbers.count.Goals as goal

pub returns-in-Built : goal.returns-in-Built
returns-in-Built c = λ es e call reply few are.
    let m = c.in-Built.map in
    let entries = c.one_more-self.ensures (omega (arith, few, are.entries)) in
    let maps = c.one_more-self-in-Built.ensures (omega (arith, few, are.maps, fits_maps es)) in
    numbers-map _ _ es e are entries m (reply ∙ c.in-Built.is) maps refl
    (rw c.as_slice.ensures at c.greater-self.ensures)
    (rw c.saturating_sub.ensures at c.greater-self-in-Built.ensures)
    (ap Some (rw (c.saturating_sub-margin.ensures, c.clock_of.ensures, ← call) at c.lesser.ensures))

pub returns-in-Refused : goal.returns-in-Refused
returns-in-Refused c = λ es e call reply few are.
    let entries = c.one_more-self.ensures (omega (arith, few, are.entries)) in
    rw c.refusal_number.ensures (numbers-refused _ _ es e are entries c.in-Refused.refusal c.one_more.result few
    (reply ∙ c.in-Refused.is) (rw c.refusal_number.ensures at c.one_more.ensures) refl)

pub returns-in_default : goal.returns-in_default
returns-in_default c = λ es e call reply few are.
    let entries = c.one_more-self.ensures (omega (arith, few, are.entries)) in
    let none = neither c.args.reply.now c.in_default.not-Built c.in_default.not-Refused in
    let refused = refused-same c.args.self.now.refused es e are.refused
    (λ number. ap (is_refusal number) reply ∙ none.1 number) in
    numbers-other _ _ es e are entries (ap map_in reply ∙ none.0) refused refl refl refl refl
