-- Where it has no tier its maximum sustained rate decides alone, and else its tier does with it.
use Rattle.std.proofs.Common.{refl, sym, ap, ◌∙◌, ◌<◌, ◌≤◌, length, get_or}
use Rattle.flow_book.specs.declared.waiting.Waiting.{Waiting}
use Rattle.flow_book.specs.Limits.{most_with}
use Rattle.flow_book.proofs.ByTier.{none-in, here-in, put-in, put-spent, unlimited-more, unlimited-settled}
use Rattle.flow_book.proofs.waiting.Waiting.take_most.Goals as goal

pub returns-then-tier-tiers-clause-taken : goal.returns-then-tier-tiers-clause-taken
returns-then-tier-tiers-clause-taken c =
    let w = c.args.self.now in
    let tiers = c.args.tiers.now in
    let new : Waiting = record w { sustained = c.take_most.new.self } in
    let past : length tiers ≤ w.tier = c.if-tier-tiers.true in
    rw (none-in tiers w past, none-in tiers new past) (record {
      sustained = c.take_most.ensures.taken;
      peak = unlimited-more c.args.slot c.take_most.result;
      reserved = λ yes'. absurd (cc);
      same = λ no'. refl;
    })

pub returns-then-tier-tiers-clause-settled : goal.returns-then-tier-tiers-clause-settled
returns-then-tier-tiers-clause-settled c =
    let w = c.args.self.now in
    let tiers = c.args.tiers.now in
    let new : Waiting = record w { sustained = c.take_most.new.self } in
    let past : length tiers ≤ w.tier = c.if-tier-tiers.true in
    rw (none-in tiers w past, none-in tiers new past) (record {
      sustained = c.take_most.ensures.settled;
      peak = unlimited-settled c.args.slot c.take_most.result;
      reserved = λ yes'. absurd (cc);
      same = λ no'. refl;
    })

pub take_most-requires-2 : goal.take_most-requires-2
take_most-requires-2 c =
    let w = c.args.self.now in
    let tiers = c.args.tiers.now in
    let within : w.tier < length tiers = c.if-tier-tiers.false in
    rw (sym (here-in tiers w w (get_or tiers w.tier c.index-tiers-tier.result) within (ap (λ d. get_or tiers w.tier d) c.index-tiers-tier.is))) c.requires

pub returns-clause-most : goal.returns-clause-most
returns-clause-most c =
    let w = c.args.self.now in
    let tiers = c.args.tiers.now in
    let within : w.tier < length tiers = c.if-tier-tiers.false in
    c.take_most-2.ensures.most ∙ sym (ap (λ l. most_with l c.args.slot c.args.wanted c.args.limit)
    (here-in tiers w w (get_or tiers w.tier c.index-tiers-tier.result) within (ap (λ d. get_or tiers w.tier d) c.index-tiers-tier.is)))

pub returns-clause-taken : goal.returns-clause-taken
returns-clause-taken c =
    let w = c.args.self.now in
    let tiers = c.args.tiers.now in
    let t = (get_or tiers w.tier c.index-tiers-tier.result) in
    let new : Waiting = record w { sustained = c.take_most-2.new.sustained } in
    let within : w.tier < length tiers = c.if-tier-tiers.false in
    rw (
      here-in tiers w w t within (ap (λ d. get_or tiers w.tier d) c.index-tiers-tier.is),
      put-in tiers w new t within (ap (λ d. get_or tiers w.tier d) c.index-tiers-tier.is) c.take_most-2.new.self c.take_most-2.ensures.same
          refl,
    ) c.take_most-2.ensures.taken

pub returns-clause-settled : goal.returns-clause-settled
returns-clause-settled c =
    let w = c.args.self.now in
    let tiers = c.args.tiers.now in
    let t = (get_or tiers w.tier c.index-tiers-tier.result) in
    let new : Waiting = record w { sustained = c.take_most-2.new.sustained } in
    let within : w.tier < length tiers = c.if-tier-tiers.false in
    rw (
      here-in tiers w w t within (ap (λ d. get_or tiers w.tier d) c.index-tiers-tier.is),
      put-in tiers w new t within (ap (λ d. get_or tiers w.tier d) c.index-tiers-tier.is) c.take_most-2.new.self c.take_most-2.ensures.same
          refl,
    ) c.take_most-2.ensures.settled

pub returns-clause-spent : goal.returns-clause-spent
returns-clause-spent c =
    let w = c.args.self.now in
    let tiers = c.args.tiers.now in
    let new : Waiting = record w { sustained = c.take_most-2.new.sustained } in
    let within : w.tier < length tiers = c.if-tier-tiers.false in
    put-spent tiers w new (get_or tiers w.tier c.index-tiers-tier.result) within (ap (λ d. get_or tiers w.tier d) c.index-tiers-tier.is)
    c.take_most-2.new.self c.take_most-2.ensures.same refl
