use Rattle.std.proofs.Common.{◌≤◌, ap, sym, subst, arith, length}
use mathlib.Core.List.{IsPrefix}
use Rattle.map_snapshot.specs.Maps.{Known, maps_in}
use Rattle.map_snapshot.proofs.Beginnings.{prefix_shorter}
use Rattle.map_snapshot.proofs.Entries.{maps_begin}
use Rattle.map_snapshot.proofs.told.Told.take_in.Goals as goal

pub returns-then-version_of-clause-kept : goal.returns-then-version_of-clause-kept
returns-then-version_of-clause-kept c =
    let both = c.learn.new.self.log in
    let seen = maps_in c.args.seen.now.log in
    let known = maps_in c.self.inside.seen.log in
    let theirs : IsPrefix seen (maps_in both) = maps_begin c.args.seen.now.log both (subst (λ l. IsPrefix l both)
    (ap (λ s. s.log) c.again-both.ensures) c.learn.ensures.2) in
    let ours : IsPrefix known (maps_in both) = maps_begin c.self.inside.seen.log both c.learn.ensures.3 in
    let less : length known ≤ length seen = omega (
      arith,
      c.if-version_of.true,
      c.version_of.ensures.count seen c.requires.newest,
      c.version_of-2.ensures.count
          known c.self.invariant,
    ) in
    let kept : IsPrefix known (maps_in c.again.result.log) = subst (λ l. IsPrefix known (maps_in l))
    (sym (ap (λ s. s.log) c.again.ensures)) (prefix_shorter known seen (maps_in both) ours theirs less) in
    subst (λ (k : Known). IsPrefix k.list (maps_in c.again.result.log)) c.self.view_is kept

pub returns-clause-told : goal.returns-clause-told
returns-clause-told c =
    let both = c.learn.new.self.log in
    let seen = maps_in c.args.seen.now.log in
    let known = maps_in c.self.inside.seen.log in
    let theirs : IsPrefix seen (maps_in both) = maps_begin c.args.seen.now.log both (subst (λ l. IsPrefix l both)
    (ap (λ s. s.log) c.again-both.ensures) c.learn.ensures.2) in
    let ours : IsPrefix known (maps_in both) = maps_begin c.self.inside.seen.log both c.learn.ensures.3 in
    let less : length seen ≤ length known = omega (
      arith,
      c.if-version_of.false,
      c.version_of.ensures.count seen c.requires.newest,
      c.version_of-2.ensures.count
          known c.self.invariant,
    ) in
    subst (λ (k : Known). IsPrefix seen k.list) c.self.view_is
    (prefix_shorter seen known (maps_in both) theirs ours less)
