use Rattle.std.proofs.Common.{◌≡◌, ◌⊎◌, ap, sym, subst}
use mathlib.Core.List.{IsPrefix}
use Rattle.map_snapshot.specs.Maps.{Known, maps_in}
use Rattle.map_snapshot.proofs.Entries.{maps_begin, whole_stays, is_whole}
use Rattle.map_snapshot.proofs.told.Told.take_whole.Goals as goal

pub returns-clause-began : goal.returns-clause-began
returns-clause-began c =
    let both = c.learn.new.self.log in
    let whole = c.whole.inside.seen.log in
    let begins : IsPrefix whole both = subst (λ l. IsPrefix l both) (ap (λ s. s.log) c.again-both.ensures)
    c.learn.ensures.2 in
    let stays = whole_stays whole both c.learn.ensures.4.0 c.whole.invariant.1 begins c.learn.ensures.4.1 in
    let began : IsPrefix (maps_in c.self.inside.seen.log) (maps_in whole) =
    subst (λ l. IsPrefix (maps_in c.self.inside.seen.log) l) (sym stays)
    (maps_begin c.self.inside.seen.log both c.learn.ensures.3) in
    subst (λ (k : Known). IsPrefix c.args.self.now.list k.list) c.whole.view_is
    (subst (λ (k : Known). IsPrefix k.list (maps_in whole)) c.self.view_is began)

pub returns-clause-whole : goal.returns-clause-whole
returns-clause-whole c =
    let old = c.args.self.now.list in
    let new = c.take_in.new.self.list in
    is_whole old new c.args.whole.now.list (returns-clause-began c)
    (subst (λ (k : Known). IsPrefix k.list new) c.whole.view_is c.take_in.ensures.told)
    (subst (λ (k : Known). (new ≡ old) ⊎ (new ≡ k.list)) c.whole.view_is c.take_in.ensures.one)
