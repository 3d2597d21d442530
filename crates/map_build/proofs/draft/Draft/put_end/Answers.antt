-- Behind the Null stand the pending grants of the flows that are shown.
use Rattle.std.proofs.Common.{◌∙◌, subst}
use Rattle.map_build.specs.Draft.{Puts}
use Rattle.map_build.proofs.Pendings.{ends-pending}
use Rattle.map_build.proofs.draft.Draft.put_end.Goals as goal

pub returns-clause-ends : goal.returns-clause-ends
returns-clause-ends c =
    let old = c.args.self.now in
    let put : Puts 0 7 0 0 old c.put.new.self =
    subst (λ o. Puts 0 7 0 0 (record old { overlay = o }) c.put.new.self) c.show.ensures.same c.in_ok-put.ensures in
    ends-pending old c.put.new.self c.put_pending.new.self c.deref.result.now c.requires.full put
    (c.deref.ensures.value ∙ c.in_ok-shown.ensures.pending) c.in_ok-put_pending.ensures
