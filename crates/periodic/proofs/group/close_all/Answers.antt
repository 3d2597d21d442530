-- The groups that have flows are left.
use Rattle.std.proofs.Common.{◌≡◌, ◌∙◌, ap, filter, rules}
use Rattle.std.proofs.lemmas.Fn.{filter_same}
use Rattle.sched_calls.proofs.Removal.{all-filter}
use Rattle.periodic.specs.Groups.{flows_in, IsSoundGroup}
use Rattle.periodic.proofs.Filled.{has_flows, flows-filled, filled-all}
use Rattle.periodic.proofs.group.close_all.Goals as goal

left : (c : goal.After-retain) → c.retain.new.self.items ≡ filter has_flows c.args.groups.now.items
left c = filter_same _ has_flows _ (λ x b f' k. let long = x.flows.ok.0 in search rules) _ _ c.retain.ensures.filtered

pub returns-clause-filled : goal.returns-clause-filled
returns-clause-filled c = rw (left c) (filled-all c.args.groups.now.items)

pub returns-clause-same : goal.returns-clause-same
returns-clause-same c = ap flows_in (left c) ∙ flows-filled c.args.groups.now.items

pub returns-clause-sound : goal.returns-clause-sound
returns-clause-sound c = λ config sound.
    rw (left c) (all-filter (IsSoundGroup config) has_flows c.args.groups.now.items sound)
