-- The first group with a wrong field has the first wrong field.
use Rattle.std.proofs.Common.{arith}
use Rattle.minislots.proofs.Bounds.{bursts_of}
use Rattle.minislots.proofs.Groups.{first_wrong_by_groups}
use Rattle.minislots.proofs.config.Config.check_fields.Goals as goal

pub check_frame-requires : goal.check_frame-requires
check_frame-requires c = bursts_of c.args.self.now c.in_ok-check_burst.ensures

pub check_grants-requires : goal.check_grants-requires
check_grants-requires c = bursts_of c.args.self.now c.in_ok-check_burst.ensures

pub returns-in_err-check_burst : goal.returns-in_err-check_burst
returns-in_err-check_burst c = grind (arith, first_wrong_by_groups c.args.self.now)

pub returns-in_err-check_frame : goal.returns-in_err-check_frame
returns-in_err-check_frame c = grind (arith, first_wrong_by_groups c.args.self.now)

pub returns-in_err-check_grants : goal.returns-in_err-check_grants
returns-in_err-check_grants c = grind (arith, first_wrong_by_groups c.args.self.now)

pub returns-in_err-check_history : goal.returns-in_err-check_history
returns-in_err-check_history c = grind (arith, first_wrong_by_groups c.args.self.now)

pub returns-in_err-check_backoffs : goal.returns-in_err-check_backoffs
returns-in_err-check_backoffs c = grind (arith, first_wrong_by_groups c.args.self.now)

pub returns-in_err-check_channel : goal.returns-in_err-check_channel
returns-in_err-check_channel c = grind (arith, first_wrong_by_groups c.args.self.now)

pub returns-in_err-check_flows : goal.returns-in_err-check_flows
returns-in_err-check_flows c = grind (arith, first_wrong_by_groups c.args.self.now)

pub returns : goal.returns
returns c = grind (arith, first_wrong_by_groups c.args.self.now)
