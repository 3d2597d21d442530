-- The configuration is the one given, and nothing is taken.
use Rattle.std.proofs.Common.{◌≡◌, refl, replicate, arith, rules}
use Rattle.periodic.proofs.Marking.{none-told}
use Rattle.periodic.proofs.table.Table.open.Goals as goal

pub invariant_of-result : goal.invariant_of-result
invariant_of-result c =
    let rows : c.in_ok-rows.rows.items ≡ replicate c.cycle-cycle.result c.free.result = search rules in
    record {
      sound = search rules;
      each = search rules;
      filled = search rules;
      told = rw (rows, c.new.ensures.items) (none-told c.args.config c.free.result c.cycle-cycle.result
          c.cycle-cycle.ensures.value
          (omega (arith, c.cycle-cycle.ensures.positive, c.cycle-cycle.ensures.value)) c.free.ensures);
      bounded = c.open.ensures c.args.config c.in_ok-rows.rows.items c.cycle-cycle.ensures.lawful;
      counted = rw c.new.ensures.items (c.open-2.ensures c.args.config c.cycle-cycle.ensures.lawful);
      summed = search rules;
      long = search rules;
    }

pub returns-clause-config : goal.returns-clause-config
returns-clause-config c = refl
