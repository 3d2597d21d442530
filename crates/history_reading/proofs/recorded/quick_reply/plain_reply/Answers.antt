-- By the kind.
use Rattle.std.proofs.Common.{◌≡◌, true, bytes_eq, codes, arith}
use Rattle.sched_calls.specs.declared.reply.Reply.TheVariants.{Removed, Taken, Noted, Reserved}
use Rattle.history_reading.proofs.Spelled.{plain_made, removed_made, taken_made, noted_made, reserved_made}
use Rattle.history_reading.proofs.recorded.quick_reply.plain_reply.Goals as goal

pub returns-in-removed : goal.returns-in-removed
returns-in-removed c =
    let same : bytes_eq c.args.kind.now (codes "removed") ≡ true = grind arith in
    plain_made c.args.kind.now (codes "removed") Removed same removed_made

pub returns-in-taken : goal.returns-in-taken
returns-in-taken c =
    let same : bytes_eq c.args.kind.now (codes "taken") ≡ true = grind arith in
    plain_made c.args.kind.now (codes "taken") Taken same taken_made

pub returns-in-noted : goal.returns-in-noted
returns-in-noted c =
    let same : bytes_eq c.args.kind.now (codes "noted") ≡ true = grind arith in
    plain_made c.args.kind.now (codes "noted") Noted same noted_made

pub returns-in-reserved : goal.returns-in-reserved
returns-in-reserved c =
    let same : bytes_eq c.args.kind.now (codes "reserved") ≡ true = grind arith in
    plain_made c.args.kind.now (codes "reserved") Reserved same reserved_made
