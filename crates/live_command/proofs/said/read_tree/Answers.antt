-- The text stands for the value, or for none.
use Rattle.std.proofs.Common.{Ok, sym, ap, ◌∙◌}
use Rattle.serde_json.specs.View.{view}
use Rattle.live_command.proofs.Read.{said_in-value, said_in-fault}
use Rattle.live_command.proofs.said.read_tree.Goals as goal

pub returns-in-Ok : goal.returns-in-Ok
returns-in-Ok c =
    said_in-value c.args.bytes.now (view c.in-Ok.value) c.in-Ok.ensures ∙ ap Ok (sym c.said_by.ensures)

pub returns-in-Err : goal.returns-in-Err
returns-in-Err c = λ other. said_in-fault c.args.bytes.now c.in-Err.fault (c.in-Err.ensures other)
