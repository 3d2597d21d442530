-- The line, with words on it.
use Rattle.std.proofs.Common.{refl}
use Rattle.text_stream.proofs.Written.{where_ok}
use Rattle.check_lines.specs.declared.told_line.ToldLine.{ToldLine}
use Rattle.check_lines.proofs.live.tell.Goals as goal

pub returns-clause-ok : goal.returns-clause-ok
returns-clause-ok c =
    let line : ToldLine = record { number = c.args.number; fault = c.args.fault; words = c.in_ok-words.words } in
    where_ok c.push_told.result (λ more. (line, refl, more)) c.push_told.ensures.ok
