-- The key, and the bad lines between their brackets.
use Rattle.text_stream.proofs.Written.{where_ok}
use Rattle.check_lines.specs.Objects.{findings_member}
use Rattle.check_lines.proofs.Behind.{then_more}
use Rattle.check_lines.proofs.objects.put_findings.Goals as goal

pub returns-clause-ok : goal.returns-clause-ok
unfolding findings_member
returns-clause-ok c =
    let named = c.key.new.self.tokens in
    let begun = c.begin_array.new.self.tokens in
    let each = c.put_each.new.out.tokens in
    let last = c.end_array.new.self.tokens in
    where_ok c.end_array.result (λ ended.
    then_more c.args.out.now.tokens named last _ _ c.in_ok-key.ensures.ok
    (then_more named begun last _ _ c.in_ok-begin_array.ensures.ok
    (then_more begun each last _ _ c.in_ok-put_each.ensures.ok ended))) c.end_array.ensures.ok
