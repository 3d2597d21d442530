-- Three pieces, one behind another.
use Rattle.text_stream.proofs.Written.{where_ok}
use Rattle.check_lines.specs.Objects.{good_members}
use Rattle.check_lines.proofs.Behind.{then_more}
use Rattle.check_lines.proofs.objects.put_good_document.Goals as goal

pub returns-clause-ok : goal.returns-clause-ok
unfolding good_members
returns-clause-ok c =
    let first = c.put_good.new.out.tokens in
    let second = c.put_titled.new.out.tokens in
    let last = c.put_titled-2.new.out.tokens in
    where_ok c.put_titled-2.result (λ more.
    then_more c.args.out.now.tokens first last _ _ c.in_ok-put_good.ensures.ok
    (then_more first second last _ _ c.in_ok-put_titled.ensures.ok more)) c.put_titled-2.ensures.ok
