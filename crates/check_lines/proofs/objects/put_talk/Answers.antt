-- Five pieces, one behind another.
use Rattle.text_stream.proofs.Written.{where_ok}
use Rattle.check_lines.specs.Objects.{talk_members}
use Rattle.check_lines.proofs.Behind.{then_more}
use Rattle.check_lines.proofs.objects.put_talk.Goals as goal

pub returns-clause-ok : goal.returns-clause-ok
unfolding talk_members
returns-clause-ok c =
    let first = c.put_count.new.out.tokens in
    let second = c.put_count-2.new.out.tokens in
    let third = c.put_findings.new.out.tokens in
    let fourth = c.put_good.new.out.tokens in
    let last = c.put_titled.new.out.tokens in
    let told = rw c.deref.ensures.value at c.in_ok-put_findings.ensures.ok in
    where_ok c.put_titled.result (λ more.
    then_more c.args.out.now.tokens first last _ _ c.in_ok-put_count.ensures.ok
    (then_more first second last _ _ c.in_ok-put_count-2.ensures.ok
    (then_more second third last _ _ told
    (then_more third fourth last _ _ c.in_ok-put_good.ensures.ok more)))) c.put_titled.ensures.ok
