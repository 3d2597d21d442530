-- The three members between their braces.
use Rattle.text_stream.proofs.Written.{where_ok}
use Rattle.check_lines.specs.Objects.{finding_object}
use Rattle.check_lines.proofs.Behind.{then_more}
use Rattle.check_lines.proofs.objects.put_finding.Goals as goal

pub returns-clause-ok : goal.returns-clause-ok
unfolding finding_object
returns-clause-ok c =
    let begun = c.begin_object.new.self.tokens in
    let first = c.put_titled.new.out.tokens in
    let second = c.put_count.new.out.tokens in
    let third = c.put_titled-2.new.out.tokens in
    let last = c.end_object.new.self.tokens in
    let fault = rw c.words.ensures at c.in_ok-put_titled.ensures.ok in
    let words = rw c.as_str.ensures.value at c.in_ok-put_titled-2.ensures.ok in
    where_ok c.end_object.result (λ ended.
    then_more c.args.out.now.tokens begun last _ _ c.in_ok-begin_object.ensures.ok
    (then_more begun first last _ _ fault
    (then_more first second last _ _ c.in_ok-put_count.ensures.ok
    (then_more second third last _ _ words ended)))) c.end_object.ensures.ok
