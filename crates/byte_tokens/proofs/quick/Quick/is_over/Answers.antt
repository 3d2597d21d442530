-- At the end no token is left.
use Rattle.std.proofs.Common.{drop, length, sym, ap, ◌∙◌}
use Rattle.std.proofs.lemmas.Bool.{eqb-true}
use Rattle.byte_tokens.proofs.Taken.{none_left, none_at_end}
use Rattle.byte_tokens.proofs.quick.Quick.is_over.Goals as goal

pub returns-then-may_close : goal.returns-then-may_close
returns-then-may_close c end =
    let a = c.self.inside in
    let text = a.text.now in
    let same = c.as_bytes.ensures.value in
    let may = sym c.may_close.ensures ∙ c.if-may_close.true in
    sym c.self.view_is ∙ none_left a.before may (drop a.at text)
    (none_at_end text a.at (eqb-true _ _ end ∙ ap length same))
