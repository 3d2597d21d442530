-- The names that were not taken left the reader as it was.
use Rattle.std.proofs.Common.{codes, refl, sym, ◌∙◌}
use Rattle.call_reading.proofs.Fields.{plain_ask, plain_build, plain_heard, plain_status}
use Rattle.call_reading.proofs.field.known_name.Goals as goal

pub returns-then-take_spelled_text : goal.returns-then-take_spelled_text
returns-then-take_spelled_text c = c.if-take_spelled_text.ensures (codes "status") plain_status refl

pub returns-then-take_spelled_text-2 : goal.returns-then-take_spelled_text-2
returns-then-take_spelled_text-2 c =
    sym c.if-take_spelled_text.ensures ∙ c.if-take_spelled_text-2.ensures (codes "ask") plain_ask refl

pub returns-then-take_spelled_text-3 : goal.returns-then-take_spelled_text-3
returns-then-take_spelled_text-3 c =
    sym c.if-take_spelled_text.ensures ∙ sym c.if-take_spelled_text-2.ensures
    ∙ c.if-take_spelled_text-3.ensures (codes "heard") plain_heard refl

pub returns-then-take_spelled_text-4 : goal.returns-then-take_spelled_text-4
returns-then-take_spelled_text-4 c =
    sym c.if-take_spelled_text.ensures ∙ sym c.if-take_spelled_text-2.ensures ∙ sym c.if-take_spelled_text-3.ensures
    ∙ c.if-take_spelled_text-4.ensures (codes "build") plain_build refl
