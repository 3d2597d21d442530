-- The key of the name stands first, behind it the name, and behind that the next key.
use Rattle.std.proofs.Common.{◌∷◌, codes, refl, ap, ◌∙◌}
use Rattle.json.specs.Token.{key, string}
use Rattle.call_reading.specs.declared.field.Field.TheVariants.{Name}
use Rattle.call_reading.specs.Field.{key_of}
use Rattle.call_reading.proofs.Fields.{plain_key}
use Rattle.call_reading.proofs.usual_call.take_named_apart.Goals as goal

pub returns : goal.returns
returns c _ content field plain name behind =
    (rw c.if-not-take_spelled_key.false at c.take_spelled_key.ensures) (codes "call") (plain_key Name) refl
    ∙ ap (λ l. key (codes "call") ∷ l) ((rw c.if-not-take_spelled_text.false at c.take_spelled_text.ensures) content
    plain name ∙ ap (λ l. string content ∷ l)
    ((rw c.if-not-take_spelled_key-2.false at c.take_spelled_key-2.ensures) (key_of field) (plain_key field) behind))
