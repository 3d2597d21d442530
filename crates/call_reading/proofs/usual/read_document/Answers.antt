-- The two members of the one object are the document.
use Rattle.std.proofs.Common.{◌≡◌, [], ◌∷◌, true, false, codes, Some, None, option_and_then, refl, ap, ◌∙◌}
use Rattle.std.proofs.Common.{arith}
use Rattle.std.proofs.lemmas.Slice.Eq.{bytes_eq-Decides}
use Rattle.json.specs.Token.{Token}
use Rattle.json.specs.Json.{read_key}
use Rattle.serde_json.specs.Data.{object, put, no_members}
use Rattle.json_fields.specs.Fields.{config_of}
use Rattle.json_fields.proofs.PlainValues.{found_at}
use Rattle.json_fields.proofs.UsualParts.{document_read}
use Rattle.call_reading.proofs.Quick.{two_members}
use Rattle.call_reading.proofs.usual.read_document.Goals as goal

pub returns : goal.returns
returns g c =
    let ts = c.args.reader.now in
    let s = c.open_object.new.self in
    let v = c.read_list.new.reader in
    let r = c.next_key.new.reader in
    let name = c.args.name.now in
    let is : ts ≡ Token.begin_object ∷ s = grind arith in
    let end : read_key v ≡ Some (None, r) = grind arith in
    let over : r ≡ [] = grind arith in
    let one = c.in_ok-config.ensures.is in
    let two = c.in_ok-list.ensures.is in
    let first = put (codes "config") one.1 no_members in
    let ms = put name two.1 first in
    let all = two_members s one.0 c.read_config.new.reader two.0 v r (codes "config") name one.1 two.1 one.2
    one.3 c.in_ok-config.ensures.shorter two.2 two.3 c.in_ok-list.ensures.shorter end in (
      object ms,
      document_read ts s ms is (all ∙ ap (λ r. Some (ms, r)) over),
      record {
        config_is = ap (option_and_then config_of) (found_at false name (codes "config") two.1 first c.requires)
            ∙ one.4;
        listed = two.1;
        listed_is = found_at true name name two.1 first ((bytes_eq-Decides name name).1 refl);
        stands = two.4;
      },
    )
