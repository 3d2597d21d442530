-- MAPs of the same fields.
use Rattle.std.proofs.Common.{◌≡◌, sym, ap, ◌∙◌, List}
use Rattle.map_codec.specs.declared.element.Element.{Element}
use Rattle.map_codec.specs.declared.wire_map.WireMap.{WireMap}
use Rattle.sched_history.specs.declared.auditing.sameness.FixedFields.{FixedFields}
use Rattle.sched_history.specs.Audit.{fixed_fields}

-- the MAP of these fields and elements
abbrev wire_of_fields : FixedFields → List Element → WireMap
wire_of_fields f elements = record {
  channel = f.channel;
  ucd_count = f.ucd_count;
  reserved = f.reserved;
  alloc_start = f.alloc_start;
  ack = f.ack;
  ranging_start = f.ranging_start;
  ranging_end = f.ranging_end;
  data_start = f.data_start;
  data_end = f.data_end;
  elements = elements;
}

-- the same fixed fields and the same elements are the same MAP
pub same_wire : (m n : WireMap) → fixed_fields m ≡ fixed_fields n → m.elements ≡ n.elements → n ≡ m
same_wire m n fields elements =
    ap (λ f. wire_of_fields f n.elements) (sym fields) ∙ ap (wire_of_fields (fixed_fields m)) (sym elements)
