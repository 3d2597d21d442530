-- The payload that is read in a frame is a MAP's exactly where the frame carries one.
use Rattle.std.proofs.Common.{rules, Bool, ◌↔◌, sym, subst, true≢false}
use Rattle.std.specs.Prelude.{IsTrue}
use Rattle.std.proofs.lemmas.Result.{IfOk-weaker}
use Rattle.map_codec.specs.WireMap.{IsPayload}
use Rattle.decode_command.specs.Frame.{CarriesMap}
use Rattle.decode_command.proofs.frame.put_map_frame.Goals as goal

pub returns-in-Ok-clause-exact : goal.returns-in-Ok-clause-exact
returns-in-Ok-clause-exact g c =
    let frame = c.in-Ok.frame in
    let there : IsPayload frame.payload.now → CarriesMap c.args.bytes.now = λ p. record {
      address = frame.address;
      six = search rules;
      payload = frame.payload.now;
      frame = c.in-Ok.ensures.found;
      is_payload = p;
    } in
    let back : CarriesMap c.args.bytes.now → IsPayload frame.payload.now
    = λ h. subst IsPayload (sym (c.in-Ok.ensures.only h.address h.payload h.six h.frame).1) h.is_payload in
    let same : (is_payload : Bool) → (IsTrue is_payload ↔ IsPayload frame.payload.now)
    → (IsTrue is_payload ↔ CarriesMap c.args.bytes.now)
    = λ is_payload exact. (λ t. there (exact.0 t), λ h. exact.1 (back h)) in
    IfOk-weaker _ _ _ same c.put_carried.ensures.exact

pub returns-in_ok-put_frame_fault-in-Err-clause-exact : goal.returns-in_ok-put_frame_fault-in-Err-clause-exact
returns-in_ok-put_frame_fault-in-Err-clause-exact g c = (
  λ t. absurd (true≢false (sym t)),
  λ h. absurd (c.in-Err.ensures.only h.address h.payload h.six h.frame),
)
