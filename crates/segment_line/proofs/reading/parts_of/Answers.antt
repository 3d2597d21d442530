-- Each part is found, where the object has those of a segment.
use Rattle.std.proofs.Common.{◌≡◌, Some, None, sym, ap, ◌∙◌, arith}
use Rattle.std.specs.Prelude.{codes}
use Rattle.serde_json.specs.Find.{get}
use Rattle.serde_json.specs.View.{view}
use Rattle.json_fields.specs.Fields.{u64_at}
use Rattle.state_text.specs.StateText.{state_data}
use Rattle.segment_line.specs.declared.segment.Segment.{Segment}
use Rattle.segment_line.specs.Opening.{config_under}
use Rattle.segment_line.proofs.SegmentRead.{depth-get, config_under-parts, number-parts, state-parts}
use Rattle.segment_line.proofs.reading.parts_of.Goals as goal

pub returns-in_default : goal.returns-in_default
returns-in_default c = λ sum s fits lawful is.
    let no : None ≡ Some s.config = sym c.in_default.is ∙ c.lawful_in.ensures ∙ ap config_under is
    ∙ config_under-parts sum s fits.config lawful in
    absurd cc

pub returns-in_default-number_u64 : goal.returns-in_default-number_u64
returns-in_default-number_u64 c = λ sum s fits lawful is.
    let no : None ≡ Some s.number = sym c.in_default-number_u64.is ∙ c.number_u64.ensures
    ∙ ap (u64_at (codes "number")) is ∙ number-parts sum s fits.number in
    absurd cc

pub returns-in_default-member : goal.returns-in_default-member
returns-in_default-member c = λ sum s fits lawful is.
    let no : None ≡ Some (state_data s.state) = c.in_default-member.ensures ∙ ap (get (codes "state")) is
    ∙ state-parts sum s in
    absurd cc

pub state_of_value-requires : goal.state_of_value-requires
state_of_value-requires c =
    let there = c.in-Some-member.ensures in
    let deep = depth-get (codes "state") (view c.args.object.now) (view c.in-Some-member.value.now) (sym there) in
    let shallow = c.requires in
    omega (arith, deep, shallow)

-- the value of the state
pub returns-in_default-2 : goal.returns-in_default-2
returns-in_default-2 c = λ sum s fits lawful is.
    let both : Some (view c.in-Some-member.value.now) ≡ Some (state_data s.state) =
    c.in-Some-member.ensures ∙ ap (get (codes "state")) is ∙ state-parts sum s in
    let same : view c.in-Some-member.value.now ≡ state_data s.state = cc in
    let no : None ≡ Some s.state =
    sym c.in_default-2.is ∙ (c.in_ok-state.ensures.exact s.state fits.state).1 same in
    absurd cc

pub returns : goal.returns
returns c = λ sum s fits lawful is.
    let config_found : Some c.in-Some.config ≡ Some s.config = sym c.in-Some.is ∙ c.lawful_in.ensures
    ∙ ap config_under is ∙ config_under-parts sum s fits.config lawful in
    let number_found : Some c.in-Some-number_u64.number ≡ Some s.number = c.in-Some-number_u64.ensures
    ∙ ap (u64_at (codes "number")) is ∙ number-parts sum s fits.number in
    let both : Some (view c.in-Some-member.value.now) ≡ Some (state_data s.state) =
    c.in-Some-member.ensures ∙ ap (get (codes "state")) is ∙ state-parts sum s in
    let value : view c.in-Some-member.value.now ≡ state_data s.state = cc in
    let state_found : Some c.in-Some-2.state ≡ Some s.state =
    sym c.in-Some-2.is ∙ (c.in_ok-state.ensures.exact s.state fits.state).1 value in
    let config : c.in-Some.config ≡ s.config = cc in
    let number : c.in-Some-number_u64.number ≡ s.number = cc in
    let state : c.in-Some-2.state ≡ s.state = cc in
    ap (λ (found : Segment). Some found) (λ i. record { config = config i; number = number i; state = state i })
