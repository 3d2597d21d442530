-- What was found is the segment whose value it is, where it is one in which something can go on.
use Rattle.std.proofs.Common.{◌≡◌, Some, None, true, false, sym, ap, ◌∙◌, subst, arith, rules}
use Rattle.std.specs.Prelude.{codes}
use Rattle.serde_json.specs.View.{view}
use Rattle.channel_states.specs.Possible.{IsPossible}
use Rattle.segment_line.specs.declared.segment.Segment.{Segment}
use Rattle.segment_line.specs.SegmentLine.{IsSegmentValue}
use Rattle.segment_line.specs.Spelled.{IsValueOf}
use Rattle.segment_line.proofs.SegmentRead.{depth-get, found-again}
use Rattle.segment_line.proofs.reading.segment_of.Goals as goal

pub parts_of-requires : goal.parts_of-requires
parts_of-requires c =
    let deep = depth-get (codes "segment") (view c.args.value.now) (view c.args.object.now) c.requires.there in
    let shallow = c.requires.nests in
    omega (arith, deep, shallow)

pub returns-in_default-clause-exact : goal.returns-in_default-clause-exact
returns-in_default-clause-exact c = λ s fits. (
  λ (none : None ≡ Some s). absurd cc,
  λ is. sym c.in_default.is
      ∙ found-again (view c.args.value.now) (view c.args.object.now) _ c.requires.there c.in_ok-segment.ensures s fits is,
)

pub returns-then-segment-lt2-clause-exact : goal.returns-then-segment-lt2-clause-exact
returns-then-segment-lt2-clause-exact c = λ s fits. (
  λ (none : None ≡ Some s). absurd cc,
  λ is.
      let found : Some c.in-Some.segment ≡ Some s = sym c.in-Some.is
      ∙ found-again (view c.args.value.now) (view c.args.object.now) _ c.requires.there c.in_ok-segment.ensures s fits
      is in
      let same : c.in-Some.segment ≡ s = cc in
      absurd (omega (arith, ap (λ (g : Segment). g.number) same, is.later, c.if-segment-lt2.true)),
)

pub returns-then-is_some-clause-exact : goal.returns-then-is_some-clause-exact
returns-then-is_some-clause-exact c = λ s fits. (
  λ (none : None ≡ Some s). absurd cc,
  λ is.
      let found : Some c.in-Some.segment ≡ Some s = sym c.in-Some.is
      ∙ found-again (view c.args.value.now) (view c.args.object.now) _ c.requires.there c.in_ok-segment.ensures s fits
      is in
      let same : c.in-Some.segment ≡ s = cc in
      let impossible : IsPossible c.in-Some.segment.config c.in-Some.segment.state → ⊥ = search rules in
      absurd (impossible (subst (λ (g : Segment). IsPossible g.config g.state) (sym same) is.possible)),
)

pub returns-then-not-branch-clause-exact : goal.returns-then-not-branch-clause-exact
returns-then-not-branch-clause-exact c = λ s fits. (
  λ (none : None ≡ Some s). absurd cc,
  λ is.
      let found : Some c.in-Some.segment ≡ Some s = sym c.in-Some.is
      ∙ found-again (view c.args.value.now) (view c.args.object.now) _ c.requires.there c.in_ok-segment.ensures s fits
      is in
      let same : c.in-Some.segment ≡ s = cc in
      let of_it : IsValueOf (view c.args.value.now) s = record { sum = is.sum; is_crc = is.is_crc; is = is.is } in
      let no : c.in_ok-is_value_of.field-0 ≡ false = search rules in
      let yes : c.in_ok-is_value_of.field-0 ≡ true = c.in_ok-is_value_of.ensures.value.1
      (subst (λ (g : Segment). IsValueOf (view c.args.value.now) g) (sym same) of_it) in
      absurd cc,
)

pub returns-clause-exact : goal.returns-clause-exact
returns-clause-exact c = λ s fits. (
  λ (found : Some c.in-Some.segment ≡ Some s).
      let same : c.in-Some.segment ≡ s = cc in
      let possible : IsPossible c.in-Some.segment.config c.in-Some.segment.state = search rules in
      let yes : c.in_ok-is_value_of.field-0 ≡ true = search rules in
      let of_it : IsValueOf (view c.args.value.now) c.in-Some.segment = c.in_ok-is_value_of.ensures.value.0 yes in
      let here : IsSegmentValue (view c.args.value.now) c.in-Some.segment = record {
        sum = of_it.sum;
        is_crc = of_it.is_crc;
        is = of_it.is;
        later = omega (arith, c.if-segment-lt2.false);
        lawful = c.in_ok-is_value_of.ensures.lawful;
        possible = possible;
      } in
      subst (λ (g : Segment). IsSegmentValue (view c.args.value.now) g) same here,
  λ is. sym c.in-Some.is
      ∙ found-again (view c.args.value.now) (view c.args.object.now) _ c.requires.there c.in_ok-segment.ensures s fits is,
)
