-- What was found of the line is what it stands for.
use Rattle.std.proofs.Common.{◌≡◌, ◌≤◌, length, true, sym, arith, rules}
use Rattle.serde_json.specs.View.{view}
use Rattle.segment_line.specs.declared.segment.TheConstants.{MAX_FIRST_LINE}
use Rattle.segment_line.proofs.SegmentRead.{first-alone, first-later}
use Rattle.segment_line.proofs.reading.read_first_line.Goals as goal

pub returns-in_default-get-clause-exact : goal.returns-in_default-get-clause-exact
returns-in_default-get-clause-exact c = λ first fits.
    let line = c.args.line.now in
    let found = view c.in-Some.value in
    let read = rw c.in-Some.is at c.in_ok-value.ensures.value in
    let short : length line ≤ MAX_FIRST_LINE = omega arith in
    rw c.first_of.ensures.is (first-alone line found read.0 read.1 short (sym c.in_default-get.ensures) first)

pub returns-in-Some-2-clause-exact : goal.returns-in-Some-2-clause-exact
returns-in-Some-2-clause-exact c = λ first fits.
    let line = c.args.line.now in
    let found = view c.in-Some.value in
    let read = rw c.in-Some.is at c.in_ok-value.ensures.value in
    let short : length line ≤ MAX_FIRST_LINE = omega arith in
    let yes : c.in_ok-has_unique_keys.field-0 ≡ true = search rules in
    let once = (c.in_ok-has_unique_keys.ensures.0 yes).1 in
    rw c.in-Some-2.is at (first-later line found read.0 read.1 (view c.in-Some-get.object.now)
    (sym c.in-Some-get.ensures) short once c.in_ok-segment.field-0 c.in_ok-segment.ensures.exact first fits)

pub returns-clause-exact : goal.returns-clause-exact
returns-clause-exact c = λ first fits.
    let line = c.args.line.now in
    let found = view c.in-Some.value in
    let read = rw c.in-Some.is at c.in_ok-value.ensures.value in
    let short : length line ≤ MAX_FIRST_LINE = omega arith in
    let yes : c.in_ok-has_unique_keys.field-0 ≡ true = search rules in
    let once = (c.in_ok-has_unique_keys.ensures.0 yes).1 in
    rw c.in-None.is at (first-later line found read.0 read.1 (view c.in-Some-get.object.now)
    (sym c.in-Some-get.ensures) short once c.in_ok-segment.field-0 c.in_ok-segment.ensures.exact first fits)
