-- The starts are lawful at the nominal times of the placement.
use Rattle.std.proofs.Common.{◌≡◌, ℕ, ◌<◌, ◌-◌, ◌*◌, ◌/◌, ◌%◌, List, refl, ◌∙◌, subst, arith}
use Rattle.minislots.specs.declared.config.Config.{Config}
use Rattle.minislots.specs.Config.{IsLawful}
use Rattle.sched_calls.specs.declared.spec.FlowSpec.{FlowSpec}
use Rattle.sched_calls.specs.declared.placement.Placement.{Placement}
use Rattle.periodic.specs.declared.bits.Bits.{Bits}
use Rattle.periodic.specs.declared.search.Wanted.{Wanted}
use Rattle.periodic.specs.Placement.{Placed, phase_of, offset_of, IsPlacement}
use Rattle.periodic.specs.Rows.{AreRowsOf}
use Rattle.periodic.specs.Counts.{AreCounts}
use Rattle.periodic.specs.Search.{CanBeSought, IsWantedOf, AreStarts, HasRoomAt}
use Rattle.periodic.specs.Table.{AreSound}
use Rattle.periodic.proofs.Adopting.{placement-judged, judged-placement}
use Rattle.periodic.proofs.adopt.is_lawful.Goals as goal

pub returns-then-offset-from-clause-lawful : goal.returns-then-offset-from-clause-lawful
returns-then-offset-from-clause-lawful c = λ placed sound are counted yes.
    let config = c.args.config.now in
    let rows = c.args.rows.now in
    let spec = c.args.spec.now in
    let p : Placement = c.args.placement.now in
    let frame : c.from-frame.result ≡ config.frame = c.from-frame.ensures ∙ c.frame.ensures.value in
    let w = c.wanted_of-wanted.result in
    let wanted = c.wanted_of-wanted.ensures.value in
    let sought = c.wanted_of-wanted.ensures.sought in
    let phase = p.reference / c.from-frame.result % w.interval in
    let lt : phase < w.interval = omega (arith, sought.interval_positive) in
    let offset = p.reference % c.from-frame.result in
    let at : phase_of config spec p ≡ phase = rw (frame, wanted.interval) refl in
    let from : offset_of config p ≡ offset = rw frame refl in
    let each = rw c.as_slice.ensures at (c.are_starts.ensures.lawful yes) in
    placement-judged config placed rows c.args.counts.now.starts spec p c.args.next w c.wanted_of-wanted.ensures.lawful
    sound are counted sought wanted phase
    offset at from lt (omega arith) (subst (λ n. p.reference - c.args.next < w.interval * n) frame (omega arith))
    (omega arith) (c.if-not-has_room.ensures.room refl) each

-- a lawful placement has room, and its starts are lawful at its nominal times
judged : (config : Config) (placed : List Placed) (rows : List Bits) (counts : List ℕ) (spec : FlowSpec)
    (p : Placement) (next : ℕ) (w : Wanted) (frame : ℕ) → frame ≡ config.frame → IsLawful config
    → AreSound config placed → AreRowsOf config placed rows → AreCounts config placed counts → CanBeSought config w
    → IsWantedOf config spec w → IsPlacement config placed spec next p
    → HasRoomAt config counts w (p.reference / frame % w.interval)
    × AreStarts config rows w (p.reference / frame % w.interval) (p.reference % frame) p.starts
judged config placed rows counts spec p next w frame same lawful sound are counted sought wanted is =
    let phase = p.reference / frame % w.interval in
    let lt : phase < w.interval = omega (arith, sought.interval_positive) in
    let offset = p.reference % frame in
    let at : phase_of config spec p ≡ phase = rw (same, wanted.interval) refl in
    let from : offset_of config p ≡ offset = rw same refl in
    let all = judged-placement config placed rows counts spec p next w lawful sound are counted sought wanted phase
    offset at from lt is in (all.3, all.4)

pub returns-then-not-has_room-clause-unlawful : goal.returns-then-not-has_room-clause-unlawful
returns-then-not-has_room-clause-unlawful c = λ placed sound are counted no is.
    let wanted = c.wanted_of-wanted.ensures in
    let all = judged c.args.config.now placed c.args.rows.now c.args.counts.now.starts c.args.spec.now
    c.args.placement.now c.args.next c.wanted_of-wanted.result c.from-frame.result
    (c.from-frame.ensures ∙ c.frame.ensures.value) wanted.lawful sound are counted wanted.sought wanted.value is in
    c.if-not-has_room.ensures.full refl all.0

pub returns-then-offset-from-clause-unlawful : goal.returns-then-offset-from-clause-unlawful
returns-then-offset-from-clause-unlawful c = λ placed sound are counted no is.
    let wanted = c.wanted_of-wanted.ensures in
    let all = judged c.args.config.now placed c.args.rows.now c.args.counts.now.starts c.args.spec.now
    c.args.placement.now c.args.next c.wanted_of-wanted.result c.from-frame.result
    (c.from-frame.ensures ∙ c.frame.ensures.value) wanted.lawful sound are counted wanted.sought wanted.value is in
    c.are_starts.ensures.unlawful no (rw c.as_slice.ensures all.1)
