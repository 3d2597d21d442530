-- One tick more.
use Rattle.std.proofs.Common.{◌∙◌, ℕ, ◌≤◌, ◌*◌, ◌/◌, arith}
use Rattle.std.proofs.Math.Nat.{mul-div-le, mul-le-mul_left}
use Rattle.frame_picture.specs.Axis.{tick_step, tick_text}
use Rattle.frame_picture.proofs.Drawn.{text_more}
use Rattle.frame_picture.proofs.axis.put_ticks.Goals as goal

-- a tick stands within the frame
pub put_tick-requires-clause-near : goal.put_tick-requires-clause-near
put_tick-requires-clause-near g c =
    let frame = c.args.scale.frame in
    let step = c.tick_step-step.result in
    let last : c.loop-i.i ≤ frame / step = omega arith in
    omega (arith, c.requires.short, mul-le-mul_left step last, mul-div-le frame step)

pub loop-i-preserved : goal.loop-i-preserved
loop-i-preserved g c = (
  text_more _ _ _ (λ (i : ℕ). tick_text c.args.scale c.args.depth (tick_step c.args.scale.frame * i)) c.loop-i.i
      c.loop-i.invariant.0 (rw c.tick_step-step.ensures.value at c.in_ok-put_tick.ensures.0),
  c.in_ok-put_tick.ensures.1 ∙ c.loop-i.invariant.1,
)
