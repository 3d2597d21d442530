-- A Reserve is kept behind the others.
use Rattle.std.proofs.Common.{length, refl, ap, arith}
use Rattle.minislots.proofs.Bounds.{bounds_of}
use Rattle.sched_history.proofs.steps.Passed.{passed-reserve}
use Rattle.sched_history.proofs.state.Moves.{IsStateAfter-reserved}
use Rattle.sched_history.proofs.scheduler.state.State.reserve.Goals as goal

pub overflow_cast-slots : goal.overflow_cast-slots
overflow_cast-slots c =
    let s = c.args.self.now in
    let opens = c.requires.1 in
    omega (
      arith,
      (passed-reserve s.config c.requires.0 c.args.usage c.args.slots opens.unrefused).within,
      (bounds_of s.config opens.is_after.lawful).frame_most,
    )

pub add-requires : goal.add-requires
add-requires c =
    let s = c.args.self.now in
    let opens = c.requires.1 in
    omega (
      arith,
      (passed-reserve s.config c.requires.0 c.args.usage c.args.slots opens.unrefused).room,
      ap (λ rs. length rs) opens.is_after.reserves,
    )

pub returns : goal.returns
returns c = λ x opens.
    let s = c.args.self.now in
    rw (c.add.ensures) (record {
      config = refl;
      answers = refl;
      encodable = tt;
      is_after = IsStateAfter-reserved s x opens.is_after c.args.usage c.args.slots;
    })
