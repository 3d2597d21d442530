-- A flow more is gone through.
use Rattle.std.proofs.Common.{◌≡◌, ℕ, ◌+◌, ◌<◌, ◌⊎◌, refl, inl, inr, length, arith}
use Rattle.std.proofs.lemmas.Bool.{cases_eq}
use Rattle.std.proofs.lemmas.Option.{slice_get_read}
use Rattle.flow_book.specs.Entry.{live, IsSoundFlow}
use Rattle.flow_book.proofs.Queues.{put-among, pass-among, whole-among}
use Rattle.flow_book.proofs.InLine.{few-flows}
use Rattle.flow_book.proofs.Steps.{all-item}
use Rattle.flow_book.proofs.queue.queue_of.Goals as goal
use Rattle.flow_book.proofs.queue.queue_of.Goals.{then-waiting-gt0+in_ok-put_in_turn, else-waiting-gt0}

pub waiting_of-waiting-requires-clause-within : goal.waiting_of-waiting-requires-clause-within
waiting_of-waiting-requires-clause-within c =
    (all-item live c.args.flows.now c.loop-place.place c.at.result.now
    (omega (arith, c.loop-place-test.true))
    c.at.ensures (IsSoundFlow c.requires.0) c.requires.1.sound.each).within

pub waiting_of-waiting-requires-clause-place : goal.waiting_of-waiting-requires-clause-place
waiting_of-waiting-requires-clause-place c =
    omega (
      arith,
      c.loop-place-test.true,
      few-flows c.requires.0 c.args.flows.now c.requires.1.sound.ascending c.requires.1.sums,
    )

pub put_in_turn-requires : goal.put_in_turn-requires
put_in_turn-requires c = c.loop-place.invariant.ascending

-- the places up to this one are this one and those before it
only : (i k : ℕ) → k < i + 1 → (k ≡ i) ⊎ (k < i)
only i k lt = elim (cases_eq k i) [
  | inl same ↦ inl same
  | inr differ ↦ inr (omega arith)
]

pub loop-place-preserved : goal.loop-place-preserved
loop-place-preserved c =
    let items = c.args.flows.now in
    let i = c.loop-place.place in
    let f = c.at.result.now in
    let here = slice_get_read items (length items) i f refl (omega (arith, c.loop-place-test.true))
    c.at.ensures in
    elim c.if-waiting-gt0.branch [
      | then-waiting-gt0+in_ok-put_in_turn w ↦ rw (w.queue-is, w.in_ok-put_in_turn.ensures.put)
          (put-among c.requires.0 items c.requires.1 (λ k. k < i) (λ k. k < i + 1) c.loop-place.queue i f here
          (only i) (λ k lt. omega arith) c.loop-place.invariant
          c.waiting_of-waiting.result c.waiting_of-waiting.ensures.place c.waiting_of-waiting.ensures.turn
          c.waiting_of-waiting.ensures.wants c.waiting_of-waiting.ensures.sustained c.waiting_of-waiting.ensures.tier
          (λ lt. absurd (omega arith)) (omega arith))
      | else-waiting-gt0 w ↦ rw w.queue-is
          (pass-among c.requires.0 items c.requires.1 (λ k. k < i) (λ k. k < i + 1) c.loop-place.queue i f here
          (only i) (λ k lt. omega arith) c.loop-place.invariant
          (λ waits. absurd (omega (arith, c.waiting_of-waiting.ensures.wants, w.if-waiting-gt0.false))))
    ]

pub returns : goal.returns
returns c =
    whole-among c.args.flows.now (λ k. k < c.loop-place.place) c.loop-place.queue
    (λ k lt. omega (arith, c.loop-place-test.false)) c.loop-place.invariant
