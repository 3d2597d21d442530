-- The flow at its place is put where its turn is.
use Rattle.std.proofs.Common.{◌≢◌, refl, length, arith}
use Rattle.std.proofs.lemmas.Bool.{cases_eq}
use Rattle.std.proofs.lemmas.Option.{slice_get_read}
use Rattle.flow_book.specs.Entry.{live, IsSoundFlow}
use Rattle.flow_book.proofs.InLine.{few-flows}
use Rattle.flow_book.proofs.Queues.{among-others, put-among, pass-among}
use Rattle.flow_book.proofs.Steps.{all-item}
use Rattle.flow_book.proofs.queue.put_again.Goals as goal

pub waiting_of-waiting-requires-clause-within : goal.waiting_of-waiting-requires-clause-within
waiting_of-waiting-requires-clause-within c =
    (all-item live c.args.flows.now c.args.place c.at.result.now c.requires.within c.at.ensures
    (IsSoundFlow c.requires.book.0) c.requires.book.1.sound.each).within

pub waiting_of-waiting-requires-clause-place : goal.waiting_of-waiting-requires-clause-place
waiting_of-waiting-requires-clause-place c =
    let book = c.requires.book in
    omega (arith, c.requires.within, few-flows book.0 c.args.flows.now book.1.sound.ascending book.1.sums)

pub returns-then-waiting-gt0 : goal.returns-then-waiting-gt0
returns-then-waiting-gt0 c =
    let place = c.args.place in
    let items = c.args.flows.now in
    let f = c.at.result.now in
    let before = c.requires.queue in
    let here = slice_get_read items (length items) place f refl c.requires.within c.at.ensures in
    let w = c.waiting_of-waiting in
    let moved = c.in_ok-move_to_turn.ensures before.0 before.2 in
    let others =
    among-others place before.0 items moved.others before.1 (rw w.ensures.place at moved.among) in
    rw moved.is (put-among c.requires.book.0 items c.requires.book.1 (λ other. other ≢ place) (λ other. Unit {0})
    moved.others place f here (λ k may. cases_eq k place) (λ k other. tt) others
    w.result w.ensures.place w.ensures.turn w.ensures.wants w.ensures.sustained w.ensures.tier (λ differ. differ refl) tt)

pub returns : goal.returns
returns c =
    let place = c.args.place in
    let items = c.args.flows.now in
    let f = c.at.result.now in
    let before = c.requires.queue in
    let here = slice_get_read items (length items) place f refl c.requires.within c.at.ensures in
    let others =
    among-others place before.0 items c.take_out.new.queue before.1 (c.take_out.ensures before.0 before.2) in
    pass-among c.requires.book.0 items c.requires.book.1 (λ other. other ≢ place) (λ other. Unit {0})
    c.take_out.new.queue place f here (λ k may. cases_eq k place) (λ k other. tt) others
    (λ waits. absurd (omega (arith, c.waiting_of-waiting.ensures.wants, c.if-waiting-gt0.false)))
