-- The new flow stands in order of SID, is sound and keeps its sums.
use Rattle.std.proofs.Common.{◌≡◌, ℕ, ◌≤◌, ◌∙◌, ap, map, length, not, nat_lt, arith}
use Rattle.std.specs.List.{position_or_len}
use Rattle.std.proofs.lemmas.List.Sums.{prefix_len-le-length}
use Rattle.minislots.specs.declared.config.Config.{Config}
use Rattle.flow_book.specs.declared.flow.Flow.{Flow}
use Rattle.sched_calls.specs.declared.spec.FlowSpec.{FlowSpec}
use Rattle.flow_book.specs.Flows.{LiveFlow, outstanding}
use Rattle.flow_book.specs.Entry.{live, IsSoundFlow, KeepsSums}
use Rattle.flow_book.specs.Book.{new_flow, with_flow}
use Rattle.sched_calls.proofs.Insertion.{insert-put_in}
use Rattle.flow_book.proofs.Admission.{sound-with_flow, room-insert}
use Rattle.flow_book.specs.Shown.{waits}
use Rattle.flow_book.proofs.Followed.{numbers-insert}
use Rattle.flow_book.proofs.InLine.{few-flows}
use Rattle.flow_book.proofs.Sums.{all-insert}
use Rattle.flow_book.proofs.book.Book.admit.Goals as goal

new-sound : (c : Config) (sid : ℕ) (spec : FlowSpec) → IsSoundFlow c (new_flow sid spec)
new-sound c sid spec = record {
  within = omega arith;
  kept = λ positive i j le lt. absurd (omega arith);
  peak_kept = λ positive i j le lt. absurd (omega arith);
  reserved_kept = λ positive i j le lt. absurd (omega arith);
}

pub place_above-place-requires : goal.place_above-place-requires
place_above-place-requires c = c.self.invariant.book.sound.ascending

pub make_way-requires : goal.make_way-requires
make_way-requires c = λ known. (
  c.self.inside.flows,
  rw c.in_ok-make_room.ensures (c.self.invariant.order known),
  omega (
    arith,
    few-flows c.self.inside.channel c.self.inside.flows c.self.invariant.book.sound.ascending
        c.self.invariant.book.sums,
  ),
)

pub returns-clause-ok : goal.returns-clause-ok
returns-clause-ok c =
    let items = c.self.inside.flows in
    let place : c.place_above-place.result ≡ position_or_len (λ f. nat_lt c.args.sid f.sid) items =
    c.place_above-place.ensures.place in
    let e : Flow = c.open-flow.result in
    let fresh : live e ≡ new_flow c.args.sid c.args.spec = c.open-flow.ensures.live in
    let same : e.sid ≡ c.args.sid = ap (λ (f : LiveFlow). f.sid) fresh in
    let place : c.place_above-place.result ≡ position_or_len (λ f. nat_lt e.sid f.sid) items = rw same place in
    rw (← c.self.view_is, c.in_ok-insert.ensures.ok, place) (insert-put_in live (λ f. f.sid) e items
    ∙ ap (λ f. with_flow f (map live items)) fresh)

pub invariant_of-self-2 : goal.invariant_of-self-2
invariant_of-self-2 c =
    let items = c.self.inside.flows in
    let config = c.self.inside.channel in
    let flows = rw (← c.self.view_is) at (returns-clause-ok c) in
    let none = rw (← c.self.view_is) at c.requires in
    let place : c.place_above-place.result ≡ position_or_len (λ f. nat_lt c.args.sid f.sid) items =
    c.place_above-place.ensures.place in
    let within : c.place_above-place.result ≤ length items =
    omega (arith, place, prefix_len-le-length (λ (f : Flow). not (nat_lt c.args.sid f.sid)) items) in
    record {
      order = λ known. rw c.in_ok-insert.ensures.ok (c.make_way.ensures items c.open-flow.result known
          (rw c.in_ok-make_room.ensures (c.self.invariant.order known)) within
          (ap outstanding c.open-flow.ensures.live));
      lined = rw (
        c.in_ok-insert.ensures.ok,
        numbers-insert c.open-flow.result (ap waits c.open-flow.ensures.live) items
            c.place_above-place.result,
      ) c.self.invariant.lined;
      book = record {
        sound = rw flows (sound-with_flow config (new_flow c.args.sid c.args.spec) (map live items) none
            (new-sound config c.args.sid c.args.spec) c.self.invariant.book.sound);
        sums = rw c.in_ok-insert.ensures.ok (all-insert (KeepsSums config) items c.place_above-place.result
            c.open-flow.result c.self.invariant.book.sums (rw c.config.ensures at c.open-flow.ensures.sums));
      };
    }

pub returns-clause-room : goal.returns-clause-room
returns-clause-room c =
    let none = rw (← c.self.view_is) at c.requires in
    let same : c.open-flow.result.sid ≡ c.args.sid = ap (λ (f : LiveFlow). f.sid) c.open-flow.ensures.live in
    rw (← c.self.view_is, c.in_ok-insert.ensures.ok) (room-insert c.open-flow.result c.self.inside.flows
    c.place_above-place.result (rw same none))
