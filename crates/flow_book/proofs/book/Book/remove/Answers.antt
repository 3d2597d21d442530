-- The flows of other SIDs are left.
use Rattle.std.proofs.Common.{◌≡◌, ◌∙◌, sym, ap, map, filter, remove, not, ◌==◌}
use Rattle.flow_book.specs.declared.flow.Flow.{Flow}
use Rattle.flow_book.specs.Flows.{LiveFlow}
use Rattle.flow_book.specs.Entry.{live, room_in, IsSoundBook, KeepsSums}
use Rattle.flow_book.specs.Book.{Room, room_of}
use Rattle.flow_book.proofs.Admission.{room-found}
use Rattle.sched_calls.proofs.Removal.{map-filter, all-filter}
use Rattle.flow_book.proofs.Followed.{differ-out}
use Rattle.flow_book.proofs.Removal.{sound-filter, room-filter}
use Rattle.flow_book.proofs.Shifts.{filter-at}
use Rattle.flow_book.proofs.book.Book.remove.Goals as goal

-- the flows of other SIDs
left : (c : goal.After-leave)
    → c.remove.new.self ≡ filter (λ (f : Flow). not (f.sid == c.args.sid)) c.self.inside.flows
left c =
    let items = c.self.inside.flows in
    let stands = rw (← c.self.view_is) at c.place-place.ensures in
    c.remove.ensures
    ∙ sym (filter-at c.args.sid items c.place-place.result c.self.invariant.book.sound.ascending stands).1

pub invariant_of-self : goal.invariant_of-self
invariant_of-self c =
    let items = c.self.inside.flows in
    let sound : IsSoundBook c.self.inside.channel (map live (filter (λ (f : Flow). not (f.sid == c.args.sid)) items)) =
    rw (map-filter live (λ (f : LiveFlow). not (f.sid == c.args.sid)) items)
    (sound-filter c.self.inside.channel (λ f. not (f.sid == c.args.sid)) (map live items) c.self.invariant.book.sound) in
    rw (left c) (record {
      book = record {
        sound = sound;
        sums = all-filter (KeepsSums c.self.inside.channel) (λ f. not (f.sid == c.args.sid)) items
            c.self.invariant.book.sums;
      };
      order = λ known.
          let stands = rw (← c.self.view_is) at c.place-place.ensures in
          let out = filter-at c.args.sid items c.place-place.result c.self.invariant.book.sound.ascending stands in
          rw out.1 (c.leave.ensures items out.0 (c.self.invariant.order known));
      lined =
          let stands = rw (← c.self.view_is) at c.place-place.ensures in
          let out = filter-at c.args.sid items c.place-place.result c.self.invariant.book.sound.ascending stands in
          rw out.1 (c.follow.ensures (map live items) (map live (remove items c.place-place.result)) (λ known.
          differ-out c.self.inside.channel items c.place-place.result c.number_at-before.result c.self.invariant.book out.0
          (c.number_at-before.ensures known)) c.self.invariant.lined);
    })

pub returns-clause-removed : goal.returns-clause-removed
returns-clause-removed c =
    let items = c.self.inside.flows in
    rw (← c.self.view_is)
    (ap (map live) (left c) ∙ map-filter live (λ (f : LiveFlow). not (f.sid == c.args.sid)) items)

pub returns-clause-room : goal.returns-clause-room
returns-clause-room c = λ other differ.
    let items = c.self.inside.flows in
    let rooms = ap (map room_in) (left c) ∙ map-filter room_in (λ (r : Room). not (r.sid == c.args.sid)) items in
    rw (← c.self.view_is)
    (ap (room_of other) rooms ∙ ap room-found (room-filter c.args.sid other (map room_in items) differ))
