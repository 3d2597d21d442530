-- In a list by SID each flow is the one of its SID.
use Rattle.std.proofs.Common.{◌≡◌, ◌<◌, ◌∙◌, ap, sym, map, length, get_or}
use Rattle.std.proofs.Math.ListN.{get_or-map}
use Rattle.flow_book.specs.Flows.{LiveFlow, flow_of}
use Rattle.flow_book.specs.Entry.{live}
use Rattle.flow_book.proofs.Places.{flow_of-at}
use Rattle.flow_book.proofs.book.Book.sid_at.Goals as goal

pub returns-clause-found : goal.returns-clause-found
returns-clause-found c =
    let items = c.self.inside.flows in
    let flow = c.at.result.now in
    let within : c.args.index < length (map live items) = rw (← c.self.view_is) at c.requires in
    let at : live flow ≡ get_or (map live items) c.args.index (live flow) =
    ap live c.at.ensures ∙ sym (get_or-map live items c.args.index flow) in
    rw (← c.self.view_is) (ap (λ (f : LiveFlow). flow_of f.sid (map live items)) at
    ∙ flow_of-at (map live items) c.args.index (live flow) c.self.invariant.book.sound.ascending within)
