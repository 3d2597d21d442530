-- The flow at the place of the SID is the live flow, which is sound and keeps its sums.
use Rattle.flow_book.proofs.Places.{StandsAt, placed}
use Rattle.flow_book.proofs.Changes.{placed-is_sound}
use Rattle.flow_book.proofs.Sums.{placed-sums}
use Rattle.flow_book.proofs.book.Book.at.Goals as goal

-- it stands at its place
stands : (c : goal.After-at) → StandsAt c.args.sid c.self.inside.flows c.place.result c.at.result.now
stands c =
    placed c.args.sid c.self.inside.flows c.place.result c.at.result.now
    (rw (← c.self.view_is) at c.place.ensures) c.at.ensures

pub returns-clause-found : goal.returns-clause-found
returns-clause-found c = rw (← c.self.view_is) (stands c).found

pub returns-clause-sound : goal.returns-clause-sound
returns-clause-sound c =
    rw (← c.self.view_is)
    (placed-is_sound c.self.inside.channel c.args.sid c.self.inside.flows c.place.result c.at.result.now
    c.self.invariant.book.sound (stands c))

pub returns-clause-sums : goal.returns-clause-sums
returns-clause-sums c =
    rw (← c.self.view_is)
    (placed-sums c.self.inside.channel c.args.sid c.self.inside.flows c.place.result c.at.result.now
    c.self.invariant.book (stands c))
