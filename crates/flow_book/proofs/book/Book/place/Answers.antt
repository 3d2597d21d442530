-- The flows of the book ascend.
use Rattle.flow_book.proofs.book.Book.place.Goals as goal

pub place_of-requires-clause-ascending : goal.place_of-requires-clause-ascending
place_of-requires-clause-ascending c = c.self.invariant.book.sound.ascending

pub place_of-requires-clause-live : goal.place_of-requires-clause-live
place_of-requires-clause-live c = rw (← c.self.view_is) at c.requires

pub returns : goal.returns
returns c = rw (← c.self.view_is) c.place_of.ensures
