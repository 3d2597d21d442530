-- What becomes of the flows of a book when one of them is lent.
use Rattle.std.specs.Prelude.{ℕ, List, slice_set}
use Rattle.std.specs.Borrow.{Lends, MutBor, Fml}
use Rattle.flow_book.specs.declared.flow.Flow.{Flow}
use Rattle.flow_book.specs.contracts.flow.Flow as flow
use Rattle.flow_book.specs.contracts.flows.Flows as flows

-- the flows end with the flow at this place as the borrower leaves it, and with the others as they were
abbrev pub LendsFlow : MutBor (List Flow) → ℕ → MutBor Flow → Fml
LendsFlow s place r = Lends flows.the_row flow.the_row s r (slice_set s.now place)
