-- A place and its parts own what a box of a scheduler owns.
use mir.Syntax.{impl, tnil, dnil}
use mathlib.Core.Bool.{Bool, true, false, ◌&&◌}
use mathlib.Core.List.{[]}
use lib.Dec.{T}
use mir.Val.{Val, vstruct, vcons, vnil}
use denote.Signature.{Slot, plain}
use Rattle.std_alloc.proofs.BoxSteps.Form.{Bx}
use Rattle.std_heap.specs.contracts.Global as Heap
use Rattle.std_heap.specs.contracts.GlobalAllocator.TheImpl.{ghosts, dict}
use Rattle.std_heap.proofs.Global.TheLaws as heap
use Rattle.sched_history.specs.contracts.scheduler.Scheduler as Scheduler
use Rattle.sched_history.proofs.scheduler.Scheduler.TheLaws as scheduler
use Rattle.mapsched_c.specs.contracts.place.parts.Parts as Parts
use Rattle.mapsched_c.specs.contracts.place.Place as Place

-- the box, with its allocator
abbrev pub E : Bx
E = record {
  row = Scheduler.the_row;
  laws = scheduler.the_row_laws;
  al = record { row = Heap.the_row; laws = heap.the_row_laws; g = ghosts; d = dict; drops = impl [] tnil dnil };
}

-- parts, by value
abbrev pub FromParts : Slot 0
FromParts = plain (λ _. Parts.the_row Scheduler.the_row Heap.the_row ghosts)

-- a place, by value
abbrev pub FromPlace : Slot 0
FromPlace = plain (λ _. Place.the_row)

-- a struct of two fields, as the machine has it
abbrev pub both : Val → Val → Val
both v w = vstruct (vcons v (vcons w vnil))

-- it is of its type where both fields are
pub both_tt : (x y : Bool) → T x → T y → T (x && (y && true))
both_tt true true s t = tt
both_tt true false s t = absurd t
both_tt false y s t = absurd s
