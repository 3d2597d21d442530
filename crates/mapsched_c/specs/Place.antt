-- What a place owns: what a box of a scheduler owns, or nothing.
use Rattle.std.specs.Prelude.{Option, None, Some}
use Rattle.std.specs.Coded.{coded_option}
use base.Fml.{Fml, ftrue}
use base.Stored.{Coded}
use denote.RawPtr.{Ptr}
use Rattle.std.specs.Box.Ownership.{box_owns}
use Rattle.std.specs.Global.{Global}
use Rattle.std_heap.specs.contracts.GlobalAllocator.TheImpl.{ghosts}
use Rattle.sched_history.specs.Machine.{Machine}
use Rattle.sched_history.specs.contracts.scheduler.Scheduler.{the_row}

-- the scheduler at the pointer, with the right to free it
abbrev pub place_owns : Global → Ptr → Option Machine → Fml
place_owns alloc at None = ftrue
place_owns alloc at (Some m) = box_owns (ghosts.dealloc_token alloc) the_row at m

-- how the machine of a place is stored among ghosts
abbrev pub machine_coded : Coded (Option Machine)
machine_coded = coded_option the_row.coded
