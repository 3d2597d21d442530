-- What a post owns: what a box of a worker owns, or nothing.
use Rattle.std.specs.Prelude.{Option, None, Some}
use Rattle.std.specs.Coded.{coded_option}
use base.Fml.{Fml, ftrue}
use base.Stored.{Coded}
use denote.RawPtr.{Ptr}
use Rattle.std.specs.Box.Ownership.{box_owns}
use Rattle.std.specs.Global.{Global}
use Rattle.std_heap.specs.contracts.GlobalAllocator.TheImpl.{ghosts}
use Rattle.worker_sched.specs.Worker.{WorkerState}
use Rattle.worker_sched.specs.contracts.worker.Worker.{the_row}

-- the worker at the pointer, with the right to free it
abbrev pub post_owns : Global → Ptr → Option WorkerState → Fml
post_owns alloc at None = ftrue
post_owns alloc at (Some w) = box_owns (ghosts.dealloc_token alloc) the_row at w

-- how the worker of a post is stored among ghosts
abbrev pub worker_coded : Coded (Option WorkerState)
worker_coded = coded_option the_row.coded
