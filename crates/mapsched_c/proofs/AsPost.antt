-- A post and its parts own what a box of a worker owns.
use mir.Syntax.{impl, tnil, dnil}
use mathlib.Core.List.{[]}
use denote.Signature.{Slot, plain}
use Rattle.std_alloc.proofs.BoxSteps.Form.{Bx}
use Rattle.std_heap.specs.contracts.Global as Heap
use Rattle.std_heap.specs.contracts.GlobalAllocator.TheImpl.{ghosts, dict}
use Rattle.std_heap.proofs.Global.TheLaws as heap
use Rattle.worker_sched.specs.contracts.worker.Worker as Worker
use Rattle.worker_sched.proofs.worker.Worker.TheLaws as worker
use Rattle.mapsched_c.specs.contracts.place.parts.Parts as Parts
use Rattle.mapsched_c.specs.contracts.post.Post as Post

-- the box, with its allocator
abbrev pub E : Bx
E = record {
  row = Worker.the_row;
  laws = worker.the_row_laws;
  al = record { row = Heap.the_row; laws = heap.the_row_laws; g = ghosts; d = dict; drops = impl [] tnil dnil };
}

-- parts, by value
abbrev pub FromParts : Slot 0
FromParts = plain (λ _. Parts.the_row Worker.the_row Heap.the_row ghosts)

-- a post, by value
abbrev pub FromPost : Slot 0
FromPost = plain (λ _. Post.the_row)
