-- What a post owns may go to another thread, since a worker and the right to free its memory may.
use mir.Raw.{raw}
use base.Shift.{Keyless}
use denote.Memory.{lone}
use denote.Param.Send.{IsSend, AllSend, owning_send, struct_send, sendable}
use denote.RawPtr.{Ptr}
use denote.Struct.Owning.{shape, fields, to}
use denote.Struct.Struct.{exits_of}
use Rattle.std.specs.Global.{Global}
use Rattle.std.specs.Prelude.{Option, None, Some}
use Rattle.std.proofs.Crossing as heap
use Rattle.std_alloc.proofs.SendSync.{quiet, lies}
use Rattle.std_heap.proofs.Global.TheSendSync as handle
use Rattle.worker_sched.specs.Worker.{WorkerState}
use Rattle.mapsched_c.specs.Post.{post_owns}
use Rattle.worker_sched.specs.contracts.worker.Worker as Worker
use Rattle.worker_sched.proofs.worker.Worker.TheSendSync.{the_send as worker}
use Rattle.mapsched_c.specs.contracts.post.Post.{the_row, the_type}

crosses : (alloc : Global) (at : Ptr) (o : Option WorkerState) → Keyless (post_owns alloc at o)
crosses alloc at None = tt
crosses alloc at (Some m) = (lies Worker.the_row worker at m, heap.frees.frees alloc (raw (lone Worker.the_row.mir)) at)

pub send : IsSend the_row
send =
    let all : AllSend (fields the_type) = (search sendable, (handle.the_field_send, tt)) in
    owning_send the_type all (λ d. crosses d.alloc d.at d.worker)
    (λ k. quiet (to the_type) (exits_of k (fields the_type)) ((struct_send (shape the_type) all).leaving k))
