-- What a place owns may go to another thread, since a scheduler and the right to free its memory may.
use mir.Raw.{raw}
use base.Shift.{Keyless}
use denote.Memory.{lone}
use denote.Param.Send.{IsSend, AllSend, owning_send, struct_send, sendable}
use denote.RawPtr.{Ptr}
use denote.Struct.Owning.{shape, fields, to}
use denote.Struct.Struct.{exits_of}
use Rattle.std.specs.Global.{Global}
use Rattle.std.specs.Prelude.{Option, None, Some}
use Rattle.std.proofs.Crossing as heap
use Rattle.std_alloc.proofs.SendSync.{quiet, lies}
use Rattle.std_heap.proofs.Global.TheSendSync as handle
use Rattle.sched_history.specs.Machine.{Machine}
use Rattle.mapsched_c.specs.Place.{place_owns}
use Rattle.sched_history.specs.contracts.scheduler.Scheduler as Scheduler
use Rattle.sched_history.proofs.scheduler.Scheduler.TheSendSync.{the_send as scheduler}
use Rattle.mapsched_c.specs.contracts.place.Place.{the_row, the_type}

crosses : (alloc : Global) (at : Ptr) (o : Option Machine) → Keyless (place_owns alloc at o)
crosses alloc at None = tt
crosses alloc at (Some m) = (
  lies Scheduler.the_row scheduler at m,
  heap.frees.frees alloc
      (raw (lone Scheduler.the_row.mir)) at,
)

pub send : IsSend the_row
send =
    let all : AllSend (fields the_type) = (search sendable, (handle.the_field_send, tt)) in
    owning_send the_type all (λ d. crosses d.alloc d.at d.machine)
    (λ k. quiet (to the_type) (exits_of k (fields the_type)) ((struct_send (shape the_type) all).leaving k))
