-- A box behind a pointer may go to another thread, since what lies in it may.
use mir.Raw.{raw}
use base.Shift.{Keyless}
use denote.Memory.{lone}
use denote.Param.{param}
use denote.Param.Send.{AllSend, IsSend, owning_send, param_send, sendable, struct_send}
use denote.RawPtr.{Ptr}
use denote.Struct.Owning.{fields, shape, to}
use denote.Struct.Struct.{exits_of}
use Rattle.std.proofs.Crossing.{frees}
use Rattle.std.specs.declared.option.Option.{Option}
use Rattle.std.specs.declared.option.Option.TheVariants.{None, Some}
use Rattle.std_alloc.proofs.SendSync.{lies, quiet}
use Rattle.recycler_c.specs.Boxed.{boxed, the_heap}
use Rattle.recycler_c.specs.contracts.end.End as ends
use Rattle.recycler_c.specs.contracts.owned.Owned.{the_row, the_type}
use Rattle.recycler_c.specs.declared.end.End.{End}
use Rattle.recycler_c.proofs.Sends.{end_send}

box_keyless : (p : Ptr) (held : Option End) → Keyless (boxed p held)
box_keyless p None = tt
box_keyless p (Some x) = let R = param 0 ends.the_row in (lies R (param_send 0 ends.the_row end_send) p x, frees.frees the_heap (raw (lone R.mir)) p)

each : AllSend (fields the_type)
each = (search sendable, tt)

pub send : IsSend the_row
send = owning_send the_type each (λ d. box_keyless d.at d.held) (λ k. quiet (to the_type) (exits_of k (fields the_type)) ((struct_send (shape the_type) each).leaving k))
