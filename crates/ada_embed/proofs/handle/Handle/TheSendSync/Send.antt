-- A handle may go to another thread, since its kernel may.
use mir.Raw.{raw}
use denote.Memory.{lone}
use denote.Param.Send.{AllSend, IsSend, owning_send, struct_send, sendable}
use denote.Struct.Owning.{shape, fields, to}
use denote.Struct.Struct.{exits_of}
use Rattle.std_alloc.proofs.SendSync.{lies, quiet}
use Rattle.std.proofs.Crossing.{crosses, frees}
use Rattle.ada_embed.proofs.host_kernel.HostKernel.TheSendSync as KernelCrosses
use Rattle.ada_embed.specs.Sealed.{kernel_row}
use Rattle.ada_embed.specs.contracts.handle.Handle as Sealed

words : AllSend (fields Sealed.the_type)
words = (search sendable, (search (crosses, sendable) depth 20, tt))

pub send : IsSend Sealed.the_row
send = let O = Sealed.the_type in owning_send O words (λ d. (
  lies kernel_row KernelCrosses.the_send d.ptr d.home,
  frees.frees d.alloc (raw
      (lone kernel_row.mir)) d.ptr,
))
    (λ k. quiet (to O) (exits_of k (fields O)) ((struct_send (shape O) words).leaving k))
