-- A handle may go to another thread, since its table may.
use mir.Raw.{raw}
use denote.Memory.{lone}
use denote.Param.Send.{AllSend, IsSend, owning_send, struct_send, sendable}
use denote.Struct.Owning.{shape, fields, to}
use denote.Struct.Struct.{exits_of}
use Rattle.std_alloc.proofs.SendSync.{lies, quiet}
use Rattle.std.proofs.Crossing.{crosses, frees}
use Rattle.ada_threads.proofs.threads.Threads.TheSendSync as ThreadsCross
use Rattle.ada_embed.specs.SealedThreads.{threads_row}
use Rattle.ada_embed.specs.contracts.threads_handle.ThreadsHandle as Sealed

words : AllSend (fields Sealed.the_type)
words = (search sendable, (search (crosses, sendable) depth 20, tt))

pub send : IsSend Sealed.the_row
send = let O = Sealed.the_type in owning_send O words (λ d. (
  lies threads_row ThreadsCross.the_send d.ptr d.home,
  frees.frees d.alloc (raw
      (lone threads_row.mir)) d.ptr,
))
    (λ k. quiet (to O) (exits_of k (fields O)) ((struct_send (shape O) words).leaving k))
