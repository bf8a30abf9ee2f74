-- What a `ThreadsHandle` owns: the same as a `Box<Threads>`.
use base.Fml.{Fml}
use denote.RawPtr.{Ptr}
use denote.RattleType.{RattleType}
use Rattle.std.specs.Box.Ownership.{box_owns}
use Rattle.std.specs.Global.{Global}
use Rattle.std_heap.specs.contracts.GlobalAllocator.TheImpl.{ghosts}
use Rattle.ada_threads.specs.contracts.threads.Threads as T

abbrev pub threads_row : RattleType
threads_row = T.the_row

abbrev pub threads_owned : Global → Ptr → threads_row.Denot → Fml
threads_owned alloc = box_owns (ghosts.dealloc_token alloc) threads_row
