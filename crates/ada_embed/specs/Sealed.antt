-- What a `Handle` owns: the same as a `Box<HostKernel>`.
use base.Fml.{Fml}
use denote.RawPtr.{Ptr}
use denote.RattleType.{RattleType}
use Rattle.std.specs.Box.Ownership.{box_owns}
use Rattle.std.specs.Global.{Global}
use Rattle.std_heap.specs.contracts.GlobalAllocator.TheImpl.{ghosts}
use Rattle.ada_embed.specs.contracts.host_kernel.HostKernel as K

abbrev pub kernel_row : RattleType
kernel_row = K.the_row

abbrev pub handle_owns : Global → Ptr → kernel_row.Denot → Fml
handle_owns alloc = box_owns (ghosts.dealloc_token alloc) kernel_row
