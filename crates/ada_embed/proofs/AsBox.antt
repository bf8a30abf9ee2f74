-- The seal and its parts own what a box at the same types owns.
use mir.Syntax.{impl, tnil, dnil}
use mathlib.Core.List.{[]}
use denote.Signature.{Slot, plain}
use Rattle.std_alloc.proofs.BoxSteps.Form.{Bx}
use Rattle.std_heap.specs.contracts.Global as Heap
use Rattle.std_heap.specs.contracts.GlobalAllocator.TheImpl.{ghosts, dict}
use Rattle.std_heap.proofs.Global.TheLaws as heap
use Rattle.ada_embed.specs.Sealed.{kernel_row}
use Rattle.ada_embed.proofs.host_kernel.HostKernel.TheLaws as home
use Rattle.ada_embed.specs.contracts.handle.Handle as Sealed

abbrev pub E : Bx
E = record {
  row = kernel_row;
  laws = home.the_row_laws;
  al = record {
    row = Heap.the_row;
    laws = heap.the_row_laws;
    g = ghosts;
    d = dict;
    drops = impl []
        tnil dnil;
  };
}

abbrev pub FromSeal : Slot 0
FromSeal = plain (λ _. Sealed.the_row)
