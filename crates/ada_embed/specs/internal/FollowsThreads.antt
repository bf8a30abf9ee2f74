-- A table lent out of its handle.
use base.Fml.{Fml}
use denote.Ref.{MutBor}
use denote.Follow.{follows}
use Rattle.ada_embed.specs.declared.threads_handle.ThreadsHandle.{ThreadsHandle}
use Rattle.ada_embed.specs.contracts.threads_handle.ThreadsHandle as H
use Rattle.ada_embed.specs.SealedThreads.{threads_row}

-- h with w behind it
abbrev pub with_table : ThreadsHandle → threads_row.Denot → ThreadsHandle
with_table h w = record { ptr = h.ptr; alloc = h.alloc; home = w }

-- once the borrow r ends, the handle holds the last table written through r
abbrev pub threads_follow : MutBor ThreadsHandle → MutBor threads_row.Denot → Fml
threads_follow h r = follows H.the_row threads_row h.ghost_name r.ghost_name (with_table h.now)
