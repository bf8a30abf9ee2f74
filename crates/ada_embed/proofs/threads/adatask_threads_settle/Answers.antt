use Rattle.std.proofs.Common.{pos, refl, sym, subst, ◌∙◌}
use Rattle.ada_threads.specs.Table.{Table}
use Rattle.ada_embed.specs.Threads as spec
use Rattle.ada_embed.specs.declared.host_kernel.HostKernel.{HostKernel}
use Rattle.ada_embed.specs.declared.host_kernel.HostKernel.TheVariants.{Lasting}
use Rattle.ada_embed.proofs.threads.adatask_threads_settle.Goals as goal

pub returns-in-Lasting-clause-settled : goal.returns-in-Lasting-clause-settled
returns-in-Lasting-clause-settled c =
    subst (λ (k : HostKernel). spec.IsSettledBy k (pos 0) c.args.t.now.home c.settle.new.self) (sym c.in-Lasting.is ∙ c.kernel.ensures.value)
    (subst (λ (t : Table). spec.IsSettledBy (Lasting c.in-Lasting.kernel) (pos 0) t c.settle.new.self) c.threads.ensures.value
    (refl, (c.settle.ensures.marks, c.settle.ensures.stepped, c.settle.ensures.others)))
