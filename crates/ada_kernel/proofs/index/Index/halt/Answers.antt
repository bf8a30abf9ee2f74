use Rattle.std.proofs.Common.{◌≡◌, ℕ, None, ◌∷◌, sym, subst, rules}
use Rattle.ada_events.specs.declared.event.Event.TheVariants.{Halted}
use Rattle.ada_step_laws.specs.declared.row.Row.TheVariants.{Halting}
use Rattle.ada_step_laws.specs.Rows.{step_at}
use Rattle.ada_kernel.specs.internal.Indexes.{IsIndexOf}
use Rattle.ada_kernel.proofs.Spent.{halted_no_more}
use Rattle.ada_kernel.proofs.index.Index.halt.Goals as goal

pub returns : goal.returns
returns c =
    let before = c.args.journal.now.events in
    let task = c.in-Some.task in (
      search rules,
      subst (IsIndexOf c.drop_key.new.self) (sym c.push_reserved.ensures.events)
          (c.drop_key.ensures _ c.note_halt.ensures
          (subst (λ (key : ℕ). step_at (Halted task ∷ before) Halting key ≡ None) c.in-Some.ensures.some (halted_no_more before task))),
    )
