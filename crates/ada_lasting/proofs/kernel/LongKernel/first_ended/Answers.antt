use Rattle.std.proofs.Common.{◌≡◌, ◌⊎◌, [], ap, ◌∙◌, subst, inl, inr}
use Rattle.ada_events.specs.Search.{first_below}
use Rattle.ada_events.specs.Tasks.{task_count}
use Rattle.ada_laws.proofs.asking.LimitLaws.{tasks_are_few}
use Rattle.ada_lasting.specs.Following.{Long, before_shown}
use Rattle.ada_lasting.specs.internal.Ended.{ended_in, newly_ended}
use Rattle.ada_lasting.proofs.Ends.{first_unflagged}
use Rattle.ada_lasting.proofs.kernel.LongKernel.first_ended.Goals as goal

pub returns : goal.returns
returns c =
    let kernel : Long = c.args.self.now in
    let known : (kernel.group ≡ []) ⊎ (c.self.inside.ended ≡ ended_in (before_shown kernel.present kernel)) =
    subst (λ (k : Long). (k.group ≡ []) ⊎ (c.self.inside.ended ≡ ended_in (before_shown k.present k))) c.self.view_is c.self.invariant.2.before in
    let right : c.self.inside.ended ≡ ended_in (before_shown kernel.present kernel) =
    elim known [ inl nothing ↦ absurd (c.requires nothing) | inr is ↦ is ] in
    c.first_ended.ensures
    ∙ (ap (λ (k : Long). first_below (newly_ended c.self.inside.ended k.present c.args.from.0) (task_count k.present)) c.self.view_is
    ∙ first_unflagged c.self.inside.ended (before_shown kernel.present kernel) kernel.present c.args.from.0 (task_count kernel.present) right
    (tasks_are_few kernel.present c.known.ensures.lawful))
