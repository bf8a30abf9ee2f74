use Rattle.std.proofs.Common.{◌≡◌, ◌∷◌, None, List, refl, sym, ap, ◌∙◌, subst}
use Rattle.ada_events.specs.declared.event.Event.TheVariants.{Aborted}
use Rattle.ada_events.specs.declared.names.TaskNo.{TaskNo}
use Rattle.ada_events.specs.declared.request.Request.TheVariants.{Abort}
use Rattle.ada_events.specs.Asks.{asked_event}
use Rattle.ada_events.specs.Lawful.{IsLawful}
use Rattle.ada_events.specs.Refusals.{refusal}
use Rattle.ada_kernel.specs.internal.Indexes.{IsIndexOf}
use Rattle.ada_kernel.proofs.Requests.{may_follow, has_begun}
use Rattle.ada_kernel.proofs.index.Index.begin_abort.Goals as goal

pub returns-clause-stands : goal.returns-clause-stands
unfolding asked_event
returns-clause-stands c =
    let old = c.args.journal.now.events in
    let request = Abort c.args.by c.args.tasks.now in
    let unrefused : refusal old request ≡ None =
    ap (λ (tasks : List TaskNo). refusal old (Abort c.args.by tasks)) (sym c.as_slice-named.ensures.value)
    ∙ ap (λ j. refusal j (Abort c.args.by c.as_slice-named.result.now)) (sym c.view.ensures) ∙ sym c.in_default.ensures in
    subst (IsIndexOf c.note_abort.new.self) (sym c.push_reserved.ensures.events)
    (rw c.in_ok-tasks.ensures.ok (c.note_abort.ensures c.args.by
    (subst (λ (tasks : List TaskNo). IsLawful (Aborted c.args.by tasks ∷ c.make_room.new.journal.events)) (sym c.as_slice-named.ensures.value)
    (may_follow old _ request _ unrefused c.in_ok-make_room.ensures.events refl c.requires.stands.kept.lawful c.requires.settled))))

pub returns-clause-ok : goal.returns-clause-ok
unfolding asked_event
returns-clause-ok c =
    let old = c.args.journal.now.events in
    let request = Abort c.args.by c.args.tasks.now in
    let unrefused : refusal old request ≡ None =
    ap (λ (tasks : List TaskNo). refusal old (Abort c.args.by tasks)) (sym c.as_slice-named.ensures.value)
    ∙ ap (λ j. refusal j (Abort c.args.by c.as_slice-named.result.now)) (sym c.view.ensures) ∙ sym c.in_default.ensures in
    has_begun c.args.journal.now c.make_room.new.journal c.push_reserved.new.self request _ unrefused c.in_ok-make_room.ensures.events
    (ap (Aborted c.args.by) (c.in_ok-tasks.ensures.ok ∙ c.as_slice-named.ensures.value))
    c.push_reserved.ensures.events c.in_ok-make_room.ensures.ok c.push_reserved.ensures.spare
