use Rattle.std.proofs.Common.{◌≡◌, None, List, sym, ap, ◌∙◌}
use Rattle.ada_events.specs.declared.event.Event.TheVariants.{Started}
use Rattle.ada_events.specs.declared.names.TaskNo.{TaskNo}
use Rattle.ada_events.specs.declared.request.Request.TheVariants.{Activate}
use Rattle.ada_events.specs.Asks.{asked_event}
use Rattle.ada_events.specs.Refusals.{refusal}
use Rattle.ada_kernel.proofs.Requests.{may_note, has_begun}
use Rattle.ada_kernel.proofs.index.Index.begin_activate.Goals as goal

pub note_start-requires : goal.note_start-requires
unfolding asked_event
note_start-requires c =
    let old = c.args.journal.now.events in
    let request = Activate c.args.by c.args.tasks.now in
    let unrefused : refusal old request ≡ None =
    ap (λ (tasks : List TaskNo). refusal old (Activate c.args.by tasks)) (sym c.as_slice-named.ensures.value)
    ∙ ap (λ j. refusal j (Activate c.args.by c.as_slice-named.result.now)) (sym c.view.ensures) ∙ sym c.in_default.ensures in
    may_note old _ request _ unrefused c.in_ok-make_room.ensures.events
    (ap (Started c.args.by) c.as_slice-named.ensures.value) _ c.requires

pub returns-clause-ok : goal.returns-clause-ok
unfolding asked_event
returns-clause-ok c =
    let old = c.args.journal.now.events in
    let request = Activate c.args.by c.args.tasks.now in
    let unrefused : refusal old request ≡ None =
    ap (λ (tasks : List TaskNo). refusal old (Activate c.args.by tasks)) (sym c.as_slice-named.ensures.value)
    ∙ ap (λ j. refusal j (Activate c.args.by c.as_slice-named.result.now)) (sym c.view.ensures) ∙ sym c.in_default.ensures in
    has_begun c.args.journal.now c.make_room.new.journal c.push_reserved.new.self request _ unrefused c.in_ok-make_room.ensures.events
    (ap (Started c.args.by) (c.in_ok-tasks.ensures.ok ∙ c.as_slice-named.ensures.value))
    c.push_reserved.ensures.events c.in_ok-make_room.ensures.ok c.push_reserved.ensures.spare
