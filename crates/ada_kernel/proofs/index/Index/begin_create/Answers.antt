use Rattle.std.proofs.Common.{◌≡◌, None, List, refl, sym, ap, ◌∙◌}
use Rattle.ada_events.specs.declared.event.Event.TheVariants.{Created}
use Rattle.ada_events.specs.declared.names.Family.{Family}
use Rattle.ada_events.specs.declared.names.Master.{Master}
use Rattle.ada_events.specs.declared.request.Request.TheVariants.{Create}
use Rattle.ada_events.specs.Asks.{asked_event, asker}
use Rattle.ada_events.specs.Nests.{frame}
use Rattle.ada_events.specs.Refusals.{refusal}
use Rattle.ada_kernel.proofs.Requests.{may_note, has_begun, asker_there}
use Rattle.ada_kernel.proofs.index.Index.begin_create.Goals as goal

pub frame-under-requires : goal.frame-under-requires
unfolding asker
frame-under-requires c =
    let old = c.args.journal.now.events in
    let request = Create c.args.by c.args.master c.args.families.now in
    let unrefused : refusal old request ≡ None =
    ap (λ (families : List Family). refusal old (Create c.args.by c.args.master families)) (sym c.as_slice-listed.ensures.value)
    ∙ ap (λ j. refusal j (Create c.args.by c.args.master c.as_slice-listed.result.now)) (sym c.view.ensures) ∙ sym c.in_default.ensures in
    asker_there old _ request c.args.by.0 unrefused (c.view-2.ensures ∙ c.in_ok-make_room.ensures.events) refl

pub note_creation-requires-clause-may : goal.note_creation-requires-clause-may
unfolding asked_event
note_creation-requires-clause-may c =
    let old = c.args.journal.now.events in
    let request = Create c.args.by c.args.master c.args.families.now in
    let unrefused : refusal old request ≡ None =
    ap (λ (families : List Family). refusal old (Create c.args.by c.args.master families)) (sym c.as_slice-listed.ensures.value)
    ∙ ap (λ j. refusal j (Create c.args.by c.args.master c.as_slice-listed.result.now)) (sym c.view.ensures) ∙ sym c.in_default.ensures in
    may_note old _ request _ unrefused c.in_ok-make_room.ensures.events
    (ap (λ (families : List Family). Created c.args.by c.frame-under.result c.args.master families)
    (c.in_ok-declared.ensures.ok ∙ c.as_slice-listed.ensures.value)
    ∙ ap (λ (under : Master). Created c.args.by under c.args.master c.args.families.now)
    (c.frame-under.ensures ∙ ap (λ j. frame j c.args.by.0) (c.view-2.ensures ∙ c.in_ok-make_room.ensures.events)))
    _ c.requires

pub returns-clause-ok : goal.returns-clause-ok
unfolding asked_event
returns-clause-ok c =
    let old = c.args.journal.now.events in
    let request = Create c.args.by c.args.master c.args.families.now in
    let unrefused : refusal old request ≡ None =
    ap (λ (families : List Family). refusal old (Create c.args.by c.args.master families)) (sym c.as_slice-listed.ensures.value)
    ∙ ap (λ j. refusal j (Create c.args.by c.args.master c.as_slice-listed.result.now)) (sym c.view.ensures) ∙ sym c.in_default.ensures in
    has_begun c.args.journal.now c.make_room.new.journal c.push_reserved.new.self request _ unrefused c.in_ok-make_room.ensures.events
    (ap (λ (families : List Family). Created c.args.by c.frame-under.result c.args.master families)
    (c.in_ok-declared.ensures.ok ∙ c.as_slice-listed.ensures.value)
    ∙ ap (λ (under : Master). Created c.args.by under c.args.master c.args.families.now)
    (c.frame-under.ensures ∙ ap (λ j. frame j c.args.by.0) (c.view-2.ensures ∙ c.in_ok-make_room.ensures.events)))
    c.push_reserved.ensures.events c.in_ok-make_room.ensures.ok c.push_reserved.ensures.spare
