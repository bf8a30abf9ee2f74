use Rattle.std.proofs.Common.{◌≡◌, None, refl, sym, ap, ◌∙◌, subst}
use Rattle.ada_events.specs.declared.event.Event.TheVariants.{Opened}
use Rattle.ada_events.specs.declared.request.Request.TheVariants.{Open}
use Rattle.ada_events.specs.Asks.{asked_event, asker}
use Rattle.ada_events.specs.Nests.{frame}
use Rattle.ada_events.specs.Refusals.{refusal}
use Rattle.ada_kernel.specs.internal.Indexes.{IsIndexOf}
use Rattle.ada_kernel.proofs.Requests.{may_follow, may_note, has_begun, asker_there}
use Rattle.ada_kernel.proofs.index.Index.begin_open.Goals as goal

pub frame-under-requires : goal.frame-under-requires
unfolding asker
frame-under-requires c =
    let old = c.args.journal.now.events in
    let request = Open c.args.by in
    let unrefused : refusal old request ≡ None = ap (λ j. refusal j request) (sym c.view.ensures) ∙ sym c.in_default.ensures in
    asker_there old _ request c.args.by.0 unrefused (c.view-2.ensures ∙ c.in_ok-make_room.ensures.events) refl

pub note_opening-requires : goal.note_opening-requires
unfolding asked_event
note_opening-requires c =
    let old = c.args.journal.now.events in
    let request = Open c.args.by in
    let unrefused : refusal old request ≡ None = ap (λ j. refusal j request) (sym c.view.ensures) ∙ sym c.in_default.ensures in (
      frame old c.args.by.0,
      may_note old _ request _ unrefused c.in_ok-make_room.ensures.events refl _ c.requires,
    )

pub returns-clause-stands : goal.returns-clause-stands
unfolding asked_event
returns-clause-stands c =
    let old = c.args.journal.now.events in
    let request = Open c.args.by in
    let unrefused : refusal old request ≡ None = ap (λ j. refusal j request) (sym c.view.ensures) ∙ sym c.in_default.ensures in
    subst (IsIndexOf c.note_opening.new.self) (sym c.push_reserved.ensures.events)
    (c.note_opening.ensures c.frame-under.result (may_follow old _ request _ unrefused c.in_ok-make_room.ensures.events
    (ap (Opened c.args.by) (c.frame-under.ensures ∙ ap (λ j. frame j c.args.by.0) (c.view-2.ensures ∙ c.in_ok-make_room.ensures.events)))
    c.requires.stands.kept.lawful c.requires.settled))

pub returns-clause-ok : goal.returns-clause-ok
unfolding asked_event
returns-clause-ok c =
    let old = c.args.journal.now.events in
    let request = Open c.args.by in
    let unrefused : refusal old request ≡ None = ap (λ j. refusal j request) (sym c.view.ensures) ∙ sym c.in_default.ensures in
    has_begun c.args.journal.now c.make_room.new.journal c.push_reserved.new.self request _ unrefused c.in_ok-make_room.ensures.events
    (ap (Opened c.args.by) (c.frame-under.ensures ∙ ap (λ j. frame j c.args.by.0) (c.view-2.ensures ∙ c.in_ok-make_room.ensures.events)))
    c.push_reserved.ensures.events c.in_ok-make_room.ensures.ok c.push_reserved.ensures.spare
