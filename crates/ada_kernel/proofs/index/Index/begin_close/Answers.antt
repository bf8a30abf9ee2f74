use Rattle.std.proofs.Common.{◌≡◌, None, refl, sym, ap, ◌∙◌}
use Rattle.ada_events.specs.declared.event.Event.TheVariants.{Closed}
use Rattle.ada_events.specs.declared.request.Request.TheVariants.{Close}
use Rattle.ada_events.specs.Asks.{asked_event, asker, member_position}
use Rattle.ada_events.specs.Nests.{nest, innermost}
use Rattle.ada_events.specs.Refusals.{refusal}
use Rattle.ada_kernel.proofs.Requests.{may_note, has_begun, asker_there}
use Rattle.ada_kernel.proofs.index.Index.begin_close.Goals as goal

pub innermost-requires : goal.innermost-requires
unfolding asker
innermost-requires c =
    let old = c.args.journal.now.events in
    let request = Close c.args.by in
    let unrefused : refusal old request ≡ None = ap (λ j. refusal j request) (sym c.view.ensures) ∙ sym c.in_default.ensures in
    asker_there old _ request c.args.by.0 unrefused (c.view-2.ensures ∙ c.in_ok-make_room.ensures.events) refl

pub note_close-requires : goal.note_close-requires
unfolding asked_event
note_close-requires c =
    let old = c.args.journal.now.events in
    let request = Close c.args.by in
    let unrefused : refusal old request ≡ None = ap (λ j. refusal j request) (sym c.view.ensures) ∙ sym c.in_default.ensures in
    may_note old _ request _ unrefused c.in_ok-make_room.ensures.events
    (ap (Closed c.args.by) (c.member_position-block.ensures ∙ ap member_position (c.innermost.ensures
    ∙ ap (λ j. innermost (nest j c.args.by.0)) (c.view-2.ensures ∙ c.in_ok-make_room.ensures.events))))
    _ c.requires

pub returns-clause-ok : goal.returns-clause-ok
unfolding asked_event
returns-clause-ok c =
    let old = c.args.journal.now.events in
    let request = Close c.args.by in
    let unrefused : refusal old request ≡ None = ap (λ j. refusal j request) (sym c.view.ensures) ∙ sym c.in_default.ensures in
    has_begun c.args.journal.now c.make_room.new.journal c.push_reserved.new.self request _ unrefused c.in_ok-make_room.ensures.events
    (ap (Closed c.args.by) (c.member_position-block.ensures ∙ ap member_position (c.innermost.ensures
    ∙ ap (λ j. innermost (nest j c.args.by.0)) (c.view-2.ensures ∙ c.in_ok-make_room.ensures.events))))
    c.push_reserved.ensures.events c.in_ok-make_room.ensures.ok c.push_reserved.ensures.spare
