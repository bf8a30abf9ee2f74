use Rattle.std.proofs.Common.{◌≡◌, ◌<◌, None, refl, sym, ap, ◌∙◌, subst}
use Rattle.ada_events.specs.declared.event.Event.TheVariants.{Ended}
use Rattle.ada_events.specs.declared.request.Request.TheVariants.{End}
use Rattle.ada_events.specs.Asks.{asked_event, asker, member_position}
use Rattle.ada_events.specs.Nests.{nest, innermost}
use Rattle.ada_events.specs.Refusals.{refusal}
use Rattle.ada_events.specs.Tasks.{task_count}
use Rattle.ada_laws.proofs.asking.Accepting.{asker_exists}
use Rattle.ada_kernel.proofs.Requests.{may_note, has_begun}
use Rattle.ada_kernel.proofs.index.Index.begin_end.Goals as goal

pub innermost-requires : goal.innermost-requires
unfolding asker
innermost-requires c =
    let old = c.args.journal.now.events in
    let request = End c.args.by c.args.raised in
    let unrefused : refusal old request ≡ None = ap (λ j. refusal j request) (sym c.view.ensures) ∙ sym (c.in_default.ensures c.args.raised) in
    subst (λ j. c.args.by.0 < task_count j) (sym (c.view-2.ensures ∙ c.in_ok-make_room.ensures.events))
    (asker_exists old request c.args.by.0 unrefused refl)

pub note_end-requires : goal.note_end-requires
unfolding asked_event
note_end-requires c =
    let old = c.args.journal.now.events in
    let request = End c.args.by c.args.raised in
    let unrefused : refusal old request ≡ None = ap (λ j. refusal j request) (sym c.view.ensures) ∙ sym (c.in_default.ensures c.args.raised) in
    may_note old _ request _ unrefused c.in_ok-make_room.ensures.events
    (ap (λ call. Ended c.args.by call c.args.raised) (c.member_position-call.ensures ∙ ap member_position (c.innermost.ensures
    ∙ ap (λ j. innermost (nest j c.args.by.0)) (c.view-2.ensures ∙ c.in_ok-make_room.ensures.events))))
    _ c.requires

pub returns-clause-ok : goal.returns-clause-ok
unfolding asked_event
returns-clause-ok c =
    let old = c.args.journal.now.events in
    let request = End c.args.by c.args.raised in
    let unrefused : refusal old request ≡ None = ap (λ j. refusal j request) (sym c.view.ensures) ∙ sym (c.in_default.ensures c.args.raised) in
    has_begun c.args.journal.now c.make_room.new.journal c.push_reserved.new.self request _ unrefused c.in_ok-make_room.ensures.events
    (ap (λ call. Ended c.args.by call c.args.raised) (c.member_position-call.ensures ∙ ap member_position (c.innermost.ensures
    ∙ ap (λ j. innermost (nest j c.args.by.0)) (c.view-2.ensures ∙ c.in_ok-make_room.ensures.events))))
    c.push_reserved.ensures.events c.in_ok-make_room.ensures.ok c.push_reserved.ensures.spare
