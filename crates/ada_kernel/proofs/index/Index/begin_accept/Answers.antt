use Rattle.std.proofs.Common.{◌≡◌, None, true, [], ◌∷◌, List, refl, sym, ap, ◌∙◌, subst}
use Rattle.ada_events.specs.declared.event.Event.TheVariants.{Waiting}
use Rattle.ada_events.specs.declared.event.EventTail.TheVariants.{Nothing}
use Rattle.ada_events.specs.declared.names.Choice.{Choice}
use Rattle.ada_events.specs.declared.request.Request.TheVariants.{Wait}
use Rattle.ada_events.specs.declared.request.Tail.TheVariants as tail
use Rattle.ada_events.specs.Asks.{asked_event, asker}
use Rattle.ada_events.specs.Refusals.{refusal}
use Rattle.ada_kernel.specs.internal.Indexes.{IsIndexOf}
use Rattle.ada_kernel.proofs.Requests.{may_follow, has_begun, asker_there}
use Rattle.ada_kernel.proofs.index.Index.begin_accept.Goals as goal

pub note_accept-requires-clause-known : goal.note_accept-requires-clause-known
unfolding asker
note_accept-requires-clause-known c =
    let old = c.args.journal.now.events in
    let request = Wait c.args.by (record { guard = true; entry = c.args.entry } ∷ []) tail.Nothing c.args.pick in
    let unrefused : refusal old request ≡ None = ap (λ j. refusal j request) (sym c.view.ensures) ∙ sym (c.in_default.ensures c.args.pick) in
    asker_there old _ request c.args.by.0 unrefused c.in_ok-make_room.ensures.events refl

pub returns-clause-stands : goal.returns-clause-stands
unfolding asked_event
returns-clause-stands c =
    let old = c.args.journal.now.events in
    let request = Wait c.args.by (record { guard = true; entry = c.args.entry } ∷ []) tail.Nothing c.args.pick in
    let unrefused : refusal old request ≡ None = ap (λ j. refusal j request) (sym c.view.ensures) ∙ sym (c.in_default.ensures c.args.pick) in
    subst (IsIndexOf c.note_accept.new.self) (sym c.push_reserved.ensures.events)
    (rw c.in_ok-choices.ensures.ok (c.note_accept.ensures c.args.pick c.args.entry
    (may_follow old _ request _ unrefused c.in_ok-make_room.ensures.events refl c.requires.stands.kept.lawful c.requires.settled)))

pub returns-clause-ok : goal.returns-clause-ok
unfolding asked_event
returns-clause-ok c =
    let old = c.args.journal.now.events in
    let request = Wait c.args.by (record { guard = true; entry = c.args.entry } ∷ []) tail.Nothing c.args.pick in
    let unrefused : refusal old request ≡ None = ap (λ j. refusal j request) (sym c.view.ensures) ∙ sym (c.in_default.ensures c.args.pick) in
    has_begun c.args.journal.now c.make_room.new.journal c.push_reserved.new.self request _ unrefused c.in_ok-make_room.ensures.events
    (ap (λ (choices : List Choice). Waiting c.args.by c.args.pick choices Nothing) c.in_ok-choices.ensures.ok)
    c.push_reserved.ensures.events c.in_ok-make_room.ensures.ok c.push_reserved.ensures.spare
