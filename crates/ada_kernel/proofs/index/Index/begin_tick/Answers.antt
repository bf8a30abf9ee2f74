use Rattle.std.proofs.Common.{◌≡◌, ◌∷◌, None, refl, sym, ap, ◌∙◌, subst, w64}
use Rattle.std.proofs.lemmas.Int.{to_z-of_z}
use Rattle.ada_events.specs.declared.event.Event.TheVariants.{Ticked}
use Rattle.ada_events.specs.declared.request.Request.TheVariants.{Tick}
use Rattle.ada_events.specs.Asks.{asked_event}
use Rattle.ada_events.specs.Refusals.{refusal}
use Rattle.ada_kernel.specs.internal.Stepping.{MayNote}
use Rattle.ada_kernel.proofs.Requests.{may_note, has_begun}
use Rattle.ada_kernel.proofs.index.Index.begin_tick.Goals as goal

pub note_tick-requires-clause-may : goal.note_tick-requires-clause-may
unfolding asked_event
note_tick-requires-clause-may c =
    let old = c.args.journal.now.events in
    let request = Tick c.args.now in
    let unrefused : refusal old request ≡ None =
    ap (λ j. refusal j request) (sym c.view.ensures)
    ∙ ap (λ n. refusal c.view.result (Tick n)) (sym (to_z-of_z w64 c.args.now c.ranges.now)) ∙ sym c.in_default.ensures in
    subst (λ n. MayNote c.args.self.now c.make_room.new.journal.events (Ticked n)) (sym (to_z-of_z w64 c.args.now c.ranges.now))
    (may_note old _ request _ unrefused c.in_ok-make_room.ensures.events
    refl
    _ c.requires)

pub returns-clause-ok : goal.returns-clause-ok
unfolding asked_event
returns-clause-ok c =
    let old = c.args.journal.now.events in
    let request = Tick c.args.now in
    let unrefused : refusal old request ≡ None =
    ap (λ j. refusal j request) (sym c.view.ensures)
    ∙ ap (λ n. refusal c.view.result (Tick n)) (sym (to_z-of_z w64 c.args.now c.ranges.now)) ∙ sym c.in_default.ensures in
    has_begun c.args.journal.now c.make_room.new.journal c.push_reserved.new.self request _ unrefused c.in_ok-make_room.ensures.events
    refl
    (c.push_reserved.ensures.events ∙ ap (λ n. Ticked n ∷ c.make_room.new.journal.events) (to_z-of_z w64 c.args.now c.ranges.now))
    c.in_ok-make_room.ensures.ok c.push_reserved.ensures.spare
