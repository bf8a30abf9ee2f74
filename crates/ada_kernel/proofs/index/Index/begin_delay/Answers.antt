use Rattle.std.proofs.Common.{◌≡◌, ◌∷◌, None, refl, sym, ap, ◌∙◌, subst, w64}
use Rattle.std.proofs.lemmas.Int.{to_z-of_z}
use Rattle.ada_events.specs.declared.event.Event.TheVariants.{Paused}
use Rattle.ada_events.specs.declared.request.Request.TheVariants.{Delay}
use Rattle.ada_events.specs.Tasks.{moment}
use Rattle.ada_events.specs.Refusals.{refusal}
use Rattle.ada_laws.proofs.asking.Accepting.{is_accepted}
use Rattle.ada_events.proofs.Dues.{delay_asked}
use Rattle.ada_kernel.specs.internal.Stepping.{MayNote}
use Rattle.ada_kernel.proofs.Requests.{may_note, has_begun}
use Rattle.ada_kernel.proofs.index.Index.begin_delay.Goals as goal

pub note_delay-requires : goal.note_delay-requires
note_delay-requires c =
    let old = c.args.journal.now.events in
    let request = Delay c.args.by c.args.duration in
    let unrefused : refusal old request ≡ None =
    ap (λ j. refusal j request) (sym c.view.ensures)
    ∙ ap (λ d. refusal c.view.result (Delay c.args.by d)) (sym (to_z-of_z w64 c.args.duration c.ranges.duration)) ∙ sym c.in_default.ensures in
    subst (λ n. MayNote c.args.self.now c.make_room.new.journal.events (Paused c.args.by n))
    (sym (to_z-of_z w64 c.due_after-due.result (record { sfits = c.due_after-due.type_inv })))
    (may_note old _ request _ unrefused c.in_ok-make_room.ensures.events
    (delay_asked old _ request c.args.by c.args.duration _ c.due_after-due.result
    (to_z-of_z w64 c.moment.result (record { sfits = c.moment.type_inv }) ∙ c.moment.ensures ∙ ap moment (c.view-2.ensures ∙ c.in_ok-make_room.ensures.events))
    (to_z-of_z w64 c.args.duration c.ranges.duration) refl c.due_after-due.ensures (is_accepted old request unrefused).in_time)
    _ c.requires)

pub returns-clause-ok : goal.returns-clause-ok
returns-clause-ok c =
    let old = c.args.journal.now.events in
    let request = Delay c.args.by c.args.duration in
    let unrefused : refusal old request ≡ None =
    ap (λ j. refusal j request) (sym c.view.ensures)
    ∙ ap (λ d. refusal c.view.result (Delay c.args.by d)) (sym (to_z-of_z w64 c.args.duration c.ranges.duration)) ∙ sym c.in_default.ensures in
    has_begun c.args.journal.now c.make_room.new.journal c.push_reserved.new.self request _ unrefused c.in_ok-make_room.ensures.events
    (delay_asked old _ request c.args.by c.args.duration _ c.due_after-due.result
    (to_z-of_z w64 c.moment.result (record { sfits = c.moment.type_inv }) ∙ c.moment.ensures ∙ ap moment (c.view-2.ensures ∙ c.in_ok-make_room.ensures.events))
    (to_z-of_z w64 c.args.duration c.ranges.duration) refl c.due_after-due.ensures (is_accepted old request unrefused).in_time)
    (c.push_reserved.ensures.events ∙ ap (λ n. Paused c.args.by n ∷ c.make_room.new.journal.events)
    (to_z-of_z w64 c.due_after-due.result (record { sfits = c.due_after-due.type_inv })))
    c.in_ok-make_room.ensures.ok c.push_reserved.ensures.spare
