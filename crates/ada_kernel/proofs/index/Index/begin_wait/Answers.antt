use Rattle.std.proofs.Common.{◌≡◌, None, List, refl, sym, ap, ◌∙◌, w64}
use Rattle.std.proofs.lemmas.Int.{to_z-of_z}
use Rattle.ada_events.specs.declared.names.Choice.{Choice}
use Rattle.ada_events.specs.declared.request.Request.TheVariants.{Wait}
use Rattle.ada_events.specs.Tasks.{moment}
use Rattle.ada_events.specs.Refusals.{refusal}
use Rattle.ada_laws.proofs.asking.Accepting.{is_accepted}
use Rattle.ada_events.proofs.Dues.{wait_asked}
use Rattle.ada_kernel.proofs.Requests.{may_note, has_begun}
use Rattle.ada_kernel.proofs.index.Index.begin_wait.Goals as goal

pub note_wait-requires : goal.note_wait-requires
note_wait-requires c =
    let old = c.args.journal.now.events in
    let request = Wait c.args.by c.args.choices.now c.args.tail.now c.args.pick in
    let unrefused : refusal old request ≡ None =
    ap (λ (choices : List Choice). refusal old (Wait c.args.by choices c.args.tail.now c.args.pick)) (sym c.as_slice-listed.ensures.value)
    ∙ ap (λ j. refusal j (Wait c.args.by c.as_slice-listed.result.now c.args.tail.now c.args.pick)) (sym c.view.ensures)
    ∙ sym (c.in_default.ensures c.args.pick) in
    may_note old _ request _ unrefused c.in_ok-make_room.ensures.events
    (rw (c.in_ok-choices.ensures.ok, c.as_slice-listed.ensures.value)
    (wait_asked old _ request c.args.by c.args.choices.now c.args.tail.now c.args.pick _
    (to_z-of_z w64 c.moment.result (record { sfits = c.moment.type_inv }) ∙ c.moment.ensures ∙ ap moment (c.view-2.ensures ∙ c.in_ok-make_room.ensures.events))
    refl c.in_ok-tail.ensures.ok (is_accepted old request unrefused).in_time))
    _ c.requires

pub returns-clause-ok : goal.returns-clause-ok
returns-clause-ok c =
    let old = c.args.journal.now.events in
    let request = Wait c.args.by c.args.choices.now c.args.tail.now c.args.pick in
    let unrefused : refusal old request ≡ None =
    ap (λ (choices : List Choice). refusal old (Wait c.args.by choices c.args.tail.now c.args.pick)) (sym c.as_slice-listed.ensures.value)
    ∙ ap (λ j. refusal j (Wait c.args.by c.as_slice-listed.result.now c.args.tail.now c.args.pick)) (sym c.view.ensures)
    ∙ sym (c.in_default.ensures c.args.pick) in
    has_begun c.args.journal.now c.make_room.new.journal c.push_reserved.new.self request _ unrefused c.in_ok-make_room.ensures.events
    (rw (c.in_ok-choices.ensures.ok, c.as_slice-listed.ensures.value)
    (wait_asked old _ request c.args.by c.args.choices.now c.args.tail.now c.args.pick _
    (to_z-of_z w64 c.moment.result (record { sfits = c.moment.type_inv }) ∙ c.moment.ensures ∙ ap moment (c.view-2.ensures ∙ c.in_ok-make_room.ensures.events))
    refl c.in_ok-tail.ensures.ok (is_accepted old request unrefused).in_time))
    c.push_reserved.ensures.events c.in_ok-make_room.ensures.ok c.push_reserved.ensures.spare
