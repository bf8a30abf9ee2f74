use Rattle.std.proofs.Common.{◌≡◌, None, refl, sym, ap, ◌∙◌, w64, rules}
use Rattle.std.proofs.lemmas.Int.{to_z-of_z}
use Rattle.ada_events.specs.declared.request.Request.TheVariants.{Call}
use Rattle.ada_events.specs.Refusals.{refusal}
use Rattle.ada_events.specs.Tasks.{moment}
use Rattle.ada_laws.proofs.asking.Accepting.{is_accepted}
use Rattle.ada_events.proofs.Dues.{call_asked}
use Rattle.ada_kernel.proofs.Requests.{may_follow, has_begun}
use Rattle.ada_kernel.proofs.index.Index.begin_call.Goals as goal

pub note_call-requires-clause-may : goal.note_call-requires-clause-may
note_call-requires-clause-may c =
    let old = c.args.journal.now.events in
    let request = Call c.args.by c.args.callee c.args.entry c.args.patience in
    let unrefused : refusal old request ≡ None = ap (λ j. refusal j request) (sym c.view.ensures) ∙ sym c.in_default.ensures in
    record {
      stands = search rules;
      lawful = may_follow old _ request _ unrefused c.in_ok-make_room.ensures.events
          (call_asked old _ request c.args.by c.args.callee c.args.entry c.args.patience _
          (to_z-of_z w64 c.moment.result (record { sfits = c.moment.type_inv }) ∙ c.moment.ensures
          ∙ ap moment (c.view-2.ensures ∙ c.in_ok-make_room.ensures.events))
          refl c.call_due-due.ensures (is_accepted old request unrefused).in_time)
          c.requires.stands.kept.lawful c.requires.settled;
    }

pub returns-clause-ok : goal.returns-clause-ok
returns-clause-ok c =
    let old = c.args.journal.now.events in
    let request = Call c.args.by c.args.callee c.args.entry c.args.patience in
    let unrefused : refusal old request ≡ None = ap (λ j. refusal j request) (sym c.view.ensures) ∙ sym c.in_default.ensures in
    has_begun c.args.journal.now c.make_room.new.journal c.push_reserved.new.self request _ unrefused c.in_ok-make_room.ensures.events
    (call_asked old _ request c.args.by c.args.callee c.args.entry c.args.patience _
    (to_z-of_z w64 c.moment.result (record { sfits = c.moment.type_inv }) ∙ c.moment.ensures
    ∙ ap moment (c.view-2.ensures ∙ c.in_ok-make_room.ensures.events))
    refl c.call_due-due.ensures (is_accepted old request unrefused).in_time)
    c.push_reserved.ensures.events c.in_ok-make_room.ensures.ok c.push_reserved.ensures.spare
