use Rattle.ada_agenda.proofs.Noting.{held_fits}
use Rattle.ada_triggers.proofs.calls.after_call.Goals as goal

pub put_call_keys-requires-clause-wait : goal.put_call_keys-requires-clause-wait
put_call_keys-requires-clause-wait c = held_fits c.args.view.now c.args.callee.0 _ c.record-wait.ensures.lawful c.record-wait.ensures.right.suspension.at

pub returns : goal.returns
returns c =
    c.put_call_keys.ensures c.args.event.now c.args.view.now c.args.callee.0 c.requires c.next_position.ensures.next c.record-wait.ensures.right.suspension.at
    c.is_uncallable-lost.ensures c.is_immediate_call-immediate.ensures
