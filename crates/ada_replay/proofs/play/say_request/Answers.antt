use Rattle.std.proofs.Common.{arith, ap, length}
use Rattle.std.proofs.lemmas.List.{length-reverse}
use Rattle.ada_replay.proofs.Growth.{accepted_grows}
use Rattle.ada_replay.proofs.play.say_request.Goals as goal

pub print_events-requires-clause-behind : goal.print_events-requires-clause-behind
print_events-requires-clause-behind c =
    omega (
      arith,
      c.len-from.ensures,
      ap length c.journal.ensures.events,
      ap length c.journal-in-Ok.ensures.events,
      ap length c.as_slice.ensures.value,
      length-reverse c.as_slice.result.now,
      accepted_grows c.args.kernel.now c.in-Ok.ensures.0 c.in-Ok.at _ c.in-Ok.ensures.2.0,
    )
