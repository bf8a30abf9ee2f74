use Rattle.ada_lasting.specs.Naming.{Naming}
use Rattle.ada_lasting.specs.Following.{Long}
use Rattle.ada_lasting.specs.Meaning.{meant}
use Rattle.ada_lasting.proofs.Asked.{err_refused, refused}
use Rattle.ada_lasting.proofs.Refused.{roomless_is_cause}
use Rattle.ada_lasting.proofs.GivingUp.{given_up_twice, none_given_up}
use Rattle.ada_lasting.proofs.kernel.LongKernel.step.Goals as goal

-- who is given up is so before the request is asked
pub returns-clause-given_up : goal.returns-clause-given_up
returns-clause-given_up c = λ journal follows.
    let before : Naming = c.args.self.now.names in
    let between : Naming = c.make_room.new.self.names in
    let after : Naming = c.ask.new.self.names in
    given_up_twice journal before between after (c.make_room.ensures.given_up journal follows)
    (none_given_up journal between after c.ask.ensures.names)

pub returns-in-Err-clause-err : goal.returns-in-Err-clause-err
returns-in-Err-clause-err c = λ journal follows. record {
  follows = c.make_room.ensures.follows journal follows;
  named = roomless_is_cause journal (meant c.args.request) c.make_room.new.self c.in-Err.cause c.in-Err.ensures.want;
  unchanged = c.make_room.ensures.unchanged;
}

pub returns-clause-err : goal.returns-clause-err
returns-clause-err c =
    err_refused c.ask.result c.ask.ensures.err c.ask.ensures.unchanged
    (λ cause named same journal follows.
    let before : Long = c.args.self.now in
    let between : Long = c.make_room.new.self in
    let followed = c.make_room.ensures.follows journal follows in
    refused journal (meant c.args.request) cause before between c.ask.new.self followed c.make_room.ensures.unchanged same
    (named journal followed))
