use Rattle.std.proofs.Common.{ap, ◌∙◌, length}
use Rattle.ada_script.specs.Script.{scope_of}
use Rattle.ada_hall.proofs.Keeping.{hall_opens}
use Rattle.ada_hall.proofs.hall.Hall.new.Goals as goal

pub invariant_of-result : goal.invariant_of-result
invariant_of-result g c = (
  c.requires.script,
  hall_opens g.J.Session.script c.in-Ok.answers.places c.new-in-Ok.result c.new.result c.in-Ok.names c.in-Ok.answers.kept
      (ap (λ a. a.places) c.in-Ok.ensures.answers ∙ ap length c.requires.script) c.new-in-Ok.ensures c.new.ensures
      (c.in-Ok.ensures.names ∙ ap scope_of c.requires.script) (ap (λ a. a.kept) c.in-Ok.ensures.answers),
)
