use Rattle.std.proofs.Common.{◌≡◌, true, refl, ap, sym, ◌∙◌, map}
use Rattle.clap.specs.Words.{app_of}
use Rattle.clap.specs.Faults.{fault_of, is_simple_and_free}
use Rattle.ada_run.specs.Orders.{adatask}
use Rattle.ada_run.proofs.order.order_of.Goals as goal

is_known : is_simple_and_free adatask ≡ true
is_known = refl

pub returns-clause-refused : goal.returns-clause-refused
returns-clause-refused g c =
    let same : app_of c.in_ok-command.command ≡ adatask = c.in_ok-command.ensures in
    let fails = c.in_ok-matches.ensures.kinds (ap is_simple_and_free same ∙ is_known) in
    ap (λ a. fault_of a (map g.S.AsStr.text c.args.words.now)) (sym same) ∙ fails
