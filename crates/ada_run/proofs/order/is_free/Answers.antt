use Rattle.std.proofs.Common.{None, Some, option_map, sym, ap, ◌∙◌}
use Rattle.clap.specs.Words.{found_of}
use Rattle.ada_run.proofs.Flags.{free_is}
use Rattle.ada_run.proofs.order.is_free.Goals as goal

pub returns-in_default : goal.returns-in_default
returns-in_default c = free_is (found_of c.args.matches.now) None (sym (ap (option_map (λ s. s.now)) c.in_default.is) ∙ c.get_str.ensures)

pub returns : goal.returns
returns c =
    c.eq.ensures ∙ free_is (found_of c.args.matches.now) (Some c.in-Some.text.now) (sym (ap (option_map (λ s. s.now)) c.in-Some.is) ∙ c.get_str.ensures)
