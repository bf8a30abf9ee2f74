use Rattle.std.proofs.Common.{rules, subst}
use Rattle.ada_page.specs.Standing.{IsStanding}
use Rattle.ada_page.proofs.moments.show.Goals as goal

-- the kernel is new
pub returns-clause-first : goal.returns-clause-first
returns-clause-first c = subst (λ journal. IsStanding journal c.in_ok-first.first) (search rules) c.in_ok-first.ensures.ok
