use Rattle.std.proofs.Common.{false, ◌||◌, reverse, ◌∙◌, ap}
use Rattle.std.specs.List.{list_any}
use Rattle.std.specs.Option.{option_map_or}
use Rattle.ada_events.specs.Nests.{member_at}
use Rattle.ada_events.specs.Refusals.{is_rendezvous_for}
use Rattle.ada_reference.proofs.Members.{gathered_step, list_any-append_option}
use Rattle.ada_reference.proofs.nests.is_in_rendezvous_for.Goals as goal

pub loop-i-preserved : goal.loop-i-preserved
loop-i-preserved c =
    gathered_step (list_any (is_rendezvous_for (reverse c.args.events.now) c.args.family))
    (λ found o. option_map_or (is_rendezvous_for (reverse c.args.events.now) c.args.family) o false || found)
    (list_any-append_option (is_rendezvous_for (reverse c.args.events.now) c.args.family)) (member_at (reverse c.args.events.now) c.args.task.0)
    c.args.events.now c.loop-i.i c.index-events-i.result c.loop-i.found c.either-found.result
    c.loop-i-test.true c.index-events-i.is c.loop-i.invariant
    (c.either-found.ensures ∙ ap (λ b. b || c.loop-i.found)
    (c.is_some_rendezvous_for.ensures ∙ ap (λ o. option_map_or (is_rendezvous_for (reverse c.args.events.now) c.args.family) o false)
    c.member_at-member.ensures))
