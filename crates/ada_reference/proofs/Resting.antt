-- The empty journal is at rest.
use Rattle.std.proofs.Common.{◌≡◌, None, []}
use Rattle.ada_events.specs.Forced.{forced}
use Rattle.ada_laws.proofs.asking.GroupLaws.{empty_is_settled as at_rest}

pub empty_is_settled : forced [] ≡ None
empty_is_settled = at_rest
