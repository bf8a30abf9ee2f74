-- Laws of two lawful journals of which the second stands in for the first.
use Rattle.std.proofs.Common.{sym}
use Rattle.ada_events.specs.Forced.{forced}
use Rattle.ada_standing.specs.Laws.{ForcedAlike}
use Rattle.ada_standing.proofs.alike.Forcing.{steps_alike, alike_is, alike_none}
use Rattle.ada_standing.proofs.lawful.Orderly.{lawful_orderly}

pub forced_alike : ForcedAlike
forced_alike old new names stands lawful also =
    let alike = steps_alike old new names stands (lawful_orderly old lawful) (lawful_orderly new also) in
    record { renamed = alike_is names (forced old) (forced new) alike; settled = sym (alike_none names (forced old) (forced new) alike) }
