use Rattle.std.proofs.Common.{◌∙◌, List, ap}
use Rattle.std.specs.List.{list_any}
use Rattle.ada_events.specs.Refusals as refusals
use Rattle.ada_tables.specs.declared.layers.Layer.{Layer}
use Rattle.ada_tables.specs.Layers.{members}
use Rattle.ada_admission.proofs.Layering.{any_member}
use Rattle.ada_admission.proofs.nests.has_rendezvous.Goals as goal

pub returns : goal.returns
returns c =
    c.any_is_rendezvous.ensures ∙ any_member refusals.is_rendezvous c.as_slice.result.now
    ∙ ap (λ (layers : List Layer). list_any refusals.is_rendezvous (members layers)) c.as_slice.ensures.value
