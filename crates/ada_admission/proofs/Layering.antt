-- Tests of the members of a nest, made of its layers.
use Rattle.std.proofs.Common.{◌≡◌, Bool, ◌||◌, List, [], ◌∷◌, refl, ap}
use Rattle.std.specs.List.{list_any}
use Rattle.ada_events.specs.declared.names.Member.{Member}
use Rattle.ada_tables.specs.declared.layers.Layer.{Layer}
use Rattle.ada_tables.specs.Layers.{member_of, members}

pub any_member : (test : Member → Bool) (layers : List Layer) → list_any (λ (l : Layer). test (member_of l)) layers ≡ list_any test (members layers)
any_member test [] = refl
any_member test (layer ∷ rest) = ap (λ (b : Bool). test (member_of layer) || b) (any_member test rest)
