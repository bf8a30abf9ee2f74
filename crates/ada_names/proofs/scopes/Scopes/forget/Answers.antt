use Rattle.std.proofs.Common.{◌≡◌, List, [], ◌∷◌, ◌++◌, ◌<◌, length, reverse, ap, subst, ◌∙◌, arith}
use Rattle.std.proofs.lemmas.List.{reverse-append}
use Rattle.ada_names.specs.declared.scopes.Entity.{Entity}
use Rattle.ada_names.specs.internal.Visibility.{AreKept}
use Rattle.ada_names.proofs.Kept.{kept_within}
use Rattle.ada_names.proofs.scopes.Scopes.forget.Goals as goal

-- the declaration that is forgotten stands before the others
last_first : (all left : List Entity) (entity : Entity) → all ≡ left ++ entity ∷ [] → reverse all ≡ entity ∷ reverse left
last_first all left entity is = ap reverse is ∙ reverse-append left (entity ∷ [])

pub index_mut-requires : goal.index_mut-requires
index_mut-requires c =
    let table = c.self.inside.table.items in
    let within : c.in-Some.entity.symbol.0 < length table =
    kept_within (reverse c.pop.new.self.items) table c.in-Some.entity
    (subst (λ (es : List Entity). AreKept es table)
    (last_first c.self.inside.entities.items c.pop.new.self.items c.in-Some.entity c.in-Some.ensures.items) c.self.invariant) in
    omega (arith, c.self.ranges, within)
