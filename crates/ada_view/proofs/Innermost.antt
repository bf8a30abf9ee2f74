-- The innermost block of a nest, looked for from the innermost member on.
use Rattle.std.proofs.Common.{◌≡◌, ℕ, suc, ◌+◌, ◌<◌, List, [], ◌∷◌, ◌++◌, length, take, get_or, refl, ap, ◌∙◌, arith}
use Rattle.std.proofs.Math.Seq.{take-suc}
use Rattle.std.proofs.lemmas.List.{map-append}
use Rattle.ada_events.specs.declared.names.Master.{Master}
use Rattle.ada_events.specs.declared.names.Member.{Member}
use Rattle.ada_events.specs.declared.names.Member.TheVariants.{Block, Rendezvous}
use Rattle.ada_events.specs.declared.names.Master.TheVariants.{Block as BlockMaster}
use Rattle.ada_events.specs.Nests.{innermost_block}
use Rattle.ada_tables.specs.declared.layers.Layer.{Layer}
use Rattle.ada_tables.specs.Layers.{member_of, members}

one_more : (outer : Master) (xs : List Member) (m : Member)
    → innermost_block outer (xs ++ m ∷ []) ≡ innermost_block (innermost_block outer xs) (m ∷ [])
unfolding innermost_block
one_more outer [] m = refl
one_more outer (Block p ∷ xs) m = one_more (BlockMaster p) xs m
one_more outer (Rendezvous call ∷ xs) m = one_more outer xs m

-- one more member of a nest
pub one_more_read : (outer : Master) (layers : List Layer) (place : ℕ) (d read : Layer) → place < length layers → get_or layers place d ≡ read
    → innermost_block outer (members (take (place + 1) layers))
    ≡ innermost_block (innermost_block outer (members (take place layers))) (member_of read ∷ [])
one_more_read outer layers place d read below is =
    let at : place + 1 ≡ suc place = omega arith in
    ap (λ n. innermost_block outer (members (take n layers))) at
    ∙ ap (λ ls. innermost_block outer (members ls)) (take-suc layers place d below)
    ∙ ap (λ (l : Layer). innermost_block outer (members (take place layers ++ l ∷ []))) is
    ∙ ap (innermost_block outer) (map-append member_of (take place layers) (read ∷ []))
    ∙ one_more outer (members (take place layers)) (member_of read)
