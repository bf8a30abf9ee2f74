-- The blocks of a task's nest are those that it opened and hasn't left; and a master is held by one task at most.
use Rattle.std.proofs.Common.{◌≡◌, ℕ, zero, suc, ◌<◌, true, false, eqb, List, [], ◌∷◌, length, get_or, refl, sym, ap, ◌∙◌, subst}
use Rattle.std.proofs.Common.{arith, inl, inr}
use Rattle.std.specs.List.{Contains}
use Rattle.std.proofs.lemmas.Bool.{or_cases, or_left, or_right, eq-eqb, eqb-true, false≢true}
use Rattle.std.proofs.lemmas.Option.{same_Some}
use Rattle.ada_events.specs.declared.event.Event.{Event}
use Rattle.ada_events.specs.declared.names.Master.{Master}
use Rattle.ada_events.specs.declared.names.Master.TheVariants.{Body, Block as BlockMaster}
use Rattle.ada_events.specs.declared.names.Member.{Member}
use Rattle.ada_events.specs.declared.names.Member.TheVariants.{Block, Rendezvous}
use Rattle.ada_events.specs.Says.{Opening, opening_in}
use Rattle.ada_events.specs.Nests.{is_left, member_at, nest}
use Rattle.ada_laws.proofs.searching.Gathering.{gathered-from, Contains-first, Contains-later}
use Rattle.ada_laws.proofs.within.Framing.{IsBlockOf}
use Rattle.ada_events.specs.Holders.{is_block, has_block, holds}
use Rattle.ada_laws.proofs.within.Members.{IsMember, nest_member}
use Rattle.ada_laws.proofs.within.Members.IsMember.{block_in}

pub contains_block : (members : List Member) (b : ℕ) → has_block b members ≡ true → Contains members (Block b)
contains_block [] b has = absurd (false≢true has)
contains_block (Block q ∷ rest) b has =
    elim (or_cases (eqb q b) (has_block b rest) has) [
      | inl same ↦ subst (λ (n : ℕ). Contains (Block n ∷ rest) (Block b)) (sym (eqb-true q b same)) (Contains-first (Block b) rest)
      | inr later ↦ Contains-later (Block q) (Block b) rest (contains_block rest b later)
    ]
contains_block (Rendezvous call ∷ rest) b has = Contains-later (Rendezvous call) (Block b) rest (contains_block rest b has)

-- a block of a task's nest was opened by the task and isn't left
pub block_in_nest : (journal : List Event) (task b : ℕ) → has_block b (nest journal task) ≡ true → IsBlockOf journal task b × (is_left journal b ≡ false)
block_in_nest journal task b has = of_member (nest_member journal task (Block b) (contains_block (nest journal task) b has))
  where
    of_member : IsMember journal task (Block b) → IsBlockOf journal task b × (is_left journal b ≡ false)
    of_member (block_in q e o at says by unleft) = (record { event = e; opening = o; stands = at; says = says; by = by }, unleft)

pub has_contained : (members : List Member) (b k : ℕ) → k < length members → get_or members k (Block b) ≡ Block b → has_block b members ≡ true
has_contained [] b k below is = absurd (omega (arith, below))
has_contained (member ∷ rest) b zero below is = or_left (is_block b member) (has_block b rest) (ap (is_block b) is ∙ eq-eqb b b refl)
has_contained (member ∷ rest) b (suc k) below is = or_right (is_block b member) (has_block b rest) (has_contained rest b k (omega (arith, below)) is)

-- a block that a task opened and that isn't left is in its nest
pub nest_has_block : (journal : List Event) (task b : ℕ) → IsBlockOf journal task b → is_left journal b ≡ false → has_block b (nest journal task) ≡ true
unfolding nest member_at
nest_has_block journal task b own unleft =
    let (k, below, is) = gathered-from (member_at journal task) journal b own.event (Block b) own.stands
    (rw (own.says, eq-eqb own.opening.by task own.by, unleft) refl) in
    has_contained (nest journal task) b k below is

-- a master is held by one task at most
pub one_holder : (journal : List Event) (t u : ℕ) (x : Master) → holds t (nest journal t) x ≡ true → holds u (nest journal u) x ≡ true → t ≡ u
one_holder journal t u (Body n) one other = sym (eqb-true n.0 t one) ∙ eqb-true n.0 u other
one_holder journal t u (BlockMaster b) one other =
    let mine = (block_in_nest journal t b one).0 in
    let yours = (block_in_nest journal u b other).0 in
    let event : mine.event ≡ yours.event = same_Some mine.event yours.event (sym mine.stands ∙ yours.stands) in
    let opening : mine.opening ≡ yours.opening = same_Some mine.opening yours.opening (sym mine.says ∙ ap opening_in event ∙ yours.says) in
    sym mine.by ∙ ap (λ (o : Opening). o.by) opening ∙ yours.by

-- a block that a task opened and hasn't left
pub record IsOwnBlock (journal : List Event) (task p : ℕ) : Type 0 where
  pub block : IsBlockOf journal task p
  pub unleft : is_left journal p ≡ false

pub own_member : (journal : List Event) (task p : ℕ) → Contains (nest journal task) (Block p) → IsOwnBlock journal task p
own_member journal task p contains = of_member (nest_member journal task (Block p) contains)
  where
    of_member : IsMember journal task (Block p) → IsOwnBlock journal task p
    of_member (block_in q e o at says by unleft) =
        record { block = record { event = e; opening = o; stands = at; says = says; by = by }; unleft = unleft }
