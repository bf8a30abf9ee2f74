-- Within a task's nest the tables find the parents that the journal says.
use Rattle.ada_laws.proofs.within.Parents.{masters_reach_by_parents, tasks_depend_by_parents}
use Rattle.ada_laws.proofs.searching.Searching.{eqb_swap}
use Rattle.ada_laws.specs.Masters.{parent_of}
use Rattle.std.proofs.Common.{◌≡◌, ℕ, ◌<◌, Bool, true, false, ◌||◌, eqb, Option, Some, List, [], ◌∷◌, refl, sym, ap, ◌∙◌, subst, inl, inr}
use Rattle.std.specs.Option.{option_map_or}
use Rattle.std.proofs.lemmas.Bool.{cases_eq, eq-eqb, ne_eqb, eqb-true, false≢true}
use Rattle.ada_events.specs.declared.event.Event.{Event}
use Rattle.ada_events.specs.declared.names.TaskNo.{TaskNo}
use Rattle.ada_events.specs.declared.names.Master.{Master}
use Rattle.ada_events.specs.declared.names.Master.TheVariants.{Body, Block as BlockMaster}
use Rattle.ada_events.specs.declared.names.Member.{Member}
use Rattle.ada_events.specs.declared.names.Member.TheVariants.{Block, Rendezvous}
use Rattle.ada_events.specs.Tasks.{task_count}
use Rattle.ada_events.specs.Masters.{same_master, reaches, depends_on}
use Rattle.ada_events.specs.Nests.{nest, innermost_block, frame}
use Rattle.ada_events.specs.Lawful.{IsLawful}
use Rattle.ada_events.specs.Holders.{has_block, up_to, holds, encloses}
use Rattle.ada_step_laws.specs.Holders.{IsUnder, AreNested}
use Rattle.ada_step_laws.proofs.holding.NestedBlocks.{nest_properly}

parent_under : (journal : List Event) (p : ℕ) (outer : Master) → IsUnder journal p outer → parent_of journal (BlockMaster p) ≡ Some outer
parent_under journal p outer is = rw (is.stands, is.says) (ap Some is.under)

-- the master is a block of these members
abbrev among : List Member → Master → Bool
among members (Body t) = false
among members (BlockMaster b) = has_block b members

from_block : (journal : List Event) (q : ℕ) (outer y : Master) → IsLawful journal → IsUnder journal q outer
    → reaches journal (BlockMaster q) y ≡ (same_master (BlockMaster q) y || reaches journal outer y)
from_block journal q outer y lawful is =
    masters_reach_by_parents journal (BlockMaster q) y lawful (record { event = is.event; opening = is.opening; stands = is.stands; says = is.says })
    ∙ ap (λ (o : Option Master). same_master (BlockMaster q) y || option_map_or (λ (z : Master). reaches journal z y) o false) (parent_under journal q outer is)

alone : (q : ℕ) (y : Master) (b : Bool) → (same_master (BlockMaster q) y || b) ≡ (among (Block q ∷ []) y || b)
alone q (Body t) b = refl
alone q (BlockMaster p) b = bits (eqb q p) b
  where
    bits : (a b : Bool) → (a || b) ≡ ((a || false) || b)
    bits true b = refl
    bits false b = refl

first : (q : ℕ) (rest : List Member) (y : Master) (b : Bool) → (among rest y || (same_master (BlockMaster q) y || b)) ≡ (among (Block q ∷ rest) y || b)
first q rest (Body t) b = refl
first q rest (BlockMaster p) b = bits (has_block p rest) (eqb q p) b
  where
    bits : (a c b : Bool) → (a || (c || b)) ≡ ((c || a) || b)
    bits true true b = refl
    bits true false b = refl
    bits false true b = refl
    bits false false b = refl

skip : (call : ℕ) (rest : List Member) (y : Master) → among (Rendezvous call ∷ rest) y ≡ among rest y
skip call rest (Body t) = refl
skip call rest (BlockMaster p) = refl

from_inner : (journal : List Event) (inner : ℕ) (outer y : Master) (members : List Member) → IsLawful journal → AreNested journal outer members
    → has_block inner members ≡ true → reaches journal (BlockMaster inner) y ≡ (among (up_to inner members) y || reaches journal outer y)
from_inner journal inner outer y [] lawful nested has = absurd (false≢true has)
from_inner journal inner outer y (Block q ∷ rest) lawful nested has =
    elim (cases_eq q inner) [
      | inl same ↦
          rw (eq-eqb q inner same)
          (ap (λ (n : ℕ). reaches journal (BlockMaster n) y) (sym same) ∙ from_block journal q outer y lawful nested.0 ∙ alone q y (reaches journal outer y))
      | inr other ↦
          rw (ne_eqb q inner other)
          (from_inner journal inner (BlockMaster q) y rest lawful nested.1 (rw (ne_eqb q inner other) at has)
          ∙ ap (λ (b : Bool). among (up_to inner rest) y || b) (from_block journal q outer y lawful nested.0)
          ∙ first q (up_to inner rest) y (reaches journal outer y))
    ]
from_inner journal inner outer y (Rendezvous call ∷ rest) lawful nested has =
    from_inner journal inner outer y rest lawful nested has
    ∙ ap (λ (b : Bool). b || reaches journal outer y) (sym (skip call (up_to inner rest) y))

from_body : (journal : List Event) (t : TaskNo) (y : Master) → IsLawful journal → t.0 < task_count journal
    → reaches journal (Body t) y ≡ (same_master (Body t) y || depends_on journal t.0 y)
from_body journal t y lawful below =
    masters_reach_by_parents journal (Body t) y lawful below
    ∙ ap (λ (b : Bool). same_master (Body t) y || b) (sym (tasks_depend_by_parents journal t y lawful))

-- from a master that a task holds, the way goes on by what it encloses there, and then by what the task depends on
pub reaches_held : (journal : List Event) (task : ℕ) (x y : Master) → IsLawful journal → task < task_count journal → holds task (nest journal task) x ≡ true
    → reaches journal x y ≡ (encloses task (nest journal task) x y || depends_on journal task y)
reaches_held journal task (Body t) (Body u) lawful below held =
    let same : t.0 ≡ task = eqb-true t.0 task held in
    from_body journal t (Body u) lawful (subst (λ (n : ℕ). n < task_count journal) (sym same) below)
    ∙ rw same (ap (λ (b : Bool). b || depends_on journal task (Body u)) (eqb_swap task u.0))
reaches_held journal task (Body t) (BlockMaster b) lawful below held =
    let same : t.0 ≡ task = eqb-true t.0 task held in
    from_body journal t (BlockMaster b) lawful (subst (λ (n : ℕ). n < task_count journal) (sym same) below)
    ∙ ap (λ (n : ℕ). depends_on journal n (BlockMaster b)) same
reaches_held journal task (BlockMaster inner) (Body u) lawful below held =
    from_inner journal inner (Body (record { 0 = task })) (Body u) (nest journal task) lawful (nest_properly journal task lawful) held
    ∙ from_body journal (record { 0 = task }) (Body u) lawful below
    ∙ ap (λ (b : Bool). b || depends_on journal task (Body u)) (eqb_swap task u.0)
reaches_held journal task (BlockMaster inner) (BlockMaster b) lawful below held =
    from_inner journal inner (Body (record { 0 = task })) (BlockMaster b) (nest journal task) lawful (nest_properly journal task lawful) held
    ∙ ap (λ (c : Bool). has_block b (up_to inner (nest journal task)) || c) (from_body journal (record { 0 = task }) (BlockMaster b) lawful below)

from_innermost : (journal : List Event) (outer y : Master) (members : List Member) → IsLawful journal → AreNested journal outer members
    → reaches journal (innermost_block outer members) y ≡ (among members y || reaches journal outer y)
unfolding innermost_block
from_innermost journal outer (Body t) [] lawful nested = refl
from_innermost journal outer (BlockMaster b) [] lawful nested = refl
from_innermost journal outer y (Block q ∷ rest) lawful nested =
    from_innermost journal (BlockMaster q) y rest lawful nested.1
    ∙ ap (λ (b : Bool). among rest y || b) (from_block journal q outer y lawful nested.0)
    ∙ first q rest y (reaches journal outer y)
from_innermost journal outer y (Rendezvous call ∷ rest) lawful nested =
    from_innermost journal outer y rest lawful nested
    ∙ ap (λ (b : Bool). b || reaches journal outer y) (sym (skip call rest y))

-- from a task's frame the way goes on by all masters that the task holds, and then by what it depends on
pub frame_reaches_held : (journal : List Event) (task : ℕ) (y : Master) → IsLawful journal → task < task_count journal
    → reaches journal (frame journal task) y ≡ (holds task (nest journal task) y || depends_on journal task y)
unfolding frame
frame_reaches_held journal task (Body u) lawful below =
    from_innermost journal (Body (record { 0 = task })) (Body u) (nest journal task) lawful (nest_properly journal task lawful)
    ∙ from_body journal (record { 0 = task }) (Body u) lawful below
    ∙ ap (λ (b : Bool). b || depends_on journal task (Body u)) (eqb_swap task u.0)
frame_reaches_held journal task (BlockMaster b) lawful below =
    from_innermost journal (Body (record { 0 = task })) (BlockMaster b) (nest journal task) lawful (nest_properly journal task lawful)
    ∙ ap (λ (c : Bool). has_block b (nest journal task) || c) (from_body journal (record { 0 = task }) (BlockMaster b) lawful below)
