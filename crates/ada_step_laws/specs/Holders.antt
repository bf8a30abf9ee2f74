-- Who holds a master, and how blocks nest. Laws.
use Rattle.std.specs.Prelude.{◌≡◌, ℕ, ◌<◌, true, false, Some, List, [], ◌∷◌}
use Rattle.ada_events.specs.declared.event.Event.{Event}
use Rattle.ada_events.specs.declared.names.Master.{Master}
use Rattle.ada_events.specs.declared.names.Master.TheVariants.{Body, Block as BlockMaster}
use Rattle.ada_events.specs.declared.names.Member.{Member}
use Rattle.ada_events.specs.declared.names.Member.TheVariants.{Block, Rendezvous}
use Rattle.ada_events.specs.Search.{event_at}
use Rattle.ada_events.specs.Says.{Opening, Creation, opening_in}
use Rattle.ada_events.specs.Tasks.{creation_of}
use Rattle.ada_events.specs.Masters.{depends_on}
use Rattle.ada_events.specs.Nests.{is_left, nest}
use Rattle.ada_events.specs.Holders.{holds}
use Rattle.ada_events.specs.Phases.{is_terminated}
use Rattle.ada_events.specs.Lawful.{IsLawful}

-- the block was opened within the master
pub record IsUnder (journal : List Event) (p : ℕ) (outer : Master) : Type 0 where
  pub event : Event
  pub opening : Opening
  pub stands : event_at journal p ≡ Some event
  pub says : opening_in event ≡ Some opening
  pub under : opening.under ≡ outer

-- each block of a nest was opened within the block before it, the first within that master
abbrev pub AreNested : List Event → Master → List Member → Type 0
AreNested journal outer [] = Unit {0}
AreNested journal outer (Block p ∷ rest) = IsUnder journal p outer × AreNested journal (BlockMaster p) rest
AreNested journal outer (Rendezvous call ∷ rest) = AreNested journal outer rest

abbrev pub BlocksNestProperly : Type 0
BlocksNestProperly = (journal : List Event) (task : ℕ) → IsLawful journal → AreNested journal (Body (record { 0 = task })) (nest journal task)

-- a master is held by one task at most
abbrev pub OneHolderEach : Type 0
OneHolderEach =
    (journal : List Event) (one other : ℕ) (master : Master)
    → holds one (nest journal one) master ≡ true → holds other (nest journal other) master ≡ true → one ≡ other

-- one live task alone holds the master, and it was made before another
pub record IsHeld (journal : List Event) (task : ℕ) (x : Master) : Type 0 where
  pub holder : ℕ
  pub before : holder < task
  pub held : holds holder (nest journal holder) x ≡ true
  pub live : is_terminated journal holder ≡ false
  pub alone : (other : ℕ) → holds other (nest journal other) x ≡ true → other ≡ holder

-- in a lawful journal what a live task was made under is held so
abbrev pub MastersAreHeld : Type 0
MastersAreHeld =
    (journal : List Event) (task : ℕ) (c : Creation) → IsLawful journal → creation_of journal task ≡ Some c
    → is_terminated journal task ≡ false → IsHeld journal task c.master

-- all that depend on a block that was left are terminated
abbrev pub ALeftBlockHasNoLiveDependent : Type 0
ALeftBlockHasNoLiveDependent =
    (journal : List Event) (block dependent : ℕ) → IsLawful journal → is_left journal block ≡ true
    → depends_on journal dependent (BlockMaster block) ≡ true → is_terminated journal dependent ≡ true
