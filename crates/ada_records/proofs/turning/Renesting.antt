-- What an event changes in what tasks are within: in one task's nest at most.
use Rattle.std.proofs.Common.{◌≡◌, ℕ, ◌<◌, ◌-◌, false, List, [], ◌∷◌, ◌++◌, length, take}
use Rattle.std.specs.Option.{ForSome}
use Rattle.ada_events.specs.declared.event.Event.{Event}
use Rattle.ada_events.specs.declared.limits.TheConstants.{MOST_MEMBERS}
use Rattle.ada_events.specs.declared.names.Master.TheVariants.{Block as BlockMaster}
use Rattle.ada_events.specs.declared.names.Member.{Member}
use Rattle.ada_events.specs.declared.names.Member.TheVariants.{Block, Rendezvous}
use Rattle.ada_events.specs.declared.names.TaskNo.{TaskNo}
use Rattle.ada_events.specs.Tasks.{task_count}
use Rattle.ada_events.specs.Nests.{nest, innermost}
use Rattle.ada_events.specs.Holders.{has_block}
use Rattle.ada_tables.specs.Dependents.{cut}
use Rattle.ada_tables.specs.Standing.{live_count}

-- what an event changes in what tasks are within
pub data NestChange : Type 0 where
  Nothing : NestChange
  -- a task comes into a block that it opened (9.4), or into a rendezvous (9.5)
  Enters : TaskNo → Member → NestChange
  -- a task leaves the innermost block that it is in (9.4)
  LeavesBlock : TaskNo → NestChange
  -- the rendezvous with the call at a position ends for the task called (9.5)
  EndsRendezvous : TaskNo → ℕ → NestChange

-- one existing task's nest becomes these members, and all others stay
pub record NestBecomes (event : Event) (before : List Event) (task : ℕ) (members : List Member) : Type 0 where
  pub known : task < task_count before
  pub own : nest (event ∷ before) task ≡ members
  pub others : (other : ℕ) → (other ≡ task → ⊥) → nest (event ∷ before) other ≡ nest before other

-- nobody is within the block yet
abbrev pub IsNewIn : List Event → Member → Type 0
IsNewIn journal (Block block) = (task : ℕ) → has_block block (nest journal task) ≡ false
IsNewIn journal (Rendezvous call) = Unit {0}

-- the nest has room for one more member, which is new
pub record CanEnter (journal : List Event) (task : ℕ) (member : Member) : Type 0 where
  pub shallow : length (nest journal task) < MOST_MEMBERS
  pub new : IsNewIn journal member

-- the member isn't a block with live dependents
abbrev pub IsIdleIn : List Event → Member → Type 0
IsIdleIn journal (Block block) = live_count journal (BlockMaster block) ≡ 0
IsIdleIn journal (Rendezvous call) = Unit {0}

-- the task is within something, and its innermost member isn't a block with live dependents
pub record CanLeave (journal : List Event) (task : ℕ) : Type 0 where
  pub inside : 0 < length (nest journal task)
  pub idle : ForSome (innermost (nest journal task)) (IsIdleIn journal)

-- an event changes nests so
abbrev pub ChangesNests : Event → List Event → NestChange → Type 0
ChangesNests event before Nothing = (task : ℕ) → nest (event ∷ before) task ≡ nest before task
ChangesNests event before (Enters task member) =
    CanEnter before task.0 member × NestBecomes event before task.0 (nest before task.0 ++ member ∷ [])
ChangesNests event before (LeavesBlock task) =
    CanLeave before task.0
    × NestBecomes event before task.0 (take (length (nest before task.0) - 1) (nest before task.0))
ChangesNests event before (EndsRendezvous task call) = NestBecomes event before task.0 (cut call (nest before task.0))
