-- Masters and dependents (9.4), of what the tables hold. The parent of a task's body is the master that
-- the task was made under, that of a block is the next block outside it in its task's nest, else that
-- task's body. A task depends on the master that it was made under and on all that are reached from it by
-- parents.
use Rattle.std.specs.Prelude.{◌≡◌, ℕ, zero, suc, ◌<◌, Bool, true, false, not, ◌==◌, ◌+◌, ◌&&◌, ◌||◌, if◌then◌else◌, Option, Some, None, List, [], ◌∷◌, length}
use Rattle.std.specs.Prelude.{slice_index_or}
use Rattle.ada_events.specs.declared.names.Family.{Family}
use Rattle.ada_events.specs.declared.names.Master.{Master}
use Rattle.ada_events.specs.declared.names.Master.TheVariants.{Body, Block}
use Rattle.ada_events.specs.declared.names.Member.{Member}
use Rattle.ada_events.specs.declared.names.Member.TheVariants.{Block as BlockMember, Rendezvous}
use Rattle.ada_events.specs.Holders.{is_block, has_block, holds, encloses}
use Rattle.ada_tables.specs.declared.phase.Phase.{Phase}
use Rattle.ada_tables.specs.declared.phase.Phase.TheVariants.{Unstarted, Terminated}
use Rattle.std.specs.Prelude.{slice_set}
use Rattle.std.specs.Option.{option_or, option_map_or}
use Rattle.ada_tables.specs.declared.phase.Phase.TheVariants.{Active}

-- what is known of a task: what it was made under, its entries, what it is in, outermost first, and its phase
pub record Facts : Type 0 where
  pub master : Option Master
  pub families : List Family
  pub nest : List Member
  pub phase : Phase

-- no task
abbrev pub nobody : Facts
nobody = record { master = None; families = []; nest = []; phase = Unstarted }

abbrev pub task_at : List Facts → ℕ → Facts
task_at tasks task = slice_index_or tasks task nobody

-- the second master is passed on the way from the first out of a task
abbrev pub passes : ℕ → Facts → Option Master → Master → Bool
passes task facts None to = false
passes task facts (Some from) to = holds task facts.nest from && encloses task facts.nest from to

-- where the way from a master goes on outside a task
abbrev pub beyond : ℕ → Facts → Option Master → Option Master
beyond task facts None = None
beyond task facts (Some from) = if holds task facts.nest from then facts.master else Some from

-- the second master is the first, or reached from it by parents, within the first so many tasks
unfoldable pub reaches : List Facts → ℕ → Option Master → Master → Bool
reaches tasks zero from to = false
reaches tasks (suc task) from to =
    passes task (task_at tasks task) from to || reaches tasks task (beyond task (task_at tasks task) from) to

-- the task depends on the master
abbrev pub depends_on : List Facts → ℕ → Master → Bool
depends_on tasks task master = reaches tasks task (task_at tasks task).master master

abbrev pub is_terminated : Phase → Bool
is_terminated Terminated = true
is_terminated _ = false

-- how many numbers below a bound pass
unfoldable pub count_below : (ℕ → Bool) → ℕ → ℕ
count_below test zero = 0
count_below test (suc n) = count_below test n + (if test n then 1 else 0)

-- the task depends on the master and isn't terminated
abbrev pub is_live_dependent : List Facts → Master → ℕ → Bool
is_live_dependent tasks master task = not (is_terminated (task_at tasks task).phase) && depends_on tasks task master

-- how many dependents of a master aren't terminated
abbrev pub live_dependents : List Facts → Master → ℕ
live_dependents tasks master = count_below (is_live_dependent tasks master) (length tasks)

-- what a contract sees of the tasks: what is known of each, by number, the slot of its first entry, and how many more find room
pub record Known : Type 0 where
  pub tasks : List Facts
  pub firsts : List ℕ
  pub room : ℕ

-- the member is the rendezvous with a call
abbrev pub is_rendezvous : ℕ → Member → Bool
is_rendezvous call (BlockMember opened) = false
is_rendezvous call (Rendezvous met) = met == call

-- a nest without the rendezvous with a call
abbrev pub cut : ℕ → List Member → List Member
cut call [] = []
cut call (member ∷ rest) = if is_rendezvous call member then rest else member ∷ cut call rest

-- the master is the body of a task, or a block of its nest
pub record Stands (tasks : List Facts) (master : Master) : Type 0 where
  pub task : ℕ
  pub within : task < length tasks
  pub held : holds task (task_at tasks task).nest master ≡ true

-- the task was made under, that of a block is the next block outside it in its task's nest, else that
-- task's body. A task depends on the master that it was made under and on all that are reached from it by
-- parents.
-- the master is the body, or an open block, of a task that isn't terminated
pub record IsOpen (tasks : List Facts) (master : Master) : Type 0 where
  pub task : ℕ
  pub within : task < length tasks
  pub held : holds task (task_at tasks task).nest master ≡ true
  pub live : is_terminated (task_at tasks task).phase ≡ false

-- what is known of a task that has just been made
abbrev pub made_facts : Option Master → List Family → Facts
made_facts master families = record { master = master; families = families; nest = []; phase = Unstarted }

-- what is known of the main program at first: it runs, and was made under no master
abbrev pub main_facts : Facts
main_facts = record (made_facts None []) { phase = Active }

-- the tasks, one of them in another nest
abbrev pub with_nest : ℕ → List Member → List Facts → List Facts
with_nest task nest tasks = slice_set tasks task (record (task_at tasks task) { nest = nest })

-- the tasks, one of them in another phase
abbrev pub with_phase : ℕ → Phase → List Facts → List Facts
with_phase task phase tasks = slice_set tasks task (record (task_at tasks task) { phase = phase })

-- a block among the members that come in stands in no nest
abbrev pub IsFresh : Member → List Facts → Type 0
IsFresh (BlockMember block) tasks = (task : ℕ) → task < length tasks → has_block block (task_at tasks task).nest ≡ false
IsFresh (Rendezvous call) tasks = Unit {0}

-- the member isn't a block with live dependents
abbrev pub IsIdle : List Facts → Member → Type 0
IsIdle tasks (BlockMember block) = live_dependents tasks (Block block) ≡ 0
IsIdle tasks (Rendezvous call) = Unit {0}

-- the block that a member is, if it is one
abbrev pub block_of : Member → Option ℕ
block_of (BlockMember opened) = Some opened
block_of (Rendezvous call) = None

-- the block of a nest that is next outside another, where this one stands outside the whole nest
unfoldable pub outside : ℕ → Option ℕ → List Member → Option ℕ
outside block before [] = None
outside block before (member ∷ rest) =
    if is_block block member then before else outside block (option_or (block_of member) before) rest

-- the parent of a block that stands in a task's nest
abbrev pub parent_within : ℕ → List Member → ℕ → Master
parent_within task nest block = option_map_or Block (outside block None nest) (Body (record { 0 = task }))

-- the parent of a block that stands in the nest of one of these tasks, of which the first has that number
unfoldable pub parent_from : ℕ → List Facts → ℕ → Option Master
parent_from task [] block = None
parent_from task (facts ∷ rest) block =
    if has_block block facts.nest then Some (parent_within task facts.nest block) else parent_from (suc task) rest block

-- the parent of a master
abbrev pub parent_of : List Facts → Master → Option Master
parent_of tasks (Body t) = (task_at tasks t.0).master
parent_of tasks (Block block) = parent_from 0 tasks block
