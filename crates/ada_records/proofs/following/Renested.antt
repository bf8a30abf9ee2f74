-- Tables in which a task's nest changes.
use Rattle.std.proofs.Common.{◌≡◌, ℕ, ◌<◌, false, Some, List, ◌∷◌, sym, ap, ◌∙◌, subst, arith, inl, inr}
use Rattle.std.proofs.lemmas.Bool.{cases_eq}
use Rattle.std.proofs.lemmas.List.{length-set, get_or-set_same, get_or-set_other}
use Rattle.ada_events.specs.declared.event.Event.{Event}
use Rattle.ada_events.specs.declared.names.Master.TheVariants.{Block as BlockMaster}
use Rattle.ada_events.specs.declared.names.Member.{Member}
use Rattle.ada_events.specs.declared.names.Member.TheVariants.{Block, Rendezvous}
use Rattle.ada_events.specs.Tasks.{task_count}
use Rattle.ada_events.specs.Nests.{innermost, nest}
use Rattle.ada_events.specs.Lawful.{IsLawful}
use Rattle.ada_tables.specs.Dependents.{Facts, nobody, task_at, with_nest, IsIdle}
use Rattle.ada_tables.specs.Standing.{facts_in}
use Rattle.ada_records.specs.Facing.{HoldFacts}
use Rattle.ada_records.specs.internal.Phasing.{facts_between, AreRenested}
use Rattle.ada_records.proofs.turning.Renesting.{IsIdleIn, CanLeave, NestBecomes}
use Rattle.ada_records.proofs.following.Agreeing.{live_alike}
use Rattle.ada_records.proofs.holding.Walking.{same_dependents}

idle_in : (tasks : List Facts) (journal : List Event) (x : Member) → IsLawful journal → HoldFacts tasks journal → IsIdleIn journal x → IsIdle tasks x
idle_in tasks journal (Block b) lawful hold idle =
    live_alike tasks journal (BlockMaster b) hold (same_dependents tasks journal lawful hold (BlockMaster b)) ∙ idle
idle_in tasks journal (Rendezvous call) lawful hold idle = tt

-- the innermost member that a task leaves has no live dependents in the tables
pub idle_left : (tasks : List Facts) (journal : List Event) (task : ℕ) (x : Member) → IsLawful journal → HoldFacts tasks journal → task < task_count journal
    → CanLeave journal task → innermost (task_at tasks task).nest ≡ Some x → IsIdle tasks x
idle_left tasks journal task x lawful hold known leaves inner =
    idle_in tasks journal x lawful hold (leaves.idle x (ap (λ (f : Facts). innermost f.nest) (sym (hold.facts task known)) ∙ inner))

-- no nest is changed
pub nests_same : (event : Event) (before : List Event) (tasks : List Facts) → HoldFacts tasks before
    → ((task : ℕ) → nest (event ∷ before) task ≡ nest before task) → AreRenested event before tasks
nests_same event before tasks hold same = record {
  many = hold.many;
  facts = λ t below. hold.facts t below ∙ ap (λ (n : List Member). record (facts_in before t) { nest = n }) (sym (same t));
}

-- one task's nest is changed
pub nest_becomes : (event : Event) (before : List Event) (tasks : List Facts) (task : ℕ) (change : List Member → List Member) → HoldFacts tasks before
    → NestBecomes event before task (change (nest before task)) → AreRenested event before (with_nest task (change (task_at tasks task).nest) tasks)
nest_becomes event before tasks task change hold becomes = record {
  many = length-set tasks task changed ∙ hold.many;
  facts = λ t below.
      elim (cases_eq t task) [
        | inl same ↦
            subst (λ (n : ℕ). task_at (with_nest task changed.nest tasks) n ≡ facts_between event before false n) (sym same)
            (get_or-set_same tasks task changed nobody (omega (arith, becomes.known, hold.many)) ∙ own)
        | inr differs ↦
            get_or-set_other tasks task t changed nobody differs
            ∙ hold.facts t below
            ∙ ap (λ (n : List Member). record (facts_in before t) { nest = n }) (sym (becomes.others t differs))
      ];
}
  where
    changed : Facts
    changed = record (task_at tasks task) { nest = change (task_at tasks task).nest }

    own : changed ≡ facts_between event before false task
    own =
        ap (λ (f : Facts). record f { nest = change f.nest }) (hold.facts task becomes.known)
        ∙ ap (λ (n : List Member). record (facts_in before task) { nest = n }) (sym becomes.own)
