-- Blocks that are left, and dependents that tables count.
use Rattle.std.proofs.Common.{◌≡◌, ℕ, zero, suc, ◌<◌, ◌+◌, Bool, true, false, if◌then◌else◌, not, ◌&&◌, ◌||◌, eqb, Some, List, refl, sym, ap, ◌∙◌, subst, arith}
use Rattle.std.proofs.lemmas.Bool.{ne_eqb}
use Rattle.ada_events.specs.declared.event.Event.{Event}
use Rattle.ada_events.specs.declared.event.Event.TheVariants.{Closed}
use Rattle.ada_events.specs.declared.names.TaskNo.{TaskNo}
use Rattle.ada_events.specs.declared.names.Master.{Master}
use Rattle.ada_events.specs.declared.names.Master.TheVariants.{Block}
use Rattle.ada_events.specs.Search.{event_at, all_below}
use Rattle.ada_events.specs.Says.{closing_in, held_in}
use Rattle.ada_events.specs.Tasks.{task_count}
use Rattle.ada_events.specs.Masters.{depends_on}
use Rattle.ada_events.specs.Phases.{is_terminated}
use Rattle.ada_events.specs.Calls.{is_pending}
use Rattle.ada_events.specs.Nests.{nest}
use Rattle.ada_events.specs.Termination.{all_terminated}
use Rattle.ada_events.specs.Lawful.{IsLawful}
use Rattle.ada_laws.proofs.held.Suspending.{suspended_exists}
use Rattle.ada_events.specs.Holders.{holds}
use Rattle.ada_tables.specs.Dependents.{Facts, Stands, count_below, live_dependents}
use Rattle.ada_tables.specs.Tables.{TableState}
use Rattle.ada_tables.specs.Standing.{StandFor}
use Rattle.ada_step_laws.proofs.newly.Places.{closer_within}
use Rattle.ada_step_laws.proofs.newly.Waiting.{suspended_at}
use Rattle.ada_laws.proofs.within.Owners.{has_contained}
use Rattle.ada_view.specs.Views.{IsHeldBySome}

-- a master that a task holds stands in the tables
pub held_stands : (tables : TableState) (journal : List Event) (master : Master) → StandFor tables journal → IsHeldBySome journal master
    → Stands tables.tasks master
held_stands tables journal master stand held = record {
  task = held.task;
  within = subst (λ n. held.task < n) (sym stand.many) held.known;
  held = ap (λ (f : Facts). holds held.task f.nest master) (stand.tasks held.task held.known) ∙ held.held;
}

no_more : (n : ℕ) → n + 0 ≡ n
no_more n = omega arith

and_true : (b good : Bool) → good ≡ true → b ≡ (b && good)
and_true true good is = sym is
and_true false good is = refl

and_none : (b good : Bool) → good ≡ false → false ≡ (b && good)
and_none true good is = sym is
and_none false good is = refl

one_passes : (count : ℕ) (passes good : Bool) → good ≡ not passes → eqb (count + (if passes then 1 else 0)) 0 ≡ (eqb count 0 && good)
one_passes count true good other = ne_eqb (count + 1) 0 (λ none. omega (arith, none)) ∙ and_none (eqb count 0) good other
one_passes count false good other = ap (λ k. eqb k 0) (no_more count) ∙ and_true (eqb count 0) good other

-- none passes exactly where all others do
pub none_counted : (test good : ℕ → Bool) → ((u : ℕ) → good u ≡ not (test u)) → (n : ℕ) → eqb (count_below test n) 0 ≡ all_below good n
unfolding count_below all_below
none_counted test good other zero = refl
none_counted test good other (suc n) =
    one_passes (count_below test n) (test n) (good n) (other n) ∙ ap (λ b. b && good n) (none_counted test good other n)

live_bits : (t d : Bool) → (not d || t) ≡ not (not t && d)
live_bits true true = refl
live_bits true false = refl
live_bits false true = refl
live_bits false false = refl

-- all dependents are terminated exactly where none is counted
pub none_live : (tables : TableState) (journal : List Event) (master : Master) → StandFor tables journal → IsHeldBySome journal master
    → eqb (live_dependents tables.tasks master) 0 ≡ all_terminated journal master
unfolding all_terminated
none_live tables journal master stand held =
    ap (λ n. eqb n 0) (stand.live master (held_stands tables journal master stand held))
    ∙ none_counted (λ u. not (is_terminated journal u) && depends_on journal u master) (λ u. not (depends_on journal u master) || is_terminated journal u)
    (λ u. live_bits (is_terminated journal u) (depends_on journal u master)) (task_count journal)

-- the task that is suspended at a close is within its block
pub closed_held : (journal : List Event) (at : ℕ) (by : TaskNo) (block : ℕ) → IsLawful journal → event_at journal at ≡ Some (Closed by block)
    → is_pending journal at by.0 ≡ true → IsHeldBySome journal (Block block)
unfolding closing_in held_in
closed_held journal at by block lawful stands pending =
    let suspended = suspended_at journal at by.0 (Closed by block) stands refl pending in
    let (k, below, is) = closer_within journal (record { by = by.0; block = block }) at lawful
    (record { event = Closed by block; stands = stands; says = refl }) suspended in
    record {
      task = by.0;
      known = suspended_exists journal by.0 at lawful suspended;
      held = has_contained (nest journal by.0) block k below is;
    }
