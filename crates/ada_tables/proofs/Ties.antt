-- What ties the parts of the tables to one another.
use Rattle.std.proofs.Common.{◌≡◌, ℕ, zero, suc, ◌+◌, ◌<◌, ◌≤◌, List, [], ◌∷◌, length, get_or, set, refl, ap, sym, ◌∙◌, arith}
use Rattle.std.specs.List.{sum_by}
use Rattle.std.specs.Prelude.{slice_index}
use Rattle.std.proofs.lemmas.List.{map-set, length-set, length-map, set-get_or, take_all}
use Rattle.std.proofs.lemmas.List.Sums.{sum_by_more_le}
use Rattle.ada_events.specs.declared.names.Member.{Member}
use Rattle.ada_events.specs.Entries.{entries_in}
use Rattle.ada_tables.specs.declared.phase.Phase.{Phase}
use Rattle.ada_tables.specs.Dependents.{Facts, Known, task_at, with_nest, with_phase, main_facts}
use Rattle.ada_tables.specs.Queues.{QueuedCall}
use Rattle.ada_tables.specs.Tables.{declared, slots_before}
use Rattle.ada_tables.specs.internal.Tables.{AreTied}

declared_at : (tasks : List Facts) (task : ℕ) → (task_at tasks task).families ≡ get_or (declared tasks) task []
declared_at [] task = refl
declared_at (first ∷ rest) zero = refl
declared_at (first ∷ rest) (suc task) = declared_at rest task

declared-set : (tasks : List Facts) (task : ℕ) (new : Facts) → new.families ≡ (task_at tasks task).families → declared (set tasks task new) ≡ declared tasks
declared-set tasks task new same =
    map-set (λ (f : Facts). f.families) tasks task new ∙ ap (set (declared tasks) task) (same ∙ declared_at tasks task) ∙ set-get_or (declared tasks) task []

-- the parts stay tied where no task and no entry is added
tied_same : (old new : List Facts) (queues : List (List QueuedCall)) (callers : ℕ) (firsts : List ℕ) → length new ≡ length old → declared new ≡ declared old
    → AreTied old queues callers firsts → AreTied new queues callers firsts
tied_same old new queues callers firsts long same tied =
    record {
      callers_known = tied.callers_known ∙ sym long;
      firsts_known = tied.firsts_known ∙ sym long;
      first = λ task low. tied.first task (rw long at low) ∙ ap (λ fs. slots_before fs task) (sym same);
      all = tied.all ∙ ap (slots_before (declared old)) (sym long) ∙ ap (λ fs. slots_before fs (length new)) (sym same);
      few = tied.few;
    }

pub tied_nest : (old new : Known) (queues : List (List QueuedCall)) (callers : ℕ) (task : ℕ) (nest : List Member) → new ≡ record old {
  tasks =
      with_nest task nest old.tasks;
} → AreTied old.tasks queues callers old.firsts → AreTied new.tasks queues callers new.firsts
tied_nest old new queues callers task nest is tied =
    rw is (tied_same old.tasks (with_nest task nest old.tasks) queues callers old.firsts (length-set old.tasks task _)
    (declared-set old.tasks task (record (task_at old.tasks task) { nest = nest }) refl) tied)

pub tied_phase : (old new : Known) (queues : List (List QueuedCall)) (callers : ℕ) (task : ℕ) (phase : Phase) → new ≡ record old {
  tasks =
      with_phase task phase old.tasks;
} → AreTied old.tasks queues callers old.firsts → AreTied new.tasks queues callers new.firsts
tied_phase old new queues callers task phase is tied =
    rw is (tied_same old.tasks (with_phase task phase old.tasks) queues callers old.firsts (length-set old.tasks task _)
    (declared-set old.tasks task (record (task_at old.tasks task) { phase = phase }) refl) tied)

-- the main program alone, which runs
pub tied_main : (tasks : List Facts) (queues : List (List QueuedCall)) (callers : ℕ) (firsts : List ℕ) → tasks ≡ main_facts ∷ [] → queues ≡ [] → callers ≡ 1
    → firsts ≡ 0 ∷ [] → AreTied tasks queues callers firsts
unfolding entries_in
tied_main tasks queues callers firsts tasks_are queues_are callers_are firsts_are =
    rw (tasks_are, queues_are, callers_are, firsts_are) (record {
      callers_known = refl;
      firsts_known = refl;
      first = λ task low. let none : task ≡ 0 = omega arith in rw none refl;
      all = refl;
      few = omega arith;
    })

-- the slots of a task are among all
pub slots_within : (tasks : List Facts) (queues : List (List QueuedCall)) (callers : ℕ) (firsts : List ℕ) (task : ℕ) → AreTied tasks queues callers firsts
    → task < length tasks → slots_before (declared tasks) task + entries_in (task_at tasks task).families ≤ length queues
slots_within tasks queues callers firsts task tied low =
    let many = length-map tasks (λ (f : Facts). f.families) in
    let whole : length (declared tasks) ≤ length tasks = omega (arith, many) in
    let sum = sum_by_more_le entries_in (declared tasks) task [] (omega (arith, many)) in
    let total : length queues ≡ sum_by entries_in (declared tasks) = tied.all ∙ ap (sum_by entries_in) (take_all (length tasks) (declared tasks) whole) in
    rw declared_at (omega (arith, sum, total))

-- the slot of an entry is one of all
pub slot_fits : (tasks : List Facts) (queues : List (List QueuedCall)) (callers : ℕ) (firsts : List ℕ) (task : ℕ) (first number : ℕ)
    → AreTied tasks queues callers firsts → task < length tasks → first ≡ slice_index firsts task → number < entries_in (task_at tasks task).families
    → (first ≡ slots_before (declared tasks) task) × (first + number < length queues) × (length queues ≤ 1024)
slot_fits tasks queues callers firsts task first number tied low first_is below =
    let starts = tied.first task low in
    let inside = slots_within tasks queues callers firsts task tied low in
    (first_is ∙ starts, omega (arith, first_is, starts, inside, below), tied.few)

pub few_entries : (tasks : List Facts) (queues : List (List QueuedCall)) (callers : ℕ) (firsts : List ℕ) (task : ℕ) → AreTied tasks queues callers firsts
    → task < length tasks → entries_in (task_at tasks task).families ≤ 1024
few_entries tasks queues callers firsts task tied low = omega (arith, slots_within tasks queues callers firsts task tied low, tied.few)
