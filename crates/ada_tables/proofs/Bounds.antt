-- How large the numbers are that the tables answer with.
use Rattle.std.proofs.Common.{◌≡◌, ℕ, zero, suc, ◌<◌, ◌≤◌, Bool, false, ◌&&◌, List, [], ◌∷◌, length, get_or, refl, ap, ◌∙◌, arith, inl, inr}
use Rattle.std.proofs.lemmas.Bool.{cases_Bool, and_right}
use Rattle.std.proofs.lemmas.List.{length-map, get_or_read}
use Rattle.ada_events.specs.declared.names.Master.{Master}
use Rattle.ada_events.specs.declared.names.Master.TheVariants.{Body}
use Rattle.ada_tables.specs.declared.task.Task.{Task}
use Rattle.ada_tables.specs.Dependents.{Facts, reaches, depends_on, count_below, live_dependents}
use Rattle.ada_tables.specs.Counts.{facts}
use Rattle.ada_tables.specs.internal.Counts.{no_record, AreCounted}

-- one at least isn't counted where the first doesn't pass
count_but_first : (test : ℕ → Bool) (many : ℕ) → test 0 ≡ false → count_below test (suc many) ≤ many
unfolding count_below
count_but_first test zero none = rw none (omega arith)
count_but_first test (suc many) none =
    let before = count_but_first test many none in
    elim (cases_Bool (test (suc many))) [ inl is ↦ rw is (omega (arith, before)) | inr isnt ↦ rw isnt (omega (arith, before)) ]

-- the main program depends on nothing
main_depends : (tasks : List Facts) (master : Master) → depends_on tasks 0 master ≡ false
unfolding reaches
main_depends tasks master = refl

few_dependents : (tasks : List Facts) (master : Master) (test : ℕ → Bool) → length tasks ≤ 256
    → count_below (λ task. test task && depends_on tasks task master) (length tasks) ≤ 255
unfolding count_below
few_dependents [] master test few = omega arith
few_dependents (first ∷ rest) master test few =
    omega (
      arith,
      few,
      count_but_first (λ task. test task && depends_on (first ∷ rest) task master) (length rest)
          (and_right _ _ (main_depends (first ∷ rest) master)),
    )

-- how many dependents are counted
pub live_fits : (tasks : List Task) (master : Master) (count : ℕ) → AreCounted tasks → count ≡ live_dependents (facts tasks) master → count ≤ 255
live_fits tasks master count right is = rw is (few_dependents (facts tasks) master _ (rw length-map right.few))

pub body_fits : (tasks : List Task) (task : ℕ) (read : Task) → AreCounted tasks → task < length tasks → read ≡ get_or tasks task read → read.live ≤ 255
body_fits tasks task read right low is =
    live_fits tasks (Body (record { 0 = task })) read.live right
    (ap (λ (t : Task). t.live) (get_or_read tasks task read low is no_record) ∙ right.bodies task low)

-- of the dependents that pass a test
pub dependents_fit : (tasks : List Facts) (test : ℕ → Bool) (master : Master) (many count : ℕ) → many ≡ length tasks → many ≤ 256
    → count ≡ count_below (λ task. test task && depends_on tasks task master) many → count ≤ 255
dependents_fit tasks test master many count all few is = rw (is, all) (few_dependents tasks master test (rw all at few))
