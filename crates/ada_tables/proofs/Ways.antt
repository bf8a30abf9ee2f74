-- Walking outwards from a master, and counting who passes a test.
use Rattle.std.proofs.Common.{◌≡◌, ℕ, ◌+◌, ◌<◌, Bool, true, false, ◌||◌, List, Some, None, length, get_or, refl, ap, sym, ◌∙◌, arith, add-one}
use Rattle.std.specs.Prelude.{if◌then◌else◌}
use Rattle.ada_events.specs.declared.names.Master.{Master}
use Rattle.std.proofs.lemmas.List.{get_or_default}
use Rattle.ada_tables.specs.declared.task.Task.{Task}
use Rattle.ada_tables.specs.Layers.{members}
use Rattle.ada_events.specs.Holders.{holds, encloses}
use Rattle.ada_tables.specs.Dependents.{Facts, task_at, reaches, depends_on, count_below}
use Rattle.ada_tables.specs.Counts.{facts}
use Rattle.ada_tables.specs.internal.Counts.{no_record, record_at, IsLed}
use Rattle.ada_tables.proofs.Reaching.{reaches_none, Leads, leads}
use Rattle.ada_tables.proofs.Alongs.{facts_at, master_read}

module _ (tasks : List Task) (number : ℕ) (to : Master) (within : number < length tasks) (led : IsLed tasks number) where
  -- the main program was made under none, and depends on none
  pub way_ends : (d : Task) → (get_or tasks number d).master ≡ None → false ≡ depends_on (facts tasks) number to
  way_ends d none = sym (ap (λ m. reaches (facts tasks) number m to) (master_read tasks number d within ∙ none) ∙ reaches_none (facts tasks) number to)

  module _ (from : Master) (d e : Task) (is : (get_or tasks number d).master ≡ Some from) where
    abbrev holder : ℕ
    holder = (get_or tasks number e).holder

    -- the way goes by the holder
    pub way_leads : Leads tasks number from (get_or tasks number e).holder
    way_leads =
        let kept : (record_at tasks number).holder ≡ holder = ap (λ (t : Task). t.holder) (get_or_default tasks number no_record e within) in
        leads tasks number from holder (rw (master_read tasks number d within ∙ is, kept) at led)

    pub way_within : (get_or tasks number e).holder < length tasks
    way_within = let way = way_leads in omega (arith, way.low)

    nest_read : (f : Task) → (task_at (facts tasks) holder).nest ≡ members (get_or tasks holder f).nest
    nest_read f =
        ap (λ (g : Facts). g.nest) (facts_at tasks holder)
        ∙ ap (λ (t : Task). members t.nest) (get_or_default tasks holder no_record f way_within)

    -- and the holder holds the master
    pub way_held : (f : Task) → holds (get_or tasks number e).holder (members (get_or tasks (get_or tasks number e).holder f).nest) from ≡ true
    way_held f = sym (ap (λ nest. holds holder nest from) (nest_read f)) ∙ way_leads.held

    way_step : (f : Task) → depends_on (facts tasks) number to
        ≡ (encloses holder (members (get_or tasks holder f).nest) from to || depends_on (facts tasks) holder to)
    way_step f =
        ap (λ m. reaches (facts tasks) number m to) (master_read tasks number d within ∙ is)
        ∙ way_leads.way to ∙ ap (λ nest. encloses holder nest from to || depends_on (facts tasks) holder to) (nest_read f)

    pub way_arrives : (f : Task) → encloses (get_or tasks number e).holder (members (get_or tasks (get_or tasks number e).holder f).nest) from to ≡ true
        → true ≡ depends_on (facts tasks) number to
    way_arrives f passed = sym (way_step f ∙ rw passed refl)

    pub way_goes_on : (f : Task) → encloses (get_or tasks number e).holder (members (get_or tasks (get_or tasks number e).holder f).nest) from to ≡ false
        → depends_on (facts tasks) number to ≡ depends_on (facts tasks) (get_or tasks number e).holder to
    way_goes_on f passed = way_step f ∙ rw passed refl

pub count_more : (test : ℕ → Bool) (many : ℕ) → count_below test (many + 1) ≡ count_below test many + (if test many then 1 else 0)
unfolding count_below
count_more test many = rw add-one refl

-- one more number is counted if it passes
counted_more : (test : ℕ → Bool) (many count more : ℕ) (here : Bool) → count ≡ count_below test many → here ≡ test many → more ≡ (if here then 1 else 0)
    → count + more ≡ count_below test (many + 1)
counted_more test many count more here so_far here_is more_is = rw (so_far, more_is, here_is) (sym (count_more test many))

pub counted_one : (test : ℕ → Bool) (many count : ℕ) → count ≡ count_below test many → test many ≡ true → count + 1 ≡ count_below test (many + 1)
counted_one test many count so_far here = counted_more test many count 1 true so_far (sym here) refl

pub counted_none : (test : ℕ → Bool) (many count : ℕ) → count ≡ count_below test many → test many ≡ false → count ≡ count_below test (many + 1)
counted_none test many count so_far here = omega (arith, counted_more test many count 0 false so_far (sym here) refl)

pub count_nothing : (test : ℕ → Bool) → 0 ≡ count_below test 0
unfolding count_below
count_nothing test = refl
