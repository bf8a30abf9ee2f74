-- Tasks that were never started and never will be (9.3, 9.4).
use Rattle.std.proofs.Common.{◌≡◌, ℕ, ◌<◌, Bool, true, false, ◌&&◌, ◌||◌, eqb, ltb, Some, None, List, refl, sym, ap, ◌∙◌}
use Rattle.std.specs.List.{list_any}
use Rattle.std.specs.Option.{option_and_then}
use Rattle.std.specs.Bool.{then_some}
use Rattle.std.proofs.lemmas.Bool.{eqb-true, lt-ltb, false_from_ne_true, true_from_ne_false, true≢false}
use Rattle.std.proofs.lemmas.Option.{none-some}
use Rattle.ada_events.specs.declared.event.Event.{Event}
use Rattle.ada_events.specs.declared.event.Event.TheVariants.{Opened, Gone}
use Rattle.ada_events.specs.declared.names.TaskNo.{TaskNo}
use Rattle.ada_events.specs.declared.names.Master.{Master}
use Rattle.ada_events.specs.declared.names.Master.TheVariants.{Body, Block}
use Rattle.ada_events.specs.Search.{event_at}
use Rattle.ada_events.specs.Says.{Closing, opening_in, opening_at, closing_in}
use Rattle.ada_events.specs.Tasks.{task_count}
use Rattle.ada_events.specs.Phases.{is_completed, is_terminated}
use Rattle.ada_events.specs.Nests.{nest, is_left}
use Rattle.ada_events.specs.Termination.{all_terminated, is_complete_block, is_complete, is_abandoned}
use Rattle.ada_events.specs.Forced.{task_no, is_to_go}
use Rattle.ada_events.specs.Lawful.{IsLawful}
use Rattle.ada_laws.proofs.within.Framing.{IsBlockOf}
use Rattle.ada_laws.proofs.searching.Searching.{option_map_or-true}
use Rattle.ada_step_laws.specs.declared.row.Row.TheVariants.{Terminating}
use Rattle.ada_step_laws.specs.Rows.{step_at}
use Rattle.ada_step_laws.proofs.newly.Completing.{unclosed_unleft}
use Rattle.ada_step_laws.proofs.newly.Places.{closer_owns}
use Rattle.ada_events.specs.Holders.{has_block}
use Rattle.ada_laws.proofs.within.Owners.{nest_has_block}
use Rattle.ada_view.specs.internal.Ending.{closes}
use Rattle.ada_view.proofs.Closing.{any_found}

-- a block that is left is complete
pub left_complete : (journal : List Event) (by : TaskNo) (under : Master) (block : ℕ) → event_at journal block ≡ Some (Opened by under)
    → has_block block (nest journal by.0) ≡ false → true ≡ is_complete journal (Block block)
unfolding is_complete is_complete_block opening_in
left_complete journal by under block stands without =
    let own : IsBlockOf journal by.0 block = record
    { event = Opened by under; opening = record { by = by.0; under = under }; stands = stands; says = refl; by = refl } in
    let left : is_left journal block ≡ true = true_from_ne_false (is_left journal block)
    (λ unleft. true≢false (sym (nest_has_block journal by.0 block own unleft) ∙ without)) in
    let closed : list_any (closes block) journal ≡ true = true_from_ne_false (list_any (closes block) journal)
    (λ unclosed. true≢false (sym left ∙ unclosed_unleft journal block unclosed)) in
    rw closed refl

unclosed_there : (journal : List Event) (block : ℕ) → IsLawful journal → opening_at journal block ≡ None → list_any (closes block) journal ≡ false
unclosed_there journal block lawful none =
    false_from_ne_true (list_any (closes block) journal) (λ closed.
    let (q, d, at, found) = any_found (closes block) journal closed in
    let (k, says, of) = option_map_or-true (λ (c : Closing). eqb c.block block) (closing_in d) found in
    let own = closer_owns journal q d k lawful at says in
    none-some own.opening (sym none ∙ ap (opening_at journal) (sym (eqb-true k.block block of)) ∙ ap (option_and_then opening_in) own.stands ∙ own.says))

-- what isn't the opening of a block is no block that could be complete
pub no_block_complete : (journal : List Event) (block : ℕ) → IsLawful journal → opening_at journal block ≡ None → false ≡ is_complete journal (Block block)
unfolding is_complete is_complete_block
no_block_complete journal block lawful none = rw (none, unclosed_there journal block lawful none) refl

pub not_opened : (e : Event) → ((by : TaskNo) (under : Master) → e ≡ Opened by under → ⊥) → opening_in e ≡ None
unfolding opening_in
not_opened (Opened by under) other = absurd (other by under refl)
not_opened _ other = refl

-- ---- the row

-- a task that is terminated doesn't go
pub gone_stays : (journal : List Event) (task : ℕ) → is_terminated journal task ≡ true → false ≡ is_to_go journal task
unfolding is_to_go
gone_stays journal task ended = rw ended refl

-- of no number no task goes
pub unknown_stays : (journal : List Event) (task : ℕ) → ltb task (task_count journal) ≡ false → step_at journal Terminating task ≡ None
unfolding step_at
unknown_stays journal task beyond = rw beyond refl

pub known_goes : (journal : List Event) (task : ℕ) → task < task_count journal
    → step_at journal Terminating task ≡ then_some (is_to_go journal task) (Gone (task_no task))
unfolding step_at
known_goes journal task known = rw (lt-ltb task (task_count journal) known) refl

-- another task goes where it is left alone or abandoned
pub live_goes : (journal : List Event) (task : TaskNo) → is_terminated journal task.0 ≡ false
    → ((is_completed journal task.0 && all_terminated journal (Body task)) || is_abandoned journal task.0) ≡ is_to_go journal task.0
unfolding is_to_go
live_goes journal task lives = rw lives refl

pub alone_or : (a o : Bool) → a ≡ true → a ≡ (a || o)
alone_or a o is = rw is refl

pub else_or : (a o : Bool) → a ≡ false → o ≡ (a || o)
else_or a o isnt = rw isnt refl
