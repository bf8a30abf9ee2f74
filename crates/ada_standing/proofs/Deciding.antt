-- Whether a second journal may stand in for a first one, computed: a test for each clause, with names by lists.
use Rattle.std.proofs.Common.{ℕ, suc, Bool, true, false, not, ◌&&◌, ◌||◌, eqb, ltb, leb, Option, Some, List, length, map, is_some}
use Rattle.std.specs.Option.{option_map_or, option_and_then}
use Rattle.std.specs.List.{list_any, list_all}
use Rattle.ada_events.specs.declared.event.Event.{Event}
use Rattle.ada_events.specs.declared.names.TaskNo.{TaskNo}
use Rattle.ada_events.specs.declared.names.Master.TheVariants.{Body, Block}
use Rattle.ada_events.specs.Search.{is_number, all_below, event_at}
use Rattle.ada_events.specs.Says.{Call, Wait, Delay, Start, Closing, call_in, wait_in, delay_in, start_in, closing_in, held_in}
use Rattle.ada_events.specs.Entries.{same_index, same_entry}
use Rattle.ada_events.specs.Tasks.{has_task, task_count, families_of, moment}
use Rattle.ada_events.specs.Masters.{same_master}
use Rattle.ada_events.specs.Phases.{lists_task, has_start, is_started, is_elaborated, has_failed, is_completed, is_terminated, has_ended, is_abnormal}
use Rattle.ada_events.specs.Phases.{is_released, is_suspended}
use Rattle.ada_events.specs.Calls.{is_met}
use Rattle.ada_events.specs.Nests.{nest}
use Rattle.ada_events.specs.Termination.{is_complete, is_abandoned}
use Rattle.ada_events.specs.Outcomes.{outcome_of}
use Rattle.ada_events.specs.Forced.{is_conditional, is_done_activating, task_no}
use Rattle.ada_laws.specs.Masters.{parent_of}
use Rattle.ada_standing.specs.declared.renaming.Place.{Place}
use Rattle.ada_standing.specs.Renaming.{renamed_master, renamed_member, renamed_outcome, renamed_parent}
use Rattle.ada_standing.specs.Names.{Names, named, placed, renaming_of}
use Rattle.ada_standing.specs.Holds.{is_same_kind}
use Rattle.ada_events.specs.Holders.{is_block}
use Rattle.ada_standing.specs.StandsIn.{is_live, activator_of, made_within}
use Rattle.ada_standing.proofs.Sameness.{same_Bool, same_option, same_list, same_family, same_choice, same_tail, same_member, same_outcome}

-- all tasks that may still be named pass, each with the one that stands for it
abbrev pub all_named : Names → (ℕ → ℕ → Bool) → Bool
all_named names test = all_below (λ u. option_map_or (test u) (named names.tasks u) true) (length names.tasks)

-- all places pass, each by its old position and its new one
abbrev pub all_placed : Names → (ℕ → ℕ → Bool) → Bool
all_placed names test = list_all (λ (place : Place). test place.old place.new) names.places

-- both are there and pass together
abbrev pub both_pass : {A B : Type 0} → (A → B → Bool) → Option A → Option B → Bool
both_pass test (Some x) (Some y) = test x y
both_pass test _ _ = false

-- among the positions that pass together, the order is kept; the test is computed only where it isn't
abbrev pub keeps_order : Names → (ℕ → ℕ → Bool) → Bool
keeps_order names test =
    all_placed names (λ p a. all_placed names (λ q b. elim (ltb p q && not (ltb a b)) [ true ↦ not (test p q) | false ↦ true ]))

-- what holds tasks up

abbrev pub same_call : List Event → List Event → Names → ℕ → ℕ → Call → Call → Bool
same_call old new names p q c d =
    same_option eqb (named names.tasks c.callee) (Some d.callee) && same_entry d.entry c.entry && same_Bool (is_met new q) (is_met old p)
    && (is_met old p || (same_Bool (is_conditional d.patience) (is_conditional c.patience) && same_option same_index d.due c.due))

abbrev pub same_wait : Wait → Wait → Bool
same_wait w v = same_list same_choice v.choices w.choices && same_tail v.tail w.tail && eqb v.pick w.pick

abbrev pub same_delay : Delay → Delay → Bool
same_delay a b = same_index b.due a.due

abbrev pub same_start : List Event → List Event → Names → Start → Start → Bool
same_start old new names s r =
    all_named names (λ u v. is_done_activating old (task_no u) || same_Bool (lists_task v r.tasks) (lists_task u s.tasks))
    && same_Bool (list_any (λ (t : TaskNo). has_failed new t.0) r.tasks) (list_any (λ (t : TaskNo). has_failed old t.0) s.tasks)

abbrev pub same_closing : Names → Closing → Closing → Bool
same_closing names a b = same_option eqb (placed names.places a.block) (Some b.block)

abbrev pub same_hold : List Event → List Event → Names → ℕ → ℕ → Event → Event → Bool
same_hold old new names p q d e =
    both_pass (same_call old new names p q) (call_in d) (call_in e)
    || (both_pass same_wait (wait_in d) (wait_in e)
    || (both_pass same_delay (delay_in d) (delay_in e)
    || (both_pass (same_start old new names) (start_in d) (start_in e)
    || both_pass (same_closing names) (closing_in d) (closing_in e))))

-- the event at the position holds the task up and isn't released
abbrev pub holds : List Event → ℕ → ℕ → Event → Bool
holds journal task position event = is_number task (held_in event) && not (is_released journal position)

-- what stands at the position holds v up like the event at p
abbrev pub held_there : List Event → List Event → Names → ℕ → ℕ → Event → ℕ → Bool
held_there old new names v p event at =
    option_map_or (λ (e : Event). holds new v at e && same_hold old new names p at event e) (event_at new at) false

-- where the event at p holds u up, that which stands for it holds v up alike
abbrev pub held_alike : List Event → List Event → Names → ℕ → ℕ → ℕ → Event → Bool
held_alike old new names u v p event = not (holds old u p event) || option_map_or (held_there old new names v p event) (placed names.places p) false

-- the clauses on a task and the one that stands for it

abbrev pub same_task : List Event → List Event → Names → ℕ → ℕ → Bool
same_task old new names u v =
    has_task old u && has_task new v && same_Bool (is_terminated new v) (is_terminated old u)
    && same_list same_family (families_of new v) (families_of old u)
    && same_option eqb (activator_of new v) (option_and_then (named names.tasks) (activator_of old u))
    && same_option same_outcome (renamed_outcome (renaming_of names) (outcome_of old u)) (Some (outcome_of new v))

abbrev pub same_dependent : List Event → List Event → Names → ℕ → ℕ → Bool
same_dependent old new names u v =
    same_option same_master (parent_of new (Body (task_no v))) (renamed_parent (renaming_of names) old (Body (task_no u)))
    && same_Bool (is_completed new v) (is_completed old u) && same_Bool (has_start new v) (has_start old u)
    && (has_start old u || same_option same_master (made_within new v) (option_and_then (renamed_master (renaming_of names)) (made_within old u)))
    && same_Bool (is_abandoned new v) (is_abandoned old u)

abbrev pub same_block : List Event → List Event → Names → ℕ → ℕ → Bool
same_block old new names p q =
    same_option same_master (parent_of new (Block q)) (renamed_parent (renaming_of names) old (Block p))
    && same_Bool (is_complete new (Block q)) (is_complete old (Block p))

abbrev pub same_nest : List Event → List Event → Names → ℕ → ℕ → Bool
same_nest old new names u v =
    same_list (same_option same_member) (map Some (nest new v)) (map (renamed_member (renaming_of names)) (nest old u))
    && all_placed names (λ p q. not (list_any (is_block p) (nest old u)) || same_block old new names p q)

abbrev pub same_active : List Event → List Event → Names → ℕ → ℕ → Bool
same_active old new names u v =
    same_Bool (is_started new v) (is_started old u) && same_Bool (is_elaborated new v) (is_elaborated old u)
    && same_Bool (is_abnormal new v) (is_abnormal old u) && same_Bool (is_suspended new v) (is_suspended old u)
    && not (has_ended new v)
    && all_below (λ p. option_map_or (held_alike old new names u v p) (event_at old p) true) (suc (length old))

-- the clauses on all tasks and on all positions

abbrev pub keeps_tasks : List Event → List Event → Names → Bool
keeps_tasks old new names =
    same_option eqb (named names.tasks 0) (Some 0)
    && all_below (λ u. not (is_live old u) || is_some (named names.tasks u)) (task_count old)
    && all_named names (λ s u. all_named names (λ t v. not (ltb s t) || ltb u v))
    && all_below (λ v. not (is_live new v) || not (all_named names (λ u w. not (eqb w v)))) (task_count new)

-- the events at both positions hold tasks up that haven't ended, and are of one kind
abbrev pub hold_alike : List Event → ℕ → ℕ → Bool
hold_alike journal p q =
    both_pass
    (λ d e. option_map_or (λ s. holds journal s p d && not (has_ended journal s)) (held_in d) false
    && option_map_or (λ t. holds journal t q e && not (has_ended journal t)) (held_in e) false
    && is_same_kind d e)
    (event_at journal p) (event_at journal q)

-- the block is in the nest of a task that isn't terminated
abbrev pub is_inhabited : List Event → ℕ → Bool
is_inhabited journal p = not (all_below (λ s. not (is_live journal s && list_any (is_block p) (nest journal s))) (task_count journal))

abbrev pub keeps_positions : List Event → List Event → Names → Bool
keeps_positions old new names =
    all_placed names (λ p a. leb p (length old) && leb a (length new))
    && all_placed names (λ p a. all_placed names (λ q b. not (eqb a b) || eqb p q))
    && keeps_order names (hold_alike old)
    && keeps_order names (λ p q. is_inhabited old p && is_inhabited old q)

-- the second journal may stand in for the first one, with these names
unfoldable pub stands : List Event → List Event → Names → Bool
stands old new names =
    same_index (moment new) (moment old) && keeps_tasks old new names && keeps_positions old new names
    && all_named names (same_task old new names)
    && all_named names (λ u v. is_terminated old u || same_dependent old new names u v)
    && all_named names (λ u v. is_terminated old u || same_nest old new names u v)
    && all_named names (λ u v. has_ended old u || same_active old new names u v)
