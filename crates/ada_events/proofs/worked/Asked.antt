-- Worked journals. What they answer: outcomes, attributes, slots and boards.
use Rattle.std.specs.Prelude.{◌≡◌, true, false, Some, None, Ok, Err, List, [], ◌∷◌, pos, negsuc, refl, take}
use Rattle.ada_events.specs.declared.event.Event.{Event}
use Rattle.ada_events.specs.declared.event.Event.TheVariants.{Created}
use Rattle.ada_events.specs.declared.outcome.Outcome.TheVariants.{Dead, Held, Served, TaskingError, Accepted, TookElse, TookDelay, ProgramError, ActivationOk}
use Rattle.ada_events.specs.declared.outcome.Outcome.TheVariants.{ActivationFailed, Raised, Nothing}
use Rattle.ada_events.specs.declared.refusal.Refusal.TheVariants.{UnknownTask, NotRunning, NoSuchFamily, ConstraintError}
use Rattle.ada_events.specs.Phases.{is_terminated}
use Rattle.ada_events.specs.Outcomes.{raised_in, choice_met, released_to, became, last_given, outcome_at, outcome_of}
use Rattle.ada_events.specs.Attributes.{is_callable, is_finished, count_refusal, own_count}
use Rattle.ada_events.specs.Slots.{number_within, slot_made, slot_of, entry_within, entry_made, entry_at, count_at}
use Rattle.ada_events.specs.Boards.{shows_callable, shows_terminated, shows_count, board_of, listed}
use Rattle.ada_events.proofs.worked.Turns.{after, everything, main, body, single, family, entry}
use Rattle.ada_events.proofs.worked.Rendezvous.{preamble_turns, order_of_arrival_turns, raised_turns, picks_open_choices_turns, picks_the_second_turns}
use Rattle.ada_events.proofs.worked.Waiting.{guards_and_delays_turns}
use Rattle.ada_events.proofs.worked.Termination.{failed_activation_turns}
use Rattle.ada_events.proofs.worked.Abort.{abort_in_rendezvous_turns, self_abort_turns}

-- opens every definition of an answer
unfoldable all_answers : Unit {0}
unfolding everything raised_in choice_met released_to became last_given outcome_at outcome_of is_callable is_finished count_refusal own_count number_within
    slot_made slot_of entry_within entry_made entry_at count_at shows_callable shows_terminated shows_count listed board_of
all_answers = tt

-- COUNT doesn't count the call that is served
abbrev one_served : List Event
one_served = after (after [] preamble_turns) (take 4 order_of_arrival_turns)

counts_those_that_wait : own_count one_served 1 (entry 0 (pos 0)) ≡ Ok 2
unfolding all_answers
counts_those_that_wait = refl

counts_one_less : own_count (after (after [] preamble_turns) order_of_arrival_turns) 1 (entry 0 (pos 0)) ≡ Ok 1
unfolding all_answers
counts_one_less = refl

-- who may not ask for it
no_such_asker : own_count one_served 4 (entry 0 (pos 0)) ≡ Err UnknownTask
unfolding all_answers
no_such_asker = refl

asker_in_a_call : own_count one_served 2 (entry 0 (pos 0)) ≡ Err NotRunning
unfolding all_answers
asker_in_a_call = refl

no_such_family : own_count one_served 1 (entry 2 (pos 0)) ≡ Err NoSuchFamily
unfolding all_answers
no_such_family = refl

no_such_index : own_count one_served 1 (entry 1 (pos 1)) ≡ Err ConstraintError
unfolding all_answers
no_such_index = refl

-- an activation that failed
activator : outcome_of (after [] (take 5 failed_activation_turns)) 0 ≡ Held
unfolding all_answers
activator = refl

activation_failed : outcome_of (after [] (take 6 failed_activation_turns)) 0 ≡ ActivationFailed
unfolding all_answers
activation_failed = refl

failed_task : outcome_of (after [] (take 6 failed_activation_turns)) 1 ≡ Dead
unfolding all_answers
failed_task = refl

-- an abort of a caller in a rendezvous: the caller isn't callable, and not terminated before its end
abbrev caller_aborted : List Event
caller_aborted = after (after [] preamble_turns) (take 3 abort_in_rendezvous_turns)

abbrev caller_halted : List Event
caller_halted = after (after [] preamble_turns) abort_in_rendezvous_turns

aborted_is_not_callable : is_callable caller_aborted 2 ≡ false
unfolding all_answers
aborted_is_not_callable = refl

aborted_is_not_terminated : is_terminated caller_aborted 2 ≡ false
unfolding all_answers
aborted_is_not_terminated = refl

halted_is_terminated : is_terminated caller_halted 2 ≡ true
unfolding all_answers
halted_is_terminated = refl

others_are_callable : is_callable caller_halted 1 ≡ true
unfolding all_answers
others_are_callable = refl

-- the calls to a task that aborted itself
abbrev self_aborted : List Event
self_aborted = after (after [] preamble_turns) self_abort_turns

called_in_vain : outcome_of self_aborted 2 ≡ TaskingError
unfolding all_answers
called_in_vain = refl

main_goes_on : is_finished self_aborted ≡ false
unfolding all_answers
main_goes_on = refl

-- an exception ends the inner of two rendezvous, and then the outer one ends without
abbrev inner_raised : List Event
inner_raised = after (after [] preamble_turns) (take 5 raised_turns)

abbrev outer_ended : List Event
outer_ended = after (after [] preamble_turns) (take 6 raised_turns)

raised_in_the_acceptor : outcome_of inner_raised 1 ≡ Raised
unfolding all_answers
raised_in_the_acceptor = refl

raised_in_the_caller : outcome_of inner_raised 3 ≡ Raised
unfolding all_answers
raised_in_the_caller = refl

outer_caller_held : outcome_of inner_raised 2 ≡ Held
unfolding all_answers
outer_caller_held = refl

outer_caller_served : outcome_of outer_ended 2 ≡ Served
unfolding all_answers
outer_caller_served = refl

still_raised : outcome_of outer_ended 1 ≡ Raised
unfolding all_answers
still_raised = refl

-- the choice that was taken, counted over open and closed ones
open_one_taken : outcome_of (after (after [] preamble_turns) picks_open_choices_turns) 1 ≡ Accepted 10 1
unfolding all_answers
open_one_taken = refl

second_one_taken : outcome_of (after (after [] preamble_turns) picks_the_second_turns) 1 ≡ Accepted 10 1
unfolding all_answers
second_one_taken = refl

-- what a wait took without a rendezvous
nothing_open : outcome_of (after (after [] preamble_turns) (take 1 guards_and_delays_turns)) 1 ≡ ProgramError
unfolding all_answers
nothing_open = refl

else_part : outcome_of (after (after [] preamble_turns) (take 2 guards_and_delays_turns)) 1 ≡ TookElse
unfolding all_answers
else_part = refl

last_delay : outcome_of (after (after [] preamble_turns) guards_and_delays_turns) 1 ≡ TookDelay 2
unfolding all_answers
last_delay = refl

-- before anything happened
nothing_yet : outcome_of [] 0 ≡ Nothing
unfolding all_answers
nothing_yet = refl

activator_of_three : outcome_of (after [] preamble_turns) 0 ≡ ActivationOk
unfolding all_answers
activator_of_three = refl

-- slots: a server with two single entries, then a task with a family of three, an empty one and a
-- single entry
abbrev with_families : List Event
with_families =
    Created main (body main) (body main) (family (pos 1) (pos 3) ∷ family (pos 2) (pos 1) ∷ single ∷ [])
    ∷ after [] preamble_turns

slots_of_the_server : slot_of with_families 1 (entry 0 (pos 0)) ≡ Some 0
unfolding all_answers
slots_of_the_server = refl

second_slot_of_the_server : slot_of with_families 1 (entry 1 (pos 0)) ≡ Some 1
unfolding all_answers
second_slot_of_the_server = refl

first_of_the_family : slot_of with_families 4 (entry 0 (pos 1)) ≡ Some 2
unfolding all_answers
first_of_the_family = refl

last_of_the_family : slot_of with_families 4 (entry 0 (pos 3)) ≡ Some 4
unfolding all_answers
last_of_the_family = refl

none_of_the_empty_family : slot_of with_families 4 (entry 1 (pos 2)) ≡ None
unfolding all_answers
none_of_the_empty_family = refl

behind_the_empty_family : slot_of with_families 4 (entry 2 (pos 0)) ≡ Some 5
unfolding all_answers
behind_the_empty_family = refl

no_slot_of_main : slot_of with_families 0 (entry 0 (pos 0)) ≡ None
unfolding all_answers
no_slot_of_main = refl

entry_of_a_slot : entry_at with_families 4 ≡ Some (record { task = 4; entry = entry 0 (pos 3) })
unfolding all_answers
entry_of_a_slot = refl

behind_the_last_slot : entry_at with_families 6 ≡ None
unfolding all_answers
behind_the_last_slot = refl

-- a family over all indexes
abbrev wide_family : List Event
wide_family = Created main (body main) (body main) (single ∷ family (negsuc 2147483647) (pos 2147483647) ∷ []) ∷ []

last_of_all_indexes : slot_of wide_family 1 (entry 1 (pos 2147483647)) ≡ Some 4294967296
unfolding all_answers
last_of_all_indexes = refl

-- the opening board
opening_tasks : (board_of []).tasks ≡ 1
unfolding all_answers
opening_tasks = refl

opening_slots : (board_of []).slots ≡ 0
unfolding all_answers
opening_slots = refl

opening_events : (board_of []).events ≡ 0
unfolding all_answers
opening_events = refl

opening_callable : take 2 (board_of []).callable ≡ true ∷ false ∷ []
unfolding all_answers
opening_callable = refl

opening_terminated : take 2 (board_of []).terminated ≡ false ∷ false ∷ []
unfolding all_answers
opening_terminated = refl

opening_counts : take 2 (board_of []).counts ≡ 0 ∷ 0 ∷ []
unfolding all_answers
opening_counts = refl

-- the board while two calls wait
two_wait : shows_count one_served 0 ≡ 2
unfolding all_answers
two_wait = refl

no_third_slot : shows_count one_served 2 ≡ 0
unfolding all_answers
no_third_slot = refl

no_fifth_task : shows_callable one_served 4 ≡ false
unfolding all_answers
no_fifth_task = refl
