-- The tests of what holds tasks up are sound: what passes is the same call, wait, delay, start or close.
use Rattle.std.proofs.Common.{◌≡◌, ℕ, true, false, not, ◌&&◌, ◌||◌, eqb, Some, List, inl, inr}
use Rattle.std.specs.Option.{option_map_or}
use Rattle.std.proofs.lemmas.Bool.{and_parts, and_from, or_cases, eqb-true, not-true, not_from_false}
use Rattle.ada_events.specs.declared.event.Event.{Event}
use Rattle.ada_events.specs.Search.{is_number, event_at}
use Rattle.ada_events.specs.Says.{Call, Wait, Start, call_in, wait_in, delay_in, start_in, closing_in, held_in}
use Rattle.ada_events.specs.Entries.{same_index}
use Rattle.ada_events.specs.Phases.{lists_task, has_ended, is_released}
use Rattle.ada_events.specs.Calls.{is_met}
use Rattle.ada_events.specs.Forced.{is_conditional, is_done_activating, task_no}
use Rattle.ada_laws.specs.Suspension.{IsSuspendedAt}
use Rattle.ada_laws.proofs.searching.Searching.{is_number-some, is_number-from, option_map_or-true}
use Rattle.ada_standing.specs.Names.{Names, named, placed, renaming_of}
use Rattle.ada_standing.specs.Holds.{IsSameCall, IsSameWait, IsSameStart, IsSameHold}
use Rattle.ada_standing.specs.StandsIn.{IsHeldAlike}
use Rattle.ada_standing.proofs.Sameness.{same_Bool, same_Bool-true, same_index-true, same_option-true, same_list-true, same_entry-true}
use Rattle.ada_standing.proofs.Sameness.{same_choice, same_choice-true, same_tail-true}
use Rattle.ada_standing.proofs.Deciding.{both_pass, same_call, same_wait, same_delay, same_start, same_closing, same_hold, holds, held_there, held_alike}
use Rattle.ada_standing.proofs.Passing.{implied, otherwise, both_pass-true, all_named-at}

same_call-sound : (old new : List Event) (names : Names) (p q : ℕ) (c d : Call) → same_call old new names p q c d ≡ true
    → IsSameCall old new (renaming_of names) p q c d
same_call-sound old new names p q c d passes =
    let queued = and_parts _ _ passes in
    let met = and_parts _ _ queued.0 in
    let first = and_parts _ _ met.0 in
    record {
      callee = same_option-true eqb (named names.tasks c.callee) (Some d.callee) eqb-true first.0;
      entry = same_entry-true d.entry c.entry first.1;
      met = same_Bool-true (is_met new q) (is_met old p) met.1;
      conditional = λ still. same_Bool-true (is_conditional d.patience) (is_conditional c.patience)
          (and_parts _ _ (otherwise (is_met old p) _ queued.1 still)).0;
      due = λ still. same_option-true same_index d.due c.due same_index-true
          (and_parts _ _ (otherwise (is_met old p) _ queued.1 still)).1;
    }

same_wait-sound : (w v : Wait) → same_wait w v ≡ true → IsSameWait w v
same_wait-sound w v passes =
    let pick = and_parts _ _ passes in
    let tail = and_parts _ _ pick.0 in
    record {
      choices = same_list-true same_choice v.choices w.choices same_choice-true tail.0;
      tail = same_tail-true v.tail w.tail tail.1;
      pick = eqb-true v.pick w.pick pick.1;
    }

same_start-sound : (old new : List Event) (names : Names) (s r : Start) → same_start old new names s r ≡ true
    → IsSameStart old new (renaming_of names) s r
same_start-sound old new names s r passes =
    let both = and_parts _ _ passes in
    record {
      pending = λ u v is waits. same_Bool-true (lists_task v r.tasks) (lists_task u s.tasks)
          (otherwise (is_done_activating old (task_no u)) _
          (all_named-at names (λ u v. is_done_activating old (task_no u) || same_Bool (lists_task v r.tasks) (lists_task u s.tasks)) both.0 u v is) waits);
      failed = same_Bool-true _ _ both.1;
    }

same_hold-sound : (old new : List Event) (names : Names) (p q : ℕ) (d e : Event) → same_hold old new names p q d e ≡ true
    → IsSameHold old new (renaming_of names) p q d e
same_hold-sound old new names p q d e passes =
    elim (or_cases (both_pass (same_call old new names p q) (call_in d) (call_in e)) _ passes) [
      | inl calls ↦
          let (c, b, is, has, same) = both_pass-true (same_call old new names p q) (call_in d) (call_in e) calls in
          IsSameHold.call c b is has (same_call-sound old new names p q c b same)
      | inr others ↦ elim (or_cases (both_pass same_wait (wait_in d) (wait_in e)) _ others) [
        | inl waits ↦
            let (w, v, is, has, same) = both_pass-true same_wait (wait_in d) (wait_in e) waits in
            IsSameHold.wait w v is has (same_wait-sound w v same)
        | inr rest ↦ elim (or_cases (both_pass same_delay (delay_in d) (delay_in e)) _ rest) [
          | inl delays ↦
              let (a, b, is, has, same) = both_pass-true same_delay (delay_in d) (delay_in e) delays in
              IsSameHold.pause a b is has (same_index-true b.due a.due same)
          | inr last ↦ elim (or_cases (both_pass (same_start old new names) (start_in d) (start_in e)) _ last) [
            | inl starts ↦
                let (s, r, is, has, same) = both_pass-true (same_start old new names) (start_in d) (start_in e) starts in
                IsSameHold.start s r is has (same_start-sound old new names s r same)
            | inr closes ↦
                let (a, b, is, has, same) = both_pass-true (same_closing names) (closing_in d) (closing_in e) closes in
                IsSameHold.close a b is has (same_option-true eqb (placed names.places a.block) (Some b.block) eqb-true same)
          ]
        ]
      ]
    ]

-- the event that holds a task up passes that test
pub holds-from : (journal : List Event) (task position : ℕ) (held : IsSuspendedAt journal task position) → holds journal task position held.event ≡ true
holds-from journal task position held =
    and_from (is_number task (held_in held.event)) (not (is_released journal position))
    (is_number-from task (held_in held.event) held.holds) (not_from_false (is_released journal position) held.unreleased)

pub held_alike-sound : (old new : List Event) (names : Names) (u v p : ℕ) (held : IsSuspendedAt old u p) → has_ended new v ≡ false
    → held_alike old new names u v p held.event ≡ true → IsHeldAlike old new (renaming_of names) v p held.event
held_alike-sound old new names u v p held active passes =
    let there = implied (holds old u p held.event) (option_map_or (held_there old new names v p held.event) (placed names.places p) false)
    passes (holds-from old u p held) in
    let (at, renamed, found) = option_map_or-true (held_there old new names v p held.event) (placed names.places p) there in
    let (event, stands, alike) = option_map_or-true (λ (e : Event). holds new v at e && same_hold old new names p at held.event e) (event_at new at) found in
    let both = and_parts (holds new v at event) (same_hold old new names p at held.event event) alike in
    let itself = and_parts (is_number v (held_in event)) (not (is_released new at)) both.0 in
    record {
      at = at;
      renamed = renamed;
      held = record {
        event = event;
        stands = stands;
        holds = is_number-some v (held_in event) itself.0;
        unreleased = not-true (is_released new at) itself.1;
        live = active;
      };
      alike = same_hold-sound old new names p at held.event event both.1;
    }
