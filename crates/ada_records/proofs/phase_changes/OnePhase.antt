-- Events that change one task's phase alone.
use Rattle.std.proofs.Common.{◌≡◌, ◌≢◌, ℕ, Option, Some, None, List, [], ◌∷◌, refl, sym, ap, ◌∙◌}
use Rattle.std.specs.Option.{option_map, option_and_then}
use Rattle.std.proofs.lemmas.Bool.{ne_eqb}
use Rattle.std.proofs.lemmas.List.Elements.{All-weaker}
use Rattle.std.proofs.lemmas.Option.{none-some, same_Some}
use Rattle.ada_events.specs.declared.event.Event.{Event}
use Rattle.ada_events.specs.declared.event.Event.TheVariants.{Gone}
use Rattle.ada_events.specs.declared.names.Entry.{Entry}
use Rattle.ada_events.specs.declared.names.TaskNo.{TaskNo}
use Rattle.ada_events.specs.Search.{event_at}
use Rattle.ada_events.specs.Says.{Call, creation_in, call_in, held_in, opening_in, released_in, meeting_in, completed_in, gone_in, quit_in, started_in}
use Rattle.ada_events.specs.Phases.{is_terminated}
use Rattle.ada_events.specs.Calls.{queue}
use Rattle.ada_laws.proofs.searching.Searching.{event_at-older}
use Rattle.ada_laws.proofs.searching.Growing.{is_completed-same}
use Rattle.ada_step_laws.proofs.changing.Calling.{same_completed, same_terminated}
use Rattle.ada_step_laws.proofs.changing.Holding.{hold_only, held_opens_none}
use Rattle.ada_step_laws.proofs.changing.KeptQueues.{others_keep_queues}
use Rattle.ada_step_laws.proofs.changing.NestKinds.{others_keep_nests}
use Rattle.ada_tables.specs.Queues.{QueuedCall}
use Rattle.ada_tables.specs.Standing.{caller_of, AreQueued}
use Rattle.ada_records.specs.TableChanges.{HoldsChangeOnePhase, GoingChangesOnePhase}
use Rattle.ada_records.proofs.phase_changes.KeptPhases.{others_keep_phases}

-- who made a call stays who made it
pub caller_later : (event : Event) (before : List Event) (call caller : ℕ) → caller_of before call ≡ Some caller → caller_of (event ∷ before) call ≡ Some caller
caller_later event before call caller made = of_event (event_at before call) refl made
  where
    of_event : (o : Option Event) → event_at before call ≡ o → option_map (λ (c : Call). c.by) (option_and_then call_in o) ≡ Some caller
        → caller_of (event ∷ before) call ≡ Some caller
    of_event None at made = absurd (none-some caller made)
    of_event (Some e) at made = rw (event_at-older event before call e at) made

-- the calls at an entry stay where its queue does
pub queued_later : (event : Event) (before : List Event) (task : ℕ) (entry : Entry) (calls : List QueuedCall)
    → queue (event ∷ before) task entry ≡ queue before task entry → AreQueued before task entry calls → AreQueued (event ∷ before) task entry calls
queued_later event before task entry calls same old = record {
  positions = old.positions ∙ sym same;
  callers = All-weaker (λ (c : QueuedCall). caller_of before c.call ≡ Some c.caller) (λ (c : QueuedCall). caller_of (event ∷ before) c.call ≡ Some c.caller)
      (λ c made. caller_later event before c.call c.caller made) calls old.callers;
}

pub holds_change_one_phase : HoldsChangeOnePhase
holds_change_one_phase event before task lawful hold calls =
    let only = hold_only event task hold.holds in
    record {
      makes = only.quiet.makes;
      nests = λ other. others_keep_nests event before other lawful (held_opens_none event task hold.holds) only.meets only.releases;
      queues = λ other entry. others_keep_queues event before other entry lawful calls only.releases only.meets only.quiet.completes;
      phases = λ other differs.
          others_keep_phases event before other lawful (λ holds. differs (same_Some other task (sym holds ∙ hold.holds))) (rw hold.starts refl)
          (λ p frees held. none-some p (sym only.releases ∙ frees))
          (same_completed event before other only.quiet) (same_terminated event before other only.quiet);
    }

gone_says : (e : Event) (task : TaskNo) → e ≡ Gone task → (creation_in e ≡ None) × (opening_in e ≡ None) × (meeting_in e ≡ None) × (released_in e ≡ None)
    × (call_in e ≡ None) × (completed_in e ≡ None) × (held_in e ≡ None) × (started_in e ≡ [])
unfolding creation_in opening_in meeting_in released_in call_in completed_in held_in started_in
gone_says e task is =
    (ap creation_in is, ap opening_in is, ap meeting_in is, ap released_in is, ap call_in is, ap completed_in is, ap held_in is, ap started_in is)

gone_terminates : (before : List Event) (task : TaskNo) (other : ℕ) → other ≢ task.0 → is_terminated (Gone task ∷ before) other ≡ is_terminated before other
unfolding is_terminated gone_in quit_in
gone_terminates before task other differs = rw (ne_eqb other task.0 differs) refl

pub going_changes_one_phase : GoingChangesOnePhase
going_changes_one_phase event before task lawful is =
    let says = gone_says event task is in
    record {
      makes = says.0;
      nests = λ other. others_keep_nests event before other lawful says.1 says.2 says.3;
      queues = λ other entry. others_keep_queues event before other entry lawful says.4 says.3 says.2 says.5;
      phases = λ other differs.
          others_keep_phases event before other lawful (λ holds. none-some other (sym says.6 ∙ holds)) (rw says.7 refl)
          (λ p frees held. none-some p (sym says.3 ∙ frees))
          (is_completed-same event before other says.5)
          (ap (λ (e : Event). is_terminated (e ∷ before) other) is ∙ gone_terminates before task other differs);
    }
