-- What each event adds to an agenda.
use Rattle.std.proofs.Common.{◌≡◌, ℕ, true, false, List, ◌∷◌, refl, inl, inr}
use Rattle.std.proofs.lemmas.Bool.{false≢true}
use Rattle.ada_events.specs.declared.event.Event.{Event}
use Rattle.ada_events.specs.declared.event.Event.TheVariants.{Opened, Created, Started, Elaborated, Called, Waiting, Paused, Ended, Closed, Completed, Aborted}
use Rattle.ada_events.specs.declared.event.Event.TheVariants.{Ticked, Halted, Failed, Met, Cancelled, Passed, Woken, Activated, Gone, Quit, Left}
use Rattle.ada_events.specs.Says.{released_in, meeting_in}
use Rattle.ada_events.specs.Lawful.{IsLawful}
use Rattle.ada_step_laws.specs.declared.row.Row.{Row}
use Rattle.ada_step_laws.proofs.rows.TouchedKeys.{newly}
use Rattle.ada_step_laws.specs.Kinds.{Adds}
use Rattle.ada_step_laws.specs.Additions.{adds_nothing, AgendasStay, AgendasGrow, EventsAddTheirKeys, OpeningsAddNothing, CreationsAddTheirTask}
use Rattle.ada_step_laws.specs.Additions.{StartsAddThemselves, ElaborationsAddTheirStart, CallsAddTheWait, WaitsAddMasters, DelaysAddThemselves}
use Rattle.ada_step_laws.specs.Additions.{ClosesAddTheirBlock, EndsAddTheCaller, FailuresAddTheCaller, CancellationsAddMasters, MeetingsAddNothing}
use Rattle.ada_step_laws.specs.Additions.{PassingsAddNothing, WakingsAddNothing, ActivationsAddNothing, LeavingsAddNothing, CompletionsAddTheirTask}
use Rattle.ada_step_laws.specs.Additions.{FailedActivationsAddTheirTask, HaltsAddTheirTask, AbortsAddTheirTasks, TicksAddWhatIsDue, TerminationsAddMasters}
use Rattle.ada_step_laws.specs.Additions.{QuitsAddMasters}
use Rattle.ada_step_laws.proofs.newly.Answering.{meeting_adds, end_adds, fail_adds, cancel_adds}
use Rattle.ada_step_laws.proofs.newly.Changing.{creation_adds, elaboration_adds, abort_adds}
use Rattle.ada_step_laws.proofs.newly.Completions.{completion_adds, failure_adds, halt_adds}
use Rattle.ada_step_laws.proofs.newly.Endings.{going_adds}
use Rattle.ada_step_laws.proofs.newly.Suspensions.{opening_adds, start_adds, call_adds, wait_adds, delay_adds, close_adds, tick_adds}
use Rattle.ada_step_laws.proofs.newly.Quitting.{quit_adds}
use Rattle.ada_step_laws.proofs.newly.Refining.{Key, refined}
use Rattle.ada_step_laws.proofs.newly.Releases.{freed_adds}

-- what an event touches is what events of its kind add
by_kind : (event : Event) (before : List Event) (row : Row) (key : ℕ) → IsLawful (event ∷ before) → Key event before row key → Adds before event row key
unfolding released_in meeting_in
by_kind (Opened by under) before row key lawful touched = opening_adds by under before row key lawful touched
by_kind (Created by under master families) before row key lawful touched = creation_adds by under master families before row key lawful touched
by_kind (Started by tasks) before row key lawful touched = start_adds by tasks before row key lawful touched
by_kind (Elaborated by true) before row key lawful touched = elaboration_adds by before row key lawful touched
by_kind (Elaborated by false) before row key lawful touched = failure_adds by before row key lawful touched
by_kind (Called by callee entry patience due) before row key lawful touched = call_adds by callee entry patience due before row key lawful touched
by_kind (Waiting by pick choices tail) before row key lawful touched = wait_adds by pick choices tail before row key lawful touched
by_kind (Paused by due) before row key lawful touched = delay_adds by due before row key lawful touched
by_kind (Ended by call raised) before row key lawful touched = end_adds by call raised before row key lawful touched
by_kind (Closed by block) before row key lawful touched = close_adds by block before row key lawful touched
by_kind (Completed by) before row key lawful touched = completion_adds by before row key lawful touched
by_kind (Aborted by tasks) before row key lawful touched = abort_adds by tasks before row key lawful touched
by_kind (Ticked now) before row key lawful touched = tick_adds now before row key lawful touched
by_kind (Halted task) before row key lawful touched = halt_adds task before row key lawful touched
by_kind (Failed call) before row key lawful touched = fail_adds call before row key lawful touched
by_kind (Met call wait) before row key lawful touched = meeting_adds before call wait row key lawful touched
by_kind (Cancelled call) before row key lawful touched = cancel_adds call before row key lawful touched
by_kind (Passed wait way) before row key lawful touched = freed_adds (Passed wait way) before wait row key lawful refl refl refl touched
by_kind (Woken pause) before row key lawful touched = freed_adds (Woken pause) before pause row key lawful refl refl refl touched
by_kind (Activated start ok) before row key lawful touched = freed_adds (Activated start ok) before start row key lawful refl refl refl touched
by_kind (Gone task) before row key lawful touched = going_adds task before row key lawful touched
by_kind (Quit master) before row key lawful touched = quit_adds master before row key lawful touched
by_kind (Left close) before row key lawful touched = freed_adds (Left close) before close row key lawful refl refl refl touched

pub events_add_their_keys : EventsAddTheirKeys
events_add_their_keys event before lawful row key step gives =
    elim (newly event before row key step gives) [
      | inl was ↦ inl was
      | inr touched ↦
          elim (refined event before row key step lawful gives touched) [
            | inl was ↦ inl was
            | inr of ↦ inr (by_kind event before row key lawful of)
          ]
    ]

pub agendas_grow : AgendasGrow
agendas_grow event before has more lawful agenda keeps adds = record {
  kept = λ row key step gives.
      elim (events_add_their_keys event before lawful row key step gives) [
        | inl was ↦ keeps row key (agenda.kept row key was.0 was.1)
        | inr added ↦ adds row key step added gives
      ];
}

nothing_added : (event : Event) (before : List Event) (row : Row) (key : ℕ) → adds_nothing event ≡ true → Adds before event row key → ⊥
nothing_added (Opened by under) before row key none added = added
nothing_added (Met call wait) before row key none added = added
nothing_added (Passed wait way) before row key none added = added
nothing_added (Woken pause) before row key none added = added
nothing_added (Activated start ok) before row key none added = added
nothing_added (Left close) before row key none added = added
nothing_added _ before row key none added = false≢true none

pub agendas_stay : AgendasStay
agendas_stay event before has lawful agenda none =
    agendas_grow event before has has lawful agenda (λ row key kept. kept) (λ row key step added gives. absurd (nothing_added event before row key none added))

pub openings_add_nothing : OpeningsAddNothing
openings_add_nothing before by under = events_add_their_keys (Opened by under) before

pub creations_add_their_task : CreationsAddTheirTask
creations_add_their_task before by under master families = events_add_their_keys (Created by under master families) before

pub starts_add_themselves : StartsAddThemselves
starts_add_themselves before by tasks = events_add_their_keys (Started by tasks) before

pub elaborations_add_their_start : ElaborationsAddTheirStart
elaborations_add_their_start before by = events_add_their_keys (Elaborated by true) before

pub calls_add_the_wait : CallsAddTheWait
calls_add_the_wait before by callee entry patience due = events_add_their_keys (Called by callee entry patience due) before

pub waits_add_masters : WaitsAddMasters
waits_add_masters before by pick choices tail = events_add_their_keys (Waiting by pick choices tail) before

pub delays_add_themselves : DelaysAddThemselves
delays_add_themselves before by due = events_add_their_keys (Paused by due) before

pub closes_add_their_block : ClosesAddTheirBlock
closes_add_their_block before by block = events_add_their_keys (Closed by block) before

pub ends_add_the_caller : EndsAddTheCaller
ends_add_the_caller before by call raised = events_add_their_keys (Ended by call raised) before

pub failures_add_the_caller : FailuresAddTheCaller
failures_add_the_caller before call = events_add_their_keys (Failed call) before

pub cancellations_add_masters : CancellationsAddMasters
cancellations_add_masters before call = events_add_their_keys (Cancelled call) before

pub meetings_add_nothing : MeetingsAddNothing
meetings_add_nothing before call wait = events_add_their_keys (Met call wait) before

pub passings_add_nothing : PassingsAddNothing
passings_add_nothing before wait way = events_add_their_keys (Passed wait way) before

pub wakings_add_nothing : WakingsAddNothing
wakings_add_nothing before pause = events_add_their_keys (Woken pause) before

pub activations_add_nothing : ActivationsAddNothing
activations_add_nothing before start ok = events_add_their_keys (Activated start ok) before

pub leavings_add_nothing : LeavingsAddNothing
leavings_add_nothing before close = events_add_their_keys (Left close) before

pub completions_add_their_task : CompletionsAddTheirTask
completions_add_their_task before by = events_add_their_keys (Completed by) before

pub failed_activations_add_their_task : FailedActivationsAddTheirTask
failed_activations_add_their_task before by = events_add_their_keys (Elaborated by false) before

pub halts_add_their_task : HaltsAddTheirTask
halts_add_their_task before task = events_add_their_keys (Halted task) before

pub aborts_add_their_tasks : AbortsAddTheirTasks
aborts_add_their_tasks before by tasks = events_add_their_keys (Aborted by tasks) before

pub ticks_add_what_is_due : TicksAddWhatIsDue
ticks_add_what_is_due before now = events_add_their_keys (Ticked now) before

pub terminations_add_masters : TerminationsAddMasters
terminations_add_masters before task = events_add_their_keys (Gone task) before

pub quits_add_masters : QuitsAddMasters
quits_add_masters before master = events_add_their_keys (Quit master) before
