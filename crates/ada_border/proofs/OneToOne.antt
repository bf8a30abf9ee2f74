-- What goes over the border comes back the same.
use Rattle.std.proofs.Common.{◌≡◌, refl}
use Rattle.ada_events.specs.declared.event.Event.TheVariants.{Opened, Created, Started, Elaborated, Called, Waiting, Paused, Ended, Closed, Completed, Aborted}
use Rattle.ada_events.specs.declared.event.Event.TheVariants.{Ticked, Halted, Failed, Met, Cancelled, Passed, Woken, Activated, Gone, Quit, Left}
use Rattle.ada_events.specs.declared.event.EventTail.TheVariants.{Nothing, Otherwise, Delays, Terminate}
use Rattle.ada_events.specs.declared.event.Way.TheVariants as way
use Rattle.ada_events.specs.declared.names.Master.{Master}
use Rattle.ada_events.specs.declared.names.Master.TheVariants.{Body, Block}
use Rattle.ada_events.specs.declared.names.Patience.{Patience}
use Rattle.ada_events.specs.declared.names.Patience.TheVariants.{Simple, Conditional, Timed}
use Rattle.ada_events.specs.declared.event.Way.{Way}
use Rattle.std.proofs.Common.{Bool, true, false, Some, None, ap, ◌∙◌}
use Rattle.ada_events.specs.declared.refusal.Refusal.TheVariants.{UnknownTask, NotRunning, DuringActivation, NotActivating, NotYourMaster, EmptyList}
use Rattle.ada_events.specs.declared.refusal.Refusal.TheVariants.{NotYourTask, NoAccept, NoSuchFamily, ConstraintError, SameFamilyNested, TerminateInAccept}
use Rattle.ada_events.specs.declared.refusal.Refusal.TheVariants.{NotInAccept, NoBlock, StillNested, MainTask, MomentBack}
use Rattle.ada_events.specs.declared.refusal.Refusal.TheVariants.{MomentTooLarge, TooManyTasks, TooManySlots, TooDeep, JournalFull, OutOfMemory}
use Rattle.ada_events.specs.declared.outcome.Outcome.TheVariants as became
use Rattle.ada_events.specs.Refusals.{causes}
use Rattle.ada_border.specs.Codes.{AreChecked, AreNumbered}
use Rattle.ada_border.specs.Outcomes.{AreOutcomesReadBack, plain_outcome, outcome_at}
use Rattle.ada_border.specs.Events.{AreReadBack, plain_of, event_at, master_at, master_kind, master_number, patience_at, patience_kind, patience_duration}
use Rattle.ada_border.specs.Events.{way_at, way_kind, way_number, flag, is_set}

master : (m : Master) → master_at (master_kind m) (master_number m) ≡ m
master (Body task) = refl
master (Block opened) = refl

patience : (p : Patience) → patience_at (patience_kind p) (patience_duration p) ≡ p
patience Simple = refl
patience Conditional = refl
patience (Timed duration) = refl

flags : (b : Bool) → is_set (flag b) ≡ b
flags true = refl
flags false = refl

ways : (w : Way) → way_at (way_kind w) (way_number w) ≡ w
ways way.Otherwise = refl
ways (way.Delay number) = refl
ways way.ProgramError = refl

pub read_back : AreReadBack
unfolding plain_of event_at
read_back (Opened by under) = ap (Opened by) (master under)
read_back (Created by under holds families) = ap (λ m. Created by m (master_at (master_kind holds) (master_number holds)) families) (master under)
    ∙ ap (λ m. Created by under m families) (master holds)
read_back (Started by tasks) = refl
read_back (Elaborated by ok) = ap (Elaborated by) (flags ok)
read_back (Called by callee entry p None) = ap (λ q. Called by callee entry q None) (patience p)
read_back (Called by callee entry p (Some due)) = ap (λ q. Called by callee entry q (Some due)) (patience p)
read_back (Waiting by pick choices Nothing) = refl
read_back (Waiting by pick choices Otherwise) = refl
read_back (Waiting by pick choices (Delays dues)) = refl
read_back (Waiting by pick choices (Terminate true)) = refl
read_back (Waiting by pick choices (Terminate false)) = refl
read_back (Paused by due) = refl
read_back (Ended by call raised) = ap (Ended by call) (flags raised)
read_back (Closed by block) = refl
read_back (Completed by) = refl
read_back (Aborted by tasks) = refl
read_back (Ticked now) = refl
read_back (Halted task) = refl
read_back (Failed call) = refl
read_back (Met call wait) = refl
read_back (Cancelled call) = refl
read_back (Passed wait w) = ap (Passed wait) (ways w)
read_back (Woken pause) = refl
read_back (Activated start ok) = ap (Activated start) (flags ok)
read_back (Gone task) = refl
read_back (Quit m) = ap Quit (master m)
read_back (Left close) = refl

pub numbered : AreNumbered
numbered UnknownTask = (0, refl, refl)
numbered NotRunning = (1, refl, refl)
numbered DuringActivation = (2, refl, refl)
numbered NotActivating = (3, refl, refl)
numbered NotYourMaster = (4, refl, refl)
numbered EmptyList = (5, refl, refl)
numbered NotYourTask = (6, refl, refl)
numbered NoAccept = (7, refl, refl)
numbered NoSuchFamily = (8, refl, refl)
numbered ConstraintError = (9, refl, refl)
numbered SameFamilyNested = (10, refl, refl)
numbered TerminateInAccept = (11, refl, refl)
numbered NotInAccept = (12, refl, refl)
numbered NoBlock = (13, refl, refl)
numbered StillNested = (14, refl, refl)
numbered MainTask = (15, refl, refl)
numbered MomentBack = (16, refl, refl)
numbered MomentTooLarge = (17, refl, refl)
numbered TooManyTasks = (18, refl, refl)
numbered TooManySlots = (19, refl, refl)
numbered TooDeep = (20, refl, refl)
numbered JournalFull = (21, refl, refl)
numbered OutOfMemory = (22, refl, refl)

pub checked : AreChecked
unfolding causes
checked journal request = refl

pub outcomes : AreOutcomesReadBack
unfolding plain_outcome outcome_at
outcomes became.Nothing caller = refl
outcomes became.Dead caller = refl
outcomes became.Done caller = refl
outcomes became.Held caller = refl
outcomes became.Served caller = refl
outcomes became.TaskingError caller = refl
outcomes became.Cancelled caller = refl
outcomes (became.Accepted call choice) caller = refl
outcomes became.TookElse caller = refl
outcomes (became.TookDelay number) caller = refl
outcomes became.ProgramError caller = refl
outcomes became.Awake caller = refl
outcomes became.ActivationOk caller = refl
outcomes became.ActivationFailed caller = refl
outcomes became.BlockLeft caller = refl
outcomes became.Raised caller = refl
