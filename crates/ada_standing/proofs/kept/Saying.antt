-- What the event that stands for another says: the same, of the tasks, masters and positions that stand for the other's.
use Rattle.std.proofs.Common.{◌≡◌, ℕ, ℤ, Bool, true, false, Option, Some, None, List, refl, sym, ap}
use Rattle.std.specs.Option.{option_map}
use Rattle.std.proofs.lemmas.Option.{none-some, same_Some}
use Rattle.ada_events.specs.declared.event.Event.{Event}
use Rattle.ada_events.specs.declared.event.Event.TheVariants as event
use Rattle.ada_events.specs.declared.event.EventTail.{EventTail}
use Rattle.ada_events.specs.declared.event.Way.{Way}
use Rattle.ada_events.specs.declared.names.TaskNo.{TaskNo}
use Rattle.ada_events.specs.declared.names.Master.{Master}
use Rattle.ada_events.specs.declared.names.Entry.{Entry}
use Rattle.ada_events.specs.declared.names.Family.{Family}
use Rattle.ada_events.specs.declared.names.Choice.{Choice}
use Rattle.ada_events.specs.declared.names.Patience.{Patience}
use Rattle.ada_events.specs.Search.{is_number}
use Rattle.ada_events.specs.Says.{Creation, Closing, creation_in, closing_in, moment_in, started_in, aborted_in, elaborated_in}
use Rattle.ada_events.specs.Says.{completed_in, gone_in, quit_in, held_in, released_in}
use Rattle.ada_events.specs.Outcomes.{raised_in}
use Rattle.ada_laws.proofs.searching.Searching.{option_map-some, option_and_then-some}
use Rattle.ada_standing.specs.Renaming.{Renaming, renamed_master, renamed_task, renamed_tasks, renamed_event, from_both}
use Rattle.ada_standing.proofs.alike.Kinds.{AreBoth}
use Rattle.ada_standing.proofs.alike.Mastering.{eqb_alike}
use Rattle.ada_standing.proofs.held.Renamed.{renamed_task-is}

-- the second event stands for the first
pub data IsLike (names : Renaming) : Event → Event → Type 0 where
  opened : (by to : TaskNo) (x y : Master) → names.task by.0 ≡ Some to.0 → renamed_master names x ≡ Some y
      → IsLike names (event.Opened by x) (event.Opened to y)
  created : (by to : TaskNo) (x y m n : Master) (families : List Family) → names.task by.0 ≡ Some to.0 → renamed_master names x ≡ Some y
      → renamed_master names m ≡ Some n → IsLike names (event.Created by x m families) (event.Created to y n families)
  started : (by to : TaskNo) (ts us : List TaskNo) → names.task by.0 ≡ Some to.0 → renamed_tasks names ts ≡ Some us
      → IsLike names (event.Started by ts) (event.Started to us)
  elaborated : (by to : TaskNo) (ok : Bool) → names.task by.0 ≡ Some to.0 → IsLike names (event.Elaborated by ok) (event.Elaborated to ok)
  called : (by to callee other : TaskNo) (entry : Entry) (patience : Patience) (due : Option ℤ) → names.task by.0 ≡ Some to.0
      → names.task callee.0 ≡ Some other.0 → IsLike names (event.Called by callee entry patience due) (event.Called to other entry patience due)
  waiting : (by to : TaskNo) (pick : ℕ) (choices : List Choice) (tail : EventTail) → names.task by.0 ≡ Some to.0
      → IsLike names (event.Waiting by pick choices tail) (event.Waiting to pick choices tail)
  paused : (by to : TaskNo) (due : ℤ) → names.task by.0 ≡ Some to.0 → IsLike names (event.Paused by due) (event.Paused to due)
  ended : (by to : TaskNo) (p q : ℕ) (raised : Bool) → names.task by.0 ≡ Some to.0 → names.position p ≡ Some q
      → IsLike names (event.Ended by p raised) (event.Ended to q raised)
  closed : (by to : TaskNo) (p q : ℕ) → names.task by.0 ≡ Some to.0 → names.position p ≡ Some q → IsLike names (event.Closed by p) (event.Closed to q)
  completed : (by to : TaskNo) → names.task by.0 ≡ Some to.0 → IsLike names (event.Completed by) (event.Completed to)
  aborted : (by to : TaskNo) (ts us : List TaskNo) → names.task by.0 ≡ Some to.0 → renamed_tasks names ts ≡ Some us
      → IsLike names (event.Aborted by ts) (event.Aborted to us)
  ticked : (now : ℤ) → IsLike names (event.Ticked now) (event.Ticked now)
  halted : (task other : TaskNo) → names.task task.0 ≡ Some other.0 → IsLike names (event.Halted task) (event.Halted other)
  failed : (p q : ℕ) → names.position p ≡ Some q → IsLike names (event.Failed p) (event.Failed q)
  met : (p q a b : ℕ) → names.position p ≡ Some q → names.position a ≡ Some b → IsLike names (event.Met p a) (event.Met q b)
  cancelled : (p q : ℕ) → names.position p ≡ Some q → IsLike names (event.Cancelled p) (event.Cancelled q)
  passed : (p q : ℕ) (way : Way) → names.position p ≡ Some q → IsLike names (event.Passed p way) (event.Passed q way)
  woken : (p q : ℕ) → names.position p ≡ Some q → IsLike names (event.Woken p) (event.Woken q)
  activated : (p q : ℕ) (ok : Bool) → names.position p ≡ Some q → IsLike names (event.Activated p ok) (event.Activated q ok)
  gone : (task other : TaskNo) → names.task task.0 ≡ Some other.0 → IsLike names (event.Gone task) (event.Gone other)
  quit : (x y : Master) → renamed_master names x ≡ Some y → IsLike names (event.Quit x) (event.Quit y)
  left : (p q : ℕ) → names.position p ≡ Some q → IsLike names (event.Left p) (event.Left q)

pub from_both-some : {A B C : Type 0} (make : A → B → C) (a : Option A) (b : Option B) (z : C) → from_both make a b ≡ Some z
    → (x : A) × (y : B) × (a ≡ Some x) × (b ≡ Some y) × (make x y ≡ z)
from_both-some make (Some x) (Some y) z same = (x, y, refl, refl, same_Some (make x y) z same)
from_both-some make None b z same = absurd (none-some z same)
from_both-some make (Some x) None z same = absurd (none-some z same)

-- an event of a task alone
by_task : (names : Renaming) (by : TaskNo) (make : TaskNo → Event) (e f : Event) → option_map make (renamed_task names by) ≡ Some f
    → ((to : TaskNo) → names.task by.0 ≡ Some to.0 → IsLike names e (make to)) → IsLike names e f
by_task names by make e f is like =
    let (to, first, made) = option_map-some make (renamed_task names by) f is in
    rw (← made) (like to (renamed_task-is names by to first))

-- an event of a position alone
by_position : (names : Renaming) (p : ℕ) (make : ℕ → Event) (e f : Event) → option_map make (names.position p) ≡ Some f
    → ((q : ℕ) → names.position p ≡ Some q → IsLike names e (make q)) → IsLike names e f
by_position names p make e f is like =
    let (q, first, made) = option_map-some make (names.position p) f is in
    rw (← made) (like q first)

-- an event of a task and more
by_both : {A : Type 0} (names : Renaming) (by : TaskNo) (o : Option A) (make : TaskNo → A → Event) (e f : Event)
    → from_both make (renamed_task names by) o ≡ Some f
    → ((to : TaskNo) (x : A) → names.task by.0 ≡ Some to.0 → o ≡ Some x → IsLike names e (make to x)) → IsLike names e f
by_both names by o make e f is like =
    let (to, x, first, second, made) = from_both-some make (renamed_task names by) o f is in
    rw (← made) (like to x (renamed_task-is names by to first) second)

pub like_of : (names : Renaming) (e f : Event) → renamed_event names e ≡ Some f → IsLike names e f
unfolding renamed_event
like_of names (event.Opened by x) f is =
    by_both names by (renamed_master names x) event.Opened (event.Opened by x) f is (λ to y named also. IsLike.opened by to x y named also)
like_of names (event.Created by x m families) f is =
    let (to, first, both) = option_and_then-some (λ b. from_both (λ u n. event.Created b u n families) (renamed_master names x) (renamed_master names m))
    (renamed_task names by) f is in
    let (y, n, second, third, made) = from_both-some (λ u n. event.Created to u n families) (renamed_master names x) (renamed_master names m) f both in
    rw (← made) (IsLike.created by to x y m n families (renamed_task-is names by to first) second third)
like_of names (event.Started by ts) f is =
    by_both names by (renamed_tasks names ts) event.Started (event.Started by ts) f is (λ to us named also. IsLike.started by to ts us named also)
like_of names (event.Elaborated by ok) f is =
    by_task names by (λ b. event.Elaborated b ok) (event.Elaborated by ok) f is (λ to named. IsLike.elaborated by to ok named)
like_of names (event.Called by callee entry patience due) f is =
    by_both names by (renamed_task names callee) (λ b c. event.Called b c entry patience due) (event.Called by callee entry patience due) f is
    (λ to other named also. IsLike.called by to callee other entry patience due named (renamed_task-is names callee other also))
like_of names (event.Waiting by pick choices tail) f is =
    by_task names by (λ b. event.Waiting b pick choices tail) (event.Waiting by pick choices tail) f is
    (λ to named. IsLike.waiting by to pick choices tail named)
like_of names (event.Paused by due) f is =
    by_task names by (λ b. event.Paused b due) (event.Paused by due) f is (λ to named. IsLike.paused by to due named)
like_of names (event.Ended by p raised) f is =
    by_both names by (names.position p) (λ b c. event.Ended b c raised) (event.Ended by p raised) f is
    (λ to q named also. IsLike.ended by to p q raised named also)
like_of names (event.Closed by p) f is =
    by_both names by (names.position p) event.Closed (event.Closed by p) f is (λ to q named also. IsLike.closed by to p q named also)
like_of names (event.Completed by) f is = by_task names by event.Completed (event.Completed by) f is (λ to named. IsLike.completed by to named)
like_of names (event.Aborted by ts) f is =
    by_both names by (renamed_tasks names ts) event.Aborted (event.Aborted by ts) f is (λ to us named also. IsLike.aborted by to ts us named also)
like_of names (event.Ticked now) f is = rw (← same_Some (event.Ticked now) f is) (IsLike.ticked now)
like_of names (event.Halted task) f is = by_task names task event.Halted (event.Halted task) f is (λ to named. IsLike.halted task to named)
like_of names (event.Failed p) f is = by_position names p event.Failed (event.Failed p) f is (λ q placed. IsLike.failed p q placed)
like_of names (event.Met p a) f is =
    let (q, b, first, second, made) = from_both-some event.Met (names.position p) (names.position a) f is in
    rw (← made) (IsLike.met p q a b first second)
like_of names (event.Cancelled p) f is = by_position names p event.Cancelled (event.Cancelled p) f is (λ q placed. IsLike.cancelled p q placed)
like_of names (event.Passed p way) f is =
    by_position names p (λ q. event.Passed q way) (event.Passed p way) f is (λ q placed. IsLike.passed p q way placed)
like_of names (event.Woken p) f is = by_position names p event.Woken (event.Woken p) f is (λ q placed. IsLike.woken p q placed)
like_of names (event.Activated p ok) f is =
    by_position names p (λ q. event.Activated q ok) (event.Activated p ok) f is (λ q placed. IsLike.activated p q ok placed)
like_of names (event.Gone task) f is = by_task names task event.Gone (event.Gone task) f is (λ to named. IsLike.gone task to named)
like_of names (event.Quit x) f is =
    let (y, first, made) = option_map-some event.Quit (renamed_master names x) f is in
    rw (← made) (IsLike.quit x y first)
like_of names (event.Left p) f is = by_position names p event.Left (event.Left p) f is (λ q placed. IsLike.left p q placed)

-- what the two say

pub record IsSameCreation (names : Renaming) (c d : Creation) : Type 0 where
  pub by : names.task c.by ≡ Some d.by
  pub under : renamed_master names c.under ≡ Some d.under
  pub master : renamed_master names c.master ≡ Some d.master
  pub families : d.families ≡ c.families

pub creation_said : (names : Renaming) (e f : Event) → IsLike names e f → AreBoth (IsSameCreation names) (creation_in e) (creation_in f)
unfolding creation_in
creation_said names e f (IsLike.created by to x y m n families named under master) =
    AreBoth.both _ _ refl refl (record { by = named; under = under; master = master; families = refl })
creation_said names e f _ = AreBoth.neither refl refl

pub record IsSameClosing (names : Renaming) (c d : Closing) : Type 0 where
  pub by : names.task c.by ≡ Some d.by
  pub block : names.position c.block ≡ Some d.block

pub closing_said : (names : Renaming) (e f : Event) → IsLike names e f → AreBoth (IsSameClosing names) (closing_in e) (closing_in f)
unfolding closing_in
closing_said names e f (IsLike.closed by to p q named placed) = AreBoth.both _ _ refl refl (record { by = named; block = placed })
closing_said names e f _ = AreBoth.neither refl refl

pub moment_said : (names : Renaming) (e f : Event) → IsLike names e f → moment_in f ≡ moment_in e
unfolding moment_in
moment_said names e f (IsLike.ticked now) = refl
moment_said names e f _ = refl

pub gone_said : (names : Renaming) (e f : Event) → IsLike names e f → option_map names.task (gone_in e) ≡ option_map Some (gone_in f)
unfolding gone_in
gone_said names e f (IsLike.gone task other named) = ap Some named
gone_said names e f _ = refl

pub quit_said : (names : Renaming) (e f : Event) → IsLike names e f → option_map (renamed_master names) (quit_in e) ≡ option_map Some (quit_in f)
unfolding quit_in
quit_said names e f (IsLike.quit x y is) = ap Some is
quit_said names e f _ = refl

pub started_said : (names : Renaming) (e f : Event) → IsLike names e f → renamed_tasks names (started_in e) ≡ Some (started_in f)
unfolding started_in renamed_tasks
started_said names e f (IsLike.started by to ts us named also) = also
started_said names e f _ = refl

pub aborted_said : (names : Renaming) (e f : Event) → IsLike names e f → renamed_tasks names (aborted_in e) ≡ Some (aborted_in f)
unfolding aborted_in renamed_tasks
aborted_said names e f (IsLike.aborted by to ts us named also) = also
aborted_said names e f _ = refl

pub elaborated_said : (names : Renaming) (e f : Event) → IsLike names e f → option_map names.task (elaborated_in e) ≡ option_map Some (elaborated_in f)
unfolding elaborated_in
elaborated_said names e f (IsLike.elaborated by to ok named) = ap Some named
elaborated_said names e f _ = refl

pub completed_said : (names : Renaming) (e f : Event) → IsLike names e f → option_map names.task (completed_in e) ≡ option_map Some (completed_in f)
unfolding completed_in
completed_said names e f (IsLike.completed by to named) = ap Some named
completed_said names e f (IsLike.elaborated by to false named) = ap Some named
completed_said names e f (IsLike.elaborated by to true named) = refl
completed_said names e f (IsLike.halted task other named) = ap Some named
completed_said names e f _ = refl

pub held_said : (names : Renaming) (e f : Event) → IsLike names e f → option_map names.task (held_in e) ≡ option_map Some (held_in f)
unfolding held_in
held_said names e f (IsLike.called by to callee other entry patience due named also) = ap Some named
held_said names e f (IsLike.waiting by to pick choices tail named) = ap Some named
held_said names e f (IsLike.paused by to due named) = ap Some named
held_said names e f (IsLike.started by to ts us named also) = ap Some named
held_said names e f (IsLike.closed by to p q named placed) = ap Some named
held_said names e f _ = refl

pub raised_said : (names : Renaming) (e f : Event) → IsLike names e f → option_map names.task (raised_in e) ≡ option_map Some (raised_in f)
unfolding raised_in
raised_said names e f (IsLike.ended by to p q true named placed) = ap Some named
raised_said names e f (IsLike.ended by to p q false named placed) = refl
raised_said names e f _ = refl

pub released_said : (names : Renaming) (e f : Event) → IsLike names e f → option_map names.position (released_in e) ≡ option_map Some (released_in f)
unfolding released_in
released_said names e f (IsLike.ended by to p q raised named placed) = ap Some placed
released_said names e f (IsLike.failed p q placed) = ap Some placed
released_said names e f (IsLike.cancelled p q placed) = ap Some placed
released_said names e f (IsLike.met p q a b first second) = ap Some second
released_said names e f (IsLike.passed p q way placed) = ap Some placed
released_said names e f (IsLike.woken p q placed) = ap Some placed
released_said names e f (IsLike.activated p q ok placed) = ap Some placed
released_said names e f (IsLike.left p q placed) = ap Some placed
released_said names e f _ = refl

-- a number is the one, and what stands for it the other, alike
pub number_alike : (to : ℕ → Option ℕ) (o n : Option ℕ) (u v : ℕ) → ((s t v : ℕ) → to s ≡ Some v → to t ≡ Some v → s ≡ t)
    → option_map to o ≡ option_map Some n → to u ≡ Some v → is_number u o ≡ is_number v n
number_alike to None None u v one same named = refl
number_alike to (Some a) (Some b) u v one same named = eqb_alike to u a v b one named (same_Some (to a) (Some b) same)
number_alike to None (Some b) u v one same named = absurd (none-some (Some b) same)
number_alike to (Some a) None u v one same named = absurd (none-some (to a) (sym same))
