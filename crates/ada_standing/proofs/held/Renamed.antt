-- An event and the one that stands for it, kind by kind.
use Rattle.std.proofs.Common.{◌≡◌, ℕ, ℤ, Bool, Option, Some, None, List, refl, subst, ap, ◌∙◌}
use Rattle.std.specs.Option.{option_map}
use Rattle.std.proofs.lemmas.Option.{same_Some, none-some}
use Rattle.ada_events.specs.declared.event.Event.{Event}
use Rattle.ada_events.specs.declared.event.Event.TheVariants.{Opened, Created, Started, Elaborated, Called, Waiting, Paused, Ended, Closed, Completed, Aborted}
use Rattle.ada_events.specs.declared.event.Event.TheVariants.{Ticked, Halted, Failed, Met, Cancelled, Passed, Woken, Activated, Gone, Quit, Left}
use Rattle.ada_events.specs.declared.event.EventTail.{EventTail}
use Rattle.ada_events.specs.declared.event.Way.{Way}
use Rattle.ada_events.specs.declared.names.TaskNo.{TaskNo}
use Rattle.ada_events.specs.declared.names.Master.{Master}
use Rattle.ada_events.specs.declared.names.Entry.{Entry}
use Rattle.ada_events.specs.declared.names.Family.{Family}
use Rattle.ada_events.specs.declared.names.Choice.{Choice}
use Rattle.ada_events.specs.declared.names.Patience.{Patience}
use Rattle.ada_events.specs.Forced.{task_no}
use Rattle.ada_laws.proofs.searching.Searching.{option_map-some, option_and_then-some}
use Rattle.ada_standing.specs.Renaming.{Renaming, from_both, renamed_master, renamed_task, renamed_tasks, renamed_event}

-- the second event is the first, of the tasks, masters and positions that stand for those of the first
pub data IsRenamed (names : Renaming) : Event → Event → Type 0 where
  opens : (b c : TaskNo) (m n : Master) → names.task b.0 ≡ Some c.0 → renamed_master names m ≡ Some n → IsRenamed names (Opened b m) (Opened c n)
  creates : (b c : TaskNo) (m n x y : Master) (families : List Family) → names.task b.0 ≡ Some c.0 → renamed_master names m ≡ Some n
      → renamed_master names x ≡ Some y → IsRenamed names (Created b m x families) (Created c n y families)
  starts : (b c : TaskNo) (s t : List TaskNo) → names.task b.0 ≡ Some c.0 → renamed_tasks names s ≡ Some t → IsRenamed names (Started b s) (Started c t)
  elaborates : (b c : TaskNo) (ok : Bool) → names.task b.0 ≡ Some c.0 → IsRenamed names (Elaborated b ok) (Elaborated c ok)
  calls : (b c s t : TaskNo) (entry : Entry) (patience : Patience) (due : Option ℤ) → names.task b.0 ≡ Some c.0 → names.task s.0 ≡ Some t.0
      → IsRenamed names (Called b s entry patience due) (Called c t entry patience due)
  waits : (b c : TaskNo) (pick : ℕ) (choices : List Choice) (tail : EventTail) → names.task b.0 ≡ Some c.0
      → IsRenamed names (Waiting b pick choices tail) (Waiting c pick choices tail)
  pauses : (b c : TaskNo) (due : ℤ) → names.task b.0 ≡ Some c.0 → IsRenamed names (Paused b due) (Paused c due)
  ends : (b c : TaskNo) (p q : ℕ) (raised : Bool) → names.task b.0 ≡ Some c.0 → names.position p ≡ Some q
      → IsRenamed names (Ended b p raised) (Ended c q raised)
  closes : (b c : TaskNo) (p q : ℕ) → names.task b.0 ≡ Some c.0 → names.position p ≡ Some q → IsRenamed names (Closed b p) (Closed c q)
  completes : (b c : TaskNo) → names.task b.0 ≡ Some c.0 → IsRenamed names (Completed b) (Completed c)
  aborts : (b c : TaskNo) (s t : List TaskNo) → names.task b.0 ≡ Some c.0 → renamed_tasks names s ≡ Some t → IsRenamed names (Aborted b s) (Aborted c t)
  ticks : (now : ℤ) → IsRenamed names (Ticked now) (Ticked now)
  halts : (b c : TaskNo) → names.task b.0 ≡ Some c.0 → IsRenamed names (Halted b) (Halted c)
  fails : (p q : ℕ) → names.position p ≡ Some q → IsRenamed names (Failed p) (Failed q)
  meets : (p q v w : ℕ) → names.position p ≡ Some q → names.position v ≡ Some w → IsRenamed names (Met p v) (Met q w)
  cancels : (p q : ℕ) → names.position p ≡ Some q → IsRenamed names (Cancelled p) (Cancelled q)
  passes : (p q : ℕ) (way : Way) → names.position p ≡ Some q → IsRenamed names (Passed p way) (Passed q way)
  wakes : (p q : ℕ) → names.position p ≡ Some q → IsRenamed names (Woken p) (Woken q)
  activates : (p q : ℕ) (ok : Bool) → names.position p ≡ Some q → IsRenamed names (Activated p ok) (Activated q ok)
  goes : (b c : TaskNo) → names.task b.0 ≡ Some c.0 → IsRenamed names (Gone b) (Gone c)
  quits : (m n : Master) → renamed_master names m ≡ Some n → IsRenamed names (Quit m) (Quit n)
  leaves : (p q : ℕ) → names.position p ≡ Some q → IsRenamed names (Left p) (Left q)

pub from_both-some : {A B C : Type 0} (make : A → B → C) (a : Option A) (b : Option B) (y : C) → from_both make a b ≡ Some y
    → (x : A) × (z : B) × (a ≡ Some x) × (b ≡ Some z) × (make x z ≡ y)
from_both-some make (Some a) (Some b) y same = (a, b, refl, refl, same_Some (make a b) y same)
from_both-some make (Some a) None y same = absurd (none-some y same)
from_both-some make None b y same = absurd (none-some y same)

pub renamed_task-is : (names : Renaming) (t u : TaskNo) → renamed_task names t ≡ Some u → names.task t.0 ≡ Some u.0
unfolding renamed_task
renamed_task-is names t u same =
    let (v, is, made) = option_map-some task_no (names.task t.0) u same in
    is ∙ ap (λ (x : TaskNo). Some x.0) made

-- an event with one part that is named
of_task : (names : Renaming) (d e : Event) (make : TaskNo → Event) (b : TaskNo) → ((c : TaskNo) → names.task b.0 ≡ Some c.0 → IsRenamed names d (make c))
    → option_map make (renamed_task names b) ≡ Some e → IsRenamed names d e
of_task names d e make b by same =
    let (c, is, made) = option_map-some make (renamed_task names b) e same in
    subst (IsRenamed names d) made (by c (renamed_task-is names b c is))

of_position : (names : Renaming) (d e : Event) (make : ℕ → Event) (p : ℕ) → ((q : ℕ) → names.position p ≡ Some q → IsRenamed names d (make q))
    → option_map make (names.position p) ≡ Some e → IsRenamed names d e
of_position names d e make p by same =
    let (q, is, made) = option_map-some make (names.position p) e same in
    subst (IsRenamed names d) made (by q is)

-- and with a task and one more
of_two : {B : Type 0} (names : Renaming) (d e : Event) (make : TaskNo → B → Event) (b : TaskNo) (o : Option B)
    → ((c : TaskNo) (z : B) → names.task b.0 ≡ Some c.0 → o ≡ Some z → IsRenamed names d (make c z)) → from_both make (renamed_task names b) o ≡ Some e
    → IsRenamed names d e
of_two names d e make b o by same =
    let (c, z, is, has, made) = from_both-some make (renamed_task names b) o e same in
    subst (IsRenamed names d) made (by c z (renamed_task-is names b c is) has)

pub is_renamed : (names : Renaming) (d e : Event) → renamed_event names d ≡ Some e → IsRenamed names d e
unfolding renamed_event
is_renamed names (Opened b m) e same = of_two names _ e Opened b (renamed_master names m) (λ c n is has. opens b c m n is has) same
is_renamed names (Created b m x families) e same =
    let (c, is, rest) = option_and_then-some
    (λ c. from_both (λ n y. Created c n y families) (renamed_master names m) (renamed_master names x)) (renamed_task names b) e same in
    let (n, y, has, also, made) = from_both-some (λ n y. Created c n y families) (renamed_master names m) (renamed_master names x) e rest in
    subst (IsRenamed names (Created b m x families)) made (creates b c m n x y families (renamed_task-is names b c is) has also)
is_renamed names (Started b s) e same = of_two names _ e Started b (renamed_tasks names s) (λ c t is has. starts b c s t is has) same
is_renamed names (Elaborated b ok) e same = of_task names _ e (λ c. Elaborated c ok) b (λ c is. elaborates b c ok is) same
is_renamed names (Called b s entry patience due) e same =
    of_two names _ e (λ c t. Called c t entry patience due) b (renamed_task names s)
    (λ c t is has. calls b c s t entry patience due is (renamed_task-is names s t has)) same
is_renamed names (Waiting b pick choices tail) e same =
    of_task names _ e (λ c. Waiting c pick choices tail) b (λ c is. waits b c pick choices tail is) same
is_renamed names (Paused b due) e same = of_task names _ e (λ c. Paused c due) b (λ c is. pauses b c due is) same
is_renamed names (Ended b p raised) e same =
    of_two names _ e (λ c q. Ended c q raised) b (names.position p) (λ c q is has. ends b c p q raised is has) same
is_renamed names (Closed b p) e same = of_two names _ e Closed b (names.position p) (λ c q is has. closes b c p q is has) same
is_renamed names (Completed b) e same = of_task names _ e Completed b (λ c is. completes b c is) same
is_renamed names (Aborted b s) e same = of_two names _ e Aborted b (renamed_tasks names s) (λ c t is has. aborts b c s t is has) same
is_renamed names (Ticked now) e same = subst (IsRenamed names (Ticked now)) (same_Some (Ticked now) e same) (ticks now)
is_renamed names (Halted b) e same = of_task names _ e Halted b (λ c is. halts b c is) same
is_renamed names (Failed p) e same = of_position names _ e Failed p (λ q is. fails p q is) same
is_renamed names (Met p v) e same =
    let (q, w, is, has, made) = from_both-some Met (names.position p) (names.position v) e same in
    subst (IsRenamed names (Met p v)) made (meets p q v w is has)
is_renamed names (Cancelled p) e same = of_position names _ e Cancelled p (λ q is. cancels p q is) same
is_renamed names (Passed p way) e same = of_position names _ e (λ q. Passed q way) p (λ q is. passes p q way is) same
is_renamed names (Woken p) e same = of_position names _ e Woken p (λ q is. wakes p q is) same
is_renamed names (Activated p ok) e same = of_position names _ e (λ q. Activated q ok) p (λ q is. activates p q ok is) same
is_renamed names (Gone b) e same = of_task names _ e Gone b (λ c is. goes b c is) same
is_renamed names (Quit m) e same =
    let (n, is, made) = option_map-some Quit (renamed_master names m) e same in
    subst (IsRenamed names (Quit m)) made (quits m n is)
is_renamed names (Left p) e same = of_position names _ e Left p (λ q is. leaves p q is) same
