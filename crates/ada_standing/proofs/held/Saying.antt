-- What an event says, and what the one that stands for it says: of the tasks, masters and positions that stand for those of the first.
use Rattle.std.proofs.Common.{◌≡◌, ℕ, true, false, Some, refl}
use Rattle.ada_events.specs.declared.event.Event.{Event}
use Rattle.ada_events.specs.Says.{Opening, Start, Call, Meeting, opening_in, start_in, call_in, wait_in}
use Rattle.ada_events.specs.Says.{delay_in, closing_in, meeting_in, failed_in, held_in, released_in, left_in}
use Rattle.ada_standing.specs.Renaming.{Renaming, renamed_master, renamed_tasks}
use Rattle.ada_standing.specs.Holds.{IsSameWait}
use Rattle.ada_standing.proofs.alike.Kinds.{AreBoth, AreDueAlike}
use Rattle.ada_standing.proofs.held.Renamed.{IsRenamed}
use Rattle.ada_standing.proofs.kept.Saying.{IsSameClosing}

abbrev pub AreTasks : Renaming → ℕ → ℕ → Type 0
AreTasks names t u = names.task t ≡ Some u

abbrev pub ArePositions : Renaming → ℕ → ℕ → Type 0
ArePositions names p q = names.position p ≡ Some q

pub record AreOpenings (names : Renaming) (o p : Opening) : Type 0 where
  pub by : names.task o.by ≡ Some p.by
  pub under : renamed_master names o.under ≡ Some p.under

pub record AreMeetings (names : Renaming) (m n : Meeting) : Type 0 where
  pub call : names.position m.call ≡ Some n.call
  pub wait : names.position m.wait ≡ Some n.wait

pub record AreCalls (names : Renaming) (c d : Call) : Type 0 where
  pub callee : names.task c.callee ≡ Some d.callee
  pub entry : d.entry ≡ c.entry
  pub patience : d.patience ≡ c.patience
  pub due : d.due ≡ c.due

abbrev pub AreStarts : Renaming → Start → Start → Type 0
AreStarts names s r = renamed_tasks names s.tasks ≡ Some r.tasks

module _ (names : Renaming) where
  pub openings_both : (d e : Event) → IsRenamed names d e → AreBoth (AreOpenings names) (opening_in d) (opening_in e)
  unfolding opening_in
  openings_both d e (IsRenamed.opens b c m n is has) = AreBoth.both _ _ refl refl (record { by = is; under = has })
  openings_both d e _ = AreBoth.neither refl refl

  pub starts_both : (d e : Event) → IsRenamed names d e → AreBoth (AreStarts names) (start_in d) (start_in e)
  unfolding start_in
  starts_both d e (IsRenamed.starts b c s t is has) = AreBoth.both _ _ refl refl has
  starts_both d e _ = AreBoth.neither refl refl

  pub calls_both : (d e : Event) → IsRenamed names d e → AreBoth (AreCalls names) (call_in d) (call_in e)
  unfolding call_in
  calls_both d e (IsRenamed.calls b c s t entry patience due is has) =
      AreBoth.both _ _ refl refl (record { callee = has; entry = refl; patience = refl; due = refl })
  calls_both d e _ = AreBoth.neither refl refl

  pub waits_both : (d e : Event) → IsRenamed names d e → AreBoth IsSameWait (wait_in d) (wait_in e)
  unfolding wait_in
  waits_both d e (IsRenamed.waits b c pick choices tail is) = AreBoth.both _ _ refl refl (record { choices = refl; tail = refl; pick = refl })
  waits_both d e _ = AreBoth.neither refl refl

  pub delays_both : (d e : Event) → IsRenamed names d e → AreBoth AreDueAlike (delay_in d) (delay_in e)
  unfolding delay_in
  delays_both d e (IsRenamed.pauses b c due is) = AreBoth.both _ _ refl refl refl
  delays_both d e _ = AreBoth.neither refl refl

  pub closings_both : (d e : Event) → IsRenamed names d e → AreBoth (IsSameClosing names) (closing_in d) (closing_in e)
  unfolding closing_in
  closings_both d e (IsRenamed.closes b c p q is has) = AreBoth.both _ _ refl refl (record { by = is; block = has })
  closings_both d e _ = AreBoth.neither refl refl

  pub meetings_both : (d e : Event) → IsRenamed names d e → AreBoth (AreMeetings names) (meeting_in d) (meeting_in e)
  unfolding meeting_in
  meetings_both d e (IsRenamed.meets p q v w is has) = AreBoth.both _ _ refl refl (record { call = is; wait = has })
  meetings_both d e _ = AreBoth.neither refl refl

  pub left_both : (d e : Event) → IsRenamed names d e → AreBoth (ArePositions names) (left_in d) (left_in e)
  unfolding left_in
  left_both d e (IsRenamed.leaves p q is) = AreBoth.both p q refl refl is
  left_both d e _ = AreBoth.neither refl refl

  pub failed_both : (d e : Event) → IsRenamed names d e → AreBoth (AreTasks names) (failed_in d) (failed_in e)
  unfolding failed_in
  failed_both d e (IsRenamed.elaborates b c false is) = AreBoth.both b.0 c.0 refl refl is
  failed_both d e (IsRenamed.elaborates b c true is) = AreBoth.neither refl refl
  failed_both d e _ = AreBoth.neither refl refl

  pub held_both : (d e : Event) → IsRenamed names d e → AreBoth (AreTasks names) (held_in d) (held_in e)
  unfolding held_in
  held_both d e (IsRenamed.calls b c s t entry patience due is has) = AreBoth.both b.0 c.0 refl refl is
  held_both d e (IsRenamed.waits b c pick choices tail is) = AreBoth.both b.0 c.0 refl refl is
  held_both d e (IsRenamed.pauses b c due is) = AreBoth.both b.0 c.0 refl refl is
  held_both d e (IsRenamed.starts b c s t is has) = AreBoth.both b.0 c.0 refl refl is
  held_both d e (IsRenamed.closes b c p q is has) = AreBoth.both b.0 c.0 refl refl is
  held_both d e _ = AreBoth.neither refl refl

  pub released_both : (d e : Event) → IsRenamed names d e → AreBoth (ArePositions names) (released_in d) (released_in e)
  unfolding released_in
  released_both d e (IsRenamed.ends b c p q raised is has) = AreBoth.both p q refl refl has
  released_both d e (IsRenamed.fails p q is) = AreBoth.both p q refl refl is
  released_both d e (IsRenamed.meets p q v w is has) = AreBoth.both v w refl refl has
  released_both d e (IsRenamed.cancels p q is) = AreBoth.both p q refl refl is
  released_both d e (IsRenamed.passes p q way is) = AreBoth.both p q refl refl is
  released_both d e (IsRenamed.wakes p q is) = AreBoth.both p q refl refl is
  released_both d e (IsRenamed.activates p q ok is) = AreBoth.both p q refl refl is
  released_both d e (IsRenamed.leaves p q is) = AreBoth.both p q refl refl is
  released_both d e _ = AreBoth.neither refl refl
