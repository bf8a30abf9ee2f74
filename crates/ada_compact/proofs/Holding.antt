-- Two calls, waits, delays, starts or closes that hold tasks up alike.
use Rattle.std.proofs.Common.{◌≡◌, ℕ, ℤ, false, Option, Some, List, ap}
use Rattle.std.specs.List.{list_any}
use Rattle.ada_events.specs.declared.event.Event.{Event}
use Rattle.ada_events.specs.declared.event.Event.TheVariants.{Called, Waiting, Paused, Started, Closed}
use Rattle.ada_events.specs.declared.event.EventTail.{EventTail}
use Rattle.ada_events.specs.declared.names.TaskNo.{TaskNo}
use Rattle.ada_events.specs.declared.names.Entry.{Entry}
use Rattle.ada_events.specs.declared.names.Choice.{Choice}
use Rattle.ada_events.specs.declared.names.Patience.{Patience}
use Rattle.ada_events.specs.Says.{call_in, wait_in, delay_in, start_in, closing_in}
use Rattle.ada_events.specs.Phases.{has_failed}
use Rattle.ada_events.specs.Calls.{is_met}
use Rattle.ada_events.specs.Forced.{is_conditional}
use Rattle.ada_standing.specs.Renaming.{Renaming}
use Rattle.ada_standing.specs.Holds.{IsSameHold}
use Rattle.ada_standing.specs.Holds.IsSameHold.{call, wait, pause, start, close}
use Rattle.ada_compact.specs.internal.Starting.{AreListedAlike}

module _ (old new : List Event) (names : Renaming) (p q : ℕ) (d e : Event) where
  pub same_calls : (by at callee server : TaskNo) (entry other : Entry) (patience other_patience : Patience) (due moment : Option ℤ)
      → d ≡ Called by callee entry patience due → e ≡ Called at server other other_patience moment
      → names.task callee.0 ≡ Some server.0 → other ≡ entry → is_met new q ≡ is_met old p
      → (is_met old p ≡ false → is_conditional other_patience ≡ is_conditional patience) → (is_met old p ≡ false → moment ≡ due)
      → IsSameHold old new names p q d e
  unfolding call_in
  same_calls by at callee server entry other patience other_patience due moment is copy named entries met conditional dues =
      call _ _ (ap call_in is) (ap call_in copy)
      (record { callee = named; entry = entries; met = met; conditional = conditional; due = dues })

  pub same_waits : (by at : TaskNo) (pick other : ℕ) (choices alternatives : List Choice) (tail end : EventTail)
      → d ≡ Waiting by pick choices tail → e ≡ Waiting at other alternatives end
      → other ≡ pick → alternatives ≡ choices → end ≡ tail → IsSameHold old new names p q d e
  unfolding wait_in
  same_waits by at pick other choices alternatives tail end is copy picks lists tails =
      wait _ _ (ap wait_in is) (ap wait_in copy) (record { choices = lists; tail = tails; pick = picks })

  pub same_pauses : (by at : TaskNo) (due moment : ℤ) → d ≡ Paused by due → e ≡ Paused at moment → moment ≡ due → IsSameHold old new names p q d e
  unfolding delay_in
  same_pauses by at due moment is copy same = pause _ _ (ap delay_in is) (ap delay_in copy) same

  pub same_closes : (by at : TaskNo) (block other : ℕ) → d ≡ Closed by block → e ≡ Closed at other → names.position block ≡ Some other
      → IsSameHold old new names p q d e
  unfolding closing_in
  same_closes by at block other is copy same = close _ _ (ap closing_in is) (ap closing_in copy) same

  pub same_starts : (by at : TaskNo) (tasks others : List TaskNo) → d ≡ Started by tasks → e ≡ Started at others
      → AreListedAlike old names tasks others
      → list_any (λ (t : TaskNo). has_failed new t.0) others ≡ list_any (λ (t : TaskNo). has_failed old t.0) tasks → IsSameHold old new names p q d e
  unfolding start_in
  same_starts by at tasks others is copy pending failed =
      start _ _ (ap start_in is) (ap start_in copy) (record { pending = λ u v. pending u v; failed = failed })
