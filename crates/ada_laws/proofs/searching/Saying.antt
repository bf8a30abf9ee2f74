-- What events say, one thing against another.
use Rattle.std.proofs.Common.{◌≡◌, ℕ, true, false, Some, List, ap}
use Rattle.std.proofs.lemmas.Option.{same_Some, none-some}
use Rattle.ada_events.specs.declared.event.Event.{Event}
use Rattle.ada_events.specs.declared.event.Event.TheVariants as event
use Rattle.ada_events.specs.declared.request.Request.{Request}
use Rattle.ada_events.specs.declared.request.Request.TheVariants as request
use Rattle.ada_events.specs.Says.{Call, Wait, Delay, Start, Closing, call_in, wait_in, delay_in, start_in, closing_in, held_in, left_in, released_in}
use Rattle.ada_events.specs.Asks.{asker, asked_event}
use Rattle.ada_events.specs.Says.{completed_in, elaborated_in}

-- what holds a task up: its calls, waits, delays, starts and closes
pub held_in-call : (e : Event) (c : Call) → call_in e ≡ Some c → held_in e ≡ Some c.by
unfolding call_in held_in
held_in-call (event.Called by callee entry patience due) c says = ap (λ (d : Call). Some d.by) (same_Some _ c says)
held_in-call _ c says = absurd (none-some c says)

pub held_in-wait : (e : Event) (w : Wait) → wait_in e ≡ Some w → held_in e ≡ Some w.by
unfolding wait_in held_in
held_in-wait (event.Waiting by pick choices tail) w says = ap (λ (d : Wait). Some d.by) (same_Some _ w says)
held_in-wait _ w says = absurd (none-some w says)

pub held_in-delay : (e : Event) (d : Delay) → delay_in e ≡ Some d → held_in e ≡ Some d.by
unfolding delay_in held_in
held_in-delay (event.Paused by due) d says = ap (λ (x : Delay). Some x.by) (same_Some _ d says)
held_in-delay _ d says = absurd (none-some d says)

pub held_in-start : (e : Event) (s : Start) → start_in e ≡ Some s → held_in e ≡ Some s.by
unfolding start_in held_in
held_in-start (event.Started by tasks) s says = ap (λ (d : Start). Some d.by) (same_Some _ s says)
held_in-start _ s says = absurd (none-some s says)

pub held_in-closing : (e : Event) (c : Closing) → closing_in e ≡ Some c → held_in e ≡ Some c.by
unfolding closing_in held_in
held_in-closing (event.Closed by block) c says = ap (λ (d : Closing). Some d.by) (same_Some _ c says)
held_in-closing _ c says = absurd (none-some c says)

-- a request holds up nobody but the task that asks
pub held_in-asked : (journal : List Event) (r : Request) (task : ℕ) → held_in (asked_event journal r) ≡ Some task → asker r ≡ Some task
unfolding asked_event held_in asker
held_in-asked journal (request.Call by callee entry patience) task says = says
held_in-asked journal (request.Wait by choices tail pick) task says = says
held_in-asked journal (request.Delay by duration) task says = says
held_in-asked journal (request.Activate by tasks) task says = says
held_in-asked journal (request.Close by) task says = says
held_in-asked journal _ task says = absurd (none-some task says)

pub left_frees : (e : Event) (c : ℕ) → left_in e ≡ Some c → released_in e ≡ Some c
unfolding left_in released_in
left_frees (event.Left close) c says = says
left_frees _ c says = absurd (none-some c says)

pub asked_completes : (journal : List Event) (r : Request) (u : ℕ) → completed_in (asked_event journal r) ≡ Some u → asker r ≡ Some u
unfolding completed_in asked_event asker
asked_completes journal (request.Complete by) u says = says
asked_completes journal (request.Elaborated by false) u says = says
asked_completes journal (request.Elaborated by true) u says = absurd (none-some u says)
asked_completes journal _ u says = absurd (none-some u says)

pub asked_elaborates : (journal : List Event) (r : Request) (u : ℕ) → elaborated_in (asked_event journal r) ≡ Some u → asker r ≡ Some u
unfolding elaborated_in asked_event asker
asked_elaborates journal (request.Elaborated by ok) u says = says
asked_elaborates journal _ u says = absurd (none-some u says)
