-- Kinds of events that hold tasks up: what holds up alike is of one kind, and says the same.
use Rattle.std.proofs.Common.{◌≡◌, ℕ, true, Option, Some, None, List, refl, sym, ◌≢◌, is_some}
use Rattle.std.proofs.lemmas.Option.{none-some}
use Rattle.ada_events.specs.declared.event.Event.{Event}
use Rattle.ada_events.specs.declared.event.Event.TheVariants as event
use Rattle.ada_events.specs.Says.{Call, Wait, Delay, Start, Closing, call_in, wait_in, delay_in, start_in, closing_in}
use Rattle.ada_events.specs.Waits.{tail_due}
use Rattle.ada_standing.specs.Renaming.{Renaming}
use Rattle.ada_standing.specs.Holds.{IsSameCall, IsSameWait, IsSameStart, IsSameHold, is_same_kind}

-- 1 a call, 2 a wait, 3 a delay, 4 a start, 5 a close, 0 an event that holds nobody up
unfoldable kind : Event → ℕ
kind (event.Called by callee entry patience due) = 1
kind (event.Waiting by pick choices tail) = 2
kind (event.Paused by due) = 3
kind (event.Started by tasks) = 4
kind (event.Closed by block) = 5
kind _ = 0

call_kind : (e : Event) (c : Call) → call_in e ≡ Some c → kind e ≡ 1
unfolding call_in kind
call_kind (event.Called by callee entry patience due) c says = refl
call_kind _ c says = absurd (none-some c says)

wait_kind : (e : Event) (w : Wait) → wait_in e ≡ Some w → kind e ≡ 2
unfolding wait_in kind
wait_kind (event.Waiting by pick choices tail) w says = refl
wait_kind _ w says = absurd (none-some w says)

delay_kind : (e : Event) (d : Delay) → delay_in e ≡ Some d → kind e ≡ 3
unfolding delay_in kind
delay_kind (event.Paused by due) d says = refl
delay_kind _ d says = absurd (none-some d says)

start_kind : (e : Event) (s : Start) → start_in e ≡ Some s → kind e ≡ 4
unfolding start_in kind
start_kind (event.Started by tasks) s says = refl
start_kind _ s says = absurd (none-some s says)

closing_kind : (e : Event) (c : Closing) → closing_in e ≡ Some c → kind e ≡ 5
unfolding closing_in kind
closing_kind (event.Closed by block) c says = refl
closing_kind _ c says = absurd (none-some c says)

no_call : (e : Event) (n : ℕ) → kind e ≡ n → n ≢ 1 → call_in e ≡ None
unfolding call_in kind
no_call (event.Called by callee entry patience due) n is other = absurd (other (sym is))
no_call _ n is other = refl

no_wait : (e : Event) (n : ℕ) → kind e ≡ n → n ≢ 2 → wait_in e ≡ None
unfolding wait_in kind
no_wait (event.Waiting by pick choices tail) n is other = absurd (other (sym is))
no_wait _ n is other = refl

no_delay : (e : Event) (n : ℕ) → kind e ≡ n → n ≢ 3 → delay_in e ≡ None
unfolding delay_in kind
no_delay (event.Paused by due) n is other = absurd (other (sym is))
no_delay _ n is other = refl

no_start : (e : Event) (n : ℕ) → kind e ≡ n → n ≢ 4 → start_in e ≡ None
unfolding start_in kind
no_start (event.Started by tasks) n is other = absurd (other (sym is))
no_start _ n is other = refl

no_closing : (e : Event) (n : ℕ) → kind e ≡ n → n ≢ 5 → closing_in e ≡ None
unfolding closing_in kind
no_closing (event.Closed by block) n is other = absurd (other (sym is))
no_closing _ n is other = refl

-- both say something, and the same, or neither does
pub data AreBoth {X : Type 0} (Same : X → X → Type 0) (a b : Option X) : Type 0 where
  both : (x y : X) → a ≡ Some x → b ≡ Some y → Same x y → AreBoth Same a b
  neither : a ≡ None → b ≡ None → AreBoth Same a b

-- what holds up alike, kind by kind

pub calls_alike : (old new : List Event) (names : Renaming) (p q : ℕ) (d e : Event) → IsSameHold old new names p q d e
    → AreBoth (IsSameCall old new names p q) (call_in d) (call_in e)
calls_alike old new names p q d e (IsSameHold.call c b is has same) = AreBoth.both c b is has same
calls_alike old new names p q d e (IsSameHold.wait w v is has same) =
    AreBoth.neither (no_call d 2 (wait_kind d w is) (λ one. absurd cc)) (no_call e 2 (wait_kind e v has) (λ one. absurd cc))
calls_alike old new names p q d e (IsSameHold.pause a b is has same) =
    AreBoth.neither (no_call d 3 (delay_kind d a is) (λ one. absurd cc)) (no_call e 3 (delay_kind e b has) (λ one. absurd cc))
calls_alike old new names p q d e (IsSameHold.start s r is has same) =
    AreBoth.neither (no_call d 4 (start_kind d s is) (λ one. absurd cc)) (no_call e 4 (start_kind e r has) (λ one. absurd cc))
calls_alike old new names p q d e (IsSameHold.close a b is has same) =
    AreBoth.neither (no_call d 5 (closing_kind d a is) (λ one. absurd cc)) (no_call e 5 (closing_kind e b has) (λ one. absurd cc))

pub waits_alike : (old new : List Event) (names : Renaming) (p q : ℕ) (d e : Event) → IsSameHold old new names p q d e
    → AreBoth IsSameWait (wait_in d) (wait_in e)
waits_alike old new names p q d e (IsSameHold.wait w v is has same) = AreBoth.both w v is has same
waits_alike old new names p q d e (IsSameHold.call c b is has same) =
    AreBoth.neither (no_wait d 1 (call_kind d c is) (λ one. absurd cc)) (no_wait e 1 (call_kind e b has) (λ one. absurd cc))
waits_alike old new names p q d e (IsSameHold.pause a b is has same) =
    AreBoth.neither (no_wait d 3 (delay_kind d a is) (λ one. absurd cc)) (no_wait e 3 (delay_kind e b has) (λ one. absurd cc))
waits_alike old new names p q d e (IsSameHold.start s r is has same) =
    AreBoth.neither (no_wait d 4 (start_kind d s is) (λ one. absurd cc)) (no_wait e 4 (start_kind e r has) (λ one. absurd cc))
waits_alike old new names p q d e (IsSameHold.close a b is has same) =
    AreBoth.neither (no_wait d 5 (closing_kind d a is) (λ one. absurd cc)) (no_wait e 5 (closing_kind e b has) (λ one. absurd cc))

abbrev pub AreDueAlike : Delay → Delay → Type 0
AreDueAlike a b = b.due ≡ a.due

pub delays_alike : (old new : List Event) (names : Renaming) (p q : ℕ) (d e : Event) → IsSameHold old new names p q d e
    → AreBoth AreDueAlike (delay_in d) (delay_in e)
delays_alike old new names p q d e (IsSameHold.pause a b is has same) = AreBoth.both a b is has same
delays_alike old new names p q d e (IsSameHold.call c b is has same) =
    AreBoth.neither (no_delay d 1 (call_kind d c is) (λ one. absurd cc)) (no_delay e 1 (call_kind e b has) (λ one. absurd cc))
delays_alike old new names p q d e (IsSameHold.wait w v is has same) =
    AreBoth.neither (no_delay d 2 (wait_kind d w is) (λ one. absurd cc)) (no_delay e 2 (wait_kind e v has) (λ one. absurd cc))
delays_alike old new names p q d e (IsSameHold.start s r is has same) =
    AreBoth.neither (no_delay d 4 (start_kind d s is) (λ one. absurd cc)) (no_delay e 4 (start_kind e r has) (λ one. absurd cc))
delays_alike old new names p q d e (IsSameHold.close a b is has same) =
    AreBoth.neither (no_delay d 5 (closing_kind d a is) (λ one. absurd cc)) (no_delay e 5 (closing_kind e b has) (λ one. absurd cc))

pub starts_alike : (old new : List Event) (names : Renaming) (p q : ℕ) (d e : Event) → IsSameHold old new names p q d e
    → AreBoth (IsSameStart old new names) (start_in d) (start_in e)
starts_alike old new names p q d e (IsSameHold.start s r is has same) = AreBoth.both s r is has same
starts_alike old new names p q d e (IsSameHold.call c b is has same) =
    AreBoth.neither (no_start d 1 (call_kind d c is) (λ one. absurd cc)) (no_start e 1 (call_kind e b has) (λ one. absurd cc))
starts_alike old new names p q d e (IsSameHold.wait w v is has same) =
    AreBoth.neither (no_start d 2 (wait_kind d w is) (λ one. absurd cc)) (no_start e 2 (wait_kind e v has) (λ one. absurd cc))
starts_alike old new names p q d e (IsSameHold.pause a b is has same) =
    AreBoth.neither (no_start d 3 (delay_kind d a is) (λ one. absurd cc)) (no_start e 3 (delay_kind e b has) (λ one. absurd cc))
starts_alike old new names p q d e (IsSameHold.close a b is has same) =
    AreBoth.neither (no_start d 5 (closing_kind d a is) (λ one. absurd cc)) (no_start e 5 (closing_kind e b has) (λ one. absurd cc))

abbrev pub AreClosesAlike : Renaming → Closing → Closing → Type 0
AreClosesAlike names a b = names.position a.block ≡ Some b.block

pub closes_alike : (old new : List Event) (names : Renaming) (p q : ℕ) (d e : Event) → IsSameHold old new names p q d e
    → AreBoth (AreClosesAlike names) (closing_in d) (closing_in e)
closes_alike old new names p q d e (IsSameHold.close a b is has same) = AreBoth.both a b is has same
closes_alike old new names p q d e (IsSameHold.call c b is has same) =
    AreBoth.neither (no_closing d 1 (call_kind d c is) (λ one. absurd cc)) (no_closing e 1 (call_kind e b has) (λ one. absurd cc))
closes_alike old new names p q d e (IsSameHold.wait w v is has same) =
    AreBoth.neither (no_closing d 2 (wait_kind d w is) (λ one. absurd cc)) (no_closing e 2 (wait_kind e v has) (λ one. absurd cc))
closes_alike old new names p q d e (IsSameHold.pause a b is has same) =
    AreBoth.neither (no_closing d 3 (delay_kind d a is) (λ one. absurd cc)) (no_closing e 3 (delay_kind e b has) (λ one. absurd cc))
closes_alike old new names p q d e (IsSameHold.start s r is has same) =
    AreBoth.neither (no_closing d 4 (start_kind d s is) (λ one. absurd cc)) (no_closing e 4 (start_kind e r has) (λ one. absurd cc))

-- two of one kind

pub both_calls : (d e : Event) (c b : Call) → call_in d ≡ Some c → call_in e ≡ Some b → is_same_kind d e ≡ true
both_calls d e c b is has = rw (is, has) refl

pub both_waits : (d e : Event) (w v : Wait) → wait_in d ≡ Some w → wait_in e ≡ Some v → is_some (tail_due w.tail) ≡ true
    → is_some (tail_due v.tail) ≡ true → is_same_kind d e ≡ true
both_waits d e w v is has timed also = rw (is, has, timed, also, no_call d 2 (wait_kind d w is) (λ one. absurd cc)) refl

pub both_delays : (d e : Event) (a b : Delay) → delay_in d ≡ Some a → delay_in e ≡ Some b → is_same_kind d e ≡ true
both_delays d e a b is has =
    rw (is, has, no_call d 3 (delay_kind d a is) (λ one. absurd cc), no_wait d 3 (delay_kind d a is) (λ one. absurd cc)) refl

pub both_starts : (d e : Event) (s r : Start) → start_in d ≡ Some s → start_in e ≡ Some r → is_same_kind d e ≡ true
both_starts d e s r is has =
    rw (
      is,
      has,
      no_call d 4 (start_kind d s is) (λ one. absurd cc),
      no_wait d 4 (start_kind d s is) (λ one. absurd cc),
      no_delay d 4 (start_kind d s is) (λ one. absurd cc),
    ) refl

pub both_closes : (d e : Event) (a b : Closing) → closing_in d ≡ Some a → closing_in e ≡ Some b → is_same_kind d e ≡ true
both_closes d e a b is has =
    rw (
      is,
      has,
      no_call d 5 (closing_kind d a is) (λ one. absurd cc),
      no_wait d 5 (closing_kind d a is) (λ one. absurd cc),
      no_delay d 5 (closing_kind d a is) (λ one. absurd cc),
      no_start d 5 (closing_kind d a is) (λ one. absurd cc),
    ) refl
