-- The moments at which the parts of a request are due. A moment that a function was given stands for
-- itself, read back from its bits.
use Rattle.std.proofs.Common.{◌≡◌, ℕ, ℤ, false, ◌≤◌, List, length, take, map, refl, ap, sym, ◌∙◌, subst, Option}
use Rattle.std.proofs.lemmas.List.{take_all}
use Rattle.ada_events.specs.declared.event.Event.{Event}
use Rattle.ada_events.specs.declared.event.Event.TheVariants.{Waiting, Called, Paused}
use Rattle.ada_events.specs.declared.event.EventTail.{EventTail}
use Rattle.ada_events.specs.declared.event.EventTail.TheVariants as event_tail
use Rattle.ada_events.specs.declared.request.Request.{Request}
use Rattle.ada_events.specs.declared.request.Request.TheVariants.{Wait, Call, Delay}
use Rattle.ada_events.specs.declared.request.Tail.{Tail}
use Rattle.ada_events.specs.declared.request.Tail.TheVariants.{Nothing, Otherwise, Delays, Terminate}
use Rattle.ada_events.specs.declared.names.TaskNo.{TaskNo}
use Rattle.ada_events.specs.declared.names.Choice.{Choice}
use Rattle.ada_events.specs.declared.names.Entry.{Entry}
use Rattle.ada_events.specs.declared.names.Patience.{Patience}
use Rattle.ada_events.specs.declared.names.Patience.TheVariants.{Simple, Conditional, Timed}
use Rattle.ada_events.specs.declared.names.Pause.{Pause}
use Rattle.ada_events.specs.Asks.{due_after, call_due, pause_due, asked_tail, asked_event}
use Rattle.ada_events.specs.Limits.{ends_too_late, is_too_late}
use Rattle.ada_events.specs.Tasks.{moment}
use Rattle.ada_events.specs.Late.{is_late_call, is_late_tail}

pub all_dues : (now given : ℤ) (pauses : List Pause) (dues : List (Option ℤ)) (i : ℕ) → given ≡ now
    → (is_late_tail given (Delays pauses) ≡ false → dues ≡ map (pause_due given) (take i pauses)) → length pauses ≤ i → is_late_tail now (Delays pauses) ≡ false
    → dues ≡ map (pause_due now) pauses
all_dues now given pauses dues i same so_far past in_time =
    let P : ℤ → Type 0 = λ m. is_late_tail m (Delays pauses) ≡ false → dues ≡ map (pause_due m) (take i pauses) in
    subst P same so_far in_time ∙ ap (map (pause_due now)) (take_all i pauses past)

pub delays_due : (now given : ℤ) (tail : Tail) (pauses items : List Pause) (dues : List (Option ℤ)) → given ≡ now → items ≡ pauses → tail ≡ Delays pauses
    → (is_late_tail given (Delays items) ≡ false → dues ≡ map (pause_due given) items) → is_late_tail now tail ≡ false
    → event_tail.Delays dues ≡ asked_tail now tail
delays_due now given tail pauses items dues same_moment same_items is made in_time =
    let P : ℤ → List Pause → Type 0 = λ m ps. is_late_tail m (Delays ps) ≡ false → dues ≡ map (pause_due m) ps in
    let made' : P now pauses = subst (P now) same_items (subst (λ m. P m items) same_moment made) in
    rw is (ap event_tail.Delays (made' (rw is at in_time)))

too_late-wait : (journal : List Event) (by : TaskNo) (choices : List Choice) (tail : Tail) (pick : ℕ)
    → is_too_late journal (Wait by choices tail pick) ≡ is_late_tail (moment journal) tail
unfolding is_too_late
too_late-wait journal by choices Nothing pick = refl
too_late-wait journal by choices Otherwise pick = refl
too_late-wait journal by choices (Delays pauses) pick = refl
too_late-wait journal by choices (Terminate guard) pick = refl

pub wait_asked : (journal : List Event) (given : ℤ) (request : Request) (by : TaskNo) (choices : List Choice) (tail : Tail) (pick : ℕ) (made : EventTail)
    → given ≡ moment journal → request ≡ Wait by choices tail pick → (is_late_tail given tail ≡ false → made ≡ asked_tail given tail)
    → is_too_late journal request ≡ false → Waiting by pick choices made ≡ asked_event journal request
unfolding asked_event
wait_asked journal given request by choices tail pick made same is asked in_time =
    let late : is_late_tail given tail ≡ false = ap (λ m. is_late_tail m tail) same ∙ sym (too_late-wait journal by choices tail pick) ∙ (rw is at in_time) in
    rw is (ap (λ t. Waiting by pick choices t) (asked late ∙ ap (λ m. asked_tail m tail) same))

too_late-call : (journal : List Event) (by callee : TaskNo) (entry : Entry) (patience : Patience)
    → is_too_late journal (Call by callee entry patience) ≡ is_late_call (moment journal) patience
unfolding is_too_late
too_late-call journal by callee entry Simple = refl
too_late-call journal by callee entry Conditional = refl
too_late-call journal by callee entry (Timed duration) = refl

pub call_asked : (journal : List Event) (given : ℤ) (request : Request) (by callee : TaskNo) (entry : Entry) (patience : Patience) (due : Option ℤ)
    → given ≡ moment journal → request ≡ Call by callee entry patience → (is_late_call given patience ≡ false → due ≡ call_due given patience)
    → is_too_late journal request ≡ false → Called by callee entry patience due ≡ asked_event journal request
unfolding asked_event
call_asked journal given request by callee entry patience due same is asked in_time =
    let late : is_late_call given patience ≡ false = ap (λ m. is_late_call m patience) same ∙ sym (too_late-call journal by callee entry patience)
    ∙ (rw is at in_time) in
    rw is (ap (λ d. Called by callee entry patience d) (asked late ∙ ap (λ m. call_due m patience) same))

pub delay_asked : (journal : List Event) (given : ℤ) (request : Request) (by : TaskNo) (duration long due : ℤ) → given ≡ moment journal → long ≡ duration
    → request ≡ Delay by duration → (ends_too_late given long ≡ false → due ≡ due_after given long) → is_too_late journal request ≡ false
    → Paused by due ≡ asked_event journal request
unfolding asked_event is_too_late
delay_asked journal given request by duration long due same_moment same_duration is asked in_time =
    let late : ends_too_late given long ≡ false =
    ap (λ m. ends_too_late m long) same_moment ∙ ap (ends_too_late (moment journal)) same_duration ∙ (rw is at in_time) in
    rw is (ap (λ d. Paused by d) (asked late ∙ ap (λ m. due_after m long) same_moment ∙ ap (due_after (moment journal)) same_duration))
