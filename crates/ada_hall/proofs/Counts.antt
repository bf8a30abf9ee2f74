-- Each accepted request adds one asked event.
use Rattle.std.proofs.Common.{◌≡◌, ◌+◌, ◌≤◌, Bool, true, false, List, [], ◌∷◌, length, refl, ◌∙◌, arith}
use Rattle.ada_events.specs.declared.event.Event.{Event}
use Rattle.ada_events.specs.declared.request.Request.{Request}
use Rattle.ada_events.specs.declared.request.Request.TheVariants.{Open, Create, Activate, Elaborated, Call, Wait, Delay, End, Close, Complete, Abort, Tick}
use Rattle.ada_events.specs.Asks.{asked_event}
use Rattle.ada_events.specs.Lawful.{Forces, After}
use Rattle.ada_events.specs.Lawful.Forces.{nothing, one_more}
use Rattle.ada_laws.proofs.forced.Rows.{IsRow, forced-row}
use Rattle.ada_laws.proofs.forced.Rows.IsRow.{halts, fails, meets, cancels, passes, wakes, activates, goes, quits, leaves}
use Rattle.ada_hall.specs.Counting.{is_asked, asked_count}

row_unasked : (journal : List Event) {event : Event} → IsRow journal event → is_asked event ≡ false
unfolding is_asked
row_unasked journal (halts u below test) = refl
row_unasked journal (fails p e at test) = refl
row_unasked journal (meets p e wait call at says pending taken) = refl
row_unasked journal (cancels p e at test) = refl
row_unasked journal (passes p e wait way at says pending is) = refl
row_unasked journal (wakes p e delay at says test) = refl
row_unasked journal (activates p e start ok at says pending all is) = refl
row_unasked journal (goes u below test) = refl
row_unasked journal (quits m test) = refl
row_unasked journal (leaves p e closing at says test) = refl

asked_asked : (journal : List Event) (request : Request) → is_asked (asked_event journal request) ≡ true
unfolding is_asked asked_event
asked_asked journal (Open by) = refl
asked_asked journal (Create by master families) = refl
asked_asked journal (Activate by tasks) = refl
asked_asked journal (Elaborated by ok) = refl
asked_asked journal (Call by callee entry patience) = refl
asked_asked journal (Wait by choices tail pick) = refl
asked_asked journal (Delay by duration) = refl
asked_asked journal (End by raised) = refl
asked_asked journal (Close by) = refl
asked_asked journal (Complete by) = refl
asked_asked journal (Abort by tasks) = refl
asked_asked journal (Tick now) = refl

one_asked : (event : Event) (before : List Event) → is_asked event ≡ true → asked_count (event ∷ before) ≡ asked_count before + 1
unfolding asked_count
one_asked event before is = rw is refl

none_asked : (event : Event) (before : List Event) → is_asked event ≡ false → asked_count (event ∷ before) ≡ asked_count before + 0
unfolding asked_count
none_asked event before is = rw is refl

-- forced steps add none
steps_unasked : (from to : List Event) → Forces from to → asked_count to ≡ asked_count from
steps_unasked from to nothing = refl
steps_unasked from to (one_more {journal = journal} {event = event} before step) =
    let none : asked_count (event ∷ journal) ≡ asked_count journal + 0 = none_asked event journal (row_unasked journal (forced-row journal event step)) in
    let so_far : asked_count journal ≡ asked_count from = steps_unasked from journal before in
    omega arith

pub accepted_counts : (old : List Event) (request : Request) (new : List Event) → After old request new → asked_count new ≡ asked_count old + 1
accepted_counts old request new after =
    steps_unasked (asked_event old request ∷ old) new after.forces ∙ one_asked (asked_event old request) old (asked_asked old request)

asked_few : (event : Event) (b : Bool) → is_asked event ≡ b → (before : List Event) → asked_count (event ∷ before) ≤ asked_count before + 1
asked_few event true is before = let one = one_asked event before is in omega arith
asked_few event false is before = let none = none_asked event before is in omega arith

-- there are no more asked events than events
pub count_within : (journal : List Event) → asked_count journal ≤ length journal
unfolding asked_count
count_within [] = omega arith
count_within (event ∷ before) =
    let few : asked_count (event ∷ before) ≤ asked_count before + 1 = asked_few event (is_asked event) refl before in
    let rest : asked_count before ≤ length before = count_within before in
    omega arith

pub nothing_counted : asked_count [] ≡ 0
unfolding asked_count
nothing_counted = refl
