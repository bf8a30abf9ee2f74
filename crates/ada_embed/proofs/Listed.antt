-- Events are written into a list, one place after the other.
use Rattle.std.proofs.Common.{◌≡◌, ◌≢◌, ◌<◌, ◌≤◌, ◌+◌, ℕ, ℤ, pos, zero, suc, List, [], ◌∷◌, length, set, Some, Result, Ok, Err}
use Rattle.std.proofs.Common.{refl, sym, ap, ◌∙◌, subst, below_more, arith}
use Rattle.std.specs.Prelude.{slice_get}
use Rattle.std.proofs.lemmas.List.{get_or-set_same, length-set}
use Rattle.std.proofs.lemmas.Option.{slice_get-get_or}
use Rattle.ada_border.specs.Answers.{IsTold}
use Rattle.ada_border.specs.declared.bad.Bad.{Bad}
use Rattle.ada_border.specs.declared.events.PlainEvent.{PlainEvent}
use Rattle.ada_embed.specs.declared.host_kernel.HostKernel.{HostKernel}
use Rattle.ada_embed.specs.declared.host_kernel.HostKernel.TheVariants.{Whole, Lasting}
use Rattle.ada_embed.specs.Answers.{IsEventAt, IsNoEventAt, IsToldBy}
use Rattle.ada_embed.specs.Lasting as lasts
use Rattle.ada_embed.specs.Lasting.{IsToldOr}
use Rattle.ada_embed.specs.Questions.{event_told}

pub at_place : {X : Type 0} (xs : List X) (i : ℕ) (x : X) → i < length xs → slice_get (set xs i x) i ≡ Some x
at_place xs i x within =
    let longer : i < length (set xs i x) = omega (arith, within, length-set xs i x) in
    slice_get-get_or (set xs i x) i x longer ∙ ap Some (get_or-set_same xs i x x within)

pub elsewhere : {X : Type 0} (xs : List X) (i j : ℕ) (x : X) → j ≢ i → slice_get (set xs i x) j ≡ slice_get xs j
elsewhere [] i j x other = refl
elsewhere (y ∷ ys) zero zero x other = absurd (other refl)
elsewhere (y ∷ ys) zero (suc j) x other = refl
elsewhere (y ∷ ys) (suc i) zero x other = refl
elsewhere (y ∷ ys) (suc i) (suc j) x other = elsewhere ys i j x (λ same. other (ap suc same))

-- the first places have the events from a position on
abbrev pub AreFirst : HostKernel → ℕ → ℕ → List PlainEvent → Type 0
AreFirst kernel from count written =
    (place : ℕ) → place < count → (event : PlainEvent) × (slice_get written place ≡ Some event) × IsEventAt kernel (from + place) event

-- and the places from a number on stayed as they were
abbrev pub AreKept : ℕ → List PlainEvent → List PlainEvent → Type 0
AreKept count was written = (place : ℕ) → count ≤ place → slice_get written place ≡ slice_get was place

pub one_more : (kernel : HostKernel) (from count : ℕ) (written : List PlainEvent) (event : PlainEvent) → count < length written
    → AreFirst kernel from count written → IsEventAt kernel (from + count) event → AreFirst kernel from (count + 1) (set written count event)
one_more kernel from count written event within first told = below_more _ _
    (λ place before.
    let (other, stands, is) = first place before in
    let apart : place ≢ count = omega (arith, before) in
    (other, elsewhere written count place event apart ∙ stands, is))
    (event, at_place written count event within, told)

pub one_less : (count : ℕ) (was written : List PlainEvent) (event : PlainEvent) → AreKept count was written
    → AreKept (count + 1) was (set written count event)
one_less count was written event kept = λ place above.
    let apart : place ≢ count = omega (arith, above) in
    elsewhere written count place event apart ∙ kept place (omega (arith, above))

-- ---- one event

told_itself : {A : Type 0} (told : Result A Bad) (code : ℤ) (was written : A) → code ≡ pos 0 → IsTold told code was written
    → IsTold told (pos 0) written written
told_itself (Ok found) code was written accepted answer = (refl, answer.1)
told_itself (Err bad) code was written accepted answer = (sym accepted ∙ answer.0, refl)

told_itself_or : {A : Type 0} (told : Result A ℤ) (code : ℤ) (was written : A) → code ≡ pos 0 → IsToldOr told code was written
    → IsToldOr told (pos 0) written written
told_itself_or (Ok found) code was written accepted answer = (refl, answer.1)
told_itself_or (Err why) code was written accepted answer = (sym accepted ∙ answer.0, refl)

-- what is answered of the event at a position
abbrev pub IsAnswer : HostKernel → ℕ → ℤ → PlainEvent → PlainEvent → Type 0
IsAnswer kernel position code was written = IsToldBy kernel (λ journal. event_told journal position) (lasts.event_told position) code was written

is_event : (kernel : HostKernel) (position : ℕ) (code : ℤ) (was written : PlainEvent) → code ≡ pos 0
    → IsAnswer kernel position code was written → IsEventAt kernel position written
is_event (Whole journal) position code was written accepted answer = told_itself (event_told journal position) code was written accepted answer
is_event (Lasting lasting) position code was written accepted answer = λ journal follows.
    told_itself_or (lasts.event_told position journal lasting) code was written accepted (answer journal follows)

answer_at : (home kernel : HostKernel) (asked position : ℕ) (code : ℤ) (was written : PlainEvent) → home ≡ kernel → asked ≡ position
    → IsAnswer home asked code was written → IsAnswer kernel position code was written
answer_at home kernel asked position code was written same is answer =
    subst (λ k. IsAnswer k position code was written) same (subst (λ p. IsAnswer home p code was written) is answer)

pub event_at : (home kernel : HostKernel) (asked position : ℕ) (code : ℤ) (was written : PlainEvent) → home ≡ kernel → asked ≡ position
    → code ≡ pos 0 → IsAnswer home asked code was written → IsEventAt kernel position written
event_at home kernel asked position code was written same is accepted answer =
    is_event kernel position code was written accepted (answer_at home kernel asked position code was written same is answer)

pub no_event_at : (home kernel : HostKernel) (asked position : ℕ) (code : ℤ) (was written : PlainEvent) → home ≡ kernel → asked ≡ position
    → code ≢ pos 0 → IsAnswer home asked code was written → IsNoEventAt kernel position
no_event_at home kernel asked position code was written same is refused answer =
    (code, was, written, refused, answer_at home kernel asked position code was written same is answer)
