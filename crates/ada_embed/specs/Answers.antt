-- What is answered to a host, by the kind of its kernel: a code, and what is written where it is 0.
use Rattle.std.specs.Prelude.{◌≡◌, ◌≢◌, ◌⊎◌, ◌+◌, ◌<◌, ◌≤◌, ℕ, ℤ, pos, Bool, true, false, int_le, Some, Result, Ok, Err, List, length, slice_get}
use Rattle.ada_events.specs.declared.event.Event.{Event}
use Rattle.ada_events.specs.declared.request.Request.{Request}
use Rattle.ada_events.specs.Lawful.{IsLawful, IsSettled}
use Rattle.ada_border.specs.declared.bad.Bad.{Bad}
use Rattle.ada_events.specs.Boards.{board_of}
use Rattle.ada_border.specs.declared.boards.PlainBoard.{PlainBoard}
use Rattle.ada_border.specs.declared.events.PlainEvent.{PlainEvent}
use Rattle.ada_border.specs.Boards.{plain_board}
use Rattle.ada_border.specs.Answers.{IsAnswered, IsCounted, IsTold}
use Rattle.ada_border.specs.Codes.{bad_code}
use Rattle.ada_border.specs.Requests.{entry_in}
use Rattle.ada_lasting.specs.declared.failure.NotDone.{NotDone}
use Rattle.ada_lasting.specs.Clock.{IsSteppedAt, IsRefusedAt}
use Rattle.ada_lasting.specs.Following.{Long, Follows, IsStepped}
use Rattle.ada_lasting.specs.GivingUp.{GivesUpOnly}
use Rattle.ada_lasting.specs.Refusing.{IsRefused}
use Rattle.ada_embed.specs.declared.host_kernel.HostKernel.{HostKernel}
use Rattle.ada_embed.specs.declared.host_kernel.HostKernel.TheVariants.{Whole, Lasting}
use Rattle.ada_embed.specs.Codes.{lasting_code, keeps_all, lives_on}
use Rattle.ada_embed.specs.Lasting as lasts
use Rattle.ada_embed.specs.Lasting.{IsToldOr, IsCountedOr}
use Rattle.ada_embed.specs.Questions.{count_told, event_told, running_of}
use Rattle.ada_embed.specs.Requests.{Asked}

-- a host without a clock passes a negative moment
abbrev pub has_clock : ℤ → Bool
has_clock now = int_le (pos 0) now

-- ---- a kernel that keeps everything

-- it has no clock of its host's, and answers as the border says
abbrev pub IsAnsweredWhole : List Event → Result Request Bad → ℤ → ℤ → ℕ → ℕ → List Event → Type 0
IsAnsweredWhole old request now code was at new =
    ((has_clock now ≡ false) × IsAnswered old request code was at new)
    ⊎ ((has_clock now ≡ true) × (code ≡ keeps_all) × (new ≡ old) × (at ≡ was))

-- ---- a kernel that lives on

-- the request was accepted, at a moment of the host's clock if there is one
abbrev pub IsSteppedNow : List Event → ℤ → Request → Long → ℕ → Long → Type 0
IsSteppedNow journal now request before at kernel =
    ((has_clock now ≡ false) × GivesUpOnly journal before.names kernel.names × IsStepped journal request at kernel)
    ⊎ ((has_clock now ≡ true) × IsSteppedAt journal now request before at kernel)

-- it was refused, at a moment of the host's clock if there is one
abbrev pub IsRefusedNow : List Event → ℤ → Request → NotDone → Long → Long → Type 0
IsRefusedNow journal now request cause before kernel =
    ((has_clock now ≡ false) × GivesUpOnly journal before.names kernel.names × IsRefused journal request cause before kernel)
    ⊎ ((has_clock now ≡ true) × IsRefusedAt journal now request cause before kernel)

-- numbers that were to be a request: the request was accepted, and the position of its event is written; it was refused;
-- or the numbers were bad, and nothing was asked. But for the first, nothing is written
abbrev pub IsAnsweredLasting : List Event → Result Request Bad → ℤ → ℤ → ℕ → ℕ → Long → Long → Type 0
IsAnsweredLasting journal (Ok request) now code was at before kernel =
    ((code ≡ pos 0) × IsSteppedNow journal now request before at kernel)
    ⊎ ((cause : NotDone) × (code ≡ lasting_code cause) × IsRefusedNow journal now request cause before kernel × (at ≡ was))
IsAnsweredLasting journal (Err bad) now code was at before kernel = (code ≡ bad_code bad) × (kernel ≡ before) × (at ≡ was)

-- ---- a kernel of either kind

-- numbers that were to be a request, at a moment of the host's clock; a kernel that keeps everything holds a lawful and
-- settled journal afterwards
abbrev pub IsAnsweredBy : HostKernel → Asked → ℤ → ℤ → ℕ → ℕ → HostKernel → Type 0
IsAnsweredBy (Whole old) asked now code was at kernel =
    (new : List Event) × (kernel ≡ Whole new) × IsLawful new × IsSettled new × IsAnsweredWhole old asked.whole now code was at new
IsAnsweredBy (Lasting before) asked now code was at kernel =
    (after : Long) × (kernel ≡ Lasting after)
    × ((journal : List Event) → Follows journal before → IsAnsweredLasting journal asked.lasting now code was at before after)

-- a question: its answer is written, if it has one
abbrev pub IsToldBy : {A : Type 0} → HostKernel → (List Event → Result A Bad) → (List Event → Long → Result A ℤ) → ℤ → A → A → Type 0
IsToldBy (Whole journal) whole lasting code was written = IsTold (whole journal) code was written
IsToldBy (Lasting kernel) whole lasting code was written =
    (journal : List Event) → Follows journal kernel → IsToldOr (lasting journal kernel) code was written

-- whether the task of an accepted request goes on, as the question whether it is running tells afterwards
abbrev pub IsGoingOn : HostKernel → ℕ → ℤ → ℕ → ℕ → Type 0
IsGoingOn kernel by code was goes_on =
    ((code ≡ pos 0) × ((told : ℤ) × IsToldBy kernel (λ journal. running_of journal by) (lasts.running_of by) told 0 goes_on))
    ⊎ ((code ≢ pos 0) × (goes_on ≡ was))

-- a question that only a kernel that keeps everything answers
abbrev pub IsToldByWhole : {A : Type 0} → HostKernel → (List Event → Result A Bad) → ℤ → A → A → Type 0
IsToldByWhole (Whole journal) whole code was written = IsTold (whole journal) code was written
IsToldByWhole (Lasting kernel) whole code was written = (code ≡ lives_on) × (written ≡ was)

-- a question that only a kernel that lives on answers
abbrev pub IsToldByLasting : {A : Type 0} → HostKernel → (List Event → Long → Result A ℤ) → ℤ → A → A → Type 0
IsToldByLasting (Whole journal) lasting code was written = (code ≡ keeps_all) × (written ≡ was)
IsToldByLasting (Lasting kernel) lasting code was written =
    (journal : List Event) → Follows journal kernel → IsToldOr (lasting journal kernel) code was written

-- the attributes of all tasks and entries, which only a kernel that keeps everything tells (9.9)
abbrev pub IsBoardOf : HostKernel → ℤ → PlainBoard → PlainBoard → Type 0
IsBoardOf (Whole journal) code was written = (code ≡ pos 0) × (written ≡ plain_board (board_of journal))
IsBoardOf (Lasting kernel) code was written = (code ≡ lives_on) × (written ≡ was)

-- a number of which there always is one
abbrev pub IsNumberOf : {A : Type 0} → HostKernel → (List Event → A) → A → Type 0
IsNumberOf (Whole journal) number told = told ≡ number journal
IsNumberOf (Lasting kernel) number told = (journal : List Event) → Follows journal kernel → told ≡ number journal

-- COUNT of an entry of the asking task's own
abbrev pub IsCountedBy : HostKernel → ℕ → ℕ → ℤ → ℤ → ℕ → ℕ → Type 0
IsCountedBy (Whole journal) by family index code was written = IsCounted (count_told journal by family index) code was written
IsCountedBy (Lasting kernel) by family index code was written =
    (journal : List Event) → Follows journal kernel → IsCountedOr journal kernel by (entry_in family index) code was written

-- the event at a position, as the question for it tells
abbrev pub IsEventAt : HostKernel → ℕ → PlainEvent → Type 0
IsEventAt kernel position event = IsToldBy kernel (λ journal. event_told journal position) (lasts.event_told position) (pos 0) event event

-- that question tells no event
abbrev pub IsNoEventAt : HostKernel → ℕ → Type 0
IsNoEventAt kernel position = (why : ℤ) × (was : PlainEvent) × (written : PlainEvent) × (why ≢ pos 0)
    × IsToldBy kernel (λ journal. event_told journal position) (lasts.event_told position) why was written

-- in the places of a list stand the events from a position on, as many as there are and as fit; the other places stay as
-- they were
abbrev pub AreEventsFrom : HostKernel → ℕ → ℕ → List PlainEvent → List PlainEvent → Type 0
AreEventsFrom kernel from count was written =
    ((place : ℕ) → place < count → (event : PlainEvent) × (slice_get written place ≡ Some event) × IsEventAt kernel (from + place) event)
    × ((place : ℕ) → count ≤ place → slice_get written place ≡ slice_get was place)
    × ((count ≡ length was) ⊎ IsNoEventAt kernel (from + count) ⊎ (18446744073709551616 ≤ from + count))

-- only a kernel that lives on changes so
abbrev pub IsChangedBy : HostKernel → (List Event → ℤ → Long → Long → Type 0) → ℤ → HostKernel → Type 0
IsChangedBy (Whole journal) changes code kernel = (code ≡ keeps_all) × (kernel ≡ Whole journal)
IsChangedBy (Lasting before) changes code kernel =
    (after : Long) × (kernel ≡ Lasting after) × ((journal : List Event) → Follows journal before → changes journal code before after)
