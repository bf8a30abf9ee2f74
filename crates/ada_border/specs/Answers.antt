-- What is answered over the border: a code, and what is written where it is 0.
use Rattle.std.specs.Prelude.{◌≡◌, ◌⊎◌, ℕ, ℤ, pos, Option, Some, None, Result, Ok, Err, List}
use Rattle.ada_events.specs.declared.event.Event.{Event}
use Rattle.ada_events.specs.declared.refusal.Refusal.{Refusal}
use Rattle.ada_events.specs.declared.request.Request.{Request}
use Rattle.ada_events.specs.Steps.{IsAccepted, IsRefused}
use Rattle.ada_border.specs.declared.bad.Bad.{Bad}
use Rattle.ada_border.specs.Codes.{refusal_code, bad_code}

-- numbers that were to be a request: the request was accepted, and the position of its event is written; it was refused;
-- or the numbers were bad. But for the first, nothing is changed and nothing written
abbrev pub IsAnswered : List Event → Result Request Bad → ℤ → ℕ → ℕ → List Event → Type 0
IsAnswered old (Ok request) code was at new = ((code ≡ pos 0) × IsAccepted old request at new)
    ⊎ ((cause : Refusal) × (code ≡ refusal_code cause) × IsRefused old request cause new × (at ≡ was))
IsAnswered old (Err bad) code was at new = (code ≡ bad_code bad) × (new ≡ old) × (at ≡ was)

-- a question: its answer in numbers is written, if it has one; nothing is changed
abbrev pub IsTold : {A : Type 0} → Result A Bad → ℤ → A → A → Type 0
IsTold (Ok told) code was written = (code ≡ pos 0) × (written ≡ told)
IsTold (Err bad) code was written = (code ≡ bad_code bad) × (written ≡ was)

-- the answer to a question that may have none
abbrev pub or_bad : {A : Type 0} → Option A → Bad → Result A Bad
or_bad (Some told) bad = Ok told
or_bad None bad = Err bad

-- COUNT of an entry of the asking task's own: how many calls there are is written; or it was refused; or the numbers were
-- bad
abbrev pub IsCounted : Result (Result ℕ Refusal) Bad → ℤ → ℕ → ℕ → Type 0
IsCounted (Ok (Ok count)) code was written = (code ≡ pos 0) × (written ≡ count)
IsCounted (Ok (Err cause)) code was written = (code ≡ refusal_code cause) × (written ≡ was)
IsCounted (Err bad) code was written = (code ≡ bad_code bad) × (written ≡ was)
