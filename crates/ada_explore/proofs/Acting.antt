-- The answer of a kernel to a line is a step of the script's schedules.
use Rattle.std.proofs.Common.{◌≡◌, ℕ, Bool, true, false, cond, Option, Some, None, List, [], ◌∷◌, filter, refl, sym, ap, subst, ◌∙◌, inl, inr}
use Rattle.std.specs.Option.{option_or}
use Rattle.std.proofs.lemmas.Bool.{true≢false}
use Rattle.std.proofs.lemmas.Option.{none-some, same_Some}
use Rattle.ada_events.specs.declared.event.Event.{Event}
use Rattle.ada_events.specs.declared.request.Request.{Request}
use Rattle.ada_events.specs.declared.names.TaskNo.{TaskNo}
use Rattle.ada_events.specs.declared.refusal.Refusal.{Refusal}
use Rattle.ada_events.specs.declared.refusal.Refusal.TheVariants.{OutOfMemory}
use Rattle.ada_events.specs.Refusals.{Cause, causes, first_cause, refusal}
use Rattle.ada_events.specs.Tasks.{task_count}
use Rattle.ada_events.specs.Forced.{task_no}
use Rattle.ada_events.specs.Steps.{IsAccepted, IsRefused}
use Rattle.ada_laws.specs.Unlimited.{is_limit, limit_refusal, refusal_but_limits}
use Rattle.ada_laws.proofs.asking.Limitless.{accepted_without_limits, limits_refuse_at_last}
use Rattle.ada_script.specs.declared.script.Line.{Line}
use Rattle.ada_schedules.specs.Schedules.{Acts}
use Rattle.ada_explore.specs.declared.turns.Turn.{Turn}
use Rattle.ada_explore.specs.declared.turns.Freedom.{Freedom}
use Rattle.ada_search.specs.Findings.{at as state}
use Rattle.ada_explore.specs.Scripts.{Rest, scripted, rest, request_in, may_take, left_after, names_after}

-- of limits alone the first cause is a limit
first_limit : (cs : List Cause) (cause : Refusal) → first_cause (filter (λ (c : Cause). is_limit c.name) cs) ≡ Some cause → is_limit cause ≡ true
unfolding first_cause
first_limit [] cause is = absurd (none-some cause is)
first_limit (c ∷ cs) cause is = by_limit (first_limit cs cause) (is_limit c.name) refl
  where
    by_applies : (first_cause (filter (λ (c : Cause). is_limit c.name) cs) ≡ Some cause → is_limit cause ≡ true) → (a : Bool) → is_limit c.name ≡ true
        → cond a (Some c.name) (first_cause (filter (λ (c : Cause). is_limit c.name) cs)) ≡ Some cause → is_limit cause ≡ true
    by_applies others true limit is = rw (sym (same_Some c.name cause is)) limit
    by_applies others false limit is = others is

    by_limit : (first_cause (filter (λ (c : Cause). is_limit c.name) cs) ≡ Some cause → is_limit cause ≡ true) → (b : Bool) → is_limit c.name ≡ b
        → is_limit cause ≡ true
    by_limit others true limit = by_applies others c.applies limit (rw limit at is)
    by_limit others false other = others (rw other at is)

-- what is refused for a cause that is no limit is refused for it where there are no limits
no_limit : (journal : List Event) (request : Request) (cause : Refusal) → is_limit cause ≡ false → refusal journal request ≡ Some cause
    → refusal_but_limits journal request ≡ Some cause
unfolding limit_refusal
no_limit journal request cause other refused =
    by (refusal_but_limits journal request) refl (sym (limits_refuse_at_last journal request) ∙ refused)
  where
    by : (o : Option Refusal) → refusal_but_limits journal request ≡ o → option_or o (limit_refusal journal request) ≡ Some cause
        → refusal_but_limits journal request ≡ Some cause
    by None is limit = absurd (true≢false (sym (first_limit (causes journal request) cause limit) ∙ other))
    by (Some c) is same = is ∙ same

-- what a turn asks for that may be taken
pub may_ask : (freedom : Freedom) (script : List Line) (journal : List Event) (left : Rest) (turn : Turn) (request : Request)
    → may_take freedom script journal left turn ≡ true → request_in script journal left turn ≡ Some request
    → (scripted freedom script).asks journal left turn ≡ Some request
may_ask freedom script journal left turn request may is = ap (λ b. cond b (request_in script journal left turn) None) may ∙ is

-- a turn whose request a kernel accepted is a step
pub accepts_line : (freedom : Freedom) (script : List Line) (journal new : List Event) (left taken left_on : Rest) (turn : Turn) (position : ℕ) (made : TaskNo)
    (request : Request) → (scripted freedom script).asks journal left turn ≡ Some request → IsAccepted journal request position new
    → made ≡ task_no (task_count journal) → taken ≡ rest (left_after turn left.left) left.names
    → left_on ≡ rest taken.left (names_after script taken.names turn position made)
    → Acts (scripted freedom script) turn (state journal left) (state new left_on)
accepts_line freedom script journal new left taken left_on turn position made request asks accepted is_made is_taken is_left =
    let same : state new left_on ≡ record { journal = new; rest = (scripted freedom script).after journal left turn new }
    = rw (is_left, is_taken, accepted.position, is_made) refl in
    subst (λ to. Acts (scripted freedom script) turn (state journal left) to) (sym same)
    (Acts.accepted request new asks (accepted_without_limits journal request accepted.unrefused) accepted.after)

-- and so is one that a kernel refused for a cause that is no limit
pub refuses_line : (freedom : Freedom) (script : List Line) (journal new : List Event) (left left_on : Rest) (turn : Turn) (request : Request)
    (cause : Refusal) → (scripted freedom script).asks journal left turn ≡ Some request → IsRefused journal request cause new
    → is_limit cause ≡ false → (cause ≡ OutOfMemory → ⊥) → left_on ≡ rest (left_after turn left.left) left.names
    → Acts (scripted freedom script) turn (state journal left) (state new left_on)
refuses_line freedom script journal new left left_on turn request cause asks refused other remembered is_left =
    let same : state new left_on ≡ record { journal = journal; rest = (scripted freedom script).refused left turn cause }
    = rw (is_left, refused.unchanged) refl in
    subst (λ to. Acts (scripted freedom script) turn (state journal left) to) (sym same) (elim refused.named [
      | inl named ↦ Acts.refused request cause asks (no_limit journal request cause other named)
      | inr wanting ↦ absurd (remembered wanting.1)
    ])
