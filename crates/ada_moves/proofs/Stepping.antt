-- The answer of a kernel to a move is a step of a behaviour's schedules.
use Rattle.std.proofs.Common.{◌≡◌, ℕ, ℤ, ◌<◌, Bool, true, false, not, cond, Option, Some, None, List, [], ◌∷◌, filter}
use Rattle.std.proofs.Common.{refl, sym, ap, subst, ◌∙◌, arith, inl, inr}
use Rattle.std.specs.Option.{option_or, option_and_then, option_map}
use Rattle.std.proofs.lemmas.Bool.{true≢false}
use Rattle.std.proofs.lemmas.Option.{none-some, same_Some}
use Rattle.ada_events.specs.declared.event.Event.{Event}
use Rattle.ada_events.specs.declared.request.Request.{Request}
use Rattle.ada_events.specs.declared.request.Request.TheVariants.{Tick}
use Rattle.ada_events.specs.declared.refusal.Refusal.{Refusal}
use Rattle.ada_events.specs.declared.refusal.Refusal.TheVariants.{OutOfMemory}
use Rattle.ada_events.specs.Refusals.{Cause, causes, first_cause, refusal}
use Rattle.ada_events.specs.Tasks.{task_count}
use Rattle.ada_events.specs.Steps.{IsAccepted, IsRefused}
use Rattle.ada_laws.specs.Unlimited.{is_limit, limit_refusal, refusal_but_limits}
use Rattle.ada_laws.proofs.asking.Limitless.{accepted_without_limits, limits_refuse_at_last}
use Rattle.ada_waiting.specs.Standstill.{first_due}
use Rattle.ada_schedules.specs.Schedules.{Program, Acts}
use Rattle.ada_search.specs.Findings.{at}
use Rattle.ada_behaviours.specs.declared.want.ObjectNo.{ObjectNo}
use Rattle.ada_behaviours.specs.declared.want.Question.{Question}
use Rattle.ada_behaviours.specs.declared.want.Want.TheVariants.{Ask}
use Rattle.ada_behaviours.specs.declared.want.Move.TheVariants.{Go, Pass}
use Rattle.ada_behaviours.specs.Behaviours.{Behaviour}
use Rattle.ada_behaviours.specs.Moves.{runs, Rest, running_of, answer_to, asked_for, made_in, with_made, is_busy}
use Rattle.ada_behaviours.specs.Moves.{all_idle, left_with, left_answered, settled_in, behaving}
use Rattle.ada_moves.proofs.Counting.{one_passes}

-- of limits alone the first cause is a limit
first_limit : (cs : List Cause) (cause : Refusal) → first_cause (filter (λ (c : Cause). is_limit c.name) cs) ≡ Some cause → is_limit cause ≡ true
unfolding first_cause
first_limit [] cause is = absurd (none-some cause is)
first_limit (c ∷ cs) cause is = by_limit (first_limit cs cause) (is_limit c.name) refl
  where
    by_applies : (first_cause (filter (λ (c : Cause). is_limit c.name) cs) ≡ Some cause → is_limit cause ≡ true) → (a : Bool) → is_limit c.name ≡ true
        → cond a (Some c.name) (first_cause (filter (λ (c : Cause). is_limit c.name) cs)) ≡ Some cause → is_limit cause ≡ true
    by_applies others true limit is = rw (sym (same_Some c.name cause is)) limit
    by_applies others false limit is = others is

    by_limit : (first_cause (filter (λ (c : Cause). is_limit c.name) cs) ≡ Some cause → is_limit cause ≡ true) → (b : Bool) → is_limit c.name ≡ b
        → is_limit cause ≡ true
    by_limit others true limit = by_applies others c.applies limit (rw limit at is)
    by_limit others false other = others (rw other at is)

-- what is refused for a cause that is no limit is refused for it where there are no limits
no_limit : (journal : List Event) (request : Request) (cause : Refusal) → is_limit cause ≡ false → refusal journal request ≡ Some cause
    → refusal_but_limits journal request ≡ Some cause
unfolding limit_refusal
no_limit journal request cause other refused =
    by (refusal_but_limits journal request) refl (sym (limits_refuse_at_last journal request) ∙ refused)
  where
    by : (o : Option Refusal) → refusal_but_limits journal request ≡ o → option_or o (limit_refusal journal request) ≡ Some cause
        → refusal_but_limits journal request ≡ Some cause
    by None is limit = absurd (true≢false (sym (first_limit (causes journal request) cause limit) ∙ other))
    by (Some c) is same = is ∙ same

-- ---- any program

module _ {Left Choice : Type 0} (program : Program Left Choice) (journal new : List Event) (rest left : Left) (choice : Choice) (request : Request)
    (asks : program.asks journal rest choice ≡ Some request) where
  -- a choice whose request a kernel accepted is a step
  pub accepts : (position : ℕ) → IsAccepted journal request position new → left ≡ program.after journal rest choice new
      → Acts program choice (at journal rest) (at new left)
  accepts position accepted is =
      subst (λ (l : Left). Acts program choice (at journal rest) (at new l)) (sym is)
      (Acts.accepted request new asks (accepted_without_limits journal request accepted.unrefused) accepted.after)

  -- and so is one that a kernel refused for a cause that is no limit
  pub refuses : (cause : Refusal) → IsRefused journal request cause new → is_limit cause ≡ false → (cause ≡ OutOfMemory → ⊥)
      → left ≡ program.refused rest choice cause → Acts program choice (at journal rest) (at new left)
  refuses cause refused other remembered is =
      let same : at new left ≡ at journal (program.refused rest choice cause) = rw (is, refused.unchanged) refl in
      subst (λ to. Acts program choice (at journal rest) to) (sym same) (elim refused.named [
        | inl named ↦ Acts.refused request cause asks (no_limit journal request cause other named)
        | inr wanting ↦ absurd (remembered wanting.1)
      ])

-- ---- a behaviour

module _ {State : Type 0} (behaviour : Behaviour State) (journal : List Event) (rest : Rest State) where
  -- a request that was accepted, which made the task of an object or of none, is a step
  pub goes_on : (new : List Event) (object : ObjectNo) (pick task position : ℕ) (made : Option ℕ) (request : Request) (left : Rest State)
      → (behaving behaviour).asks journal rest (Go object pick) ≡ Some request → IsAccepted journal request position new
      → made ≡ made_in (behaviour.wants rest.state object.0 pick) → task ≡ task_count journal
      → left ≡ settled_in behaviour new (with_made made task 0 rest.tasks) (behaviour.accepted rest.state object.0 pick)
      → Acts (behaving behaviour) (Go object pick) (at journal rest) (at new left)
  goes_on new object pick task position made request left asks accepted makes is_task is =
      accepts (behaving behaviour) journal new rest left (Go object pick) request asks position accepted
      (is
      ∙ ap (λ (m : Option ℕ). settled_in behaviour new (with_made m task 0 rest.tasks) (behaviour.accepted rest.state object.0 pick)) makes
      ∙ ap (λ (t : ℕ).
      settled_in behaviour new (with_made (made_in (behaviour.wants rest.state object.0 pick)) t 0 rest.tasks)
      (behaviour.accepted rest.state object.0 pick)) is_task)

  -- what asks nothing of the kernel is a step
  pub goes_alone : (object : ObjectNo) (pick task answer : ℕ) (question : Question) (left : Rest State)
      → running_of journal rest.tasks object.0 ≡ Some task → behaviour.wants rest.state object.0 pick ≡ Ask question
      → Some answer ≡ answer_to journal rest.tasks task question
      → left ≡ left_with behaviour rest.tasks (behaviour.answered rest.state object.0 answer)
      → Acts (behaving behaviour) (Go object pick) (at journal rest) (at journal left)
  goes_alone object pick task answer question left runs wants is same =
      Acts.alone left
      (ap (option_and_then (λ t. asked_for journal rest.tasks pick t (behaviour.wants rest.state object.0 pick))) runs
      ∙ ap (asked_for journal rest.tasks pick task) wants)
      (ap (option_and_then (λ t. left_answered behaviour journal rest object.0 t (behaviour.wants rest.state object.0 pick))) runs
      ∙ ap (left_answered behaviour journal rest object.0 task) wants
      ∙ ap (option_map (λ a. left_with behaviour rest.tasks (behaviour.answered rest.state object.0 a))) (sym is)
      ∙ ap Some (sym same))

  -- one who wants something and runs is enough
  pub not_idle : (object count : ℕ) (busy : Bool) → count ≡ behaviour.objects → object < count
      → busy ≡ is_busy behaviour journal rest object → busy ≡ true → false ≡ all_idle behaviour journal rest
  not_idle object count busy all below is wants =
      sym (ap not (one_passes (is_busy behaviour journal rest) behaviour.objects object (omega (arith, all, below)) (sym is ∙ wants)))

  -- what time asks for
  pub time_asks : (now : ℤ) → true ≡ all_idle behaviour journal rest → Some now ≡ first_due journal
      → (behaving behaviour).asks journal rest Pass ≡ Some (Tick now)
  time_asks now idle due =
      ap (λ b. cond b (option_map Tick (first_due journal)) None) (sym idle) ∙ ap (option_map Tick) (sym due)
