-- The tasks of two starts: the same are listed, and a task of them failed or none, after one more event.
use Rattle.std.proofs.Common.{◌≡◌, ℕ, ◌<◌, Bool, true, false, ◌||◌, eqb, Option, Some, None, List, [], ◌∷◌, refl, sym, ap, ◌∙◌, inl, inr, arith}
use Rattle.std.proofs.Common.{is_some}
use Rattle.std.specs.List.{list_any}
use Rattle.std.proofs.lemmas.Bool.{or_left, or_right, or_from, or_parts, eq-eqb, false_from_ne_true, false≢true}
use Rattle.std.proofs.lemmas.Option.{none-some, same_Some}
use Rattle.ada_events.specs.declared.event.Event.{Event}
use Rattle.ada_events.specs.declared.event.Event.TheVariants as event
use Rattle.ada_events.specs.declared.names.TaskNo.{TaskNo}
use Rattle.ada_events.specs.Search.{is_number, is_some_and, event_at}
use Rattle.ada_events.specs.Says.{Start, start_in, failed_in, creation_in, elaborated_in}
use Rattle.ada_events.specs.Tasks.{task_count}
use Rattle.ada_events.specs.Phases.{lists_task, is_elaborated, has_failed, has_ended}
use Rattle.ada_events.specs.Forced.{task_no, is_done_activating}
use Rattle.ada_laws.proofs.searching.Growing.{has_ended-before}
use Rattle.ada_standing.specs.Renaming.{Renaming, renamed_task, renamed_tasks}
use Rattle.ada_standing.specs.internal.Next.{next_names}
use Rattle.ada_standing.specs.Holds.{IsSameStart}
use Rattle.ada_standing.proofs.alike.Kinds.{AreBoth}
use Rattle.ada_standing.proofs.alike.Mastering.{eqb_alike, task_one}
use Rattle.ada_standing.proofs.held.Renamed.{from_both-some, renamed_task-is}
use Rattle.ada_standing.proofs.held.Saying.{failed_both}
use Rattle.ada_standing.proofs.held.Fitting.{FitsHeld}
use Rattle.ada_standing.proofs.held.Setting.{AreNext, is_like, task_cases}

any_or : (f g : TaskNo → Bool) (tasks : List TaskNo) → list_any (λ (t : TaskNo). f t || g t) tasks ≡ (list_any f tasks || list_any g tasks)
any_or f g [] = refl
any_or f g (t ∷ rest) = ap (λ b. f t || g t || b) (any_or f g rest) ∙ four (f t) (g t) (list_any f rest) (list_any g rest)
  where
    four : (a b c d : Bool) → (a || b || (c || d)) ≡ ((a || c) || (b || d))
    four true b c d = refl
    four false true true d = refl
    four false true false d = refl
    four false false c d = refl

any_false : (test : TaskNo → Bool) (tasks : List TaskNo) → ((t : TaskNo) → lists_task t.0 tasks ≡ true → test t ≡ false) → list_any test tasks ≡ false
any_false test [] fails = refl
any_false test (t ∷ rest) fails =
    or_from (test t) (list_any test rest) (fails t (or_left (eqb t.0 t.0) (lists_task t.0 rest) (eq-eqb t.0 t.0 refl)))
    (any_false test rest (λ u among. fails u (or_right (eqb t.0 u.0) (lists_task u.0 rest) among)))

fails_some : (o : Option ℕ) (tasks : List TaskNo) → list_any (λ (t : TaskNo). is_number t.0 o) tasks ≡ is_some_and o (λ w. lists_task w tasks)
fails_some None tasks = any_false (λ t. false) tasks (λ t among. refl)
fails_some (Some w) tasks = refl

-- of some tasks one fails now, or one failed before
any_failed : (event : Event) (before : List Event) (tasks : List TaskNo) → list_any (λ (t : TaskNo). has_failed (event ∷ before) t.0) tasks
    ≡ (is_some_and (failed_in event) (λ w. lists_task w tasks) || list_any (λ (t : TaskNo). has_failed before t.0) tasks)
unfolding has_failed
any_failed event before tasks =
    any_or (λ (t : TaskNo). is_number t.0 (failed_in event)) (λ (t : TaskNo). list_any (λ (e : Event). is_number t.0 (failed_in e)) before) tasks
    ∙ ap (λ b. b || list_any (λ (t : TaskNo). list_any (λ (e : Event). is_number t.0 (failed_in e)) before) tasks) (fails_some (failed_in event) tasks)

start_fails_none : (e : Event) (s : Start) → start_in e ≡ Some s → failed_in e ≡ None
unfolding start_in failed_in
start_fails_none (event.Started by tasks) s says = refl
start_fails_none _ s says = absurd (none-some s says)

pub start_makes_none : (e : Event) (s : Start) → start_in e ≡ Some s → creation_in e ≡ None
unfolding start_in creation_in
start_makes_none (event.Started by tasks) s says = refl
start_makes_none _ s says = absurd (none-some s says)

makes_none : {A : Type 0} (o : Option A) → o ≡ None → is_some o ≡ true → ⊥
makes_none o none some = false≢true (sym (ap is_some none) ∙ some)

-- no task that a start names has failed
pub none_failed : (before : List Event) (event : Event) (s : Start) → FitsHeld before event → start_in event ≡ Some s
    → list_any (λ (t : TaskNo). has_failed (event ∷ before) t.0) s.tasks ≡ false
none_failed before event s fits says =
    any_failed event before s.tasks
    ∙ rw (start_fails_none event s says)
    (any_false (λ (t : TaskNo). has_failed before t.0) s.tasks (λ t among. fits.starting s t.0 says among))

undone_before : (event : Event) (before : List Event) (u : ℕ) → is_done_activating (event ∷ before) (task_no u) ≡ false
    → is_done_activating before (task_no u) ≡ false
unfolding is_done_activating is_elaborated
undone_before event before u undone =
    let both = or_parts (is_elaborated (event ∷ before) u) (has_ended (event ∷ before) u) undone in
    let parts = or_parts (eqb u 0) (list_any (λ (e : Event). is_number u (elaborated_in e)) (event ∷ before)) both.0 in
    let older = or_parts (is_number u (elaborated_in event)) (list_any (λ (e : Event). is_number u (elaborated_in e)) before) parts.1 in
    or_from (is_elaborated before u) (has_ended before u)
    (or_from (eqb u 0) (list_any (λ (e : Event). is_number u (elaborated_in e)) before) parts.0 older.1) (has_ended-before event before u both.1)

-- tasks that stand for those of a list
pub listed_alike : (names : Renaming) (tasks stands : List TaskNo) → ((s t v : ℕ) → names.task s ≡ Some v → names.task t ≡ Some v → s ≡ t)
    → renamed_tasks names tasks ≡ Some stands → (u v : ℕ) → names.task u ≡ Some v → lists_task v stands ≡ lists_task u tasks
unfolding renamed_tasks
listed_alike names [] stands one same u v named = ap (lists_task v) (sym (same_Some [] stands same))
listed_alike names (t ∷ rest) stands one same u v named =
    let (w, others, is, has, made) = from_both-some (λ w ws. w ∷ ws) (renamed_task names t) (renamed_tasks names rest) stands same in
    let first : eqb w.0 v ≡ eqb t.0 u = sym (eqb_alike names.task t.0 u w.0 v one (renamed_task-is names t w is) named) in
    ap (lists_task v) (sym made) ∙ (λ i. first i || listed_alike names rest others one has u v named i)

module _ (old new : List Event) (names : Renaming) (event copy : Event) (next : AreNext old new names event copy) where
  pub tasks_one : (s t v : ℕ) → names.task s ≡ Some v → names.task t ≡ Some v → s ≡ t
  tasks_one s t v first second = task_one old new names s t v next.stands.tasks first second

  fails_alike : (s r : Start) → IsSameStart old new names s r → is_some_and (failed_in copy) (λ w. lists_task w r.tasks)
      ≡ is_some_and (failed_in event) (λ w. lists_task w s.tasks)
  fails_alike s r same = elim (failed_both names event copy (is_like old new names event copy next)) [
    | AreBoth.both w x is has named ↦ rw (is, has) (same.pending w x named (next.fits.failing w is))
    | AreBoth.neither is has ↦ rw (is, has) refl
  ]

  -- two starts that held up alike still do
  pub start_kept : (p q : ℕ) (d e : Event) (s r : Start) → event_at old p ≡ Some d → event_at new q ≡ Some e → start_in d ≡ Some s → start_in e ≡ Some r
      → IsSameStart old new names s r → IsSameStart (event ∷ old) (copy ∷ new) (next_names old new event names) s r
  start_kept p q d e s r at_p at_q says tells same = record {
    pending = λ u v named undone. elim (task_cases old new names event copy next u v named) [
      | inl made ↦
          false_from_ne_true (lists_task v r.tasks) (λ among.
          let below : v < task_count new = next.also.starts q v e r at_q tells among in
          omega (arith, below, made.2))
          ∙ sym (false_from_ne_true (lists_task u s.tasks) (λ among.
          let below : u < task_count old = next.orderly.starts p u d s at_p says among in
          omega (arith, below, made.1)))
      | inr kept ↦ same.pending u v kept (undone_before event old u undone)
    ];
    failed = any_failed copy new r.tasks ∙ (λ i. fails_alike s r same i || same.failed i) ∙ sym (any_failed event old s.tasks);
  }

  -- and the event is such a start as what stands for it
  pub start_newest : (s r : Start) → start_in event ≡ Some s → start_in copy ≡ Some r → renamed_tasks names s.tasks ≡ Some r.tasks
      → IsSameStart (event ∷ old) (copy ∷ new) (next_names old new event names) s r
  start_newest s r says tells same = record {
    pending = λ u v named undone. elim (task_cases old new names event copy next u v named) [
      | inl made ↦ absurd (makes_none (creation_in event) (start_makes_none event s says) made.0)
      | inr kept ↦ listed_alike names s.tasks r.tasks tasks_one same u v kept
    ];
    failed = none_failed new copy r next.fitted tells ∙ sym (none_failed old event s next.fits says);
  }
