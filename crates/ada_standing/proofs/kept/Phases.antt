-- Tasks are completed, named by starts, started, elaborated, abnormal and failed alike after one more event.
use Rattle.std.proofs.Common.{◌≡◌, ℕ, Bool, true, false, ◌||◌, eqb, Some, List, [], ◌∷◌, refl, sym, ◌∙◌, inl, inr}
use Rattle.std.specs.List.{list_any}
use Rattle.std.proofs.lemmas.Bool.{cases_Bool, or_right, or_parts}
use Rattle.std.proofs.lemmas.Option.{same_Some}
use Rattle.ada_events.specs.declared.event.Event.{Event}
use Rattle.ada_events.specs.declared.names.TaskNo.{TaskNo}
use Rattle.ada_events.specs.declared.names.Master.TheVariants.{Body}
use Rattle.ada_events.specs.Search.{is_number}
use Rattle.ada_events.specs.Says.{started_in, aborted_in, elaborated_in, completed_in}
use Rattle.ada_events.specs.Masters.{depends_on}
use Rattle.ada_events.specs.Phases.{lists_task, has_start, is_elaborated, is_completed, is_terminated, has_ended, is_abnormal, is_started}
use Rattle.ada_laws.proofs.searching.Growing.{has_ended-before}
use Rattle.ada_standing.specs.Renaming.{Renaming, renamed_master, renamed_task, renamed_tasks}
use Rattle.ada_standing.specs.internal.Next.{next_names}
use Rattle.ada_standing.proofs.alike.Pairs.{live_from, active_parts, ended_alike}
use Rattle.ada_standing.proofs.alike.Mastering.{depends_alike, eqb_alike}
use Rattle.ada_standing.proofs.kept.Saying.{from_both-some, started_said, aborted_said, elaborated_said, completed_said, number_alike}
use Rattle.ada_standing.proofs.kept.Naming.{AreNext, AreOld, like, one_task, next_cases}
use Rattle.ada_standing.proofs.kept.Terminating.{unterminated_before, made_fresh, terminated_old}
use Rattle.ada_standing.proofs.held.Renamed.{renamed_task-is}

-- some task of a list passes as some task of the renamed list does
pub any_alike : (names : Renaming) (test there : TaskNo → Bool) (ts us : List TaskNo) → renamed_tasks names ts ≡ Some us
    → ((t u : TaskNo) → names.task t.0 ≡ Some u.0 → test t ≡ there u) → list_any test ts ≡ list_any there us
unfolding renamed_tasks
any_alike names test there [] us is alike = rw (← same_Some _ us is) refl
any_alike names test there (t ∷ rest) us is alike =
    let (u, them, first, later, made) = from_both-some (λ u us. u ∷ us) (renamed_task names t) (renamed_tasks names rest) us is in
    rw (← made, alike t u (renamed_task-is names t u first), any_alike names test there rest them later alike) refl

-- whom no start names, none named before
pub unnamed_before : (event : Event) (before : List Event) (u : ℕ) → has_start (event ∷ before) u ≡ false → has_start before u ≡ false
unfolding has_start
unnamed_before event before u never =
    (or_parts (lists_task u (started_in event)) (list_any (λ (e : Event). lists_task u (started_in e)) before) never).1

pub named_more : (event : Event) (before : List Event) (u : ℕ) → has_start before u ≡ true → has_start (event ∷ before) u ≡ true
unfolding has_start
named_more event before u was = or_right (lists_task u (started_in event)) (list_any (λ (e : Event). lists_task u (started_in e)) before) was

-- the main program is elaborated, and a task that an event of the journal elaborates
elaborated_more : (event : Event) (before : List Event) (u : ℕ)
    → is_elaborated (event ∷ before) u ≡ (is_number u (elaborated_in event) || is_elaborated before u)
unfolding is_elaborated
elaborated_more event before u = swap (eqb u 0) (is_number u (elaborated_in event)) (list_any (λ (e : Event). is_number u (elaborated_in e)) before)
  where
    swap : (a b c : Bool) → (a || (b || c)) ≡ (b || (a || c))
    swap true true c = refl
    swap true false c = refl
    swap false b c = refl

body_is : (names : Renaming) (t w : TaskNo) → names.task t.0 ≡ Some w.0 → renamed_master names (Body t) ≡ Some (Body w)
unfolding renamed_master
body_is names t w also = rw also refl

module _ (old new : List Event) (names : Renaming) (event other : Event) (next : AreNext old new names event other) where
  -- a list of the event names a task as the renamed list names the other
  listed_alike : (u v : ℕ) (ts us : List TaskNo) → renamed_tasks names ts ≡ Some us → names.task u ≡ Some v → lists_task u ts ≡ lists_task v us
  listed_alike u v ts us is named =
      any_alike names (λ (t : TaskNo). eqb t.0 u) (λ (t : TaskNo). eqb t.0 v) ts us is
      (λ t w also. eqb_alike names.task t.0 u w.0 v (one_task old new names event other next) also named)

  pub starts_now : (u v : ℕ) → names.task u ≡ Some v → lists_task u (started_in event) ≡ lists_task v (started_in other)
  starts_now u v named =
      listed_alike u v (started_in event) (started_in other) (started_said names event other (like old new names event other next)) named

  pub completed_old : (u v : ℕ) → AreOld old new names u v → is_terminated old u ≡ false → is_completed (other ∷ new) v ≡ is_completed (event ∷ old) u
  unfolding is_completed
  completed_old u v was still =
      rw (
        number_alike names.task (completed_in event) (completed_in other) u v (one_task old new names event other next)
            (completed_said names event other (like old new names event other next)) was.named,
        (next.stands.dependents u v was.named still).completed,
      ) refl

  pub completed_kept : (u v : ℕ) → (next_names old new event names).task u ≡ Some v → is_terminated (event ∷ old) u ≡ false
      → is_completed (other ∷ new) v ≡ is_completed (event ∷ old) u
  completed_kept u v named still =
      elim (next_cases old new names event other next u v named) [
        | inl was ↦ completed_old u v was (unterminated_before event old u still)
        | inr made ↦
            let both = made_fresh old new names event other next u v made in
            both.1.uncompleted ∙ sym both.0.uncompleted
      ]

  pub ended_old : (u v : ℕ) → AreOld old new names u v → has_ended (other ∷ new) v ≡ has_ended (event ∷ old) u
  unfolding has_ended
  ended_old u v was =
      let terminated = terminated_old old new names event other next u v was in
      elim (cases_Bool (is_terminated (event ∷ old) u)) [
        | inl ended ↦
            or_right (is_completed (other ∷ new) v) (is_terminated (other ∷ new) v) (terminated ∙ ended)
            ∙ sym (or_right (is_completed (event ∷ old) u) (is_terminated (event ∷ old) u) ended)
        | inr still ↦ rw (completed_old u v was (unterminated_before event old u still), terminated) refl
      ]

  pub ended_kept : (u v : ℕ) → (next_names old new event names).task u ≡ Some v → has_ended (other ∷ new) v ≡ has_ended (event ∷ old) u
  unfolding has_ended
  ended_kept u v named =
      elim (next_cases old new names event other next u v named) [
        | inl was ↦ ended_old u v was
        | inr made ↦
            let both = made_fresh old new names event other next u v made in
            rw (both.0.unterminated, both.0.uncompleted, both.1.unterminated, both.1.uncompleted) refl
      ]

  pub named_old : (u v : ℕ) → AreOld old new names u v → is_terminated old u ≡ false → has_start (other ∷ new) v ≡ has_start (event ∷ old) u
  unfolding has_start
  named_old u v was still = rw (starts_now u v was.named, (next.stands.dependents u v was.named still).named) refl

  pub named_kept : (u v : ℕ) → (next_names old new event names).task u ≡ Some v → is_terminated (event ∷ old) u ≡ false
      → has_start (other ∷ new) v ≡ has_start (event ∷ old) u
  named_kept u v named still =
      elim (next_cases old new names event other next u v named) [
        | inl was ↦ named_old u v was (unterminated_before event old u still)
        | inr made ↦
            let both = made_fresh old new names event other next u v made in
            both.1.unnamed ∙ sym both.0.unnamed
      ]

  started_old : (u v : ℕ) → AreOld old new names u v → has_ended old u ≡ false → is_started (other ∷ new) v ≡ is_started (event ∷ old) u
  unfolding is_started
  started_old u v was active =
      rw (starts_now u v was.named, ended_alike old new names u v next.stands was.named, (next.stands.active u v was.named active).started) refl

  pub started_kept : (u v : ℕ) → (next_names old new event names).task u ≡ Some v → has_ended (event ∷ old) u ≡ false
      → is_started (other ∷ new) v ≡ is_started (event ∷ old) u
  started_kept u v named active =
      elim (next_cases old new names event other next u v named) [
        | inl was ↦ started_old u v was (has_ended-before event old u active)
        | inr made ↦
            let both = made_fresh old new names event other next u v made in
            both.1.unstarted ∙ sym both.0.unstarted
      ]

  elaborated_old : (u v : ℕ) → AreOld old new names u v → has_ended old u ≡ false → is_elaborated (other ∷ new) v ≡ is_elaborated (event ∷ old) u
  elaborated_old u v was active =
      rw (
        elaborated_more other new v,
        elaborated_more event old u,
        number_alike names.task (elaborated_in event) (elaborated_in other) u v (one_task old new names event other next)
            (elaborated_said names event other (like old new names event other next)) was.named,
        (next.stands.active u v was.named active).elaborated,
      ) refl

  pub elaborated_kept : (u v : ℕ) → (next_names old new event names).task u ≡ Some v → has_ended (event ∷ old) u ≡ false
      → is_elaborated (other ∷ new) v ≡ is_elaborated (event ∷ old) u
  elaborated_kept u v named active =
      elim (next_cases old new names event other next u v named) [
        | inl was ↦ elaborated_old u v was (has_ended-before event old u active)
        | inr made ↦
            let both = made_fresh old new names event other next u v made in
            both.1.unelaborated ∙ sym both.0.unelaborated
      ]

  -- an abort names a task, or the body of one on which it depends
  aborts_now : (u v : ℕ) → AreOld old new names u v → is_terminated old u ≡ false
      → list_any (λ (t : TaskNo). eqb t.0 u || depends_on old u (Body t)) (aborted_in event)
      ≡ list_any (λ (t : TaskNo). eqb t.0 v || depends_on new v (Body t)) (aborted_in other)
  aborts_now u v was still =
      any_alike names (λ (t : TaskNo). eqb t.0 u || depends_on old u (Body t)) (λ (t : TaskNo). eqb t.0 v || depends_on new v (Body t))
      (aborted_in event) (aborted_in other) (aborted_said names event other (like old new names event other next))
      (λ t w also.
      rw (
        eqb_alike names.task t.0 u w.0 v (one_task old new names event other next) also was.named,
        depends_alike old new names u v (Body t) (Body w) next.stands next.orderly next.also was.named (live_from old u was.below still)
            (body_is names t w also),
      ) refl)

  abnormal_old : (u v : ℕ) → AreOld old new names u v → has_ended old u ≡ false → is_abnormal (other ∷ new) v ≡ is_abnormal (event ∷ old) u
  unfolding is_abnormal
  abnormal_old u v was active =
      let same = next.stands.same u v was.named in
      let still = (active_parts old u active).1 in
      rw (
        aborts_now u v was still,
        same.existed,
        same.exists,
        same.terminated,
        (next.stands.active u v was.named active).abnormal,
      ) refl

  pub abnormal_kept : (u v : ℕ) → (next_names old new event names).task u ≡ Some v → has_ended (event ∷ old) u ≡ false
      → is_abnormal (other ∷ new) v ≡ is_abnormal (event ∷ old) u
  abnormal_kept u v named active =
      elim (next_cases old new names event other next u v named) [
        | inl was ↦ abnormal_old u v was (has_ended-before event old u active)
        | inr made ↦
            let both = made_fresh old new names event other next u v made in
            both.1.normal ∙ sym both.0.normal
      ]
