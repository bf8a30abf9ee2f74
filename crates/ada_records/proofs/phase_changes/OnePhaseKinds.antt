-- The end of a wait, a delay or a start, and the completion of a task that isn't suspended, change one phase alone.
use Rattle.std.proofs.Common.{◌≡◌, ◌≢◌, ℕ, true, false, not, eqb, Some, None, List, [], ◌∷◌, refl, sym, ap, ◌∙◌, subst, append-nil}
use Rattle.std.specs.Option.{option_and_then}
use Rattle.std.specs.List.{filter, Contains}
use Rattle.std.proofs.lemmas.Bool.{and_parts, ne_eqb, true≢false, false_from_ne_true}
use Rattle.std.proofs.lemmas.Option.{none-some, same_Some}
use Rattle.ada_events.specs.declared.event.Event.{Event}
use Rattle.ada_events.specs.declared.event.Event.TheVariants.{Completed, Elaborated, Halted}
use Rattle.ada_events.specs.declared.names.Entry.{Entry}
use Rattle.ada_events.specs.declared.names.Member.TheVariants.{Rendezvous}
use Rattle.ada_events.specs.Search.{event_at}
use Rattle.ada_events.specs.Says.{Call, call_in, call_at, creation_in, opening_in, held_in, started_in, released_in, meeting_in, completed_in, gone_in, quit_in}
use Rattle.ada_events.specs.Phases.{is_completed, is_terminated, is_suspended}
use Rattle.ada_events.specs.Calls.{is_open_at, is_open_call, is_met, is_queued_at, queue}
use Rattle.ada_events.specs.Nests.{nest}
use Rattle.ada_events.specs.Lawful.{IsLawful}
use Rattle.ada_laws.specs.Suspension.{IsSuspendedAt}
use Rattle.ada_laws.proofs.searching.Gathering.{Contains-first, Contains-later}
use Rattle.ada_laws.proofs.searching.Searching.{option_map_or-true}
use Rattle.ada_laws.proofs.held.Suspending.{is_suspended-from}
use Rattle.ada_laws.proofs.queues.Queueing.{is_open_at-call, open_call_suspends, queue-found}
use Rattle.ada_step_laws.proofs.changing.Callers.{end_of_caller}
use Rattle.ada_step_laws.proofs.changing.Calling.{same_completed, same_terminated}
use Rattle.ada_step_laws.proofs.changing.NestKinds.{others_keep_nests}
use Rattle.ada_step_laws.proofs.changing.QueueKinds.{no_newest, queue_released}
use Rattle.ada_step_laws.proofs.changing.QueueChanges.{ends, ends_caller, queue_more, queued-more, filter_all}
use Rattle.ada_step_laws.proofs.changing.Releasing.{says_release}
use Rattle.ada_step_laws.proofs.changing.Saying.{release_only, held_apart}
use Rattle.ada_step_laws.proofs.changing.Unnesting.{nest_released}
use Rattle.ada_laws.proofs.within.Members.{nest_open}
use Rattle.ada_records.specs.TableChanges.{ReleasesChangeOnePhase, CompletionsChangeOnePhase}
use Rattle.ada_records.proofs.holding.Cuts.{all_apart}
use Rattle.ada_records.proofs.phase_changes.KeptPhases.{others_keep_phases}
use Rattle.ada_step_laws.proofs.changing.KeptQueues.{all_kept}

called_at : (journal : List Event) (p : ℕ) (e : Event) (c : Call) → event_at journal p ≡ Some e → call_in e ≡ Some c → call_at journal p ≡ Some c
called_at journal p e c at says = ap (option_and_then call_in) at ∙ says

-- what isn't a call is in no nest and in no queue
pub not_in_nest : (journal : List Event) (task p : ℕ) → call_at journal p ≡ None → Contains (nest journal task) (Rendezvous p) → ⊥
unfolding is_open_call
not_in_nest journal task p none has =
    let (e, at, here) = option_map_or-true (is_open_at journal p) (event_at journal p) (nest_open journal task p has) in
    let (c, says, opened) = is_open_at-call journal p e at here in
    none-some c (sym none ∙ called_at journal p e c at says)

pub not_in_queue : (journal : List Event) (task p : ℕ) (entry : Entry) → call_at journal p ≡ None → Contains (queue journal task entry) p → ⊥
not_in_queue journal task p entry none has =
    let queued = queue-found journal task entry p has in
    none-some queued.call (sym none ∙ called_at journal p queued.opened.stands.event queued.call queued.opened.stands.stands queued.opened.stands.says)

pub filter_absent : (p : ℕ) (xs : List ℕ) → (Contains xs p → ⊥) → filter (λ q. not (eqb q p)) xs ≡ xs
filter_absent p [] absent = refl
filter_absent p (x ∷ xs) absent =
    rw (ne_eqb x p (λ same. absent (subst (λ (n : ℕ). Contains (x ∷ xs) n) same (Contains-first x xs))))
    (ap (λ (ys : List ℕ). x ∷ ys) (filter_absent p xs (λ has. absent (Contains-later x p xs has))))

pub releases_change_one_phase : ReleasesChangeOnePhase
releases_change_one_phase event before task position lawful frees leaves uncalled held =
    let only = release_only event position frees.releases in
    let says = says_release event position frees.releases in
    record {
      makes = only.plain.quiet.makes;
      nests = λ other. nest_released event before other position frees.releases leaves frees.meets
          ∙ all_apart position (nest before other) (not_in_nest before other position uncalled);
      queues = λ other entry. queue_released event before other entry position frees.releases frees.meets says.0
          ∙ filter_absent position (queue before other entry) (not_in_queue before other position entry uncalled);
      phases = λ other differs.
          others_keep_phases event before other lawful (λ holds. none-some other (sym only.holds ∙ holds)) (rw only.plain.starts refl)
          (λ p also there.
          let same : p ≡ position = same_Some p position (sym also ∙ frees.releases) in
          differs (held_apart before other task position (subst (λ (n : ℕ). IsSuspendedAt before other n) same there) held))
          (same_completed event before other only.plain.quiet) (same_terminated event before other only.plain.quiet);
    }

-- what a completion says, and what it doesn't
pub record OnlyCompletes (event : Event) : Type 0 where
  pub makes : creation_in event ≡ None
  pub opens : opening_in event ≡ None
  pub meets : meeting_in event ≡ None
  pub frees : released_in event ≡ None
  pub calls : call_in event ≡ None
  pub holds : held_in event ≡ None
  pub starts : started_in event ≡ []
  pub goes : gone_in event ≡ None
  pub quits : quit_in event ≡ None

pub completes_only : (e : Event) (task : ℕ) → completed_in e ≡ Some task → OnlyCompletes e
unfolding completed_in creation_in opening_in meeting_in released_in call_in held_in started_in gone_in quit_in
completes_only (Completed by) task says =
    record { makes = refl; opens = refl; meets = refl; frees = refl; calls = refl; holds = refl; starts = refl; goes = refl; quits = refl }
completes_only (Elaborated by false) task says =
    record { makes = refl; opens = refl; meets = refl; frees = refl; calls = refl; holds = refl; starts = refl; goes = refl; quits = refl }
completes_only (Elaborated by true) task says = absurd (none-some task says)
completes_only (Halted by) task says =
    record { makes = refl; opens = refl; meets = refl; frees = refl; calls = refl; holds = refl; starts = refl; goes = refl; quits = refl }
completes_only _ task says = absurd (none-some task says)

-- who isn't suspended has no queued call
queued_stays : (event : Event) (before : List Event) (task p : ℕ) (e : Event) → IsLawful (event ∷ before) → completed_in event ≡ Some task
    → is_suspended before task ≡ false → event_at before p ≡ Some e → is_queued_at before p e ≡ true → ends_caller event before (call_in e) ≡ false
unfolding is_queued_at
queued_stays event before task p e lawful completes free at queued =
    let (c, says, opened) = is_open_at-call before p e at (and_parts (is_open_at before p e) (not (is_met before p)) queued).0 in
    rw says
    (false_from_ne_true (ends event before c.by) (λ ended.
    let by : c.by ≡ task = same_Some c.by task (sym (end_of_caller event before c p lawful opened ended).completes ∙ completes) in
    true≢false (sym (is_suspended-from before c.by p (open_call_suspends before c p opened)) ∙ ap (is_suspended before) by ∙ free)))

pub completed_queue : (event : Event) (before : List Event) (task other : ℕ) (entry : Entry) → IsLawful (event ∷ before) → completed_in event ≡ Some task
    → is_suspended before task ≡ false → OnlyCompletes event → queue (event ∷ before) other entry ≡ queue before other entry
completed_queue event before task other entry lawful completes free only =
    queue_more event before other entry (λ _. true)
    (λ p e at.
    queued-more event before p e
    ∙ rw (only.frees, only.meets) (all_kept (is_queued_at before p e) (ends_caller event before (call_in e))
    (queued_stays event before task p e lawful completes free at)))
    ∙ rw (no_newest event before other entry only.calls, filter_all (queue before other entry)) (append-nil (queue before other entry))

pub other_completed : (event : Event) (before : List Event) (task other : ℕ) → completed_in event ≡ Some task → other ≢ task
    → is_completed (event ∷ before) other ≡ is_completed before other
unfolding is_completed
other_completed event before task other says differs = rw (says, ne_eqb other task differs) refl

pub same_ends : (event : Event) (before : List Event) (other : ℕ) → OnlyCompletes event → is_terminated (event ∷ before) other ≡ is_terminated before other
unfolding is_terminated
same_ends event before other only = rw (only.goes, only.quits) refl

pub completions_change_one_phase : CompletionsChangeOnePhase
completions_change_one_phase event before task lawful completes free =
    let only = completes_only event task completes in
    record {
      makes = only.makes;
      nests = λ other. others_keep_nests event before other lawful only.opens only.meets only.frees;
      queues = λ other entry. completed_queue event before task other entry lawful completes free only;
      phases = λ other differs.
          others_keep_phases event before other lawful (λ holds. none-some other (sym only.holds ∙ holds)) (rw only.starts refl)
          (λ p frees held. none-some p (sym only.frees ∙ frees))
          (other_completed event before task other completes differs) (same_ends event before other only);
    }
