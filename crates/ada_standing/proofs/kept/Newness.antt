-- Nothing became of a task that wasn't made yet, and an event that makes a task does nothing else.
use Rattle.std.proofs.Common.{◌≡◌, ℕ, suc, ◌<◌, ◌≤◌, Bool, true, false, not, ◌&&◌, ◌||◌, Some, None, List, [], ◌∷◌, length, refl}
use Rattle.std.proofs.Common.{eqb, arith, inl, inr}
use Rattle.std.specs.List.{list_any}
use Rattle.std.proofs.lemmas.Bool.{or_cases, and_parts, false_from_ne_true, false≢true, ltb-true, eqb-true}
use Rattle.std.proofs.lemmas.Option.{none-some}
use Rattle.ada_events.specs.declared.event.Event.{Event}
use Rattle.ada_events.specs.declared.event.Event.TheVariants as event
use Rattle.ada_events.specs.declared.names.TaskNo.{TaskNo}
use Rattle.ada_events.specs.declared.names.Master.TheVariants.{Body}
use Rattle.ada_events.specs.Search.{is_number, event_at}
use Rattle.ada_events.specs.Says.{Creation, creation_in, opening_in, closing_in, started_in, aborted_in, elaborated_in, failed_in, completed_in, gone_in}
use Rattle.ada_events.specs.Says.{quit_in, held_in, released_in}
use Rattle.ada_events.specs.Tasks.{task_count, has_task}
use Rattle.ada_events.specs.Masters.{depends_on}
use Rattle.ada_events.specs.Phases.{lists_task, has_start, is_elaborated, has_failed, is_completed, is_terminated, has_ended, is_abnormal, is_started}
use Rattle.ada_events.specs.Outcomes.{raised_in}
use Rattle.ada_laws.proofs.searching.Searching.{is_number-some, event_at-newest, event_at-older}
use Rattle.ada_laws.proofs.searching.Growing.{task_count-more}
use Rattle.ada_laws.proofs.within.Depending.{depends_exists, some_task}
use Rattle.ada_laws.proofs.within.DependentLaws.{IsEnd, is_terminated-cases}
use Rattle.ada_standing.proofs.kept.Fitting.{TellsBelow, Fits}

-- an event that makes a task says nothing else
pub record IsMakingOnly (e : Event) : Type 0 where
  pub opens : opening_in e ≡ None
  pub closes : closing_in e ≡ None
  pub starts : started_in e ≡ []
  pub aborts : aborted_in e ≡ []
  pub elaborates : elaborated_in e ≡ None
  pub fails : failed_in e ≡ None
  pub completes : completed_in e ≡ None
  pub ends : gone_in e ≡ None
  pub quits : quit_in e ≡ None
  pub holds : held_in e ≡ None
  pub raises : raised_in e ≡ None
  pub releases : released_in e ≡ None

pub making_only : (e : Event) (c : Creation) → creation_in e ≡ Some c → IsMakingOnly e
unfolding creation_in opening_in closing_in started_in aborted_in elaborated_in failed_in completed_in gone_in quit_in held_in raised_in released_in
making_only (event.Created by under master families) c says = record {
  opens = refl;
  closes = refl;
  starts = refl;
  aborts = refl;
  elaborates = refl;
  fails = refl;
  completes = refl;
  ends = refl;
  quits = refl;
  holds = refl;
  raises = refl;
  releases = refl;
}
making_only _ c says = absurd (none-some c says)

-- all events of the journal tell only of tasks below a number
abbrev AllTold : ℕ → List Event → Type 0
AllTold count journal = (p : ℕ) (e : Event) → event_at journal p ≡ Some e → TellsBelow count e

told_before : (count : ℕ) (event : Event) (before : List Event) → AllTold count (event ∷ before) → AllTold count before
told_before count event before told p e at = told p e (event_at-older event before p e at)

told_newest : (count : ℕ) (event : Event) (before : List Event) → AllTold count (event ∷ before) → TellsBelow count event
told_newest count event before told = told (suc (length before)) event (event_at-newest event before)

-- what some event of the journal does to a task
any_below : (count : ℕ) (test : Event → Bool) (u : ℕ) (journal : List Event) → ((e : Event) → TellsBelow count e → test e ≡ true → u < count)
    → AllTold count journal → list_any test journal ≡ true → u < count
any_below count test u [] tells told any = absurd (false≢true any)
any_below count test u (event ∷ before) tells told any = elim (or_cases (test event) (list_any test before) any) [
  | inl now ↦ tells event (told_newest count event before told) now
  | inr was ↦ any_below count test u before tells (told_before count event before told) was
]

terminated_below : (count : ℕ) (journal : List Event) (u : ℕ) → task_count journal ≤ count → AllTold count journal → is_terminated journal u ≡ true → u < count
unfolding is_terminated
terminated_below count [] u most told ended = absurd (false≢true ended)
terminated_below count (event ∷ before) u most told ended =
    let fewer : task_count before ≤ task_count (event ∷ before) = task_count-more event before in
    elim (is_terminated-cases event before u ended) [
      | IsEnd.alone gone ↦ (told_newest count event before told).ends u gone
      | IsEnd.together m says depends ↦
          let below : u < task_count before = depends_exists before u m depends in
          omega arith
      | IsEnd.earlier was ↦ terminated_below count before u (omega arith) (told_before count event before told) was
    ]

abnormal_below : (journal : List Event) (u : ℕ) → is_abnormal journal u ≡ true → u < task_count journal
unfolding is_abnormal
abnormal_below [] u abnormal = absurd (false≢true abnormal)
abnormal_below (event ∷ before) u abnormal =
    let fewer : task_count before ≤ task_count (event ∷ before) = task_count-more event before in
    let named = list_any (λ (t : TaskNo). eqb t.0 u || depends_on before u (Body t)) (aborted_in event) in
    elim (or_cases (named && has_task before u && not (is_terminated before u)) (is_abnormal before u) abnormal) [
      | inl now ↦
          let below : u < task_count before =
          ltb-true u (task_count before)
          (and_parts named (has_task before u) (and_parts (named && has_task before u) (not (is_terminated before u)) now).0).1 in
          omega arith
      | inr was ↦
          let below : u < task_count before = abnormal_below before u was in
          omega arith
    ]

started_below : (count : ℕ) (journal : List Event) (u : ℕ) → 0 < count → AllTold count journal → is_started journal u ≡ true → u < count
unfolding is_started
started_below count [] u some told started =
    let main : u ≡ 0 = eqb-true u 0 started in
    omega (arith, main, some)
started_below count (event ∷ before) u some told started =
    elim (or_cases (lists_task u (started_in event) && not (has_ended before u)) (is_started before u) started) [
      | inl now ↦ (told_newest count event before told).starts u (and_parts (lists_task u (started_in event)) (not (has_ended before u)) now).0
      | inr was ↦ started_below count before u some (told_before count event before told) was
    ]

-- nothing became of a task that isn't made
pub record IsFresh (journal : List Event) (u : ℕ) : Type 0 where
  pub unterminated : is_terminated journal u ≡ false
  pub uncompleted : is_completed journal u ≡ false
  pub unnamed : has_start journal u ≡ false
  pub unstarted : is_started journal u ≡ false
  pub unelaborated : is_elaborated journal u ≡ false
  pub unfailed : has_failed journal u ≡ false
  pub normal : is_abnormal journal u ≡ false

pub fresh : (journal : List Event) (event : Event) (u : ℕ) → Fits journal event → u ≡ task_count journal → IsFresh journal u
unfolding is_completed has_start is_elaborated has_failed
fresh journal event u fits newest =
    let some : 0 < task_count journal = some_task journal in
    let beyond : u < task_count journal → ⊥ = λ below. omega (arith, newest, below) in
    record {
      unterminated = false_from_ne_true (is_terminated journal u) (λ ended.
          beyond (terminated_below (task_count journal) journal u (omega arith) fits.told ended));
      uncompleted = false_from_ne_true (is_completed journal u) (λ completed.
          beyond (any_below (task_count journal) (λ (e : Event). is_number u (completed_in e)) u journal
          (λ e tells now. tells.completes u (is_number-some u (completed_in e) now)) fits.told completed));
      unnamed = false_from_ne_true (has_start journal u) (λ named.
          beyond (any_below (task_count journal) (λ (e : Event). lists_task u (started_in e)) u journal (λ e tells now. tells.starts u now) fits.told named));
      unstarted = false_from_ne_true (is_started journal u) (λ started. beyond (started_below (task_count journal) journal u some fits.told started));
      unelaborated = false_from_ne_true (is_elaborated journal u) (λ elaborated.
          elim (or_cases (eqb u 0) (list_any (λ (e : Event). is_number u (elaborated_in e)) journal) elaborated) [
            | inl main ↦
                let zero_is : u ≡ 0 = eqb-true u 0 main in
                absurd (omega (arith, zero_is, some, newest))
            | inr there ↦
                beyond (any_below (task_count journal) (λ (e : Event). is_number u (elaborated_in e)) u journal
                (λ e tells now. tells.elaborates u (is_number-some u (elaborated_in e) now)) fits.told there)
          ]);
      unfailed = false_from_ne_true (has_failed journal u) (λ failed.
          beyond (any_below (task_count journal) (λ (e : Event). is_number u (failed_in e)) u journal
          (λ e tells now. tells.fails u (is_number-some u (failed_in e) now)) fits.told failed));
      normal = false_from_ne_true (is_abnormal journal u) (λ abnormal. beyond (abnormal_below journal u abnormal));
    }

-- nor when an event makes it
pub fresh_made : (event : Event) (before : List Event) (u : ℕ) (c : Creation) → creation_in event ≡ Some c → IsFresh before u → IsFresh (event ∷ before) u
unfolding is_terminated is_completed has_start is_started is_elaborated has_failed is_abnormal
fresh_made event before u c says was =
    let only = making_only event c says in
    record {
      unterminated = rw (only.ends, only.quits) was.unterminated;
      uncompleted = rw only.completes was.uncompleted;
      unnamed = rw only.starts was.unnamed;
      unstarted = rw only.starts was.unstarted;
      unelaborated = rw only.elaborates was.unelaborated;
      unfailed = rw only.fails was.unfailed;
      normal = rw only.aborts was.normal;
    }
