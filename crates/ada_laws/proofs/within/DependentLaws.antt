-- No terminated task has a dependent of its body that isn't terminated.
use Rattle.std.proofs.Common.{◌≡◌, ℕ, ◌<◌, true, false, not, ◌&&◌, ◌||◌, Some, None, List, [], ◌∷◌, sym, refl, ap, ◌∙◌, subst, arith, inl, inr}
use Rattle.std.specs.Option.{option_map_or}
use Rattle.std.proofs.lemmas.Bool.{or_cases, and_parts, not-true, true≢false, false≢true}
use Rattle.std.proofs.lemmas.Option.{same_Some, none-some}
use Rattle.ada_events.specs.declared.event.Event.{Event}
use Rattle.ada_events.specs.declared.event.Event.TheVariants.{Created}
use Rattle.ada_events.specs.declared.request.Request.{Request}
use Rattle.ada_events.specs.declared.request.Request.TheVariants as request
use Rattle.ada_events.specs.declared.names.TaskNo.{TaskNo}
use Rattle.ada_events.specs.declared.names.Master.{Master}
use Rattle.ada_events.specs.declared.names.Master.TheVariants.{Body}
use Rattle.ada_events.specs.Search.{is_number}
use Rattle.ada_events.specs.Says.{Creation, creation_in, gone_in, quit_in}
use Rattle.ada_events.specs.Asks.{asked_event}
use Rattle.ada_events.specs.Tasks.{task_count, creation_of}
use Rattle.ada_events.specs.Masters.{depends_on}
use Rattle.ada_events.specs.Phases.{has_start, is_completed, is_terminated}
use Rattle.ada_events.specs.Forced.{is_to_go}
use Rattle.ada_events.specs.Termination.{all_terminated, is_complete, is_abandoned}
use Rattle.ada_events.specs.Lawful.{MayFollow}
use Rattle.ada_events.specs.Refusals.{refusal}
use Rattle.ada_laws.specs.Laws.{OfLawful}
use Rattle.ada_laws.specs.Dependents.{ATerminatedBodyHasNoLiveDependent}
use Rattle.ada_laws.specs.Unlimited.{IsLawfulUnlimited, refusal_but_limits}
use Rattle.ada_laws.proofs.asking.Limitless.{lawful_unlimited, may_follow_unlimited}
use Rattle.ada_laws.proofs.searching.Searching.{is_number-some, option_map_or-true, all_below-holds}
use Rattle.ada_laws.proofs.searching.Growing.{is_terminated-more, is_terminated-quit, has_ended-terminated}
use Rattle.ada_laws.proofs.asking.Accepting.{running_live}
use Rattle.ada_laws.proofs.forced.Rows.{IsRow, forced-row}
use Rattle.ada_laws.proofs.forced.Rows.IsRow.{goes}
use Rattle.ada_laws.proofs.within.Depending.{IsMadeUnder, depends_on-cases, depends_exists, started_named, dependents_started-unlimited}
use Rattle.ada_laws.proofs.within.Depending.{depends_trans-unlimited, maker_of_dependent-unlimited}
use Rattle.ada_laws.proofs.within.Depending.{created_positive}

-- by what a task is terminated: the newest event terminates it by itself, or together with all that
-- depend on a master, or it was terminated before
pub data IsEnd (event : Event) (before : List Event) (task : ℕ) : Type 0 where
  alone : gone_in event ≡ Some task → IsEnd event before task
  together : (m : Master) → quit_in event ≡ Some m → depends_on before task m ≡ true → IsEnd event before task
  earlier : is_terminated before task ≡ true → IsEnd event before task

pub is_terminated-cases : (event : Event) (before : List Event) (task : ℕ) → is_terminated (event ∷ before) task ≡ true → IsEnd event before task
unfolding is_terminated
is_terminated-cases event before task ended =
    elim (or_cases (is_number task (gone_in event) || option_map_or (depends_on before task) (quit_in event) false) (is_terminated before task) ended) [
      | inl now ↦
          elim (or_cases (is_number task (gone_in event)) (option_map_or (depends_on before task) (quit_in event) false) now) [
            | inl gone ↦ alone (is_number-some task (gone_in event) gone)
            | inr quit ↦
                let (m, says, depends) = option_map_or-true (depends_on before task) (quit_in event) quit in
                together m says depends
          ]
      | inr was ↦ earlier was
    ]

-- a creation terminates nobody
creation_ends_none : (event : Event) (c : Creation) → creation_in event ≡ Some c → (gone_in event ≡ None) × (quit_in event ≡ None)
unfolding creation_in gone_in quit_in
creation_ends_none (Created by under master families) c says = (refl, refl)
creation_ends_none _ c says = absurd (none-some c says)

terminated_before : (event : Event) (before : List Event) (task : ℕ) (c : Creation) → creation_in event ≡ Some c → IsEnd event before task
    → is_terminated before task ≡ true
terminated_before event before task c says (alone gone) = absurd (none-some task (sym (creation_ends_none event c says).0 ∙ gone))
terminated_before event before task c says (together m quit depends) = absurd (none-some m (sym (creation_ends_none event c says).1 ∙ quit))
terminated_before event before task c says (earlier was) = was

-- a task goes only by the row on tasks that terminate by themselves
pub row_going : (journal : List Event) (event : Event) (task : ℕ) → IsRow journal event → gone_in event ≡ Some task → is_to_go journal task ≡ true
unfolding gone_in
row_going journal event task (goes u below go) says = subst (λ (n : ℕ). is_to_go journal n ≡ true) (same_Some u task says) go
row_going journal event task _ says = absurd (none-some task says)

pub gone_in-asked : (journal : List Event) (r : Request) → gone_in (asked_event journal r) ≡ None
unfolding gone_in asked_event
gone_in-asked journal (request.Open by) = refl
gone_in-asked journal _ = refl

pub going-unlimited : (event : Event) (before : List Event) (task : ℕ) → MayFollow refusal_but_limits before event → gone_in event ≡ Some task
    → is_to_go before task ≡ true
going-unlimited event before task (inl forces) says = row_going before event task (forced-row before event forces) says
going-unlimited event before task (inr asked) says =
    absurd (none-some task (sym (gone_in-asked before asked.request) ∙ (ap gone_in (sym asked.becomes) ∙ says)))

pub going : (event : Event) (before : List Event) (task : ℕ) → MayFollow refusal before event → gone_in event ≡ Some task → is_to_go before task ≡ true
going event before task follows says = going-unlimited event before task (may_follow_unlimited before event follows) says

pub abandoned_parts : (journal : List Event) (task : ℕ) → is_abandoned journal task ≡ true → (c : Creation) × (creation_of journal task ≡ Some c)
    × (has_start journal task ≡ false)
unfolding is_abandoned
abandoned_parts journal task abandoned =
    let both = and_parts (option_map_or (λ (c : Creation). is_complete journal c.under || is_terminated journal c.by) (creation_of journal task) false)
    (not (has_start journal task)) abandoned in
    let (c, says, complete) = option_map_or-true (λ (c : Creation). is_complete journal c.under || is_terminated journal c.by)
    (creation_of journal task) both.0 in
    (c, says, not-true (has_start journal task) both.1)

-- nobody depends on the body of an abandoned task
abandoned_alone-unlimited : (journal : List Event) (u : ℕ) (t : TaskNo) → IsLawfulUnlimited journal → is_abandoned journal t.0 ≡ true
    → depends_on journal u (Body t) ≡ true → ⊥
abandoned_alone-unlimited journal u t lawful abandoned depends =
    let (c, says, never) = abandoned_parts journal t.0 abandoned in
    let positive : 0 < t.0 = created_positive journal t.0 c says in
    elim (started_named journal t.0 (dependents_started-unlimited journal u t lawful depends)) [
      | inl main ↦ absurd (omega arith)
      | inr named ↦ true≢false (sym named ∙ never)
    ]

pub all_terminated_at : (journal : List Event) (m : Master) (u : ℕ) → all_terminated journal m ≡ true → depends_on journal u m ≡ true
    → is_terminated journal u ≡ true
unfolding all_terminated
all_terminated_at journal m u all depends =
    let here = all_below-holds (λ u. not (depends_on journal u m) || is_terminated journal u) (task_count journal) u all (depends_exists journal u m depends) in
    elim (or_cases (not (depends_on journal u m)) (is_terminated journal u) here) [
      | inl stands_alone ↦ absurd (true≢false (sym depends ∙ not-true (depends_on journal u m) stands_alone))
      | inr terminated ↦ terminated
    ]

-- a dependent of a task that goes is terminated
gone_dependent-unlimited : (journal : List Event) (u : ℕ) (t : TaskNo) → IsLawfulUnlimited journal → is_to_go journal t.0 ≡ true
    → depends_on journal u (Body t) ≡ true → is_terminated journal u ≡ true
unfolding is_to_go
gone_dependent-unlimited journal u t lawful go depends =
    let ways = (and_parts (not (is_terminated journal t.0)) (is_completed journal t.0 && all_terminated journal (Body t) || is_abandoned journal t.0) go).1 in
    elim (or_cases (is_completed journal t.0 && all_terminated journal (Body t)) (is_abandoned journal t.0) ways) [
      | inl both ↦ all_terminated_at journal (Body t) u (and_parts (is_completed journal t.0) (all_terminated journal (Body t)) both).1 depends
      | inr abandoned ↦ absurd (abandoned_alone-unlimited journal u t lawful abandoned depends)
    ]

-- where a task is terminated no further task is made that depends on its body
no_late_dependent-unlimited : (event : Event) (before : List Event) (u : ℕ) (t : TaskNo) → IsLawfulUnlimited (event ∷ before)
    → is_terminated before t.0 ≡ true
    → ((v : ℕ) → depends_on before v (Body t) ≡ true → is_terminated before v ≡ true) → IsMadeUnder event before u (Body t) → ⊥
no_late_dependent-unlimited event before u t lawful ended dependents made =
    let maker = maker_of_dependent-unlimited event before u t lawful made in
    let by_ended : is_terminated before made.creation.by ≡ true =
    elim maker.1 [
      | inl same ↦ subst (λ (n : ℕ). is_terminated before n ≡ true) (sym same) ended
      | inr depends ↦ dependents made.creation.by depends
    ] in
    true≢false (sym (has_ended-terminated before made.creation.by by_ended) ∙ running_live before made.creation.by maker.0)

-- the dependents of a task, after it was terminated
end_dependents-unlimited : (event : Event) (before : List Event) (u : ℕ) (t : TaskNo) → IsLawfulUnlimited (event ∷ before)
    → ((v : ℕ) → is_terminated before t.0 ≡ true → depends_on before v (Body t) ≡ true → is_terminated before v ≡ true) → IsEnd event before t.0
    → depends_on before u (Body t) ≡ true → is_terminated (event ∷ before) u ≡ true
end_dependents-unlimited event before u t lawful dependents (alone gone) depends =
    is_terminated-more event before u (gone_dependent-unlimited before u t lawful.0 (going-unlimited event before t.0 lawful.1 gone) depends)
end_dependents-unlimited event before u t lawful dependents (together m says on_m) depends =
    is_terminated-quit event before u m says (depends_trans-unlimited before (record { 0 = u }) t m lawful.0 depends on_m)
end_dependents-unlimited event before u t lawful dependents (earlier was) depends =
    is_terminated-more event before u (dependents u was depends)

pub a_terminated_body_has_no_live_dependent-unlimited : (journal : List Event) → IsLawfulUnlimited journal → ATerminatedBodyHasNoLiveDependent journal
unfolding is_terminated
a_terminated_body_has_no_live_dependent-unlimited [] lawful t u ended depends = absurd (false≢true ended)
a_terminated_body_has_no_live_dependent-unlimited (event ∷ before) lawful t u ended depends =
    let way = is_terminated-cases event before t.0 ended in
    elim (depends_on-cases event before u (Body t) depends) [
      | inl made ↦
          let was = terminated_before event before t.0 made.creation made.says way in
          absurd (no_late_dependent-unlimited event before u t lawful was
          (λ v on. a_terminated_body_has_no_live_dependent-unlimited before lawful.0 t v was on) made)
      | inr older ↦
          end_dependents-unlimited event before u t lawful
          (λ v was on. a_terminated_body_has_no_live_dependent-unlimited before lawful.0 t v was on) way older
    ]

pub a_terminated_body_has_no_live_dependent : OfLawful ATerminatedBodyHasNoLiveDependent
a_terminated_body_has_no_live_dependent journal lawful = a_terminated_body_has_no_live_dependent-unlimited journal (lawful_unlimited journal lawful)
