-- Dependents: who depends on a master, and by what.
use Rattle.std.proofs.Common.{◌≡◌, ℕ, ◌<◌, true, false, not, ◌&&◌, cond, Option, Some, None, List, [], ◌∷◌, sym, refl, ap, ◌∙◌, subst, arith, ◌⊎◌, inl, inr}
use Rattle.std.proofs.Common.{eqb}
use Rattle.std.specs.Option.{option_map_or, option_len}
use Rattle.std.specs.List.{list_any}
use Rattle.std.proofs.lemmas.Bool.{or_cases, or_left, or_right, and_parts, and_from, cases_eq, eq-eqb, eqb-true, false≢true}
use Rattle.std.proofs.lemmas.Option.{none-some}
use Rattle.ada_events.specs.declared.event.Event.{Event}
use Rattle.ada_events.specs.declared.names.TaskNo.{TaskNo}
use Rattle.ada_events.specs.declared.names.Master.{Master}
use Rattle.ada_events.specs.declared.names.Master.TheVariants.{Body, Block}
use Rattle.ada_events.specs.Search.{event_at}
use Rattle.ada_events.specs.Says.{Creation, creation_in, opening_in, started_in}
use Rattle.ada_events.specs.Tasks.{task_count, creation_of}
use Rattle.ada_events.specs.Masters.{same_master, parent_in, reaches, depends_on}
use Rattle.ada_events.specs.Phases.{lists_task, has_start, has_ended, is_started, is_running}
use Rattle.ada_events.specs.Nests.{frame}
use Rattle.ada_events.specs.Lawful.{IsLawful}
use Rattle.ada_laws.specs.Unlimited.{IsLawfulUnlimited}
use Rattle.ada_laws.proofs.asking.Limitless.{lawful_unlimited}
use Rattle.ada_laws.proofs.searching.Searching.{option_map_or-true, option_or-some, if_some, event_at-cases}
use Rattle.ada_laws.proofs.asking.Accepting.{running_started}
use Rattle.ada_laws.proofs.within.Framing.{IsBlockOf, frame_is}
use Rattle.ada_laws.proofs.within.Reaching.{same_master-true, reaches_up, parent_in-known, parent_in-other, parent_in-created, creation_asked-unlimited}
use Rattle.ada_laws.proofs.within.Reaching.{opening_asked-unlimited, reaches_known-unlimited, reaches_trans-unlimited}
use Rattle.ada_laws.proofs.within.Reaching.{parent_in-opened, parent_in-uncreated, frame_known}

-- a task depends on a master by its creation, or did before the newest event
pub record IsMadeUnder (event : Event) (before : List Event) (task : ℕ) (master : Master) : Type 0 where
  pub creation : Creation
  pub says : creation_in event ≡ Some creation
  pub newest : task ≡ task_count before
  pub reached : reaches before creation.master master ≡ true

pub depends_on-cases : (event : Event) (before : List Event) (task : ℕ) (master : Master) → depends_on (event ∷ before) task master ≡ true
    → IsMadeUnder event before task master ⊎ (depends_on before task master ≡ true)
unfolding depends_on
depends_on-cases event before task master depends =
    elim (or_cases (option_map_or (λ (c : Creation). eqb task (task_count before) && reaches before c.master master) (creation_in event) false)
    (depends_on before task master) depends) [
      | inl made ↦
          let (c, says, both) = option_map_or-true (λ (c : Creation). eqb task (task_count before) && reaches before c.master master)
          (creation_in event) made in
          let parts = and_parts (eqb task (task_count before)) (reaches before c.master master) both in
          inl (record { creation = c; says = says; newest = eqb-true task (task_count before) parts.0; reached = parts.1 })
      | inr older ↦ inr older
    ]

pub depends_on-made : (event : Event) (before : List Event) (task : ℕ) (master : Master) (c : Creation) → creation_in event ≡ Some c → task ≡ task_count before
    → reaches before c.master master ≡ true → depends_on (event ∷ before) task master ≡ true
unfolding depends_on
depends_on-made event before task master c says newest reached =
    or_left (option_map_or (λ (c : Creation). eqb task (task_count before) && reaches before c.master master) (creation_in event) false)
    (depends_on before task master)
    (rw says (and_from (eqb task (task_count before)) (reaches before c.master master) (eq-eqb task (task_count before) newest) reached))

pub depends_on-later : (event : Event) (before : List Event) (task : ℕ) (master : Master) → depends_on before task master ≡ true
    → depends_on (event ∷ before) task master ≡ true
unfolding depends_on
depends_on-later event before task master depends =
    or_right (option_map_or (λ (c : Creation). eqb task (task_count before) && reaches before c.master master) (creation_in event) false)
    (depends_on before task master) depends

-- a dependent exists
pub depends_exists : (journal : List Event) (task : ℕ) (master : Master) → depends_on journal task master ≡ true → task < task_count journal
unfolding depends_on task_count
depends_exists [] task master depends = absurd (false≢true depends)
depends_exists (event ∷ before) task master depends =
    elim (depends_on-cases event before task master depends) [
      | inl made ↦
          let one : option_len (creation_in event) ≡ 1 = ap option_len made.says in
          let newest : task ≡ task_count before = made.newest in
          omega arith
      | inr older ↦
          let below : task < task_count before = depends_exists before task master older in
          omega arith
    ]

-- what a task depends on is reached from its body
pub depends_reaches : (journal : List Event) (t : TaskNo) (master : Master) → depends_on journal t.0 master ≡ true → reaches journal (Body t) master ≡ true
unfolding reaches
depends_reaches [] t master depends = absurd (false≢true (unfold depends_on in depends))
depends_reaches (event ∷ before) t master depends =
    elim (depends_on-cases event before t.0 master depends) [
      | inl made ↦
          or_right (same_master (Body t) master) (reaches before (parent_in before event (Body t)) master)
          (rw (parent_in-created event before t made.creation made.says made.newest) made.reached)
      | inr older ↦
          reaches_up event before (Body t) master (depends_exists before t.0 master older) (depends_reaches before t master older)
    ]

-- what is reached from the parent of a task's body is reached from the body before, or the newest event
-- made the task
body_step : (event : Event) (before : List Event) (t : TaskNo) (master : Master) (o : Option Creation) → creation_in event ≡ o → t.0 ≡ task_count before
    → reaches before (parent_in before event (Body t)) master ≡ true → (reaches before (Body t) master ≡ true) ⊎ (depends_on (event ∷ before) t.0 master ≡ true)
body_step event before t master None says newest reached = inl (rw (parent_in-uncreated event before t says) at reached)
body_step event before t master (Some c) says newest reached =
    inr (depends_on-made event before t.0 master c says newest (rw (parent_in-created event before t c says newest) at reached))

body_parent_reaches : (event : Event) (before : List Event) (t : TaskNo) (master : Master) → reaches before (parent_in before event (Body t)) master ≡ true
    → (reaches before (Body t) master ≡ true) ⊎ (depends_on (event ∷ before) t.0 master ≡ true)
body_parent_reaches event before t master reached =
    elim (cases_eq t.0 (task_count before)) [
      | inl newest ↦ body_step event before t master (creation_in event) refl newest reached
      | inr other ↦ inl (rw (parent_in-other event before t other) at reached)
    ]

-- what is reached from a task's body is that body, or the task depends on it
pub reaches_from_body : (journal : List Event) (t : TaskNo) (master : Master) → reaches journal (Body t) master ≡ true → (Body t ≡ master)
    ⊎ (depends_on journal t.0 master ≡ true)
unfolding reaches
reaches_from_body [] t master reached = inl (same_master-true (Body t) master reached)
reaches_from_body (event ∷ before) t master reached =
    elim (or_cases (same_master (Body t) master) (reaches before (parent_in before event (Body t)) master) reached) [
      | inl same ↦ inl (same_master-true (Body t) master same)
      | inr further ↦
          elim (body_parent_reaches event before t master further) [
            | inl there ↦
                elim (reaches_from_body before t master there) [
                  | inl same ↦ inl same
                  | inr depends ↦ inr (depends_on-later event before t.0 master depends)
                ]
            | inr depends ↦ inr depends
          ]
    ]

-- a dependent of a task's body was made after the task
pub depends_after-unlimited : (journal : List Event) (task : ℕ) (t : TaskNo) → IsLawfulUnlimited journal → depends_on journal task (Body t) ≡ true
    → t.0 < task
unfolding depends_on
depends_after-unlimited [] task t lawful depends = absurd (false≢true depends)
depends_after-unlimited (event ∷ before) task t lawful depends =
    elim (depends_on-cases event before task (Body t) depends) [
      | inl made ↦
          let by = creation_asked-unlimited event before made.creation lawful.1 made.says in
          let known = reaches_known-unlimited before lawful.0 (frame before made.creation.by) made.creation.master
          (frame_known before made.creation.by by.asked.exists)
          by.reached in
          let below : t.0 < task_count before = reaches_known-unlimited before lawful.0 made.creation.master (Body t) known made.reached in
          let newest : task ≡ task_count before = made.newest in
          omega arith
      | inr older ↦ depends_after-unlimited before task t lawful.0 older
    ]

pub depends_after : (journal : List Event) (task : ℕ) (t : TaskNo) → IsLawful journal → depends_on journal task (Body t) ≡ true → t.0 < task
depends_after journal task t lawful depends = depends_after-unlimited journal task t (lawful_unlimited journal lawful) depends

-- who depends on a task's body depends on what the task depends on
pub depends_trans-unlimited : (journal : List Event) (u t : TaskNo) (master : Master) → IsLawfulUnlimited journal
    → depends_on journal u.0 (Body t) ≡ true → depends_on journal t.0 master ≡ true → depends_on journal u.0 master ≡ true
depends_trans-unlimited journal u t master lawful first second =
    let all = reaches_trans-unlimited journal lawful (Body u) (Body t) master (depends_exists journal u.0 (Body t) first)
    (depends_reaches journal u (Body t) first)
    (depends_reaches journal t master second) in
    elim (reaches_from_body journal u master all) [
      | inl same ↦
          let after : t.0 < u.0 = depends_after-unlimited journal u.0 t lawful first in
          let before : u.0 < t.0 = depends_after-unlimited journal t.0 u lawful
          (subst (λ (m : Master). depends_on journal t.0 m ≡ true) (sym same) second) in
          absurd (omega arith)
      | inr depends ↦ depends
    ]

pub depends_trans : (journal : List Event) (u t : TaskNo) (master : Master) → IsLawful journal → depends_on journal u.0 (Body t) ≡ true
    → depends_on journal t.0 master ≡ true → depends_on journal u.0 master ≡ true
depends_trans journal u t master lawful first second = depends_trans-unlimited journal u t master (lawful_unlimited journal lawful) first second

-- whose body is reached from the frame of a task: the task's own, or one on which it depends
frame_reaches_from : (journal : List Event) (task t : TaskNo)
    → ((p : ℕ) → IsBlockOf journal task.0 p → reaches journal (Block p) (Body t) ≡ true → (task ≡ t) ⊎ (depends_on journal task.0 (Body t) ≡ true))
    → reaches journal (frame journal task.0) (Body t) ≡ true → (task ≡ t) ⊎ (depends_on journal task.0 (Body t) ≡ true)
frame_reaches_from journal task t by_block reached =
    elim (frame_is journal task.0) [
      | inl body ↦
          elim (reaches_from_body journal task (Body t) (rw body at reached)) [
            | inl same ↦ inl (cc same)
            | inr depends ↦ inr depends
          ]
      | inr block ↦ by_block block.0 block.1 (rw block.2 at reached)
    ]

still : (event : Event) (before : List Event) (task t : TaskNo) → (task ≡ t) ⊎ (depends_on before task.0 (Body t) ≡ true) → (task ≡ t)
    ⊎ (depends_on (event ∷ before) task.0 (Body t) ≡ true)
still event before task t (inl same) = inl same
still event before task t (inr depends) = inr (depends_on-later event before task.0 (Body t) depends)

pub block_reaches-unlimited : (journal : List Event) (task t : TaskNo) (p : ℕ) → IsLawfulUnlimited journal → IsBlockOf journal task.0 p
    → reaches journal (Block p) (Body t) ≡ true → (task ≡ t) ⊎ (depends_on journal task.0 (Body t) ≡ true)
unfolding reaches event_at
block_reaches-unlimited [] task t p lawful block reached = absurd (none-some block.event block.stands)
block_reaches-unlimited (event ∷ before) task t p lawful block reached =
    elim (or_cases (same_master (Block p) (Body t)) (reaches before (parent_in before event (Block p)) (Body t)) reached) [
      | inl same ↦ absurd (false≢true same)
      | inr further ↦
          elim (event_at-cases event before p block.event block.stands) [
            | inl newest ↦
                let says : opening_in event ≡ Some block.opening = ap opening_in newest.1 ∙ block.says in
                let asked = opening_asked-unlimited event before block.opening lawful.1 says in
                let under : parent_in before event (Block p) ≡ frame before task.0 =
                parent_in-opened event before p block.opening says newest.0 ∙ (asked.within ∙ ap (frame before) block.by) in
                still event before task t
                (frame_reaches_from before task t (λ q inner reached. block_reaches-unlimited before task t q lawful.0 inner reached)
                (rw under at further))
            | inr older ↦
                let same : parent_in before event (Block p) ≡ Block p =
                parent_in-known event before (Block p) (record { event = block.event; opening = block.opening; stands = older; says = block.says }) in
                still event before task t
                (block_reaches-unlimited before task t p lawful.0
                (record { event = block.event; opening = block.opening; stands = older; says = block.says; by = block.by })
                (rw same at further))
          ]
    ]

pub frame_reaches-unlimited : (journal : List Event) (task t : TaskNo) → IsLawfulUnlimited journal
    → reaches journal (frame journal task.0) (Body t) ≡ true → (task ≡ t) ⊎ (depends_on journal task.0 (Body t) ≡ true)
frame_reaches-unlimited journal task t lawful reached =
    frame_reaches_from journal task t (λ p block further. block_reaches-unlimited journal task t p lawful block further) reached

-- whoever makes a task that depends on a task's body is that task, or depends on its body
pub maker_of_dependent-unlimited : (event : Event) (before : List Event) (u : ℕ) (t : TaskNo) → IsLawfulUnlimited (event ∷ before)
    → (made : IsMadeUnder event before u (Body t))
    → (is_running before made.creation.by ≡ true) × ((made.creation.by ≡ t.0) ⊎ (depends_on before made.creation.by (Body t) ≡ true))
maker_of_dependent-unlimited event before u t lawful made =
    let c = made.creation in
    let by = creation_asked-unlimited event before c lawful.1 made.says in
    let reached = reaches_trans-unlimited before lawful.0 (frame before c.by) c.master (Body t)
    (frame_known before c.by by.asked.exists) by.reached made.reached in (
      by.asked.runs,
      elim (frame_reaches-unlimited before (record { 0 = c.by }) t lawful.0 reached) [
        | inl same ↦ inl (ap (λ (x : TaskNo). x.0) same)
        | inr depends ↦ inr depends
      ],
    )

pub is_started-more : (event : Event) (before : List Event) (task : ℕ) → is_started before task ≡ true → is_started (event ∷ before) task ≡ true
unfolding is_started
is_started-more event before task was = or_right (lists_task task (started_in event) && not (has_ended before task)) (is_started before task) was

-- a task on whose body another depends was started
pub dependents_started-unlimited : (journal : List Event) (u : ℕ) (t : TaskNo) → IsLawfulUnlimited journal → depends_on journal u (Body t) ≡ true
    → is_started journal t.0 ≡ true
dependents_started-unlimited [] u t lawful depends = absurd (false≢true (unfold depends_on in depends))
dependents_started-unlimited (event ∷ before) u t lawful depends =
    is_started-more event before t.0
    (elim (depends_on-cases event before u (Body t) depends) [
      | inl made ↦
          let maker = maker_of_dependent-unlimited event before u t lawful made in
          elim maker.1 [
            | inl same ↦ subst (λ (n : ℕ). is_started before n ≡ true) same (running_started before made.creation.by maker.0)
            | inr older ↦ dependents_started-unlimited before made.creation.by t lawful.0 older
          ]
      | inr older ↦ dependents_started-unlimited before u t lawful.0 older
    ])

-- a task that was started is the main program, or a start names it
pub started_named : (journal : List Event) (task : ℕ) → is_started journal task ≡ true → (task ≡ 0) ⊎ (has_start journal task ≡ true)
unfolding is_started has_start
started_named [] task started = inl (eqb-true task 0 started)
started_named (event ∷ before) task started =
    let names = lists_task task (started_in event) in
    let named = list_any (λ (e : Event). lists_task task (started_in e)) before in
    elim (or_cases (names && not (has_ended before task)) (is_started before task) started) [
      | inl both ↦ inr (or_left names named (and_parts names (not (has_ended before task)) both).0)
      | inr older ↦
          elim (started_named before task older) [
            | inl main ↦ inl main
            | inr there ↦ inr (or_right names named there)
          ]
    ]

pub some_task : (journal : List Event) → 0 < task_count journal
unfolding task_count
some_task [] = omega arith
some_task (event ∷ before) =
    let some : 0 < task_count before = some_task before in
    omega arith

-- the main program has no creation
pub created_positive : (journal : List Event) (task : ℕ) (c : Creation) → creation_of journal task ≡ Some c → 0 < task
unfolding creation_of
created_positive [] task c says = absurd (none-some c says)
created_positive (event ∷ before) task c says =
    elim (option_or-some (cond (eqb task (task_count before)) (creation_in event) None) (creation_of before task) c says) [
      | inl newest ↦
          let same : task ≡ task_count before = eqb-true task (task_count before) (if_some (eqb task (task_count before)) (creation_in event) c newest).0 in
          let some : 0 < task_count before = some_task before in
          omega arith
      | inr older ↦ created_positive before task c older
    ]
