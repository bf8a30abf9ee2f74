-- Who opened, made, started or was suspended ran, so its own activation was started.
use Rattle.std.proofs.Common.{◌≡◌, ℕ, zero, suc, ◌<◌, Bool, true, false, not, Some, None, List, [], ◌∷◌, sym, ap, ◌∙◌, subst, arith, ◌⊎◌, inl, inr, eqb}
use Rattle.std.proofs.Common.{if◌then◌else◌}
use Rattle.std.specs.Option.{option_len}
use Rattle.std.specs.List.{Contains, list_any}
use Rattle.std.proofs.lemmas.Bool.{and_parts, or_parts, or_right, not-false, eqb-true, ne_eqb}
use Rattle.std.proofs.lemmas.Option.{none-some, same_Some}
use Rattle.ada_events.specs.declared.event.Event.{Event}
use Rattle.ada_events.specs.declared.request.Request.{Request}
use Rattle.ada_events.specs.declared.request.Request.TheVariants as request
use Rattle.ada_events.specs.declared.names.TaskNo.{TaskNo}
use Rattle.ada_events.specs.declared.names.Master.TheVariants.{Body, Block}
use Rattle.ada_events.specs.Search.{is_some_and, event_at}
use Rattle.ada_events.specs.Says.{Creation, Start, creation_in, opening_in, start_in, started_in, held_in}
use Rattle.ada_events.specs.Asks.{asked_event}
use Rattle.ada_events.specs.Tasks.{task_count, creation_of}
use Rattle.ada_events.specs.Phases.{lists_task, has_start, is_running}
use Rattle.ada_events.specs.Nests.{frame}
use Rattle.ada_events.specs.Refusals.{refusal, may_activate, has_double_task, is_not_your_task}
use Rattle.ada_events.specs.Forced.{task_no}
use Rattle.ada_events.specs.Lawful.{IsLawful, MayFollow}
use Rattle.ada_laws.proofs.searching.Searching.{option_map_or-true, option_or-some, if_some, event_at-cases, event_at-older}
use Rattle.ada_laws.proofs.searching.Saying.{held_in-asked, held_in-start}
use Rattle.ada_laws.proofs.asking.Accepting.{is_accepted, asker_runs, running_started}
use Rattle.ada_laws.proofs.forced.Stepping.{forced-step}
use Rattle.ada_laws.proofs.within.Framing.{IsBlockOf, frame_is}
use Rattle.ada_laws.proofs.within.Reaching.{opening_asked, creation_asked}
use Rattle.ada_laws.proofs.within.Depending.{started_named}

-- the task is the main program, or a start names it
abbrev pub IsNamed : List Event → ℕ → Type 0
IsNamed journal task = (task ≡ 0) ⊎ (has_start journal task ≡ true)

named_later : (event : Event) (before : List Event) (task : ℕ) → IsNamed before task → IsNamed (event ∷ before) task
unfolding has_start
named_later event before task (inl main) = inl main
named_later event before task (inr named) = inr (or_right (lists_task task (started_in event)) (has_start before task) named)

running_named : (event : Event) (before : List Event) (task : ℕ) → is_running before task ≡ true → IsNamed (event ∷ before) task
running_named event before task runs = named_later event before task (started_named before task (running_started before task runs))

-- who opened a block
pub opener_named : (journal : List Event) (task p : ℕ) → IsLawful journal → IsBlockOf journal task p → IsNamed journal task
unfolding event_at
opener_named [] task p lawful block = absurd (none-some block.event block.stands)
opener_named (event ∷ before) task p lawful block =
    elim (event_at-cases event before p block.event block.stands) [
      | inl newest ↦
          let asked = opening_asked event before block.opening lawful.1 (ap opening_in newest.1 ∙ block.says) in
          subst (λ (n : ℕ). IsNamed (event ∷ before) n) block.by (running_named event before block.opening.by asked.runs)
      | inr older ↦
          named_later event before task
          (opener_named before task p lawful.0 (record { event = block.event; opening = block.opening; stands = older; says = block.says; by = block.by }))
    ]

-- who is suspended
held_runs : (event : Event) (before : List Event) (task : ℕ) → MayFollow refusal before event → held_in event ≡ Some task → is_running before task ≡ true
held_runs event before task (inl forces) holds = absurd (none-some task (sym (forced-step before event forces).holds_none ∙ holds))
held_runs event before task (inr asked) holds =
    asker_runs before asked.request task asked.accepted (held_in-asked before asked.request task (ap held_in (sym asked.becomes) ∙ holds))

pub held_named : (journal : List Event) (task p : ℕ) (e : Event) → IsLawful journal → event_at journal p ≡ Some e → held_in e ≡ Some task → IsNamed journal task
unfolding event_at
held_named [] task p e lawful at holds = absurd (none-some e at)
held_named (event ∷ before) task p e lawful at holds =
    elim (event_at-cases event before p e at) [
      | inl newest ↦ running_named event before task (held_runs event before task lawful.1 (ap held_in newest.1 ∙ holds))
      | inr older ↦ named_later event before task (held_named before task p e lawful.0 older holds)
    ]

-- what a task was made within is its maker's body, or a block that the maker opened; and the maker was started
pub record IsMadeWithin (journal : List Event) (c : Creation) : Type 0 where
  pub named : IsNamed journal c.by
  pub within : (c.under ≡ Body (task_no c.by)) ⊎ ((p : ℕ) × IsBlockOf journal c.by p × (c.under ≡ Block p))

block_later : (event : Event) (before : List Event) (task p : ℕ) → IsBlockOf before task p → IsBlockOf (event ∷ before) task p
block_later event before task p block =
    record { event = block.event; opening = block.opening; stands = event_at-older event before p block.event block.stands; says = block.says; by = block.by }

within_later : (event : Event) (before : List Event) (c : Creation)
    → (c.under ≡ Body (task_no c.by)) ⊎ ((p : ℕ) × IsBlockOf before c.by p × (c.under ≡ Block p))
    → (c.under ≡ Body (task_no c.by)) ⊎ ((p : ℕ) × IsBlockOf (event ∷ before) c.by p × (c.under ≡ Block p))
within_later event before c (inl body) = inl body
within_later event before c (inr (p, block, under)) = inr (p, block_later event before c.by p block, under)

framed : (before : List Event) (c : Creation) → c.under ≡ frame before c.by
    → (c.under ≡ Body (task_no c.by)) ⊎ ((p : ℕ) × IsBlockOf before c.by p × (c.under ≡ Block p))
framed before c within =
    elim (frame_is before c.by) [
      | inl body ↦ inl (within ∙ body)
      | inr block ↦ inr (block.0, block.1, within ∙ block.2)
    ]

pub made_within : (journal : List Event) (task : ℕ) (c : Creation) → IsLawful journal → creation_of journal task ≡ Some c → IsMadeWithin journal c
unfolding creation_of
made_within [] task c lawful made = absurd (none-some c made)
made_within (event ∷ before) task c lawful made =
    elim (option_or-some (if eqb task (task_count before) then creation_in event else None) (creation_of before task) c made) [
      | inl new ↦
          let asked = (creation_asked event before c lawful.1 (if_some (eqb task (task_count before)) (creation_in event) c new).1).asked in
          record { named = running_named event before c.by asked.runs; within = within_later event before c (framed before c asked.within) }
      | inr old ↦
          let was = made_within before task c lawful.0 old in
          record { named = named_later event before c.by was.named; within = within_later event before c was.within }
    ]

-- the start that names a task is by its maker
pub any_none : {A : Type 0} (test : A → Bool) (xs : List A) (x : A) → list_any test xs ≡ false → Contains xs x → test x ≡ false
any_none test [] x none (k, below, same) = absurd (omega arith)
any_none test (y ∷ xs) x none (zero, below, same) = ap test (sym same) ∙ (or_parts (test y) (list_any test xs) none).0
any_none test (y ∷ xs) x none (suc k, below, same) = any_none test xs x (or_parts (test y) (list_any test xs) none).1 (k, omega arith, same)

pub record IsMadeBy (journal : List Event) (task maker : ℕ) : Type 0 where
  pub creation : Creation
  pub made : creation_of journal task ≡ Some creation
  pub by : creation.by ≡ maker

asked_start : (journal : List Event) (r : Request) (s : Start) (t : TaskNo) → refusal journal r ≡ None → start_in (asked_event journal r) ≡ Some s
    → Contains s.tasks t → IsMadeBy journal t.0 s.by
unfolding asked_event start_in is_not_your_task may_activate
asked_start journal (request.Activate by tasks) s t accepted says named =
    let same = same_Some _ s says in
    let yours =
    (or_parts (list_any (λ (u : TaskNo). not (may_activate journal by.0 u.0)) tasks) (has_double_task tasks)
    (is_accepted journal (request.Activate by tasks) accepted).your_tasks).0
    in
    let here = any_none (λ (u : TaskNo). not (may_activate journal by.0 u.0)) tasks t yours (subst (λ (x : Start). Contains x.tasks t) (sym same) named) in
    let both =
    and_parts (is_some_and (creation_of journal t.0) (λ (c : Creation). eqb c.by by.0)) (not (has_start journal t.0))
    (not-false (may_activate journal by.0 t.0) here) in
    let (c, made, is) = option_map_or-true (λ (c : Creation). eqb c.by by.0) (creation_of journal t.0) both.0 in
    subst (λ (x : Start). IsMadeBy journal t.0 x.by) same (record { creation = c; made = made; by = eqb-true c.by by.0 is })
asked_start journal _ s t accepted says named = absurd (none-some s says)

start_asked : (event : Event) (before : List Event) (s : Start) (t : TaskNo) → MayFollow refusal before event → start_in event ≡ Some s → Contains s.tasks t
    → IsMadeBy before t.0 s.by
start_asked event before s t (inl forces) says named =
    absurd (none-some s.by (sym (forced-step before event forces).holds_none ∙ held_in-start event s says))
start_asked event before s t (inr asked) says named =
    asked_start before asked.request s t asked.accepted (ap start_in (sym asked.becomes) ∙ says) named

-- a task that was made exists
pub created_exists : (journal : List Event) (task : ℕ) (c : Creation) → creation_of journal task ≡ Some c → task < task_count journal
unfolding creation_of task_count
created_exists [] task c made = absurd (none-some c made)
created_exists (event ∷ before) task c made =
    elim (option_or-some (if eqb task (task_count before) then creation_in event else None) (creation_of before task) c made) [
      | inl new ↦
          let found = if_some (eqb task (task_count before)) (creation_in event) c new in
          let one : option_len (creation_in event) ≡ 1 = ap option_len found.1 in
          let same : task ≡ task_count before = eqb-true task (task_count before) found.0 in
          omega arith
      | inr old ↦
          let below : task < task_count before = created_exists before task c old in
          omega arith
    ]

pub still_made : (event : Event) (before : List Event) (task : ℕ) (c : Creation) → creation_of before task ≡ Some c → creation_of (event ∷ before) task ≡ Some c
unfolding creation_of
still_made event before task c made =
    let below : task < task_count before = created_exists before task c made in
    rw (ne_eqb task (task_count before) (λ same. omega arith)) made

made_later : (event : Event) (before : List Event) (task maker : ℕ) → IsMadeBy before task maker → IsMadeBy (event ∷ before) task maker
made_later event before task maker by = record {
  creation = by.creation;
  made = still_made event before task by.creation by.made;
  by = by.by;
}

pub starters_made : (journal : List Event) (p : ℕ) (e : Event) (s : Start) (t : TaskNo) → IsLawful journal → event_at journal p ≡ Some e → start_in e ≡ Some s
    → Contains s.tasks t → IsMadeBy journal t.0 s.by
unfolding event_at
starters_made [] p e s t lawful at says named = absurd (none-some e at)
starters_made (event ∷ before) p e s t lawful at says named =
    made_later event before t.0 s.by
    (elim (event_at-cases event before p e at) [
      | inl newest ↦ start_asked event before s t lawful.1 (ap start_in newest.1 ∙ says) named
      | inr older ↦ starters_made before p e s t lawful.0 older says named
    ])
