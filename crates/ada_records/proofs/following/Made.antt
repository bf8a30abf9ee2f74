-- Tables to which the task is added that an event makes.
use Rattle.std.proofs.Common.{◌≡◌, ℕ, zero, suc, ◌+◌, ◌<◌, ◌≤◌, false, Some, None, IsSome, List, [], ◌∷◌, ◌++◌, length, replicate, refl, sym, ap, ◌∙◌, subst}
use Rattle.std.proofs.Common.{arith, inl, inr, length-append}
use Rattle.std.specs.Option.{option_and_then, unwrap_or}
use Rattle.std.specs.List.{Contains}
use Rattle.std.proofs.Math.Seq.{get_or-append_seam}
use Rattle.std.proofs.lemmas.Bool.{cases_lt, leb-false, ltb-false}
use Rattle.std.proofs.lemmas.List.{get_or_append_left, get_or-append-add, length-replicate}
use Rattle.std.proofs.lemmas.List.Elements.{All-nil}
use Rattle.std.proofs.lemmas.Option.{none-some, same_Some}
use Rattle.ada_events.specs.declared.event.Event.{Event}
use Rattle.ada_events.specs.declared.event.Event.TheVariants as kind
use Rattle.ada_events.specs.declared.limits.TheConstants.{MOST_TASKS, MOST_SLOTS}
use Rattle.ada_events.specs.declared.names.Entry.{Entry}
use Rattle.ada_events.specs.declared.names.Family.{Family}
use Rattle.ada_events.specs.declared.names.Master.{Master}
use Rattle.ada_events.specs.declared.names.Member.{Member}
use Rattle.ada_events.specs.declared.names.TaskNo.{TaskNo}
use Rattle.ada_events.specs.declared.request.Request.{Request}
use Rattle.ada_events.specs.declared.request.Request.TheVariants as request
use Rattle.ada_events.specs.Asks.{asked_event}
use Rattle.ada_events.specs.Entries.{entries_in}
use Rattle.ada_events.specs.Limits.{slot_count, makes_too_many_tasks, makes_too_many_slots}
use Rattle.ada_events.specs.Refusals.{refusal}
use Rattle.ada_events.specs.Search.{event_at}
use Rattle.ada_events.specs.Says.{Creation, Opening, Call, creation_in, opening_in, call_in, meeting_in, released_in, completed_in, gone_in, quit_in, held_in}
use Rattle.ada_events.specs.Says.{started_in}
use Rattle.ada_events.specs.Slots.{number_within}
use Rattle.ada_events.specs.Tasks.{task_count}
use Rattle.ada_events.specs.Phases.{is_terminated}
use Rattle.ada_events.specs.Calls.{queue}
use Rattle.ada_events.specs.Nests.{nest}
use Rattle.ada_events.specs.Lawful.{IsLawful, MayFollow}
use Rattle.ada_laws.specs.Calls.{IsOpenCallAt}
use Rattle.ada_laws.proofs.asking.Accepting.{is_accepted}
use Rattle.ada_laws.proofs.within.Framing.{nest_block}
use Rattle.ada_laws.proofs.searching.Gathering.{Contains-first}
use Rattle.ada_laws.proofs.searching.Growing.{task_count-more}
use Rattle.ada_laws.proofs.queues.Queueing.{queue-found}
use Rattle.ada_laws.proofs.within.Reaching.{opening_asked}
use Rattle.ada_laws.proofs.searching.Searching.{event_at-cases}
use Rattle.ada_laws.proofs.forced.Stepping.{forced-step}
use Rattle.ada_records.specs.Records.{new_record}
use Rattle.ada_step_laws.proofs.changing.KeptQueues.{others_keep_queues}
use Rattle.ada_step_laws.proofs.changing.NestKinds.{IsMember, nest_member, others_keep_nests}
use Rattle.ada_step_laws.proofs.changing.NestKinds.IsMember.{of_block, of_rendezvous}
use Rattle.ada_records.proofs.recording.Unmade.{unmade}
use Rattle.ada_tables.specs.declared.phase.Phase.TheVariants.{Unstarted}
use Rattle.ada_events.specs.Holders.{holds}
use Rattle.ada_tables.specs.Dependents.{Facts, nobody, task_at, is_terminated as ends, made_facts, IsOpen}
use Rattle.ada_tables.specs.Queues.{QueuedCall, queue_at}
use Rattle.ada_tables.specs.Tables.{TableState, declared, slots_before, slot_at, HasEntry}
use Rattle.ada_tables.specs.Standing.{phase_of, facts_in, caller_of, AreQueued, StandFor}
use Rattle.ada_records.specs.Facing.{HoldFacts, HoldQueues}
use Rattle.ada_records.specs.TableEvents.{MakesTask}
use Rattle.ada_records.proofs.following.Agreeing.{ends_phase}
use Rattle.ada_records.proofs.recording.Creations.{older_creation, new_creation}
use Rattle.ada_records.proofs.following.Entries.{call_names_entry, declarer_exists, families_stay}
use Rattle.ada_step_laws.proofs.holding.LiveHolders.{masters_are_held}
use Rattle.ada_records.proofs.turning.NestTurns.{accepted_by_callee}
use Rattle.ada_records.proofs.phase_changes.OnePhase.{queued_later}
use Rattle.ada_records.proofs.following.SlotsApart.{before_later, before_first, slot_later, slot_within, slots_held, new_families, one_more_task, more_slots}
use Rattle.ada_records.proofs.following.Standing.{held_tables_stand}
use Rattle.ada_records.proofs.phase_changes.RecordedPhases.{records_tell_phases}
use Rattle.ada_records.proofs.phase_changes.TouchedTasks.{nobody_touched, nobody_terminated}

-- what has no element is empty
nothing_in : {A : Type 0} (xs : List A) → ((x : A) → Contains xs x → ⊥) → xs ≡ []
nothing_in [] none = refl
nothing_in (x ∷ rest) none = absurd (none x (Contains-first x rest))

opener_exists : (journal : List Event) (p : ℕ) (e : Event) (o : Opening) → IsLawful journal → event_at journal p ≡ Some e → opening_in e ≡ Some o
    → o.by < task_count journal
unfolding event_at
opener_exists [] p e o lawful at says = absurd (none-some e at)
opener_exists (event ∷ before) p e o lawful at says =
    elim (event_at-cases event before p e at) [
      | inl now ↦
          let asked = opening_asked event before o lawful.1 (ap opening_in now.1 ∙ says) in
          let exists = asked.exists in
          omega (arith, exists, task_count-more event before)
      | inr older ↦
          let exists = opener_exists before p e o lawful.0 older says in
          omega (arith, exists, task_count-more event before)
    ]

pub callee_exists : (journal : List Event) (p : ℕ) (c : Call) → IsLawful journal → IsOpenCallAt journal c p → c.callee < task_count journal
callee_exists journal p c lawful opened =
    let named = call_names_entry journal p opened.stands.event c lawful opened.stands.stands opened.stands.says in
    declarer_exists journal c.callee c.entry named.0 named.1

-- who isn't made is within nothing
nest_unmade : (journal : List Event) (u : ℕ) → IsLawful journal → task_count journal ≤ u → nest journal u ≡ []
nest_unmade journal u lawful beyond = nothing_in (nest journal u) (λ x has. by_member x has (nest_member journal u x lawful has))
  where
    by_member : (x : Member) → Contains (nest journal u) x → IsMember journal u x → ⊥
    by_member x has (of_block p unleft) =
        let block = nest_block journal u p has in
        let exists = opener_exists journal p block.event block.opening lawful block.stands block.says in
        omega (arith, exists, beyond, block.by)
    by_member x has (of_rendezvous call c opened met) =
        let one = accepted_by_callee journal u call c lawful (ap (option_and_then call_in) opened.stands.stands ∙ opened.stands.says) has in
        let exists = callee_exists journal call c lawful opened in
        omega (arith, exists, beyond, one)

-- nobody calls who isn't made
queue_unmade : (journal : List Event) (u : ℕ) (entry : Entry) → IsLawful journal → task_count journal ≤ u → queue journal u entry ≡ []
queue_unmade journal u entry lawful beyond =
    nothing_in (queue journal u entry) (λ p has.
    let queued = queue-found journal u entry p has in
    let exists = callee_exists journal p queued.call lawful queued.opened in
    omega (arith, exists, beyond, queued.of_task))

-- what an event that makes a task says
abbrev made : (event : Event) (master : Master) (families : List Family) → MakesTask event master families → Creation
made event master families makes = record { by = makes.by.0; under = makes.under; master = master; families = families }

pub makes_one : (event : Event) (master : Master) (families : List Family) (makes : MakesTask event master families)
    → creation_in event ≡ Some (made event master families makes)
unfolding creation_in
makes_one event master families makes = ap creation_in makes.is

record OnlyMakes (event : Event) : Type 0 where
  opens : opening_in event ≡ None
  meets : meeting_in event ≡ None
  frees : released_in event ≡ None
  calls : call_in event ≡ None
  completes : completed_in event ≡ None
  goes : gone_in event ≡ None
  quits : quit_in event ≡ None

makes_only : (event : Event) (by : TaskNo) (under master : Master) (families : List Family) → event ≡ kind.Created by under master families → OnlyMakes event
unfolding opening_in meeting_in released_in call_in completed_in gone_in quit_in
makes_only event by under master families is =
    record {
      opens = ap opening_in is;
      meets = ap meeting_in is;
      frees = ap released_in is;
      calls = ap call_in is;
      completes = ap completed_in is;
      goes = ap
          gone_in is;
      quits = ap quit_in is;
    }

same_phase : (event : Event) (before : List Event) (by : TaskNo) (under master : Master) (families : List Family) (task : ℕ)
    → event ≡ kind.Created by under master families → IsLawful (event ∷ before) → phase_of (event ∷ before) task ≡ phase_of before task
unfolding held_in started_in released_in completed_in gone_in quit_in
same_phase event before by under master families task is lawful =
    nobody_touched event (kind.Created by under master families) before is refl refl refl refl refl refl lawful task

asked_few : (journal : List Event) (r : Request) (c : Creation) → refusal journal r ≡ None → creation_in (asked_event journal r) ≡ Some c
    → (task_count journal < MOST_TASKS) × (slot_count journal + entries_in c.families ≤ MOST_SLOTS)
unfolding asked_event creation_in makes_too_many_tasks makes_too_many_slots
asked_few journal (request.Create by master families) c accepted says =
    let is = is_accepted journal (request.Create by master families) accepted in (
      leb-false MOST_TASKS (task_count journal) is.few_tasks,
      subst (λ (x : Creation). slot_count journal + entries_in x.families ≤ MOST_SLOTS) (same_Some _ c says)
          (ltb-false MOST_SLOTS (slot_count journal + entries_in families) is.few_slots),
    )
asked_few journal _ c accepted says = absurd (none-some c says)

-- there are few tasks and entries where one more task is made
pub made_few : (event : Event) (before : List Event) (c : Creation) → IsLawful (event ∷ before) → creation_in event ≡ Some c → (task_count before < MOST_TASKS)
    × (slot_count before + entries_in c.families ≤ MOST_SLOTS)
made_few event before c lawful says = by_row lawful.1
  where
    by_row : MayFollow refusal before event → (task_count before < MOST_TASKS) × (slot_count before + entries_in c.families ≤ MOST_SLOTS)
    by_row (inl forces) = absurd (none-some c (sym (forced-step before event forces).makes_none ∙ says))
    by_row (inr asked) = asked_few before asked.request c asked.accepted (ap creation_in (sym asked.becomes) ∙ says)

-- slots of the tasks before stay, and those of the new one come behind
slot_stays : (tasks : List Facts) (x : Facts) (task : ℕ) (e : Entry) → task < length tasks → slot_at (tasks ++ x ∷ []) task e ≡ slot_at tasks task e
slot_stays [] x task e below = absurd (omega (arith, below))
slot_stays (y ∷ rest) x zero e below =
    ap (λ (n : ℕ). n + unwrap_or (number_within y.families e) 0) (before_first (y ∷ (rest ++ x ∷ [])) ∙ sym (before_first (y ∷ rest)))
slot_stays (y ∷ rest) x (suc task) e below =
    slot_later y (rest ++ x ∷ []) task e ∙ ap (λ (n : ℕ). entries_in y.families + n) (slot_stays rest x task e (omega (arith, below)))
    ∙ sym (slot_later y rest task e)

slot_new : (tasks : List Facts) (x : Facts) (e : Entry)
    → slot_at (tasks ++ x ∷ []) (length tasks) e ≡ slots_before (declared tasks) (length tasks) + unwrap_or (number_within x.families e) 0
slot_new [] x e = ap (λ (n : ℕ). n + unwrap_or (number_within x.families e) 0) (before_first (x ∷ []) ∙ sym (before_first []))
slot_new (y ∷ rest) x e =
    slot_later y (rest ++ x ∷ []) (length rest) e
    ∙ omega (arith, slot_new rest x e, before_later y rest (length rest))

get_nothing : (n m : ℕ) → queue_at (replicate n []) m ≡ []
get_nothing zero m = refl
get_nothing (suc n) zero = refl
get_nothing (suc n) (suc m) = get_nothing n m

module _ (event : Event) (before : List Event) (old new : TableState) (master : Master) (families : List Family) (lawful : IsLawful (event ∷ before))
    (makes : MakesTask event master families) (stand : StandFor old before) (slots : length old.queues ≡ slot_count before) where
  only : OnlyMakes event
  only = makes_only event makes.by makes.under master families makes.is

  abbrev new_task : ℕ
  new_task = task_count before

  says : creation_in event ≡ Some (made event master families makes)
  says = makes_one event master families makes

  hold : HoldFacts old.tasks before
  hold = record { many = stand.many; facts = stand.tasks }

  same_nest : (task : ℕ) → nest (event ∷ before) task ≡ nest before task
  same_nest task = others_keep_nests event before task lawful only.opens only.meets only.frees

  phases : (task : ℕ) → phase_of (event ∷ before) task ≡ phase_of before task
  phases task = same_phase event before makes.by makes.under master families task makes.is lawful

  new_phase : phase_of (event ∷ before) new_task ≡ Unstarted
  new_phase = phases new_task ∙ sym (records_tell_phases before new_task (new_record 0) (unmade before new_task lawful.0 (omega arith)))

  new_live : is_terminated (event ∷ before) new_task ≡ false
  new_live =
      nobody_terminated event before new_task only.goes only.quits
      ∙ sym (unmade before new_task lawful.0 (omega arith)).stage.terminated

  -- the master is the body or an open block of a live task
  pub made_open : IsOpen old.tasks master
  made_open =
      let held = masters_are_held (event ∷ before) new_task (made event master families makes) lawful
      (new_creation event before (made event master families makes) says) new_live in
      let below : held.holder < task_count before = held.before in
      let live : is_terminated before held.holder ≡ false = sym (nobody_terminated event before held.holder only.goes only.quits) ∙ held.live in
      record {
        task = held.holder;
        within = omega (arith, below, stand.many);
        held =
            ap (λ (f : Facts). holds held.holder f.nest master) (stand.tasks held.holder below)
            ∙ ap (λ (members : List Member). holds held.holder members master) (sym (same_nest held.holder))
            ∙ held.held;
        live = ap (λ (f : Facts). ends f.phase) (stand.tasks held.holder below) ∙ ends_phase before held.holder ∙ live;
      }

  pub made_tasks : length old.tasks < MOST_TASKS
  made_tasks =
      let few = (made_few event before (made event master families makes) lawful says).0 in
      omega (arith, few, stand.many)

  pub made_entries : length old.queues + entries_in families ≤ MOST_SLOTS
  made_entries =
      let few = (made_few event before (made event master families makes) lawful says).1 in
      omega (arith, few, slots)

  older_facts : (task : ℕ) → task < task_count before → facts_in (event ∷ before) task ≡ facts_in before task
  older_facts task below =
      rw (older_creation event before task below, families_stay event before task below, same_nest task, phases task) refl

  newest_facts : facts_in (event ∷ before) new_task ≡ made_facts (Some master) families
  newest_facts =
      rw (
        new_creation event before (made event master families makes) says,
        new_families event before (made event master families makes) says,
        same_nest
            new_task,
        nest_unmade before new_task lawful.0 (omega arith),
        new_phase,
      ) refl

  module _ (is : new ≡ record old {
    tasks = old.tasks ++ made_facts (Some master) families ∷ [];
    queues = old.queues
        ++ replicate (entries_in families) [];
  }) where
    tasks_are : new.tasks ≡ old.tasks ++ made_facts (Some master) families ∷ []
    tasks_are = ap (λ (s : TableState). s.tasks) is

    queues_are : new.queues ≡ old.queues ++ replicate (entries_in families) []
    queues_are = ap (λ (s : TableState). s.queues) is

    many : length new.tasks ≡ suc (task_count before)
    many = ap (λ (ts : List Facts). length ts) tasks_are ∙ omega (arith, length-append old.tasks (made_facts (Some master) families ∷ []), stand.many)

    older_task : (task : ℕ) → task < task_count before → task_at new.tasks task ≡ task_at old.tasks task
    older_task task below =
        ap (λ (ts : List Facts). task_at ts task) tasks_are
        ∙ get_or_append_left old.tasks (made_facts (Some master) families ∷ []) nobody task (omega (arith, below, stand.many))

    newest_task : task_at new.tasks new_task ≡ made_facts (Some master) families
    newest_task =
        ap (λ (ts : List Facts). task_at ts new_task) tasks_are
        ∙ ap (task_at (old.tasks ++ made_facts (Some master) families ∷ [])) (sym stand.many)
        ∙ get_or-append_seam old.tasks (made_facts (Some master) families) [] nobody

    hold_made : HoldFacts new.tasks (event ∷ before)
    hold_made = record {
      many = many ∙ sym (one_more_task event before (made event master families makes) says);
      facts = λ task below.
          elim (cases_lt task (task_count before)) [
            | inl older ↦ older_task task older ∙ stand.tasks task older ∙ sym (older_facts task older)
            | inr newest ↦
                let same : task ≡ task_count before = omega (arith, newest, below, one_more_task event before (made event master families makes) says) in
                subst (λ (n : ℕ). task_at new.tasks n ≡ facts_in (event ∷ before) n) (sym same) (newest_task ∙ sym newest_facts)
          ];
    }

    same_queue : (task : ℕ) (entry : Entry) → queue (event ∷ before) task entry ≡ queue before task entry
    same_queue task entry = others_keep_queues event before task entry lawful only.calls only.frees only.meets only.completes

    older_queue : (task : ℕ) (entry : Entry) → HasEntry new.tasks task entry → task < task_count before
        → AreQueued (event ∷ before) task entry (queue_at new.queues (slot_at new.tasks task entry))
    older_queue task entry has below =
        let had : HasEntry old.tasks task entry =
        record {
          known = omega (arith, below, stand.many);
          declares = subst (λ (f : Facts). IsSome (number_within f.families entry)) (older_task task below)
              has.declares;
        } in
        let slot : slot_at new.tasks task entry ≡ slot_at old.tasks task entry =
        ap (λ (ts : List Facts). slot_at ts task entry) tasks_are ∙ slot_stays old.tasks (made_facts (Some master) families) task entry had.known in
        let within : slot_at old.tasks task entry < length old.queues = omega
        (arith, slot_within old.tasks task entry had, slots, slots_held old.tasks before hold) in
        let there : queue_at new.queues (slot_at new.tasks task entry) ≡ queue_at old.queues (slot_at old.tasks task entry) =
        ap (queue_at new.queues) slot
        ∙ ap (λ (qs : List (List QueuedCall)). queue_at qs (slot_at old.tasks task entry)) queues_are
        ∙ get_or_append_left old.queues (replicate (entries_in families) []) [] (slot_at old.tasks task entry) within in
        subst (AreQueued (event ∷ before) task entry) (sym there)
        (queued_later event before task entry (queue_at old.queues (slot_at old.tasks task entry)) (same_queue task entry) (stand.queues task entry had))

    newest_slot : (entry : Entry) → slot_at new.tasks new_task entry ≡ length old.queues + unwrap_or (number_within families entry) 0
    newest_slot entry =
        ap (λ (ts : List Facts). slot_at ts new_task entry) tasks_are
        ∙ ap (λ (n : ℕ). slot_at (old.tasks ++ made_facts (Some master) families ∷ []) n entry) (sym stand.many)
        ∙ slot_new old.tasks (made_facts (Some master) families) entry
        ∙ ap (λ (n : ℕ). n + unwrap_or (number_within families entry) 0) (slots_held old.tasks before hold ∙ sym slots)

    newest_queue : (entry : Entry) → AreQueued (event ∷ before) new_task entry (queue_at new.queues (slot_at new.tasks new_task entry))
    newest_queue entry =
        let there : queue_at new.queues (slot_at new.tasks new_task entry) ≡ [] =
        ap (queue_at new.queues) (newest_slot entry)
        ∙ ap (λ (qs : List (List QueuedCall)). queue_at qs (length old.queues + unwrap_or (number_within families entry) 0)) queues_are
        ∙ get_or-append-add old.queues (replicate (entries_in families) []) (unwrap_or (number_within families entry) 0) []
        ∙ get_nothing (entries_in families) (unwrap_or (number_within families entry) 0) in
        subst (AreQueued (event ∷ before) new_task entry) (sym there)
        (record {
          positions = sym (same_queue new_task entry ∙ queue_unmade before new_task entry lawful.0 (omega arith));
          callers = All-nil (λ (c : QueuedCall). caller_of (event ∷ before) c.call ≡ Some c.caller);
        })

    queues_made : HoldQueues new (event ∷ before)
    queues_made task entry has =
        elim (cases_lt task (task_count before)) [
          | inl older ↦ older_queue task entry has older
          | inr newest ↦
              let same : task ≡ task_count before = omega (arith, newest, has.known, many) in
              subst (λ (n : ℕ). AreQueued (event ∷ before) n entry (queue_at new.queues (slot_at new.tasks n entry))) (sym same) (newest_queue entry)
        ]

    pub made_stand : StandFor new (event ∷ before)
    made_stand = held_tables_stand new (event ∷ before) lawful hold_made queues_made

    pub made_slots : length new.queues ≡ slot_count (event ∷ before)
    made_slots =
        ap (λ (qs : List (List QueuedCall)). length qs) queues_are
        ∙ omega (
          arith,
          length-append old.queues (replicate (entries_in families) []),
          length-replicate {A = List QueuedCall} (entries_in families) [],
          slots,
          more_slots event before (made event master families makes) says,
        )
