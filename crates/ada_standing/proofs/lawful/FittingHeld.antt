-- What may follow a lawful journal fits it, where it comes to what holds tasks up and what they are within.
use Rattle.std.proofs.Common.{◌≡◌, ℕ, suc, ◌-◌, ◌<◌, ◌≤◌, Bool, true, false, not, eqb, Option, Some, None, List, [], ◌∷◌, length, refl, sym}
use Rattle.std.proofs.Common.{ap, ◌∙◌, subst, arith, inl, inr}
use Rattle.std.specs.Option.{option_map_or}
use Rattle.std.specs.List.{Contains, list_any}
use Rattle.std.proofs.lemmas.Bool.{and_parts, or_cases, or_left, or_right, or_parts, or_from, eqb-true, not-true, not-false, false_from_ne_true, true≢false}
use Rattle.std.proofs.lemmas.Bool.{false≢true, eq-eqb}
use Rattle.std.proofs.lemmas.Option.{none-some, same_Some, slice_get_within, get_or_from_slice_get}
use Rattle.ada_events.specs.declared.event.Event.{Event}
use Rattle.ada_events.specs.declared.request.Request.{Request}
use Rattle.ada_events.specs.declared.request.Request.TheVariants as request
use Rattle.ada_events.specs.declared.names.TaskNo.{TaskNo}
use Rattle.ada_events.specs.declared.names.Member.{Member}
use Rattle.ada_events.specs.declared.names.Member.TheVariants.{Block, Rendezvous}
use Rattle.ada_events.specs.Search.{is_number, is_some_and, event_at}
use Rattle.ada_events.specs.Says.{Creation, Opening, Start, Closing, Meeting, Wait, opening_in, start_in, closing_in, meeting_in, wait_in}
use Rattle.ada_events.specs.Says.{failed_in, started_in, held_in, released_in, left_in}
use Rattle.ada_events.specs.Tasks.{task_count, creation_of}
use Rattle.ada_events.specs.Phases.{lists_task, has_start, is_elaborated, is_started, has_failed, has_ended, is_released}
use Rattle.ada_events.specs.Calls.{is_met}
use Rattle.ada_events.specs.Nests.{is_left_close, is_wait_of, nest, innermost}
use Rattle.ada_events.specs.Forced.{is_done_activating, task_no}
use Rattle.ada_events.specs.Asks.{asker, asked_event, member_position}
use Rattle.ada_events.specs.Refusals.{is_rendezvous, has_no_block, is_not_activating, may_activate, is_not_your_task, has_double_task}
use Rattle.ada_events.specs.Lawful.{MayFollow}
use Rattle.ada_laws.specs.Unlimited.{IsLawfulUnlimited, refusal_but_limits}
use Rattle.ada_laws.proofs.asking.Limitless.{is_accepted-unlimited}
use Rattle.ada_laws.proofs.asking.Accepting.{running_live, running_started, asker_exists-unlimited, asker_runs-unlimited}
use Rattle.ada_laws.proofs.searching.Searching.{event_at-cases, event_at-within, is_number-some, option_map_or-true, option_and_then-some}
use Rattle.ada_laws.proofs.searching.Saying.{held_in-asked, held_in-closing, held_in-start, held_in-wait}
use Rattle.ada_laws.proofs.searching.Growing.{task_count-more}
use Rattle.ada_laws.proofs.forced.Stepping.{forced-step, row_fails}
use Rattle.ada_laws.proofs.within.Depending.{started_named}
use Rattle.ada_laws.proofs.queues.Meeting.{taken_queued, meeting_in-met, meeting_at-unlimited, met_taking-unlimited}
use Rattle.ada_laws.proofs.within.Members.{IsMember, nest_member, nest_open, end_within-unlimited}
use Rattle.ada_laws.proofs.within.Members.IsMember.{block_in, rendezvous_in}
use Rattle.ada_laws.proofs.searching.Gathering.{Contains-first}
use Rattle.ada_laws.proofs.forced.Rows.{IsRow, forced-row}
use Rattle.ada_laws.proofs.forced.Rows.IsRow.{fails, meets, cancels, passes, wakes, activates, leaves}
use Rattle.ada_laws.proofs.within.Reaching.{opening_asked-unlimited}
use Rattle.ada_laws.proofs.queues.Queueing.{open_within}
use Rattle.ada_laws.proofs.within.Owners.{own_member}
use Rattle.ada_laws.proofs.forced.Parts.{closes_block}
use Rattle.ada_standing.proofs.lawful.Leaving.{leaving}
use Rattle.ada_standing.specs.Renaming.{Renaming, renamed_event}
use Rattle.ada_standing.specs.StandsIn.{StandsIn}
use Rattle.ada_standing.proofs.lawful.Orderly.{lawful_orderly}
use Rattle.ada_standing.proofs.held.Fitting.{FitsHeld}
use Rattle.ada_standing.proofs.held.Setting.{AreNext}

-- of events that speak only of positions before their own, none of a lawful journal, nor what may follow it, speaks of the next position

abbrev SpeaksWithin : (ℕ → Event → Bool) → Type 0
SpeaksWithin speaks =
    (event : Event) (before : List Event) (x : ℕ) → IsLawfulUnlimited before → MayFollow refusal_but_limits before event → speaks x event ≡ true
    → x ≤ length before

spoken_within : (speaks : ℕ → Event → Bool) → SpeaksWithin speaks → (journal : List Event) (x : ℕ) → IsLawfulUnlimited journal
    → list_any (speaks x) journal ≡ true → x ≤ length journal
spoken_within speaks within [] x lawful spoken = absurd (false≢true spoken)
spoken_within speaks within (event ∷ before) x lawful spoken =
    elim (or_cases (speaks x event) (list_any (speaks x) before) spoken) [
      | inl now ↦
          let low : x ≤ length before = within event before x lawful.0 lawful.1 now in
          omega (arith, low)
      | inr was ↦
          let low : x ≤ length before = spoken_within speaks within before x lawful.0 was in
          omega (arith, low)
    ]

none_speaks : (speaks : ℕ → Event → Bool) → SpeaksWithin speaks → (event : Event) (before : List Event) → IsLawfulUnlimited before
    → MayFollow refusal_but_limits before event → list_any (speaks (suc (length before))) (event ∷ before) ≡ false
none_speaks speaks within event before lawful follows =
    or_from (speaks (suc (length before)) event) (list_any (speaks (suc (length before))) before)
    (false_from_ne_true _ (λ now.
    let low : suc (length before) ≤ length before = within event before (suc (length before)) lawful follows now in
    omega (arith, low)))
    (false_from_ne_true _ (λ was.
    let low : suc (length before) ≤ length before = spoken_within speaks within before (suc (length before)) lawful was in
    omega (arith, low)))

-- releases

row_releases : (journal : List Event) (event : Event) (x : ℕ) → IsRow journal event → released_in event ≡ Some x → x ≤ length journal
unfolding released_in
row_releases journal event x (fails p e at fail) frees =
    subst (λ (n : ℕ). n ≤ length journal) (same_Some p x frees) (event_at-within journal p e at)
row_releases journal event x (meets p e wait call at says pending taken) frees =
    subst (λ (n : ℕ). n ≤ length journal) (same_Some p x frees) (event_at-within journal p e at)
row_releases journal event x (cancels p e at cancel) frees =
    subst (λ (n : ℕ). n ≤ length journal) (same_Some p x frees) (event_at-within journal p e at)
row_releases journal event x (passes p e wait way at says pending taken) frees =
    subst (λ (n : ℕ). n ≤ length journal) (same_Some p x frees) (event_at-within journal p e at)
row_releases journal event x (wakes p e delay at says wake) frees =
    subst (λ (n : ℕ). n ≤ length journal) (same_Some p x frees) (event_at-within journal p e at)
row_releases journal event x (activates p e start ok at says pending done is) frees =
    subst (λ (n : ℕ). n ≤ length journal) (same_Some p x frees) (event_at-within journal p e at)
row_releases journal event x (leaves p e closing at says leave) frees =
    subst (λ (n : ℕ). n ≤ length journal) (same_Some p x frees) (event_at-within journal p e at)
row_releases journal event x _ frees = absurd (none-some x frees)

asked_releases : (journal : List Event) (r : Request) (x : ℕ) → refusal_but_limits journal r ≡ None → released_in (asked_event journal r) ≡ Some x
    → x ≤ length journal
unfolding asked_event released_in
asked_releases journal (request.End by raised) x accepted frees =
    subst (λ (n : ℕ). n ≤ length journal) (same_Some _ x frees)
    (open_within journal _ (nest_open journal by.0 _ (end_within-unlimited journal by raised accepted)))
asked_releases journal _ x accepted frees = absurd (none-some x frees)

releases_within : SpeaksWithin (λ x e. is_number x (released_in e))
releases_within event before x lawful (inl forces) speaks =
    row_releases before event x (forced-row before event forces) (is_number-some x (released_in event) speaks)
releases_within event before x lawful (inr asked) speaks =
    asked_releases before asked.request x asked.accepted
    (ap released_in (sym asked.becomes) ∙ is_number-some x (released_in event) speaks)

-- rendezvous, leaving, closes

meets_within : SpeaksWithin (λ x e. is_some_and (meeting_in e) (λ (m : Meeting). eqb m.call x))
meets_within event before x lawful follows speaks =
    let (m, says, same) = option_map_or-true (λ (m : Meeting). eqb m.call x) (meeting_in event) speaks in
    let queued = (taken_queued before m.call m.wait (met_taking-unlimited before event m follows says)).1 in
    subst (λ (n : ℕ). n ≤ length before) (eqb-true m.call x same)
    (event_at-within before m.call queued.opened.stands.event queued.opened.stands.stands)

leaves_within : SpeaksWithin (λ x e. is_number x (left_in e))
leaves_within event before x lawful follows speaks =
    let gone = leaving event before x follows (is_number-some x (left_in event) speaks) in
    event_at-within before x gone.closed gone.stands

block_within : (journal : List Event) (task : ℕ) (o : Option Member) → innermost (nest journal task) ≡ o → option_map_or is_rendezvous o true ≡ false
    → member_position o ≤ length journal
block_within journal task None is block = absurd (true≢false block)
block_within journal task (Some (Rendezvous call)) is block = absurd (true≢false block)
block_within journal task (Some (Block b)) is block =
    let place = length (nest journal task) - 1 in
    let among : Contains (nest journal task) (Block b) =
    (place, slice_get_within (nest journal task) place (Block b) is, get_or_from_slice_get (nest journal task) place (Block b) (Block b) is) in
    let own = (own_member journal task b among).block in
    event_at-within journal b own.event own.stands

asked_closes : (journal : List Event) (r : Request) (k : Closing) → refusal_but_limits journal r ≡ None → closing_in (asked_event journal r) ≡ Some k
    → k.block ≤ length journal
unfolding asked_event closing_in has_no_block
asked_closes journal (request.Close by) k accepted says =
    subst (λ (x : Closing). x.block ≤ length journal) (same_Some _ k says)
    (block_within journal by.0 (innermost (nest journal by.0)) refl (is_accepted-unlimited journal (request.Close by) accepted).in_block)
asked_closes journal _ k accepted says = absurd (none-some k says)

closes_within : SpeaksWithin closes_block
closes_within event before x lawful (inl forces) speaks =
    let (k, says, same) = option_map_or-true (λ (k : Closing). eqb k.block x) (closing_in event) speaks in
    absurd (none-some k.by (sym (forced-step before event forces).holds_none ∙ held_in-closing event k says))
closes_within event before x lawful (inr asked) speaks =
    let (k, says, same) = option_map_or-true (λ (k : Closing). eqb k.block x) (closing_in event) speaks in
    subst (λ (n : ℕ). n ≤ length before) (eqb-true k.block x same)
    (asked_closes before asked.request k asked.accepted (ap closing_in (sym asked.becomes) ∙ says))

meetings_within : (journal : List Event) (p : ℕ) (d : Event) (m : Meeting) → IsLawfulUnlimited journal → event_at journal p ≡ Some d
    → meeting_in d ≡ Some m → (m.call ≤ length journal) × (m.wait ≤ length journal)
meetings_within journal p d m lawful at says =
    let meeting = meeting_at-unlimited journal m.call m.wait p lawful (at ∙ ap Some (meeting_in-met d m says)) in (
      event_at-within journal m.call meeting.call_stands.event meeting.call_stands.stands,
      event_at-within journal m.wait meeting.wait_stands.event meeting.wait_stands.stands,
    )

-- who is within something exists

holders_exist : (journal : List Event) (p task : ℕ) (e : Event) → IsLawfulUnlimited journal → event_at journal p ≡ Some e → held_in e ≡ Some task
    → task < task_count journal
unfolding event_at
holders_exist [] p task e lawful at holds = absurd (none-some e at)
holders_exist (event ∷ before) p task e lawful at holds =
    let more : task_count before ≤ task_count (event ∷ before) = task_count-more event before in
    elim (event_at-cases event before p e at) [
      | inl newest ↦
          let now : held_in event ≡ Some task = ap held_in newest.1 ∙ holds in
          elim lawful.1 [
            | inl forces ↦ absurd (none-some task (sym (forced-step before event forces).holds_none ∙ now))
            | inr asked ↦
                let below : task < task_count before =
                asker_exists-unlimited before asked.request task asked.accepted
                (held_in-asked before asked.request task (ap held_in (sym asked.becomes) ∙ now)) in
                omega (arith, below, more)
          ]
      | inr older ↦
          let below : task < task_count before = holders_exist before p task e lawful.0 older holds in
          omega (arith, below, more)
    ]

openers_exist : (journal : List Event) (p : ℕ) (e : Event) (o : Opening) → IsLawfulUnlimited journal → event_at journal p ≡ Some e
    → opening_in e ≡ Some o → o.by < task_count journal
unfolding event_at
openers_exist [] p e o lawful at says = absurd (none-some e at)
openers_exist (event ∷ before) p e o lawful at says =
    let more : task_count before ≤ task_count (event ∷ before) = task_count-more event before in
    elim (event_at-cases event before p e at) [
      | inl newest ↦
          let below : o.by < task_count before = (opening_asked-unlimited event before o lawful.1 (ap opening_in newest.1 ∙ says)).exists in
          omega (arith, below, more)
      | inr older ↦
          let below : o.by < task_count before = openers_exist before p e o lawful.0 older says in
          omega (arith, below, more)
    ]

waiter_exists : (journal : List Event) (task wait : ℕ) → IsLawfulUnlimited journal → is_wait_of journal task wait ≡ true → task < task_count journal
unfolding is_wait_of
waiter_exists journal task wait lawful waits =
    let (w, is, same) = option_map_or-true (λ (w : Wait). eqb w.by task) _ waits in
    let (e, at, says) = option_and_then-some wait_in (event_at journal wait) w is in
    subst (λ (n : ℕ). n < task_count journal) (eqb-true w.by task same)
    (holders_exist journal wait w.by e lawful at (held_in-wait e w says))

member_exists : (journal : List Event) (task : ℕ) (x : Member) → IsLawfulUnlimited journal → IsMember journal task x → task < task_count journal
member_exists journal task x lawful (block_in p e o at says by unleft) =
    subst (λ (n : ℕ). n < task_count journal) by (openers_exist journal p e o lawful at says)
member_exists journal task x lawful (rendezvous_in call q e m same at says waits unended) = waiter_exists journal task m.wait lawful waits

nest_empty : (journal : List Event) → IsLawfulUnlimited journal → nest journal (task_count journal) ≡ []
nest_empty journal lawful = by_first (nest journal (task_count journal)) refl
  where
    by_first : (xs : List Member) → nest journal (task_count journal) ≡ xs → xs ≡ []
    by_first [] is = refl
    by_first (x ∷ xs) is =
        let among : Contains (nest journal (task_count journal)) x = subst (λ (l : List Member). Contains l x) (sym is) (Contains-first x xs) in
        let below : task_count journal < task_count journal =
        member_exists journal (task_count journal) x lawful (nest_member journal (task_count journal) x among) in
        absurd (omega (arith, below))

-- who fails in its activation is being activated

-- a task that ends its activation runs, and isn't elaborated yet
record IsActivating (journal : List Event) (t : ℕ) : Type 0 where
  pub unelaborated : is_elaborated journal t ≡ false
  pub live : has_ended journal t ≡ false
  pub started : is_started journal t ≡ true

asked_fails : (journal : List Event) (r : Request) (t : ℕ) → refusal_but_limits journal r ≡ None → failed_in (asked_event journal r) ≡ Some t
    → IsActivating journal t
unfolding asked_event failed_in is_not_activating asker
asked_fails journal (request.Elaborated by false) t accepted says =
    let runs = asker_runs-unlimited journal (request.Elaborated by false) by.0 accepted refl in
    subst (IsActivating journal) (same_Some by.0 t says) (record {
      unelaborated = (is_accepted-unlimited journal (request.Elaborated by false) accepted).activating;
      live = running_live journal by.0 runs;
      started = running_started journal by.0 runs;
    })
asked_fails journal (request.Elaborated by true) t accepted says = absurd (none-some t says)
asked_fails journal _ t accepted says = absurd (none-some t says)

fails_activating : (event : Event) (before : List Event) (t : ℕ) → MayFollow refusal_but_limits before event → failed_in event ≡ Some t → IsActivating before t
fails_activating event before t (inl forces) says = absurd (none-some t (sym (row_fails before event (forced-row before event forces)) ∙ says))
fails_activating event before t (inr asked) says = asked_fails before asked.request t asked.accepted (ap failed_in (sym asked.becomes) ∙ says)

failing_undone : (event : Event) (before : List Event) (t : ℕ) → MayFollow refusal_but_limits before event → failed_in event ≡ Some t
    → is_done_activating before (task_no t) ≡ false
unfolding is_done_activating
failing_undone event before t follows says =
    let is = fails_activating event before t follows says in
    or_from (is_elaborated before t) (has_ended before t) is.unelaborated is.live

-- who failed was named by a start
failed_named : (journal : List Event) (t : ℕ) → IsLawfulUnlimited journal → has_failed journal t ≡ true → has_start journal t ≡ true
unfolding has_failed has_start is_elaborated
failed_named [] t lawful failed = absurd (false≢true failed)
failed_named (event ∷ before) t lawful failed =
    or_right (lists_task t (started_in event)) (has_start before t)
    (elim (or_cases (is_number t (failed_in event)) (has_failed before t) failed) [
      | inl now ↦
          let is = fails_activating event before t lawful.1 (is_number-some t (failed_in event) now) in
          elim (started_named before t is.started) [
            | inl main ↦ absurd (true≢false (sym (or_left (eqb t 0) _ (eq-eqb t 0 main)) ∙ is.unelaborated))
            | inr named ↦ named
          ]
      | inr was ↦ failed_named before t lawful.0 was
    ])

may_each : (journal : List Event) (by t : ℕ) (tasks : List TaskNo) → list_any (λ (u : TaskNo). not (may_activate journal by u.0)) tasks ≡ false
    → lists_task t tasks ≡ true → may_activate journal by t ≡ true
may_each journal by t [] none among = absurd (false≢true among)
may_each journal by t (u ∷ rest) none among =
    let both = or_parts (not (may_activate journal by u.0)) (list_any (λ (u : TaskNo). not (may_activate journal by u.0)) rest) none in
    elim (or_cases (eqb u.0 t) (lists_task t rest) among) [
      | inl same ↦ subst (λ (n : ℕ). may_activate journal by n ≡ true) (eqb-true u.0 t same) (not-false (may_activate journal by u.0) both.0)
      | inr later ↦ may_each journal by t rest both.1 later
    ]

asked_starts : (journal : List Event) (r : Request) (s : Start) (t : ℕ) → refusal_but_limits journal r ≡ None
    → start_in (asked_event journal r) ≡ Some s → lists_task t s.tasks ≡ true → has_start journal t ≡ false
unfolding asked_event start_in is_not_your_task may_activate
asked_starts journal (request.Activate by tasks) s t accepted says among =
    let yours = (is_accepted-unlimited journal (request.Activate by tasks) accepted).your_tasks in
    let all = (or_parts (list_any (λ (u : TaskNo). not (may_activate journal by.0 u.0)) tasks) (has_double_task tasks) yours).0 in
    let may = may_each journal by.0 t tasks all (ap (λ (x : Start). lists_task t x.tasks) (same_Some _ s says) ∙ among) in
    not-true (has_start journal t) (and_parts (is_some_and (creation_of journal t) (λ (c : Creation). eqb c.by by.0)) (not (has_start journal t)) may).1
asked_starts journal _ s t accepted says among = absurd (none-some s says)

starts_unfailed : (event : Event) (before : List Event) (s : Start) (t : ℕ) → IsLawfulUnlimited before → MayFollow refusal_but_limits before event
    → start_in event ≡ Some s → lists_task t s.tasks ≡ true → has_failed before t ≡ false
starts_unfailed event before s t lawful (inl forces) says among =
    absurd (none-some s.by (sym (forced-step before event forces).holds_none ∙ held_in-start event s says))
starts_unfailed event before s t lawful (inr asked) says among =
    false_from_ne_true (has_failed before t) (λ failed.
    true≢false (sym (failed_named before t lawful failed)
    ∙ asked_starts before asked.request s t asked.accepted (ap start_in (sym asked.becomes) ∙ says) among))

pub fits_held : (journal : List Event) (event : Event) → IsLawfulUnlimited journal → MayFollow refusal_but_limits journal event → FitsHeld journal event
unfolding is_released is_met is_left_close
fits_held journal event lawful follows = record {
  unreleased = none_speaks (λ x e. is_number x (released_in e)) releases_within event journal lawful follows;
  unmet = none_speaks (λ x e. is_some_and (meeting_in e) (λ (m : Meeting). eqb m.call x)) meets_within event journal lawful follows;
  unleft = none_speaks (λ x e. is_number x (left_in e)) leaves_within event journal lawful follows;
  unclosed = none_speaks closes_block closes_within event journal lawful follows;
  meetings = λ p d m at says. meetings_within journal p d m lawful at says;
  empty = nest_empty journal lawful;
  leaves = λ close says. leaving event journal close follows says;
  meets = λ m says. met_taking-unlimited journal event m follows says;
  failing = λ t says. failing_undone event journal t follows says;
  starting = λ s t says among. starts_unfailed event journal s t lawful follows says among;
}

-- one more event of two lawful journals
pub lawful_next : (old new : List Event) (names : Renaming) (event copy : Event) → StandsIn old new names → IsLawfulUnlimited old
    → IsLawfulUnlimited new → MayFollow refusal_but_limits old event → MayFollow refusal_but_limits new copy → renamed_event names event ≡ Some copy
    → AreNext old new names event copy
lawful_next old new names event copy stands lawful also follows copied renamed = record {
  stands = stands;
  orderly = lawful_orderly old lawful;
  also = lawful_orderly new also;
  fits = fits_held old event lawful follows;
  fitted = fits_held new copy also copied;
  renamed = renamed;
}
