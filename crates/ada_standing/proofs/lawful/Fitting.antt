-- An event that may follow a lawful journal fits it.
use Rattle.std.proofs.Common.{◌≡◌, ℕ, suc, ◌<◌, ◌≤◌, true, false, Some, None, List, [], ◌∷◌, length, refl, sym, ap, ◌∙◌, arith, subst, inl, inr}
use Rattle.std.specs.List.{list_any}
use Rattle.std.proofs.lemmas.Bool.{and_parts, or_cases, false_from_ne_true, false≢true}
use Rattle.std.proofs.lemmas.Option.{none-some, same_Some}
use Rattle.std.specs.Prelude.{if◌then◌else◌, ◌==◌}
use Rattle.ada_events.specs.declared.event.Event.{Event}
use Rattle.ada_events.specs.declared.event.Event.TheVariants as event
use Rattle.ada_events.specs.declared.request.Request.{Request}
use Rattle.ada_events.specs.declared.request.Request.TheVariants as request
use Rattle.ada_events.specs.declared.names.Master.{Master}
use Rattle.ada_events.specs.declared.names.Master.TheVariants.{Body}
use Rattle.ada_events.specs.Search.{is_number, event_at}
use Rattle.ada_events.specs.Says.{Creation, Start, creation_in, start_in, started_in, elaborated_in, failed_in, completed_in, gone_in, held_in, released_in}
use Rattle.ada_events.specs.Tasks.{task_count, creation_of}
use Rattle.ada_events.specs.Phases.{lists_task, is_released}
use Rattle.ada_events.specs.Calls.{is_pending, is_open_at, is_queued_at, is_open_call}
use Rattle.ada_events.specs.Nests.{frame}
use Rattle.ada_events.specs.Asks.{asker, asked_event}
use Rattle.ada_events.specs.Outcomes.{raised_in}
use Rattle.ada_events.specs.Forced.{task_no, is_to_fail, is_to_cancel, is_to_wake, is_to_leave}
use Rattle.ada_events.specs.Lawful.{MayFollow}
use Rattle.ada_laws.specs.Suspension.{IsSuspendedAt, HoldsSomebody}
use Rattle.ada_laws.specs.Unlimited.{IsLawfulUnlimited, refusal_but_limits}
use Rattle.ada_laws.proofs.searching.Searching.{option_or-some, if_some, is_number-some, option_map_or-true, event_at-older, event_at-within, event_at-cases}
use Rattle.ada_laws.proofs.searching.Growing.{task_count-more}
use Rattle.ada_laws.proofs.asking.Accepting.{running_live, asker_exists-unlimited}
use Rattle.ada_laws.proofs.searching.Saying.{held_in-wait, held_in-delay, held_in-start, held_in-closing, held_in-asked, asked_completes, asked_elaborates}
use Rattle.ada_laws.proofs.within.Framing.{IsBlockOf, frame_is}
use Rattle.ada_laws.proofs.queues.Queueing.{is_open_at-call, open_call_suspends}
use Rattle.ada_laws.proofs.within.Members.{nest_open, end_within-unlimited}
use Rattle.ada_laws.proofs.forced.Stepping.{forced-step, pending_parts, queued_open, row_elaborates, row_fails}
use Rattle.ada_laws.proofs.held.OutcomeLaws.{row-raises_none, raised_in-asked, suspended_given-unlimited}
use Rattle.ada_laws.proofs.forced.Rows.{IsRow, forced-row}
use Rattle.ada_laws.proofs.forced.Rows.IsRow.{halts, fails, meets, cancels, passes, wakes, activates, goes, leaves}
use Rattle.ada_laws.proofs.within.Reaching.{creation_asked-unlimited}
use Rattle.ada_standing.specs.Renaming.{Renaming, renamed_event}
use Rattle.ada_standing.specs.StandsIn.{StandsIn}
use Rattle.ada_standing.proofs.alike.Orderly.{IsLivedIn}
use Rattle.ada_standing.proofs.alike.Pairs.{live_from, active_parts}
use Rattle.ada_standing.proofs.lawful.Nesting.{IsOwn, frame_own, own_nested}
use Rattle.ada_standing.proofs.lawful.Starting.{start_exist}
use Rattle.ada_standing.proofs.lawful.Orderly.{lawful_orderly}
use Rattle.ada_standing.proofs.kept.Naming.{AreNext}
use Rattle.ada_standing.proofs.kept.Fitting.{TellsBelow, IsMaker, IsMaking, Fits}

-- what an event tells of, of tasks that exist

started_start : (e : Event) (u : ℕ) → lists_task u (started_in e) ≡ true → (s : Start) × (start_in e ≡ Some s) × (lists_task u s.tasks ≡ true)
unfolding started_in start_in
started_start (event.Started by tasks) u among = (_, refl, among)
started_start _ u among = absurd (false≢true among)

failed_asked : (journal : List Event) (r : Request) (u : ℕ) → failed_in (asked_event journal r) ≡ Some u → asker r ≡ Some u
unfolding failed_in asked_event asker
failed_asked journal (request.Elaborated by false) u says = says
failed_asked journal (request.Elaborated by true) u says = absurd (none-some u says)
failed_asked journal _ u says = absurd (none-some u says)

gone_asked : (journal : List Event) (r : Request) (u : ℕ) → gone_in (asked_event journal r) ≡ Some u → asker r ≡ Some u
unfolding gone_in asked_event asker
gone_asked journal (request.Open by) u says = absurd (none-some u says)
gone_asked journal _ u says = absurd (none-some u says)

row_completes : (journal : List Event) (e : Event) (u : ℕ) → IsRow journal e → completed_in e ≡ Some u → u < task_count journal
unfolding completed_in
row_completes journal e u (halts t below halt) says =
    let same : t ≡ u = same_Some t u says in
    omega (arith, same, below)
row_completes journal e u _ says = absurd (none-some u says)

row_ends : (journal : List Event) (e : Event) (u : ℕ) → IsRow journal e → gone_in e ≡ Some u → u < task_count journal
unfolding gone_in
row_ends journal e u (goes t below go) says =
    let same : t ≡ u = same_Some t u says in
    omega (arith, same, below)
row_ends journal e u _ says = absurd (none-some u says)

tells : (event : Event) (before : List Event) → MayFollow refusal_but_limits before event → TellsBelow (task_count before) event
tells event before (inl forces) =
    let row = forced-row before event forces in
    record {
      starts = λ u among.
          let (s, says, listed) = started_start event u among in
          start_exist event before s u (inl forces) says listed;
      elaborates = λ u says. absurd (none-some u (sym (row_elaborates before event row) ∙ says));
      fails = λ u says. absurd (none-some u (sym (row_fails before event row) ∙ says));
      completes = λ u says. row_completes before event u row says;
      ends = λ u says. row_ends before event u row says;
      holds = λ u says. absurd (none-some u (sym (forced-step before event forces).holds_none ∙ says));
      raises = λ u says. absurd (none-some u (sym (row-raises_none before event row) ∙ says));
    }
tells event before (inr asked) =
    let r = asked.request in
    let exists : (u : ℕ) → asker r ≡ Some u → u < task_count before = λ u asks. asker_exists-unlimited before r u asked.accepted asks in
    record {
      starts = λ u among.
          let (s, says, listed) = started_start event u among in
          start_exist event before s u (inr asked) says listed;
      elaborates = λ u says. exists u (asked_elaborates before r u (ap elaborated_in (sym asked.becomes) ∙ says));
      fails = λ u says. exists u (failed_asked before r u (ap failed_in (sym asked.becomes) ∙ says));
      completes = λ u says. exists u (asked_completes before r u (ap completed_in (sym asked.becomes) ∙ says));
      ends = λ u says. exists u (gone_asked before r u (ap gone_in (sym asked.becomes) ∙ says));
      holds = λ u says. exists u (held_in-asked before r u (ap held_in (sym asked.becomes) ∙ says));
      raises = λ u says. exists u (raised_in-asked before r u (ap raised_in (sym asked.becomes) ∙ says));
    }

at_most : (u m n : ℕ) → u < m → m ≤ n → u < n
at_most u m n below more = omega (arith, below, more)

tells_more : (m n : ℕ) (e : Event) → m ≤ n → TellsBelow m e → TellsBelow n e
tells_more m n e more told = record {
  starts = λ u among. at_most u m n (told.starts u among) more;
  elaborates = λ u says. at_most u m n (told.elaborates u says) more;
  fails = λ u says. at_most u m n (told.fails u says) more;
  completes = λ u says. at_most u m n (told.completes u says) more;
  ends = λ u says. at_most u m n (told.ends u says) more;
  holds = λ u says. at_most u m n (told.holds u says) more;
  raises = λ u says. at_most u m n (told.raises u says) more;
}

all_told : (journal : List Event) (p : ℕ) (e : Event) → IsLawfulUnlimited journal → event_at journal p ≡ Some e → TellsBelow (task_count journal) e
unfolding event_at
all_told [] p e lawful at = absurd (none-some e at)
all_told (event ∷ before) p e lawful at =
    let more : task_count before ≤ task_count (event ∷ before) = task_count-more event before in
    elim (event_at-cases event before p e at) [
      | inl newest ↦
          tells_more (task_count before) (task_count (event ∷ before)) e more (subst (TellsBelow (task_count before)) newest.1 (tells event before lawful.1))
      | inr older ↦ tells_more (task_count before) (task_count (event ∷ before)) e more (all_told before p e lawful.0 older)
    ]

-- who made a task

block_more : (event : Event) (before : List Event) (task p : ℕ) → IsBlockOf before task p → IsBlockOf (event ∷ before) task p
block_more event before task p block = record {
  event = block.event;
  opening = block.opening;
  stands = event_at-older event before p block.event block.stands;
  says = block.says;
  by = block.by;
}

maker_more : (event : Event) (before : List Event) (c : Creation) → IsMaker before c → IsMaker (event ∷ before) c
maker_more event before c maker = record {
  exists = at_most c.by (task_count before) (task_count (event ∷ before)) maker.exists (task_count-more event before);
  within = elim maker.within [ inl body ↦ inl body | inr (p, block, is) ↦ inr (p, block_more event before c.by p block, is) ];
}

maker_now : (event : Event) (before : List Event) (c : Creation) → MayFollow refusal_but_limits before event → creation_in event ≡ Some c → IsMaker before c
maker_now event before c follows says =
    let by = (creation_asked-unlimited event before c follows says).asked in
    record {
      exists = by.exists;
      within = elim (frame_is before c.by) [ inl body ↦ inl (by.within ∙ body) | inr (p, block, is) ↦ inr (p, block, by.within ∙ is) ];
    }

pub all_makers : (journal : List Event) (u : ℕ) (c : Creation) → IsLawfulUnlimited journal → creation_of journal u ≡ Some c → IsMaker journal c
unfolding creation_of
all_makers [] u c lawful says = absurd (none-some c says)
all_makers (event ∷ before) u c lawful says =
    maker_more event before c
    (elim (option_or-some (if u == task_count before then creation_in event else None) (creation_of before u) c says) [
      | inl now ↦ maker_now event before c lawful.1 (if_some (u == task_count before) (creation_in event) c now).1
      | inr was ↦ all_makers before u c lawful.0 was
    ])

own_lived : (journal : List Event) (task : ℕ) (x : Master) → IsLivedIn journal (Body (task_no task)) → IsOwn journal task x → IsLivedIn journal x
own_lived journal task x (IsLivedIn.body t live) (IsOwn.own_body) = IsLivedIn.body t live
own_lived journal task x (IsLivedIn.body t live) (IsOwn.own_block p own) = IsLivedIn.block task p live (own_nested journal task p own)

making_now : (event : Event) (before : List Event) (c : Creation) → MayFollow refusal_but_limits before event → creation_in event ≡ Some c → IsMaking before c
making_now event before c follows says =
    let by = (creation_asked-unlimited event before c follows says).asked in
    let live = live_from before c.by by.exists (active_parts before c.by (running_live before c.by by.runs)).1 in
    record {
      live = live;
      within = subst (IsLivedIn before) (sym by.within)
          (own_lived before c.by (frame before c.by) (IsLivedIn.body (task_no c.by) live) (frame_own before c.by));
    }

-- an event releases what holds a task up

pending_suspends : (journal : List Event) (p task : ℕ) (e : Event) → event_at journal p ≡ Some e → held_in e ≡ Some task → is_pending journal p task ≡ true
    → IsSuspendedAt journal task p
pending_suspends journal p task e at holds pending =
    let parts = pending_parts journal p task pending in
    record { event = e; stands = at; holds = holds; unreleased = parts.0; live = parts.1 }

pending_held : (journal : List Event) (p task : ℕ) (e : Event) → event_at journal p ≡ Some e → held_in e ≡ Some task → is_pending journal p task ≡ true
    → HoldsSomebody journal p
pending_held journal p task e at holds pending = record { task = task; held = pending_suspends journal p task e at holds pending }

open_held : (journal : List Event) (p : ℕ) (e : Event) → event_at journal p ≡ Some e → is_open_at journal p e ≡ true → HoldsSomebody journal p
open_held journal p e at opened =
    let (call, says, is) = is_open_at-call journal p e at opened in
    record { task = call.by; held = open_call_suspends journal call p is }

row_releases : (journal : List Event) (e : Event) (x : ℕ) → IsRow journal e → released_in e ≡ Some x → HoldsSomebody journal x
unfolding released_in is_to_fail is_to_cancel is_to_wake is_to_leave
row_releases journal e x (fails p d at fail) frees =
    subst (HoldsSomebody journal) (same_Some p x frees) (open_held journal p d at (and_parts _ (is_open_at journal p d) fail).1)
row_releases journal e x (meets p d wait call at says pending taken) frees =
    subst (HoldsSomebody journal) (same_Some p x frees) (pending_held journal p wait.by d at (held_in-wait d wait says) pending)
row_releases journal e x (cancels p d at cancel) frees =
    subst (HoldsSomebody journal) (same_Some p x frees)
    (open_held journal p d at (queued_open journal p d (and_parts _ (is_queued_at journal p d) cancel).1))
row_releases journal e x (passes p d wait way at says pending taken) frees =
    subst (HoldsSomebody journal) (same_Some p x frees) (pending_held journal p wait.by d at (held_in-wait d wait says) pending)
row_releases journal e x (wakes p d delay at says wake) frees =
    subst (HoldsSomebody journal) (same_Some p x frees)
    (pending_held journal p delay.by d at (held_in-delay d delay says) (and_parts _ (is_pending journal p delay.by) wake).1)
row_releases journal e x (activates p d start ok at says pending done is) frees =
    subst (HoldsSomebody journal) (same_Some p x frees) (pending_held journal p start.by d at (held_in-start d start says) pending)
row_releases journal e x (leaves p d closing at says leave) frees =
    subst (HoldsSomebody journal) (same_Some p x frees)
    (pending_held journal p closing.by d at (held_in-closing d closing says) (and_parts (is_pending journal p closing.by) _ leave).0)
row_releases journal e x _ frees = absurd (none-some x frees)

call_held : (journal : List Event) (call : ℕ) → is_open_call journal call ≡ true → HoldsSomebody journal call
unfolding is_open_call
call_held journal call opened =
    let (e, at, here) = option_map_or-true (is_open_at journal call) (event_at journal call) opened in
    open_held journal call e at here

asked_releases : (journal : List Event) (r : Request) (x : ℕ) → refusal_but_limits journal r ≡ None → released_in (asked_event journal r) ≡ Some x
    → HoldsSomebody journal x
unfolding asked_event released_in
asked_releases journal (request.End by raised) x accepted frees =
    subst (HoldsSomebody journal) (same_Some _ x frees) (call_held journal _ (nest_open journal by.0 _ (end_within-unlimited journal by raised accepted)))
asked_releases journal _ x accepted frees = absurd (none-some x frees)

releases_held : (event : Event) (before : List Event) (x : ℕ) → MayFollow refusal_but_limits before event → released_in event ≡ Some x → HoldsSomebody before x
releases_held event before x (inl forces) frees = row_releases before event x (forced-row before event forces) frees
releases_held event before x (inr asked) frees = asked_releases before asked.request x asked.accepted (ap released_in (sym asked.becomes) ∙ frees)

-- what is released is a position of the journal
released_within : (journal : List Event) (x : ℕ) → IsLawfulUnlimited journal → is_released journal x ≡ true → x ≤ length journal
unfolding is_released
released_within [] x lawful released = absurd (false≢true released)
released_within (event ∷ before) x lawful released =
    elim (or_cases (is_number x (released_in event)) (list_any (λ (e : Event). is_number x (released_in e)) before) released) [
      | inl now ↦
          let held = (releases_held event before x lawful.1 (is_number-some x (released_in event) now)).held in
          let within : x ≤ length before = event_at-within before x held.event held.stands in
          omega (arith, within)
      | inr was ↦
          let within : x ≤ length before = released_within before x lawful.0 was in
          omega (arith, within)
    ]

pub follows_fits : (event : Event) (before : List Event) → IsLawfulUnlimited before → MayFollow refusal_but_limits before event → Fits before event
follows_fits event before lawful follows = record {
  makers = λ u c says. all_makers before u c lawful says;
  told = λ p e at. all_told before p e lawful at;
  latest = λ all t p held. suspended_given-unlimited all before t p lawful held;
  unreleased = false_from_ne_true (is_released before (suc (length before))) (λ released.
      let within : suc (length before) ≤ length before = released_within before (suc (length before)) lawful released in
      omega (arith, within));
  making = λ c says. making_now event before c follows says;
  releases = λ x frees.
      let held = releases_held event before x follows frees in
      (held.task, held.held);
}

-- two lawful journals, of which the second stands in for the first, and an event that may follow each
pub next_of : (old new : List Event) (names : Renaming) (event other : Event) → StandsIn old new names → IsLawfulUnlimited old → IsLawfulUnlimited new
    → MayFollow refusal_but_limits old event → MayFollow refusal_but_limits new other
    → renamed_event names event ≡ Some other → AreNext old new names event other
next_of old new names event other stands lawful lawful_too follows follows_too renamed = record {
  stands = stands;
  orderly = lawful_orderly old lawful;
  also = lawful_orderly new lawful_too;
  fits = follows_fits event old lawful follows;
  fits_too = follows_fits other new lawful_too follows_too;
  renamed = renamed;
}
