-- Masters and their parents: of a lawful journal a master's parent was made before it, so that what is
-- reached by parents is reached step by step.
use Rattle.std.proofs.Common.{◌≡◌, ℕ, suc, ◌+◌, ◌<◌, ◌≤◌, true, cond, Option, Some, None, List, [], ◌∷◌, length, sym, refl, ap, ◌∙◌, subst, arith, inl, inr}
use Rattle.std.proofs.Common.{◌≢◌, eqb}
use Rattle.std.specs.Option.{option_map_or, option_len}
use Rattle.std.proofs.lemmas.Bool.{or_cases, or_left, or_right, cases_eq, ne_eqb, eq-eqb, eqb-true, not-false, false≢true}
use Rattle.std.proofs.lemmas.Option.{same_Some, none-some}
use Rattle.ada_events.specs.declared.event.Event.{Event}
use Rattle.ada_events.specs.declared.request.Request.{Request}
use Rattle.ada_events.specs.declared.request.Request.TheVariants as request
use Rattle.ada_events.specs.declared.names.TaskNo.{TaskNo}
use Rattle.ada_events.specs.declared.names.Master.{Master}
use Rattle.ada_events.specs.declared.names.Master.TheVariants.{Body, Block}
use Rattle.ada_events.specs.Says.{Creation, Opening, creation_in, opening_in}
use Rattle.ada_events.specs.Tasks.{task_count}
use Rattle.ada_events.specs.Masters.{same_master, parent_in, reaches}
use Rattle.ada_events.specs.Phases.{is_running}
use Rattle.ada_events.specs.Nests.{frame}
use Rattle.ada_events.specs.Asks.{asker, asked_event}
use Rattle.ada_events.specs.Refusals.{is_not_your_master, refusal}
use Rattle.ada_events.specs.Lawful.{IsLawful, MayFollow}
use Rattle.ada_laws.specs.Masters.{IsKnown}
use Rattle.ada_laws.specs.Unlimited.{IsLawfulUnlimited, refusal_but_limits}
use Rattle.ada_laws.proofs.asking.Limitless.{is_accepted-unlimited, lawful_unlimited, may_follow_unlimited}
use Rattle.ada_laws.proofs.searching.Searching.{event_at-cases, event_at-older, event_at-within}
use Rattle.ada_laws.proofs.searching.Growing.{task_count-more}
use Rattle.ada_laws.proofs.forced.Rows.{forced-row}
use Rattle.ada_laws.proofs.forced.Stepping.{forced-step, row-opens_none}
use Rattle.ada_laws.proofs.within.Framing.{frame_is}
use Rattle.ada_laws.proofs.asking.Accepting.{asker_exists-unlimited, asker_runs-unlimited}

pub same_master-true : (x y : Master) → same_master x y ≡ true → x ≡ y
same_master-true (Body t) (Body u) same = ap (λ (n : ℕ). Body (record { 0 = n })) (eqb-true t.0 u.0 same)
same_master-true (Block p) (Block q) same = ap Block (eqb-true p q same)
same_master-true (Body t) (Block q) same = absurd (false≢true same)
same_master-true (Block p) (Body u) same = absurd (false≢true same)

pub same_master-same : (x : Master) → same_master x x ≡ true
same_master-same (Body t) = eq-eqb t.0 t.0 refl
same_master-same (Block p) = eq-eqb p p refl

pub reaches-same : (journal : List Event) (x : Master) → reaches journal x x ≡ true
unfolding reaches
reaches-same [] x = same_master-same x
reaches-same (event ∷ before) x = or_left (same_master x x) (reaches before (parent_in before event x) x) (same_master-same x)

pub known_later : (event : Event) (before : List Event) (x : Master) → IsKnown before x → IsKnown (event ∷ before) x
known_later event before (Body t) known =
    let more : task_count before ≤ task_count (event ∷ before) = task_count-more event before in
    omega arith
known_later event before (Block p) known =
    record { event = known.event; opening = known.opening; stands = event_at-older event before p known.event known.stands; says = known.says }

parent_body : (o : Option Creation) (t : TaskNo) (n : ℕ) → t.0 ≢ n → option_map_or (λ (c : Creation). cond (eqb t.0 n) c.master (Body t)) o (Body t) ≡ Body t
parent_body None t n other = refl
parent_body (Some c) t n other = rw (ne_eqb t.0 n other) refl

parent_block : (o : Option Opening) (p n : ℕ) → p ≢ n → option_map_or (λ (x : Opening). cond (eqb p n) x.under (Block p)) o (Block p) ≡ Block p
parent_block None p n other = refl
parent_block (Some x) p n other = rw (ne_eqb p n other) refl

-- a newer event doesn't make what is known already
pub parent_in-known : (event : Event) (before : List Event) (x : Master) → IsKnown before x → parent_in before event x ≡ x
unfolding parent_in
parent_in-known event before (Body t) known = parent_body (creation_in event) t (task_count before) (λ same. omega arith)
parent_in-known event before (Block p) known =
    let within : p ≤ length before = event_at-within before p known.event known.stands in
    parent_block (opening_in event) p (suc (length before)) (λ same. omega arith)

-- a task's body that the event doesn't make keeps as its own parent in this step
pub parent_in-other : (event : Event) (before : List Event) (t : TaskNo) → t.0 ≢ task_count before → parent_in before event (Body t) ≡ Body t
unfolding parent_in
parent_in-other event before t other = parent_body (creation_in event) t (task_count before) other

-- the parent of what an event made
body_made : (o : Option Creation) (c : Creation) (t : TaskNo) (n : ℕ) → o ≡ Some c → t.0 ≡ n
    → option_map_or (λ (c : Creation). cond (eqb t.0 n) c.master (Body t)) o (Body t) ≡ c.master
body_made o c t n says same = rw (says, eq-eqb t.0 n same) refl

block_made : (o : Option Opening) (x : Opening) (p n : ℕ) → o ≡ Some x → p ≡ n
    → option_map_or (λ (x : Opening). cond (eqb p n) x.under (Block p)) o (Block p) ≡ x.under
block_made o x p n says same = rw (says, eq-eqb p n same) refl

pub parent_in-created : (event : Event) (before : List Event) (t : TaskNo) (c : Creation) → creation_in event ≡ Some c → t.0 ≡ task_count before
    → parent_in before event (Body t) ≡ c.master
unfolding parent_in
parent_in-created event before t c says same = body_made (creation_in event) c t (task_count before) says same

pub parent_in-opened : (event : Event) (before : List Event) (p : ℕ) (o : Opening) → opening_in event ≡ Some o → p ≡ suc (length before)
    → parent_in before event (Block p) ≡ o.under
unfolding parent_in
parent_in-opened event before p o says same = block_made (opening_in event) o p (suc (length before)) says same

nothing_made : (o : Option Creation) (t : TaskNo) (n : ℕ) → o ≡ None → option_map_or (λ (c : Creation). cond (eqb t.0 n) c.master (Body t)) o (Body t) ≡ Body t
nothing_made o t n says = rw says refl

pub parent_in-uncreated : (event : Event) (before : List Event) (t : TaskNo) → creation_in event ≡ None → parent_in before event (Body t) ≡ Body t
unfolding parent_in
parent_in-uncreated event before t says = nothing_made (creation_in event) t (task_count before) says

pub reaches_down : (event : Event) (before : List Event) (x y : Master) → IsKnown before x → reaches (event ∷ before) x y ≡ true → reaches before x y ≡ true
unfolding reaches
reaches_down event before x y known reached =
    elim (or_cases (same_master x y) (reaches before (parent_in before event x) y) reached) [
      | inl same ↦ subst (λ (z : Master). reaches before x z ≡ true) (same_master-true x y same) (reaches-same before x)
      | inr further ↦ rw (parent_in-known event before x known) at further
    ]

pub reaches_up : (event : Event) (before : List Event) (x y : Master) → IsKnown before x → reaches before x y ≡ true → reaches (event ∷ before) x y ≡ true
unfolding reaches
reaches_up event before x y known reached =
    or_right (same_master x y) (reaches before (parent_in before event x) y) (rw (parent_in-known event before x known) reached)

-- what a creation and an opening say where they are asked
pub record IsAskedBy (journal : List Event) (task : ℕ) (under : Master) : Type 0 where
  pub exists : task < task_count journal
  pub runs : is_running journal task ≡ true
  pub within : under ≡ frame journal task

asked_opening-unlimited : (journal : List Event) (r : Request) (o : Opening) → refusal_but_limits journal r ≡ None
    → opening_in (asked_event journal r) ≡ Some o → IsAskedBy journal o.by o.under
unfolding asked_event opening_in asker
asked_opening-unlimited journal (request.Open by) o accepted says =
    let same = same_Some _ o says in
    subst (λ (x : Opening). IsAskedBy journal x.by x.under) same (record {
      exists = asker_exists-unlimited journal (request.Open by) by.0 accepted refl;
      runs = asker_runs-unlimited journal (request.Open by) by.0 accepted refl;
      within = refl;
    })
asked_opening-unlimited journal _ o accepted says = absurd (none-some o says)

pub opening_asked-unlimited : (event : Event) (before : List Event) (o : Opening) → MayFollow refusal_but_limits before event → opening_in event ≡ Some o
    → IsAskedBy before o.by o.under
opening_asked-unlimited event before o (inl forces) says =
    absurd (none-some o (sym (row-opens_none before event (forced-row before event forces)) ∙ says))
opening_asked-unlimited event before o (inr asked) says =
    asked_opening-unlimited before asked.request o asked.accepted (ap opening_in (sym asked.becomes) ∙ says)

pub opening_asked : (event : Event) (before : List Event) (o : Opening) → MayFollow refusal before event → opening_in event ≡ Some o
    → IsAskedBy before o.by o.under
opening_asked event before o follows says = opening_asked-unlimited event before o (may_follow_unlimited before event follows) says

-- a creation's master is reached from the frame of its maker
pub record IsCreationBy (journal : List Event) (c : Creation) : Type 0 where
  pub asked : IsAskedBy journal c.by c.under
  pub reached : reaches journal (frame journal c.by) c.master ≡ true

asked_creation-unlimited : (journal : List Event) (r : Request) (c : Creation) → refusal_but_limits journal r ≡ None
    → creation_in (asked_event journal r) ≡ Some c → IsCreationBy journal c
unfolding asked_event creation_in asker is_not_your_master
asked_creation-unlimited journal (request.Create by master families) c accepted says =
    let same = same_Some _ c says in
    subst (λ (x : Creation). IsCreationBy journal x) same (record {
      asked = record {
        exists = asker_exists-unlimited journal (request.Create by master families) by.0 accepted refl;
        runs = asker_runs-unlimited journal (request.Create by master families) by.0 accepted refl;
        within = refl;
      };
      reached = not-false (reaches journal (frame journal by.0) master)
          (is_accepted-unlimited journal (request.Create by master families) accepted).your_master;
    })
asked_creation-unlimited journal _ c accepted says = absurd (none-some c says)

pub creation_asked-unlimited : (event : Event) (before : List Event) (c : Creation) → MayFollow refusal_but_limits before event → creation_in event ≡ Some c
    → IsCreationBy before c
creation_asked-unlimited event before c (inl forces) says = absurd (none-some c (sym (forced-step before event forces).makes_none ∙ says))
creation_asked-unlimited event before c (inr asked) says =
    asked_creation-unlimited before asked.request c asked.accepted (ap creation_in (sym asked.becomes) ∙ says)

pub creation_asked : (event : Event) (before : List Event) (c : Creation) → MayFollow refusal before event → creation_in event ≡ Some c → IsCreationBy before c
creation_asked event before c follows says = creation_asked-unlimited event before c (may_follow_unlimited before event follows) says

-- the frame of a task that exists is known
pub frame_known : (journal : List Event) (task : ℕ) → task < task_count journal → IsKnown journal (frame journal task)
frame_known journal task exists =
    elim (frame_is journal task) [
      | inl body ↦ rw body exists
      | inr block ↦ rw block.2 (record { event = block.1.event; opening = block.1.opening; stands = block.1.stands; says = block.1.says })
    ]

parent_body_known : (before : List Event) (o : Option Creation) (t : TaskNo) → t.0 < option_len o + task_count before
    → ((c : Creation) → o ≡ Some c → IsKnown before c.master)
    → IsKnown before (option_map_or (λ (c : Creation). cond (eqb t.0 (task_count before)) c.master (Body t)) o (Body t))
parent_body_known before None t below made = omega arith
parent_body_known before (Some c) t below made =
    elim (cases_eq t.0 (task_count before)) [
      | inl same ↦ rw (eq-eqb t.0 (task_count before) same) (made c refl)
      | inr other ↦ rw (ne_eqb t.0 (task_count before) other) (omega arith)
    ]

-- the parent of what is known was known before, if what the event made has a parent that was
parent_known : (event : Event) (before : List Event) (x : Master) → ((c : Creation) → creation_in event ≡ Some c → IsKnown before c.master)
    → ((o : Opening) → opening_in event ≡ Some o → IsKnown before o.under) → IsKnown (event ∷ before) x → IsKnown before (parent_in before event x)
unfolding parent_in task_count
parent_known event before (Body t) made opened known = parent_body_known before (creation_in event) t known made
parent_known event before (Block p) made opened known =
    elim (event_at-cases event before p known.event known.stands) [
      | inl newest ↦
          let says : opening_in event ≡ Some known.opening = ap opening_in newest.1 ∙ known.says in
          rw (says, eq-eqb p (suc (length before)) newest.0) (opened known.opening says)
      | inr older ↦
          let within : p ≤ length before = event_at-within before p known.event older in
          rw (parent_block (opening_in event) p (suc (length before)) (λ same. omega arith))
          (record { event = known.event; opening = known.opening; stands = older; says = known.says })
    ]

-- the parent of what is known was known before the event
pub parent_was_known-unlimited : (event : Event) (before : List Event) (x : Master) → MayFollow refusal_but_limits before event
    → ((y z : Master) → IsKnown before y → reaches before y z ≡ true → IsKnown before z) → IsKnown (event ∷ before) x
    → IsKnown before (parent_in before event x)
parent_was_known-unlimited event before x follows known_before known =
    parent_known event before x
    (λ c says.
    let made = creation_asked-unlimited event before c follows says in
    known_before (frame before c.by) c.master (frame_known before c.by made.asked.exists) made.reached)
    (λ o says.
    let opened = opening_asked-unlimited event before o follows says in
    subst (IsKnown before) (sym opened.within) (frame_known before o.by opened.exists))
    known

pub parent_was_known : (event : Event) (before : List Event) (x : Master) → MayFollow refusal before event
    → ((y z : Master) → IsKnown before y → reaches before y z ≡ true → IsKnown before z) → IsKnown (event ∷ before) x
    → IsKnown before (parent_in before event x)
parent_was_known event before x follows known_before known =
    parent_was_known-unlimited event before x (may_follow_unlimited before event follows) known_before known

-- what is reached from what is known is known
pub reaches_known-unlimited : (journal : List Event) → IsLawfulUnlimited journal → (x y : Master) → IsKnown journal x → reaches journal x y ≡ true
    → IsKnown journal y
unfolding reaches
reaches_known-unlimited [] lawful x y known reached = subst (IsKnown []) (same_master-true x y reached) known
reaches_known-unlimited (event ∷ before) lawful x y known reached =
    elim (or_cases (same_master x y) (reaches before (parent_in before event x) y) reached) [
      | inl same ↦ subst (IsKnown (event ∷ before)) (same_master-true x y same) known
      | inr further ↦
          let parent = parent_was_known-unlimited event before x lawful.1 (λ v w. reaches_known-unlimited before lawful.0 v w) known in
          known_later event before y (reaches_known-unlimited before lawful.0 (parent_in before event x) y parent further)
    ]

pub reaches_known : (journal : List Event) → IsLawful journal → (x y : Master) → IsKnown journal x → reaches journal x y ≡ true → IsKnown journal y
reaches_known journal lawful x y known reached = reaches_known-unlimited journal (lawful_unlimited journal lawful) x y known reached

-- what is reached from what is reached is reached
pub reaches_trans-unlimited : (journal : List Event) → IsLawfulUnlimited journal → (x y z : Master) → IsKnown journal x → reaches journal x y ≡ true
    → reaches journal y z ≡ true → reaches journal x z ≡ true
unfolding reaches
reaches_trans-unlimited [] lawful x y z known first second = subst (λ (w : Master). same_master x w ≡ true) (same_master-true y z second) first
reaches_trans-unlimited (event ∷ before) lawful x y z known first second =
    elim (or_cases (same_master x y) (reaches before (parent_in before event x) y) first) [
      | inl same ↦ subst (λ (w : Master). reaches (event ∷ before) w z ≡ true) (sym (same_master-true x y same)) second
      | inr further ↦
          let parent = parent_was_known-unlimited event before x lawful.1 (reaches_known-unlimited before lawful.0) known in
          let known_y = reaches_known-unlimited before lawful.0 (parent_in before event x) y parent further in
          or_right (same_master x z) (reaches before (parent_in before event x) z)
          (reaches_trans-unlimited before lawful.0 (parent_in before event x) y z parent further (reaches_down event before y z known_y second))
    ]

pub reaches_trans : (journal : List Event) → IsLawful journal → (x y z : Master) → IsKnown journal x → reaches journal x y ≡ true
    → reaches journal y z ≡ true → reaches journal x z ≡ true
reaches_trans journal lawful x y z known first second = reaches_trans-unlimited journal (lawful_unlimited journal lawful) x y z known first second
