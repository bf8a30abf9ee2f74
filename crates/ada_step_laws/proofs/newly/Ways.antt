-- All masters on which a task depends are found by parents.
use Rattle.std.proofs.Common.{◌≡◌, Bool, true, false, Option, Some, None, List, [], ◌∷◌, sym, refl, ap, ◌∙◌, inl, inr}
use Rattle.std.specs.Option.{option_map, option_map_or, option_and_then}
use Rattle.std.proofs.lemmas.Bool.{or_cases, cases_eq, eq-eqb}
use Rattle.ada_events.specs.declared.event.Event.{Event}
use Rattle.ada_events.specs.declared.names.TaskNo.{TaskNo}
use Rattle.ada_events.specs.declared.names.Master.{Master}
use Rattle.ada_events.specs.declared.names.Master.TheVariants.{Body, Block}
use Rattle.ada_events.specs.Search.{event_at}
use Rattle.ada_events.specs.Says.{Creation, Opening, creation_in, opening_in, opening_at}
use Rattle.ada_events.specs.Tasks.{task_count, creation_of}
use Rattle.ada_events.specs.Masters.{same_master, parent_in, reaches, depends_on}
use Rattle.ada_events.specs.Lawful.{IsLawful}
use Rattle.ada_laws.specs.Masters.{parent_of, IsKnown}
use Rattle.ada_laws.proofs.searching.Searching.{option_map-some, option_map_or-true, option_and_then-some, event_at-cases, event_at-older}
use Rattle.ada_laws.proofs.within.Reaching.{same_master-true, reaches-same, parent_in-known, parent_in-other, parent_in-created, parent_in-opened}
use Rattle.ada_laws.proofs.within.Reaching.{parent_in-uncreated}
use Rattle.ada_laws.proofs.within.Reaching.{parent_was_known, reaches_known}
use Rattle.ada_laws.proofs.within.Depending.{depends_exists, depends_reaches}
use Rattle.ada_laws.proofs.within.Parents.{tasks_depend_by_parents}
use Rattle.ada_step_laws.specs.Additions.{MastersAreFoundOutwards}
use Rattle.ada_step_laws.proofs.newly.StartedTasks.{still_made}

-- a parent stays so
parent_later : (event : Event) (before : List Event) (m n : Master) → parent_of before m ≡ Some n → parent_of (event ∷ before) m ≡ Some n
parent_later event before (Body t) n parent =
    let (c, made_by, same) = option_map-some (λ (c : Creation). c.master) (creation_of before t.0) n parent in
    ap (option_map (λ (c : Creation). c.master)) (still_made event before t.0 c made_by) ∙ ap Some same
parent_later event before (Block p) n parent =
    let (o, opened, same) = option_map-some (λ (o : Opening). o.under) (opening_at before p) n parent in
    let (e, at, says) = option_and_then-some opening_in (event_at before p) o opened in
    ap (option_map (λ (o : Opening). o.under)) (ap (option_and_then opening_in) (event_at-older event before p e at) ∙ says) ∙ ap Some same

-- the parent of what the event made
made_parent : (event : Event) (before : List Event) (t : TaskNo) (c : Creation) → t.0 ≡ task_count before → creation_in event ≡ Some c
    → parent_of (event ∷ before) (Body t) ≡ Some c.master
unfolding creation_of
made_parent event before t c same says = rw (eq-eqb t.0 (task_count before) same, says) refl

-- one step of the way is in, where what it comes from is
body_in : (In : Master → Bool) (event : Event) (before : List Event) (t : TaskNo) (o : Option Creation) → t.0 ≡ task_count before → creation_in event ≡ o
    → ((m n : Master) → In m ≡ true → parent_of (event ∷ before) m ≡ Some n → In n ≡ true) → In (Body t) ≡ true → In (parent_in before event (Body t)) ≡ true
body_in In event before t None same says closed here = ap In (parent_in-uncreated event before t says) ∙ here
body_in In event before t (Some c) same says closed here =
    ap In (parent_in-created event before t c says same) ∙ closed (Body t) c.master here (made_parent event before t c same says)

step_in : (In : Master → Bool) (event : Event) (before : List Event) (from : Master) → IsKnown (event ∷ before) from
    → ((m n : Master) → In m ≡ true → parent_of (event ∷ before) m ≡ Some n → In n ≡ true) → In from ≡ true → In (parent_in before event from) ≡ true
step_in In event before (Body t) known closed here =
    elim (cases_eq t.0 (task_count before)) [
      | inl same ↦ body_in In event before t (creation_in event) same refl closed here
      | inr other ↦ ap In (parent_in-other event before t other) ∙ here
    ]
step_in In event before (Block p) known closed here =
    elim (event_at-cases event before p known.event known.stands) [
      | inl newest ↦
          let says : opening_in event ≡ Some known.opening = ap opening_in newest.1 ∙ known.says in
          let parent : parent_of (event ∷ before) (Block p) ≡ Some known.opening.under =
          ap (option_map (λ (o : Opening). o.under)) (ap (option_and_then opening_in) known.stands ∙ known.says) in
          ap In (parent_in-opened event before p known.opening says newest.0) ∙ closed (Block p) known.opening.under here parent
      | inr older ↦
          ap In (parent_in-known event before (Block p) (record { event = known.event; opening = known.opening; stands = older; says = known.says })) ∙ here
    ]

reached_in : (In : Master → Bool) (journal : List Event) (from to : Master) → IsLawful journal
    → ((m n : Master) → In m ≡ true → parent_of journal m ≡ Some n → In n ≡ true)
    → IsKnown journal from → In from ≡ true → reaches journal from to ≡ true → In to ≡ true
unfolding reaches
reached_in In [] from to lawful closed known here reached = ap In (sym (same_master-true from to reached)) ∙ here
reached_in In (event ∷ before) from to lawful closed known here reached =
    elim (or_cases (same_master from to) (reaches before (parent_in before event from) to) reached) [
      | inl same ↦ ap In (sym (same_master-true from to same)) ∙ here
      | inr further ↦
          reached_in In before (parent_in before event from) to lawful.0 (λ m n in_m parent. closed m n in_m (parent_later event before m n parent))
          (parent_was_known event before from lawful.1 (reaches_known before lawful.0) known) (step_in In event before from known closed here) further
    ]

-- a task depends on the parent of its body
depends_on_parent : (journal : List Event) (task : TaskNo) (p : Master) → IsLawful journal
    → parent_of journal (Body task) ≡ Some p → depends_on journal task.0 p ≡ true
depends_on_parent journal task p lawful parent =
    tasks_depend_by_parents journal task p lawful
    ∙ (ap (λ (o : Option Master). option_map_or (λ (q : Master). reaches journal q p) o false) parent ∙ reaches-same journal p)

pub masters_are_found_outwards : MastersAreFoundOutwards
masters_are_found_outwards journal task In lawful first closed m depends =
    let (p, parent, reached) =
    option_map_or-true (λ (p : Master). reaches journal p m) (parent_of journal (Body task)) (sym (tasks_depend_by_parents journal task m lawful) ∙ depends) in
    let on_p = depends_on_parent journal task p lawful parent in
    let known = reaches_known journal lawful (Body task) p (depends_exists journal task.0 p on_p) (depends_reaches journal task p on_p) in
    reached_in In journal p m lawful closed known (first p parent) reached
