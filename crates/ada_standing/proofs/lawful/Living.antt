-- Live tasks are within what they depend on: bodies of live tasks, and blocks that live tasks haven't left.
use Rattle.std.proofs.Common.{◌≡◌, ℕ, ◌<◌, true, false, ◌||◌, eqb, Option, Some, List, [], ◌∷◌, refl, sym, ap, ◌∙◌, subst, ◌⊎◌, inl, inr}
use Rattle.std.specs.Option.{option_map_or}
use Rattle.std.proofs.lemmas.Bool.{and_parts, or_cases, or_right, eqb-true, true≢false, false≢true, false_from_ne_true}
use Rattle.std.proofs.lemmas.Option.{none-some, same_Some}
use Rattle.ada_events.specs.declared.event.Event.{Event}
use Rattle.ada_events.specs.declared.names.TaskNo.{TaskNo}
use Rattle.ada_events.specs.declared.names.Master.{Master}
use Rattle.ada_events.specs.declared.names.Master.TheVariants.{Body, Block}
use Rattle.ada_events.specs.Search.{any_event, event_at}
use Rattle.ada_events.specs.Says.{opening_in}
use Rattle.ada_events.specs.Tasks.{task_count}
use Rattle.ada_events.specs.Masters.{same_master, parent_in, reaches, depends_on}
use Rattle.ada_events.specs.Phases.{is_terminated}
use Rattle.ada_events.specs.Calls.{is_pending}
use Rattle.ada_events.specs.Nests.{is_left, frame}
use Rattle.ada_events.specs.Termination.{all_terminated}
use Rattle.ada_events.specs.Forced.{task_no, is_to_leave}
use Rattle.ada_laws.specs.Masters.{parent_of, IsKnown}
use Rattle.ada_laws.specs.Unlimited.{IsLawfulUnlimited}
use Rattle.ada_laws.proofs.searching.Searching.{event_at-cases}
use Rattle.ada_laws.proofs.searching.Growing.{is_terminated-more, has_ended-terminated}
use Rattle.ada_laws.proofs.asking.Accepting.{running_live}
use Rattle.ada_laws.proofs.within.Framing.{IsBlockOf, frame_is}
use Rattle.ada_laws.proofs.within.Reaching.{reaches-same, reaches_up, reaches_down, parent_in-opened, creation_asked-unlimited, opening_asked-unlimited}
use Rattle.ada_laws.proofs.within.Reaching.{reaches_known-unlimited, reaches_trans-unlimited}
use Rattle.ada_laws.proofs.within.Reaching.{frame_known}
use Rattle.ada_laws.proofs.within.Depending.{IsMadeUnder, depends_on-cases, depends_on-made, depends_on-later, depends_exists, depends_reaches}
use Rattle.ada_laws.proofs.within.Depending.{reaches_from_body}
use Rattle.ada_laws.proofs.within.DependentLaws.{all_terminated_at, a_terminated_body_has_no_live_dependent-unlimited}
use Rattle.ada_laws.proofs.within.Parents.{masters_reach_by_parents-unlimited}
use Rattle.ada_laws.proofs.within.Leaving.{leaving_makes_none}
use Rattle.ada_laws.proofs.within.Owners.{IsOwnBlock}
use Rattle.ada_standing.specs.StandsIn.{is_live}
use Rattle.ada_standing.proofs.alike.Orderly.{IsClimb, IsLivedIn}
use Rattle.ada_standing.proofs.alike.Pairs.{live_from, live_parts}
use Rattle.ada_standing.proofs.lawful.Leaving.{Leaves, left_cases}
use Rattle.ada_standing.proofs.lawful.Nesting.{IsOwn, IsOuter, frame_own, outer_own, own_nested, nested_own}
use Rattle.ada_standing.proofs.lawful.Climbing.{climb_of}

-- a task's block reaches the task's own body
own_frame : (journal : List Event) (task : ℕ) → ((p : ℕ) → IsBlockOf journal task p → reaches journal (Block p) (Body (task_no task)) ≡ true)
    → reaches journal (frame journal task) (Body (task_no task)) ≡ true
own_frame journal task by_block =
    elim (frame_is journal task) [
      | inl body ↦ rw body (reaches-same journal (Body (task_no task)))
      | inr block ↦ rw block.2 (by_block block.0 block.1)
    ]

block_reaches_own : (journal : List Event) (task p : ℕ) → IsLawfulUnlimited journal → IsBlockOf journal task p
    → reaches journal (Block p) (Body (task_no task)) ≡ true
unfolding reaches event_at
block_reaches_own [] task p lawful block = absurd (none-some block.event block.stands)
block_reaches_own (event ∷ before) task p lawful block =
    elim (event_at-cases event before p block.event block.stands) [
      | inl newest ↦
          let says = ap opening_in newest.1 ∙ block.says in
          let asked = opening_asked-unlimited event before block.opening lawful.1 says in
          let under : parent_in before event (Block p) ≡ frame before task =
          parent_in-opened event before p block.opening says newest.0 ∙ (asked.within ∙ ap (frame before) block.by) in
          or_right (same_master (Block p) (Body (task_no task))) (reaches before (parent_in before event (Block p)) (Body (task_no task)))
          (rw under (own_frame before task (λ q inner. block_reaches_own before task q lawful.0 inner)))
      | inr older ↦
          reaches_up event before (Block p) (Body (task_no task))
          (record { event = block.event; opening = block.opening; stands = older; says = block.says })
          (block_reaches_own before task p lawful.0 (record { event = block.event; opening = block.opening; stands = older; says = block.says; by = block.by }))
    ]

-- who depends on a master depends on what is reached from it
depends_further : (journal : List Event) (u : ℕ) (x y : Master) → IsLawfulUnlimited journal → depends_on journal u x ≡ true
    → reaches journal x y ≡ true → depends_on journal u y ≡ true
depends_further [] u x y lawful depends further = absurd (false≢true (unfold depends_on in depends))
depends_further (event ∷ before) u x y lawful depends further =
    elim (depends_on-cases event before u x depends) [
      | inl made ↦
          let by = creation_asked-unlimited event before made.creation lawful.1 made.says in
          let known = reaches_known-unlimited before lawful.0 (frame before made.creation.by) made.creation.master
          (frame_known before made.creation.by by.asked.exists)
          by.reached in
          let there = reaches_known-unlimited before lawful.0 made.creation.master x known made.reached in
          depends_on-made event before u y made.creation made.says made.newest
          (reaches_trans-unlimited before lawful.0 made.creation.master x y known made.reached (reaches_down event before x y there further))
      | inr older ↦
          let there = reaches_known-unlimited before lawful.0 (Body (task_no u)) x (depends_exists before u x older)
          (depends_reaches before (task_no u) x older) in
          depends_on-later event before u y (depends_further before u x y lawful.0 older (reaches_down event before x y there further))
    ]

-- what is reached from a master of the task's own: its own blocks, and what it depends on
own_reaches : (journal : List Event) (task b : ℕ) (x : Master) → IsLawfulUnlimited journal → IsClimb journal x → IsOwn journal task x
    → reaches journal x (Block b) ≡ true → IsOwnBlock journal task b ⊎ (depends_on journal task (Block b) ≡ true)
own_reaches journal task b x lawful climb (IsOwn.own_body) reached =
    elim (reaches_from_body journal (task_no task) (Block b) reached) [
      | inl same ↦ absurd (cc)
      | inr depends ↦ inr depends
    ]
own_reaches journal task b x lawful (IsClimb.top m none) (IsOwn.own_block p own) reached =
    let (z, is, outer) = outer_own journal task p lawful own in
    absurd (none-some z (sym none ∙ is))
own_reaches journal task b x lawful (IsClimb.up m w parent climb) (IsOwn.own_block p own) reached =
    let (z, is, outer) = outer_own journal task p lawful own in
    let same : z ≡ w = same_Some z w (sym is ∙ parent) in
    let block = own.block in
    let known : IsKnown journal (Block p) = record { event = block.event; opening = block.opening; stands = block.stands; says = block.says } in
    let ways : (same_master (Block p) (Block b) || reaches journal w (Block b)) ≡ true =
    ap (λ (o : Option Master). same_master (Block p) (Block b) || option_map_or (λ (z : Master). reaches journal z (Block b)) o false) (sym parent)
    ∙ (sym (masters_reach_by_parents-unlimited journal (Block p) (Block b) lawful known) ∙ reached) in
    elim (or_cases (eqb p b) (reaches journal w (Block b)) ways) [
      | inl here ↦ inl (subst (IsOwnBlock journal task) (eqb-true p b here) own)
      | inr further ↦ own_reaches journal task b w lawful climb (subst (IsOwn journal task) same (as_own z outer)) further
    ]
  where
    as_own : (z : Master) → IsOuter journal task p z → IsOwn journal task z
    as_own z (IsOuter.in_body) = IsOwn.own_body
    as_own z (IsOuter.in_block q less own) = IsOwn.own_block q own

-- no task is made that depends on a block that was left
no_late_dependent : (event : Event) (before : List Event) (u b : ℕ) → IsLawfulUnlimited (event ∷ before) → is_left before b ≡ true
    → ((v : ℕ) → depends_on before v (Block b) ≡ true → is_terminated before v ≡ true) → IsMadeUnder event before u (Block b) → ⊥
no_late_dependent event before u b lawful left dependents made =
    let maker = made.creation.by in
    let by = creation_asked-unlimited event before made.creation lawful.1 made.says in
    let known = frame_known before maker by.asked.exists in
    let reached = reaches_trans-unlimited before lawful.0 (frame before maker) made.creation.master (Block b) known by.reached made.reached in
    elim (own_reaches before maker b (frame before maker) lawful.0 (climb_of before (frame before maker) lawful.0 known) (frame_own before maker) reached) [
      | inl own ↦ true≢false (sym left ∙ own.unleft)
      | inr depends ↦ true≢false (sym (has_ended-terminated before maker (dependents maker depends)) ∙ running_live before maker by.asked.runs)
    ]

-- where a block is left all of its dependents are terminated
left_now : (event : Event) (before : List Event) (u b : ℕ) → Leaves event before b → depends_on before u (Block b) ≡ true → is_terminated before u ≡ true
unfolding is_to_leave
left_now event before u b leaves depends =
    let gone = leaves.gone in
    let all = (and_parts (is_pending before leaves.close gone.closing.by) (all_terminated before (Block gone.closing.block)) gone.leave).1 in
    all_terminated_at before (Block b) u (subst (λ (n : ℕ). all_terminated before (Block n) ≡ true) leaves.block all) depends

-- all that depend on a block that was left are terminated
left_dependents : (journal : List Event) (b u : ℕ) → IsLawfulUnlimited journal → is_left journal b ≡ true → depends_on journal u (Block b) ≡ true
    → is_terminated journal u ≡ true
unfolding is_left any_event
left_dependents [] b u lawful left depends = absurd (false≢true left)
left_dependents (event ∷ before) b u lawful left depends =
    elim (left_cases event before b lawful left) [
      | inl leaves ↦
          elim (depends_on-cases event before u (Block b) depends) [
            | inl made ↦ absurd (none-some made.creation (sym (leaving_makes_none event leaves.close leaves.leaves) ∙ made.says))
            | inr older ↦ is_terminated-more event before u (left_now event before u b leaves older)
          ]
      | inr was ↦
          elim (depends_on-cases event before u (Block b) depends) [
            | inl made ↦ absurd (no_late_dependent event before u b lawful was (λ v on. left_dependents before b v lawful.0 was on) made)
            | inr older ↦ is_terminated-more event before u (left_dependents before b u lawful.0 was older)
          ]
    ]

-- a task on whose body a live task depends is live
holder_live : (journal : List Event) (u : ℕ) (t : TaskNo) → IsLawfulUnlimited journal → is_live journal u ≡ true
    → depends_on journal u (Body t) ≡ true → is_live journal t.0 ≡ true
holder_live journal u t lawful live depends =
    let parts = live_parts journal u live in
    let below : t.0 < task_count journal =
    reaches_known-unlimited journal lawful (Body (task_no u)) (Body t) parts.0 (depends_reaches journal (task_no u) (Body t) depends) in
    live_from journal t.0 below
    (false_from_ne_true (is_terminated journal t.0) (λ ended.
    true≢false (sym (a_terminated_body_has_no_live_dependent-unlimited journal lawful t u ended depends) ∙ parts.1)))

-- a live task is within each master that it depends on
pub masters_lived_in : (journal : List Event) (u : ℕ) (x : Master) → IsLawfulUnlimited journal → is_live journal u ≡ true
    → depends_on journal u x ≡ true → IsLivedIn journal x
masters_lived_in journal u (Body t) lawful live depends = IsLivedIn.body t (holder_live journal u t lawful live depends)
masters_lived_in journal u (Block b) lawful live depends =
    let parts = live_parts journal u live in
    let known : IsKnown journal (Block b) =
    reaches_known-unlimited journal lawful (Body (task_no u)) (Block b) parts.0 (depends_reaches journal (task_no u) (Block b) depends) in
    let holder = known.opening.by in
    let block : IsBlockOf journal holder b =
    record { event = known.event; opening = known.opening; stands = known.stands; says = known.says; by = refl } in
    let on_body = depends_further journal u (Block b) (Body (task_no holder)) lawful depends (block_reaches_own journal holder b lawful block) in
    let unleft : is_left journal b ≡ false =
    false_from_ne_true (is_left journal b) (λ left. true≢false (sym (left_dependents journal b u lawful left depends) ∙ parts.1)) in
    IsLivedIn.block holder b (holder_live journal u (task_no holder) lawful live on_body)
    (own_nested journal holder b (record { block = block; unleft = unleft }))

-- and within what the blocks of its nest were opened in
pub parents_lived_in : (journal : List Event) (p : ℕ) (z : Master) → IsLawfulUnlimited journal → IsLivedIn journal (Block p)
    → parent_of journal (Block p) ≡ Some z → IsLivedIn journal z
parents_lived_in journal p z lawful (IsLivedIn.block task q live within) is =
    let (w, parent, outer) = outer_own journal task p lawful (nested_own journal task p within) in
    subst (IsLivedIn journal) (same_Some w z (sym parent ∙ is)) (by_outer w outer)
  where
    by_outer : (w : Master) → IsOuter journal task p w → IsLivedIn journal w
    by_outer w (IsOuter.in_body) = IsLivedIn.body (task_no task) live
    by_outer w (IsOuter.in_block b less own) = IsLivedIn.block task b live (own_nested journal task b own)
