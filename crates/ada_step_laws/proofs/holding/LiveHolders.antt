-- In a lawful journal a live task was made under a master that a live task holds.
use Rattle.std.proofs.Common.{◌≡◌, ℕ, Bool, true, false, cond, ◌||◌, eqb, Some, List, [], ◌∷◌, refl, sym, ap, ◌∙◌, subst, inl, inr}
use Rattle.std.proofs.lemmas.Bool.{and_parts, or_cases, or_left, or_right, eq-eqb, true≢false, false≢true, false_from_ne_true}
use Rattle.std.proofs.lemmas.Option.{none-some}
use Rattle.ada_events.specs.declared.event.Event.{Event}
use Rattle.ada_events.specs.declared.names.Master.{Master}
use Rattle.ada_events.specs.declared.names.Master.TheVariants.{Body, Block as BlockMaster}
use Rattle.ada_events.specs.declared.names.Member.{Member}
use Rattle.ada_events.specs.declared.names.Member.TheVariants.{Block, Rendezvous}
use Rattle.ada_events.specs.Search.{any_event, event_at}
use Rattle.ada_events.specs.Says.{opening_in}
use Rattle.ada_events.specs.Masters.{same_master, parent_in, reaches, depends_on}
use Rattle.ada_events.specs.Phases.{is_terminated}
use Rattle.ada_events.specs.Calls.{is_pending}
use Rattle.ada_events.specs.Nests.{is_left, nest, innermost_block, frame}
use Rattle.ada_events.specs.Termination.{all_terminated}
use Rattle.ada_events.specs.Forced.{is_to_leave}
use Rattle.ada_events.specs.Lawful.{IsLawful}
use Rattle.ada_laws.specs.Masters.{IsKnown}
use Rattle.ada_laws.proofs.searching.Searching.{event_at-cases}
use Rattle.ada_laws.proofs.searching.Growing.{is_terminated-more, has_ended-terminated}
use Rattle.ada_laws.proofs.asking.Accepting.{running_live}
use Rattle.ada_laws.proofs.within.Framing.{IsBlockOf, frame_is}
use Rattle.ada_laws.proofs.within.Reaching.{reaches-same, reaches_up, reaches_down, reaches_known, reaches_trans, parent_in-opened, opening_asked}
use Rattle.ada_laws.proofs.within.Reaching.{creation_asked}
use Rattle.ada_laws.proofs.within.Reaching.{frame_known}
use Rattle.ada_laws.proofs.within.Depending.{IsMadeUnder, depends_on-cases, depends_on-made, depends_on-later, depends_exists, depends_reaches, depends_after}
use Rattle.ada_laws.proofs.within.DependentLaws.{all_terminated_at, a_terminated_body_has_no_live_dependent}
use Rattle.ada_laws.proofs.within.Parents.{master_known, tasks_depend_by_parents}
use Rattle.ada_laws.proofs.within.Leaving.{leaving_makes_none}
use Rattle.ada_events.specs.Holders.{is_block, has_block, up_to, holds, encloses}
use Rattle.ada_step_laws.specs.Holders.{IsHeld, ALeftBlockHasNoLiveDependent, MastersAreHeld}
use Rattle.ada_step_laws.proofs.changing.LeftBlocks.{Leaves, left_cases}
use Rattle.ada_step_laws.proofs.holding.NestedBlocks.{leaves_ready}
use Rattle.ada_laws.proofs.within.Owners.{block_in_nest, nest_has_block, one_holder}
use Rattle.ada_step_laws.proofs.holding.Enclosing.{reaches_held}

-- a task's block reaches the task's own body
own_frame : (journal : List Event) (task : ℕ) → ((p : ℕ) → IsBlockOf journal task p → reaches journal (BlockMaster p) (Body (record { 0 = task })) ≡ true)
    → reaches journal (frame journal task) (Body (record { 0 = task })) ≡ true
own_frame journal task by_block =
    elim (frame_is journal task) [
      | inl body ↦ rw body (reaches-same journal (Body (record { 0 = task })))
      | inr block ↦ rw block.2 (by_block block.0 block.1)
    ]

block_reaches_own : (journal : List Event) (task p : ℕ) → IsLawful journal → IsBlockOf journal task p
    → reaches journal (BlockMaster p) (Body (record { 0 = task })) ≡ true
unfolding reaches event_at
block_reaches_own [] task p lawful block = absurd (none-some block.event block.stands)
block_reaches_own (event ∷ before) task p lawful block =
    elim (event_at-cases event before p block.event block.stands) [
      | inl newest ↦
          let says : opening_in event ≡ Some block.opening = ap opening_in newest.1 ∙ block.says in
          let asked = opening_asked event before block.opening lawful.1 says in
          let under : parent_in before event (BlockMaster p) ≡ frame before task =
          parent_in-opened event before p block.opening says newest.0 ∙ (asked.within ∙ ap (frame before) block.by) in
          or_right (same_master (BlockMaster p) (Body (record { 0 = task })))
          (reaches before (parent_in before event (BlockMaster p)) (Body (record { 0 = task })))
          (rw under (own_frame before task (λ q inner. block_reaches_own before task q lawful.0 inner)))
      | inr older ↦
          reaches_up event before (BlockMaster p) (Body (record { 0 = task }))
          (record { event = block.event; opening = block.opening; stands = older; says = block.says })
          (block_reaches_own before task p lawful.0 (record { event = block.event; opening = block.opening; stands = older; says = block.says; by = block.by }))
    ]

-- who depends on a master depends on what is reached from it
depends_further : (journal : List Event) (u : ℕ) (x y : Master) → IsLawful journal → depends_on journal u x ≡ true → reaches journal x y ≡ true
    → depends_on journal u y ≡ true
depends_further [] u x y lawful depends further = absurd (false≢true (unfold depends_on in depends))
depends_further (event ∷ before) u x y lawful depends further =
    elim (depends_on-cases event before u x depends) [
      | inl made ↦
          let by = creation_asked event before made.creation lawful.1 made.says in
          let known = reaches_known before lawful.0 (frame before made.creation.by) made.creation.master (frame_known before made.creation.by by.asked.exists)
          by.reached in
          let there = reaches_known before lawful.0 made.creation.master x known made.reached in
          depends_on-made event before u y made.creation made.says made.newest
          (reaches_trans before lawful.0 made.creation.master x y known made.reached (reaches_down event before x y there further))
      | inr older ↦
          let there = reaches_known before lawful.0 (Body (record { 0 = u })) x (depends_exists before u x older)
          (depends_reaches before (record { 0 = u }) x older) in
          depends_on-later event before u y (depends_further before u x y lawful.0 older (reaches_down event before x y there further))
    ]

cut_within : (b : ℕ) (test : Bool) (members rest : List Member) → has_block b (cond test [] members) ≡ true
    → (has_block b members ≡ true → has_block b rest ≡ true) → has_block b rest ≡ true
cut_within b true members rest has further = absurd (false≢true has)
cut_within b false members rest has further = further has

pub within : (b inner : ℕ) (members : List Member) → has_block b (up_to inner members) ≡ true → has_block b members ≡ true
within b inner [] has = absurd (false≢true has)
within b inner (member ∷ rest) has =
    elim (or_cases (is_block b member) (has_block b (cond (is_block inner member) [] (up_to inner rest))) has) [
      | inl here ↦ or_left (is_block b member) (has_block b rest) here
      | inr later ↦ or_right (is_block b member) (has_block b rest)
          (cut_within b (is_block inner member) (up_to inner rest) rest later (λ has. within b inner rest has))
    ]

-- a block that stands outside what a task is in isn't left
enclosing_unleft : (journal : List Event) (task b : ℕ) (x : Master) → encloses task (nest journal task) x (BlockMaster b) ≡ true → is_left journal b ≡ false
enclosing_unleft journal task b (Body t) inside = absurd (false≢true inside)
enclosing_unleft journal task b (BlockMaster inner) inside = (block_in_nest journal task b (within b inner (nest journal task) inside)).1

innermost_held : (task : ℕ) (all : List Member) (outer : Master) (members : List Member) → holds task all outer ≡ true
    → ((p : ℕ) → has_block p members ≡ true → has_block p all ≡ true) → holds task all (innermost_block outer members) ≡ true
unfolding innermost_block
innermost_held task all outer [] held among = held
innermost_held task all outer (Block p ∷ rest) held among =
    innermost_held task all (BlockMaster p) rest (among p (or_left (eqb p p) (has_block p rest) (eq-eqb p p refl)))
    (λ q has. among q (or_right (eqb p q) (has_block q rest) has))
innermost_held task all outer (Rendezvous call ∷ rest) held among = innermost_held task all outer rest held among

-- a task holds its frame
frame_held : (journal : List Event) (task : ℕ) → holds task (nest journal task) (frame journal task) ≡ true
unfolding frame
frame_held journal task = innermost_held task (nest journal task) (Body (record { 0 = task })) (nest journal task) (eq-eqb task task refl) (λ p has. has)

-- no task is made that depends on a block that was left
no_late_dependent : (event : Event) (before : List Event) (u b : ℕ) → IsLawful (event ∷ before) → is_left before b ≡ true
    → ((v : ℕ) → depends_on before v (BlockMaster b) ≡ true → is_terminated before v ≡ true) → IsMadeUnder event before u (BlockMaster b) → ⊥
no_late_dependent event before u b lawful left dependents made =
    let maker = made.creation.by in
    let by = creation_asked event before made.creation lawful.1 made.says in
    let reached = reaches_trans before lawful.0 (frame before maker) made.creation.master (BlockMaster b) (frame_known before maker by.asked.exists) by.reached
    made.reached in
    let ways : (encloses maker (nest before maker) (frame before maker) (BlockMaster b) || depends_on before maker (BlockMaster b)) ≡ true =
    sym (reaches_held before maker (frame before maker) (BlockMaster b) lawful.0 by.asked.exists (frame_held before maker)) ∙ reached in
    elim (or_cases (encloses maker (nest before maker) (frame before maker) (BlockMaster b)) (depends_on before maker (BlockMaster b)) ways) [
      | inl inside ↦ true≢false (sym left ∙ enclosing_unleft before maker b (frame before maker) inside)
      | inr depends ↦ true≢false (sym (has_ended-terminated before maker (dependents maker depends)) ∙ running_live before maker by.asked.runs)
    ]

-- where a block is left all of its dependents are terminated
left_now : (event : Event) (before : List Event) (u b : ℕ) → IsLawful (event ∷ before) → Leaves event before b → depends_on before u (BlockMaster b) ≡ true
    → is_terminated before u ≡ true
unfolding is_to_leave
left_now event before u b lawful gone depends =
    let all = (and_parts (is_pending before gone.at gone.closing.by) (all_terminated before (BlockMaster gone.closing.block))
    (leaves_ready event before b lawful.1 gone)).1 in
    all_terminated_at before (BlockMaster b) u (subst (λ (n : ℕ). all_terminated before (BlockMaster n) ≡ true) gone.block all) depends

-- all that depend on a block that was left are terminated
pub a_left_block_has_no_live_dependent : ALeftBlockHasNoLiveDependent
unfolding is_left any_event
a_left_block_has_no_live_dependent [] b u lawful left depends = absurd (false≢true left)
a_left_block_has_no_live_dependent (event ∷ before) b u lawful left depends =
    elim (left_cases event before b lawful left) [
      | inl gone ↦
          elim (depends_on-cases event before u (BlockMaster b) depends) [
            | inl made ↦ absurd (none-some made.creation (sym (leaving_makes_none event gone.at gone.leaves) ∙ made.says))
            | inr older ↦ is_terminated-more event before u (left_now event before u b lawful gone older)
          ]
      | inr was ↦
          elim (depends_on-cases event before u (BlockMaster b) depends) [
            | inl made ↦ absurd (no_late_dependent event before u b lawful was (λ v on. a_left_block_has_no_live_dependent before b v lawful.0 was on) made)
            | inr older ↦ is_terminated-more event before u (a_left_block_has_no_live_dependent before b u lawful.0 was older)
          ]
    ]

-- a task on whose body a live task depends is live
holder_live : (journal : List Event) (task holder : ℕ) → IsLawful journal → is_terminated journal task ≡ false
    → depends_on journal task (Body (record { 0 = holder })) ≡ true → is_terminated journal holder ≡ false
holder_live journal task holder lawful live depends =
    false_from_ne_true (is_terminated journal holder) (λ ended.
    true≢false (sym (a_terminated_body_has_no_live_dependent journal lawful (record { 0 = holder }) task ended depends) ∙ live))

of_block : (journal : List Event) (task b : ℕ) → IsLawful journal → IsKnown journal (BlockMaster b) → is_terminated journal task ≡ false
    → depends_on journal task (BlockMaster b) ≡ true → IsHeld journal task (BlockMaster b)
of_block journal task b lawful known live depends =
    let holder = known.opening.by in
    let own : IsBlockOf journal holder b = record { event = known.event; opening = known.opening; stands = known.stands; says = known.says; by = refl } in
    let on_body = depends_further journal task (BlockMaster b) (Body (record { 0 = holder })) lawful depends (block_reaches_own journal holder b lawful own) in
    let unleft : is_left journal b ≡ false =
    false_from_ne_true (is_left journal b) (λ left. true≢false (sym (a_left_block_has_no_live_dependent journal b task lawful left depends) ∙ live)) in
    let held = nest_has_block journal holder b own unleft in
    record {
      holder = holder;
      before = depends_after journal task (record { 0 = holder }) lawful on_body;
      held = held;
      live = holder_live journal task holder lawful live on_body;
      alone = λ other has. one_holder journal other holder (BlockMaster b) has held;
    }

of_body : (journal : List Event) (task holder : ℕ) → IsLawful journal → is_terminated journal task ≡ false
    → depends_on journal task (Body (record { 0 = holder })) ≡ true → IsHeld journal task (Body (record { 0 = holder }))
of_body journal task holder lawful live depends = record {
  holder = holder;
  before = depends_after journal task (record { 0 = holder }) lawful depends;
  held = eq-eqb holder holder refl;
  live = holder_live journal task holder lawful live depends;
  alone = λ other has. one_holder journal other holder (Body (record { 0 = holder })) has (eq-eqb holder holder refl);
}

pub of_master : (journal : List Event) (task : ℕ) (x : Master) → IsLawful journal → IsKnown journal x → is_terminated journal task ≡ false
    → depends_on journal task x ≡ true → IsHeld journal task x
of_master journal task (Body t) lawful known live depends = of_body journal task t.0 lawful live depends
of_master journal task (BlockMaster b) lawful known live depends = of_block journal task b lawful known live depends

-- what a live task was made under is held by one live task, which was made before
pub masters_are_held : MastersAreHeld
masters_are_held journal task c lawful says live =
    of_master journal task c.master lawful (master_known journal (record { 0 = task }) c lawful says) live
    (tasks_depend_by_parents journal (record { 0 = task }) c.master lawful ∙ rw says (reaches-same journal c.master))
