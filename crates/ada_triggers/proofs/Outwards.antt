-- The way outwards from a task, from holder to holder of what each was made under.
use Rattle.std.proofs.Common.{◌≡◌, ◌⊎◌, ℕ, ◌<◌, ◌≤◌, true, false, List, Some, None, sym, refl, ap, ◌∙◌, subst, arith, inl, inr}
use Rattle.std.specs.Option.{option_map, option_and_then}
use Rattle.std.proofs.lemmas.Bool.{or_cases, eqb-true, false≢true}
use Rattle.std.proofs.lemmas.Option.{none-some, same_Some}
use Rattle.ada_events.specs.declared.event.Event.{Event}
use Rattle.ada_events.specs.declared.names.TaskNo.{TaskNo}
use Rattle.ada_events.specs.declared.names.Master.{Master}
use Rattle.ada_events.specs.declared.names.Master.TheVariants.{Body, Block}
use Rattle.ada_events.specs.declared.names.Member.{Member}
use Rattle.ada_events.specs.Says.{Opening, Creation, opening_in}
use Rattle.ada_events.specs.Tasks.{task_count, creation_of}
use Rattle.ada_events.specs.Masters.{reaches, depends_on}
use Rattle.ada_events.specs.Phases.{is_terminated}
use Rattle.ada_events.specs.Nests.{nest}
use Rattle.ada_events.specs.Lawful.{IsLawful}
use Rattle.ada_laws.specs.Masters.{parent_of}
use Rattle.ada_laws.proofs.searching.Searching.{option_map-some, option_map_or-true, option_and_then-some}
use Rattle.ada_laws.proofs.within.Depending.{depends_exists}
use Rattle.ada_laws.proofs.within.Parents.{tasks_depend_by_parents}
use Rattle.ada_step_laws.specs.declared.row.Row.{Row}
use Rattle.ada_events.specs.Holders.{holds, encloses}
use Rattle.ada_agenda.specs.Keeping.{has_key, Grows, Puts}
use Rattle.ada_agenda.proofs.Noting.{grows_same, grows_on}
use Rattle.ada_step_laws.proofs.holding.LiveHolders.{within, masters_are_held}
use Rattle.ada_step_laws.proofs.holding.Enclosing.{reaches_held}
use Rattle.ada_laws.proofs.within.Owners.{block_in_nest, one_holder}
use Rattle.ada_triggers.specs.internal.Keys.{AsHolder, AsDependent, holder_of, holder_above}
use Rattle.ada_triggers.specs.internal.Keys.AsDependent.{through}

pub holds_enclosed : (task : ℕ) (members : List Member) (from to : Master) → encloses task members from to ≡ true → holds task members to ≡ true
holds_enclosed task members from (Body t) inside = inside
holds_enclosed task members (Body t) (Block b) inside = absurd (false≢true inside)
holds_enclosed task members (Block inner) (Block b) inside = within b inner members inside

-- who holds a master is found by it
pub holder_found : (journal : List Event) (task : ℕ) (x : Master) → holds task (nest journal task) x ≡ true → holder_of journal x ≡ Some task
holder_found journal task (Body t) has = ap Some (eqb-true t.0 task has)
holder_found journal task (Block p) has =
    let own = (block_in_nest journal task p has).0 in
    ap (option_map (λ (o : Opening). o.by)) (ap (option_and_then opening_in) own.stands ∙ own.says) ∙ ap Some own.by

-- the holder above a task that isn't terminated
pub record IsAbove (journal : List Event) (task holder : ℕ) : Type 0 where
  pub creation : Creation
  pub made : creation_of journal task ≡ Some creation
  pub held : holds holder (nest journal holder) creation.master ≡ true
  pub before : holder < task
  pub live : is_terminated journal holder ≡ false

pub is_above : (journal : List Event) (task holder : ℕ) → IsLawful journal → is_terminated journal task ≡ false → holder_above journal task ≡ Some holder
    → IsAbove journal task holder
is_above journal task holder lawful live above =
    let (c, made, of) = option_and_then-some (λ (c : Creation). holder_of journal c.master) (creation_of journal task) holder above in
    let held = masters_are_held journal task c lawful made live in
    let same : held.holder ≡ holder = same_Some held.holder holder (sym (holder_found journal held.holder c.master held.held) ∙ of) in
    record {
      creation = c;
      made = made;
      held = subst (λ n. holds n (nest journal n) c.master ≡ true) same held.held;
      before = subst (λ n. n < task) same held.before;
      live = subst (λ n. is_terminated journal n ≡ false) same held.live;
    }

-- a task that depends on a master was made
made_by : (journal : List Event) (task : ℕ) (m : Master) → IsLawful journal → depends_on journal task m ≡ true
    → (c : Creation) × (creation_of journal task ≡ Some c)
made_by journal task m lawful depends =
    let t : TaskNo = record { 0 = task } in
    let (p, parent, reached) =
    option_map_or-true (λ (p : Master). reaches journal p m) (parent_of journal (Body t)) (sym (tasks_depend_by_parents journal t m lawful) ∙ depends) in
    let (c, made, same) = option_map-some (λ (c : Creation). c.master) (creation_of journal task) p parent in
    (c, made)

-- what a task depends on its holder holds or depends on
holder_too : (journal : List Event) (task holder : ℕ) (m : Master) → IsLawful journal → holder < task_count journal → IsAbove journal task holder
    → depends_on journal task m ≡ true → (holds holder (nest journal holder) m ≡ true) ⊎ (depends_on journal holder m ≡ true)
holder_too journal task holder m lawful known above depends =
    let reached : reaches journal above.creation.master m ≡ true =
    sym (tasks_depend_by_parents journal (record { 0 = task }) m lawful ∙ rw above.made refl) ∙ depends in
    elim (or_cases (encloses holder (nest journal holder) above.creation.master m) (depends_on journal holder m)
    (sym (reaches_held journal holder above.creation.master m lawful known above.held) ∙ reached)) [
      | inl inside ↦ inl (holds_enclosed holder (nest journal holder) above.creation.master m inside)
      | inr further ↦ inr further
    ]

-- what is to be put for a master is
pub record IsPut (journal : List Event) (new : List (List ℕ)) (m : Master) : Type 0 where
  pub holder : ℕ
  pub held : holds holder (nest journal holder) m ≡ true
  pub here : (row : Row) (key : ℕ) → AsHolder journal holder row key → has_key new row key ≡ true

-- on the way outwards from a task, at another
pub record IsUnderWay (journal : List Event) (task inner : ℕ) (old new : List (List ℕ)) : Type 0 where
  pub known : inner < task_count journal
  pub live : is_terminated journal inner ≡ false
  pub grows : Grows old new
  pub here : (m : Master) → depends_on journal task m ≡ true → IsPut journal new m ⊎ (depends_on journal inner m ≡ true)

pub way_begins : (journal : List Event) (task : ℕ) (old : List (List ℕ)) → task < task_count journal → is_terminated journal task ≡ false
    → IsUnderWay journal task task old old
way_begins journal task old known live = record { known = known; live = live; grows = grows_same old; here = λ m depends. inr depends }

still_put : (journal : List Event) (mid new : List (List ℕ)) (m : Master) → IsPut journal mid m → Grows mid new → IsPut journal new m
still_put journal mid new m put grows =
    record { holder = put.holder; held = put.held; here = λ row key of. grows.kept row key (put.here row key of) }

pub holder_known : (journal : List Event) (task inner holder : ℕ) (old mid : List (List ℕ)) → IsLawful journal → IsUnderWay journal task inner old mid
    → holder_above journal inner ≡ Some holder → holder < task_count journal
holder_known journal task inner holder old mid lawful way above =
    let up = is_above journal inner holder lawful way.live above in
    let below : holder < inner = up.before in
    let known : inner < task_count journal = way.known in
    omega (arith, below, known)

pub way_goes_on : (journal : List Event) (task inner holder : ℕ) (old mid new : List (List ℕ)) → IsLawful journal → IsUnderWay journal task inner old mid
    → holder_above journal inner ≡ Some holder → Puts mid new (AsHolder journal holder) → IsUnderWay journal task holder old new
way_goes_on journal task inner holder old mid new lawful way above puts =
    let up = is_above journal inner holder lawful way.live above in
    let known = holder_known journal task inner holder old mid lawful way above in
    record {
      known = known;
      live = up.live;
      grows = grows_on old mid new way.grows puts.grows;
      here = λ m depends.
          elim (way.here m depends) [
            | inl put ↦ inl (still_put journal mid new m put puts.grows)
            | inr inner_too ↦
                elim (holder_too journal inner holder m lawful known up inner_too) [
                  | inl held ↦ inl (record { holder = holder; held = held; here = puts.here })
                  | inr further ↦ inr further
                ]
          ];
    }

-- who has no holder above depends on nothing
outermost : (journal : List Event) (inner : ℕ) (m : Master) → IsLawful journal → is_terminated journal inner ≡ false → holder_above journal inner ≡ None
    → depends_on journal inner m ≡ true → ⊥
outermost journal inner m lawful live none depends =
    let (c, made) = made_by journal inner m lawful depends in
    let held = masters_are_held journal inner c lawful made live in
    none-some held.holder (sym none ∙ (ap (option_and_then (λ (c : Creation). holder_of journal c.master)) made
    ∙ holder_found journal held.holder c.master held.held))

has_dependent : (journal : List Event) (task inner : ℕ) (old new : List (List ℕ)) (row : Row) (key : ℕ) → IsLawful journal
    → IsUnderWay journal task inner old new
    → holder_above journal inner ≡ None → AsDependent journal task row key → has_key new row key ≡ true
has_dependent journal task inner old new row key lawful way none (through holder m at k live depends held of) =
    elim (way.here m depends) [
      | inl put ↦ put.here at k (subst (λ n. AsHolder journal n at k) (one_holder journal holder put.holder m held put.held) of)
      | inr further ↦ absurd (outermost journal inner m lawful way.live none further)
    ]

pub way_ends : (journal : List Event) (task inner : ℕ) (old new : List (List ℕ)) → IsLawful journal → IsUnderWay journal task inner old new
    → holder_above journal inner ≡ None → Puts old new (AsDependent journal task)
way_ends journal task inner old new lawful way none =
    record { grows = way.grows; here = λ row key of. has_dependent journal task inner old new row key lawful way none of }

-- nothing is asked of a terminated task, nor of none
no_dependent : (journal : List Event) (new : List (List ℕ)) (task : ℕ) (row : Row) (key : ℕ)
    → ((m : Master) → is_terminated journal task ≡ false → depends_on journal task m ≡ true → ⊥) → AsDependent journal task row key → has_key new row key ≡ true
no_dependent journal new task row key none (through holder m at k live depends held of) = absurd (none m live depends)

pub dependent_ended : (journal : List Event) (old : List (List ℕ)) (task : ℕ)
    → ((m : Master) → is_terminated journal task ≡ false → depends_on journal task m ≡ true → ⊥) → Puts old old (AsDependent journal task)
dependent_ended journal old task none = record { grows = grows_same old; here = λ row key of. no_dependent journal old task row key none of }

pub dependent_unknown : (journal : List Event) (old : List (List ℕ)) (task : ℕ) → task_count journal ≤ task → Puts old old (AsDependent journal task)
dependent_unknown journal old task beyond =
    dependent_ended journal old task (λ m live depends.
    let known : task < task_count journal = depends_exists journal task m depends in
    omega (arith, beyond, known))
