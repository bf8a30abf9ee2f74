-- Parents: what is reached from a master is the master, or is reached from its parent.
use Rattle.std.proofs.Common.{◌≡◌, ℕ, suc, ◌<◌, ◌≤◌, Bool, true, false, ◌||◌, Option, Some, None, List, [], ◌∷◌, length, sym, refl, ap, ◌∙◌, subst, arith, inl}
use Rattle.std.proofs.Common.{inr, eqb}
use Rattle.std.specs.Prelude.{if◌then◌else◌}
use Rattle.std.specs.Option.{option_map, option_map_or, option_len}
use Rattle.std.proofs.lemmas.Bool.{cases_eq, eq-eqb, ne_eqb, false_from_ne_true}
use Rattle.std.proofs.Math.Bool.{or-true, or-false}
use Rattle.std.proofs.lemmas.Option.{none-some}
use Rattle.ada_events.specs.declared.event.Event.{Event}
use Rattle.ada_events.specs.declared.names.TaskNo.{TaskNo}
use Rattle.ada_events.specs.declared.names.Master.{Master}
use Rattle.ada_events.specs.declared.names.Master.TheVariants.{Body, Block}
use Rattle.ada_events.specs.Search.{is_some_and, event_at}
use Rattle.ada_events.specs.Says.{Creation, Opening, creation_in, opening_in}
use Rattle.ada_events.specs.Tasks.{task_count, creation_of}
use Rattle.ada_events.specs.Masters.{same_master, reaches, depends_on}
use Rattle.ada_events.specs.Nests.{frame}
use Rattle.ada_events.specs.Lawful.{IsLawful}
use Rattle.ada_laws.specs.Masters.{parent_of, IsKnown, MastersReachByParents, TasksDependByParents}
use Rattle.ada_laws.specs.Unlimited.{IsLawfulUnlimited}
use Rattle.ada_laws.proofs.asking.Limitless.{lawful_unlimited}
use Rattle.ada_laws.proofs.within.Depending.{depends_exists}
use Rattle.ada_laws.proofs.searching.Searching.{option_or-some, if_some, event_at-cases, event_at-newest, event_at-within}
use Rattle.ada_laws.proofs.within.Reaching.{reaches-same, known_later, parent_in-known, parent_in-created, parent_in-opened, reaches_up, reaches_down}
use Rattle.ada_laws.proofs.within.Reaching.{frame_known, creation_asked-unlimited, opening_asked-unlimited, reaches_known-unlimited}
use Rattle.ada_events.proofs.Positions.{event_at-other}

pub same_truth : (a b : Bool) → (a ≡ true → b ≡ true) → (b ≡ true → a ≡ true) → a ≡ b
same_truth true b forth back = sym (forth refl)
same_truth false true forth back = back refl
same_truth false false forth back = refl

-- a master is known before the newest event, or made by it
pub data IsMade (event : Event) (before : List Event) : Master → Type 0 where
  earlier : (x : Master) → IsKnown before x → IsMade event before x
  body : (t : TaskNo) (c : Creation) → creation_in event ≡ Some c → t.0 ≡ task_count before → IsMade event before (Body t)
  block : (p : ℕ) (o : Opening) → opening_in event ≡ Some o → p ≡ suc (length before) → IsMade event before (Block p)

made_body : (event : Event) (before : List Event) (t : TaskNo) (o : Option Creation) → creation_in event ≡ o → t.0 < task_count (event ∷ before)
    → IsMade event before (Body t)
unfolding task_count
made_body event before t None none below = earlier (Body t) (omega (arith, ap option_len none))
made_body event before t (Some c) says below =
    elim (cases_eq t.0 (task_count before)) [
      | inl same ↦ body t c says same
      | inr differs ↦ earlier (Body t) (omega (arith, ap option_len says))
    ]

made_cases : (event : Event) (before : List Event) (x : Master) → IsKnown (event ∷ before) x → IsMade event before x
made_cases event before (Body t) known = made_body event before t (creation_in event) refl known
made_cases event before (Block p) known =
    elim (event_at-cases event before p known.event known.stands) [
      | inl newest ↦ block p known.opening (ap opening_in newest.1 ∙ known.says) newest.0
      | inr older ↦ earlier (Block p) (record { event = known.event; opening = known.opening; stands = older; says = known.says })
    ]

-- what is reached from a master that was known before stays the same
reaches_later : (event : Event) (before : List Event) (x y : Master) → IsKnown before x → reaches (event ∷ before) x y ≡ reaches before x y
reaches_later event before x y known =
    same_truth (reaches (event ∷ before) x y) (reaches before x y) (reaches_down event before x y known) (reaches_up event before x y known)

-- the parent of a master that was known before stays the same
pub parent_of-later : (event : Event) (before : List Event) (x : Master) → IsKnown before x → parent_of (event ∷ before) x ≡ parent_of before x
unfolding creation_of
parent_of-later event before (Body t) known =
    rw (ne_eqb t.0 (task_count before) (λ same. omega (arith, same, known))) refl
parent_of-later event before (Block p) known =
    let within : p ≤ length before = event_at-within before p known.event known.stands in
    rw (event_at-other event before p (omega arith)) refl

pub parent_of-body : (event : Event) (before : List Event) (t : TaskNo) (c : Creation) → creation_in event ≡ Some c → t.0 ≡ task_count before
    → parent_of (event ∷ before) (Body t) ≡ Some c.master
unfolding creation_of
parent_of-body event before t c says same = rw (eq-eqb t.0 (task_count before) same, says) refl

pub parent_of-block : (event : Event) (before : List Event) (p : ℕ) (o : Opening) → opening_in event ≡ Some o → p ≡ suc (length before)
    → parent_of (event ∷ before) (Block p) ≡ Some o.under
parent_of-block event before p o says same = rw (same, event_at-newest event before, says) refl

pub creation_known-unlimited : (event : Event) (before : List Event) (c : Creation) → IsLawfulUnlimited (event ∷ before) → creation_in event ≡ Some c
    → IsKnown before c.master
creation_known-unlimited event before c lawful says =
    let by = creation_asked-unlimited event before c lawful.1 says in
    reaches_known-unlimited before lawful.0 (frame before c.by) c.master (frame_known before c.by by.asked.exists) by.reached

opening_known-unlimited : (event : Event) (before : List Event) (o : Opening) → IsLawfulUnlimited (event ∷ before) → opening_in event ≡ Some o
    → IsKnown before o.under
opening_known-unlimited event before o lawful says =
    let by = opening_asked-unlimited event before o lawful.1 says in
    subst (λ (x : Master). IsKnown before x) (sym by.within) (frame_known before o.by by.exists)

abbrev by_parent : List Event → Master → Master → Bool
by_parent journal x y = same_master x y || is_some_and (parent_of journal x) (λ (z : Master). reaches journal z y)

older_parent-unlimited : (event : Event) (before : List Event) (x y : Master) (o : Option Master) → IsLawfulUnlimited before → IsKnown before x
    → ((z : Master) → reaches before x z ≡ by_parent before x z) → parent_of before x ≡ o
    → option_map_or (λ (z : Master). reaches (event ∷ before) z y) o false ≡ option_map_or (λ (z : Master). reaches before z y) o false
older_parent-unlimited event before x y None lawful known older is = refl
older_parent-unlimited event before x y (Some z) lawful known older is =
    let reached : reaches before x z ≡ true = older z ∙ rw (is, reaches-same before z) (or-true (same_master x z)) in
    reaches_later event before z y (reaches_known-unlimited before lawful x z known reached)

or_twice : (a b : Bool) → (a || (a || b)) ≡ (a || b)
or_twice true b = refl
or_twice false b = refl

by_making-unlimited : (event : Event) (before : List Event) (x y : Master) → IsLawfulUnlimited (event ∷ before) → IsMade event before x
    → (IsKnown before x → (z : Master) → reaches before x z ≡ by_parent before x z) → reaches (event ∷ before) x y ≡ by_parent (event ∷ before) x y
unfolding reaches
by_making-unlimited event before x y lawful (earlier z known) older =
    rw (
      parent_in-known event before z known,
      parent_of-later event before z known,
      older_parent-unlimited event before z y (parent_of before z) lawful.0 known
          (older known) refl,
      older known y,
    )
    (or_twice (same_master z y) (option_map_or (λ (m : Master). reaches before m y) (parent_of before z) false))
by_making-unlimited event before x y lawful (body t c says same) older =
    rw (parent_in-created event before t c says same, parent_of-body event before t c says same)
    (ap (λ b. same_master (Body t) y || b) (sym (reaches_later event before c.master y (creation_known-unlimited event before c lawful says))))
by_making-unlimited event before x y lawful (block p o says same) older =
    rw (parent_in-opened event before p o says same, parent_of-block event before p o says same)
    (ap (λ b. same_master (Block p) y || b) (sym (reaches_later event before o.under y (opening_known-unlimited event before o lawful says))))

-- what is reached from a master is that master, or is reached from its parent
pub masters_reach_by_parents-unlimited : (journal : List Event) (from to : Master) → IsLawfulUnlimited journal → IsKnown journal from
    → reaches journal from to ≡ (same_master from to || is_some_and (parent_of journal from) (λ (parent : Master). reaches journal parent to))
unfolding reaches creation_of event_at
masters_reach_by_parents-unlimited [] (Body t) y lawful known = sym (or-false (same_master (Body t) y))
masters_reach_by_parents-unlimited [] (Block p) y lawful known = sym (or-false (same_master (Block p) y))
masters_reach_by_parents-unlimited (event ∷ before) x y lawful known =
    by_making-unlimited event before x y lawful (made_cases event before x known)
    (λ earlier z. masters_reach_by_parents-unlimited before x z lawful.0 earlier)

pub masters_reach_by_parents : MastersReachByParents
masters_reach_by_parents journal x y lawful known = masters_reach_by_parents-unlimited journal x y (lawful_unlimited journal lawful) known

-- who isn't made yet depends on nothing
nobody : (before : List Event) (u : ℕ) (y : Master) → u ≡ task_count before → depends_on before u y ≡ false
nobody before u y same =
    false_from_ne_true (depends_on before u y) (λ depends.
    let below : u < task_count before = depends_exists before u y depends in
    omega arith)

none_if : (b : Bool) → (if b then (let o : Option Creation = None in o) else None) ≡ None
none_if true = refl
none_if false = refl

-- the master of a task is known
pub master_known-unlimited : (journal : List Event) (t : TaskNo) (c : Creation) → IsLawfulUnlimited journal → creation_of journal t.0 ≡ Some c
    → IsKnown journal c.master
unfolding creation_of
master_known-unlimited [] t c lawful says = absurd (none-some c says)
master_known-unlimited (event ∷ before) t c lawful says =
    known_later event before c.master
    (elim (option_or-some (if eqb t.0 (task_count before) then creation_in event else None) (creation_of before t.0) c says) [
      | inl now ↦ creation_known-unlimited event before c lawful (if_some (eqb t.0 (task_count before)) (creation_in event) c now).1
      | inr was ↦ master_known-unlimited before t c lawful.0 was
    ])

pub master_known : (journal : List Event) (t : TaskNo) (c : Creation) → IsLawful journal → creation_of journal t.0 ≡ Some c → IsKnown journal c.master
master_known journal t c lawful says = master_known-unlimited journal t c (lawful_unlimited journal lawful) says

of_older-unlimited : (event : Event) (before : List Event) (t : TaskNo) (y : Master) (o : Option Creation) → IsLawfulUnlimited before
    → creation_of before t.0 ≡ o → option_map_or (λ (z : Master). reaches before z y) (option_map (λ (c : Creation). c.master) o) false
    ≡ option_map_or (λ (z : Master). reaches (event ∷ before) z y) (option_map (λ (c : Creation). c.master) o) false
of_older-unlimited event before t y None lawful says = refl
of_older-unlimited event before t y (Some c) lawful says = sym (reaches_later event before c.master y (master_known-unlimited before t c lawful says))

of_creation-unlimited : (event : Event) (before : List Event) (t : TaskNo) (y : Master) → IsLawfulUnlimited (event ∷ before) → (o : Option Creation)
    → creation_in event ≡ o → depends_on before t.0 y ≡ option_map_or (λ (z : Master). reaches before z y) (parent_of before (Body t)) false
    → depends_on (event ∷ before) t.0 y ≡ option_map_or (λ (z : Master). reaches (event ∷ before) z y) (parent_of (event ∷ before) (Body t)) false
unfolding depends_on creation_of
of_creation-unlimited event before t y lawful None says older =
    rw (says, none_if (eqb t.0 (task_count before)), older) (of_older-unlimited event before t y (creation_of before t.0) lawful.0 refl)
of_creation-unlimited event before t y lawful (Some c) says older =
    elim (cases_eq t.0 (task_count before)) [
      | inl same ↦
          rw (says, eq-eqb t.0 (task_count before) same, nobody before t.0 y same)
          (or-false (reaches before c.master y) ∙ sym (reaches_later event before c.master y (creation_known-unlimited event before c lawful says)))
      | inr differs ↦
          rw (says, ne_eqb t.0 (task_count before) differs, older) (of_older-unlimited event before t y (creation_of before t.0) lawful.0 refl)
    ]

-- who depends on a master was made under it, or under one from which it is reached
pub tasks_depend_by_parents-unlimited : (journal : List Event) (task : TaskNo) (master : Master) → IsLawfulUnlimited journal
    → depends_on journal task.0 master ≡ is_some_and (parent_of journal (Body task)) (λ (parent : Master). reaches journal parent master)
unfolding depends_on creation_of
tasks_depend_by_parents-unlimited [] t y lawful = refl
tasks_depend_by_parents-unlimited (event ∷ before) t y lawful =
    of_creation-unlimited event before t y lawful (creation_in event) refl (tasks_depend_by_parents-unlimited before t y lawful.0)

pub tasks_depend_by_parents : TasksDependByParents
tasks_depend_by_parents journal t y lawful = tasks_depend_by_parents-unlimited journal t y (lawful_unlimited journal lawful)
