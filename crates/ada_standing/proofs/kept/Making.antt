-- Who made a task and within what, alike after one more event: who may still activate it, and whether it is abandoned.
use Rattle.std.proofs.Common.{◌≡◌, ℕ, ◌<◌, ◌≤◌, Bool, true, false, not, ◌&&◌, ◌||◌, eqb, Option, Some, None, List, ◌∷◌, length, refl, sym, ap, ◌∙◌}
use Rattle.std.proofs.Common.{arith, inl, inr}
use Rattle.std.specs.Option.{option_and_then}
use Rattle.std.specs.Bool.{then_some}
use Rattle.std.specs.List.{list_any}
use Rattle.std.proofs.lemmas.Bool.{cases_Bool, and_parts, or_cases, or_left, or_right, not-true, not_from_true, true≢false}
use Rattle.std.proofs.lemmas.Bool.{and_right}
use Rattle.std.proofs.lemmas.Option.{none-some, same_Some}
use Rattle.ada_events.specs.declared.event.Event.{Event}
use Rattle.ada_events.specs.declared.names.Master.{Master}
use Rattle.ada_events.specs.declared.names.Master.TheVariants.{Body, Block}
use Rattle.ada_events.specs.Search.{is_some_and}
use Rattle.ada_events.specs.Says.{Creation, Opening, Closing, creation_in, opening_at, closing_in}
use Rattle.ada_events.specs.Tasks.{creation_of}
use Rattle.ada_events.specs.Phases.{has_start, is_completed, is_terminated, has_ended}
use Rattle.ada_events.specs.Termination.{is_complete_block, is_complete, is_abandoned}
use Rattle.ada_laws.proofs.searching.Searching.{event_at-within, then_some-some}
use Rattle.ada_laws.proofs.searching.Growing.{is_completed-more, has_ended-more}
use Rattle.ada_laws.proofs.within.Framing.{IsBlockOf, block_later}
use Rattle.ada_laws.proofs.within.Depending.{created_positive}
use Rattle.ada_standing.specs.Renaming.{Renaming}
use Rattle.ada_standing.specs.internal.Next.{next_names}
use Rattle.ada_standing.specs.StandsIn.{activator_of}
use Rattle.ada_standing.proofs.alike.Orderly.{IsLivedIn}
use Rattle.ada_standing.proofs.alike.Pairs.{live_from, live_parts}
use Rattle.ada_standing.proofs.alike.Mastering.{lived_known}
use Rattle.ada_standing.proofs.kept.Fitting.{IsMaker}
use Rattle.ada_standing.proofs.kept.Naming.{AreNext, AreOld, one_task, old_task, next_cases, task_later, creation_older}
use Rattle.ada_standing.proofs.kept.Naming.{creation_newest}
use Rattle.ada_standing.proofs.kept.Newness.{making_only}
use Rattle.ada_standing.proofs.kept.Tasks.{main_or_made}
use Rattle.ada_standing.proofs.kept.Terminating.{unterminated_before, made_fresh, terminated_old}
use Rattle.ada_standing.proofs.kept.Phases.{unnamed_before, starts_now}
use Rattle.ada_events.proofs.Positions.{event_at-other}

-- the activator of a task, where its creation is known

-- it may be activated: no start names it, and its maker isn't terminated
abbrev pub is_waiting : List Event → ℕ → Creation → Bool
is_waiting journal u c = not (has_start journal u) && not (is_terminated journal c.by)

activator_is : (journal : List Event) (u : ℕ) (c : Creation) → creation_of journal u ≡ Some c
    → activator_of journal u ≡ then_some (is_waiting journal u c) c.by
unfolding activator_of
activator_is journal u c is = rw is refl

activator_none : (journal : List Event) (u : ℕ) → creation_of journal u ≡ None → activator_of journal u ≡ None
unfolding activator_of
activator_none journal u none = rw none refl

waiting_parts : (journal : List Event) (u : ℕ) (c : Creation) → is_waiting journal u c ≡ true
    → (has_start journal u ≡ false) × (is_terminated journal c.by ≡ false)
waiting_parts journal u c waits =
    let both = and_parts (not (has_start journal u)) (not (is_terminated journal c.by)) waits in
    (not-true (has_start journal u) both.0, not-true (is_terminated journal c.by) both.1)

pub waiting_from : (journal : List Event) (u : ℕ) (c : Creation) → has_start journal u ≡ false → is_terminated journal c.by ≡ false
    → is_waiting journal u c ≡ true
waiting_from journal u c never still = rw (never, still) refl

waiting_before : (event : Event) (before : List Event) (u : ℕ) (c : Creation) → is_waiting (event ∷ before) u c ≡ true → is_waiting before u c ≡ true
waiting_before event before u c waits =
    let parts = waiting_parts (event ∷ before) u c waits in
    waiting_from before u c (unnamed_before event before u parts.0) (unterminated_before event before c.by parts.1)

-- who waits no more doesn't wait later
no_waiting : (event : Event) (before : List Event) (u : ℕ) (c : Creation) → is_waiting before u c ≡ false → is_waiting (event ∷ before) u c ≡ false
no_waiting event before u c never = elim (cases_Bool (is_waiting (event ∷ before) u c)) [
  | inl waits ↦ absurd (true≢false (sym (waiting_before event before u c waits) ∙ never))
  | inr none ↦ none
]

if_alike : (to : ℕ → Option ℕ) (b d : Bool) (x y : ℕ) → d ≡ b → (b ≡ true → to x ≡ Some y) → then_some d y ≡ option_and_then to (then_some b x)
if_alike to true d x y same named = rw same (sym (named refl))
if_alike to false d x y same named = rw same refl

-- an event that makes a task terminates nobody, and completes no master
pub making_terminates_none : (event : Event) (before : List Event) (u : ℕ) (c : Creation) → creation_in event ≡ Some c
    → is_terminated (event ∷ before) u ≡ is_terminated before u
unfolding is_terminated
making_terminates_none event before u c says =
    let only = making_only event c says in
    rw (only.ends, only.quits) refl

making_completes_none : (event : Event) (before : List Event) (u : ℕ) (c : Creation) → creation_in event ≡ Some c
    → is_completed (event ∷ before) u ≡ is_completed before u
unfolding is_completed
making_completes_none event before u c says =
    let only = making_only event c says in
    rw only.completes refl

making_ends_none : (event : Event) (before : List Event) (u : ℕ) (c : Creation) → creation_in event ≡ Some c
    → has_ended (event ∷ before) u ≡ has_ended before u
unfolding has_ended
making_ends_none event before u c says = rw (making_completes_none event before u c says, making_terminates_none event before u c says) refl

opener_alike : (test there : ℕ → Bool) (o : Option Opening) → ((u : ℕ) → test u ≡ there u)
    → is_some_and o (λ (x : Opening). test x.by) ≡ is_some_and o (λ (x : Opening). there x.by)
opener_alike test there None same = refl
opener_alike test there (Some x) same = same x.by

pub making_keeps_complete : (event : Event) (before : List Event) (x : Master) (c : Creation) → creation_in event ≡ Some c → IsLivedIn before x
    → is_complete (event ∷ before) x ≡ is_complete before x
unfolding is_complete is_complete_block
making_keeps_complete event before (Body t) c says lived = making_completes_none event before t.0 c says
making_keeps_complete event before (Block p) c says lived =
    let only = making_only event c says in
    let known = lived_known before (Block p) lived in
    let within : p ≤ length before = event_at-within before p known.event known.stands in
    rw (only.closes, event_at-other event before p (λ same. omega (arith, same, within)))
    (ap (λ b. list_any (λ (e : Event). is_some_and (closing_in e) (λ (c : Closing). eqb c.block p)) before || b)
    (opener_alike (has_ended (event ∷ before)) (has_ended before) (opening_at before p) (λ u. making_ends_none event before u c says)))

-- a block is closed
abbrev pub is_closed : List Event → ℕ → Bool
is_closed journal p = list_any (λ (e : Event). is_some_and (closing_in e) (λ (c : Closing). eqb c.block p)) journal

-- a block that a task opened is complete where it is closed, or the task has ended
pub block_complete : (journal : List Event) (task p : ℕ) → IsBlockOf journal task p
    → is_complete journal (Block p) ≡ (is_closed journal p || has_ended journal task)
unfolding is_complete is_complete_block
block_complete journal task p block = rw (block.stands, block.says, block.by) refl

-- what is complete stays so, of what a task was made within
pub complete_more : (event : Event) (before : List Event) (c : Creation) → IsMaker before c → is_complete before c.under ≡ true
    → is_complete (event ∷ before) c.under ≡ true
unfolding is_complete
complete_more event before c maker complete =
    elim maker.within [
      | inl body ↦ rw body (is_completed-more event before c.by (rw body at complete))
      | inr (p, block, is) ↦
          rw is (block_complete (event ∷ before) c.by p (block_later event before c.by p block)
          ∙ elim (or_cases (is_closed before p) (has_ended before c.by) (sym (block_complete before c.by p block) ∙ (rw is at complete))) [
            | inl closed ↦
                or_left (is_closed (event ∷ before) p) (has_ended (event ∷ before) c.by)
                (or_right (is_some_and (closing_in event) (λ (k : Closing). eqb k.block p)) (is_closed before p) closed)
            | inr ended ↦ or_right (is_closed (event ∷ before) p) (has_ended (event ∷ before) c.by) (has_ended-more event before c.by ended)
          ])
    ]

-- the task is abandoned, where its creation is known and no start names it
pub abandoned_is : (journal : List Event) (u : ℕ) (c : Creation) → creation_of journal u ≡ Some c → has_start journal u ≡ false
    → is_abandoned journal u ≡ (is_complete journal c.under || is_terminated journal c.by)
unfolding is_abandoned
abandoned_is journal u c is never = rw (is, never) (and_true (is_complete journal c.under || is_terminated journal c.by))
  where
    and_true : (b : Bool) → (b && not false) ≡ b
    and_true true = refl
    and_true false = refl

pub never_abandoned : (journal : List Event) (u : ℕ) → has_start journal u ≡ true → is_abandoned journal u ≡ false
unfolding is_abandoned
never_abandoned journal u named =
    and_right (is_some_and (creation_of journal u) (λ (c : Creation). is_complete journal c.under || is_terminated journal c.by)) (not (has_start journal u))
    (not_from_true (has_start journal u) named)

pub no_abandoned : (journal : List Event) (u : ℕ) → creation_of journal u ≡ None → is_abandoned journal u ≡ false
unfolding is_abandoned
no_abandoned journal u none = rw none refl

module _ (old new : List Event) (names : Renaming) (event other : Event) (next : AreNext old new names event other) where
  -- both were made, or neither was
  pub creations_forth : (u v : ℕ) (c : Creation) → AreOld old new names u v → creation_of old u ≡ Some c → (d : Creation) × (creation_of new v ≡ Some d)
  creations_forth u v c was is =
      elim (main_or_made new v was.below_too) [
        | inr made ↦ made
        | inl main ↦
            let zero_is : u ≡ 0 = one_task old new names event other next u 0 v was.named (next.stands.tasks.main ∙ ap Some (sym main)) in
            let positive : 0 < u = created_positive old u c is in
            absurd (omega (arith, zero_is, positive))
      ]

  pub creations_none : (u v : ℕ) → AreOld old new names u v → creation_of old u ≡ None → creation_of new v ≡ None
  creations_none u v was none =
      elim (main_or_made old u was.below) [
        | inr (c, is) ↦ absurd (none-some c (sym none ∙ is))
        | inl main ↦
            let zero_is : v ≡ 0 = same_Some v 0 (sym was.named ∙ (ap names.task main ∙ next.stands.tasks.main)) in
            no_creation (creation_of new v) refl zero_is
      ]
    where
      no_creation : (o : Option Creation) → creation_of new v ≡ o → v ≡ 0 → creation_of new v ≡ None
      no_creation None is zero_is = is
      no_creation (Some d) is zero_is =
          let positive : 0 < v = created_positive new v d is in
          absurd (omega (arith, zero_is, positive))

  -- who may still activate a task stands for who may activate the other
  pub makers_named : (u v : ℕ) (c d : Creation) → AreOld old new names u v → creation_of old u ≡ Some c → creation_of new v ≡ Some d
      → is_waiting old u c ≡ true → AreOld old new names c.by d.by × (is_waiting new v d ≡ true)
  makers_named u v c d was is has waits =
      let parts = waiting_parts old u c waits in
      let (w, named) = next.stands.tasks.live c.by (live_from old c.by (next.fits.makers u c is).exists parts.1) in
      let there : then_some (is_waiting new v d) d.by ≡ Some w =
      sym (activator_is new v d has) ∙ ((next.stands.same u v was.named).activator
      ∙ (ap (option_and_then names.task) (activator_is old u c is ∙ ap (λ (b : Bool). then_some b c.by) waits) ∙ named)) in
      let found = then_some-some (is_waiting new v d) d.by w there in
      (old_task old new names event other next c.by d.by (named ∙ ap Some (sym found.1)), found.0)

  waits_now : (u v : ℕ) (c d : Creation) → AreOld old new names u v → AreOld old new names c.by d.by → is_waiting old u c ≡ true → is_waiting new v d ≡ true
      → is_waiting (other ∷ new) v d ≡ is_waiting (event ∷ old) u c
  unfolding has_start
  waits_now u v c d was makers here there =
      rw (
        terminated_old old new names event other next c.by d.by makers,
        (waiting_parts old u c here).0,
        (waiting_parts new v d there).0,
        starts_now old new names event other next u v was.named,
      ) refl

  activator_made : (u v : ℕ) (c d : Creation) → AreOld old new names u v → creation_of old u ≡ Some c → creation_of new v ≡ Some d
      → then_some (is_waiting (other ∷ new) v d) d.by
      ≡ option_and_then (next_names old new event names).task (then_some (is_waiting (event ∷ old) u c) c.by)
  activator_made u v c d was is has =
      elim (cases_Bool (is_waiting old u c)) [
        | inl waits ↦
            let there = makers_named u v c d was is has waits in
            if_alike (next_names old new event names).task (is_waiting (event ∷ old) u c) (is_waiting (other ∷ new) v d) c.by d.by
            (waits_now u v c d was there.0 waits there.1) (λ on. task_later old new names event other next c.by d.by there.0.named)
        | inr never ↦
            let gone : then_some (is_waiting new v d) d.by ≡ None =
            sym (activator_is new v d has) ∙ ((next.stands.same u v was.named).activator
            ∙ ap (option_and_then names.task) (activator_is old u c is ∙ ap (λ (b : Bool). then_some b c.by) never)) in
            rw (no_waiting event old u c never, no_waiting other new v d (not_given (is_waiting new v d) d.by gone)) refl
      ]
    where
      not_given : (b : Bool) (x : ℕ) → then_some b x ≡ None → b ≡ false
      not_given true x none = absurd (none-some x (sym none))
      not_given false x none = refl

  activator_old : (u v : ℕ) (o : Option Creation) → AreOld old new names u v → creation_of old u ≡ o
      → activator_of (other ∷ new) v ≡ option_and_then (next_names old new event names).task (activator_of (event ∷ old) u)
  activator_old u v None was none =
      rw (
        activator_none (other ∷ new) v (creation_older other new v was.below_too ∙ creations_none u v was none),
        activator_none (event ∷ old) u (creation_older event old u was.below ∙ none),
      ) refl
  activator_old u v (Some c) was is =
      let (d, has) = creations_forth u v c was is in
      rw (
        activator_is (other ∷ new) v d (creation_older other new v was.below_too ∙ has),
        activator_is (event ∷ old) u c (creation_older event old u was.below ∙ is),
      )
      (activator_made u v c d was is has)

  pub activator_kept : (u v : ℕ) → (next_names old new event names).task u ≡ Some v
      → activator_of (other ∷ new) v ≡ option_and_then (next_names old new event names).task (activator_of (event ∷ old) u)
  activator_kept u v named =
      elim (next_cases old new names event other next u v named) [
        | inl was ↦ activator_old u v (creation_of old u) was refl
        | inr made ↦
            let c = made.creation in
            let d = made.stand in
            let both = made_fresh old new names event other next u v made in
            let live = live_parts old c.by (next.fits.making c made.says).live in
            let makers = old_task old new names event other next c.by d.by made.same.by in
            let here : is_waiting (event ∷ old) u c ≡ true =
            waiting_from (event ∷ old) u c both.0.unnamed (making_terminates_none event old c.by c made.says ∙ live.1) in
            let there : is_waiting (other ∷ new) v d ≡ true =
            waiting_from (other ∷ new) v d both.1.unnamed
            (terminated_old old new names event other next c.by d.by makers ∙ (making_terminates_none event old c.by c made.says ∙ live.1)) in
            activator_is (other ∷ new) v d (creation_newest other new v d made.says_too made.newest_too)
            ∙ (if_alike (next_names old new event names).task (is_waiting (event ∷ old) u c) (is_waiting (other ∷ new) v d) c.by d.by (there ∙ sym here)
            (λ on. task_later old new names event other next c.by d.by made.same.by)
            ∙ ap (option_and_then (next_names old new event names).task)
            (sym (activator_is (event ∷ old) u c (creation_newest event old u c made.says made.newest))))
      ]
