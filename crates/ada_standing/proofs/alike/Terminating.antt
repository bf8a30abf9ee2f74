-- The rows that search for a task or a block: tasks are halted, go, and quit alike.
use Rattle.std.proofs.Common.{◌≡◌, ℕ, ◌<◌, Bool, true, false, not, ◌&&◌, ◌||◌, Option, Some, List, refl, sym, ap, ◌∙◌, inl, inr, subst}
use Rattle.std.specs.Option.{option_map, option_and_then}
use Rattle.std.specs.Bool.{then_some}
use Rattle.std.specs.List.{list_any}
use Rattle.std.proofs.lemmas.Bool.{cases_Bool, and_parts, or_parts, not-false, not-true}
use Rattle.ada_events.specs.declared.event.Event.{Event}
use Rattle.ada_events.specs.declared.event.Event.TheVariants.{Halted, Gone, Quit}
use Rattle.ada_events.specs.declared.names.Master.{Master}
use Rattle.ada_events.specs.declared.names.Master.TheVariants.{Body, Block}
use Rattle.ada_events.specs.Search.{first_given, first_below, all_below, event_at}
use Rattle.ada_events.specs.Says.{Opening, opening_in}
use Rattle.ada_events.specs.Tasks.{task_count}
use Rattle.ada_events.specs.Masters.{depends_on}
use Rattle.ada_events.specs.Nests.{nest}
use Rattle.ada_events.specs.Phases.{is_completed, is_terminated, has_ended, is_abnormal}
use Rattle.ada_events.specs.Calls.{is_caller_in_rendezvous}
use Rattle.ada_events.specs.Termination.{all_terminated, is_complete, is_abandoned, is_ready_to_quit}
use Rattle.ada_events.specs.Forced.{task_no, is_to_halt, halted, is_to_go, gone, is_to_quit, quit_body, quit_block}
use Rattle.ada_laws.proofs.searching.Searching.{all_below-fails, option_and_then-some, option_map-some, then_some-some, three_parts}
use Rattle.ada_standing.specs.Renaming.{Renaming, renamed_task, renamed_master, renamed_event}
use Rattle.ada_events.specs.Holders.{is_block}
use Rattle.ada_standing.specs.StandsIn.{StandsIn, is_live}
use Rattle.ada_standing.proofs.alike.Orderly.{IsOrderly, IsLivedIn}
use Rattle.ada_standing.proofs.alike.Searches.{given_at, given_below, below_bound, below_from, first_given-is, first_below-is, search_alike}
use Rattle.ada_standing.proofs.alike.Pairs.{live_from, live_parts, live_alike, live_back, ended_alike, active_parts}
use Rattle.ada_standing.proofs.alike.Mastering.{lived_forth, lived_back, lived_known, depends_alike, all_alike, all_terminated_alike, complete_alike}
use Rattle.ada_standing.proofs.alike.Calling.{caller_alike, ready_alike}
use Rattle.ada_standing.proofs.alike.Rows.{AreAlike}

-- a search for the first task that passes a test which only live tasks pass
record AreTestsAlike (old new : List Event) (names : Renaming) (test there : ℕ → Bool) (make : ℕ → Event) : Type 0 where
  held : (u : ℕ) → u < task_count old → test u ≡ true → is_terminated old u ≡ false
  holds : (v : ℕ) → v < task_count new → there v ≡ true → is_terminated new v ≡ false
  alike : (u v : ℕ) → names.task u ≡ Some v → is_live old u ≡ true → test u ≡ there v
  renamed : (u v : ℕ) → names.task u ≡ Some v → renamed_event names (make u) ≡ Some (make v)

abbrev made : (ℕ → Bool) → (ℕ → Event) → ℕ → Option Event
made test make u = then_some (test u) (make u)

below_alike : (old new : List Event) (names : Renaming) (test there : ℕ → Bool) (make : ℕ → Event) → StandsIn old new names
    → AreTestsAlike old new names test there make
    → AreAlike names (first_below (made test make) (task_count old)) (first_below (made there make) (task_count new))
below_alike old new names test there make stands tests =
    search_alike names.task (renamed_event names) (given_below (made test make) (task_count old)) (given_below (made there make) (task_count new))
    (first_below (made test make) (task_count old)) (first_below (made there make) (task_count new))
    (record {
      forth = λ u x gives.
          let (below, is) = below_bound (made test make) (task_count old) u x gives in
          let passes = then_some-some (test u) (make u) x is in
          let live = live_from old u below (tests.held u below passes.0) in
          let (v, named) = stands.tasks.live u live in
          let lives = live_alike old new names u v stands named ∙ live in
          let there_v : there v ≡ true = sym (tests.alike u v named live) ∙ passes.0 in (
            v,
            make v,
            named,
            below_from (made there make) (task_count new) v (make v) (live_parts new v lives).0 (rw there_v refl),
            ap (renamed_event names) (sym passes.1) ∙ tests.renamed u v named,
          );
      back = λ v y gives.
          let (below, is) = below_bound (made there make) (task_count new) v y gives in
          let passes = then_some-some (there v) (make v) y is in
          let (u, named, live) = live_back old new names v stands (live_from new v below (tests.holds v below passes.0)) in
          let here : test u ≡ true = tests.alike u v named live ∙ passes.0 in
          (u, make u, named, below_from (made test make) (task_count old) u (make u) (live_parts old u live).0 (rw here refl));
      rises = λ s t u v x y gives also first second less. stands.tasks.rising s t u v first second less;
    })
    (first_below-is (made test make) (task_count old)) (first_below-is (made there make) (task_count new))

-- a task is halted
to_halt_active : (journal : List Event) (u : ℕ) → is_to_halt journal u ≡ true → is_terminated journal u ≡ false
unfolding is_to_halt
to_halt_active journal u halt =
    (active_parts journal u (three_parts (is_abnormal journal u) (has_ended journal u) (is_caller_in_rendezvous journal u) halt).1).1

to_halt_alike : (old new : List Event) (names : Renaming) (u v : ℕ) → StandsIn old new names → IsOrderly old → IsOrderly new → names.task u ≡ Some v
    → is_to_halt old u ≡ is_to_halt new v
unfolding is_to_halt
to_halt_alike old new names u v stands orderly also named =
    elim (cases_Bool (has_ended old u)) [
      | inl ended ↦
          rw (ended_alike old new names u v stands named, ended)
          (never (is_abnormal old u) (is_caller_in_rendezvous old u) (is_abnormal new v) (is_caller_in_rendezvous new v))
      | inr active ↦
          rw (
            ended_alike old new names u v stands named,
            active,
            (stands.active u v named active).abnormal,
            caller_alike old new names u v stands orderly also named,
          ) refl
    ]
  where
    never : (a b c d : Bool) → (a && not true && not b) ≡ (c && not true && not d)
    never true b true d = refl
    never true b false d = refl
    never false b true d = refl
    never false b false d = refl

pub halted_alike : (old new : List Event) (names : Renaming) → StandsIn old new names → IsOrderly old → IsOrderly new
    → AreAlike names (halted old) (halted new)
unfolding halted renamed_event renamed_task
halted_alike old new names stands orderly also =
    below_alike old new names (is_to_halt old) (is_to_halt new) (λ u. Halted (task_no u)) stands (record {
      held = λ u below halt. to_halt_active old u halt;
      holds = λ v below halt. to_halt_active new v halt;
      alike = λ u v named live. to_halt_alike old new names u v stands orderly also named;
      renamed = λ u v named. rw named refl;
    })

-- a task goes
to_go_live : (journal : List Event) (u : ℕ) → is_to_go journal u ≡ true → is_terminated journal u ≡ false
unfolding is_to_go
to_go_live journal u go =
    not-true (is_terminated journal u)
    (and_parts (not (is_terminated journal u)) (is_completed journal u && all_terminated journal (Body (task_no u)) || is_abandoned journal u) go).0

body_named : (names : Renaming) (u v : ℕ) → names.task u ≡ Some v → renamed_master names (Body (task_no u)) ≡ Some (Body (task_no v))
unfolding renamed_master
body_named names u v named = rw named refl

to_go_alike : (old new : List Event) (names : Renaming) (u v : ℕ) → StandsIn old new names → IsOrderly old → IsOrderly new → names.task u ≡ Some v
    → is_live old u ≡ true → is_to_go old u ≡ is_to_go new v
unfolding is_to_go
to_go_alike old new names u v stands orderly also named live =
    let same = stands.dependents u v named (live_parts old u live).1 in
    rw (
      (stands.same u v named).terminated,
      same.completed,
      same.abandoned,
      all_terminated_alike old new names (Body (task_no u)) (Body (task_no v)) stands orderly also (body_named names u v named),
    ) refl

pub gone_alike : (old new : List Event) (names : Renaming) → StandsIn old new names → IsOrderly old → IsOrderly new
    → AreAlike names (gone old) (gone new)
unfolding gone renamed_event renamed_task
gone_alike old new names stands orderly also =
    below_alike old new names (is_to_go old) (is_to_go new) (λ u. Gone (task_no u)) stands (record {
      held = λ u below go. to_go_live old u go;
      holds = λ v below go. to_go_live new v go;
      alike = λ u v named live. to_go_alike old new names u v stands orderly also named live;
      renamed = λ u v named. rw named refl;
    })

-- all that depend on a master quit

some_dependent : (journal : List Event) (x : Master) → IsOrderly journal → all_terminated journal x ≡ false → IsLivedIn journal x
unfolding all_terminated
some_dependent journal x orderly fails =
    let (u, below, fail) = all_below-fails (λ u. not (depends_on journal u x) || is_terminated journal u) (task_count journal) fails in
    let both = or_parts (not (depends_on journal u x)) (is_terminated journal u) fail in
    orderly.masters u x (live_from journal u below both.1) (not-false (depends_on journal u x) both.0)

-- only a master that live tasks are within
to_quit_lived : (journal : List Event) (x : Master) → IsOrderly journal → is_to_quit journal x ≡ true → IsLivedIn journal x
unfolding is_to_quit
to_quit_lived journal x orderly quit =
    let first = and_parts (is_complete journal x && not (all_terminated journal x))
    (all_below (λ u. not (depends_on journal u x) || is_terminated journal u || is_ready_to_quit journal u) (task_count journal)) quit in
    some_dependent journal x orderly
    (not-true (all_terminated journal x) (and_parts (is_complete journal x) (not (all_terminated journal x)) first.0).1)

to_quit_alike : (old new : List Event) (names : Renaming) (x y : Master) → StandsIn old new names → IsOrderly old → IsOrderly new → IsLivedIn old x
    → renamed_master names x ≡ Some y → is_to_quit old x ≡ is_to_quit new y
unfolding is_to_quit
to_quit_alike old new names x y stands orderly also lived is =
    rw (
      complete_alike old new names x y stands lived is,
      all_terminated_alike old new names x y stands orderly also is,
      all_alike old new names (λ u. not (depends_on old u x) || is_terminated old u || is_ready_to_quit old u)
          (λ v. not (depends_on new v y) || is_terminated new v || is_ready_to_quit new v) stands
          (λ u v named live.
          rw (
            depends_alike old new names u v x y stands orderly also named live is,
            (stands.same u v named).terminated,
            ready_alike old new names u v stands orderly also named,
          ) refl)
          (λ u fail. still (not (depends_on old u x)) (is_terminated old u) (is_ready_to_quit old u) fail)
          (λ v fail. still (not (depends_on new v y)) (is_terminated new v) (is_ready_to_quit new v) fail),
    ) refl
  where
    still : (a b c : Bool) → (a || b || c) ≡ false → b ≡ false
    still true b c fail = absurd (cc)
    still false true c fail = absurd (cc)
    still false false c fail = refl

live_body : (journal : List Event) (u : ℕ) → IsLivedIn journal (Body (task_no u)) → is_live journal u ≡ true
live_body journal u (IsLivedIn.body t live) = live

pub quit_body_alike : (old new : List Event) (names : Renaming) → StandsIn old new names → IsOrderly old → IsOrderly new
    → AreAlike names (quit_body old) (quit_body new)
unfolding quit_body renamed_event
quit_body_alike old new names stands orderly also =
    below_alike old new names (λ u. is_to_quit old (Body (task_no u))) (λ v. is_to_quit new (Body (task_no v))) (λ u. Quit (Body (task_no u))) stands (record {
      held = λ u below quit. (live_parts old u (live_body old u (to_quit_lived old (Body (task_no u)) orderly quit))).1;
      holds = λ v below quit. (live_parts new v (live_body new v (to_quit_lived new (Body (task_no v)) also quit))).1;
      alike = λ u v named live.
          to_quit_alike old new names (Body (task_no u)) (Body (task_no v)) stands orderly also (IsLivedIn.body (task_no u) live) (body_named names u v named);
      renamed = λ u v named. ap (option_map Quit) (body_named names u v named);
    })

-- what an opening gives
abbrev quits : List Event → ℕ → Event → Option Event
quits journal p e = option_and_then (λ (_ : Opening). then_some (is_to_quit journal (Block p)) (Quit (Block p))) (opening_in e)

quits_parts : (journal : List Event) (p : ℕ) (x : Event) → given_at (quits journal) journal p ≡ Some x
    → (is_to_quit journal (Block p) ≡ true) × (Quit (Block p) ≡ x)
quits_parts journal p x gives =
    let (e, at, is) = option_and_then-some (quits journal p) (event_at journal p) x gives in
    let (o, says, test) = option_and_then-some (λ (_ : Opening). then_some (is_to_quit journal (Block p)) (Quit (Block p))) (opening_in e) x is in
    then_some-some (is_to_quit journal (Block p)) (Quit (Block p)) x test

quits_from : (journal : List Event) (p : ℕ) → IsLivedIn journal (Block p) → is_to_quit journal (Block p) ≡ true
    → given_at (quits journal) journal p ≡ Some (Quit (Block p))
quits_from journal p lived quit =
    let known = lived_known journal (Block p) lived in
    rw (known.stands, known.says, quit) refl

-- in whose nest a block is
record IsNested (journal : List Event) (p : ℕ) : Type 0 where
  task : ℕ
  live : is_live journal task ≡ true
  within : list_any (is_block p) (nest journal task) ≡ true

nested : (journal : List Event) (p : ℕ) → IsLivedIn journal (Block p) → IsNested journal p
nested journal p (IsLivedIn.block task q live within) = record { task = task; live = live; within = within }

block_is : (names : Renaming) (p : ℕ) (y : Master) → renamed_master names (Block p) ≡ Some y → (q : ℕ) × (names.position p ≡ Some q) × (Block q ≡ y)
unfolding renamed_master
block_is names p y is = option_map-some Block (names.position p) y is

block_from : (names : Renaming) (x : Master) (q : ℕ) → renamed_master names x ≡ Some (Block q) → (p : ℕ) × (names.position p ≡ Some q) × (Block p ≡ x)
unfolding renamed_master
block_from names (Body t) q is =
    let (v, named, same) = option_map-some (λ v. Body (task_no v)) (names.task t.0) (Block q) is in
    absurd (cc)
block_from names (Block p) q is =
    let (a, placed, same) = option_map-some Block (names.position p) (Block q) is in
    (p, placed ∙ ap Some (cc), refl)

block_named : (names : Renaming) (p q : ℕ) → names.position p ≡ Some q → renamed_master names (Block p) ≡ Some (Block q)
unfolding renamed_master
block_named names p q placed = rw placed refl

quit_named : (names : Renaming) (p q : ℕ) → names.position p ≡ Some q → renamed_event names (Quit (Block p)) ≡ Some (Quit (Block q))
unfolding renamed_event
quit_named names p q placed = ap (option_map Quit) (block_named names p q placed)

pub quit_block_alike : (old new : List Event) (names : Renaming) → StandsIn old new names → IsOrderly old → IsOrderly new
    → AreAlike names (quit_block old) (quit_block new)
unfolding quit_block
quit_block_alike old new names stands orderly also =
    search_alike names.position (renamed_event names) (given_at (quits old) old) (given_at (quits new) new) (first_given (quits old) old)
    (first_given (quits new) new)
    (record {
      forth = λ p x gives.
          let parts = quits_parts old p x gives in
          let lived = to_quit_lived old (Block p) orderly parts.0 in
          let (y, is, beside) = lived_forth old new names (Block p) stands lived in
          let (q, placed, same) = block_is names p y is in
          let there = subst (IsLivedIn new) (sym same) beside in
          let quit = sym (to_quit_alike old new names (Block p) (Block q) stands orderly also lived (block_named names p q placed)) ∙ parts.0 in
          (q, Quit (Block q), placed, quits_from new q there quit, ap (renamed_event names) (sym parts.1) ∙ quit_named names p q placed);
      back = λ q y gives.
          let parts = quits_parts new q y gives in
          let lived = to_quit_lived new (Block q) also parts.0 in
          let (x, is, beside) = lived_back old new names (Block q) stands lived in
          let (p, placed, same) = block_from names x q is in
          let here = subst (IsLivedIn old) (sym same) beside in
          let quit = to_quit_alike old new names (Block p) (Block q) stands orderly also here (block_named names p q placed) ∙ parts.0 in
          (p, Quit (Block p), placed, quits_from old p here quit);
      rises = λ p q a b x y gives gives_too at_a at_b less.
          let one = nested old p (to_quit_lived old (Block p) orderly (quits_parts old p x gives).0) in
          let other = nested old q (to_quit_lived old (Block q) orderly (quits_parts old q y gives_too).0) in
          stands.positions.blocks one.task other.task p q a b one.live other.live one.within other.within at_a at_b less;
    })
    (first_given-is (quits old) old) (first_given-is (quits new) new)
