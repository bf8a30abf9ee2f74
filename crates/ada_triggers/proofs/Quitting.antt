-- What is put into an agenda where all that depend on a master terminate together: what the master may force, what those
-- may on which its task depends, and that tasks go that were never started.
use Rattle.std.proofs.Common.{◌≡◌, ℕ, ◌⊎◌, ◌<◌, true, false, not, Option, Some, None, List, [], ◌∷◌, sym, refl, ap, ◌∙◌, subst, arith, inl, inr}
use Rattle.std.proofs.lemmas.Bool.{and_parts, or_cases, not-true, both_ways, eqb-true}
use Rattle.std.proofs.lemmas.Option.{none-some, same_Some}
use Rattle.ada_events.specs.declared.event.Event.{Event}
use Rattle.ada_events.specs.declared.event.Event.TheVariants.{Closed, Gone, Quit}
use Rattle.ada_events.specs.declared.names.Master.{Master}
use Rattle.ada_events.specs.declared.names.Master.TheVariants.{Body, Block}
use Rattle.ada_events.specs.declared.names.TaskNo.{TaskNo}
use Rattle.ada_events.specs.Search.{is_some_and, event_at}
use Rattle.ada_events.specs.Says.{Creation, Closing, wait_in, closing_in, completed_in}
use Rattle.ada_events.specs.Tasks.{task_count, creation_of}
use Rattle.ada_events.specs.Masters.{same_master, parent_in, reaches, depends_on}
use Rattle.ada_events.specs.Phases.{is_terminated}
use Rattle.ada_events.specs.Nests.{nest}
use Rattle.ada_events.specs.Forced.{task_no, is_to_go, is_to_quit}
use Rattle.ada_events.specs.Lawful.{IsLawful}
use Rattle.ada_laws.specs.Masters.{IsKnown, parent_of}
use Rattle.ada_laws.proofs.within.Depending.{depends_exists, reaches_from_body}
use Rattle.ada_laws.proofs.searching.Growing.{is_terminated-quit}
use Rattle.ada_laws.proofs.within.Parents.{tasks_depend_by_parents, master_known}
use Rattle.ada_laws.proofs.within.Reaching.{same_master-true, reaches-same, reaches_up, reaches_known, reaches_trans, parent_was_known}
use Rattle.ada_laws.proofs.searching.Searching.{then_some-some, option_map-some, option_map_or-true}
use Rattle.ada_laws.proofs.held.Suspending.{suspended_exists, suspended_once}
use Rattle.ada_step_laws.specs.Rows.{step_at}
use Rattle.ada_step_laws.specs.declared.row.Row.{Row}
use Rattle.ada_step_laws.specs.declared.row.Row.TheVariants.{Terminating, QuittingBody, QuittingBlock, Leaving}
use Rattle.ada_events.specs.Holders.{holds, encloses}
use Rattle.ada_agenda.specs.Keeping.{has_key, IsAgendaOf, Puts, KeepsUp}
use Rattle.ada_agenda.specs.internal.Keeping.{Both}
use Rattle.ada_step_laws.specs.Kinds.{quitting_row, quitting_key, IsLeaving, OfTermination, OfQuit}
use Rattle.ada_step_laws.specs.Kinds.OfTermination.{fails as end_fails, activates as end_activates, goes as end_goes, quits as end_quits, leaves as end_leaves}
use Rattle.ada_step_laws.specs.Kinds.OfQuit.{ends, abandons}
use Rattle.ada_step_laws.proofs.newly.StartedTasks.{created_exists}
use Rattle.ada_step_laws.proofs.newly.Depending.{quits_live}
use Rattle.ada_agenda.proofs.Noting.{grows_same, noted_giving}
use Rattle.ada_step_laws.proofs.newly.Quitting.{IsQuitter, live_depends, unended_live}
use Rattle.ada_step_laws.proofs.newly.Refining.{task_step, position_step, quits_body, quits_block}
use Rattle.ada_step_laws.proofs.newly.Releases.{same_event}
use Rattle.ada_step_laws.proofs.newly.Waiting.{at_wait}
use Rattle.ada_step_laws.specs.Holders.{IsHeld}
use Rattle.ada_step_laws.proofs.holding.Enclosing.{reaches_held}
use Rattle.ada_laws.proofs.within.Owners.{has_contained, one_holder}
use Rattle.ada_triggers.specs.internal.Keys.{OfFirst, AsUnstarted, AsHolder, AsDependent, AsMaster, holder_of}
use Rattle.ada_triggers.specs.internal.Keys.AsUnstarted.{goes}
use Rattle.ada_triggers.specs.internal.Keys.AsHolder.{quits, goes as holder_goes, leaves}
use Rattle.ada_triggers.specs.internal.Keys.AsDependent.{through}
use Rattle.ada_triggers.specs.internal.Keys.AsMaster.{own, outer}
use Rattle.ada_triggers.proofs.Ends.{dependent_held}
use Rattle.ada_triggers.proofs.Giving.{abandons_so, goer, quitter}
use Rattle.ada_triggers.proofs.Outwards.{holds_enclosed, holder_found}
use Rattle.ada_triggers.proofs.Quitters.{IsGiven, quit_says, quit_forced, quitter_ready, no_open_call, given_before}

-- of two masters that a third reaches, one reaches the other
one_reaches : (journal : List Event) (x y z : Master) → IsLawful journal → IsKnown journal x → reaches journal x y ≡ true → reaches journal x z ≡ true
    → (reaches journal y z ≡ true) ⊎ (reaches journal z y ≡ true)
unfolding reaches
one_reaches [] x y z lawful known first second = inl (subst (λ (w : Master). same_master w z ≡ true) (same_master-true x y first) second)
one_reaches (event ∷ before) x y z lawful known first second =
    elim (or_cases (same_master x y) (reaches before (parent_in before event x) y) first) [
      | inl same ↦ inl (subst (λ (w : Master). reaches (event ∷ before) w z ≡ true) (same_master-true x y same) second)
      | inr to_y ↦
          elim (or_cases (same_master x z) (reaches before (parent_in before event x) z) second) [
            | inl same ↦ inr (subst (λ (w : Master). reaches (event ∷ before) w y ≡ true) (same_master-true x z same) first)
            | inr to_z ↦
                let parent = parent_was_known event before x lawful.1 (reaches_known before lawful.0) known in
                elim (one_reaches before (parent_in before event x) y z lawful.0 parent to_y to_z) [
                  | inl out ↦ inl (reaches_up event before y z (reaches_known before lawful.0 (parent_in before event x) y parent to_y) out)
                  | inr back ↦ inr (reaches_up event before z y (reaches_known before lawful.0 (parent_in before event x) z parent to_z) back)
                ]
          ]
    ]

-- what a task was made under, from which all is reached on which it depends
record IsUnder (journal : List Event) (task : ℕ) : Type 0 where
  master : Master
  known : IsKnown journal master
  tells : (m : Master) → depends_on journal task m ≡ reaches journal master m

made_under : (journal : List Event) (task : ℕ) (m : Master) → IsLawful journal → depends_on journal task m ≡ true → IsUnder journal task
made_under journal task m lawful depends =
    let t : TaskNo = record { 0 = task } in
    let (p, parent, reached) =
    option_map_or-true (λ (p : Master). reaches journal p m) (parent_of journal (Body t)) (sym (tasks_depend_by_parents journal t m lawful) ∙ depends) in
    let (c, made, same) = option_map-some (λ (c : Creation). c.master) (creation_of journal task) p parent in
    record {
      master = p;
      known = subst (IsKnown journal) same (master_known journal t c lawful made);
      tells = λ m.
          tasks_depend_by_parents journal t m lawful
          ∙ ap (λ (o : Option Master). is_some_and o (λ (x : Master). reaches journal x m)) parent;
    }

either_reaches : (journal : List Event) (task : ℕ) (m n : Master) → IsLawful journal → depends_on journal task m ≡ true → depends_on journal task n ≡ true
    → (reaches journal m n ≡ true) ⊎ (reaches journal n m ≡ true)
either_reaches journal task m n lawful on_m on_n =
    let under = made_under journal task m lawful on_m in
    one_reaches journal under.master m n lawful under.known (sym (under.tells m) ∙ on_m) (sym (under.tells n) ∙ on_n)

depends_further : (journal : List Event) (task : ℕ) (n m : Master) → IsLawful journal → depends_on journal task n ≡ true → reaches journal n m ≡ true
    → depends_on journal task m ≡ true
depends_further journal task n m lawful on_n reached =
    let under = made_under journal task n lawful on_n in
    under.tells m ∙ reaches_trans journal lawful under.master n m under.known (sym (under.tells n) ∙ on_n) reached

-- what a master reaches, its task holds or depends on
reached_by : (before : List Event) (t : ℕ) (m n : Master) → IsLawful before → (by : IsHeld before t m) → t < task_count before → reaches before m n ≡ true
    → (holds by.holder (nest before by.holder) n ≡ true) ⊎ (depends_on before by.holder n ≡ true)
reached_by before t m n lawful by known reached =
    let below : by.holder < t = by.before in
    elim (or_cases (encloses by.holder (nest before by.holder) m n) (depends_on before by.holder n)
    (sym (reaches_held before by.holder m n lawful (omega (arith, below, known)) by.held) ∙ reached)) [
      | inl inside ↦ inl (holds_enclosed by.holder (nest before by.holder) m n inside)
      | inr further ↦ inr further
    ]

outward_key : (before : List Event) (t : ℕ) (m n : Master) (row : Row) (key : ℕ) → IsLawful before → is_terminated before t ≡ false
    → depends_on before t m ≡ true → reaches before m n ≡ true → ((k : ℕ) → holds k (nest before k) n ≡ true → AsHolder before k row key)
    → AsMaster before m row key
outward_key before t m n row key lawful live on_m reached of =
    let by = dependent_held before t m lawful live on_m in
    elim (reached_by before t m n lawful by (depends_exists before t m on_m) reached) [
      | inl held ↦ own by.holder row key by.held (of by.holder held)
      | inr further ↦
          let up = dependent_held before by.holder n lawful by.live further in
          outer by.holder row key by.held (through up.holder n row key by.live further up.held (of up.holder up.held))
    ]

completes_none : (m : Master) → completed_in (Quit m) ≡ None
unfolding completed_in
completes_none m = refl

-- who goes isn't terminated
goes_live : (journal : List Event) (t : ℕ) (step : Event) → step_at journal Terminating t ≡ Some step → is_terminated journal t ≡ false
unfolding is_to_go
goes_live journal t step gives =
    let goes = (then_some-some (is_to_go journal t) (Gone (task_no t)) step (task_step journal Terminating t step refl gives)).0 in
    not-true (is_terminated journal t) (and_parts (not (is_terminated journal t)) _ goes).0

goes_key : (m : Master) (step : Event) (before : List Event) (t : ℕ) (u : TaskNo) → IsLawful (Quit m ∷ before) → IsQuitter before m t
    → step_at (Quit m ∷ before) Terminating u.0 ≡ Some step → depends_on before t (Body u) ≡ true → AsMaster before m Terminating u.0
goes_key m step before t u lawful from gives depends =
    elim (either_reaches before t m (Body u) lawful.0 from.depends depends) [
      | inl out ↦ outwards out
      | inr back ↦
          elim (reaches_from_body before u m back) [
            | inl same ↦ outwards (subst (λ (x : Master). reaches before x (Body u) ≡ true) same (reaches-same before (Body u)))
            | inr on_m ↦
                absurd (both_ways (is_terminated (Quit m ∷ before) u.0) (goes_live (Quit m ∷ before) u.0 step gives)
                (is_terminated-quit (Quit m) before u.0 m (quit_says m) on_m))
          ]
    ]
  where
    outwards : reaches before m (Body u) ≡ true → AsMaster before m Terminating u.0
    outwards out =
        outward_key before t m (Body u) Terminating u.0 lawful.0 from.live from.depends out (λ k has.
        subst (λ (n : ℕ). AsHolder before n Terminating u.0) (eqb-true u.0 k has) (holder_goes (goer (Quit m) step before u.0 (completes_none m) gives)))

-- what gives that a master's dependents terminate together
quits_given : (event step : Event) (before : List Event) (n : Master) → step_at (event ∷ before) (quitting_row n) (quitting_key n) ≡ Some step
    → is_to_quit (event ∷ before) n ≡ true
quits_given event step before (Body t) gives = quits_body event step before t.0 (task_step (event ∷ before) QuittingBody t.0 step refl gives)
quits_given event step before (Block p) gives = quits_block event step before p (position_step (event ∷ before) QuittingBlock p step refl gives)

-- within the master nobody lives any more
no_live_within : (m n : Master) (before : List Event) → IsLawful (Quit m ∷ before) → is_to_quit (Quit m ∷ before) n ≡ true → reaches before n m ≡ true → ⊥
no_live_within m n before lawful quit reached =
    let live = quits_live (Quit m ∷ before) n quit in
    let on_n = live_depends m before live.task n live.depends in
    let on_m = depends_further before live.task n m lawful.0 on_n reached in
    both_ways (is_terminated (Quit m ∷ before) live.task) live.live (is_terminated-quit (Quit m) before live.task m (quit_says m) on_m)

quits_key : (m : Master) (step : Event) (before : List Event) (t : ℕ) (n : Master) → IsLawful (Quit m ∷ before) → IsQuitter before m t
    → step_at (Quit m ∷ before) (quitting_row n) (quitting_key n) ≡ Some step → depends_on before t n ≡ true
    → AsMaster before m (quitting_row n) (quitting_key n)
quits_key m step before t n lawful from gives depends =
    elim (either_reaches before t m n lawful.0 from.depends depends) [
      | inl out ↦
          outward_key before t m n (quitting_row n) (quitting_key n) lawful.0 from.live from.depends out (λ k has.
          quits n has (quitter (Quit m) step before n (completes_none m) gives))
      | inr back ↦ absurd (no_live_within m n before lawful (quits_given (Quit m) step before n gives) back)
    ]

close_waits_none : (e : Event) (k : Closing) → closing_in e ≡ Some k → wait_in e ≡ None
unfolding closing_in wait_in
close_waits_none (Closed by block) k says = refl
close_waits_none _ k says = absurd (none-some k says)

-- who is suspended at a close doesn't terminate with the others
closer_apart : (m : Master) (before : List Event) (block p : ℕ) → IsLawful (Quit m ∷ before) → (leaving : IsLeaving before block p)
    → depends_on before leaving.closing.by m ≡ true → ⊥
closer_apart m before block p lawful leaving on_m =
    let closer = leaving.closing.by in
    let live = unended_live before closer leaving.suspended.live in
    let is = quitter_ready before m closer (quit_forced m before lawful) (record { depends = on_m; live = live }) in
    let waits = at_wait before closer is.waits is.live in
    let same : waits.position ≡ p = suspended_once before closer waits.position p lawful.0 waits.suspended leaving.suspended in
    let one = same_event before p waits.event leaving.stands.event (ap (event_at before) (sym same) ∙ waits.stands) leaving.stands.stands in
    none-some waits.wait (sym (close_waits_none leaving.stands.event leaving.closing leaving.stands.says) ∙ (ap wait_in (sym one) ∙ waits.says))

leaves_key : (m : Master) (before : List Event) (t block p : ℕ) → IsLawful (Quit m ∷ before) → IsQuitter before m t → depends_on before t (Block block) ≡ true
    → IsLeaving before block p → AsMaster before m Leaving p
leaves_key m before t block p lawful from depends leaving =
    elim (either_reaches before t m (Block block) lawful.0 from.depends depends) [
      | inl out ↦ outward_key before t m (Block block) Leaving p lawful.0 from.live from.depends out left_by
      | inr back ↦
          elim (or_cases (encloses closer (nest before closer) (Block block) m) (depends_on before closer m)
          (sym (reaches_held before closer (Block block) m lawful.0 (suspended_exists before closer p lawful.0 leaving.suspended) held) ∙ back)) [
            | inl inside ↦ own closer Leaving p (holds_enclosed closer (nest before closer) (Block block) m inside) (left_by closer held)
            | inr on_m ↦ absurd (closer_apart m before block p lawful leaving on_m)
          ]
    ]
  where
    closer : ℕ
    closer = leaving.closing.by

    held : holds closer (nest before closer) (Block block) ≡ true
    held = has_contained (nest before closer) block leaving.within.0 leaving.within.1 leaving.within.2

    left_by : (k : ℕ) → holds k (nest before k) (Block block) ≡ true → AsHolder before k Leaving p
    left_by k has =
        subst (λ (n : ℕ). AsHolder before n Leaving p) (one_holder before closer k (Block block) held has)
        (leaves leaving.stands.event p leaving.stands.stands (rw leaving.stands.says refl) leaving.suspended)

-- all that is put where many terminate together
abbrev pub QuitKeys : List Event → Master → Row → ℕ → Type 0
QuitKeys before m = Both (OfFirst (AsUnstarted before) (task_count before)) (AsMaster before m)

ended_key : (m : Master) (step : Event) (before : List Event) (t : TaskNo) (row : Row) (key : ℕ) → IsLawful (Quit m ∷ before) → IsQuitter before m t.0
    → step_at (Quit m ∷ before) row key ≡ Some step → OfTermination before t row key → AsMaster before m row key ⊎ IsGiven before row key
ended_key m step before t row key lawful from gives (end_fails p was of) =
    absurd (no_open_call before t.0 p lawful.0 (quitter_ready before m t.0 (quit_forced m before lawful) from) of)
ended_key m step before t row key lawful from gives (end_activates p active) =
    inr (given_before m step before p active.stands.event active.start lawful active.stands.stands active.stands.says gives)
ended_key m step before t row key lawful from gives (end_goes u depends) = inl (goes_key m step before t.0 u lawful from gives depends)
ended_key m step before t row key lawful from gives (end_quits n depends) = inl (quits_key m step before t.0 n lawful from gives depends)
ended_key m step before t row key lawful from gives (end_leaves block p depends leaving) = inl (leaves_key m before t.0 block p lawful from depends leaving)

quit_key : (m : Master) (step : Event) (before : List Event) (row : Row) (key : ℕ) → IsLawful (Quit m ∷ before)
    → step_at (Quit m ∷ before) row key ≡ Some step → OfQuit before m row key → QuitKeys before m row key ⊎ IsGiven before row key
quit_key m step before row key lawful gives (ends t r k depends live of) =
    elim (ended_key m step before t r k lawful (record { depends = depends; live = live }) gives of) [ inl put ↦ inl (inr put) | inr given ↦ inr given ]
quit_key m step before row key lawful gives (abandons t u depends live of) =
    inl (inl (record {
      task = u;
      among = created_exists before u of.creation of.made;
      of = goes of.creation of.made (abandons_so (Quit m) step before u of.never gives);
    }))

-- what gave a step before was in the agenda
has_quit_key : (m : Master) (step : Event) (before : List Event) (old new : List (List ℕ)) (row : Row) (key : ℕ) → IsLawful (Quit m ∷ before)
    → IsAgendaOf old before → Puts old new (QuitKeys before m) → step_at (Quit m ∷ before) row key ≡ Some step → OfQuit before m row key
    → has_key new row key ≡ true
has_quit_key m step before old new row key lawful agenda puts gives added =
    elim (quit_key m step before row key lawful gives added) [
      | inl put ↦ puts.here row key put
      | inr given ↦ puts.grows.kept row key (agenda.covers.kept row key given.0 given.1)
    ]

pub quit_noted : (before : List Event) (old new : List (List ℕ)) (m : Master) → Puts old new (QuitKeys before m) → KeepsUp before (Quit m) old new
quit_noted before old new m puts lawful agenda =
    noted_giving (Quit m) before old new (λ row key. has_key new row key ≡ true) lawful agenda
    (record { grows = puts.grows; here = λ row key has. has })
    (λ row key step added gives. has_quit_key m step before old new row key lawful agenda puts gives added)

-- who holds a master that is left by all its dependents is a task that there is
pub master_held : (before : List Event) (m : Master) (holder : ℕ) → IsLawful before → is_to_quit before m ≡ true → holder_of before m ≡ Some holder
    → holder < task_count before
master_held before m holder lawful quits_all of =
    let live = quits_live before m quits_all in
    let by = dependent_held before live.task m lawful live.live live.depends in
    let same : by.holder ≡ holder = same_Some by.holder holder (sym (holder_found before by.holder m by.held) ∙ of) in
    let below : by.holder < live.task = by.before in
    let known : live.task < task_count before = depends_exists before live.task m live.depends in
    omega (arith, same, below, known)

-- what a master's task holds and what that depends on are put
master_key : (journal : List Event) (new : List (List ℕ)) (m : Master) (holder : ℕ) (row : Row) (key : ℕ) → holder_of journal m ≡ Some holder
    → ((row : Row) (key : ℕ) → Both (AsHolder journal holder) (AsDependent journal holder) row key → has_key new row key ≡ true)
    → AsMaster journal m row key → has_key new row key ≡ true
master_key journal new m holder row key of here (own k r q held put) =
    here row key (inl (subst (λ (n : ℕ). AsHolder journal n row key) (same_Some k holder (sym (holder_found journal k m held) ∙ of)) put))
master_key journal new m holder row key of here (outer k r q held put) =
    here row key (inr (subst (λ (n : ℕ). AsDependent journal n row key) (same_Some k holder (sym (holder_found journal k m held) ∙ of)) put))

pub master_put : (journal : List Event) (old new : List (List ℕ)) (m : Master) (holder : ℕ) → holder_of journal m ≡ Some holder
    → Puts old new (Both (AsHolder journal holder) (AsDependent journal holder)) → Puts old new (AsMaster journal m)
master_put journal old new m holder of puts =
    record { grows = puts.grows; here = λ row key at. master_key journal new m holder row key of puts.here at }

unheld_key : (journal : List Event) (new : List (List ℕ)) (m : Master) (row : Row) (key : ℕ) → holder_of journal m ≡ None → AsMaster journal m row key
    → has_key new row key ≡ true
unheld_key journal new m row key none (own k r q held put) = absurd (none-some k (sym none ∙ holder_found journal k m held))
unheld_key journal new m row key none (outer k r q held put) = absurd (none-some k (sym none ∙ holder_found journal k m held))

pub unheld_put : (journal : List Event) (old : List (List ℕ)) (m : Master) → holder_of journal m ≡ None → Puts old old (AsMaster journal m)
unheld_put journal old m none = record { grows = grows_same old; here = λ row key at. unheld_key journal old m row key none at }
