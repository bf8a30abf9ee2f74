-- Activations end alike.
use Rattle.std.proofs.Common.{◌≡◌, ℕ, ◌<◌, Bool, true, false, cond, not, ◌&&◌, eqb, Some, None, List, [], ◌∷◌, refl, sym, ap, ◌∙◌, inl, inr}
use Rattle.std.proofs.Common.{subst}
use Rattle.std.specs.List.{list_any, list_all}
use Rattle.std.proofs.lemmas.Bool.{cases_Bool, and_parts, and_cases, or_cases, or_left, or_right, or_parts, eq-eqb, eqb-true, true≢false, false≢true}
use Rattle.std.proofs.lemmas.Bool.{true_from_ne_false}
use Rattle.ada_events.specs.declared.event.Event.{Event}
use Rattle.ada_events.specs.declared.event.Event.TheVariants.{Activated}
use Rattle.ada_events.specs.declared.names.TaskNo.{TaskNo}
use Rattle.ada_events.specs.Says.{Start, start_in}
use Rattle.ada_events.specs.Tasks.{task_count}
use Rattle.ada_events.specs.Phases.{lists_task, is_elaborated, has_failed, has_ended}
use Rattle.ada_events.specs.Calls.{is_pending}
use Rattle.ada_events.specs.Forced.{task_no, is_done_activating, activated_at, activated}
use Rattle.ada_laws.proofs.searching.Searching.{if_some}
use Rattle.ada_laws.proofs.searching.Saying.{held_in-start}
use Rattle.ada_laws.proofs.within.Parents.{same_truth}
use Rattle.ada_standing.specs.Renaming.{Renaming, renamed_event}
use Rattle.ada_standing.specs.Holds.{IsSameStart}
use Rattle.ada_standing.specs.StandsIn.{StandsIn}
use Rattle.ada_standing.proofs.alike.Orderly.{IsOrderly}
use Rattle.ada_standing.proofs.alike.Kinds.{starts_alike, both_starts}
use Rattle.ada_standing.proofs.alike.Pairs.{IsPair, ended_alike, active_parts, live_from, live_back}
use Rattle.ada_standing.proofs.alike.Rows.{AreAlike, said_alike, pending_held, pending_by}

all_fails : (test : TaskNo → Bool) (tasks : List TaskNo) → list_all test tasks ≡ false → (t : TaskNo) × (lists_task t.0 tasks ≡ true) × (test t ≡ false)
all_fails test [] fails = absurd (true≢false fails)
all_fails test (x ∷ rest) fails = elim (and_cases (test x) (list_all test rest) fails) [
  | inl here ↦ (x, or_left (eqb x.0 x.0) (lists_task x.0 rest) (eq-eqb x.0 x.0 refl), here)
  | inr later ↦
      let (t, among, fail) = all_fails test rest later in
      (t, or_right (eqb x.0 t.0) (lists_task t.0 rest) among, fail)
]

all_holds : (test : TaskNo → Bool) (tasks : List TaskNo) (t : ℕ) → list_all test tasks ≡ true → lists_task t tasks ≡ true → test (task_no t) ≡ true
all_holds test [] t all among = absurd (false≢true among)
all_holds test (x ∷ rest) t all among =
    let both = and_parts (test x) (list_all test rest) all in
    elim (or_cases (eqb x.0 t) (lists_task t rest) among) [
      | inl here ↦ subst (λ (n : ℕ). test (task_no n) ≡ true) (eqb-true x.0 t here) both.0
      | inr later ↦ all_holds test rest t both.1 later
    ]

-- a task is done with its activation as the one that stands for it is
pub done_one : (old new : List Event) (names : Renaming) (u v : ℕ) → StandsIn old new names → names.task u ≡ Some v
    → is_done_activating old (task_no u) ≡ is_done_activating new (task_no v)
unfolding is_done_activating
done_one old new names u v stands named =
    elim (cases_Bool (has_ended old u)) [
      | inl ended ↦
          or_right (is_elaborated old u) (has_ended old u) ended
          ∙ sym (or_right (is_elaborated new v) (has_ended new v) (ended_alike old new names u v stands named ∙ ended))
      | inr active ↦ rw (ended_alike old new names u v stands named, (stands.active u v named active).elaborated) refl
    ]

undone_live : (journal : List Event) (t : ℕ) → is_done_activating journal (task_no t) ≡ false → has_ended journal t ≡ false
unfolding is_done_activating
undone_live journal t undone = (or_parts (is_elaborated journal t) (has_ended journal t) undone).1

all_done_alike : (old new : List Event) (names : Renaming) (p q : ℕ) (pair : IsPair old new names p q) (s r : Start) → StandsIn old new names → IsOrderly old
    → IsOrderly new → start_in pair.held.event ≡ Some s → start_in pair.holds.event ≡ Some r → IsSameStart old new names s r
    → list_all (is_done_activating old) s.tasks ≡ list_all (is_done_activating new) r.tasks
all_done_alike old new names p q pair s r stands orderly also is has same =
    same_truth (list_all (is_done_activating old) s.tasks) (list_all (is_done_activating new) r.tasks)
    (λ all. true_from_ne_false (list_all (is_done_activating new) r.tasks) (λ fails.
    let (t, among, undone) = all_fails (is_done_activating new) r.tasks fails in
    let active = undone_live new t.0 undone in
    let below : t.0 < task_count new = also.starts q t.0 pair.holds.event r pair.holds.stands has among in
    let (u, named, live) = live_back old new names t.0 stands (live_from new t.0 below (active_parts new t.0 active).1) in
    let waits : is_done_activating old (task_no u) ≡ false = done_one old new names u t.0 stands named ∙ undone in
    true≢false (sym (all_holds (is_done_activating old) s.tasks u all (sym (same.pending u t.0 named waits) ∙ among)) ∙ waits)))
    (λ all. true_from_ne_false (list_all (is_done_activating old) s.tasks) (λ fails.
    let (t, among, undone) = all_fails (is_done_activating old) s.tasks fails in
    let active = undone_live old t.0 undone in
    let below : t.0 < task_count old = orderly.starts p t.0 pair.held.event s pair.held.stands is among in
    let (v, named) = stands.tasks.live t.0 (live_from old t.0 below (active_parts old t.0 active).1) in
    let waits : is_done_activating new (task_no v) ≡ false = sym (done_one old new names t.0 v stands named) ∙ undone in
    true≢false (sym (all_holds (is_done_activating new) r.tasks v all (same.pending t.0 v named undone ∙ among)) ∙ waits)))

ends_alike : (names : Renaming) (p q : ℕ) (a b x y : Bool) → names.position p ≡ Some q → a ≡ b → x ≡ y
    → AreAlike names (cond a (Some (Activated p x)) None) (cond b (Some (Activated q y)) None)
unfolding renamed_event
ends_alike names p q true b x y placed same also = rw (← same, ← also, placed) refl
ends_alike names p q false b x y placed same also = rw (← same) refl

-- an activation ends
pub activated_alike : (old new : List Event) (names : Renaming) → StandsIn old new names → IsOrderly old → IsOrderly new
    → AreAlike names (activated old) (activated new)
unfolding activated activated_at
activated_alike old new names stands orderly also =
    said_alike old new names start_in (activated_at old) (activated_at new) (λ p q. IsSameStart old new names) stands orderly also
    (λ p e s y at says gives.
    pending_held old s.by p e at (held_in-start e s says)
    (and_parts (is_pending old p s.by) (list_all (is_done_activating old) s.tasks)
    (if_some (is_pending old p s.by && list_all (is_done_activating old) s.tasks)
    (Some (Activated p (not (list_any (λ (t : TaskNo). has_failed old t.0) s.tasks)))) y gives).0).0)
    (λ q e s y at says gives.
    pending_held new s.by q e at (held_in-start e s says)
    (and_parts (is_pending new q s.by) (list_all (is_done_activating new) s.tasks)
    (if_some (is_pending new q s.by && list_all (is_done_activating new) s.tasks)
    (Some (Activated q (not (list_any (λ (t : TaskNo). has_failed new t.0) s.tasks)))) y gives).0).0)
    (λ p q d e s r x y at there apart says has gives makes. both_starts d e s r says has)
    (λ p q pair. starts_alike old new names p q pair.held.event pair.holds.event pair.alike)
    (λ p q pair s r is has same.
    ends_alike names p q
    (is_pending old p s.by && list_all (is_done_activating old) s.tasks)
    (is_pending new q r.by && list_all (is_done_activating new) r.tasks)
    (not (list_any (λ (t : TaskNo). has_failed old t.0) s.tasks)) (not (list_any (λ (t : TaskNo). has_failed new t.0) r.tasks)) pair.placed
    (rw (
      pending_by old pair.task s.by p pair.held (held_in-start pair.held.event s is),
      pending_by new pair.stand r.by q pair.holds (held_in-start pair.holds.event r has),
    ) (all_done_alike old new names p q pair s r stands orderly also is has same))
    (ap not (sym same.failed)))
