-- The events that a kernel that lives on shows are the newest of the journal that it follows.
use Rattle.std.proofs.Common.{◌≡◌, ℕ, zero, suc, Option, Some, None, List, [], ◌∷◌, ◌++◌, length, map, reverse, take, refl, sym, ap, ◌∙◌}
use Rattle.std.specs.Prelude.{slice_get}
use Rattle.std.specs.Option.{option_map, option_and_then}
use Rattle.std.proofs.lemmas.List.{map-append, reverse-append}
use Rattle.std.proofs.lemmas.Option.{none-some, same_Some, slice_get-map}
use Rattle.ada_events.specs.declared.event.Event.{Event}
use Rattle.ada_events.specs.declared.names.Master.{Master}
use Rattle.ada_events.specs.declared.names.Master.TheVariants.{Body, Block}
use Rattle.ada_events.specs.declared.names.TaskNo.{TaskNo}
use Rattle.ada_events.specs.Forced.{task_no}
use Rattle.ada_border.specs.Events as border
use Rattle.ada_laws.proofs.searching.Searching.{option_map-some}
use Rattle.ada_standing.specs.Renaming.{Renaming, renamed_event, renamed_master, renamed_task, renamed_tasks}
use Rattle.ada_standing.proofs.alike.Kinds.{AreBoth}
use Rattle.ada_standing.proofs.held.Renamed.{renamed_task-is}
use Rattle.ada_standing.proofs.kept.Saying.{IsLike, like_of, from_both-some}
use Rattle.ada_lasting.specs.Naming.{renaming_of}
use Rattle.ada_lasting.specs.Following.{Long, Follows}
use Rattle.ada_lasting.specs.Events.{shown, shown_at, listed, list_of}
use Rattle.ada_lasting.specs.internal.Events.{back_of, lasting_event, lasting_listed}
use Rattle.ada_lasting.specs.internal.Present.{IsPresent}
use Rattle.ada_lasting.proofs.Dividing.{name_back}
use Rattle.ada_lasting.proofs.Waited.{back}

map-reverse : {A B : Type 0} (f : A → B) (xs : List A) → map f (reverse xs) ≡ reverse (map f xs)
map-reverse f [] = refl
map-reverse f (x ∷ xs) =
    ap (map f) (reverse-append (x ∷ []) xs)
    ∙ (map-append f (reverse xs) (x ∷ []) ∙ (ap (λ l. l ++ (f x ∷ [])) (map-reverse f xs) ∙ sym (reverse-append (f x ∷ []) (map f xs))))

-- ---- the lists of an event that stands for another: they are the same, but for the names of tasks

module _ (names : Renaming) where
  as_many : (ts us : List TaskNo) → renamed_tasks names ts ≡ Some us → length us ≡ length ts
  unfolding renamed_tasks
  as_many [] us is = ap length (sym (same_Some [] us is))
  as_many (t ∷ ts) us is =
      let (u, rest, first, second, made) = from_both-some (λ u us. u ∷ us) (renamed_task names t) (renamed_tasks names ts) us is in
      rw (← made) (ap suc (as_many ts rest second))

  families_told : (e f : Event) → IsLike names e f → border.families_of f ≡ border.families_of e
  families_told e f (IsLike.created by to x y m n families named under master) = refl
  families_told e f _ = refl

  choices_told : (e f : Event) → IsLike names e f → border.choices_of f ≡ border.choices_of e
  choices_told e f (IsLike.waiting by to pick choices tail named) = refl
  choices_told e f _ = refl

  dues_told : (e f : Event) → IsLike names e f → border.dues_of f ≡ border.dues_of e
  dues_told e f (IsLike.waiting by to pick choices tail named) = refl
  dues_told e f _ = refl

  tasks_told : (e f : Event) → IsLike names e f → length (border.tasks_of f) ≡ length (border.tasks_of e)
  tasks_told e f (IsLike.started by to ts us named also) = as_many ts us also
  tasks_told e f (IsLike.aborted by to ts us named also) = as_many ts us also
  tasks_told e f _ = refl

  lengths_told : (e f : Event) → IsLike names e f → border.lengths_of f ≡ border.lengths_of e
  lengths_told e f like = rw (tasks_told e f like, families_told e f like, choices_told e f like, dues_told e f like) refl

  lengths_by : (o n : Option Event) → AreBoth (IsLike names) o n → option_map border.lengths_of n ≡ option_map border.lengths_of o
  lengths_by o n (AreBoth.both e f is has like) = rw (is, has) (ap Some (lengths_told e f like))
  lengths_by o n (AreBoth.neither is has) = rw (is, has) refl

  list_by : {A : Type 0} (list : Event → List A) → ((e f : Event) → IsLike names e f → list f ≡ list e) → (o n : Option Event)
      → AreBoth (IsLike names) o n → list_of list n ≡ list_of list o
  list_by list told o n (AreBoth.both e f is has like) = rw (is, has) (told e f like)
  list_by list told o n (AreBoth.neither is has) = rw (is, has) refl

-- ---- names by which what has a name is found, and those names again

module _ (names other : Renaming) (task_back : (u v : ℕ) → names.task u ≡ Some v → other.task v ≡ Some u)
    (position_back : (p q : ℕ) → names.position p ≡ Some q → other.position q ≡ Some p) where
  master_back : (x y : Master) → renamed_master names x ≡ Some y → renamed_master other y ≡ Some x
  unfolding renamed_master
  master_back (Body t) y is =
      let (v, named, made) = option_map-some (λ v. Body (task_no v)) (names.task t.0) y is in
      rw (← made, task_back t.0 v named) refl
  master_back (Block p) y is =
      let (q, placed, made) = option_map-some Block (names.position p) y is in
      rw (← made, position_back p q placed) refl

  -- each event is told as the one is for which it stands
  event_told : (e f : Event) → IsLike names e f → lasting_event other f ≡ Some (border.plain_of e)
  unfolding lasting_event renamed_event renamed_task border.plain_of
  event_told e f (IsLike.opened by to x y named under) = rw (task_back by.0 to.0 named, master_back x y under) refl
  event_told e f (IsLike.created by to x y m n families named under master) =
      rw (task_back by.0 to.0 named, master_back x y under, master_back m n master) refl
  event_told e f (IsLike.started by to ts us named also) = rw (task_back by.0 to.0 named) refl
  event_told e f (IsLike.elaborated by to ok named) = rw (task_back by.0 to.0 named) refl
  event_told e f (IsLike.called by to callee called entry patience due named also) =
      rw (task_back by.0 to.0 named, task_back callee.0 called.0 also) refl
  event_told e f (IsLike.waiting by to pick choices tail named) = rw (task_back by.0 to.0 named) refl
  event_told e f (IsLike.paused by to due named) = rw (task_back by.0 to.0 named) refl
  event_told e f (IsLike.ended by to p q raised named placed) = rw (task_back by.0 to.0 named, position_back p q placed) refl
  event_told e f (IsLike.closed by to p q named placed) = rw (task_back by.0 to.0 named, position_back p q placed) refl
  event_told e f (IsLike.completed by to named) = rw (task_back by.0 to.0 named) refl
  event_told e f (IsLike.aborted by to ts us named also) = rw (task_back by.0 to.0 named) refl
  event_told e f (IsLike.ticked now) = refl
  event_told e f (IsLike.halted task there named) = rw (task_back task.0 there.0 named) refl
  event_told e f (IsLike.failed p q placed) = rw (position_back p q placed) refl
  event_told e f (IsLike.met p q a b placed also) = rw (position_back p q placed, position_back a b also) refl
  event_told e f (IsLike.cancelled p q placed) = rw (position_back p q placed) refl
  event_told e f (IsLike.passed p q way placed) = rw (position_back p q placed) refl
  event_told e f (IsLike.woken p q placed) = rw (position_back p q placed) refl
  event_told e f (IsLike.activated p q ok placed) = rw (position_back p q placed) refl
  event_told e f (IsLike.gone task there named) = rw (task_back task.0 there.0 named) refl
  event_told e f (IsLike.quit x y is) = rw (master_back x y is) refl
  event_told e f (IsLike.left p q placed) = rw (position_back p q placed) refl

  -- the tasks of its list

  item_told : (ts us : List TaskNo) (place : ℕ) → renamed_tasks names ts ≡ Some us
      → option_and_then (λ (t : TaskNo). other.task t.0) (slice_get us place) ≡ option_map border.plain_task (slice_get ts place)
  unfolding renamed_tasks
  item_told [] us place is = rw (← same_Some [] us is) refl
  item_told (t ∷ ts) us zero is =
      let (u, rest, first, second, made) = from_both-some (λ u us. u ∷ us) (renamed_task names t) (renamed_tasks names ts) us is in
      rw (← made) (task_back t.0 u.0 (renamed_task-is names t u first))
  item_told (t ∷ ts) us (suc k) is =
      let (u, rest, first, second, made) = from_both-some (λ u us. u ∷ us) (renamed_task names t) (renamed_tasks names ts) us is in
      rw (← made) (item_told ts rest k second)

  listed_told : (place : ℕ) (e f : Event) → IsLike names e f → lasting_listed other place f ≡ listed place e
  listed_told place e f (IsLike.started by to ts us named also) = item_told ts us place also
  listed_told place e f (IsLike.aborted by to ts us named also) = item_told ts us place also
  listed_told place e f _ = refl

  event_by : (o n : Option Event) → AreBoth (IsLike names) o n → option_and_then (lasting_event other) n ≡ option_map border.plain_of o
  event_by o n (AreBoth.both e f is has like) = rw (is, has) (event_told e f like)
  event_by o n (AreBoth.neither is has) = rw (is, has) refl

  listed_by : (place : ℕ) (o n : Option Event) → AreBoth (IsLike names) o n
      → option_and_then (lasting_listed other place) n ≡ option_and_then (listed place) o
  listed_by place o n (AreBoth.both e f is has like) = rw (is, has) (listed_told place e f like)
  listed_by place o n (AreBoth.neither is has) = rw (is, has) refl

-- each of the events stands for one of the others, in their order
like_at : (names : Renaming) (group newest : List Event) → map Some group ≡ map (renamed_event names) newest → (at : ℕ)
    → AreBoth (IsLike names) (slice_get (reverse newest) at) (slice_get (reverse group) at)
like_at names group newest same at = by (slice_get (reverse newest) at) (slice_get (reverse group) at) refl refl
    (sym (slice_get-map Some (reverse group) at) ∙ (ap (λ l. slice_get l at) reversed ∙ slice_get-map (renamed_event names) (reverse newest) at))
  where
    reversed : map Some (reverse group) ≡ map (renamed_event names) (reverse newest)
    reversed = map-reverse Some group ∙ (ap reverse same ∙ sym (map-reverse (renamed_event names) newest))

    by : (o n : Option Event) → slice_get (reverse newest) at ≡ o → slice_get (reverse group) at ≡ n → option_map Some n ≡ option_map (renamed_event names) o
        → AreBoth (IsLike names) (slice_get (reverse newest) at) (slice_get (reverse group) at)
    by None None is has alike = AreBoth.neither is has
    by None (Some f) is has alike = absurd (none-some _ (sym alike))
    by (Some e) None is has alike = absurd (none-some _ alike)
    by (Some e) (Some f) is has alike = AreBoth.both e f is has (like_of names e f (sym (same_Some _ _ alike)))

-- ---- what the kernel shows

module _ (journal : List Event) (kernel : Long) (follows : Follows journal kernel) where
  alike : (at : ℕ) → AreBoth (IsLike (renaming_of kernel.names)) (shown_at journal kernel at) (slice_get (reverse kernel.group) at)
  alike at = like_at (renaming_of kernel.names) kernel.group (take (length kernel.group) journal) follows.shown at

  pub lengths_shown : (at : ℕ) → option_map border.lengths_of (slice_get (reverse kernel.group) at) ≡ option_map border.lengths_of (shown_at journal kernel at)
  lengths_shown at = lengths_by (renaming_of kernel.names) (shown_at journal kernel at) (slice_get (reverse kernel.group) at) (alike at)

  pub families_shown : (at : ℕ) → list_of border.families_of (slice_get (reverse kernel.group) at) ≡ list_of border.families_of (shown_at journal kernel at)
  families_shown at =
      list_by (renaming_of kernel.names) border.families_of (families_told (renaming_of kernel.names)) (shown_at journal kernel at)
      (slice_get (reverse kernel.group) at) (alike at)

  pub choices_shown : (at : ℕ) → list_of border.choices_of (slice_get (reverse kernel.group) at) ≡ list_of border.choices_of (shown_at journal kernel at)
  choices_shown at =
      list_by (renaming_of kernel.names) border.choices_of (choices_told (renaming_of kernel.names)) (shown_at journal kernel at)
      (slice_get (reverse kernel.group) at) (alike at)

  pub dues_shown : (at : ℕ) → list_of border.dues_of (slice_get (reverse kernel.group) at) ≡ list_of border.dues_of (shown_at journal kernel at)
  dues_shown at =
      list_by (renaming_of kernel.names) border.dues_of (dues_told (renaming_of kernel.names)) (shown_at journal kernel at)
      (slice_get (reverse kernel.group) at) (alike at)

  pub event_shown : (is_present : IsPresent kernel) (at : ℕ) → option_and_then (lasting_event (back_of kernel.names)) (slice_get (reverse kernel.group) at)
      ≡ option_map border.plain_of (shown_at journal kernel at)
  event_shown is_present at =
      event_by (renaming_of kernel.names) (back_of kernel.names) (name_back journal kernel follows is_present) (back journal kernel follows is_present)
      (shown_at journal kernel at) (slice_get (reverse kernel.group) at) (alike at)

  pub listed_shown : (is_present : IsPresent kernel) (at place : ℕ)
      → option_and_then (lasting_listed (back_of kernel.names) place) (slice_get (reverse kernel.group) at)
      ≡ option_and_then (listed place) (shown_at journal kernel at)
  listed_shown is_present at place =
      listed_by (renaming_of kernel.names) (back_of kernel.names) (name_back journal kernel follows is_present) (back journal kernel follows is_present) place
      (shown_at journal kernel at) (slice_get (reverse kernel.group) at) (alike at)
