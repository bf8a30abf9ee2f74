-- Two journals that grow by events of which each of the second stands for one of the first: what their names say of it.
use Rattle.std.proofs.Common.{◌≡◌, ℕ, suc, ◌+◌, ◌<◌, ◌≤◌, Some, List, [], ◌∷◌, ◌++◌, length, map, refl, sym, ap, ◌∙◌, arith, inl, inr}
use Rattle.std.specs.Option.{option_len}
use Rattle.std.proofs.lemmas.Bool.{cases_eq, eq-eqb}
use Rattle.ada_events.specs.declared.event.Event.{Event}
use Rattle.ada_events.specs.declared.names.TaskNo.{TaskNo}
use Rattle.ada_events.specs.declared.names.Master.{Master}
use Rattle.ada_events.specs.declared.names.Master.TheVariants.{Body, Block}
use Rattle.ada_events.specs.Tasks.{task_count}
use Rattle.ada_events.specs.Forced.{task_no}
use Rattle.ada_laws.proofs.searching.Searching.{option_map-some}
use Rattle.ada_laws.proofs.searching.Growing.{task_count-more}
use Rattle.ada_standing.specs.Renaming.{Renaming, renamed_task, renamed_tasks, renamed_master, renamed_event}
use Rattle.ada_standing.specs.internal.Next.{next_names}
use Rattle.ada_standing.specs.Leading.{KeepsNames}
use Rattle.ada_standing.proofs.alike.Kinds.{AreBoth}
use Rattle.ada_standing.proofs.held.Renamed.{IsRenamed, is_renamed, from_both-some, renamed_task-is}
use Rattle.ada_standing.proofs.kept.Saying.{creation_said}
use Rattle.ada_standing.proofs.kept.Naming.{AreNext, like, task_before, position_before, task_later, position_later, made_named}
use Rattle.ada_standing.proofs.kept.Tasks.{exists_cases}

-- both journals grew by events one by one, and the names with them
pub data GrowAlike (old new : List Event) (names : Renaming) : List Event → List Event → Renaming → Type 0 where
  nothing : GrowAlike old new names old new names
  one_more : (old_now new_now : List Event) (now : Renaming) (event other : Event) → GrowAlike old new names old_now new_now now
      → AreNext old_now new_now now event other
      → GrowAlike old new names (event ∷ old_now) (other ∷ new_now) (next_names old_now new_now event now)

-- events are renamed as before where names are kept
module _ (names more : Renaming) (kept : KeepsNames names more) where
  task_more : (b c : TaskNo) → names.task b.0 ≡ Some c.0 → renamed_task more b ≡ Some c
  unfolding renamed_task
  task_more b c named = rw (kept.tasks b.0 c.0 named) refl

  tasks_more : (s t : List TaskNo) → renamed_tasks names s ≡ Some t → renamed_tasks more s ≡ Some t
  unfolding renamed_tasks
  tasks_more [] t is = is
  tasks_more (b ∷ s) t is =
      let (c, rest, named, others, made) = from_both-some (λ u us. u ∷ us) (renamed_task names b) (renamed_tasks names s) t is in
      rw (task_more b c (renamed_task-is names b c named), tasks_more s rest others) (ap Some made)

  master_more : (m n : Master) → renamed_master names m ≡ Some n → renamed_master more m ≡ Some n
  unfolding renamed_master
  master_more (Body t) n is =
      let (v, named, made) = option_map-some (λ v. Body (task_no v)) (names.task t.0) n is in
      rw (kept.tasks t.0 v named) (ap Some made)
  master_more (Block p) n is =
      let (q, placed, made) = option_map-some Block (names.position p) n is in
      rw (kept.positions p q placed) (ap Some made)

  like_more : (d e : Event) → IsRenamed names d e → renamed_event more d ≡ Some e
  unfolding renamed_event
  like_more d e (IsRenamed.opens b c m n by under) = rw (task_more b c by, master_more m n under) refl
  like_more d e (IsRenamed.creates b c m n x y families by under within) =
      rw (task_more b c by, master_more m n under, master_more x y within) refl
  like_more d e (IsRenamed.starts b c s t by tasks) = rw (task_more b c by, tasks_more s t tasks) refl
  like_more d e (IsRenamed.elaborates b c ok by) = rw (task_more b c by) refl
  like_more d e (IsRenamed.calls b c s t entry patience due by callee) = rw (task_more b c by, task_more s t callee) refl
  like_more d e (IsRenamed.waits b c pick choices tail by) = rw (task_more b c by) refl
  like_more d e (IsRenamed.pauses b c due by) = rw (task_more b c by) refl
  like_more d e (IsRenamed.ends b c p q raised by placed) = rw (task_more b c by, kept.positions p q placed) refl
  like_more d e (IsRenamed.closes b c p q by placed) = rw (task_more b c by, kept.positions p q placed) refl
  like_more d e (IsRenamed.completes b c by) = rw (task_more b c by) refl
  like_more d e (IsRenamed.aborts b c s t by tasks) = rw (task_more b c by, tasks_more s t tasks) refl
  like_more d e (IsRenamed.ticks now) = refl
  like_more d e (IsRenamed.halts b c by) = rw (task_more b c by) refl
  like_more d e (IsRenamed.fails p q placed) = rw (kept.positions p q placed) refl
  like_more d e (IsRenamed.meets p q v w placed also) = rw (kept.positions p q placed, kept.positions v w also) refl
  like_more d e (IsRenamed.cancels p q placed) = rw (kept.positions p q placed) refl
  like_more d e (IsRenamed.passes p q way placed) = rw (kept.positions p q placed) refl
  like_more d e (IsRenamed.wakes p q placed) = rw (kept.positions p q placed) refl
  like_more d e (IsRenamed.activates p q ok placed) = rw (kept.positions p q placed) refl
  like_more d e (IsRenamed.goes b c by) = rw (task_more b c by) refl
  like_more d e (IsRenamed.quits m n is) = rw (master_more m n is) refl
  like_more d e (IsRenamed.leaves p q placed) = rw (kept.positions p q placed) refl

  pub event_more : (d e : Event) → renamed_event names d ≡ Some e → renamed_event more d ≡ Some e
  event_more d e is = like_more d e (is_renamed names d e is)

  events_more : (steps copies : List Event) → map Some copies ≡ map (renamed_event names) steps → map Some copies ≡ map (renamed_event more) steps
  events_more [] [] same = refl
  events_more [] (y ∷ ys) same = absurd cc
  events_more (x ∷ xs) [] same = absurd cc
  events_more (x ∷ xs) (y ∷ ys) same =
      let head : Some y ≡ renamed_event names x = cc in
      let tail : map Some ys ≡ map (renamed_event names) xs = cc in
      λ i. sym (event_more x y (sym head)) i ∷ events_more xs ys tail i

-- one more event keeps the names
next_kept : (old new : List Event) (names : Renaming) (event other : Event) → AreNext old new names event other
    → KeepsNames names (next_names old new event names)
next_kept old new names event other next = record {
  tasks = λ u v named. task_later old new names event other next u v named;
  positions = λ p q placed. position_later old new names event other next p q placed;
}

-- the events by which both grew
pub record AreGroups (old new : List Event) (names : Renaming) (old_after new_after : List Event) : Type 0 where
  pub steps : List Event
  pub copies : List Event
  pub grown : old_after ≡ steps ++ old
  pub grown_too : new_after ≡ copies ++ new
  pub renamed : map Some copies ≡ map (renamed_event names) steps

module _ (old new : List Event) (names : Renaming) where
  pub grow_kept : (old_after new_after : List Event) (after : Renaming) → GrowAlike old new names old_after new_after after → KeepsNames names after
  grow_kept old_after new_after after (GrowAlike.nothing) = record { tasks = λ u v named. named; positions = λ p q placed. placed }
  grow_kept old_after new_after after (GrowAlike.one_more old_now new_now now event other grow next) =
      let before = grow_kept old_now new_now now grow in
      record {
        tasks = λ u v named. task_later old_now new_now now event other next u v (before.tasks u v named);
        positions = λ p q placed. position_later old_now new_now now event other next p q (before.positions p q placed);
      }

  pub grow_groups : (old_after new_after : List Event) (after : Renaming) → GrowAlike old new names old_after new_after after
      → AreGroups old new after old_after new_after
  grow_groups old_after new_after after (GrowAlike.nothing) = record { steps = []; copies = []; grown = refl; grown_too = refl; renamed = refl }
  grow_groups old_after new_after after (GrowAlike.one_more old_now new_now now event other grow next) =
      let before = grow_groups old_now new_now now grow in
      let kept = next_kept old_now new_now now event other next in
      let more = next_names old_now new_now event now in
      record {
        steps = event ∷ before.steps;
        copies = other ∷ before.copies;
        grown = ap (λ (l : List Event). event ∷ l) before.grown;
        grown_too = ap (λ (l : List Event). other ∷ l) before.grown_too;
        renamed = λ i. sym (event_more now more kept event other next.renamed) i
            ∷ events_more now more kept before.steps before.copies before.renamed i;
      }

  -- both grow by the same number of events and of tasks

  grow_lengths : (old_after new_after : List Event) (after : Renaming) → GrowAlike old new names old_after new_after after
      → length old_after + length new ≡ length new_after + length old
  grow_lengths old_after new_after after (GrowAlike.nothing) = omega arith
  grow_lengths old_after new_after after (GrowAlike.one_more old_now new_now now event other grow next) =
      omega (arith, grow_lengths old_now new_now now grow)

  grow_counts : (old_after new_after : List Event) (after : Renaming) → GrowAlike old new names old_after new_after after
      → task_count old_after + task_count new ≡ task_count new_after + task_count old
  unfolding task_count
  grow_counts old_after new_after after (GrowAlike.nothing) = omega arith
  grow_counts old_after new_after after (GrowAlike.one_more old_now new_now now event other grow next) =
      let before = grow_counts old_now new_now now grow in
      elim (creation_said now event other (like old_now new_now now event other next)) [
        | AreBoth.both c d says says_too same ↦ omega (arith, before, ap option_len says, ap option_len says_too)
        | AreBoth.neither none none_too ↦ omega (arith, before, ap option_len none, ap option_len none_too)
      ]

  -- the positions and the tasks that are new stand for one another

  pub grow_positions : (old_after new_after : List Event) (after : Renaming) → GrowAlike old new names old_after new_after after
      → (k : ℕ) → k + length old < length old_after → after.position (suc (k + length old)) ≡ Some (suc (k + length new))
  grow_positions old_after new_after after (GrowAlike.nothing) k below = absurd (omega (arith, below))
  grow_positions old_after new_after after (GrowAlike.one_more old_now new_now now event other grow next) k below =
      elim (cases_eq (k + length old) (length old_now)) [
        | inl newest ↦
            let there : length new_now ≡ k + length new = omega (arith, newest, grow_lengths old_now new_now now grow) in
            rw (eq-eqb (suc (k + length old)) (suc (length old_now)) (ap suc newest)) (ap (λ n. Some (suc n)) there)
        | inr older ↦
            position_later old_now new_now now event other next (suc (k + length old)) (suc (k + length new))
            (grow_positions old_now new_now now grow k (omega (arith, older, below)))
      ]

  pub grow_tasks : (old_after new_after : List Event) (after : Renaming) → GrowAlike old new names old_after new_after after
      → (k : ℕ) → k + task_count old < task_count old_after → after.task (k + task_count old) ≡ Some (k + task_count new)
  grow_tasks old_after new_after after (GrowAlike.nothing) k below = absurd (omega (arith, below))
  grow_tasks old_after new_after after (GrowAlike.one_more old_now new_now now event other grow next) k below =
      elim (exists_cases event old_now (k + task_count old) below) [
        | inl older ↦
            task_later old_now new_now now event other next (k + task_count old) (k + task_count new)
            (grow_tasks old_now new_now now grow k older)
        | inr (c, says, newest) ↦
            let there : task_count new_now ≡ k + task_count new = omega (arith, newest, grow_counts old_now new_now now grow) in
            ap (next_names old_now new_now event now).task newest ∙ (made_named old_now new_now now event other next c says ∙ ap Some there)
      ]

  -- what existed before has the name that it had, or none as before

  grow_more : (old_after new_after : List Event) (after : Renaming) → GrowAlike old new names old_after new_after after
      → (task_count old ≤ task_count old_after) × (length old ≤ length old_after)
  grow_more old_after new_after after (GrowAlike.nothing) = (omega arith, omega arith)
  grow_more old_after new_after after (GrowAlike.one_more old_now new_now now event other grow next) =
      let more = grow_more old_now new_now now grow in
      (omega (arith, more.0, task_count-more event old_now), omega (arith, more.1))

  pub grow_old_tasks : (old_after new_after : List Event) (after : Renaming) → GrowAlike old new names old_after new_after after
      → (u : ℕ) → u < task_count old → after.task u ≡ names.task u
  grow_old_tasks old_after new_after after (GrowAlike.nothing) u below = refl
  grow_old_tasks old_after new_after after (GrowAlike.one_more old_now new_now now event other grow next) u below =
      task_before old_now new_now now event u (omega (arith, below, (grow_more old_now new_now now grow).0))
      ∙ grow_old_tasks old_now new_now now grow u below

  pub grow_old_positions : (old_after new_after : List Event) (after : Renaming) → GrowAlike old new names old_after new_after after
      → (p : ℕ) → p ≤ length old → after.position p ≡ names.position p
  grow_old_positions old_after new_after after (GrowAlike.nothing) p within = refl
  grow_old_positions old_after new_after after (GrowAlike.one_more old_now new_now now event other grow next) p within =
      position_before old_now new_now now event p (omega (arith, within, (grow_more old_now new_now now grow).1))
      ∙ grow_old_positions old_now new_now now grow p within
