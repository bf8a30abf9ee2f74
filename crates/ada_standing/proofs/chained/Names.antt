-- What stands for what stands for something.
use Rattle.std.proofs.Common.{◌≡◌, ℕ, Option, Some, None, List, [], ◌∷◌, map, refl, ap, ◌∙◌}
use Rattle.std.specs.Option.{option_map, option_and_then}
use Rattle.ada_events.specs.declared.names.Master.{Master}
use Rattle.ada_events.specs.declared.names.Master.TheVariants.{Body, Block}
use Rattle.ada_events.specs.declared.names.Member.{Member}
use Rattle.ada_events.specs.declared.names.Member.TheVariants.{Block as BlockMember, Rendezvous}
use Rattle.ada_events.specs.declared.outcome.Outcome.{Outcome}
use Rattle.ada_events.specs.declared.outcome.Outcome.TheVariants.{Accepted}
use Rattle.ada_events.specs.Forced.{task_no}
use Rattle.ada_standing.specs.Renaming.{Renaming, chained, renamed_master, renamed_member, renamed_outcome}

pub and_then_twice : {A B C : Type 0} (f : A → Option B) (g : B → Option C) (o : Option A)
    → option_and_then g (option_and_then f o) ≡ option_and_then (λ x. option_and_then g (f x)) o
and_then_twice f g None = refl
and_then_twice f g (Some x) = refl

made_twice : {A : Type 0} (make : ℕ → A) (again : A → Option A) (to : ℕ → Option ℕ) (o : Option ℕ) → ((n : ℕ) → again (make n) ≡ option_map make (to n))
    → option_and_then again (option_map make o) ≡ option_map make (option_and_then to o)
made_twice make again to None same = refl
made_twice make again to (Some n) same = same n

master_twice : (names more : Renaming) (x : Master) → option_and_then (renamed_master more) (renamed_master names x) ≡ renamed_master (chained names more) x
unfolding renamed_master
master_twice names more (Body t) = made_twice (λ v. Body (task_no v)) (renamed_master more) more.task (names.task t.0) (λ n. refl)
master_twice names more (Block p) = made_twice Block (renamed_master more) more.position (names.position p) (λ n. refl)

-- and of a master that there may be
pub masters_twice : (names more : Renaming) (o : Option Master)
    → option_and_then (renamed_master more) (option_and_then (renamed_master names) o) ≡ option_and_then (renamed_master (chained names more)) o
masters_twice names more None = refl
masters_twice names more (Some x) = master_twice names more x

member_twice : (names more : Renaming) (x : Member) → option_and_then (renamed_member more) (renamed_member names x) ≡ renamed_member (chained names more) x
unfolding renamed_member
member_twice names more (BlockMember p) = made_twice BlockMember (renamed_member more) more.position (names.position p) (λ n. refl)
member_twice names more (Rendezvous p) = made_twice Rendezvous (renamed_member more) more.position (names.position p) (λ n. refl)

-- and of the members of a nest
pub members_twice : (names more : Renaming) (xs ys : List Member) → map Some ys ≡ map (renamed_member names) xs
    → map (renamed_member more) ys ≡ map (renamed_member (chained names more)) xs
members_twice names more [] [] same = refl
members_twice names more [] (y ∷ ys) same = absurd cc
members_twice names more (x ∷ xs) [] same = absurd cc
members_twice names more (x ∷ xs) (y ∷ ys) same =
    let head : Some y ≡ renamed_member names x = cc in
    let tail : map Some ys ≡ map (renamed_member names) xs = cc in
    let first : renamed_member more y ≡ renamed_member (chained names more) x =
    ap (option_and_then (renamed_member more)) head ∙ member_twice names more x in
    rw (first, members_twice names more xs ys tail) refl

pub outcome_twice : (names more : Renaming) (x : Outcome)
    → option_and_then (renamed_outcome more) (renamed_outcome names x) ≡ renamed_outcome (chained names more) x
unfolding renamed_outcome
outcome_twice names more (Accepted p choice) =
    made_twice (λ c. Accepted c choice) (renamed_outcome more) more.position (names.position p) (λ n. refl)
outcome_twice names more _ = refl
