-- A kernel that lives on follows the same journal where its present journal is made shorter, and where a name is given up.
use Rattle.std.proofs.Common.{◌≡◌, ◌≢◌, ℕ, Bool, true, false, Option, Some, List, [], refl, sym, ap, ◌∙◌, subst, inl, inr, arith}
use mathlib.Core.Bool.{beq}
use Rattle.std.specs.Bool.{then_some}
use Rattle.std.specs.Option.{option_eq}
use Rattle.std.proofs.lemmas.Bool.{cases_Bool, cases_eq, true≢false}
use Rattle.std.proofs.lemmas.Option.{none-some}
use Rattle.ada_events.specs.declared.event.Event.{Event}
use Rattle.ada_events.specs.Tasks.{has_task}
use Rattle.ada_events.specs.Phases.{is_terminated}
use Rattle.ada_laws.proofs.searching.Searching.{option_and_then-some}
use Rattle.ada_standing.specs.Names.{Names, named, renaming_of as standing_of}
use Rattle.ada_standing.specs.Renaming.{chained}
use Rattle.ada_standing.specs.StandsIn.{StandsIn, is_live}
use Rattle.ada_standing.proofs.chained.Chain.{stand_ins_chain}
use Rattle.ada_standing.proofs.chained.Quiet.{fewer_names_stand_in}
use Rattle.ada_lasting.specs.declared.rows.Row.{Row}
use Rattle.ada_lasting.specs.Naming.{Naming, found, renaming_of}
use Rattle.ada_lasting.specs.internal.Keeping.{AreInOrder, rises_between}
use Rattle.ada_lasting.specs.internal.Mastering.{named_masters}
use Rattle.ada_lasting.specs.internal.Moving.{moved_names, without, without_task}
use Rattle.ada_lasting.specs.Following.{Long, Follows}
use Rattle.ada_lasting.proofs.MovedNames.{renaming-moved, tasks-moved}
use Rattle.ada_lasting.proofs.Remembering.{masters_fewer, masters_named}
use Rattle.ada_lasting.proofs.WithoutTask.{without_task-enough, found-without-same, found-without-other}

-- what has a name in a shorter present journal had one before
was_named : (old : Naming) (names : Names) (until task v : ℕ) → rises_between 0 old.made old.tasks ≡ true
    → found (moved_names old names until).tasks task ≡ Some v → (w : ℕ) × (found old.tasks task ≡ Some w)
was_named old names until task v rises is =
    let (w, was, _) = option_and_then-some (named names.tasks) (found old.tasks task) v (sym (tasks-moved old names until task rises) ∙ is) in
    (w, was)

-- a shorter present journal takes the place of the present one
pub shortened : (journal : List Event) (kernel : Long) (present : List Event) (names : Names) (until : ℕ) (group : List Event) → Follows journal kernel
    → AreInOrder kernel.names → StandsIn kernel.present present (standing_of names) → group ≡ []
    → Follows journal (record {
      present = present;
      names = moved_names kernel.names names until;
      group = group;
      masters = named_masters (moved_names kernel.names names until) kernel.masters;
    })
shortened journal kernel present names until group follows order stands nothing =
    let chain : StandsIn journal present (chained (renaming_of kernel.names) (standing_of names)) =
    stand_ins_chain journal kernel.present present (renaming_of kernel.names) (standing_of names) follows.stands stands follows.lawful in
    record {
      lawful = follows.lawful;
      settled = follows.settled;
      stands = subst (StandsIn journal present) (sym (renaming-moved kernel.names names until order.tasks order.places)) chain;
      shown = rw nothing refl;
      before = inl nothing;
      length = omega (arith, follows.length);
      made = follows.made;
      masters = masters_named journal (moved_names kernel.names names until) kernel.masters
          (masters_fewer journal kernel.names (moved_names kernel.names names until) kernel.masters
          (λ task v is. was_named kernel.names names until task v order.tasks is) follows.masters);
    }

-- a task of which it is told that it is terminated is so
pub dead_told : (exists dead : Bool) (told : Option Bool) → told ≡ then_some exists dead → true ≡ option_eq beq told (Some true) → dead ≡ true
dead_told true true told is same = refl
dead_told true false told is same = absurd (true≢false (same ∙ ap (λ o. option_eq beq o (Some true)) is))
dead_told false dead told is same = absurd (true≢false (same ∙ ap (λ o. option_eq beq o (Some true)) is))

-- a terminated task is dead in the journal too
dead_too : (journal : List Event) (kernel : Long) (task present : ℕ) → Follows journal kernel → found kernel.names.tasks task ≡ Some present
    → is_terminated kernel.present present ≡ true → is_live journal task ≡ false
dead_too journal kernel task present follows named dead =
    let same : is_terminated journal task ≡ true = sym (follows.stands.same task present named).terminated ∙ dead in
    elim (cases_Bool (has_task journal task)) [
      | inl exists ↦ rw (exists, same) refl
      | inr none ↦ rw none refl
    ]

-- what is named without the name of a task was named with it
still_named : (rows : List Row) (lasting task v : ℕ) → found (without lasting rows) task ≡ Some v → found rows task ≡ Some v
still_named rows lasting task v is = elim (cases_eq task lasting) [
  | inl same ↦ absurd (none-some v (sym (ap (found (without lasting rows)) same ∙ found-without-same rows lasting) ∙ is))
  | inr differs ↦ sym (found-without-other rows lasting task differs) ∙ is
]

-- the name of a terminated task is given up
pub released : (journal : List Event) (kernel : Long) (task present : ℕ) (group : List Event) → Follows journal kernel
    → found kernel.names.tasks task ≡ Some present → is_terminated kernel.present present ≡ true → task ≢ 0 → group ≡ []
    → Follows journal (record { present = kernel.present; names = without_task kernel.names task; group = group; masters = kernel.masters })
released journal kernel task present group follows named dead other nothing =
    record {
      lawful = follows.lawful;
      settled = follows.settled;
      stands = fewer_names_stand_in journal kernel.present (renaming_of kernel.names) (renaming_of (without_task kernel.names task)) follows.stands
          (without_task-enough journal kernel.names task (dead_too journal kernel task present follows named dead) other) follows.lawful follows.settled;
      shown = rw nothing refl;
      before = inl nothing;
      length = follows.length;
      made = follows.made;
      masters = masters_fewer journal kernel.names (without_task kernel.names task) kernel.masters
          (λ u v is. (v, still_named kernel.names.tasks task u v is)) follows.masters;
    }
