-- Who is given up where a shorter present journal is taken: only tasks whose masters are gone.
use Rattle.std.proofs.Common.{◌≡◌, ◌≢◌, ℕ, ◌<◌, Bool, true, false, Option, Some, None, List, [], ◌∷◌, refl, sym, ap, ◌∙◌, subst, inl, inr}
use Rattle.std.specs.Option.{option_and_then, option_or}
use Rattle.std.specs.List.{All}
use Rattle.std.proofs.lemmas.Bool.{cases_Bool, ltb-true}
use Rattle.std.proofs.lemmas.Option.{none-some, same_Some}
use Rattle.ada_events.specs.declared.event.Event.{Event}
use Rattle.ada_events.specs.declared.names.TaskNo.{TaskNo}
use Rattle.ada_events.specs.Says.{Creation}
use Rattle.ada_events.specs.Tasks.{task_count, creation_of}
use Rattle.ada_events.specs.Phases.{is_terminated, lists_task}
use Rattle.ada_events.specs.Forced.{task_no}
use Rattle.ada_laws.proofs.within.Parents.{master_known-unlimited}
use Rattle.ada_laws.proofs.searching.Searching.{option_map-some}
use Rattle.ada_standing.specs.Names.{Names, named, renaming_of as standing_of}
use Rattle.ada_standing.specs.StandsIn.{StandsIn}
use Rattle.ada_standing.proofs.alike.Pairs.{live_from}
use Rattle.ada_compact.specs.Kept.{AreNamed}
use Rattle.ada_lasting.specs.Naming.{Naming, found, renaming_of}
use Rattle.ada_lasting.specs.internal.Keeping.{AreInOrder, grown_to}
use Rattle.ada_lasting.specs.Meaning.{meant_master}
use Rattle.ada_lasting.specs.Following.{Long, Follows}
use Rattle.ada_lasting.specs.GivingUp.{MayBeGivenUp, GivesUpOnly}
use Rattle.ada_lasting.specs.Remembering.{IsRemembered}
use Rattle.ada_lasting.specs.declared.rows.Row.{Row}
use Rattle.ada_lasting.specs.internal.Mastering.{IsGoneHere, IsKeptOrGone}
use Rattle.ada_lasting.specs.internal.Moving.{moved_names}
use Rattle.ada_lasting.specs.internal.Present.{named_next}
use Rattle.ada_lasting.proofs.Growing.{found_first}
use Rattle.ada_lasting.proofs.Gone.{gone_too}
use Rattle.ada_lasting.proofs.MovedNames.{tasks-moved}
use Rattle.ada_lasting.proofs.Remembering.{master_of}

-- nobody is given up where all names stay
pub none_given_up : (journal : List Event) (before after : Naming) → ((task v : ℕ) → found before.tasks task ≡ Some v → found after.tasks task ≡ Some v)
    → GivesUpOnly journal before after
none_given_up journal before after stay task v is none = absurd (none-some v (sym none ∙ stay task v is))

pub same_names : (journal : List Event) (names : Naming) → GivesUpOnly journal names names
same_names journal names = none_given_up journal names names (λ task v is. is)

-- a request takes no name
pub names_stay : (b : Bool) (names : Naming) (present until task v : ℕ) → found names.tasks task ≡ Some v
    → found (grown_to (named_next b names present) until).tasks task ≡ Some v
names_stay true names present until task v is =
    let last : Row = record { lasting = names.made; present = present } in
    found_first names.tasks (last ∷ []) task ∙ ap (λ (o : Option ℕ). option_or o (found (last ∷ []) task)) is
names_stay false names present until task v is = is

-- two times, the one after the other
pub given_up_twice : (journal : List Event) (before between after : Naming) → GivesUpOnly journal before between → GivesUpOnly journal between after
    → GivesUpOnly journal before after
given_up_twice journal before between after first second task v is none = by (found between.tasks task) refl
  where
    by : (o : Option ℕ) → found between.tasks task ≡ o → MayBeGivenUp journal task
    by None lost = first task v is lost
    by (Some w) still = second task w still none

module _ (journal : List Event) (kernel : Long) (follows : Follows journal kernel) (order : AreInOrder kernel.names) (present : List Event)
    (names : Names) (stands : StandsIn kernel.present present (standing_of names)) (kept : List TaskNo)
    (are_named : AreNamed kernel.present (standing_of names) kept)
    (are_kept : All (IsKeptOrGone kernel.present kernel.names kept) kernel.masters) where
  -- a task of the present journal that has no name in the shorter one
  module _ (task v : ℕ) (is : found kernel.names.tasks task ≡ Some v) (lost : named names.tasks v ≡ None) where
    no_name : (w : ℕ) → named names.tasks v ≡ Some w → ⊥
    no_name w has = none-some w (sym lost ∙ has)

    exists : v < task_count kernel.present
    exists = ltb-true v (task_count kernel.present) (follows.stands.same task v is).exists

    terminated_here : is_terminated kernel.present v ≡ true
    terminated_here = elim (cases_Bool (is_terminated kernel.present v)) [
      | inl over ↦ over
      | inr still ↦
          let (w, has) = stands.tasks.live v (live_from kernel.present v exists still) in
          absurd (no_name w has)
    ]

    unkept : lists_task v kept ≡ false
    unkept = elim (cases_Bool (lists_task v kept)) [
      | inl listed ↦
          let (w, has) = are_named v listed (follows.stands.same task v is).exists in
          absurd (no_name w has)
      | inr not_listed ↦ not_listed
    ]

    no_main : task ≢ 0
    no_main main =
        let first : v ≡ 0 = same_Some v 0 (sym is ∙ (ap (found kernel.names.tasks) main ∙ follows.stands.tasks.main)) in
        no_name 0 (ap (named names.tasks) first ∙ stands.tasks.main)

    may_be_given_up : MayBeGivenUp journal task
    may_be_given_up =
        let (d, same, right, keeps) = master_of (IsRemembered journal) (IsKeptOrGone kernel.present kernel.names kept) kernel.masters task
        follows.masters.right are_kept (follows.masters.complete task v is no_main) in
        let here : IsGoneHere kernel.present kernel.names (meant_master d.master) =
        keeps v (ap (found kernel.names.tasks) same ∙ is) terminated_here unkept in
        let (c, created, master) = option_map-some (λ (c : Creation). c.master) (creation_of journal d.task) (meant_master d.master) right in
        let made : creation_of journal task ≡ Some c = ap (creation_of journal) (sym same) ∙ created in
        record {
          terminated = sym (follows.stands.same task v is).terminated ∙ terminated_here;
          creation = c;
          created = made;
          gone = gone_too journal kernel.present (renaming_of kernel.names) c.master follows.stands
              (master_known-unlimited journal (task_no task) c follows.lawful made)
              (subst (IsGoneHere kernel.present kernel.names) (sym master) here);
        }

  pub gives_up_only : (until : ℕ) → GivesUpOnly journal kernel.names (moved_names kernel.names names until)
  gives_up_only until task v is none =
      may_be_given_up task v is
      (ap (option_and_then (named names.tasks)) (sym is) ∙ (sym (tasks-moved kernel.names names until task order.tasks) ∙ none))
