-- The causes that have to do with activation and entries apply alike.
use Rattle.std.proofs.Common.{◌≡◌, ℕ, Bool, true, false, not, ◌&&◌, eqb, Option, Some, None, List, [], ◌∷◌, map, refl, sym, ap, ◌∙◌, subst}
use Rattle.std.proofs.Common.{inl, inr, ◌≢◌}
use Rattle.std.specs.Option.{option_and_then}
use Rattle.std.specs.Bool.{then_some}
use Rattle.std.specs.List.{list_any}
use Rattle.std.proofs.lemmas.Bool.{cases_eq, eq-eqb, ne_eqb}
use Rattle.std.proofs.lemmas.Option.{none-some}
use Rattle.ada_events.specs.declared.event.Event.{Event}
use Rattle.ada_events.specs.declared.request.Request.{Request}
use Rattle.ada_events.specs.declared.request.Request.TheVariants.{Activate, Call, Wait}
use Rattle.ada_events.specs.declared.names.Choice.{Choice}
use Rattle.ada_events.specs.declared.names.TaskNo.{TaskNo}
use Rattle.ada_events.specs.Search.{is_number, is_some_and}
use Rattle.ada_events.specs.Says.{Creation}
use Rattle.ada_events.specs.Tasks.{creation_of}
use Rattle.ada_events.specs.Phases.{has_start, is_terminated}
use Rattle.ada_events.specs.Asks.{asker, named_tasks}
use Rattle.ada_events.specs.Refusals.{may_activate, is_not_your_task, has_no_accept, lacks_family, names_no_family, is_outside, breaks_constraint}
use Rattle.ada_standing.specs.Renaming.{Renaming}
use Rattle.ada_standing.specs.StandsIn.{StandsIn, activator_of}
use Rattle.ada_standing.specs.Asking.{asked_task, renamed_request}
use Rattle.ada_standing.proofs.alike.Pairs.{active_parts}
use Rattle.ada_standing.proofs.alike.Calling.{same_task_alike}
use Rattle.ada_standing.proofs.asked.Answering.{lacks_alike, outside_alike}
use Rattle.ada_standing.proofs.asked.Naming.{HaveNames, IsAsker, IsAsking, double_alike}

-- a test of a list that another test passes alike
pub any_same : {A : Type 0} (test there : A → Bool) (xs : List A) → ((x : A) → there x ≡ test x) → list_any there xs ≡ list_any test xs
any_same test there [] same = refl
any_same test there (x ∷ xs) same = rw (same x, any_same test there xs same) refl

-- a task that isn't terminated may activate another exactly where it is its activator
may_is : (journal : List Event) (by task : ℕ) → is_terminated journal by ≡ false → may_activate journal by task ≡ is_number by (activator_of journal task)
unfolding may_activate activator_of
may_is journal by task still = by_creation (creation_of journal task) (has_start journal task)
  where
    never : (a : Bool) (c : ℕ) → c ≢ by → false ≡ is_number by (then_some a c)
    never true c other = sym (ne_eqb by c (λ same. other (sym same)))
    never false c other = refl

    always : (s : Bool) (c : ℕ) → c ≡ by → not s ≡ is_number by (then_some (not s && true) c)
    always true c same = refl
    always false c same = sym (eq-eqb by c (sym same))

    by_creation : (o : Option Creation) (s : Bool) → (is_some_and o (λ (c : Creation). eqb c.by by) && not s)
        ≡ is_number by (option_and_then (λ (c : Creation). then_some (not s && not (is_terminated journal c.by)) c.by) o)
    by_creation None s = refl
    by_creation (Some c) s =
        elim (cases_eq c.by by) [
          | inl same ↦
              let ended : is_terminated journal c.by ≡ false = subst (λ (n : ℕ). is_terminated journal n ≡ false) (sym same) still in
              rw (eq-eqb c.by by same, ended) (always s c.by same)
          | inr other ↦ rw (ne_eqb c.by by other) (never (not s && not (is_terminated journal c.by)) c.by other)
        ]

number_alike : (old new : List Event) (names : Renaming) (u v : ℕ) (o : Option ℕ) → StandsIn old new names → names.task u ≡ Some v
    → is_number v (option_and_then names.task o) ≡ is_number u o
number_alike old new names u v None stands named = refl
number_alike old new names u v (Some s) stands named = by_name (names.task s) refl
  where
    by_name : (o : Option ℕ) → names.task s ≡ o → is_number v o ≡ eqb u s
    by_name (Some w) is = sym (same_task_alike old new names u s v w stands named is)
    by_name None is = sym (ne_eqb u s (λ same. none-some v (sym is ∙ (ap names.task (sym same) ∙ named))))

may_alike : (old new : List Event) (names : Renaming) (u t w : ℕ) → StandsIn old new names → (asker : IsAsker old names u) → names.task t ≡ Some w
    → may_activate new asker.stand w ≡ may_activate old u t
may_alike old new names u t w stands asker named =
    let v = asker.stand in
    let still = (active_parts old u asker.active).1 in
    let still_too : is_terminated new v ≡ false = (stands.same u v asker.named).terminated ∙ still in
    may_is new v w still_too
    ∙ (ap (is_number v) (stands.same t w named).activator
    ∙ (number_alike old new names u v (activator_of old t) stands asker.named ∙ sym (may_is old u t still)))

may_all_alike : (old new : List Event) (names : Renaming) (u : ℕ) (tasks : List TaskNo) → StandsIn old new names → (asker : IsAsker old names u)
    → HaveNames names tasks
    → list_any (λ (t : TaskNo). not (may_activate new asker.stand t.0)) (map (asked_task names) tasks)
    ≡ list_any (λ (t : TaskNo). not (may_activate old u t.0)) tasks
may_all_alike old new names u [] stands asker have = refl
may_all_alike old new names u (t ∷ rest) stands asker have =
    rw (
      have.0.1,
      may_alike old new names u t.0 have.0.0 stands asker have.0.1,
      may_all_alike old new names u rest stands asker have.1,
    ) refl

pub not_your_task_alike : (old new : List Event) (names : Renaming) (request : Request) → StandsIn old new names → IsAsking old names request
    → is_not_your_task new (renamed_request names request) ≡ is_not_your_task old request
unfolding is_not_your_task renamed_request asker named_tasks
not_your_task_alike old new names (Activate by tasks) stands asking =
    let asker = asking.by by.0 refl in
    rw (
      asker.named,
      may_all_alike old new names by.0 tasks stands asker asking.tasks,
      double_alike old new names tasks stands asking.tasks,
    ) refl
not_your_task_alike old new names _ stands asking = refl

pub no_accept_alike : (names : Renaming) (request : Request) → has_no_accept (renamed_request names request) ≡ has_no_accept request
unfolding has_no_accept renamed_request
no_accept_alike names (Wait by choices tail pick) = refl
no_accept_alike names _ = refl

pub no_family_alike : (old new : List Event) (names : Renaming) (request : Request) → StandsIn old new names → IsAsking old names request
    → names_no_family new (renamed_request names request) ≡ names_no_family old request
unfolding names_no_family renamed_request asker named_tasks
no_family_alike old new names (Call by callee entry patience) stands asking =
    let (v, named) = asking.tasks.0 in
    rw named (lacks_alike old new names callee.0 v entry stands named)
no_family_alike old new names (Wait by choices tail pick) stands asking =
    let asker = asking.by by.0 refl in
    rw asker.named
    (any_same (λ (c : Choice). lacks_family old by.0 c.entry) (λ (c : Choice). lacks_family new asker.stand c.entry) choices
    (λ c. lacks_alike old new names by.0 asker.stand c.entry stands asker.named))
no_family_alike old new names _ stands asking = refl

pub constraint_alike : (old new : List Event) (names : Renaming) (request : Request) → StandsIn old new names → IsAsking old names request
    → breaks_constraint new (renamed_request names request) ≡ breaks_constraint old request
unfolding breaks_constraint renamed_request asker named_tasks
constraint_alike old new names (Call by callee entry patience) stands asking =
    let (v, named) = asking.tasks.0 in
    rw named (outside_alike old new names callee.0 v entry stands named)
constraint_alike old new names (Wait by choices tail pick) stands asking =
    let asker = asking.by by.0 refl in
    rw asker.named
    (any_same (λ (c : Choice). c.guard && is_outside old by.0 c.entry) (λ (c : Choice). c.guard && is_outside new asker.stand c.entry) choices
    (λ c. ap (λ b. c.guard && b) (outside_alike old new names by.0 asker.stand c.entry stands asker.named)))
constraint_alike old new names _ stands asking = refl
