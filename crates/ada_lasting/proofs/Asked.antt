-- What the kernel answers to a request, from what its present journal answers.
use Rattle.std.proofs.Common.{◌≡◌, ℕ, suc, ◌+◌, ◌-◌, ◌≤◌, ◌⊎◌, Bool, true, false, Option, List, ◌∷◌}
use Rattle.std.proofs.Common.{length, take, if◌then◌else◌, refl, sym, ap, ◌∙◌, subst, arith}
use Rattle.std.specs.Prelude.{Result, Ok, Err, IfErr, OnErr}
use Rattle.std.specs.Option.{option_map, is_some}
use Rattle.ada_events.specs.declared.event.Event.{Event}
use Rattle.ada_events.specs.declared.request.Request.{Request}
use Rattle.ada_events.specs.declared.refusal.Refusal.{Refusal}
use Rattle.ada_events.specs.Asks.{asked_event}
use Rattle.ada_events.specs.Tasks.{task_count}
use Rattle.ada_events.specs.Lawful.{After, Forces}
use Rattle.ada_events.specs.Steps.{IsAccepted, IsRefused as IsRefusedNow}
use Rattle.ada_standing.specs.Asking.{renamed_request}
use Rattle.ada_lasting.specs.declared.masters.Dependent.{Dependent}
use Rattle.ada_lasting.specs.declared.requests.LastingMaster.{LastingMaster}
use Rattle.ada_lasting.specs.declared.failure.NotDone.{NotDone}
use Rattle.ada_lasting.specs.Naming.{Naming, length_of, renaming_of}
use Rattle.ada_lasting.specs.internal.Keeping.{with_task, grown_to}
use Rattle.ada_lasting.specs.Meaning.{meant_master}
use Rattle.ada_lasting.specs.internal.Mastering.{asked_under, masters_next}
use Rattle.ada_lasting.specs.Refusing.{creates}
use Rattle.ada_lasting.specs.internal.Nameable.{names_nameable}
use Rattle.ada_lasting.specs.Following.{Long, Follows, IsStepped}
use Rattle.ada_lasting.specs.Refusing.{IsCause, IsMadeShorter, IsRefused}
use Rattle.ada_lasting.specs.internal.Causes.{named_cause}
use Rattle.ada_lasting.specs.internal.Present.{IsPresent, named_next}
use Rattle.ada_lasting.proofs.Growing.{names_after}
use Rattle.ada_lasting.proofs.Stepping.{refused_too, stepped, stepped_kernel}
use Rattle.ada_lasting.proofs.Refused.{named_by_limits, is_cause, IsNamed}

-- a request makes a journal no shorter

forced_longer : (from to : List Event) → Forces from to → length from ≤ length to
forced_longer from to (Forces.nothing) = omega arith
forced_longer from to (Forces.one_more {journal = journal} {event = event} before step) = omega (arith, forced_longer from journal before)

pub after_longer : (old : List Event) (r : Request) (new : List Event) → After old r new → length old ≤ length new
after_longer old r new after =
    let more = forced_longer (asked_event old r ∷ old) new after.forces in
    omega (arith, more)

grown_next : (b : Bool) (names : Naming) (task until : ℕ)
    → grown_to (named_next b names task) until
    ≡ (let after : Naming = record {
      tasks = if b then (with_task names task).tasks else names.tasks;
      places = names.places;
      made = if b then suc names.made else names.made;
      since = names.since;
      from = names.from;
      until = until;
    } in after)
grown_next true names task until = refl
grown_next false names task until = refl

same_long : (x y : Long) → x.present ≡ y.present → x.names ≡ y.names → x.group ≡ y.group → x.masters ≡ y.masters → x ≡ y
same_long x y present names group masters = λ i. record { present = present i; names = names i; group = group i; masters = masters i }

module _ (journal : List Event) (kernel : Long) (follows : Follows journal kernel) (r : Request) where
  module _ (is_present : IsPresent kernel) (nameable : names_nameable kernel.names r ≡ true) where
    pub stepped_by : (master : Option LastingMaster) → option_map meant_master master ≡ asked_under r → is_some master ≡ creates r
        → (at : ℕ) (result : Long) (position : ℕ)
        → IsAccepted kernel.present (renamed_request (renaming_of kernel.names) r) at result.present
        → result.names ≡ grown_to (named_next (is_some master) kernel.names (task_count kernel.present)) (length result.present)
        → result.group ≡ take (length result.present - length kernel.present) result.present
        → result.masters ≡ masters_next master kernel.names.made kernel.masters
        → position ≡ length_of kernel.names + 1 → IsStepped journal r position result
    stepped_by master asks makes at result position accepted names group masters next =
        let more : List Dependent = masters_next master kernel.names.made kernel.masters in
        let after : result.names ≡ names_after kernel.names r (task_count kernel.present) (length result.present) =
        names ∙ (ap (λ m. grown_to (named_next m kernel.names (task_count kernel.present)) (length result.present)) makes
        ∙ grown_next (creates r) kernel.names (task_count kernel.present) (length result.present)) in
        let same : stepped_kernel journal kernel follows is_present r nameable at result.present accepted more ≡ result =
        same_long (stepped_kernel journal kernel follows is_present r nameable at result.present accepted more) result refl (sym after) (sym group)
        (sym masters) in
        subst (λ p. IsStepped journal r p result) (sym next)
        (subst (IsStepped journal r (length_of kernel.names + 1)) same
        (stepped journal kernel follows is_present r nameable at result.present accepted master asks makes))

    pub refused_by : (cause : Refusal) (present : List Event)
        → IsRefusedNow kernel.present (renamed_request (renaming_of kernel.names) r) cause present
        → IsCause journal r kernel (named_cause cause)
    refused_by cause present refused =
        is_cause journal r kernel (renaming_of kernel.names) cause
        (subst (λ o. IsNamed kernel.present (renamed_request (renaming_of kernel.names) r) o cause)
        (refused_too journal kernel follows is_present r nameable)
        (named_by_limits kernel.present (renamed_request (renaming_of kernel.names) r) cause refused.named))

-- a request that was refused after the present journal was made shorter, or was left as it was
pub refused : (journal : List Event) (r : Request) (cause : NotDone) (before between after : Long) → Follows journal between
    → (between ≡ before) ⊎ IsMadeShorter before between → after ≡ between → IsCause journal r between cause → IsRefused journal r cause before after
refused journal r cause before between after follows first same named =
    subst (IsRefused journal r cause before) (sym same) (record { follows = follows; named = named; unchanged = first })

-- what is known of an error
pub err_refused : {A S : Type 0} {P Q : NotDone → Type 0} (result : Result A NotDone) → IfErr result P → OnErr result S
    → ((cause : NotDone) → P cause → S → Q cause) → IfErr result Q
err_refused (Ok at) known same follows = tt
err_refused (Err cause) known same follows = follows cause known same

-- names for a task more know as long a present journal
pub until_next : (b : Bool) (names : Naming) (task : ℕ) → (named_next b names task).until ≡ names.until
until_next true names task = refl
until_next false names task = refl
