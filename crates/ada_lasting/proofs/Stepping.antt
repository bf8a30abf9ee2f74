-- A kernel that lives on follows a journal without an end from request to request.
use Rattle.std.proofs.Common.{◌≡◌, ℕ, suc, ◌+◌, ◌-◌, ◌≤◌, true, Option, Some, None, List, ◌++◌, length, map, take, if◌then◌else◌}
use Rattle.std.proofs.Common.{sym, ap, ◌∙◌, subst, inr, arith}
use Rattle.std.specs.Option.{option_map, is_some}
use Rattle.std.proofs.lemmas.List.{length-append, length-map}
use Rattle.ada_events.specs.declared.event.Event.{Event}
use Rattle.ada_events.specs.declared.request.Request.{Request}
use Rattle.ada_events.specs.declared.limits.TheConstants.{MOST_TASKS}
use Rattle.ada_events.specs.Tasks.{task_count}
use Rattle.ada_events.specs.Steps.{IsAccepted}
use Rattle.ada_laws.specs.Unlimited.{refusal_but_limits}
use Rattle.ada_laws.proofs.asking.Limitless.{lawful_unlimited, accepted_without_limits}
use Rattle.ada_laws.proofs.asking.LimitLaws.{tasks_are_few, leads_on-unlimited}
use Rattle.ada_laws.proofs.asking.RequestLaws.{after-unlimited}
use Rattle.ada_standing.specs.Renaming.{Renaming, renamed_event}
use Rattle.ada_standing.specs.StandsIn.{StandsIn}
use Rattle.ada_standing.specs.Asking.{names_kept, renamed_request}
use Rattle.ada_standing.specs.Leading.{LedAlike}
use Rattle.ada_standing.proofs.asked.Refusing.{refused_alike}
use Rattle.ada_standing.proofs.led.Leading.{leads_alike}
use Rattle.ada_lasting.specs.Naming.{Naming, length_of, renaming_of}
use Rattle.ada_lasting.specs.declared.masters.Dependent.{Dependent}
use Rattle.ada_lasting.specs.declared.requests.LastingMaster.{LastingMaster}
use Rattle.ada_lasting.specs.Meaning.{meant_master}
use Rattle.ada_lasting.specs.internal.Mastering.{asked_under, masters_next}
use Rattle.ada_lasting.specs.Refusing.{creates}
use Rattle.ada_lasting.specs.internal.Nameable.{names_nameable}
use Rattle.ada_lasting.specs.Following.{Long, Follows, IsStepped}
use Rattle.ada_lasting.specs.internal.Present.{IsPresent}
use Rattle.ada_lasting.proofs.Meant.{kept_nameable}
use Rattle.ada_lasting.proofs.Earlier.{makes_alike, agreed_before}
use Rattle.ada_lasting.proofs.Newest.{newest_appended}
use Rattle.ada_lasting.proofs.Remembering.{masters_after}
use Rattle.ada_lasting.proofs.Growing.{count_after, names_after, tasks_follow, positions_follow, lengths, growth_too}

same_renaming : (x y : Renaming) → ((u : ℕ) → x.task u ≡ y.task u) → ((p : ℕ) → x.position p ≡ y.position p) → x ≡ y
same_renaming x y tasks positions = λ i. record { task = λ u. tasks u i; position = λ p. positions p i }

-- the events by which a journal grew are its newest
newest_of : (before grown copies : List Event) → grown ≡ copies ++ before → take (length grown - length before) grown ≡ copies
newest_of before grown copies is =
    let long : length grown ≡ length copies + length before = ap length is ∙ length-append copies before in
    newest_appended before grown copies (length grown - length before) is (omega (arith, long))

-- what the names and both journals know after the request
module _ (journal : List Event) (kernel : Long) (follows : Follows journal kernel) (is_present : IsPresent kernel) (r : Request)
    (nameable : names_nameable kernel.names r ≡ true) where
  kept : names_kept (renaming_of kernel.names) journal r ≡ true
  kept = kept_nameable journal kernel.names follows.made r ∙ nameable

  pub refused_too : refusal_but_limits kernel.present (renamed_request (renaming_of kernel.names) r) ≡ refusal_but_limits journal r
  refused_too =
      let few : task_count kernel.present ≤ MOST_TASKS = tasks_are_few kernel.present is_present.lawful in
      refused_alike journal kernel.present (renaming_of kernel.names) r follows.stands follows.lawful
      (lawful_unlimited kernel.present is_present.lawful) (omega arith) kept

  module _ (at : ℕ) (present : List Event) (accepted : IsAccepted kernel.present (renamed_request (renaming_of kernel.names) r) at present) where
    unrefused_present : refusal_but_limits kernel.present (renamed_request (renaming_of kernel.names) r) ≡ None
    unrefused_present = accepted_without_limits kernel.present (renamed_request (renaming_of kernel.names) r) accepted.unrefused

    unrefused : refusal_but_limits journal r ≡ None
    unrefused = sym refused_too ∙ unrefused_present

    abbrev pub after : Naming
    after = names_after kernel.names r (task_count kernel.present) (length present)

    abbrev pub stepped_kernel : List Dependent → Long
    stepped_kernel masters = record {
      present = present;
      names = after;
      group = take (length present - length kernel.present) present;
      masters = masters;
    }

    pub stepped : (master : Option LastingMaster) → option_map meant_master master ≡ asked_under r → is_some master ≡ creates r
        → IsStepped journal r (length_of kernel.names + 1) (stepped_kernel (masters_next master kernel.names.made kernel.masters))
    stepped master asks makes =
        let (grown, leads) = leads_on-unlimited journal r follows.lawful follows.settled unrefused in
        let led : LedAlike journal kernel.present (renaming_of kernel.names) grown present =
        leads_alike journal kernel.present (renaming_of kernel.names) r grown present follows.stands follows.lawful
        (lawful_unlimited kernel.present is_present.lawful) follows.settled kept unrefused unrefused_present leads accepted.after in
        let same : led.after ≡ renaming_of after =
        sym (same_renaming (renaming_of after) led.after
        (tasks_follow journal kernel.present kernel.names r grown present follows.made follows.length is_present.short is_present.order.grows
        is_present.order.tasks leads led)
        (positions_follow journal kernel.present kernel.names r grown present follows.made follows.length is_present.short is_present.order.grows
        is_present.order.tasks leads led)) in
        let grew = lengths journal kernel.present kernel.names r grown present follows.made follows.length is_present.short is_present.order.grows
        is_present.order.tasks leads led in
        let longer = growth_too journal kernel.present kernel.names r grown present follows.made follows.length is_present.short is_present.order.grows
        is_present.order.tasks leads led in
        let group : List Event = take (length present - length kernel.present) present in
        let copied : group ≡ led.copies = newest_of kernel.present present led.copies led.grown_too in
        let told : map Some group ≡ map (renamed_event (renaming_of after)) led.steps =
        ap (map Some) copied ∙ (led.renamed ∙ ap (λ n. map (renamed_event n) led.steps) same) in
        let as_many : length led.steps ≡ length group =
        sym (length-map led.steps (renamed_event (renaming_of after))) ∙ (sym (ap length told) ∙ length-map group Some) in
        record {
          unrefused = unrefused;
          grown = grown;
          after = leads;
          follows = record {
            lawful = after-unlimited journal r grown follows.lawful follows.settled unrefused leads;
            settled = leads.settled;
            stands = subst (StandsIn grown present) same led.stands;
            shown = told
                ∙ ap (map (renamed_event (renaming_of after))) (sym (newest_appended journal grown led.steps (length group) led.grown as_many));
            before = inr (agreed_before journal kernel.present (renaming_of kernel.names) r (renamed_request (renaming_of kernel.names) r) grown
                (stepped_kernel (masters_next master kernel.names.made kernel.masters)) follows.stands follows.lawful
                (lawful_unlimited kernel.present is_present.lawful) follows.settled is_present.settled unrefused unrefused_present leads accepted.after led
                (makes_alike (renaming_of kernel.names) r) as_many (sym (ap length copied))
                (tasks_follow journal kernel.present kernel.names r grown present follows.made follows.length is_present.short is_present.order.grows
                is_present.order.tasks leads led));
            length = omega (arith, grew, longer, follows.length, is_present.short, is_present.order.grows);
            made = count_after journal r grown leads ∙ ap (λ n. if creates r then suc n else n) follows.made;
            masters = masters_after journal r grown kernel.names kernel.masters master (task_count kernel.present) (length present) follows.made asks
                makes leads follows.masters;
          };
          position = omega (arith, follows.length);
          steps = led.steps;
          appended = led.grown;
          told = told;
        }
