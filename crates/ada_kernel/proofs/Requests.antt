-- A request that isn't refused, and the journal with its event.
use Rattle.std.proofs.Common.{◌≡◌, ℕ, ◌<◌, ◌+◌, ◌≤◌, Some, None, List, ◌∷◌, sym, ap, ◌∙◌, subst, arith}
use Rattle.ada_events.specs.declared.event.Event.{Event}
use Rattle.ada_events.specs.declared.request.Request.{Request}
use Rattle.ada_events.specs.Asks.{asked_event, asker}
use Rattle.ada_events.specs.Journals.{Kept}
use Rattle.ada_events.specs.Lawful.{IsLawful, IsSettled}
use Rattle.ada_events.specs.Refusals.{refusal}
use Rattle.ada_events.specs.Tasks.{task_count}
use Rattle.ada_laws.proofs.asking.Accepting.{asker_exists}
use Rattle.ada_laws.proofs.asking.LimitLaws.{asked_lawful}
use Rattle.ada_steps.specs.Beginning.{HasBegun}
use Rattle.ada_kernel.specs.declared.index.Index.{Index}
use Rattle.ada_kernel.specs.internal.Indexes.{IsIndexOf}
use Rattle.ada_kernel.specs.internal.Stepping.{MayBegin, MayNote}

module _ (old room : List Event) (request : Request) (event : Event) (unrefused : refusal old request ≡ None) (same : room ≡ old)
    (is : event ≡ asked_event old request) where
  -- the event may follow
  pub may_follow : IsLawful old → IsSettled old → IsLawful (event ∷ room)
  may_follow lawful settled =
      subst (λ j. IsLawful (event ∷ j)) (sym same)
      (subst (λ (e : Event). IsLawful (e ∷ old)) (sym is) (asked_lawful old request lawful settled unrefused))

  -- the index that stands for the journal may note it
  pub may_note : (index : Index) → MayBegin index old → MayNote index room event
  may_note index may = record { stands = subst (IsIndexOf index) (sym same) may.stands; lawful = may_follow may.stands.kept.lawful may.settled }

-- with it the answer has begun
pub has_begun : (before room after : Kept) (request : Request) (event : Event) → refusal before.events request ≡ None → room.events ≡ before.events
    → event ≡ asked_event before.events request → after.events ≡ event ∷ room.events → 1024 ≤ room.spare → room.spare ≤ after.spare + 1
    → HasBegun before request after
has_begun before room after request event unrefused same is appended many left = record {
  unrefused = unrefused;
  appended = appended ∙ ap (λ j. event ∷ j) same ∙ ap (λ (e : Event). e ∷ before.events) is;
  room = omega (arith, many, left);
}

-- whoever asks exists
pub asker_there : (old view : List Event) (request : Request) (by : ℕ) → refusal old request ≡ None → view ≡ old → asker request ≡ Some by
    → by < task_count view
asker_there old view request by unrefused same asks =
    subst (λ j. by < task_count j) (sym same) (asker_exists old request by unrefused asks)
