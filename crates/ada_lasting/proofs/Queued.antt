-- How many calls are queued at an entry, by what the kernel keeps.
use Rattle.std.proofs.Common.{◌≡◌, ℕ, true, false, not, ◌&&◌, Some, None, List, refl, sym, ap, ◌∙◌}
use Rattle.std.specs.Prelude.{slice_get}
use Rattle.std.specs.Bool.{then_some}
use Rattle.std.specs.Option.{option_and_then}
use Rattle.ada_events.specs.declared.event.Event.{Event}
use Rattle.ada_events.specs.declared.names.Entry.{Entry}
use Rattle.ada_events.specs.declared.names.Family.{Family}
use Rattle.ada_events.specs.Calls.{count_of}
use Rattle.ada_events.specs.Entries.{is_in_range}
use Rattle.ada_events.specs.Refusals.{lacks_family, is_outside}
use Rattle.ada_events.specs.Tasks.{families_of}
use Rattle.ada_standing.proofs.asked.Answering.{lacks_alike, outside_alike}
use Rattle.ada_lasting.specs.Naming.{found, renaming_of}
use Rattle.ada_lasting.specs.Following.{Long, Follows}
use Rattle.ada_lasting.specs.Queues.{queued}
use Rattle.ada_lasting.specs.internal.Present.{IsPresent}
use Rattle.ada_lasting.proofs.Answered.{answers}

module _ (journal : List Event) (task : ℕ) (entry : Entry) where
  -- the task declares no such family
  pub none_declared : slice_get (families_of journal task) entry.family ≡ None → None ≡ queued journal task entry
  unfolding lacks_family
  none_declared none = rw none refl

  module _ (family : Family) (declared : slice_get (families_of journal task) entry.family ≡ Some family) where
    -- the index of the entry is outside the range of its family
    pub none_within : is_in_range family entry.index ≡ false → None ≡ queued journal task entry
    unfolding lacks_family is_outside
    none_within outside = rw (declared, outside) refl

    -- the task has the entry
    pub some_queued : (count : ℕ) → is_in_range family entry.index ≡ true → count ≡ count_of journal task entry → Some count ≡ queued journal task entry
    unfolding lacks_family is_outside
    some_queued count within is = rw (declared, within) (ap Some is)

-- the present journal tells it as the journal that is followed does
pub queued_here : (journal : List Event) (kernel : Long) → Follows journal kernel → IsPresent kernel → (task v : ℕ) (entry : Entry)
    → found kernel.names.tasks task ≡ Some v
    → queued kernel.present v entry ≡ option_and_then (λ (n : ℕ). queued journal task entry) (found kernel.names.tasks task)
queued_here journal kernel follows is_present task v entry named =
    let lacks = lacks_alike journal kernel.present (renaming_of kernel.names) task v entry follows.stands named in
    let outside = outside_alike journal kernel.present (renaming_of kernel.names) task v entry follows.stands named in
    let count = ((answers journal kernel follows is_present).tasks task v named).count entry in
    ap (λ b. then_some (not b && not (is_outside kernel.present v entry)) (count_of kernel.present v entry)) lacks
    ∙ (ap (λ b. then_some (not (lacks_family journal task entry) && not b) (count_of kernel.present v entry)) outside
    ∙ (ap (λ n. then_some (not (lacks_family journal task entry) && not (is_outside journal task entry)) n) count
    ∙ ap (option_and_then (λ (n : ℕ). queued journal task entry)) (sym named)))
