-- Records of which those of listed tasks are changed, one after another.
use Rattle.std.proofs.Common.{◌≡◌, ℕ, ◌+◌, ◌<◌, ◌≤◌, Bool, true, ◌||◌, eqb, None, List, ◌∷◌, length, get_or, set, take, sym, ap, ◌∙◌, subst, arith}
use Rattle.std.proofs.Common.{inl, inr}
use Rattle.std.proofs.Math.Bool.{or-true, or-false}
use Rattle.std.proofs.lemmas.Bool.{cases_eq, eq-eqb, ne_eqb}
use Rattle.std.proofs.lemmas.List.{length-set, get_or-set_same, get_or-set_other, take_all}
use Rattle.std.proofs.lemmas.List.Folds.{list_any_more}
use Rattle.ada_events.specs.declared.event.Event.{Event}
use Rattle.ada_events.specs.declared.names.TaskNo.{TaskNo}
use Rattle.ada_events.specs.Says.{creation_in}
use Rattle.ada_events.specs.Phases.{lists_task}
use Rattle.ada_laws.proofs.searching.Growing.{task_count-same}
use Rattle.ada_records.specs.declared.record.Record.{Record}
use Rattle.ada_records.specs.Records.{no_record, record_at, IsRecordOf, AreRecords}
use Rattle.ada_records.specs.Noted.{HaveRecords}
use Rattle.ada_records.specs.internal.Records.{HaveChanged}

-- a change after which the same change says nothing new
abbrev pub IsOnce : (Bool → Record → Record) → Type 0
IsOnce change = (b : Bool) (r : Record) → change true (change b r) ≡ change true r

pub changed_more : (change : Bool → Record → Record) (first now : List Record) (tasks : List TaskNo) (i : ℕ) (d : TaskNo) (new : Record) → IsOnce change
    → HaveChanged change first now tasks i → i < length tasks → (get_or tasks i d).0 < length first → new ≡ change true (record_at now (get_or tasks i d).0)
    → HaveChanged change first (set now (get_or tasks i d).0 new) tasks (i + 1)
changed_more change first now tasks i d new once so_far below known is = record {
  same = length-set now (get_or tasks i d).0 new ∙ so_far.same;
  each = λ task exists.
      let u = (get_or tasks i d).0 in
      let more : lists_task task (take (i + 1) tasks)
      ≡ (lists_task task (take i tasks) || eqb u task) = list_any_more (λ (t : TaskNo). eqb t.0 task) tasks i d below in
      elim (cases_eq task u) [
        | inl same ↦
            rw (more, eq-eqb u task (sym same), or-true (lists_task task (take i tasks)))
            (subst (λ (n : ℕ). record_at (set now u new) n ≡ change true (record_at first n)) (sym same)
            (get_or-set_same now u new no_record (omega (arith, known, so_far.same)) ∙ is
            ∙ ap (λ (r : Record). change true r) (so_far.each u known)
            ∙ once (lists_task u (take i tasks)) (record_at first u)))
        | inr differs ↦
            rw (more, ne_eqb u task (λ same. differs (sym same)), or-false (lists_task task (take i tasks)))
            (get_or-set_other now u task new no_record differs ∙ so_far.each task exists)
      ];
}

-- the records of listed tasks are there while none is added or lost
pub still_there : (tasks : List TaskNo) (records now : List Record) (k : ℕ) (d : TaskNo) → HaveRecords tasks records → length now ≡ length records
    → k < length tasks → (get_or tasks k d).0 < length now
still_there tasks records now k d there same below = omega (arith, there k d below, same)

-- the records of all listed tasks changed by an event that makes none
pub all_changed : (change : Bool → Record → Record) (event : Event) (before : List Event) (records now : List Record) (tasks : List TaskNo) (i : ℕ)
    → AreRecords records before → creation_in event ≡ None → HaveChanged change records now tasks i → length tasks ≤ i
    → ((task : ℕ) → task < length records → IsRecordOf (event ∷ before) task (change (lists_task task tasks) (record_at records task)))
    → AreRecords now (event ∷ before)
all_changed change event before records now tasks i stand makes changed whole right = record {
  many = changed.same ∙ stand.many ∙ sym (task_count-same event before makes);
  each = λ task below.
      let known : task < length records = omega (arith, below, changed.same) in
      rw (changed.each task known, take_all i tasks whole) (right task known);
}
