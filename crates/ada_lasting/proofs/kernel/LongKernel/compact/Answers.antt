use Rattle.std.proofs.Common.{List, length, refl, sym, ap, ◌∙◌, subst, arith}
use Rattle.std.specs.List.{All}
use Rattle.ada_events.specs.declared.event.Event.{Event}
use Rattle.ada_events.specs.declared.names.TaskNo.{TaskNo}
use Rattle.ada_compact.specs.Kept.{AreNamed}
use Rattle.ada_standing.specs.Names.{Names, renaming_of as standing_of}
use Rattle.ada_lasting.specs.Naming.{Naming, length_of}
use Rattle.ada_lasting.specs.Following.{Long, Follows}
use Rattle.ada_lasting.specs.GivingUp.{GivesUpOnly}
use Rattle.ada_lasting.specs.internal.Present.{IsPresent}
use Rattle.ada_lasting.specs.internal.Mastering.{IsKeptOrGone}
use Rattle.ada_lasting.specs.internal.Moving.{moved_names}
use Rattle.ada_lasting.proofs.GivingUp.{gives_up_only}
use Rattle.ada_lasting.proofs.Newest.{none_newest}
use Rattle.ada_lasting.proofs.Shortened.{shortened}
use Rattle.ada_lasting.proofs.Ends.{no_events_known}
use Rattle.ada_lasting.proofs.kernel.LongKernel.compact.Goals as goal

pub returns-clause-follows : goal.returns-clause-follows
returns-clause-follows c = λ journal follows.
    let here = subst (Follows journal) (sym c.self.view_is) follows in
    let is_present = subst IsPresent (sym c.self.view_is) c.known.ensures in
    rw (c.retain.ensures, c.in-Ok-moved.ensures.ok) (shortened journal _ _ _ _ _ here is_present.order c.in-Ok-compact.ensures.stands
    (none_newest _ _ (c.len-until.ensures ∙ ap length c.journal.ensures.events)))

pub invariant_of-self : goal.invariant_of-self
invariant_of-self c =
    let (journal, follows) = c.self.invariant.3 in
    let order = (subst IsPresent (sym c.self.view_is) c.known.ensures).order in
    let long = c.len-until.ensures ∙ ap length c.journal.ensures.events in (
      rw c.in-Ok-moved.ensures.ok (sym long),
      omega (arith, long),
      no_events_known c.self.inside.ended _ _ (none_newest _ _ long),
      (
        journal,
        rw (c.retain.ensures, c.in-Ok-moved.ensures.ok) (shortened journal _ _ _ _ _ follows order c.in-Ok-compact.ensures.stands
            (none_newest _ _ long)),
      ),
    )

pub returns-clause-shorter : goal.returns-clause-shorter
returns-clause-shorter c = record {
  since = rw c.in-Ok-moved.ensures.ok (ap (λ (k : Long). length_of k.names) c.self.view_is);
  anew = rw c.in-Ok-moved.ensures.ok refl;
  shown = none_newest _ _ (c.len-until.ensures ∙ ap length c.journal.ensures.events);
}

-- who has no name in the shorter journal wasn't kept, so his master is gone
pub returns-clause-given_up : goal.returns-clause-given_up
returns-clause-given_up c = λ journal follows.
    let present : List Event = c.self.inside.kernel in
    let old : Naming = c.self.inside.names in
    let kept : List TaskNo = c.in-Ok.kept.items in
    let names : Names = c.in-Ok-compact.compacted.names in
    let here = subst (Follows journal) (sym c.self.view_is) follows in
    let is_present = subst IsPresent (sym c.self.view_is) c.known.ensures in
    let named : AreNamed present (standing_of names) kept =
    subst (λ (tasks : List TaskNo). AreNamed present (standing_of names) tasks) c.deref.ensures.value c.in-Ok-compact.ensures.kept in
    let answered : All (IsKeptOrGone present old kept) c.self.inside.masters =
    subst (λ (j : List Event). All (IsKeptOrGone j old kept) c.self.inside.masters) c.view.ensures c.in-Ok.ensures in
    rw c.in-Ok-moved.ensures.ok
    (subst (λ (k : Long). GivesUpOnly journal k.names (moved_names old names c.len-until.result)) c.self.view_is
    (gives_up_only journal _ here is_present.order _ names c.in-Ok-compact.ensures.stands kept named answered c.len-until.result))
