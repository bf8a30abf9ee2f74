use Rattle.std.proofs.Common.{arith, ◌∙◌, ◌+◌, ap, sym, rules}
use Rattle.ada_laws.proofs.asking.LimitLaws.{events_are_few}
use Rattle.ada_triggers.proofs.Bounds.{creation_keeps_bound}
use Rattle.ada_triggers.proofs.Starts.{bound_stays}
use Rattle.ada_records.proofs.recording.EventKinds.{makes_some}
use Rattle.ada_records.proofs.following.Made.{made_open, made_tasks, made_entries}
use Rattle.ada_kernel.proofs.Creations.{creation_made, moment_kept}
use Rattle.ada_kernel.proofs.index.Index.note_creation.Goals as goal

pub overflow_add-len : goal.overflow_add-len
overflow_add-len c = record { fits = omega (arith, c.len.ensures, events_are_few c.args.journal.now.events c.requires.may.lawful.0) }

pub follow_creation-requires-clause-few : goal.follow_creation-requires-clause-few
follow_creation-requires-clause-few c =
    made_tasks c.args.event.now c.args.journal.now.events c.args.self.now.kept.tables c.args.self.now.kept.tables c.args.master c.args.families.now
    c.requires.may.lawful c.requires.makes c.requires.may.stands.kept.tabled c.requires.may.stands.slots

pub follow_creation-requires-clause-slots : goal.follow_creation-requires-clause-slots
follow_creation-requires-clause-slots c =
    made_entries c.args.event.now c.args.journal.now.events c.args.self.now.kept.tables c.args.self.now.kept.tables c.args.master c.args.families.now
    c.requires.may.lawful c.requires.makes c.requires.may.stands.kept.tabled c.requires.may.stands.slots

pub follow_creation-requires-clause-master : goal.follow_creation-requires-clause-master
follow_creation-requires-clause-master c =
    made_open c.args.event.now c.args.journal.now.events c.args.self.now.kept.tables c.args.self.now.kept.tables c.args.master c.args.families.now
    c.requires.may.lawful c.requires.makes c.requires.may.stands.kept.tabled c.requires.may.stands.slots

pub returns-clause-ok : goal.returns-clause-ok
returns-clause-ok c =
    let (creation, makes) = creation_made c.args.event.now c.args.master c.args.families.now c.requires.makes in
    let follows = c.in_ok-follow_creation.ensures.ok c.args.event.now c.args.journal.now.events c.requires.makes c.requires.may.lawful
    c.requires.may.stands.kept.tabled c.requires.may.stands.slots in
    record {
      kept = record {
        lawful = c.requires.may.lawful;
        recorded =
            c.record_creation.ensures c.args.event.now c.args.journal.now.events (makes_some c.args.event.now _ _ _ _ c.requires.makes.is)
            (ap (λ n. n + 1) (sym c.len.ensures)) c.requires.may.lawful (search rules);
        tabled = follows.0;
        timed =
            c.requires.may.stands.kept.timed ∙ sym (moment_kept c.args.event.now c.args.journal.now.events c.args.master c.args.families.now c.requires.makes);
      };
      slots = follows.1;
      agenda =
          c.put_creation_keys.ensures c.args.event.now c.args.journal.now.events (makes_some c.args.event.now _ _ _ _ c.requires.makes.is) (search rules)
          c.requires.may.lawful c.requires.may.stands.agenda;
      unstarted = bound_stays c.args.event.now c.args.journal.now.events c.args.self.now.unstarted c.requires.may.stands.unstarted;
      due =
          creation_keeps_bound c.args.event.now c.args.journal.now.events c.args.self.now.next_due creation c.requires.may.lawful
          c.requires.may.stands.due makes;
    }
