use Rattle.std.proofs.Common.{arith, refl, sym, ap, ◌+◌}
use Rattle.ada_events.specs.declared.event.Event.TheVariants.{Opened}
use Rattle.ada_events.specs.Says.{creation_in, moment_in}
use Rattle.ada_laws.proofs.asking.LimitLaws.{events_are_few}
use Rattle.ada_triggers.proofs.Bounds.{bound_kept}
use Rattle.ada_triggers.proofs.Additions.{nothing_noted}
use Rattle.ada_kernel.proofs.Quiet.{noted_tables}
use Rattle.ada_records.proofs.following.Allowed.{opens_block}
use Rattle.ada_records.proofs.recording.EventKinds.{records_opened}
use Rattle.ada_kernel.proofs.index.Index.note_opening.Goals as goal

pub overflow_add-len : goal.overflow_add-len
overflow_add-len c = record { fits = omega (arith, c.len.ensures, events_are_few c.args.journal.now.events c.requires.1.stands.kept.lawful) }

pub follow_opening-requires-clause-tabled : goal.follow_opening-requires-clause-tabled
follow_opening-requires-clause-tabled c =
    (opens_block _ c.args.journal.now.events c.requires.1.stands.kept.tabled _ c.args.by c.requires.0 _ refl
    (ap (λ n. n + 1) (sym c.len.ensures)) c.requires.1.lawful).0

pub follow_opening-requires-clause-shallow : goal.follow_opening-requires-clause-shallow
follow_opening-requires-clause-shallow c =
    (opens_block _ c.args.journal.now.events c.requires.1.stands.kept.tabled _ c.args.by c.requires.0 _ refl
    (ap (λ n. n + 1) (sym c.len.ensures)) c.requires.1.lawful).1

pub follow_opening-requires-clause-new : goal.follow_opening-requires-clause-new
follow_opening-requires-clause-new c =
    (opens_block _ c.args.journal.now.events c.requires.1.stands.kept.tabled _ c.args.by c.requires.0 _ refl
    (ap (λ n. n + 1) (sym c.len.ensures)) c.requires.1.lawful).2

pub returns : goal.returns
unfolding creation_in moment_in
returns c under lawful =
    let event = Opened c.args.by under in
    let before = c.args.journal.now.events in
    let stands = c.requires.1.stands in
    let follows = c.follow_opening.ensures before under (ap (λ n. n + 1) (sym c.len.ensures)) lawful stands.kept.tabled stands.slots in
    noted_tables c.args.self.now event before c.follow_opening.new.tables stands lawful (record { makes = refl; ticks = refl })
    (records_opened event before c.args.by under c.args.self.now.kept.records.items refl lawful stands.kept.recorded)
    follows.0 follows.1
    (nothing_noted event before c.args.self.now.agenda lawful stands.agenda refl)
    (bound_kept event before c.args.self.now.next_due lawful stands.due refl)
