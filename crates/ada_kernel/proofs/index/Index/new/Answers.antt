use Rattle.std.proofs.Common.{List, [], ◌∷◌, ◌++◌, length, ap, subst, sym, refl, ◌∙◌}
use Rattle.ada_events.specs.Limits.{slot_count}
use Rattle.ada_events.specs.Tasks.{moment}
use Rattle.ada_records.specs.declared.record.Record.{Record}
use Rattle.ada_records.specs.Records.{AreRecords}
use Rattle.ada_kernel.proofs.Empty.{empty_agenda}
use Rattle.ada_kernel.proofs.index.Index.new.Goals as goal

pub returns-clause-ok : goal.returns-clause-ok
unfolding slot_count moment
returns-clause-ok c = record {
  kept = record {
    lawful = tt;
    recorded =
        subst (λ (records : List Record). AreRecords records [])
        (sym (c.push_reserved.ensures.items ∙ ap (λ (records : List Record). records ++ c.of_main.result ∷ [])
        (c.in_ok-reserve.ensures.items ∙ c.new-records.ensures.items)))
        c.of_main.ensures;
    tabled = c.in_ok-tables.ensures.stands;
    timed = refl;
  };
  slots = ap length c.in_ok-tables.ensures.queues;
  agenda = empty_agenda c.in_ok-agenda.agenda;
  due = c.new-next_due.ensures.bound;
  unstarted = c.new-unstarted.ensures.bound;
}
