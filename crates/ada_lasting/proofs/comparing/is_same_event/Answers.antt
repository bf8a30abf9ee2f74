use Rattle.std.proofs.Common.{sym, ◌∙◌}
use Rattle.ada_border.specs.Events.{event_at}
use Rattle.ada_border.proofs.OneToOne.{read_back}
use Rattle.ada_lasting.proofs.comparing.is_same_event.Goals as goal

pub returns-then-are_same_numbers : goal.returns-then-are_same_numbers
returns-then-are_same_numbers c = λ same.
    let lists = c.has_same_lists.ensures in
    let numbers = sym c.plain_of.ensures ∙ c.are_same_numbers.ensures c.if-are_same_numbers.true ∙ c.plain_of-2.ensures in
    sym (read_back c.args.event.now)
    ∙ (λ i. event_at (numbers i) (lists.tasks same i) (lists.families same i) (lists.choices same i) (lists.dues same i))
    ∙ read_back c.args.other.now
