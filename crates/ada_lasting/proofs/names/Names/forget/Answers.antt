use Rattle.std.proofs.Common.{◌≡◌, rules, List, ap, ◌∙◌}
use Rattle.std.proofs.lemmas.Fn.{filter_same}
use Rattle.ada_lasting.specs.declared.rows.Row.{Row}
use Rattle.ada_lasting.specs.Naming.{Naming}
use Rattle.ada_lasting.specs.internal.Moving.{without, without_task}
use Rattle.ada_lasting.proofs.WithoutTask.{without-rises, without-tasks}
use Rattle.ada_lasting.proofs.names.Names.forget.Goals as goal

-- the rows that are kept are those of other names
kept : (c : goal.After-retain) → c.retain.new.self.items ≡ without c.args.lasting c.self.inside.tasks.items
kept c = filter_same _ _ _ (λ x b f' k. search rules) _ _ c.retain.ensures.filtered

pub invariant_of-self : goal.invariant_of-self
invariant_of-self c = (
  rw (kept c) (without-rises c.self.inside.tasks.items 0 c.self.inside.made c.args.lasting c.self.invariant.0),
  rw (kept c) (without-tasks c.self.inside.tasks.items c.args.lasting c.self.invariant.1),
  c.self.invariant.2,
  c.self.invariant.3,
  c.self.invariant.4,
  c.self.invariant.5,
  c.self.invariant.6,
)

pub returns : goal.returns
returns c =
    let inside = c.self.inside in
    let with_rows : List Row → Naming = λ rows. record {
      tasks = rows;
      places = inside.places.items;
      made = inside.made;
      since = inside.since;
      from = inside.from;
      until = inside.until;
    } in
    ap with_rows (kept c) ∙ ap (λ (n : Naming). without_task n c.args.lasting) c.self.view_is
