use Rattle.std.proofs.Common.{◌≡◌, ◌+◌, ◌-◌, ℕ, suc, true, Option, List, ◌++◌, ap, subst, ◌∙◌, arith}
use Rattle.ada_standing.specs.Names.{named, placed}
use Rattle.ada_lasting.specs.declared.rows.Row.{Row}
use Rattle.ada_lasting.specs.Naming.{Naming}
use Rattle.ada_lasting.specs.internal.Keeping.{rises_between}
use Rattle.ada_lasting.specs.internal.Moving.{moved, later}
use Rattle.ada_lasting.proofs.MovedNames.{moved-rises, places-rise}
use Rattle.ada_lasting.proofs.names.Names.moved.Goals as goal

pub invariant_of-result : goal.invariant_of-result
invariant_of-result c =
    let inside = c.self.inside in
    let n : Naming = c.args.self.now in
    let places = c.places.result.now in
    let to : ℕ → Option ℕ = placed c.args.renaming.now.places in
    let tasks : c.in_ok-tasks.tasks.items ≡ moved (named c.args.renaming.now.tasks) inside.tasks.items =
    c.in_ok-tasks.ensures.rows ∙ ap (moved (named c.args.renaming.now.tasks)) c.deref.ensures.value in
    let all : c.add_later.new.out.items ≡ moved to inside.places.items ++ later n.since n.from n.until places =
    c.in_ok-add_later.ensures
    ∙ ap (λ (l : List Row). l ++ later n.since n.from n.until places)
    (c.in_ok-places.ensures ∙ ap (moved to) c.deref-2.ensures.value) in
    let rise : rises_between 0 (suc (inside.since + (inside.until - inside.from)))
    (moved to inside.places.items ++ later n.since n.from n.until places) ≡ true =
    subst (λ (m : Naming). rises_between 0 (suc (inside.since + (inside.until - inside.from)))
    (moved to inside.places.items ++ later m.since m.from m.until places) ≡ true)
    c.self.view_is
    (places-rise to inside.places.items inside.since inside.from inside.until places c.self.invariant.2
    (rw c.places.ensures.places c.places.ensures.rise)) in (
      rw tasks (moved-rises (named c.args.renaming.now.tasks) inside.tasks.items 0 inside.made c.self.invariant.0),
      c.in_ok-tasks.ensures.small,
      rw (all, c.from.ensures) rise,
      omega arith,
      omega arith,
      omega arith,
      c.self.invariant.6,
    )
