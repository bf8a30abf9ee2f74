use Rattle.std.proofs.Common.{◌∙◌, ap, sym, nat_eq}
use Rattle.std.proofs.lemmas.Bool.{eq-eqb, ne_eqb}
use Rattle.ada_view.proofs.Leaving.{held_stands, none_live}
use Rattle.ada_view.proofs.Quitting.{quit_told, incomplete_stays, deserted_stays}
use Rattle.ada_view.proofs.view.View.is_to_quit.Goals as goal

pub live_dependents-live-requires : goal.live_dependents-live-requires
live_dependents-live-requires c = held_stands _ c.args.self.now c.args.master c.tables-tables.ensures.stand c.requires.held

pub returns-then-not-complete : goal.returns-then-not-complete
returns-then-not-complete c = incomplete_stays c.args.self.now c.args.master (sym c.requires.complete ∙ c.if-not-complete.true)

pub returns-then-live-eq0 : goal.returns-then-live-eq0
returns-then-live-eq0 c =
    deserted_stays c.args.self.now c.args.master
    (sym (ap (λ n. nat_eq n 0) c.live_dependents-live.ensures.value
    ∙ none_live _ c.args.self.now c.args.master c.tables-tables.ensures.stand c.requires.held)
    ∙ eq-eqb c.live_dependents-live.result 0 c.if-live-eq0.true)

pub returns : goal.returns
returns c =
    ap (λ n. nat_eq n c.ready_dependents.result) c.live_dependents-live.ensures.value
    ∙ ap (nat_eq _) c.ready_dependents.ensures.value
    ∙ quit_told _ c.args.self.now c.args.master c.tables-tables.ensures.stand c.requires.held (sym c.requires.complete ∙ c.if-not-complete.false)
    (sym (ap (λ n. nat_eq n 0) c.live_dependents-live.ensures.value
    ∙ none_live _ c.args.self.now c.args.master c.tables-tables.ensures.stand c.requires.held)
    ∙ ne_eqb c.live_dependents-live.result 0 c.if-live-eq0.false)
