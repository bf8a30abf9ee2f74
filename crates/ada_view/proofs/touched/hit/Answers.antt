use Rattle.std.specs.Prelude.{replicate, false}
use Rattle.std.proofs.Common.{◌∙◌, ◌≤◌, length, take, sym, ap, refl, subst, arith, [], ◌∷◌}
use Rattle.std.proofs.lemmas.List.{length-append}
use Rattle.ada_events.specs.Tasks.{task_count}
use Rattle.ada_records.specs.Records.{is_hit}
use Rattle.ada_view.specs.internal.Hitting.{TellsOfLive}
use Rattle.ada_view.proofs.Hitting.{flags_more, flags_begin, none_before}
use Rattle.ada_view.proofs.Listing.{lists_nobody, lists_more, lists_past, lists_all}
use Rattle.ada_view.proofs.touched.hit.Goals as goal
use Rattle.ada_view.proofs.touched.hit.Goals.{then-hits, else-hits}

pub loop-number-init : goal.loop-number-init
loop-number-init c =
    let first = c.first_named-first.result in
    let unnamed = c.first_named-first.ensures.none in
    let known : first ≤ task_count c.args.view.now =
    omega (arith, c.first_named-first.ensures.few, c.tasks-many.ensures.value, c.tables.ensures.stand.many) in
    let few : first ≤ 256 = omega (arith, c.first_named-first.ensures.few, c.tasks-many.ensures.fits) in
    let begin = flags_begin c.args.view.now c.args.tasks.now first 256 c.from_slice-flags.result c.tables.ensures.lawful known few unnamed
    (c.from_slice-flags.ensures ∙ ap (λ n. take n (replicate 256 false)) c.from.ensures) in (
      begin.0,
      begin.1,
      rw c.new-hit.ensures
          (lists_nobody c.args.view.now (is_hit c.args.view.now c.args.tasks.now) first
          (λ task. none_before c.args.view.now c.args.tasks.now first task c.tables.ensures.lawful known unnamed)),
    )

pub loop-number-preserved : goal.loop-number-preserved
loop-number-preserved c =
    let tells = subst (λ flags. TellsOfLive c.args.view.now flags (is_hit c.args.view.now c.args.tasks.now)) (sym c.as_slice.ensures.value)
    c.loop-number.invariant.1 in
    let hits = c.is_hit-hits.ensures c.args.tasks.now c.named-named.ensures tells in (
      ap length c.push.ensures
          ∙ omega (arith, length-append c.loop-number.flags (c.is_hit-hits.result ∷ []), c.loop-number.invariant.0),
      subst (λ flags. TellsOfLive c.args.view.now flags (is_hit c.args.view.now c.args.tasks.now)) (sym c.push.ensures)
          (flags_more c.args.view.now c.loop-number.flags (is_hit c.args.view.now c.args.tasks.now) c.loop-number.number c.is_hit-hits.result
          c.loop-number.invariant.0 c.loop-number.invariant.1 hits),
      elim c.if-hits.branch [
        | then-hits w ↦
            rw (w.hit-is, w.push-then-hits.ensures)
            (lists_more c.args.view.now c.loop-number.hit (is_hit c.args.view.now c.args.tasks.now) c.loop-number.number
            (record { 0 = c.loop-number.number }) refl c.loop-number.invariant.2 (λ live. sym w.if-hits.true ∙ hits live))
        | else-hits w ↦
            rw w.hit-is
            (lists_past c.args.view.now c.loop-number.hit (is_hit c.args.view.now c.args.tasks.now) c.loop-number.number c.loop-number.invariant.2
            (λ live. sym w.if-hits.false ∙ hits live))
      ],
    )

pub returns : goal.returns
returns c =
    lists_all c.args.view.now c.loop-number.hit (is_hit c.args.view.now c.args.tasks.now) c.loop-number.number c.loop-number.invariant.2
    (omega (arith, c.loop-number-test.false, c.loop-number.invariant.0, c.tasks-many.ensures.value, c.tables.ensures.stand.many))
