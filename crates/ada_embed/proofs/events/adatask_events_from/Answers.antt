use Rattle.std.proofs.Common.{rules, ◌≡◌, ◌<◌, ◌+◌, length, ◌∙◌, inl, inr}
use Rattle.std.proofs.lemmas.List.{length-set}
use Rattle.ada_embed.proofs.Listed.{event_at, no_event_at, one_less, one_more}
use Rattle.ada_embed.proofs.events.adatask_events_from.Goals as goal

pub returns-then-adatask_event-ne-ACCEPTED-clause-told : goal.returns-then-adatask_event-ne-ACCEPTED-clause-told
returns-then-adatask_event-ne-ACCEPTED-clause-told c =
    let position : c.in-Some.position ≡ c.args.from + c.loop-place.place = search rules in (
      c.loop-place.invariant.2,
      c.loop-place.invariant.3,
      inr (inl (no_event_at c.loop-place.h.home c.args.h.now.home c.in-Some.position _ c.adatask_event.result _ c.adatask_event.new.out
          c.loop-place.invariant.1 position (search rules) c.adatask_event.ensures.told)),
    )

pub loop-place-preserved : goal.loop-place-preserved
loop-place-preserved c =
    let within : c.loop-place.place < length c.loop-place.out = search rules in
    let position : c.in-Some.position ≡ c.args.from + c.loop-place.place = search rules in (
      length-set c.loop-place.out c.loop-place.place c.adatask_event.new.out ∙ c.loop-place.invariant.0,
      c.adatask_event.ensures.same ∙ c.loop-place.invariant.1,
      one_more c.args.h.now.home c.args.from c.loop-place.place c.loop-place.out c.adatask_event.new.out within c.loop-place.invariant.2
          (event_at c.loop-place.h.home c.args.h.now.home c.in-Some.position _ c.adatask_event.result _ c.adatask_event.new.out
          c.loop-place.invariant.1 position (search rules) c.adatask_event.ensures.told),
      one_less c.loop-place.place c.args.out.now c.loop-place.out c.adatask_event.new.out c.loop-place.invariant.3,
    )
