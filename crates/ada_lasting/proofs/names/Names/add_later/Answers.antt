use Rattle.std.proofs.Common.{◌≡◌, ◌<◌, ◌+◌, ◌-◌, [], ◌∷◌, ◌++◌, get_or, ap, ◌∙◌, arith}
use Rattle.ada_standing.specs.declared.renaming.Place.{Place}
use Rattle.ada_lasting.specs.Naming.{Naming}
use Rattle.ada_lasting.proofs.MovedNames.{no_place, later-taken, later-left, later-all}
use Rattle.ada_lasting.proofs.names.Names.add_later.Goals.{then-self-place+then-place-self+in_ok-push, else-self-place}
use Rattle.ada_lasting.proofs.names.Names.add_later.Goals.{else-self-place-via-then-self-place+else-place-self, else-self-place-via-else-self-place}
use Rattle.ada_lasting.proofs.names.Names.add_later.Goals as goal

pub loop-place-preserved : goal.loop-place-preserved
loop-place-preserved c =
    let n : Naming = c.args.self.now in
    let out = c.loop-place.out.items in
    let place : Place = get_or c.args.places.now c.loop-place.place-index no_place in
    let from : c.self.inside.from ≡ n.from = ap (λ (m : Naming). m.from) c.self.view_is in
    let until : c.self.inside.until ≡ n.until = ap (λ (m : Naming). m.until) c.self.view_is in
    elim c.if-self-place.branch [
      | then-self-place+then-place-self+in_ok-push w ↦
          rw w.out-is
          (later-taken n.since n.from n.until c.args.places.now c.loop-place.place-index c.args.out.now.items out w.push.new.self.items c.loop-place-test.true
          (omega (arith, from, w.if-self-place.true)) (omega (arith, until, w.if-place-self.true))
          ((rw w.from.ensures at w.in_ok-push.ensures.items)
          ∙ ap (λ (m : Naming). out ++ (record { lasting = m.since + (place.old - m.from); present = place.new } ∷ [])) c.self.view_is)
          c.loop-place.invariant)
      | else-self-place w ↦
          let outside : n.from < place.old → n.until < place.old = λ less. elim w.else-self-place.branch [
            | else-self-place-via-then-self-place+else-place-self v ↦ omega (arith, until, v.if-place-self.false)
            | else-self-place-via-else-self-place v ↦ absurd (omega (arith, from, less, v.if-self-place.false))
          ] in
          rw w.out-is
          (later-left n.since n.from n.until c.args.places.now c.loop-place.place-index c.args.out.now.items out c.loop-place-test.true outside
          c.loop-place.invariant)
    ]

pub returns : goal.returns
returns c =
    later-all c.args.self.now.since c.args.self.now.from c.args.self.now.until c.args.places.now c.loop-place.place-index c.args.out.now.items
    c.loop-place.out.items (omega arith) c.loop-place.invariant
