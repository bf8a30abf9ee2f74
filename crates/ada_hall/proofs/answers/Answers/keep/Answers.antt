use Rattle.std.proofs.Common.{◌≡◌, ◌<◌, Some, None, length, sym, subst, arith}
use Rattle.std.proofs.lemmas.List.{length-set}
use Rattle.ada_hall.specs.Answers.{AnswersKept, answer_at}
use Rattle.ada_hall.proofs.Places.{room_for_one, stay_apart, stay_within}
use Rattle.ada_hall.proofs.ByPlace.{one_kept}
use Rattle.ada_hall.proofs.answers.Answers.keep.Goals as goal

pub push_reserved-requires : goal.push_reserved-requires
push_reserved-requires c =
    let place : c.args.kept.place < length c.self.inside.by_place.items =
    subst (λ (a : AnswersKept). c.args.kept.place < a.places) (sym c.self.view_is) c.requires.place in
    let none : answer_at c.self.inside.kept.items c.args.kept.place ≡ None =
    subst (λ (a : AnswersKept). answer_at a.kept c.args.kept.place ≡ None) (sym c.self.view_is) c.requires.unanswered in
    let room = room_for_one c.self.inside.kept.items c.args.kept (length c.self.inside.by_place.items) c.self.invariant.1 c.self.invariant.2 place none in
    omega (arith, c.self.ranges, c.self.invariant.3, room)

pub invariant_of-self : goal.invariant_of-self
invariant_of-self c =
    let by_place = c.self.inside.by_place.items in
    let place : c.args.kept.place < length by_place =
    subst (λ (a : AnswersKept). c.args.kept.place < a.places) (sym c.self.view_is) c.requires.place in
    let none : answer_at c.self.inside.kept.items c.args.kept.place ≡ None =
    subst (λ (a : AnswersKept). answer_at a.kept c.args.kept.place ≡ None) (sym c.self.view_is) c.requires.unanswered in
    rw c.push_reserved.ensures.items (
      one_kept by_place c.self.inside.kept.items c.args.kept c.self.invariant.0 place none,
      stay_apart c.self.inside.kept.items c.args.kept c.self.invariant.1 none,
      rw length-set (stay_within c.self.inside.kept.items c.args.kept (length by_place) c.self.invariant.2 place),
      omega (arith, length-set by_place c.args.kept.place (Some c.args.kept.answer), c.self.invariant.3, c.push_reserved.ensures.capacity),
    )
