use Rattle.std.proofs.Common.{inl, refl}
use Rattle.ada_embed.proofs.lasting.questions.compact.Goals as goal

pub returns-in-Ok : goal.returns-in-Ok
returns-in-Ok c = λ journal follows. inl (
  refl,
  c.in-Ok.ensures.follows journal follows,
  c.in-Ok.ensures.given_up journal follows,
  c.in-Ok.ensures.shorter,
)
