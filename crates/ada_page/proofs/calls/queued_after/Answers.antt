use Rattle.std.proofs.Common.{◌≡◌, ◌∷◌, ◌++◌, ℕ, Vec, reverse, ap, ◌∙◌}
use Rattle.std.specs.Global.{Global}
use Rattle.std.proofs.lemmas.Result.{IfOk-weaker}
use Rattle.ada_page.specs.Standing.{AreQueued}
use Rattle.ada_page.specs.internal.Queued.{newest_call}
use Rattle.ada_page.proofs.Following.{queued_follow}
use Rattle.ada_page.proofs.calls.queued_after.Goals as goal

pub returns : goal.returns
returns c =
    let before = reverse c.args.before.now in
    let new = newest_call c.args.event.now before in
    IfOk-weaker c.with_newest.result (λ (more : Vec ℕ Global). more.items ≡ c.in_ok-stay.stay.items ++ new)
    (λ more. AreQueued (c.args.event.now ∷ before) more.items)
    (λ more is.
    queued_follow c.args.event.now before c.args.calls.now more.items c.requires.lawful c.requires.queued
    (is ∙ ap (λ xs. xs ++ new) c.in_ok-stay.ensures))
    c.with_newest.ensures
