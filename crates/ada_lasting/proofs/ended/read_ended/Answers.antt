use Rattle.std.proofs.Common.{◌≡◌, ◌-◌, ◌&&◌, Bool, false, List, length, reverse, drop, refl, sym, ap, ◌∙◌, inl, inr, arith}
use Rattle.std.specs.Prelude.{◌==◌, nat_lt}
use Rattle.std.specs.List.{list_any}
use Rattle.std.proofs.lemmas.Bool.{or_parts}
use Rattle.std.proofs.lemmas.List.{length-reverse}
use Rattle.ada_events.specs.declared.event.Event.{Event}
use Rattle.ada_lasting.specs.internal.Ended.{is_end, events_from}
use Rattle.ada_lasting.proofs.Began.{some_shown}
use Rattle.ada_lasting.proofs.Ends.{still_right, none_ends, newest_and_before}
use Rattle.ada_lasting.proofs.ended.read_ended.Goals as goal

pub returns-then-is_stale : goal.returns-then-is_stale
returns-then-is_stale c = c.read.ensures

pub returns : goal.returns
returns c =
    let events = c.events_from.result.now in
    let group : List Event = events_from c.args.from c.args.kernel.now in
    let long : length events ≡ length group = sym (length-reverse events) ∙ ap length c.events_from.ensures in
    let any : Bool = list_any is_end (reverse events) in
    let parts = or_parts (length events == 0) (nat_lt 1 (length events) && any) (sym c.is_stale.ensures ∙ c.if-is_stale.false) in
    let one : length events ≡ 1 → any ≡ false = λ is. ap (list_any is_end) c.events_from.ensures ∙ c.requires.known.one (sym long ∙ is) in
    let unending = ap (list_any is_end) (sym c.events_from.ensures) ∙ none_ends (length events) any one parts.0 parts.1 in
    let before = drop (length group) c.args.kernel.now in
    elim c.requires.known.before [
      | inl nothing ↦ absurd (some_shown events group c.events_from.ensures parts.0 nothing)
      | inr right ↦
          still_right c.args.flags.now group before c.args.kernel.now
          (newest_and_before c.args.kernel.now group (length c.args.kernel.now - c.args.from) refl (omega arith)) unending right
    ]
