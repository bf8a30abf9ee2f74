-- What one journal forces, renamed, is what the other forces.
use Rattle.std.proofs.Common.{◌≡◌, Option, Some, None, List, refl, sym, is_none}
use Rattle.std.specs.Option.{option_or, option_and_then}
use Rattle.std.proofs.lemmas.Option.{same_Some, none-some}
use Rattle.ada_events.specs.declared.event.Event.{Event}
use Rattle.ada_events.specs.Forced.{first_of_all, forced}
use Rattle.ada_standing.specs.Renaming.{Renaming, renamed_event}
use Rattle.ada_standing.specs.StandsIn.{StandsIn}
use Rattle.ada_standing.proofs.alike.Orderly.{IsOrderly}
use Rattle.ada_standing.proofs.alike.Rows.{AreAlike, failed_alike, met_alike, cancelled_alike, passed_alike, woken_alike, left_alike}
use Rattle.ada_standing.proofs.alike.Activating.{activated_alike}
use Rattle.ada_standing.proofs.alike.Terminating.{halted_alike, gone_alike, quit_body_alike, quit_block_alike}

-- the first of two is alike, where both are
or_alike : (names : Renaming) (a b c d : Option Event) → AreAlike names a c → AreAlike names b d → AreAlike names (option_or a b) (option_or c d)
or_alike names None b None d first second = second
or_alike names (Some x) b (Some y) d first second = first
or_alike names None b (Some y) d first second = absurd (none-some (Some y) first)
or_alike names (Some x) b None d first second = absurd (none-some (renamed_event names x) (sym first))

pub steps_alike : (old new : List Event) (names : Renaming) → StandsIn old new names → IsOrderly old → IsOrderly new
    → AreAlike names (forced old) (forced new)
unfolding forced first_of_all
steps_alike old new names stands orderly also =
    or_alike names _ _ _ _ (halted_alike old new names stands orderly also)
    (or_alike names _ _ _ _ (failed_alike old new names stands orderly also)
    (or_alike names _ _ _ _ (met_alike old new names stands orderly also)
    (or_alike names _ _ _ _ (cancelled_alike old new names stands orderly also)
    (or_alike names _ _ _ _ (passed_alike old new names stands orderly also)
    (or_alike names _ _ _ _ (woken_alike old new names stands orderly also)
    (or_alike names _ _ _ _ (activated_alike old new names stands orderly also)
    (or_alike names _ _ _ _ (gone_alike old new names stands orderly also)
    (or_alike names _ _ _ _ (quit_body_alike old new names stands orderly also)
    (or_alike names _ _ _ _ (quit_block_alike old new names stands orderly also)
    (or_alike names _ None _ None (left_alike old new names stands orderly also) refl))))))))))

-- that each is the other, renamed, and that there is none of the one where there is none of the other
pub alike_is : (names : Renaming) (o n : Option Event) → AreAlike names o n → option_and_then (renamed_event names) o ≡ n
alike_is names None None same = refl
alike_is names (Some x) (Some y) same = same_Some (renamed_event names x) (Some y) same
alike_is names None (Some y) same = absurd (none-some (Some y) same)
alike_is names (Some x) None same = absurd (none-some (renamed_event names x) (sym same))

pub alike_none : (names : Renaming) (o n : Option Event) → AreAlike names o n → is_none o ≡ is_none n
alike_none names None None same = refl
alike_none names (Some x) (Some y) same = refl
alike_none names None (Some y) same = absurd (none-some (Some y) same)
alike_none names (Some x) None same = absurd (none-some (renamed_event names x) (sym same))
