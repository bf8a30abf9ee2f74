-- The event that a request becomes is renamed to the one that the renamed request becomes.
use Rattle.std.proofs.Common.{◌≡◌, ℕ, true, false, Option, Some, None, List, [], ◌∷◌, map, refl, sym, ap, ◌∙◌}
use Rattle.std.specs.Option.{option_map}
use Rattle.std.proofs.lemmas.Bool.{not-false, true≢false}
use Rattle.std.proofs.lemmas.Option.{none-some, same_Some}
use Rattle.ada_events.specs.declared.event.Event.{Event}
use Rattle.ada_events.specs.declared.request.Request.{Request}
use Rattle.ada_events.specs.declared.request.Request.TheVariants.{Open, Create, Activate, Elaborated, Call, Wait, Delay, End, Close, Complete, Abort, Tick}
use Rattle.ada_events.specs.declared.names.TaskNo.{TaskNo}
use Rattle.ada_events.specs.declared.names.Master.{Master}
use Rattle.ada_events.specs.declared.names.Master.TheVariants.{Body, Block}
use Rattle.ada_events.specs.declared.names.Member.{Member}
use Rattle.ada_events.specs.declared.names.Member.TheVariants.{Block as BlockMember, Rendezvous}
use Rattle.ada_events.specs.Nests.{nest, innermost, frame}
use Rattle.ada_events.specs.Masters.{reaches}
use Rattle.ada_events.specs.Asks.{asker, named_tasks, body_task, asked_event, member_position}
use Rattle.ada_events.specs.Refusals.{is_not_your_master, is_not_in_accept, has_no_block}
use Rattle.ada_laws.specs.Unlimited.{refusal_but_limits}
use Rattle.ada_laws.proofs.asking.Limitless.{is_accepted-unlimited}
use Rattle.ada_laws.proofs.searching.Searching.{option_map-some}
use Rattle.ada_standing.specs.Renaming.{Renaming, renamed_task, renamed_tasks, renamed_master, renamed_member, renamed_event}
use Rattle.ada_standing.specs.StandsIn.{StandsIn}
use Rattle.ada_standing.specs.Asking.{asked_task, asked_master, renamed_request, names_kept}
use Rattle.ada_standing.proofs.alike.Orderly.{IsOrderly}
use Rattle.ada_standing.proofs.asked.Naming.{asked_for, HasName, HaveNames, IsAsker, asker_live, IsAsking, is_asking}
use Rattle.ada_standing.proofs.asked.Nested.{frame_alike, frame_lived, innermost_alike}
use Rattle.ada_standing.proofs.asked.ByName.{block_unreached}
use Rattle.ada_standing.proofs.asked.ByNest.{nests_alike}

task_renamed : (names : Renaming) (t : TaskNo) → HasName names t.0 → renamed_task names t ≡ Some (asked_task names t)
unfolding renamed_task
task_renamed names t (v, named) = rw named refl

tasks_renamed : (names : Renaming) (tasks : List TaskNo) → HaveNames names tasks → renamed_tasks names tasks ≡ Some (map (asked_task names) tasks)
unfolding renamed_tasks
tasks_renamed names [] have = refl
tasks_renamed names (t ∷ rest) have = rw (task_renamed names t have.0, tasks_renamed names rest have.1) refl

-- a master that is reached from the frame of the task that asks has a name
master_renamed : (old new : List Event) (names : Renaming) (u : ℕ) (master : Master) → StandsIn old new names → IsOrderly old → IsAsker old names u
    → HaveNames names (body_task master) → reaches old (frame old u) master ≡ true → renamed_master names master ≡ Some (asked_master names master)
unfolding renamed_master asked_master
master_renamed old new names u (Body t) stands orderly asker have reached =
    let named : names.task t.0 ≡ Some have.0.0 = have.0.1 in
    rw named refl
master_renamed old new names u (Block p) stands orderly asker have reached = by_name (names.position p) refl
  where
    by_name : (o : Option ℕ) → names.position p ≡ o → option_map Block (names.position p) ≡ Some (asked_master names (Block p))
    by_name (Some q) is = rw is refl
    by_name None is =
        absurd (true≢false (sym reached
        ∙ block_unreached old new names (frame old u) p stands orderly (frame_lived old u (asker_live old new names u stands asker)) is))

frame_renamed : (old new : List Event) (names : Renaming) (u : ℕ) → StandsIn old new names → IsAsker old names u
    → renamed_master names (frame old u) ≡ Some (frame new (asked_for names u))
frame_renamed old new names u stands asker =
    rw asker.named (frame_alike names old new u asker.stand asker.named (nests_alike old new names u stands asker))

-- the position of a member is renamed with it
place_renamed : (names : Renaming) (x y : Member) → renamed_member names x ≡ Some y
    → names.position (member_position (Some x)) ≡ Some (member_position (Some y))
unfolding renamed_member
place_renamed names (BlockMember p) y is =
    let (q, placed, made) = option_map-some BlockMember (names.position p) y is in
    placed ∙ ap (λ (m : Member). Some (member_position (Some m))) made
place_renamed names (Rendezvous call) y is =
    let (q, placed, made) = option_map-some Rendezvous (names.position call) y is in
    placed ∙ ap (λ (m : Member). Some (member_position (Some m))) made

member_renamed : (names : Renaming) (o n : Option Member) → option_map Some n ≡ option_map (renamed_member names) o → (o ≡ None → ⊥)
    → names.position (member_position o) ≡ Some (member_position n)
member_renamed names None n same some = absurd (some refl)
member_renamed names (Some x) (Some y) same some = place_renamed names x y (sym (same_Some (Some y) (renamed_member names x) same))
member_renamed names (Some x) None same some = absurd (none-some (renamed_member names x) same)

innermost_renamed : (old new : List Event) (names : Renaming) (u : ℕ) → StandsIn old new names → IsAsker old names u
    → (innermost (nest old u) ≡ None → ⊥)
    → names.position (member_position (innermost (nest old u))) ≡ Some (member_position (innermost (nest new (asked_for names u))))
innermost_renamed old new names u stands asker some =
    rw asker.named
    (member_renamed names (innermost (nest old u)) (innermost (nest new asker.stand))
    (innermost_alike names (nest old u) (nest new asker.stand) (nests_alike old new names u stands asker)) some)

-- the event of a request that isn't refused for its master or for what it would leave
event_renamed : (old new : List Event) (names : Renaming) (request : Request) → StandsIn old new names → IsOrderly old → IsAsking old names request
    → is_not_your_master old request ≡ false → is_not_in_accept old request ≡ false → has_no_block old request ≡ false
    → renamed_event names (asked_event old request) ≡ Some (asked_event new (renamed_request names request))
unfolding renamed_event asked_event renamed_request asker named_tasks is_not_your_master is_not_in_accept has_no_block
event_renamed old new names (Open by) stands orderly asking master accepts block =
    let asker = asking.by by.0 refl in
    rw (task_renamed names by (asker.stand, asker.named), frame_renamed old new names by.0 stands asker) refl
event_renamed old new names (Create by within families) stands orderly asking master accepts block =
    let asker = asking.by by.0 refl in
    rw (
      task_renamed names by (asker.stand, asker.named),
      frame_renamed old new names by.0 stands asker,
      master_renamed old new names by.0 within stands orderly asker asking.tasks (not-false (reaches old (frame old by.0) within) master),
    ) refl
event_renamed old new names (Activate by tasks) stands orderly asking master accepts block =
    let asker = asking.by by.0 refl in
    rw (task_renamed names by (asker.stand, asker.named), tasks_renamed names tasks asking.tasks) refl
event_renamed old new names (Elaborated by ok) stands orderly asking master accepts block =
    let asker = asking.by by.0 refl in
    rw (task_renamed names by (asker.stand, asker.named)) refl
event_renamed old new names (Call by callee entry patience) stands orderly asking master accepts block =
    let asker = asking.by by.0 refl in
    rw (task_renamed names by (asker.stand, asker.named), task_renamed names callee asking.tasks.0, stands.moments) refl
event_renamed old new names (Wait by choices tail pick) stands orderly asking master accepts block =
    let asker = asking.by by.0 refl in
    rw (task_renamed names by (asker.stand, asker.named), stands.moments) refl
event_renamed old new names (Delay by duration) stands orderly asking master accepts block =
    let asker = asking.by by.0 refl in
    rw (task_renamed names by (asker.stand, asker.named), stands.moments) refl
event_renamed old new names (End by raised) stands orderly asking master accepts block =
    let asker = asking.by by.0 refl in
    rw (
      task_renamed names by (asker.stand, asker.named),
      innermost_renamed old new names by.0 stands asker (λ none. true≢false (rw none at accepts)),
    ) refl
event_renamed old new names (Close by) stands orderly asking master accepts block =
    let asker = asking.by by.0 refl in
    rw (
      task_renamed names by (asker.stand, asker.named),
      innermost_renamed old new names by.0 stands asker (λ none. true≢false (rw none at block)),
    ) refl
event_renamed old new names (Complete by) stands orderly asking master accepts block =
    let asker = asking.by by.0 refl in
    rw (task_renamed names by (asker.stand, asker.named)) refl
event_renamed old new names (Abort by tasks) stands orderly asking master accepts block =
    let asker = asking.by by.0 refl in
    rw (task_renamed names by (asker.stand, asker.named), tasks_renamed names tasks asking.tasks) refl
event_renamed old new names (Tick now) stands orderly asking master accepts block = refl

pub asked_renamed : (old new : List Event) (names : Renaming) (request : Request) → StandsIn old new names → IsOrderly old
    → names_kept names old request ≡ true → refusal_but_limits old request ≡ None
    → renamed_event names (asked_event old request) ≡ Some (asked_event new (renamed_request names request))
asked_renamed old new names request stands orderly kept accepted =
    let told = is_accepted-unlimited old request accepted in
    event_renamed old new names request stands orderly (is_asking old names request kept told.tasks_known told.running)
    told.your_master told.in_accept told.in_block
