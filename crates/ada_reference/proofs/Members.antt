-- One more member of a nest, in a loop over a journal's events that gathers them.
use Rattle.std.proofs.Common.{◌≡◌, ℕ, ◌+◌, ◌-◌, ◌<◌, Bool, true, false, ◌||◌, List, [], ◌∷◌, ◌++◌, Option, Some, None, length, reverse, take, get_or, refl, ap}
use Rattle.std.proofs.Common.{sym, ◌∙◌, arith, length-append, append-nil}
use Rattle.std.specs.Prelude.{slice_get}
use Rattle.std.specs.Option.{option_or, option_to_list, option_map_or}
use Rattle.std.specs.List.{list_any}
use Rattle.std.proofs.lemmas.Option.{slice_get-get_or}
use Rattle.std.proofs.Math.Seq.{get_or-append_seam}
use Rattle.ada_events.specs.declared.event.Event.{Event}
use Rattle.ada_events.specs.declared.names.Master.{Master}
use Rattle.ada_events.specs.declared.names.Member.{Member}
use Rattle.ada_events.specs.declared.names.Member.TheVariants.{Block, Rendezvous}
use Rattle.ada_events.specs.Search.{gathered}
use Rattle.ada_events.specs.Nests.{innermost, innermost_block}
use Rattle.ada_reference.specs.internal.Frames.{frame_with}
use Rattle.ada_reference.proofs.Loops.{gathered_more}

-- the step of a loop that folds what the events give
pub gathered_step : {A B : Type 0} (F : List A → B) (combine : B → Option A → B)
    → ((xs : List A) (o : Option A) → F (xs ++ option_to_list o) ≡ combine (F xs) o)
    → (give : ℕ → Event → Option A) (events : List Event) (i : ℕ) (event : Event) (so_far next : B) → i < length events → event ≡ get_or events i event
    → so_far ≡ F (gathered give (reverse (take i events))) → next ≡ combine so_far (give (i + 1) event)
    → next ≡ F (gathered give (reverse (take (i + 1) events)))
gathered_step F combine one_more give events i event so_far next below is before step =
    step ∙ ap (λ b. combine b (give (i + 1) event)) before
    ∙ ap (λ e. combine (F (gathered give (reverse (take i events)))) (give (i + 1) e)) is
    ∙ sym (one_more (gathered give (reverse (take i events))) (give (i + 1) (get_or events i event)))
    ∙ ap F (sym (gathered_more give events i event below))

last-push : {A : Type 0} (xs : List A) (x : A) → slice_get (xs ++ x ∷ []) (length (xs ++ x ∷ []) - 1) ≡ Some x
last-push xs x =
    slice_get-get_or (xs ++ x ∷ []) (length (xs ++ x ∷ []) - 1) x (omega (arith, length-append xs (x ∷ [])))
    ∙ ap (λ k. Some (get_or (xs ++ x ∷ []) k x)) (let e : length (xs ++ x ∷ []) - 1 ≡ length xs = omega (arith, length-append xs (x ∷ [])) in e)
    ∙ ap Some (get_or-append_seam xs x [] x)

pub innermost-append : (xs : List Member) (o : Option Member) → innermost (xs ++ option_to_list o) ≡ option_or o (innermost xs)
innermost-append xs None = ap innermost (append-nil xs)
innermost-append xs (Some x) = last-push xs x

pub innermost_block-append : (outer : Master) (xs : List Member) (o : Option Member)
    → innermost_block outer (xs ++ option_to_list o) ≡ frame_with (innermost_block outer xs) o
unfolding innermost_block
innermost_block-append outer [] None = refl
innermost_block-append outer [] (Some (Block p)) = refl
innermost_block-append outer [] (Some (Rendezvous c)) = refl
innermost_block-append outer (Block p ∷ xs) o = innermost_block-append _ xs o
innermost_block-append outer (Rendezvous c ∷ xs) o = innermost_block-append outer xs o

pub list_any-append_option : (test : Member → Bool) (xs : List Member) (o : Option Member)
    → list_any test (xs ++ option_to_list o) ≡ (option_map_or test o false || list_any test xs)
list_any-append_option test [] None = refl
list_any-append_option test [] (Some x) = refl
list_any-append_option test (x ∷ xs) o =
    ap (λ b. test x || b) (list_any-append_option test xs o) ∙ or_left_swap (test x) (option_map_or test o false) (list_any test xs)
  where
    or_left_swap : (a b c : Bool) → (a || (b || c)) ≡ (b || (a || c))
    or_left_swap true true c = refl
    or_left_swap true false c = refl
    or_left_swap false true c = refl
    or_left_swap false false c = refl

-- the same as an equation
pub frame_gathered_more : (outer : Master) (give : ℕ → Event → Option Member) (events : List Event) (i : ℕ) (d : Event) → i < length events
    → innermost_block outer (gathered give (reverse (take (i + 1) events)))
    ≡ frame_with (innermost_block outer (gathered give (reverse (take i events)))) (give (i + 1) (get_or events i d))
frame_gathered_more outer give events i d below =
    ap (innermost_block outer) (gathered_more give events i d below)
    ∙ innermost_block-append outer (gathered give (reverse (take i events))) (give (i + 1) (get_or events i d))
