-- When a master is gone, in the present journal and in the one that it stands in for.
use Rattle.std.proofs.Common.{◌≡◌, ℕ, ◌&&◌, true, false, Some, None, List, sym, ap, ◌∙◌, inl, inr}
use Rattle.std.specs.Option.{option_map}
use Rattle.std.specs.List.{list_any}
use Rattle.std.proofs.lemmas.Bool.{cases_Bool, and_from, true≢false, false_from_ne_true}
use Rattle.std.proofs.lemmas.Option.{none-some, same_Some}
use Rattle.ada_events.specs.declared.event.Event.{Event}
use Rattle.ada_events.specs.declared.names.Master.{Master}
use Rattle.ada_events.specs.declared.names.Master.TheVariants.{Body, Block}
use Rattle.ada_events.specs.Says.{Opening, opening_at}
use Rattle.ada_events.specs.Phases.{is_terminated}
use Rattle.ada_events.specs.Nests.{nest}
use Rattle.ada_laws.specs.Masters.{IsKnown}
use Rattle.ada_standing.specs.Renaming.{Renaming, renamed_master}
use Rattle.ada_events.specs.Holders.{is_block}
use Rattle.ada_standing.specs.StandsIn.{StandsIn, is_live}
use Rattle.ada_standing.proofs.alike.Orderly.{IsLivedIn}
use Rattle.ada_standing.proofs.alike.Mastering.{lived_forth}
use Rattle.ada_standing.proofs.alike.Pairs.{live_from, live_parts}
use Rattle.ada_standing.proofs.lawful.Nesting.{nested_own}
use Rattle.ada_lasting.specs.GivingUp.{IsGone}

-- a master is gone if no task that lives is within it

not_lived : (journal : List Event) (x : Master) → IsGone journal x → IsLivedIn journal x → ⊥
not_lived journal x gone (IsLivedIn.body t live) = true≢false (sym gone ∙ (live_parts journal t.0 live).1)
not_lived journal x gone (IsLivedIn.block u p live inside) = true≢false (sym inside ∙ gone u live)

gone_unlived : (journal : List Event) (x : Master) → IsKnown journal x → (IsLivedIn journal x → ⊥) → IsGone journal x
gone_unlived journal (Body t) known none = elim (cases_Bool (is_terminated journal t.0)) [
  | inl over ↦ over
  | inr still ↦ absurd (none (IsLivedIn.body t (live_from journal t.0 known still)))
]
gone_unlived journal (Block p) known none =
    λ u live. false_from_ne_true (list_any (is_block p) (nest journal u)) (λ inside. none (IsLivedIn.block u p live inside))

-- a master is gone if what stands for it is gone, or nothing stands for it
pub gone_too : (old new : List Event) (names : Renaming) (x : Master) → StandsIn old new names → IsKnown old x
    → ((y : Master) → renamed_master names x ≡ Some y → IsGone new y) → IsGone old x
gone_too old new names x stands known here =
    gone_unlived old x known (λ lived.
    let (y, named, lived_too) = lived_forth old new names x stands lived in
    not_lived new y (here y named) lived_too)

-- a block is gone if nobody opened it, or who did isn't within it or doesn't live

opener_of : (journal : List Event) (u p : ℕ) → list_any (is_block p) (nest journal u) ≡ true
    → option_map (λ (o : Opening). o.by) (opening_at journal p) ≡ Some u
opener_of journal u p inside =
    let own = nested_own journal u p inside in
    rw (own.block.stands, own.block.says) (ap Some own.block.by)

pub never_opened : (journal : List Event) (p : ℕ) → option_map (λ (o : Opening). o.by) (opening_at journal p) ≡ None → IsGone journal (Block p)
never_opened journal p none u live =
    false_from_ne_true (list_any (is_block p) (nest journal u)) (λ inside. none-some u (sym none ∙ opener_of journal u p inside))

pub left_by : (journal : List Event) (p by : ℕ) → option_map (λ (o : Opening). o.by) (opening_at journal p) ≡ Some by
    → (is_live journal by && list_any (is_block p) (nest journal by)) ≡ false → IsGone journal (Block p)
left_by journal p by opened left u live =
    false_from_ne_true (list_any (is_block p) (nest journal u)) (λ inside.
    let same : u ≡ by = same_Some u by (sym (opener_of journal u p inside) ∙ opened) in
    let within : (is_live journal u && list_any (is_block p) (nest journal u)) ≡ true =
    and_from (is_live journal u) (list_any (is_block p) (nest journal u)) live inside in
    true≢false (sym within ∙ (ap (λ (n : ℕ). is_live journal n && list_any (is_block p) (nest journal n)) same ∙ left)))
