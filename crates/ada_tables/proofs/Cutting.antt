-- A rendezvous leaves a nest, wherever it stands there.
use Rattle.std.proofs.Common.{◌≡◌, ℕ, suc, ◌+◌, ◌<◌, Bool, true, false, List, [], ◌∷◌, length, set, refl, ap, sym, ◌∙◌, arith, inl, inr}
use Rattle.std.specs.Prelude.{if◌then◌else◌}
use Rattle.std.proofs.lemmas.Bool.{cases_Bool}
use Rattle.ada_events.specs.declared.names.Master.{Master}
use Rattle.ada_events.specs.declared.names.Master.TheVariants.{Body, Block}
use Rattle.ada_tables.specs.declared.task.Task.{Task}
use Rattle.ada_tables.specs.declared.layers.Layer.{Layer}
use Rattle.ada_tables.specs.declared.layers.Layer.TheVariants.{Block as BlockLayer, Rendezvous as RendezvousLayer}
use Rattle.ada_tables.specs.Layers.{members, member_of}
use Rattle.ada_tables.specs.internal.Layers.{live_at}
use Rattle.ada_events.specs.Holders.{is_block, has_block, up_to, holds, encloses}
use Rattle.ada_tables.specs.Dependents.{Facts, task_at}
use Rattle.ada_tables.specs.Counts.{facts}
use Rattle.ada_tables.specs.internal.Counts.{record_at, AreCounted}
use Rattle.ada_tables.proofs.Reaching.{Alike}
use Rattle.std.specs.List.{position, position_or_len, remove}
use Rattle.std.specs.Option.{option_map_or}
use Rattle.std.proofs.lemmas.Bool.{cases_lt, lt-ltb, le-ltb}
use Rattle.ada_tables.specs.internal.Layers.{is_block_at, is_rendezvous_at, cut_layers}
use Rattle.ada_tables.proofs.Nests.{is_block-member}
use Rattle.ada_tables.proofs.Keeping.{nest_changed, ways_alike}
use Rattle.ada_tables.specs.Dependents.{is_rendezvous, cut}
use Rattle.ada_tables.proofs.Nesting.{nest_is}

-- the layers without the first that passes
abbrev cut_first : {A : Type 0} → (A → Bool) → List A → List A
cut_first test [] = []
cut_first test (x ∷ xs) = if test x then xs else x ∷ cut_first test xs

cut_first_is : {A : Type 0} (test : A → Bool) (xs : List A) → option_map_or (remove xs) (position test xs) xs ≡ cut_first test xs
cut_first_is test [] = refl
cut_first_is test (x ∷ xs) =
    elim (cases_Bool (test x)) [
      | inl here ↦ rw (here, lt-ltb 0 (suc (length xs)) (omega arith)) refl
      | inr other ↦
          let next : 1 + position_or_len test xs ≡ suc (position_or_len test xs) = omega arith in
          elim (cases_lt (position_or_len test xs) (length xs)) [
            | inl low ↦
                rw (other, next, lt-ltb (suc (position_or_len test xs)) (suc (length xs)) (omega arith))
                (ap (λ rest. x ∷ rest) (rw (lt-ltb (position_or_len test xs) (length xs) low) at (cut_first_is test xs)))
            | inr past ↦
                rw (other, next, le-ltb (suc (position_or_len test xs)) (suc (length xs)) (omega arith))
                (ap (λ rest. x ∷ rest) (rw (le-ltb (position_or_len test xs) (length xs) past) at (cut_first_is test xs)))
          ]
    ]

abbrev pub cut_rec : ℕ → List Layer → List Layer
cut_rec call layers = cut_first (is_rendezvous_at call) layers

pub cut_layers_is : (call : ℕ) (layers : List Layer) → cut_layers call layers ≡ cut_rec call layers
cut_layers_is call layers = cut_first_is (is_rendezvous_at call) layers

is_rendezvous-member : (call : ℕ) (layer : Layer) → is_rendezvous call (member_of layer) ≡ is_rendezvous_at call layer
is_rendezvous-member call (BlockLayer live opening) = refl
is_rendezvous-member call (RendezvousLayer at) = refl

pub members-cut_rec : (call : ℕ) (layers : List Layer) → members (cut_rec call layers) ≡ cut call (members layers)
members-cut_rec call [] = refl
members-cut_rec call (layer ∷ rest) =
    elim (cases_Bool (is_rendezvous_at call layer)) [
      | inl here ↦ rw (is_rendezvous-member call layer, here) refl
      | inr other ↦ rw (is_rendezvous-member call layer, other) (ap (λ ms. member_of layer ∷ ms) (members-cut_rec call rest))
    ]

-- a rendezvous is no block
no_block : (call block : ℕ) (layer : Layer) → is_rendezvous_at call layer ≡ true → is_block_at block layer ≡ false
no_block call block (BlockLayer live opening) is = absurd (cc)
no_block call block (RendezvousLayer at) is = refl

has_block-cut : (call block : ℕ) (layers : List Layer) → has_block block (members (cut_rec call layers)) ≡ has_block block (members layers)
has_block-cut call block [] = refl
has_block-cut call block (layer ∷ rest) =
    elim (cases_Bool (is_rendezvous_at call layer)) [
      | inl here ↦ rw (here, is_block-member block layer, no_block call block layer here) refl
      | inr other ↦ rw (other, has_block-cut call block rest) refl
    ]

live_at-cut : (call block : ℕ) (layers : List Layer) → live_at block (cut_rec call layers) ≡ live_at block layers
unfolding live_at
live_at-cut call block [] = refl
live_at-cut call block (layer ∷ rest) =
    elim (cases_Bool (is_rendezvous_at call layer)) [
      | inl here ↦ rw (here, no_block call block layer here) refl
      | inr other ↦ rw (other, live_at-cut call block rest) refl
    ]

up_to-cut : (call inner block : ℕ) (layers : List Layer)
    → has_block block (up_to inner (members (cut_rec call layers))) ≡ has_block block (up_to inner (members layers))
up_to-cut call inner block [] = refl
up_to-cut call inner block (layer ∷ rest) =
    elim (cases_Bool (is_rendezvous_at call layer)) [
      | inl here ↦ rw (here, is_block-member block layer, is_block-member inner layer, no_block call block layer here, no_block call inner layer here) refl
      | inr other ↦ elim (cases_Bool (is_block inner (member_of layer))) [
        | inl stop ↦ rw (other, stop) refl
        | inr on ↦ rw (other, on, up_to-cut call inner block rest) refl
      ]
    ]

alike_cut : (task call : ℕ) (old : Facts) (layers : List Layer) → old.nest ≡ members layers
    → Alike task old (record old { nest = members (cut_rec call layers) })
alike_cut task call old layers is =
    record {
      master = refl;
      holding = λ from. holding from;
      enclosing = λ from to held. enclosing from to;
    }
  where
    holding : (from : Master) → holds task (members (cut_rec call layers)) from ≡ holds task old.nest from
    holding (Body t) = refl
    holding (Block block) = rw is (has_block-cut call block layers)

    enclosing : (from to : Master) → encloses task (members (cut_rec call layers)) from to ≡ encloses task old.nest from to
    enclosing (Body t) (Body u) = refl
    enclosing (Body t) (Block block) = refl
    enclosing (Block inner) (Body u) = refl
    enclosing (Block inner) (Block block) = rw is (up_to-cut call inner block layers)

pub cut_counted : (tasks : List Task) (task : ℕ) → AreCounted tasks → task < length tasks → (call : ℕ)
    → AreCounted (set tasks task (record (record_at tasks task) { nest = cut_rec call (record_at tasks task).nest }))
cut_counted tasks task right within call =
    let layers = (record_at tasks task).nest in
    nest_changed tasks task (cut_rec call layers) right within
    (λ block has. inl (ap (has_block block) (nest_is tasks task) ∙ sym (has_block-cut call block layers) ∙ has, live_at-cut call block layers))
    (ways_alike tasks task (cut_rec call layers) right within (alike_cut task call (task_at (facts tasks) task) layers (nest_is tasks task)))
