-- Searching for the holder and the parent of a block.
use Rattle.std.proofs.Common.{◌≡◌, ℕ, zero, suc, ◌+◌, ◌<◌, ◌≤◌, true, false, List, [], ◌∷◌, Option, Some, None, length, get_or, drop, refl, ap, sym, ◌∙◌, arith}
use Rattle.std.proofs.Common.{inl, inr}
use Rattle.std.specs.Option.{option_or}
use Rattle.std.proofs.lemmas.Bool.{cases_eq, both_ways, false_from_ne_true}
use Rattle.std.proofs.lemmas.List.{drop_more, drop_all, length-map, get_or_default}
use Rattle.ada_tables.specs.declared.layers.Layer.{Layer}
use Rattle.ada_tables.specs.declared.task.Task.{Task}
use Rattle.ada_tables.specs.Layers.{members, member_of}
use Rattle.ada_tables.specs.internal.Layers.{is_block_at}
use Rattle.ada_events.specs.declared.names.Master.TheVariants.{Block}
use Rattle.ada_events.specs.Holders.{has_block}
use Rattle.ada_tables.specs.Dependents.{Facts, task_at, Stands, block_of, outside, parent_within, parent_from}
use Rattle.ada_tables.specs.Counts.{facts_of, facts}
use Rattle.ada_tables.specs.internal.Counts.{no_record, record_at, StandAlone}
use Rattle.ada_tables.proofs.Nesting.{nest_is}
use Rattle.ada_tables.proofs.Nests.{is_block-member}

module _ (block : ℕ) (layers : List Layer) (at : ℕ) (before : Option ℕ)
    (so_far : outside block None (members layers) ≡ outside block before (members (drop at layers))) where
  pub outside_none : length layers ≤ at → None ≡ outside block None (members layers)
  unfolding outside
  outside_none past = sym (so_far ∙ rw (drop_all at layers past) refl)

  module _ (read : Layer) (within : at < length layers) (read_is : read ≡ get_or layers at read) where
    rest_is : drop at layers ≡ read ∷ drop (at + 1) layers
    rest_is = drop_more layers at read within ∙ ap (λ (l : Layer). l ∷ drop (at + 1) layers) (sym read_is)

    pub outside_here : is_block_at block read ≡ true → before ≡ outside block None (members layers)
    unfolding outside
    outside_here here = sym (so_far ∙ rw (rest_is, is_block-member block read, here) refl)

    pub outside_later : (next : Option ℕ) → next ≡ option_or (block_of (member_of read)) before → is_block_at block read ≡ false
        → outside block None (members layers) ≡ outside block next (members (drop (at + 1) layers))
    unfolding outside
    outside_later next next_is other = so_far ∙ rw (rest_is, is_block-member block read, other, next_is) refl

-- a task in whose nest the block doesn't stand was made before the one in whose nest it does
pub goes_by : (block : ℕ) (tasks : List Task) (number : ℕ) (d : Task) (stands : Stands (facts tasks) (Block block)) → number ≤ stands.task
    → has_block block (members (get_or tasks number d).nest) ≡ false → number < stands.task
goes_by block tasks number d stands up_to free =
    elim (cases_eq number stands.task) [
      | inl same ↦
          let here : has_block block (task_at (facts tasks) number).nest ≡ true = rw same stands.held in
          let read : get_or tasks number d ≡ record_at tasks number = get_or_default tasks number d no_record
          (omega (arith, stands.within, length-map tasks facts_of)) in
          absurd (both_ways (has_block block (members (record_at tasks number).nest)) (rw read at free)
          (sym (ap (has_block block) (nest_is tasks number)) ∙ here))
      | inr differs ↦ omega arith
    ]

-- the parent of a block is found in the nest in which it stands
parent_found : (block first : ℕ) (tasks : List Facts) (holder : ℕ) → holder < length tasks → has_block block (task_at tasks holder).nest ≡ true
    → ((other : ℕ) → other < holder → has_block block (task_at tasks other).nest ≡ false)
    → parent_from first tasks block ≡ Some (parent_within (first + holder) (task_at tasks holder).nest block)
unfolding parent_from
parent_found block first [] holder low here before = absurd (omega arith)
parent_found block first (facts ∷ rest) zero low here before = rw here (ap (λ n. Some (parent_within n facts.nest block)) (omega arith))
parent_found block first (facts ∷ rest) (suc holder) low here before =
    let none : has_block block facts.nest ≡ false = before 0 (omega arith) in
    let next : suc first + holder ≡ first + suc holder = omega arith in
    rw none (parent_found block (suc first) rest holder (omega arith) here (λ other below. before (suc other) (omega arith))
    ∙ ap (λ n. Some (parent_within n (task_at rest holder).nest block)) next)

pub parent_is : (tasks : List Facts) (holder block : ℕ) → StandAlone tasks → holder < length tasks → has_block block (task_at tasks holder).nest ≡ true
    → Some (parent_within holder (task_at tasks holder).nest block) ≡ parent_from 0 tasks block
parent_is tasks holder block single low here =
    let from : 0 + holder ≡ holder = omega arith in
    ap (λ n. Some (parent_within n (task_at tasks holder).nest block)) (sym from)
    ∙ sym (parent_found block 0 tasks holder low here
    (λ other below. false_from_ne_true _ (λ has. let same = single.alone other holder block (omega arith) low has here in absurd (omega arith))))
