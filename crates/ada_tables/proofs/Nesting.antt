-- A nest grows or shrinks, and the counts stay right.
use Rattle.std.proofs.Common.{subst, ◌≡◌, ◌≢◌, ℕ, ◌<◌, true, false, ◌||◌, List, [], ◌∷◌, ◌++◌, length, set, refl, ap, sym, ◌∙◌, arith, inl, inr}
use Rattle.std.specs.Prelude.{◌==◌}
use Rattle.std.proofs.Math.Bool.{or-false}
use Rattle.std.proofs.lemmas.Bool.{cases_Bool, both_ways, eqb-true, ne_eqb, or_left, or_from, false_from_ne_true}
use Rattle.std.proofs.lemmas.List.{length-map, map-append}
use Rattle.std.proofs.lemmas.List.Folds.{list_any-append}
use Rattle.ada_events.specs.declared.names.Master.{Master}
use Rattle.ada_events.specs.declared.names.Master.TheVariants.{Body, Block}
use Rattle.ada_events.specs.declared.names.Member.{Member}
use Rattle.ada_events.specs.declared.names.Member.TheVariants.{Block as BlockMember, Rendezvous}
use Rattle.ada_tables.specs.declared.task.Task.{Task}
use Rattle.ada_tables.specs.declared.layers.Layer.{Layer}
use Rattle.ada_tables.specs.Layers.{members, member_of}
use Rattle.ada_tables.specs.internal.Layers.{layer_of, live_at}
use Rattle.ada_events.specs.Holders.{is_block, has_block, holds, encloses}
use Rattle.ada_tables.specs.Dependents.{Facts, task_at, is_live_dependent, live_dependents}
use Rattle.ada_tables.specs.Counts.{facts}
use Rattle.ada_tables.specs.internal.Counts.{record_at, AreCounted}
use Rattle.ada_tables.proofs.Nests.{live_at-append, live_at-new, up_to-append}
use Rattle.ada_tables.proofs.Reaching.{reached_held, Alike, AlikeBut}
use Rattle.ada_tables.proofs.Alongs.{facts_at}
use Rattle.ada_tables.proofs.Keeping.{nest_changed, ways_alike, ways_but, count_none}

pub member_of-layer_of : (member : Member) → member_of (layer_of member) ≡ member
member_of-layer_of (BlockMember block) = refl
member_of-layer_of (Rendezvous call) = refl

-- the nest as it is known is that of the record
pub nest_is : (tasks : List Task) (task : ℕ) → (task_at (facts tasks) task).nest ≡ members (record_at tasks task).nest
nest_is tasks task = ap (λ (f : Facts). f.nest) (facts_at tasks task)

has_block-append : (block : ℕ) (nest more : List Member) → has_block block (nest ++ more) ≡ (has_block block nest || has_block block more)
has_block-append block nest more = list_any-append (is_block block) nest more

-- a rendezvous behind a nest changes nothing for its masters
alike_longer : (task call : ℕ) (old : Facts) (nest : List Member) → old.nest ≡ nest → Alike task old (record old { nest = nest ++ Rendezvous call ∷ [] })
alike_longer task call old nest is =
    record {
      master = refl;
      holding = λ from. holding from;
      enclosing = λ from to held. enclosing from to held;
    }
  where
    holding : (from : Master) → holds task (nest ++ Rendezvous call ∷ []) from ≡ holds task old.nest from
    holding (Body t) = refl
    holding (Block block) = rw is (has_block-append block nest (Rendezvous call ∷ []) ∙ or-false (has_block block nest))

    enclosing : (from to : Master) → holds task old.nest from ≡ true → encloses task (nest ++ Rendezvous call ∷ []) from to ≡ encloses task old.nest from to
    enclosing (Body t) (Body u) held = refl
    enclosing (Body t) (Block block) held = refl
    enclosing (Block inner) (Body u) held = refl
    enclosing (Block inner) (Block block) held = rw is (ap (has_block block) (up_to-append inner nest (Rendezvous call ∷ []) (rw is at held)))

-- a block behind a nest changes nothing for its other masters
but_longer : (task block : ℕ) (old : Facts) (nest : List Member) → old.nest ≡ nest
    → AlikeBut block task old (record old { nest = nest ++ BlockMember block ∷ [] })
but_longer task block old nest is =
    record {
      master = refl;
      holding = λ from other. holding from other;
      enclosing = λ from to other held. enclosing from to held;
    }
  where
    holding : (from : Master) → from ≢ Block block → holds task (nest ++ BlockMember block ∷ []) from ≡ holds task old.nest from
    holding (Body t) other = refl
    holding (Block at) other =
        rw is (has_block-append at nest (BlockMember block ∷ [])
        ∙ ap (λ b. has_block at nest || b) (or_from (block == at) false (ne_eqb block at (λ same. other (ap Block (sym same)))) refl)
        ∙ or-false (has_block at nest))

    enclosing : (from to : Master) → holds task old.nest from ≡ true → encloses task (nest ++ BlockMember block ∷ []) from to ≡ encloses task old.nest from to
    enclosing (Body t) (Body u) held = refl
    enclosing (Body t) (Block at) held = refl
    enclosing (Block inner) (Body u) held = refl
    enclosing (Block inner) (Block at) held = rw is (ap (has_block at) (up_to-append inner nest (BlockMember block ∷ []) (rw is at held)))

module _ (tasks : List Task) (task : ℕ) (right : AreCounted tasks) (within : task < length tasks) where
  abbrev nest : List Layer
  nest = (record_at tasks task).nest

  members_pushed : (member : Member) → members (nest ++ layer_of member ∷ []) ≡ members nest ++ member ∷ []
  members_pushed member = map-append member_of nest (layer_of member ∷ []) ∙ ap (λ m. members nest ++ m ∷ []) (member_of-layer_of member)

  stood : (block : ℕ) → has_block block (members nest) ≡ true → has_block block (task_at (facts tasks) task).nest ≡ true
  stood block has = ap (has_block block) (nest_is tasks task) ∙ has

  pub pushed_rendezvous : (call : ℕ) → AreCounted (set tasks task (record (record_at tasks task) { nest = nest ++ layer_of (Rendezvous call) ∷ [] }))
  pushed_rendezvous call =
      nest_changed tasks task (nest ++ layer_of (Rendezvous call) ∷ []) right within
      (λ block has.
      let there : has_block block (members nest) ≡ true = sym (or-false (has_block block (members nest)))
      ∙ sym (has_block-append block (members nest) (Rendezvous call ∷ [])) ∙ ap (has_block block) (sym (members_pushed (Rendezvous call))) ∙ has in
      inl (stood block there, live_at-append block nest (layer_of (Rendezvous call) ∷ []) there))
      (ways_alike tasks task (nest ++ layer_of (Rendezvous call) ∷ []) right within
      (subst (λ (ms : List Member). Alike task (task_at (facts tasks) task) (record (task_at (facts tasks) task) { nest = ms }))
      (sym (members_pushed (Rendezvous call)))
      (alike_longer task call (task_at (facts tasks) task) (members nest) (nest_is tasks task))))

  pub pushed_block : (block : ℕ) → ((other : ℕ) → other < length tasks → has_block block (task_at (facts tasks) other).nest ≡ false)
      → AreCounted (set tasks task (record (record_at tasks task) { nest = nest ++ layer_of (BlockMember block) ∷ [] }))
  pushed_block block fresh =
      nest_changed tasks task (nest ++ layer_of (BlockMember block) ∷ []) right within
      (λ at has. elim (cases_Bool (has_block at (members nest))) [
        | inl there ↦ inl (stood at there, live_at-append at nest (layer_of (BlockMember block) ∷ []) there)
        | inr new ↦
            let last : (has_block at (members nest) || ((block == at) || false)) ≡ true = sym (has_block-append at (members nest) (BlockMember block ∷ []))
            ∙ ap (has_block at) (sym (members_pushed (BlockMember block))) ∙ has in
            let same : block ≡ at = eqb-true block at (sym (or-false (block == at)) ∙ rw new at last) in
            inr (subst (λ b. ((other : ℕ) → other < length tasks → has_block b (task_at (facts tasks) other).nest ≡ false)
            × (live_at b (nest ++ layer_of (BlockMember block) ∷ []) ≡ 0)) same
            (fresh, live_at-new block nest (ap (has_block block) (sym (nest_is tasks task)) ∙ fresh task within)))
      ])
      (ways_but tasks task (nest ++ layer_of (BlockMember block) ∷ []) right within block
      (subst (λ (ms : List Member). AlikeBut block task (task_at (facts tasks) task) (record (task_at (facts tasks) task) { nest = ms }))
      (sym (members_pushed (BlockMember block)))
      (but_longer task block (task_at (facts tasks) task) (members nest) (nest_is tasks task)))
      (λ other low live. false_from_ne_true _ (λ reached.
      let found = reached_held (facts tasks) other (task_at (facts tasks) other).master (Block block) reached in
      both_ways _ (fresh found.0 (omega (arith, found.1))) found.2)))

  module _ (shorter : List Layer) (last : Layer) (nest_ends : nest ≡ shorter ++ last ∷ []) where
    members_ended : (task_at (facts tasks) task).nest ≡ members shorter ++ member_of last ∷ []
    members_ended = nest_is tasks task ∙ ap members nest_ends ∙ map-append member_of shorter (last ∷ [])

    still_there : (block : ℕ) → has_block block (members shorter) ≡ true → (has_block block (task_at (facts tasks) task).nest ≡ true)
        × (live_at block shorter ≡ live_at block nest)
    still_there block has = (
      ap (has_block block) members_ended ∙ has_block-append block (members shorter) (member_of last ∷ []) ∙ or_left _ _ has,
      sym (ap (live_at block) nest_ends ∙ live_at-append block shorter (last ∷ []) has),
    )

    pub popped_rendezvous : (call : ℕ) → member_of last ≡ Rendezvous call → AreCounted (set tasks task (record (record_at tasks task) { nest = shorter }))
    popped_rendezvous call last_is =
        nest_changed tasks task shorter right within (λ block has. inl (still_there block has))
        (ways_alike tasks task shorter right within
        (turned (alike_longer task call (record (task_at (facts tasks) task) { nest = members shorter }) (members shorter) refl)))
      where
        turned : Alike task (record (task_at (facts tasks) task) { nest = members shorter })
            (record (task_at (facts tasks) task) { nest = members shorter ++ Rendezvous call ∷ [] })
            → Alike task (task_at (facts tasks) task) (record (task_at (facts tasks) task) { nest = members shorter })
        turned alike =
            let whole : (task_at (facts tasks) task).nest ≡ members shorter ++ Rendezvous call ∷ [] = members_ended
            ∙ ap (λ m. members shorter ++ m ∷ []) last_is in
            record {
              master = refl;
              holding = λ from. rw whole (sym (alike.holding from));
              enclosing = λ from to held. rw whole (sym (alike.enclosing from to (sym (alike.holding from) ∙ rw whole at held)));
            }

    pub popped_block : (block : ℕ) → member_of last ≡ BlockMember block → live_dependents (facts tasks) (Block block) ≡ 0
        → AreCounted (set tasks task (record (record_at tasks task) { nest = shorter }))
    popped_block block last_is none =
        nest_changed tasks task shorter right within (λ at has. inl (still_there at has))
        (ways_but tasks task shorter right within block
        (turned (but_longer task block (record (task_at (facts tasks) task) { nest = members shorter }) (members shorter) refl))
        (λ other low live. rw live at (count_none (is_live_dependent (facts tasks) (Block block)) (length (facts tasks)) other none (rw length-map low))))
      where
        turned : AlikeBut block task (record (task_at (facts tasks) task) { nest = members shorter })
            (record (task_at (facts tasks) task) { nest = members shorter ++ BlockMember block ∷ [] })
            → AlikeBut block task (task_at (facts tasks) task) (record (task_at (facts tasks) task) { nest = members shorter })
        turned alike =
            let whole : (task_at (facts tasks) task).nest ≡ members shorter ++ BlockMember block ∷ [] = members_ended
            ∙ ap (λ m. members shorter ++ m ∷ []) last_is in
            record {
              master = refl;
              holding = λ from other. rw whole (sym (alike.holding from other));
              enclosing = λ from to other held. rw whole (sym (alike.enclosing from to other (sym (alike.holding from other) ∙ rw whole at held)));
            }
