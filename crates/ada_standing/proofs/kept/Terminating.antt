-- Tasks are terminated alike after one more event.
use Rattle.std.proofs.Common.{◌≡◌, ℕ, Bool, false, Option, Some, None, List, ◌∷◌, refl, sym, ◌∙◌, inl, inr}
use Rattle.std.specs.Option.{option_map}
use Rattle.std.proofs.lemmas.Bool.{cases_Bool, false_from_ne_true, true≢false}
use Rattle.std.proofs.lemmas.Option.{none-some, same_Some}
use Rattle.ada_events.specs.declared.event.Event.{Event}
use Rattle.ada_events.specs.Search.{is_some_and}
use Rattle.ada_events.specs.Says.{gone_in, quit_in}
use Rattle.ada_events.specs.Masters.{depends_on}
use Rattle.ada_events.specs.Phases.{is_terminated}
use Rattle.ada_laws.proofs.searching.Growing.{is_terminated-more}
use Rattle.ada_standing.specs.Renaming.{Renaming, renamed_master}
use Rattle.ada_standing.specs.internal.Next.{next_names}
use Rattle.ada_standing.proofs.alike.Pairs.{live_from}
use Rattle.ada_standing.proofs.alike.Mastering.{depends_alike}
use Rattle.ada_standing.proofs.kept.Saying.{gone_said, quit_said, number_alike}
use Rattle.ada_standing.proofs.kept.Naming.{AreNext, AreOld, AreMade, like, one_task, next_cases}
use Rattle.ada_standing.proofs.kept.Newness.{IsFresh, fresh, fresh_made}

-- what isn't terminated wasn't before
pub unterminated_before : (event : Event) (before : List Event) (u : ℕ) → is_terminated (event ∷ before) u ≡ false → is_terminated before u ≡ false
unterminated_before event before u still =
    false_from_ne_true (is_terminated before u) (λ ended. true≢false (sym (is_terminated-more event before u ended) ∙ still))

-- what passes a test and what stands for it
pub passes_alike : {A : Type 0} (rename : A → Option A) (test there : A → Bool) (o n : Option A) → option_map rename o ≡ option_map Some n
    → ((x y : A) → rename x ≡ Some y → test x ≡ there y) → is_some_and o test ≡ is_some_and n there
passes_alike rename test there None None same alike = refl
passes_alike rename test there (Some x) (Some y) same alike = alike x y (same_Some (rename x) (Some y) same)
passes_alike rename test there None (Some y) same alike = absurd (none-some (Some y) same)
passes_alike rename test there (Some x) None same alike = absurd (none-some (rename x) (sym same))

module _ (old new : List Event) (names : Renaming) (event other : Event) (next : AreNext old new names event other) where
  -- by the number of a task that goes, or by what it depends on
  pub terminated_old : (u v : ℕ) → AreOld old new names u v → is_terminated (other ∷ new) v ≡ is_terminated (event ∷ old) u
  unfolding is_terminated
  terminated_old u v was =
      let same = next.stands.same u v was.named in
      elim (cases_Bool (is_terminated old u)) [
        | inl ended ↦ is_terminated-more other new v (same.terminated ∙ ended) ∙ sym (is_terminated-more event old u ended)
        | inr still ↦
            rw (
              same.terminated,
              number_alike names.task (gone_in event) (gone_in other) u v (one_task old new names event other next)
                  (gone_said names event other (like old new names event other next)) was.named,
              passes_alike (renamed_master names) (depends_on old u) (depends_on new v) (quit_in event) (quit_in other)
                  (quit_said names event other (like old new names event other next))
                  (λ x y is. depends_alike old new names u v x y next.stands next.orderly next.also was.named (live_from old u was.below still) is),
            ) refl
      ]

  -- nothing became of new tasks
  pub made_fresh : (u v : ℕ) → AreMade old new names event other u v → IsFresh (event ∷ old) u × IsFresh (other ∷ new) v
  made_fresh u v made = (
    fresh_made event old u made.creation made.says (fresh old event u next.fits made.newest),
    fresh_made other new v made.stand made.says_too (fresh new other v next.fits_too made.newest_too),
  )

  pub terminated_kept : (u v : ℕ) → (next_names old new event names).task u ≡ Some v → is_terminated (other ∷ new) v ≡ is_terminated (event ∷ old) u
  terminated_kept u v named =
      elim (next_cases old new names event other next u v named) [
        | inl was ↦ terminated_old u v was
        | inr made ↦
            let both = made_fresh u v made in
            both.1.unterminated ∙ sym both.0.unterminated
      ]
