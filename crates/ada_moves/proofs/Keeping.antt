-- The tasks of objects, one after another.
use Rattle.std.proofs.Common.{◌≡◌, ℕ, zero, suc, ◌+◌, ◌<◌, ◌≤◌, Bool, cond, Option, Some, None, [], ◌∷◌, ◌++◌}
use Rattle.std.proofs.Common.{length, take, drop, set, get_or, refl, sym, ap, ◌∙◌, arith}
use Rattle.std.proofs.lemmas.Bool.{ne_eqb, eq-eqb}
use Rattle.std.proofs.lemmas.List.{take_more, drop_more, set_at, set_past, append-nil, append_assoc, drop_all, take_all, length-take-le}
use Rattle.ada_behaviours.specs.Behaviours.{Behaviour}
use Rattle.ada_behaviours.specs.Moves.{Tasks, with_made, named_only}

-- ---- the task of an object that was made

pub none_made : (task object : ℕ) (tasks : Tasks) → tasks ≡ with_made None task object tasks
none_made task object [] = refl
none_made task object (old ∷ tasks) = ap (λ ts. old ∷ ts) (none_made task (suc object) tasks)

-- an object before the first one
made_before : (made task object : ℕ) (tasks : Tasks) → made < object → tasks ≡ with_made (Some made) task object tasks
made_before made task object [] before = refl
made_before made task object (old ∷ tasks) before =
    rw (ne_eqb object made (λ same. omega (arith, same, before)))
    (ap (λ ts. old ∷ ts) (made_before made task (suc object) tasks (omega (arith, before))))

made_at : (task object place : ℕ) (tasks : Tasks) → set tasks place (Some task) ≡ with_made (Some (object + place)) task object tasks
made_at task object place [] = refl
made_at task object zero (old ∷ tasks) =
    rw (eq-eqb object (object + 0) (omega arith))
    (ap (λ ts. Some task ∷ ts) (made_before (object + 0) task (suc object) tasks (omega arith)))
made_at task object (suc place) (old ∷ tasks) =
    let next : suc object + place ≡ object + suc place = omega arith in
    rw (ne_eqb object (object + suc place) (λ same. omega (arith, same)))
    (ap (λ ts. old ∷ ts) (made_at task (suc object) place tasks ∙ ap (λ n. with_made (Some n) task (suc object) tasks) next))

pub made_there : (task place : ℕ) (tasks : Tasks) → set tasks place (Some task) ≡ with_made (Some place) task 0 tasks
made_there task place tasks = made_at task 0 place tasks ∙ ap (λ n. with_made (Some n) task 0 tasks) (omega arith)

pub made_past : (task place : ℕ) (tasks : Tasks) → length tasks ≤ place → tasks ≡ with_made (Some place) task 0 tasks
made_past task place tasks past =
    sym (set_past tasks place (Some task) past) ∙ made_there task place tasks

-- ---- tasks that may still be named

module _ {State : Type 0} (behaviour : Behaviour State) (state : State) where
  named_append : (object : ℕ) (tasks more : Tasks)
      → named_only behaviour state object (tasks ++ more)
      ≡ named_only behaviour state object tasks ++ named_only behaviour state (object + length tasks) more
  named_append object [] more = ap (λ n. named_only behaviour state n more) (omega arith)
  named_append object (task ∷ tasks) more =
      let next : suc object + length tasks ≡ object + suc (length tasks) = omega arith in
      ap (λ ts. cond (behaviour.names state object) task None ∷ ts)
      (named_append (suc object) tasks more
      ∙ ap (λ n. named_only behaviour state (suc object) tasks ++ named_only behaviour state n more) next)

  length_named : (object : ℕ) (tasks : Tasks) → length (named_only behaviour state object tasks) ≡ length tasks
  length_named object [] = refl
  length_named object (task ∷ tasks) = ap suc (length_named (suc object) tasks)

  get_or_at : (tasks more : Tasks) (task other : Option ℕ) (n : ℕ) → length tasks ≡ n → get_or (tasks ++ task ∷ more) n other ≡ task
  get_or_at [] more task other zero long = refl
  get_or_at [] more task other (suc n) long = absurd (omega (arith, long))
  get_or_at (t ∷ tasks) more task other zero long = absurd (omega (arith, long))
  get_or_at (t ∷ tasks) more task other (suc n) long = get_or_at tasks more task other n (omega (arith, long))

  -- those before a place are named only if they may be
  abbrev pub AreNamedTo : Tasks → Tasks → ℕ → Type 0
  AreNamedTo old tasks place = tasks ≡ named_only behaviour state 0 (take place old) ++ drop place old

  pub all_named : (old tasks : Tasks) (place : ℕ) → length old ≤ place → AreNamedTo old tasks place → tasks ≡ named_only behaviour state 0 old
  all_named old tasks place past are =
      are ∙ ap (λ ts. named_only behaviour state 0 (take place old) ++ ts) (drop_all place old past)
      ∙ append-nil (named_only behaviour state 0 (take place old)) ∙ ap (named_only behaviour state 0) (take_all place old past)

  -- one more
  pub named_more : (old tasks : Tasks) (place object : ℕ) (keeps : Bool) (task : Option ℕ) → object ≡ place → place < length old
      → task ≡ get_or tasks place task
      → keeps ≡ behaviour.names state object → AreNamedTo old tasks place
      → AreNamedTo old (set tasks place (cond keeps task None)) (place + 1)
  named_more old tasks place object keeps task at below is same are =
      ap (λ ts. set ts place (cond keeps task None)) before
      ∙ set_at named old_one rest (cond keeps task None) place long
      ∙ sym (append_assoc named (cond keeps task None ∷ []) rest)
      ∙ ap (λ ts. ts ++ rest) (sym after)
    where
      old_one : Option ℕ
      old_one = get_or old place None

      rest : Tasks
      rest = drop (place + 1) old

      named : Tasks
      named = named_only behaviour state 0 (take place old)

      count : length (take place old) ≡ place
      count = length-take-le place old (omega (arith, below))

      long : length named ≡ place
      long = length_named 0 (take place old) ∙ count

      before : tasks ≡ named ++ old_one ∷ rest
      before = are ∙ ap (λ ts. named ++ ts) (drop_more old place None below)

      here : task ≡ old_one
      here = is ∙ ap (λ ts. get_or ts place task) before ∙ get_or_at named rest old_one task place long

      after : named_only behaviour state 0 (take (place + 1) old) ≡ named ++ cond keeps task None ∷ []
      after =
          ap (named_only behaviour state 0) (take_more old place None below)
          ∙ named_append 0 (take place old) (old_one ∷ [])
          ∙ ap (λ n. named ++ named_only behaviour state n (old_one ∷ [])) (ap (λ n. 0 + n) count ∙ omega arith)
          ∙ ap (λ b. named ++ cond b old_one None ∷ []) (ap (behaviour.names state) (sym at) ∙ sym same)
          ∙ ap (λ t. named ++ cond keeps t None ∷ []) (sym here)
