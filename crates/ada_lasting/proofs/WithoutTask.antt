-- Names without the one of a task.
use Rattle.std.proofs.Common.{◌≡◌, ◌≢◌, ℕ, suc, true, false, Some, None, List, [], ◌∷◌, refl, sym, ap, ◌∙◌, inl, inr, arith}
use Rattle.std.specs.Prelude.{nat_lt, ◌==◌, if◌then◌else◌}
use Rattle.std.proofs.lemmas.Bool.{and_parts, cases_eq, false≢true, le-leb, lt-ltb, ne_eqb, eq-eqb}
use Rattle.ada_events.specs.declared.event.Event.{Event}
use Rattle.ada_standing.specs.StandsIn.{is_live}
use Rattle.ada_standing.specs.Fewer.{AreEnough}
use Rattle.ada_lasting.specs.declared.rows.Row.{Row}
use Rattle.ada_lasting.specs.Naming.{Naming, found, renaming_of}
use Rattle.ada_lasting.specs.internal.Keeping.{name_tasks, rises_between}
use Rattle.ada_lasting.specs.internal.Moving.{without, without_task}
use Rattle.ada_lasting.proofs.Finding.{first_of}
use Rattle.ada_lasting.proofs.MovedNames.{rises_from_less}

-- what is left keeps the limits

pub without-rises : (rows : List Row) (low high lasting : ℕ) → rises_between low high rows ≡ true
    → rises_between low high (without lasting rows) ≡ true
unfolding rises_between
without-rises [] low high lasting rises = refl
without-rises (row ∷ rest) low high lasting rises =
    let first = first_of low high row rest rises in
    let further = without-rises rest (suc row.lasting) high lasting first.later in
    elim (cases_eq row.lasting lasting) [
      | inl same ↦
          rw (eq-eqb row.lasting lasting same)
          (rises_from_less (without lasting rest) (suc row.lasting) low high further (omega (arith, first.above)))
      | inr other ↦ rw (ne_eqb row.lasting lasting other, le-leb low row.lasting first.above, lt-ltb row.lasting high first.below) further
    ]

pub without-tasks : (rows : List Row) (lasting : ℕ) → name_tasks rows ≡ true → name_tasks (without lasting rows) ≡ true
without-tasks [] lasting small = refl
without-tasks (row ∷ rest) lasting small =
    let both = and_parts (nat_lt row.present 65536) (name_tasks rest) small in
    let further = without-tasks rest lasting both.1 in
    elim (cases_eq row.lasting lasting) [
      | inl same ↦ rw (eq-eqb row.lasting lasting same) further
      | inr other ↦ rw (ne_eqb row.lasting lasting other, both.0) further
    ]

-- nothing has the name that was given up, and all others have what they had
pub found-without : (rows : List Row) (lasting other : ℕ)
    → found (without lasting rows) other ≡ (if other == lasting then None else found rows other)
unfolding found
found-without [] lasting other = elim (cases_eq other lasting) [
  | inl same ↦ rw (eq-eqb other lasting same) refl
  | inr differs ↦ rw (ne_eqb other lasting differs) refl
]
found-without (row ∷ rest) lasting other =
    let further = found-without rest lasting other in
    elim (cases_eq row.lasting lasting) [
      | inl here ↦ elim (cases_eq other lasting) [
        | inl same ↦
            let none : found (without lasting rest) other ≡ None = rw (eq-eqb other lasting same) at further in
            rw (eq-eqb row.lasting lasting here, eq-eqb other lasting same) none
        | inr differs ↦
            let left : found (without lasting rest) other ≡ found rest other = rw (ne_eqb other lasting differs) at further in
            let elsewhere : row.lasting ≢ other = λ is. differs (sym is ∙ here) in
            rw (eq-eqb row.lasting lasting here, ne_eqb other lasting differs, ne_eqb row.lasting other elsewhere) left
      ]
      | inr stays ↦ elim (cases_eq row.lasting other) [
        | inl is ↦
            let differs : other ≢ lasting = λ same. stays (is ∙ same) in
            rw (ne_eqb row.lasting lasting stays, ne_eqb other lasting differs, eq-eqb row.lasting other is) refl
        | inr elsewhere ↦ rw (ne_eqb row.lasting lasting stays, ne_eqb row.lasting other elsewhere) further
      ]
    ]

pub found-without-same : (rows : List Row) (lasting : ℕ) → found (without lasting rows) lasting ≡ None
found-without-same rows lasting = rw (eq-eqb lasting lasting refl) at (found-without rows lasting lasting)

pub found-without-other : (rows : List Row) (lasting other : ℕ) → other ≢ lasting → found (without lasting rows) other ≡ found rows other
found-without-other rows lasting other differs = rw (ne_eqb other lasting differs) at (found-without rows lasting other)

-- enough names are left without the one of a task that is terminated, and isn't the main program
pub without_task-enough : (old : List Event) (names : Naming) (lasting : ℕ) → is_live old lasting ≡ false → lasting ≢ 0
    → AreEnough old (renaming_of names) (renaming_of (without_task names lasting))
without_task-enough old names lasting dead no_main = record {
  tasks = λ u v is. elim (cases_eq u lasting) [
    | inl same ↦ absurd (nothing u v same is)
    | inr differs ↦ sym (found-without-other names.tasks lasting u differs) ∙ is
  ];
  positions = λ p q is. is;
  main = found-without-other names.tasks lasting 0 (λ same. no_main (sym same));
  live = λ u lives. found-without-other names.tasks lasting u (λ same. false≢true (sym dead ∙ ap (is_live old) (sym same) ∙ lives));
  held = λ u p suspended. refl;
  members = λ u p lives member. refl;
  accepted = λ u v call choice is outcome. refl;
}
  where
    nothing : (u v : ℕ) → u ≡ lasting → found (without lasting names.tasks) u ≡ Some v → ⊥
    nothing u v same is =
        let none : found (without lasting names.tasks) u ≡ None = ap (found (without lasting names.tasks)) same ∙ found-without-same names.tasks lasting in
        cc
