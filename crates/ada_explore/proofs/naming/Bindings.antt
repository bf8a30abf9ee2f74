-- What names stand for once a statement is accepted.
use Rattle.std.proofs.Common.{◌≡◌, ℕ, Bool, true, false, cond, if◌then◌else◌, Option, Some, None, List, [], ◌∷◌, refl, sym, ap, ◌∙◌}
use Rattle.std.specs.Cmp.Lexicographic.{bytes_decides}
use Rattle.std.specs.Map.{lookup}
use Rattle.std.specs.Option.{option_map}
use Rattle.std.specs.Str.{bytes_eq}
use Rattle.std.proofs.lemmas.Option.{none-some, same_Some}
use Rattle.ada_events.specs.declared.names.TaskNo.{TaskNo}
use Rattle.ada_statements.specs.declared.meaning.Made.{Made}
use Rattle.ada_statements.specs.declared.meaning.Meaning.{Meaning}
use Rattle.ada_statements.specs.declared.meaning.Meaning.TheVariants.{Task, Block}
use Rattle.ada_statements.specs.declared.statement.Statement.{Statement}
use Rattle.ada_statements.specs.declared.statement.Statement.TheVariants.{Open, Create}
use Rattle.ada_statements.specs.Scope.{Scope, meaning_of}
use Rattle.ada_statements.specs.Binding.{bind, with_meaning, with_made, with_opened}
use Rattle.ada_explore.specs.Sameness.{shape}

-- ---- another meaning of one name

pub meaning_changed : (names : Scope) (name : List ℕ) (change : Meaning → Meaning)
    → meaning_of (with_meaning names name change) name ≡ option_map change (meaning_of names name)
meaning_changed [] name change = refl
meaning_changed (entry ∷ names) name change = by (meaning_changed names name change) (bytes_eq name entry.0) refl
  where
    by : meaning_of (with_meaning names name change) name ≡ option_map change (meaning_of names name) → (same : Bool) → bytes_eq name entry.0 ≡ same
        → lookup (bytes_eq name) (cond same ((entry.0, change entry.1) ∷ names) (entry ∷ with_meaning names name change))
        ≡ option_map change (cond same (Some entry.1) (meaning_of names name))
    by later true is = rw is refl
    by later false is = rw is later

pub meaning_other : (names : Scope) (changed name : List ℕ) (change : Meaning → Meaning) → bytes_eq name changed ≡ false
    → meaning_of (with_meaning names changed change) name ≡ meaning_of names name
meaning_other [] changed name change other = refl
meaning_other (entry ∷ names) changed name change other = by (meaning_other names changed name change other) (bytes_eq changed entry.0) refl
  where
    by : meaning_of (with_meaning names changed change) name ≡ meaning_of names name → (same : Bool) → bytes_eq changed entry.0 ≡ same
        → lookup (bytes_eq name) (cond same ((entry.0, change entry.1) ∷ names) (entry ∷ with_meaning names changed change))
        ≡ cond (bytes_eq name entry.0) (Some entry.1) (meaning_of names name)
    by later true is =
        let here : changed ≡ entry.0 = (bytes_decides changed entry.0).0 is in
        let differs : bytes_eq name entry.0 ≡ false = ap (bytes_eq name) (sym here) ∙ other in
        rw differs refl
    by later false is = ap (cond (bytes_eq name entry.0) (Some entry.1)) later

pub meaning_with : (names : Scope) (changed name : List ℕ) (change : Meaning → Meaning)
    → meaning_of (with_meaning names changed change) name ≡ (if bytes_eq name changed then option_map change (meaning_of names name) else meaning_of names name)
meaning_with names changed name change = by (bytes_eq name changed) refl
  where
    by : (same : Bool) → bytes_eq name changed ≡ same
        → meaning_of (with_meaning names changed change) name ≡ cond same (option_map change (meaning_of names name)) (meaning_of names name)
    by true is =
        let here : name ≡ changed = (bytes_decides name changed).0 is in
        rw here (meaning_changed names changed change)
    by false is = meaning_other names changed name change is

-- ---- by the statement

-- what a name stands for, once a statement is accepted
abbrev pub bound_by : Statement → ℕ → TaskNo → List ℕ → Option Meaning → Option Meaning
bound_by (Open _ block) at made name meaning = if bytes_eq name block then option_map (with_opened at) meaning else meaning
bound_by (Create _ task _ _) at made name meaning = if bytes_eq name task then option_map (with_made (record { task = made; at = at })) meaning else meaning
bound_by _ at made name meaning = meaning

pub meaning_bound : (names : Scope) (statement : Statement) (at : ℕ) (made : TaskNo) (name : List ℕ)
    → meaning_of (bind names statement at made) name ≡ bound_by statement at made name (meaning_of names name)
meaning_bound names (Open _ block) at made name = meaning_with names block name (with_opened at)
meaning_bound names (Create _ task _ _) at made name = meaning_with names task name (with_made (record { task = made; at = at }))
meaning_bound names _ at made name = refl

opened_shape : (at : ℕ) (meaning : Option Meaning) → option_map shape (option_map (with_opened at) meaning) ≡ option_map shape meaning
opened_shape at None = refl
opened_shape at (Some (Task entries made)) = refl
opened_shape at (Some (Block opened)) = refl

made_shape : (at : ℕ) (made : TaskNo) (meaning : Option Meaning)
    → option_map shape (option_map (with_made (record { task = made; at = at })) meaning) ≡ option_map shape meaning
made_shape at made None = refl
made_shape at made (Some (Task entries before)) = refl
made_shape at made (Some (Block opened)) = refl

either_shape : (b : Bool) (changed meaning : Option Meaning) → option_map shape changed ≡ option_map shape meaning
    → option_map shape (if b then changed else meaning) ≡ option_map shape meaning
either_shape true changed meaning same = same
either_shape false changed meaning same = refl

-- names stay declared as they are
pub shape_bound : (statement : Statement) (at : ℕ) (made : TaskNo) (name : List ℕ) (meaning : Option Meaning)
    → option_map shape (bound_by statement at made name meaning) ≡ option_map shape meaning
shape_bound (Open _ block) at made name meaning =
    either_shape (bytes_eq name block) (option_map (with_opened at) meaning) meaning (opened_shape at meaning)
shape_bound (Create _ task _ _) at made name meaning =
    either_shape (bytes_eq name task) (option_map (with_made (record { task = made; at = at })) meaning) meaning (made_shape at made meaning)
shape_bound _ at made name meaning = refl

-- ---- by its shape

-- two names of which neither is declared, or both are those of tasks, or of blocks
pub data AreOfOneShape : Option Meaning → Option Meaning → Type 0 where
  neither : AreOfOneShape None None
  tasks : (entries others : List (List ℕ)) (made made_too : Option Made) → AreOfOneShape (Some (Task entries made)) (Some (Task others made_too))
  blocks : (opened opened_too : Option ℕ) → AreOfOneShape (Some (Block opened)) (Some (Block opened_too))

pub one_shape : (meaning other : Option Meaning) → option_map shape meaning ≡ option_map shape other → AreOfOneShape meaning other
one_shape None None shapes = AreOfOneShape.neither
one_shape (Some (Task entries made)) (Some (Task others made_too)) shapes = AreOfOneShape.tasks entries others made made_too
one_shape (Some (Block opened)) (Some (Block opened_too)) shapes = AreOfOneShape.blocks opened opened_too
one_shape None (Some meaning) shapes = absurd (none-some (shape meaning) shapes)
one_shape (Some meaning) None shapes = absurd (none-some (shape meaning) (sym shapes))
one_shape (Some (Task entries made)) (Some (Block opened)) shapes = absurd (none-some entries (sym (same_Some (Some entries) None shapes)))
one_shape (Some (Block opened)) (Some (Task others made)) shapes = absurd (none-some others (same_Some None (Some others) shapes))
