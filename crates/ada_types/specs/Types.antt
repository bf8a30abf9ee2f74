-- What is noted of types fits the tree.
use Rattle.std.specs.Prelude.{ℕ, ℤ, pos, negsuc, ◌-ℤ◌, ◌&&◌, ◌||◌, ◌==◌, Bool, true, false, ltb, int_lt, int_le, Option}
use Rattle.std.specs.Prelude.{Some, None, List, length, option_map, option_and_then, is_some, is_none}
use Rattle.std.specs.Option.{option_map_or}
use Rattle.std.specs.List.{list_all, slice_get}
use Rattle.std.specs.Ordering.{int_eq}
use Rattle.ada_text.specs.declared.tree.Nodes.{Nodes}
use Rattle.ada_text.specs.declared.tree.Tree.{Tree}
use Rattle.ada_text.specs.declared.tree.declaration.DeclarationForm.{DeclarationForm}
use Rattle.ada_text.specs.declared.tree.declaration.DeclarationForm.TheVariants.{Subprogram, Task as DeclaredTask}
use Rattle.ada_text.specs.declared.tree.declaration.DeclarationId.{DeclarationId}
use Rattle.ada_text.specs.declared.tree.expression.ExpressionId.{ExpressionId}
use Rattle.ada_names.specs.declared.meaning.Literal.{Literal as LiteralOf}
use Rattle.ada_names.specs.declared.meaning.LiteralId.{LiteralId}
use Rattle.ada_names.specs.declared.resolved.Resolved.{Resolved}
use Rattle.ada_types.specs.declared.bounds.Bounds.{Bounds}
use Rattle.ada_types.specs.declared.types.TypeId.{TypeId}
use Rattle.ada_types.specs.declared.types.Subtype.{Subtype}
use Rattle.ada_types.specs.declared.types.TypeForm.{TypeForm}
use Rattle.ada_types.specs.declared.types.TypeForm.TheVariants.{Integer, Enumeration, Character, Universal, Duration, Array, Task as TaskType}
use Rattle.ada_types.specs.declared.class.Class.{Class}
use Rattle.ada_types.specs.declared.class.Class.TheVariants.{Value, Literal, Object, Call, Conversion, Subtype as SubtypeMark, Range}
use Rattle.ada_types.specs.declared.class.Class.TheVariants.{AttributeFunction, Function, Procedure, ProcedureCall, Entry, Family, EntryCall}
use Rattle.ada_types.specs.declared.typed.Declared.{Declared}
use Rattle.ada_types.specs.declared.typed.Typed.{Typed}

-- ranges of values
abbrev pub is_null : Bounds → Bool
is_null bounds = int_lt bounds.high bounds.low

abbrev pub contains : Bounds → ℤ → Bool
contains bounds value = int_le bounds.low value && int_le value bounds.high

abbrev pub includes : Bounds → Bounds → Bool
includes bounds other = is_null other || (contains bounds other.low && contains bounds other.high)

-- a range of so many values at most
abbrev pub is_within : Bounds → ℕ → Bool
is_within bounds most = int_lt (bounds.high -ℤ bounds.low) (pos most)

-- the range of a base type, if that is scalar: INTEGER has 32 bits, and DURATION a day in thousandths of a second
abbrev pub range_of : TypeForm → Option Bounds
range_of (Integer _) = Some (record { low = negsuc 2147483647; high = pos 2147483647 })
range_of (Enumeration _ count) = Some (record { low = pos 0; high = pos count -ℤ pos 1 })
range_of Character = Some (record { low = pos 0; high = pos 127 })
range_of Universal = Some (record { low = negsuc 9223372036854775807; high = pos 9223372036854775807 })
range_of Duration = Some (record { low = negsuc 86399999; high = pos 86400000 })
range_of _ = None

abbrev pub is_integer : TypeForm → Bool
is_integer (Integer _) = true
is_integer Universal = true
is_integer _ = false

abbrev pub is_discrete : TypeForm → Bool
is_discrete (Integer _) = true
is_discrete Universal = true
is_discrete (Enumeration _ _) = true
is_discrete Character = true
is_discrete _ = false

abbrev pub scalar : TypeId → Bounds → Subtype
scalar base bounds = record { base = base; bounds = Some bounds }

abbrev pub composite : TypeId → Subtype
composite base = record { base = base; bounds = None }

-- what is noted of a type, an expression or a declaration
abbrev pub form : List TypeForm → TypeId → Option TypeForm
form forms id = slice_get forms id.0

abbrev pub class : List (Option Class) → ExpressionId → Option Class
class classes id = option_and_then (λ noted. noted) (slice_get classes id.0)

abbrev pub declared : List (Option Declared) → DeclarationId → Option Declared
declared declarations id = option_and_then (λ noted. noted) (slice_get declarations id.0)

-- the subtype that an expression names, perhaps with a static range
abbrev pub subtype_in : Option Class → Option Subtype
subtype_in (Some (SubtypeMark subtype)) = Some subtype
subtype_in (Some (Range base bounds)) = option_map (scalar base) bounds
subtype_in _ = None

abbrev pub subtype : List (Option Class) → ExpressionId → Option Subtype
subtype classes id = subtype_in (class classes id)

abbrev pub has_type : List TypeForm → TypeId → Bool
has_type forms id = ltb id.0 (length forms)

abbrev pub range_in : List TypeForm → TypeId → Option Bounds
range_in forms id = option_and_then range_of (form forms id)

-- the bounds of a subtype lie in the range of its base type, if that is scalar; else there are none
abbrev pub fits : Option Bounds → Option Bounds → Bool
fits (Some range) (Some bounds) = includes range bounds
fits None None = true
fits _ _ = false

abbrev pub has_subtype : List TypeForm → Subtype → Bool
has_subtype forms subtype = has_type forms subtype.base && fits (range_in forms subtype.base) subtype.bounds

-- a static value lies in the range of its base type
abbrev pub lies_in : Option Bounds → ℤ → Bool
lies_in (Some range) value = contains range value
lies_in None _ = false

abbrev pub has_value : List TypeForm → TypeId → Option ℤ → Bool
has_value forms base (Some value) = lies_in (range_in forms base) value
has_value forms base None = has_type forms base

-- and so do static bounds
abbrev pub reaches : Option Bounds → Option Bounds → Bool
reaches (Some range) (Some bounds) = includes range bounds
reaches (Some _) None = true
reaches None _ = false

abbrev pub has_range : List TypeForm → TypeId → Option Bounds → Bool
has_range forms base bounds = reaches (range_in forms base) bounds

-- a literal that was chosen is one of its type, at the position that is its value
abbrev pub is_same_owner : Option DeclarationId → Option DeclarationId → Bool
is_same_owner (Some one) (Some other) = one.0 == other.0
is_same_owner None None = true
is_same_owner _ _ = false

abbrev pub is_of : TypeForm → LiteralOf → ℤ → Bool
is_of (Enumeration owner _) literal value = is_same_owner owner literal.owner && int_eq (pos literal.position) value
is_of _ _ _ = false

abbrev pub has_literal : List TypeForm → List LiteralOf → TypeId → LiteralId → ℤ → Bool
has_literal forms literals base id value =
    option_map_or (λ typed. option_map_or (λ literal. is_of typed literal value) (slice_get literals id.0) false) (form forms base) false

-- declarations of tasks, functions, procedures and entries
abbrev pub is_task : DeclarationForm → Bool
is_task (DeclaredTask _ _) = true
is_task _ = false

abbrev pub is_function : DeclarationForm → Bool
is_function (Subprogram _ outcome _) = is_some outcome
is_function _ = false

abbrev pub is_procedure : DeclarationForm → Bool
is_procedure (Subprogram _ outcome _) = is_none outcome
is_procedure _ = false

abbrev pub has_entry : DeclarationForm → ℕ → Bool
has_entry (DeclaredTask _ entries) position = ltb position (length entries.items)
has_entry _ _ = false

abbrev pub has_task : Nodes → DeclarationId → Bool
has_task nodes id = option_map_or (λ node. is_task node.form) (slice_get nodes.declarations.items id.0) false

abbrev pub has_function : Nodes → DeclarationId → Bool
has_function nodes id = option_map_or (λ node. is_function node.form) (slice_get nodes.declarations.items id.0) false

abbrev pub has_procedure : Nodes → DeclarationId → Bool
has_procedure nodes id = option_map_or (λ node. is_procedure node.form) (slice_get nodes.declarations.items id.0) false

abbrev pub has_entry_of : Nodes → DeclarationId → ℕ → Bool
has_entry_of nodes id position = option_map_or (λ node. has_entry node.form position) (slice_get nodes.declarations.items id.0) false

-- an array isn't too long, and what types are made of is there
abbrev pub is_short : Option Bounds → Bool
is_short (Some bounds) = is_within bounds 65536
is_short None = false

abbrev pub has_parts : Nodes → List TypeForm → TypeForm → Bool
has_parts _ forms (Array index component) = is_short index.bounds && has_subtype forms index && has_subtype forms component
has_parts nodes _ (TaskType id) = has_task nodes id
has_parts _ _ _ = true

-- a declaration is of a type that is there, and a constant's static value in its range
abbrev pub declares : List TypeForm → Declared → Bool
declares forms declared = has_subtype forms declared.subtype && has_value forms declared.subtype.base declared.value

abbrev pub has_declared : List TypeForm → Option Declared → Bool
has_declared forms declared = option_map_or (declares forms) declared true

-- what an expression is fits its type, and what it names is there
abbrev pub has_class : Nodes → List TypeForm → List LiteralOf → Class → Bool
has_class _ forms _ (Value base value) = has_value forms base value
has_class _ forms literals (Literal base literal value) = has_literal forms literals base literal value
has_class _ forms _ (Object subtype _ value) = has_subtype forms subtype && has_value forms subtype.base value
has_class nodes forms _ (Call function subtype) = has_function nodes function && has_subtype forms subtype
has_class _ forms _ (Conversion subtype) = has_subtype forms subtype
has_class _ forms _ (SubtypeMark subtype) = has_subtype forms subtype
has_class _ forms _ (AttributeFunction subtype) = has_subtype forms subtype
has_class _ forms _ (Range base bounds) = has_range forms base bounds
has_class nodes _ _ (Function id) = has_function nodes id
has_class nodes _ _ (Procedure id) = has_procedure nodes id
has_class nodes _ _ (ProcedureCall id) = has_procedure nodes id
has_class nodes _ _ (Entry task position) = has_entry_of nodes task position
has_class nodes _ _ (Family task position) = has_entry_of nodes task position
has_class nodes _ _ (EntryCall task position) = has_entry_of nodes task position
has_class _ _ _ _ = true

abbrev pub has_any_class : Nodes → List TypeForm → List LiteralOf → Option Class → Bool
has_any_class nodes forms literals class = option_map_or (has_class nodes forms literals) class true

-- each node of the tree has its place, and what is noted there fits
abbrev pub is_whole : Typed → Tree → Resolved → Bool
is_whole typed tree resolved =
    length typed.expressions.items == length tree.nodes.expressions.items
    && length typed.declarations.items == length tree.nodes.declarations.items
    && list_all (has_parts tree.nodes typed.types.items) typed.types.items
    && list_all (has_declared typed.types.items) typed.declarations.items
    && list_all (has_any_class tree.nodes typed.types.items resolved.literals.items) typed.expressions.items
