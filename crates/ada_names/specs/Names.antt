-- What names denote is there.
use Rattle.std.specs.Prelude.{ℕ, ◌&&◌, ◌==◌, Bool, true, false, ltb, Option, Some, None, List, length, option_map, option_and_then, is_some}
use Rattle.std.specs.Option.{option_map_or}
use Rattle.std.specs.List.{list_all, slice_get}
use Rattle.ada_text.specs.declared.tree.Nodes.{Nodes}
use Rattle.ada_text.specs.declared.tree.Tree.{Tree}
use Rattle.ada_text.specs.declared.tree.declaration.DeclarationForm.{DeclarationForm}
use Rattle.ada_text.specs.declared.tree.declaration.DeclarationForm.TheVariants.{«Type» as TypeOf, Subprogram, Task}
use Rattle.ada_text.specs.declared.tree.declaration.DeclarationId.{DeclarationId}
use Rattle.ada_text.specs.declared.tree.declaration.TypeDefinition.TheVariants.{Enumeration}
use Rattle.ada_text.specs.declared.tree.expression.Identifier.{Identifier}
use Rattle.ada_text.specs.declared.tree.statement.BodyId.{BodyId}
use Rattle.ada_text.specs.declared.tree.statement.Iteration.{Iteration}
use Rattle.ada_text.specs.declared.tree.statement.Iteration.TheVariants.{For}
use Rattle.ada_text.specs.declared.tree.statement.StatementForm.{StatementForm}
use Rattle.ada_text.specs.declared.tree.statement.StatementForm.TheVariants.{Loop, Block, Accept as Accepts}
use Rattle.ada_text.specs.declared.tree.statement.StatementId.{StatementId}
use Rattle.ada_names.specs.declared.meaning.Literal.{Literal as LiteralOf}
use Rattle.ada_names.specs.declared.meaning.LiteralId.{LiteralId}
use Rattle.ada_names.specs.declared.meaning.Meaning.{Meaning}
use Rattle.ada_names.specs.declared.meaning.Meaning.TheVariants.{Declaration as Declared, Literal, Parameter, Entry, AcceptParameter}
use Rattle.ada_names.specs.declared.meaning.Meaning.TheVariants.{LoopParameter, Statement as Named, Main, Predefined}
use Rattle.ada_names.specs.declared.resolved.Home.{Home}
use Rattle.ada_names.specs.declared.resolved.Resolved.{Resolved}

-- the names of a parameter, an entry or a literal that a declaration declares at a position
abbrev pub parameter_name : ℕ → DeclarationForm → Option Identifier
parameter_name position (Subprogram parameters _ _) = option_map (λ parameter. parameter.name) (slice_get parameters.items position)
parameter_name _ _ = None

abbrev pub entry_name : ℕ → DeclarationForm → Option Identifier
entry_name position (Task _ entries) = option_map (λ entry. entry.name) (slice_get entries.items position)
entry_name _ _ = None

abbrev pub literal_name : ℕ → DeclarationForm → Option Identifier
literal_name position (TypeOf (Enumeration literals)) = slice_get literals.items position
literal_name _ _ = None

-- those of a parameter of an accept statement or of a loop, and of a loop or a block
abbrev pub accept_parameter_name : ℕ → StatementForm → Option Identifier
accept_parameter_name position (Accepts accept) = option_map (λ parameter. parameter.name) (slice_get accept.parameters.items position)
accept_parameter_name _ _ = None

abbrev pub iteration_name : Iteration → Option Identifier
iteration_name (For parameter _ _) = Some parameter
iteration_name _ = None

abbrev pub loop_parameter_name : StatementForm → Option Identifier
loop_parameter_name (Loop _ iteration _) = iteration_name iteration
loop_parameter_name _ = None

abbrev pub label : StatementForm → Option Identifier
label (Loop name _ _) = name
label (Block name _) = name
label _ = None

abbrev pub is_loop_or_block : StatementForm → Bool
is_loop_or_block (Loop _ _ _) = true
is_loop_or_block (Block _ _) = true
is_loop_or_block _ = false

-- such a name of a declaration or a statement of the tree, if that is there
abbrev pub name_in : (DeclarationForm → Option Identifier) → Nodes → DeclarationId → Option Identifier
name_in name nodes id = option_and_then (λ node. name node.form) (slice_get nodes.declarations.items id.0)

abbrev pub name_at : (StatementForm → Option Identifier) → Nodes → StatementId → Option Identifier
name_at name nodes id = option_and_then (λ node. name node.form) (slice_get nodes.statements.items id.0)

abbrev pub name_of : Nodes → DeclarationId → Option Identifier
name_of nodes id = option_map (λ node. node.name) (slice_get nodes.declarations.items id.0)

abbrev pub name_of_literal : Nodes → LiteralOf → Option Identifier
name_of_literal nodes literal = option_and_then (name_in (literal_name literal.position) nodes) literal.owner

abbrev pub literal_at : Nodes → List LiteralOf → ℕ → Option Identifier
literal_at nodes literals index = option_and_then (name_of_literal nodes) (slice_get literals index)

-- the name that the text declares for what a name denotes
abbrev pub declared_name : Tree → List LiteralOf → Meaning → Option Identifier
declared_name tree _ (Declared id) = name_of tree.nodes id
declared_name tree literals (Literal id) = literal_at tree.nodes literals id.0
declared_name tree _ (Parameter subprogram position) = name_in (parameter_name position) tree.nodes subprogram
declared_name tree _ (Entry task position) = name_in (entry_name position) tree.nodes task
declared_name tree _ (AcceptParameter accept position) = name_at (accept_parameter_name position) tree.nodes accept
declared_name tree _ (LoopParameter id) = name_at loop_parameter_name tree.nodes id
declared_name tree _ (Named id) = name_at label tree.nodes id
declared_name tree _ Main = Some tree.name
declared_name _ _ (Predefined _) = None

abbrev pub has_loop_or_block : Nodes → StatementId → Bool
has_loop_or_block nodes id = option_map_or (λ node. is_loop_or_block node.form) (slice_get nodes.statements.items id.0) false

-- what a name denotes is there: predefined, among the literals, a loop or a block, or declared under a name
abbrev pub has_meaning : Tree → List LiteralOf → Meaning → Bool
has_meaning _ _ (Predefined _) = true
has_meaning _ literals (Literal id) = ltb id.0 (length literals)
has_meaning tree _ (Named id) = has_loop_or_block tree.nodes id
has_meaning tree literals meaning = is_some (declared_name tree literals meaning)

abbrev pub has_any_meaning : Tree → List LiteralOf → Option Meaning → Bool
has_any_meaning tree literals meaning = option_map_or (has_meaning tree literals) meaning true

-- a literal of a type that the text declares has its name there, and overloads one of so many
abbrev pub is_owned : Nodes → Option DeclarationId → ℕ → Bool
is_owned nodes owner position = option_map_or (λ id. is_some (name_in (literal_name position) nodes id)) owner true

abbrev pub is_among : Option LiteralId → ℕ → Bool
is_among id count = option_map_or (λ literal. ltb literal.0 count) id true

abbrev pub has_literal : Nodes → ℕ → LiteralOf → Bool
has_literal nodes count literal = is_owned nodes literal.owner literal.position && is_among literal.overloaded count

-- bodies that are named are there
abbrev pub has_home : Nodes → Home → Bool
has_home nodes home = ltb home.body.0 (length nodes.bodies.items)

abbrev pub has_any_body : Nodes → Option BodyId → Bool
has_any_body nodes body = option_map_or (λ id. ltb id.0 (length nodes.bodies.items)) body true

-- each node of the tree has its place, and whatever is named there is in the tree or among the literals
abbrev pub is_whole : Resolved → Tree → Bool
is_whole resolved tree =
    length resolved.expressions.items == length tree.nodes.expressions.items
    && length resolved.statements.items == length tree.nodes.statements.items
    && length resolved.homes.items == length tree.nodes.declarations.items
    && length resolved.bodies.items == length tree.nodes.declarations.items
    && list_all (has_any_meaning tree resolved.literals.items) resolved.expressions.items
    && list_all (has_any_meaning tree resolved.literals.items) resolved.statements.items
    && list_all (has_home tree.nodes) resolved.homes.items
    && list_all (has_any_body tree.nodes) resolved.bodies.items
    && list_all (has_literal tree.nodes (length resolved.literals.items)) resolved.literals.items
