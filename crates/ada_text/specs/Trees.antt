-- Trees of texts: what the nodes name is there.
use Rattle.std.specs.Prelude.{ℕ, ◌+◌, ◌&&◌, ◌==◌, Bool, true, if◌then◌else◌, leb, ltb, Option, Some, None, List, Vec, fold, length}
use Rattle.std.specs.declared.alloc.Global.{Global}
use Rattle.std.specs.Option.{option_map_or}
use Rattle.std.specs.List.{list_all}
use Rattle.ada_text.specs.declared.tree.Nodes.{Nodes}
use Rattle.ada_text.specs.declared.tree.Tree.{Tree}
use Rattle.ada_text.specs.declared.tree.reach.Reach.{Reach}
use Rattle.ada_text.specs.declared.tree.expression.Association.{Association}
use Rattle.ada_text.specs.declared.tree.expression.Expression.{Expression}
use Rattle.ada_text.specs.declared.tree.expression.ExpressionForm.{ExpressionForm}
use Rattle.ada_text.specs.declared.tree.expression.ExpressionForm.TheVariants.{Text, Name, Selected, Applied, Attribute, Qualified}
use Rattle.ada_text.specs.declared.tree.expression.ExpressionForm.TheVariants.{Aggregate, Range, Constrained, Unary, Binary}
use Rattle.ada_text.specs.declared.tree.expression.ExpressionId.{ExpressionId}
use Rattle.ada_text.specs.declared.tree.expression.Identifier.{Identifier}
use Rattle.ada_text.specs.declared.tree.declaration.Declaration.{Declaration}
use Rattle.ada_text.specs.declared.tree.declaration.DeclarationForm.{DeclarationForm}
use Rattle.ada_text.specs.declared.tree.declaration.DeclarationForm.TheVariants.{Object, «Type» as TypeOf, Subtype, Subprogram, Task, TaskBody}
use Rattle.ada_text.specs.declared.tree.declaration.DeclarationId.{DeclarationId}
use Rattle.ada_text.specs.declared.tree.declaration.Parameter.{Parameter}
use Rattle.ada_text.specs.declared.tree.declaration.TypeDefinition.{TypeDefinition}
use Rattle.ada_text.specs.declared.tree.declaration.TypeDefinition.TheVariants.{Named, Enumeration, Integer as IntegerType, Array}
use Rattle.ada_text.specs.declared.tree.statement.Alternative.{Alternative}
use Rattle.ada_text.specs.declared.tree.statement.Arm.{Arm}
use Rattle.ada_text.specs.declared.tree.statement.Body.{Body}
use Rattle.ada_text.specs.declared.tree.statement.BodyId.{BodyId}
use Rattle.ada_text.specs.declared.tree.statement.Iteration.{Iteration}
use Rattle.ada_text.specs.declared.tree.statement.Iteration.TheVariants.{While, For}
use Rattle.ada_text.specs.declared.tree.statement.Statement.{Statement}
use Rattle.ada_text.specs.declared.tree.statement.StatementForm.{StatementForm}
use Rattle.ada_text.specs.declared.tree.statement.StatementForm.TheVariants.{Assignment, Call, If, Case, Loop, Block, Exit}
use Rattle.ada_text.specs.declared.tree.statement.StatementForm.TheVariants.{Return, Accept as Accepts, Delay, Select as Selects, Abort, Raise}
use Rattle.ada_text.specs.declared.tree.statement.StatementId.{StatementId}
use Rattle.ada_text.specs.declared.tree.task.Accept.{Accept}
use Rattle.ada_text.specs.declared.tree.task.Entry.{Entry}
use Rattle.ada_text.specs.declared.tree.task.Select.{Select}
use Rattle.ada_text.specs.declared.tree.task.SelectAlternative.{SelectAlternative}

-- there are such nodes, and the identifier has a byte at least and lies within the text
abbrev pub has_expression : Reach → ExpressionId → Bool
has_expression reach id = ltb id.0 reach.expressions

abbrev pub has_statement : Reach → StatementId → Bool
has_statement reach id = ltb id.0 reach.statements

abbrev pub has_declaration : Reach → DeclarationId → Bool
has_declaration reach id = ltb id.0 reach.declarations

abbrev pub has_body : Reach → BodyId → Bool
has_body reach id = ltb id.0 reach.bodies

abbrev pub has_identifier : Reach → Identifier → Bool
has_identifier reach name = ltb name.at name.end && leb name.end reach.bytes

-- of several, and of what may be missing
abbrev pub has_expressions : Reach → List ExpressionId → Bool
has_expressions reach ids = list_all (has_expression reach) ids

abbrev pub has_statements : Reach → List StatementId → Bool
has_statements reach ids = list_all (has_statement reach) ids

abbrev pub has_any_expression : Reach → Option ExpressionId → Bool
has_any_expression reach id = option_map_or (has_expression reach) id true

abbrev pub has_any_identifier : Reach → Option Identifier → Bool
has_any_identifier reach name = option_map_or (has_identifier reach) name true

-- what an expression names is there
abbrev pub has_association : Reach → Association → Bool
has_association reach part = has_expressions reach part.choices.items && has_expression reach part.value

abbrev pub has_parts : Reach → ExpressionForm → Bool
has_parts reach (Text literal) = has_identifier reach literal
has_parts reach (Name name) = has_identifier reach name
has_parts reach (Selected prefix selector) = has_expression reach prefix && has_identifier reach selector
has_parts reach (Applied prefix arguments) = has_expression reach prefix && list_all (has_association reach) arguments.items
has_parts reach (Attribute prefix _) = has_expression reach prefix
has_parts reach (Qualified mark operand) = has_expression reach mark && has_expression reach operand
has_parts reach (Aggregate components) = list_all (has_association reach) components.items
has_parts reach (Range low high) = has_expression reach low && has_expression reach high
has_parts reach (Constrained mark range) = has_expression reach mark && has_expression reach range
has_parts reach (Unary _ operand) = has_expression reach operand
has_parts reach (Binary _ left right) = has_expression reach left && has_expression reach right
has_parts _ _ = true

abbrev pub is_expression_whole : Reach → Expression → Bool
is_expression_whole reach node = leb node.at reach.bytes && has_parts reach node.form

-- how many expressions, one after another, name only such as were counted before them
abbrev pub counted : Reach → ℕ → Expression → ℕ
counted reach count node = if is_expression_whole (record reach { expressions = count }) node then count + 1 else count

-- each expression names only earlier ones
abbrev pub are_in_order : Reach → List Expression → Bool
are_in_order reach nodes = fold (counted reach) 0 nodes == length nodes

-- what a declaration names is there
abbrev pub has_parameter : Reach → Parameter → Bool
has_parameter reach parameter = has_identifier reach parameter.name && has_expression reach parameter.subtype

abbrev pub has_parameters : Reach → List Parameter → Bool
has_parameters reach parameters = list_all (has_parameter reach) parameters

abbrev pub has_entry : Reach → Entry → Bool
has_entry reach entry =
    has_identifier reach entry.name && has_any_expression reach entry.range && has_parameters reach entry.parameters.items

abbrev pub has_definition : Reach → TypeDefinition → Bool
has_definition reach (Named mark) = has_expression reach mark
has_definition reach (Enumeration literals) = list_all (has_identifier reach) literals.items
has_definition reach (IntegerType range) = has_expression reach range
has_definition reach (Array index component) = has_expression reach index && has_expression reach component

abbrev pub declares : Reach → DeclarationForm → Bool
declares reach (Object _ definition value) = has_definition reach definition && has_any_expression reach value
declares reach (TypeOf definition) = has_definition reach definition
declares reach (Subtype mark) = has_expression reach mark
declares reach (Subprogram parameters outcome body) =
    has_parameters reach parameters.items && has_any_expression reach outcome && option_map_or (has_body reach) body true
declares reach (Task _ entries) = list_all (has_entry reach) entries.items
declares reach (TaskBody body) = has_body reach body
declares _ _ = true

abbrev pub is_declaration_whole : Reach → Declaration → Bool
is_declaration_whole reach node = has_identifier reach node.name && declares reach node.form

-- what a statement names is there
abbrev pub has_alternative : Reach → Alternative → Bool
has_alternative reach part = has_expressions reach part.choices.items && has_statements reach part.statements.items

abbrev pub has_arm : Reach → Arm → Bool
has_arm reach arm = has_expression reach arm.condition && has_statements reach arm.statements.items

abbrev pub has_iteration : Reach → Iteration → Bool
has_iteration reach (While condition) = has_expression reach condition
has_iteration reach (For parameter range _) = has_identifier reach parameter && has_expression reach range
has_iteration _ _ = true

abbrev pub has_accept : Reach → Accept → Bool
has_accept reach accept =
    has_identifier reach accept.entry && has_any_expression reach accept.index && has_parameters reach accept.parameters.items
    && has_statements reach accept.statements.items

abbrev pub has_select_alternative : Reach → SelectAlternative → Bool
has_select_alternative reach part =
    has_any_expression reach part.guard && has_statement reach part.event && has_statements reach part.statements.items

abbrev pub has_otherwise : Reach → Option (Vec StatementId Global) → Bool
has_otherwise reach (Some statements) = has_statements reach statements.items
has_otherwise reach None = true

abbrev pub has_select : Reach → Select → Bool
has_select reach select =
    list_all (has_select_alternative reach) select.alternatives.items && has_otherwise reach select.otherwise

abbrev pub does : Reach → StatementForm → Bool
does reach (Assignment target value) = has_expression reach target && has_expression reach value
does reach (Call call) = has_expression reach call
does reach (If arms otherwise) = list_all (has_arm reach) arms.items && has_statements reach otherwise.items
does reach (Case selector alternatives) =
    has_expression reach selector && list_all (has_alternative reach) alternatives.items
does reach (Loop name iteration statements) =
    has_any_identifier reach name && has_iteration reach iteration && has_statements reach statements.items
does reach (Block name body) = has_any_identifier reach name && has_body reach body
does reach (Exit name condition) = has_any_identifier reach name && has_any_expression reach condition
does reach (Return value) = has_any_expression reach value
does reach (Accepts accept) = has_accept reach accept
does reach (Delay span) = has_expression reach span
does reach (Selects select) = has_select reach select
does reach (Abort tasks) = has_expressions reach tasks.items
does reach (Raise name) = has_any_expression reach name
does _ _ = true

abbrev pub is_statement_whole : Reach → Statement → Bool
is_statement_whole reach node = leb node.at reach.bytes && does reach node.form

abbrev pub is_body_whole : Reach → Body → Bool
is_body_whole reach body =
    list_all (has_declaration reach) body.declarations.items && has_statements reach body.statements.items
    && list_all (has_alternative reach) body.handlers.items

-- the nodes of a tree of a text of so many bytes
abbrev pub reach_of : Nodes → ℕ → Reach
reach_of nodes bytes = record {
  expressions = length nodes.expressions.items;
  statements = length nodes.statements.items;
  declarations = length nodes.declarations.items;
  bodies = length nodes.bodies.items;
  bytes = bytes;
}

-- whatever a node of the tree names is there, and stands in the text; an expression names only earlier ones
abbrev pub is_tree_whole : Tree → ℕ → Bool
is_tree_whole tree bytes =
    let reach = reach_of tree.nodes bytes in
    has_identifier reach tree.name && has_body reach tree.body
    && are_in_order reach tree.nodes.expressions.items
    && list_all (is_declaration_whole reach) tree.nodes.declarations.items
    && list_all (is_statement_whole reach) tree.nodes.statements.items
    && list_all (is_body_whole reach) tree.nodes.bodies.items
    && list_all (has_identifier reach) tree.nodes.pragmas.items
