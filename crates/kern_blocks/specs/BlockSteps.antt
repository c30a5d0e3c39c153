-- For the proofs alone: the steps of the code that reads blocks,
-- which are parts of the plans, and what its values stand for.
use Rattle.std.specs.Prelude.{ℕ, [], ◌∷◌, Option, Some, codes}
use Rattle.kern_syntax.specs.declared.statement.Elif.{Elif}
use Rattle.kern_syntax.specs.declared.statement.Handler.{Handler}
use Rattle.kern_lexer.specs.Bytes.{Bytes}
use Rattle.kern_syntax.specs.Tree.{Expression, if_then, while_do, try_do, line_then}
use Rattle.kern_syntax.specs.Tree as Tree
use Rattle.kern_syntax.specs.TreeOf.{block_of, elif_of, expression_of, handler_of}
use Rattle.kern_grammar.specs.BlockPlans.{line_phrase, line_stop, is_line, block_of_lines, a_block, ElifLine}
use Rattle.kern_grammar.specs.BlockPlans.{branches_plan, ExceptLine, handlers_plan, with_plan, range_plan, line_plan}
use Rattle.kern_statements.specs.declared.headers.WithItem.{WithItem}
use Rattle.kern_statements.specs.declared.headers.WithItem.TheVariants as W
use Rattle.kern_blocks.specs.declared.parts.Conditional.{Conditional}
use Rattle.kern_grammar.specs.Plans.{Plan, done, token, part, run, many, EachOf, EachEnds}
use Rattle.kern_grammar.specs.SimplePlans.{an_expression, Line}
use Rattle.kern_grammar.specs.Views.{dedented, indented, in_key, a_name, the_name}
use Rattle.kern_grammar.specs.Views.{open_parenthesis, comma_or_close, a_with_item}

-- one line as a block
abbrev pub as_block : ℕ → Tree.Statement → Tree.Block
as_block line s = line_then line s Tree.done

-- what stands in a block behind its first Newline
abbrev pub indented_plan : (room : ℕ) → Plan Tree.Block
indented_plan room =
    token indented (λ seen. part (line_phrase room) line_stop (run (line_plan room)) (λ first.
    part (EachOf (line_phrase room)) (EachEnds line_stop is_line) (many is_line (run (line_plan room))) (λ more. token dedented (λ seen. done (block_of_lines (first ∷ more))))))

-- a colon and a block
abbrev pub colon_block : (room : ℕ) → Plan Tree.Block
colon_block room = a_block room (run (line_plan room)) (λ b. done b)

-- a condition and the block that it decides on
abbrev pub ConditionalTree : Type 0
ConditionalTree = Expression × Tree.Block

abbrev pub conditional_of : Conditional → ConditionalTree
conditional_of c = (expression_of c.condition, block_of c.body)

abbrev pub conditional : (room : ℕ) → Plan ConditionalTree
conditional room = an_expression 16 (λ c. a_block room (run (line_plan room)) (λ b. done (c, b)))

-- statements behind their keyword
abbrev pub if_plan : (room line : ℕ) → Plan Line
if_plan room line = an_expression 16 (λ c. a_block room (run (line_plan room)) (λ b. branches_plan room (run (line_plan room)) (λ more. (line, if_then c b more))))

abbrev pub while_plan : (room line : ℕ) → Plan Line
while_plan room line = an_expression 16 (λ c. a_block room (run (line_plan room)) (λ b. done (line, while_do c b)))

abbrev pub for_plan : (room line : ℕ) → Plan Line
for_plan room line =
    token a_name (λ x. token in_key (λ seen. token (the_name (codes "range")) (λ seen. token open_parenthesis (λ seen.
    an_expression 15 (λ first. token comma_or_close (range_plan (λ from to. a_block room (run (line_plan room)) (λ b. done (line, Tree.for_range x from to b))) first))))))

abbrev pub with_block_plan : (room line : ℕ) → Plan Line
with_block_plan room line = token a_with_item (with_plan room (run (line_plan room)) line)

abbrev pub try_plan : (room line : ℕ) → Plan Line
try_plan room line = a_block room (run (line_plan room)) (λ b. handlers_plan room (run (line_plan room)) (λ handlers. (line, try_do b handlers)))

-- a branch as the plans give it: that of the branches which it is the only one of
abbrev pub first_elif : Tree.Otherwise → ElifLine
first_elif (Tree.elif_then line c b more) = (line, c, b)
first_elif o = (0, Tree.true_literal, Tree.done)

abbrev pub elif_line : Elif → ElifLine
elif_line branch = first_elif (elif_of branch Tree.no_else)

abbrev pub first_except : Tree.Handlers → ExceptLine
first_except (Tree.except_then line x b more) = (line, x, b)
first_except Tree.no_handler = (0, [], Tree.done)

abbrev pub except_line : Handler → ExceptLine
except_line branch = first_except (handler_of branch Tree.no_handler)

-- what a `with` does with its block
abbrev pub with_statement : WithItem → Tree.Block → Tree.Statement
with_statement W.Parallel b = Tree.parallel b
with_statement W.Sequential b = Tree.sequential b
with_statement (W.Record text) b = Tree.record_as text b

-- branches behind their keywords
abbrev pub elif_parts : (room line : ℕ) → Plan ElifLine
elif_parts room line = an_expression 16 (λ c. a_block room (run (line_plan room)) (λ b. done (line, c, b)))

abbrev pub else_block : (room : ℕ) → Plan (Option Tree.Block)
else_block room = a_block room (run (line_plan room)) (λ b. done (Some b))

abbrev pub except_parts : (room line : ℕ) → Plan ExceptLine
except_parts room line = token a_name (λ x. a_block room (run (line_plan room)) (λ b. done (line, x, b)))

-- what follows the bounds of a `for`, and the item of a `with`
abbrev pub for_rest : (room line : ℕ) → Bytes → Option Expression → Expression → Plan Line
for_rest room line x from to = a_block room (run (line_plan room)) (λ b. done (line, Tree.for_range x from to b))

abbrev pub with_rest : (room line : ℕ) → WithItem → Plan Line
with_rest room line item = a_block room (run (line_plan room)) (λ b. done (line, with_statement item b))
