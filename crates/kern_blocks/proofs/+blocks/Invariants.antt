use Rattle.std.proofs.Common.{◌+◌, ◌*◌, length, map}
use Rattle.kern_grammar.specs.BlockPlans.{elif_plan, except_plan, is_elif, is_except, is_line, line_plan}
use Rattle.kern_blocks.specs.BlockSteps.{elif_line, except_line}
use Rattle.kern_grammar.specs.Plans.{many, run}
use Rattle.kern_expressions.specs.TakenBy.{lexemes_left}
use Rattle.kern_statements.specs.LineSteps.{line_of_statement}
use Rattle.kern_statements.specs.Several.{several}
use Rattle.kern_statements.proofs.ManyLists.{SeveralSoFar, SoFar}
use Rattle.kern_blocks.proofs.+blocks.Given as goal

abbrev pub decreases-block::statement_at : goal.decreases-block::statement_at
decreases-block::statement_at l = 16 * l.room

abbrev pub decreases-block::other_behind : goal.decreases-block::other_behind
decreases-block::other_behind l = 16 * l.room + 1

abbrev pub decreases-block::statement_behind : goal.decreases-block::statement_behind
decreases-block::statement_behind l = 16 * l.room + 2

abbrev pub decreases-block::statements_at : goal.decreases-block::statements_at
decreases-block::statements_at l = 16 * l.room + 3

abbrev pub decreases-block::indented_at : goal.decreases-block::indented_at
decreases-block::indented_at l = 16 * l.room + 4

abbrev pub decreases-block::block_at : goal.decreases-block::block_at
decreases-block::block_at l = 16 * l.room + 5

abbrev pub decreases-block::colon_block_at : goal.decreases-block::colon_block_at
decreases-block::colon_block_at l = 16 * l.room + 6

abbrev pub decreases-block::conditional_at : goal.decreases-block::conditional_at
decreases-block::conditional_at l = 16 * l.room + 7

abbrev pub decreases-branches::else_block_at : goal.decreases-branches::else_block_at
decreases-branches::else_block_at l = 16 * l.room + 7

abbrev pub decreases-branches::elif_parts_at : goal.decreases-branches::elif_parts_at
decreases-branches::elif_parts_at l = 16 * l.room + 8

abbrev pub decreases-branches::handler_parts_at : goal.decreases-branches::handler_parts_at
decreases-branches::handler_parts_at l = 16 * l.room + 7

abbrev pub decreases-branches::else_at : goal.decreases-branches::else_at
decreases-branches::else_at l = 16 * l.room + 8

abbrev pub decreases-branches::elif_at : goal.decreases-branches::elif_at
decreases-branches::elif_at l = 16 * l.room + 9

abbrev pub decreases-branches::handler_at : goal.decreases-branches::handler_at
decreases-branches::handler_at l = 16 * l.room + 8

abbrev pub decreases-branches::elifs_at : goal.decreases-branches::elifs_at
decreases-branches::elifs_at l = 16 * l.room + 10

abbrev pub decreases-branches::handlers_at : goal.decreases-branches::handlers_at
decreases-branches::handlers_at l = 16 * l.room + 9

abbrev pub decreases-branches::if_at : goal.decreases-branches::if_at
decreases-branches::if_at l = 16 * l.room + 11

abbrev pub decreases-block::while_at : goal.decreases-block::while_at
decreases-block::while_at l = 16 * l.room + 8

abbrev pub decreases-block::for_at : goal.decreases-block::for_at
decreases-block::for_at l = 16 * l.room + 7

abbrev pub decreases-block::with_body_at : goal.decreases-block::with_body_at
decreases-block::with_body_at l = 16 * l.room + 7

abbrev pub decreases-block::with_at : goal.decreases-block::with_at
decreases-block::with_at l = 16 * l.room + 8

abbrev pub decreases-branches::try_at : goal.decreases-branches::try_at
decreases-branches::try_at l = 16 * l.room + 10

abbrev pub decreases-block::any_statement_at : goal.decreases-block::any_statement_at
decreases-block::any_statement_at l = 16 * l.room + 12

abbrev pub invariant-block::statements_at-lines : goal.invariant-block::statements_at-lines
invariant-block::statements_at-lines l =
    SeveralSoFar (λ v. map line_of_statement v.items) l.statements is_line (run (line_plan l.room)) (lexemes_left l.rest) (several is_line (run (line_plan l.room)) (lexemes_left l.tokens))

abbrev pub decreases-block::statements_at-lines : goal.decreases-block::statements_at-lines
decreases-block::statements_at-lines l = length (lexemes_left l.rest)

abbrev pub invariant-branches::elifs_at-branches : goal.invariant-branches::elifs_at-branches
invariant-branches::elifs_at-branches l =
    SoFar (λ v. map elif_line v.items) l.branches is_elif (run (elif_plan l.room (run (line_plan l.room)))) (lexemes_left l.rest) (many is_elif (run (elif_plan l.room (run (line_plan l.room)))) (lexemes_left l.tokens))

abbrev pub decreases-branches::elifs_at-branches : goal.decreases-branches::elifs_at-branches
decreases-branches::elifs_at-branches l = length (lexemes_left l.rest)

abbrev pub invariant-branches::handlers_at-handlers : goal.invariant-branches::handlers_at-handlers
invariant-branches::handlers_at-handlers l =
    SeveralSoFar (λ v. map except_line v.items) l.handlers is_except (run (except_plan l.room (run (line_plan l.room)))) (lexemes_left l.rest) (several is_except (run (except_plan l.room (run (line_plan l.room)))) (lexemes_left l.tokens))

abbrev pub decreases-branches::handlers_at-handlers : goal.decreases-branches::handlers_at-handlers
decreases-branches::handlers_at-handlers l = length (lexemes_left l.rest)
