use Rattle.std.proofs.Common.{◌≡◌, ◌≤◌, ◌+◌, ◌*◌, ◌++◌, drop, map, option_map}
use Rattle.std.specs.Int.{int_gap}
use Rattle.kern_syntax.specs.Tree.{no_else, no_more}
use Rattle.kern_syntax.specs.TreeOf.{argument_of, arguments_of, assign_to, augment_of, block_of, branches_of, elif_of, else_of, expression_of, handlers_of, lines_of, statement_of}
use Rattle.kern_names.specs.ScopeOf.{program_of}
use Rattle.meaning_frames.specs.Frames.{scope_in}
use Rattle.meaning_steps.specs.Runnable.{AreRunnable}
use Rattle.meaning_steps.specs.RunnableStatements.{EachRunnable, IsRunnableBlock, IsRunnableOtherwise}
use Rattle.slack_meaning.specs.Actions.{give, ◌>>=◌}
use Rattle.slack_meaning.specs.Expressions.{arguments, expression}
use Rattle.slack_meaning.specs.Statements.{block, for_turns, otherwise, parallel_block, values, while_loop, while_turns}
use Rattle.meaning_frames.proofs.Sizes.{arguments_size, block_size, expression_size, expressions_size, handlers_size, otherwise_size, optional_size, program_size, statement_size}
use Rattle.slack_runs.specs.Frames.{calls_in}
use Rattle.slack_runs.proofs.+runs.Given as goal

abbrev pub decreases-expressions::evaluate : goal.decreases-expressions::evaluate
decreases-expressions::evaluate l = l.frame.now.room * program_size (program_of l.frame.now.scope.functions) + (expression_size (expression_of l.e.now) + 1)

abbrev pub decreases-expressions::evaluate_parts : goal.decreases-expressions::evaluate_parts
decreases-expressions::evaluate_parts l = l.frame.now.room * program_size (program_of l.frame.now.scope.functions) + expression_size (expression_of l.e.now)

abbrev pub decreases-expressions::evaluate_all : goal.decreases-expressions::evaluate_all
decreases-expressions::evaluate_all l = l.frame.now.room * program_size (program_of l.frame.now.scope.functions) + (arguments_size (arguments_of l.given.now) + 2)

abbrev pub decreases-expressions::evaluate_argument : goal.decreases-expressions::evaluate_argument
decreases-expressions::evaluate_argument l = l.frame.now.room * program_size (program_of l.frame.now.scope.functions) + (arguments_size (argument_of l.argument.now no_more) + 1)

abbrev pub decreases-functions::perform_call : goal.decreases-functions::perform_call
decreases-functions::perform_call l = l.frame.now.room * program_size (program_of l.frame.now.scope.functions) + 1

abbrev pub decreases-functions::run_named : goal.decreases-functions::run_named
decreases-functions::run_named l = l.frame.now.room * program_size (program_of l.frame.now.scope.functions)

abbrev pub decreases-functions::run_function : goal.decreases-functions::run_function
decreases-functions::run_function l = l.room * program_size (program_of l.functions.now) + (block_size (block_of l.function.now.body) + 2)

abbrev pub decreases-blocks::run_block : goal.decreases-blocks::run_block
decreases-blocks::run_block l = l.frame.now.room * program_size (program_of l.frame.now.scope.functions) + (block_size (block_of l.body.now) + 1)

abbrev pub decreases-blocks::run_lines : goal.decreases-blocks::run_lines
decreases-blocks::run_lines l = l.frame.now.room * program_size (program_of l.frame.now.scope.functions) + block_size (lines_of l.statements.now)

abbrev pub decreases-blocks::run_statement : goal.decreases-blocks::run_statement
decreases-blocks::run_statement l = l.frame.now.room * program_size (program_of l.frame.now.scope.functions) + (statement_size (statement_of l.form.now) + 5)

abbrev pub decreases-blocks::run_parts : goal.decreases-blocks::run_parts
decreases-blocks::run_parts l = l.frame.now.room * program_size (program_of l.frame.now.scope.functions) + (statement_size (statement_of l.form.now) + 4)

abbrev pub decreases-branches::run_if : goal.decreases-branches::run_if
decreases-branches::run_if l = l.frame.now.room * program_size (program_of l.frame.now.scope.functions) + (expression_size (expression_of l.condition.now) + (block_size (block_of l.body.now) + (otherwise_size (branches_of l.branches.now l.last.now) + 5)))

abbrev pub decreases-branches::decide : goal.decreases-branches::decide
decreases-branches::decide l = l.frame.now.room * program_size (program_of l.frame.now.scope.functions) + (expression_size (expression_of l.condition.now) + (block_size (block_of l.body.now) + (otherwise_size (branches_of l.branches.now l.last.now) + 4)))

abbrev pub decreases-branches::run_either : goal.decreases-branches::run_either
decreases-branches::run_either l = l.frame.now.room * program_size (program_of l.frame.now.scope.functions) + (block_size (block_of l.body.now) + (otherwise_size (branches_of l.branches.now l.last.now) + 3))

abbrev pub decreases-branches::run_branches : goal.decreases-branches::run_branches
decreases-branches::run_branches l = l.frame.now.room * program_size (program_of l.frame.now.scope.functions) + (otherwise_size (branches_of l.branches.now l.last.now) + 2)

abbrev pub decreases-branches::run_branch : goal.decreases-branches::run_branch
decreases-branches::run_branch l = l.frame.now.room * program_size (program_of l.frame.now.scope.functions) + (otherwise_size (elif_of l.branch.now no_else) + 1)

abbrev pub decreases-branches::run_else : goal.decreases-branches::run_else
decreases-branches::run_else l = l.frame.now.room * program_size (program_of l.frame.now.scope.functions) + (otherwise_size (else_of (option_map block_of l.last.now)) + 1)

abbrev pub decreases-simple::evaluate_alone : goal.decreases-simple::evaluate_alone
decreases-simple::evaluate_alone l = l.frame.now.room * program_size (program_of l.frame.now.scope.functions) + (expression_size (expression_of l.e.now) + 2)

abbrev pub decreases-simple::give_back : goal.decreases-simple::give_back
decreases-simple::give_back l = l.frame.now.room * program_size (program_of l.frame.now.scope.functions) + (optional_size (option_map expression_of l.value.now) + 2)

abbrev pub decreases-simple::assign : goal.decreases-simple::assign
decreases-simple::assign l = l.frame.now.room * program_size (program_of l.frame.now.scope.functions) + (statement_size (assign_to l.target.now (expression_of l.e.now)) + 1)

abbrev pub decreases-simple::augment : goal.decreases-simple::augment
decreases-simple::augment l = l.frame.now.room * program_size (program_of l.frame.now.scope.functions) + (statement_size (augment_of l.target.now l.operator (expression_of l.e.now)) + 2)

abbrev pub decreases-simple::augment_name : goal.decreases-simple::augment_name
decreases-simple::augment_name l = l.frame.now.room * program_size (program_of l.frame.now.scope.functions) + (expression_size (expression_of l.e.now) + 2)

abbrev pub decreases-simple::augment_element : goal.decreases-simple::augment_element
decreases-simple::augment_element l = l.frame.now.room * program_size (program_of l.frame.now.scope.functions) + (expression_size (expression_of l.index.now) + (expression_size (expression_of l.e.now) + 2))

abbrev pub decreases-simple::assign_repeated : goal.decreases-simple::assign_repeated
decreases-simple::assign_repeated l = l.frame.now.room * program_size (program_of l.frame.now.scope.functions) + (expression_size (expression_of l.e.now) + 2)

abbrev pub decreases-simple::assign_list : goal.decreases-simple::assign_list
decreases-simple::assign_list l = l.frame.now.room * program_size (program_of l.frame.now.scope.functions) + (expressions_size (map expression_of l.elements.now) + 2)

abbrev pub decreases-simple::evaluate_each : goal.decreases-simple::evaluate_each
decreases-simple::evaluate_each l = l.frame.now.room * program_size (program_of l.frame.now.scope.functions) + (expressions_size (map expression_of l.elements.now) + 1)

abbrev pub decreases-loops::run_while : goal.decreases-loops::run_while
decreases-loops::run_while l = l.frame.now.room * program_size (program_of l.frame.now.scope.functions) + (expression_size (expression_of l.condition.now) + (block_size (block_of l.body.now) + 3))

abbrev pub decreases-loops::run_turn : goal.decreases-loops::run_turn
decreases-loops::run_turn l = l.frame.now.room * program_size (program_of l.frame.now.scope.functions) + (block_size (block_of l.body.now) + 2)

abbrev pub decreases-loops::run_for_to : goal.decreases-loops::run_for_to
decreases-loops::run_for_to l = l.frame.now.room * program_size (program_of l.frame.now.scope.functions) + (expression_size (expression_of l.to.now) + (block_size (block_of l.body.now) + 5))

abbrev pub decreases-loops::run_for_from_to : goal.decreases-loops::run_for_from_to
decreases-loops::run_for_from_to l = l.frame.now.room * program_size (program_of l.frame.now.scope.functions) + (expression_size (expression_of l.from.now) + (expression_size (expression_of l.to.now) + (block_size (block_of l.body.now) + 5)))

abbrev pub decreases-loops::run_for : goal.decreases-loops::run_for
decreases-loops::run_for l = l.frame.now.room * program_size (program_of l.frame.now.scope.functions) + (block_size (block_of l.body.now) + 4)

abbrev pub decreases-loops::run_turns : goal.decreases-loops::run_turns
decreases-loops::run_turns l = l.frame.now.room * program_size (program_of l.frame.now.scope.functions) + (block_size (block_of l.body.now) + 3)

abbrev pub decreases-loops::run_for_turn : goal.decreases-loops::run_for_turn
decreases-loops::run_for_turn l = l.frame.now.room * program_size (program_of l.frame.now.scope.functions) + (block_size (block_of l.body.now) + 2)

abbrev pub decreases-timed::run_parallel : goal.decreases-timed::run_parallel
decreases-timed::run_parallel l = l.frame.now.room * program_size (program_of l.frame.now.scope.functions) + (block_size (block_of l.body.now) + 1)

abbrev pub decreases-timed::run_recorded : goal.decreases-timed::run_recorded
decreases-timed::run_recorded l = l.frame.now.room * program_size (program_of l.frame.now.scope.functions) + (block_size (block_of l.body.now) + 2)

abbrev pub decreases-timed::run_try : goal.decreases-timed::run_try
decreases-timed::run_try l = l.frame.now.room * program_size (program_of l.frame.now.scope.functions) + (block_size (block_of l.body.now) + (handlers_size (handlers_of l.handlers.now) + 2))

abbrev pub decreases-timed::handle : goal.decreases-timed::handle
decreases-timed::handle l = l.frame.now.room * program_size (program_of l.frame.now.scope.functions) + (handlers_size (handlers_of l.handlers.now) + 1)

abbrev pub invariant-expressions::evaluate_all-loop-argument : goal.invariant-expressions::evaluate_all-loop-argument
invariant-expressions::evaluate_all-loop-argument l =
    record {
      left : arguments (scope_in l.fn.frame) (calls_in l.fn.frame) (arguments_of l.fn.given) l.initial.state ≡ (arguments (scope_in l.fn.frame) (calls_in l.fn.frame) (arguments_of (drop l.argument-index l.fn.given)) >>= (λ others. give (l.spans.items ++ others))) l.state;
      runnable : AreRunnable (arguments_of (drop l.argument-index l.fn.given));
      small : arguments_size (arguments_of (drop l.argument-index l.fn.given)) ≤ arguments_size (arguments_of l.fn.given);
    }

abbrev pub invariant-simple::evaluate_each-loop-element : goal.invariant-simple::evaluate_each-loop-element
invariant-simple::evaluate_each-loop-element l =
    record {
      left : values (scope_in l.fn.frame) (calls_in l.fn.frame) (map expression_of l.fn.elements) l.initial.state ≡ (values (scope_in l.fn.frame) (calls_in l.fn.frame) (map expression_of (drop l.element-index l.fn.elements)) >>= (λ others. give (l.spans.items ++ others))) l.state;
      runnable : EachRunnable (map expression_of (drop l.element-index l.fn.elements));
      small : expressions_size (map expression_of (drop l.element-index l.fn.elements)) ≤ expressions_size (map expression_of l.fn.elements);
    }

abbrev pub invariant-blocks::run_lines-loop-statement : goal.invariant-blocks::run_lines-loop-statement
invariant-blocks::run_lines-loop-statement l =
    record {
      left : block (scope_in l.fn.frame) (calls_in l.fn.frame) (lines_of l.fn.statements) l.initial.state ≡ block (scope_in l.fn.frame) (calls_in l.fn.frame) (lines_of (drop l.statement-index l.fn.statements)) l.state;
      runnable : IsRunnableBlock (lines_of (drop l.statement-index l.fn.statements));
      small : block_size (lines_of (drop l.statement-index l.fn.statements)) ≤ block_size (lines_of l.fn.statements);
    }

abbrev pub invariant-branches::run_branches-loop-branch : goal.invariant-branches::run_branches-loop-branch
invariant-branches::run_branches-loop-branch l =
    record {
      left : otherwise (scope_in l.fn.frame) (calls_in l.fn.frame) (branches_of l.fn.branches l.fn.last) l.initial.state ≡ otherwise (scope_in l.fn.frame) (calls_in l.fn.frame) (branches_of (drop l.branch-index l.fn.branches) l.fn.last) l.state;
      runnable : IsRunnableOtherwise (branches_of (drop l.branch-index l.fn.branches) l.fn.last);
      small : otherwise_size (branches_of (drop l.branch-index l.fn.branches) l.fn.last) ≤ otherwise_size (branches_of l.fn.branches l.fn.last);
    }

abbrev pub invariant-timed::run_parallel-loop-statement : goal.invariant-timed::run_parallel-loop-statement
invariant-timed::run_parallel-loop-statement l =
    record {
      left : parallel_block (scope_in l.fn.frame) (calls_in l.fn.frame) (block_of l.fn.body) l.start l.start l.initial.state ≡ parallel_block (scope_in l.fn.frame) (calls_in l.fn.frame) (lines_of (drop l.statement-index l.statement-items)) l.start l.latest l.state;
      runnable : IsRunnableBlock (lines_of (drop l.statement-index l.statement-items));
      small : block_size (lines_of (drop l.statement-index l.statement-items)) ≤ block_size (block_of l.fn.body);
    }

abbrev pub invariant-loops::run_while-loop-holds : goal.invariant-loops::run_while-loop-holds
invariant-loops::run_while-loop-holds l =
    while_loop (expression (scope_in l.fn.frame) (calls_in l.fn.frame) (expression_of l.fn.condition)) (block (scope_in l.fn.frame) (calls_in l.fn.frame) (block_of l.fn.body)) l.initial.state ≡ while_turns l.left (expression (scope_in l.fn.frame) (calls_in l.fn.frame) (expression_of l.fn.condition)) (block (scope_in l.fn.frame) (calls_in l.fn.frame) (block_of l.fn.body)) l.state

abbrev pub invariant-loops::run_turns-loop-at : goal.invariant-loops::run_turns-loop-at
invariant-loops::run_turns-loop-at l =
    for_turns (int_gap l.fn.from l.fn.to) l.fn.x l.fn.from (block (scope_in l.fn.frame) (calls_in l.fn.frame) (block_of l.fn.body)) l.initial.state ≡ for_turns (int_gap l.at l.fn.to) l.fn.x l.at (block (scope_in l.fn.frame) (calls_in l.fn.frame) (block_of l.fn.body)) l.state

abbrev pub decreases-loops::run_while-loop-holds : goal.decreases-loops::run_while-loop-holds
decreases-loops::run_while-loop-holds l = l.left

abbrev pub decreases-loops::run_turns-loop-at : goal.decreases-loops::run_turns-loop-at
decreases-loops::run_turns-loop-at l = int_gap l.at l.fn.to
