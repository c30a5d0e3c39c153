use Rattle.std.proofs.Common.{◌≡◌, ◌≤◌, drop}
use Rattle.kern_syntax.specs.TreeOf.{block_of, lines_of, branches_of, handlers_of, statement_of}
use Rattle.kern_calls.specs.Types.{names_after, names_after_block, names_after_otherwise, names_after_handlers}
use Rattle.kern_names.specs.Arrays.{BlockArraysFit, OtherwiseArraysFit, HandlersArraysFit}
use Rattle.kern_names.specs.Assignments.{assignments, block_assignments, otherwise_assignments, handlers_assignments}
use Rattle.kern_names.specs.ScopeOf.{program_of}
use Rattle.kern_names.proofs.local_names.+names.Given as goal

abbrev pub invariant-add_block-loop-statement : goal.invariant-add_block-loop-statement
invariant-add_block-loop-statement l =
    record {
      left : names_after_block (program_of l.fn.functions) (block_of l.fn.block) l.initial.names ≡ names_after_block (program_of l.fn.functions) (lines_of (drop l.statement-index l.statement-items)) l.names;
      fit : BlockArraysFit (lines_of (drop l.statement-index l.statement-items));
      part : block_assignments (lines_of (drop l.statement-index l.statement-items)) ≤ block_assignments (block_of l.fn.block);
    }

abbrev pub invariant-add_statement-loop-branch : goal.invariant-add_statement-loop-branch
invariant-add_statement-loop-branch l =
    record {
      left : names_after (program_of l.fn.functions) (statement_of l.fn.statement) l.fn.names ≡ names_after_otherwise (program_of l.fn.functions) (branches_of (drop l.branch-index l.branch-items) l.last) l.names;
      fit : OtherwiseArraysFit (branches_of (drop l.branch-index l.branch-items) l.last);
      part : otherwise_assignments (branches_of (drop l.branch-index l.branch-items) l.last) ≤ assignments (statement_of l.fn.statement);
    }

abbrev pub invariant-add_handlers-loop-handler : goal.invariant-add_handlers-loop-handler
invariant-add_handlers-loop-handler l =
    record {
      left : names_after_handlers (program_of l.fn.functions) (handlers_of l.fn.handlers) l.initial.names ≡ names_after_handlers (program_of l.fn.functions) (handlers_of (drop l.handler-index l.fn.handlers)) l.names;
      fit : HandlersArraysFit (handlers_of (drop l.handler-index l.fn.handlers));
      part : handlers_assignments (handlers_of (drop l.handler-index l.fn.handlers)) ≤ handlers_assignments (handlers_of l.fn.handlers);
    }
