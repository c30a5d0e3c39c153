use Rattle.std.proofs.Common.{◌≡◌, ◌≤◌, take, drop, length, map}
use Rattle.kern_syntax.specs.TreeOf.{tree_of}
use Rattle.kern_types.specs.Programs.{functions_verdict, program_verdict}
use Rattle.kern_types.proofs.program.check_each.Given as goal

abbrev pub invariant-loop-number : goal.invariant-loop-number
invariant-loop-number l =
    record {
      few : length l.plain.items ≤ l.number;
      left : program_verdict (tree_of l.fn.functions) ≡ functions_verdict (tree_of l.fn.functions) (tree_of (take l.number l.fn.functions)) (map (λ name. name.now) l.plain.items) (tree_of (drop l.number l.fn.functions));
    }
