use Rattle.std.proofs.Common.{drop, map}
use Rattle.kern_syntax.specs.TreeOf.{tree_of}
use Rattle.kern_names.specs.ScopeOf.{program_of}
use Rattle.core_code.proofs.Put.{IsPut}
use Rattle.core_code.proofs.functions.put_functions.Given as goal

abbrev pub invariant-loop-function : goal.invariant-loop-function
invariant-loop-function l =
    IsPut (program_of l.fn.program) (map (λ n. n.now) l.fn.plain) l.fn.texts (program_of l.fn.program) (tree_of (drop l.function-index l.fn.program.functions.now)) l.parts.entries.items l.parts.lines.items
