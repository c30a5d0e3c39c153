use Rattle.std.proofs.Common.{◌≡◌, ◌||◌, ℕ, List, drop}
use Rattle.kern_expression_types.specs.Before.{is_in}
use Rattle.kern_expression_types.specs.FunctionNames.{function_names}
use Rattle.kern_expression_types.proofs.names.indexed.Given as goal

abbrev pub invariant-loop-function : goal.invariant-loop-function
invariant-loop-function l =
    (name : List ℕ) → (is_in l.names name || is_in (function_names (drop l.function-index l.fn.functions)) name) ≡ is_in (function_names l.fn.functions) name
