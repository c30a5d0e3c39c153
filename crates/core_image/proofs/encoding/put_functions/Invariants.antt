use Rattle.std.proofs.Common.{◌≡◌, ◌++◌, take}
use Rattle.std.specs.List.{flat_map}
use Rattle.core_image.specs.Spelling.{function_bytes}
use Rattle.core_image.proofs.encoding.put_functions.Given as goal

-- those so far are put
abbrev pub invariant-loop-function : goal.invariant-loop-function
invariant-loop-function l = l.out.items ≡ l.fn.out.items ++ flat_map function_bytes (take l.function-index l.functions)
