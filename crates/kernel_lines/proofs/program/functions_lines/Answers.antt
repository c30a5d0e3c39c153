use Rattle.std.proofs.Common.{◌≡◌, ◌+◌, ◌∷◌, ◌++◌, drop, ap, sym, ◌∙◌, append_assoc}
use Rattle.kern_syntax.specs.TreeOf.{function_of, tree_of}
use Rattle.kern_expression_types.proofs.Lists.{drop-item}
use Rattle.kern_names.specs.ScopeOf.{program_of}
use Rattle.kern_names.proofs.Members.{item_is_among}
use Rattle.kernel_lines.specs.KernelLines.{function_lines, functions_lines}
use Rattle.kernel_lines.proofs.Ready.{ready_at}
use Rattle.kernel_lines.proofs.program.functions_lines.Goals as goal

pub put_function-requires-clause-own : goal.put_function-requires-clause-own
put_function-requires-clause-own c =
    item_is_among c.args.program.now.functions.now c.loop-function.function-index c.function-item.result c.loop-function-test.true c.function-item.is

pub put_function-requires-clause-ready : goal.put_function-requires-clause-ready
put_function-requires-clause-ready c =
    ready_at (program_of c.args.program.now) c.args.texts.now c.args.program.now.functions.now c.loop-function.function-index c.function-item.result c.loop-function-test.true c.function-item.is c.requires

pub loop-function-preserved : goal.loop-function-preserved
loop-function-preserved c =
    let program = program_of c.args.program.now in
    let texts = c.args.texts.now in
    let functions = c.args.program.now.functions.now in
    let i = c.loop-function.function-index in
    let f = c.function-item.result in
    let l0 = c.loop-function.lines.items in
    let left = functions_lines program texts (tree_of (drop (i + 1) functions)) in
    let next : tree_of (drop i functions) ≡ function_of f ∷ tree_of (drop (i + 1) functions) = ap tree_of (drop-item functions i f c.loop-function-test.true c.function-item.is) in
    ap (λ l. l ++ left) c.in_ok-put_function.ensures
    ∙ append_assoc l0 (function_lines program texts (function_of f)) left
    ∙ ap (λ fs. l0 ++ functions_lines program texts fs) (sym next)
    ∙ c.loop-function.invariant
