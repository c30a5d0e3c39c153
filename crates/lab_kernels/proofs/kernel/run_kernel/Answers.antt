use Rattle.std.proofs.Common.{subst}
use Rattle.std.proofs.lemmas.Result.{on_err_weaker}
use Rattle.std.specs.Prelude.{IfOk}
use Rattle.kern_syntax.specs.TreeOf.{tree_of}
use Rattle.core_isa.specs.declared.code.Code.{Code}
use Rattle.lab_kernels.specs.Meanings.{RunsKernel}
use Rattle.lab_kernels.proofs.Meanings.{has_entry, kernel_left, kernel_ok}
use Rattle.lab_kernels.proofs.kernel.run_kernel.Goals as goal

pub run_function-requires-clause-entry : goal.run_function-requires-clause-entry
run_function-requires-clause-entry c =
    has_entry (tree_of c.args.compiled.now.0) c.code.result.now c.code.ensures.does.functions c.args.of.function c.args.of.args c.requires.arguments

pub returns-clause-kernel : goal.returns-clause-kernel
returns-clause-kernel c =
    let agrees = c.runs_with_fitting_replies_are_meant.ensures (tree_of c.args.compiled.now.0) c.code.result.now c.code.ensures.does in
    subst
    (λ (code : Code). IfOk c.run_function.result (λ r. RunsKernel (tree_of c.args.compiled.now.0) code c.args.units c.args.who c.args.of c.args.core.now c.run_function.new.core r))
    c.code.ensures.kept
    (kernel_ok (tree_of c.args.compiled.now.0) c.code.result.now c.code.ensures.does agrees c.args.units c.args.who c.args.of c.args.core.now c.run_function.new.core c.run_function.result c.requires.arguments c.run_function.ensures.ran)

pub returns-clause-left : goal.returns-clause-left
returns-clause-left c =
    let agrees = c.runs_with_fitting_replies_are_meant.ensures (tree_of c.args.compiled.now.0) c.code.result.now c.code.ensures.does in
    on_err_weaker c.run_function.result
    (kernel_left (tree_of c.args.compiled.now.0) c.code.result.now agrees c.args.units c.args.who c.args.of c.args.core.now c.run_function.new.core c.requires.arguments)
    c.run_function.ensures.left
