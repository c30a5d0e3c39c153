use Rattle.std.proofs.Common.{subst}
use Rattle.std.proofs.lemmas.Result.{on_err_weaker}
use Rattle.std.specs.Prelude.{IfOk}
use Rattle.kern_syntax.specs.TreeOf.{tree_of}
use Rattle.core_isa.specs.declared.code.Code.{Code}
use Rattle.lab_kernels.proofs.Meanings.{has_entry}
use Rattle.desk_kernels.specs.Kernels.{RunsKernelAt}
use Rattle.desk_kernels.proofs.Played.{kernel-at, kernel-left-at}
use Rattle.desk_kernels.proofs.kernel.run_kernel_at.Goals as goal

pub run_function_at-requires-clause-entry : goal.run_function_at-requires-clause-entry
run_function_at-requires-clause-entry g c =
    has_entry (tree_of c.args.compiled.now.0) c.code.result.now c.code.ensures.does.functions c.args.of.function c.args.of.args c.requires.arguments

pub returns-clause-kernel : goal.returns-clause-kernel
returns-clause-kernel g c =
    let agrees = c.runs_with_fitting_replies_are_meant.ensures (tree_of c.args.compiled.now.0) c.code.result.now c.code.ensures.does in
    subst
    (λ (code : Code). IfOk c.run_function_at.result (λ r. RunsKernelAt (tree_of c.args.compiled.now.0) code c.args.units c.args.of c.args.desk.now.fixed c.args.chair.now c.run_function_at.new.chair r))
    c.code.ensures.kept
    (kernel-at (tree_of c.args.compiled.now.0) c.code.result.now c.code.ensures.does agrees c.args.units c.args.of c.args.desk.now.fixed c.args.chair.now c.run_function_at.new.chair c.run_function_at.result c.requires.arguments c.run_function_at.ensures.ran)

pub returns-clause-left : goal.returns-clause-left
returns-clause-left g c =
    let agrees = c.runs_with_fitting_replies_are_meant.ensures (tree_of c.args.compiled.now.0) c.code.result.now c.code.ensures.does in
    on_err_weaker c.run_function_at.result
    (kernel-left-at (tree_of c.args.compiled.now.0) c.args.units c.args.of c.args.desk.now.fixed c.args.chair.now c.run_function_at.new.chair c.run_function_at.ensures.same.1
    c.code.result.now agrees c.requires.arguments)
    c.run_function_at.ensures.left
