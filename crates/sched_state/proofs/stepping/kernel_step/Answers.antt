use Rattle.std.proofs.Common.{◌≡◌, sym, ◌∙◌, ap}
use Rattle.std.specs.Prelude.{Option, None}
use Rattle.std.specs.Option.{option_copied}
use Rattle.exp_model.specs.declared.step.HostStep.TheVariants as step
use Rattle.sched_state.specs.declared.entry.KernelResult.{KernelResult}
use Rattle.sched_state.specs.Reports.{effect}
use Rattle.sched_state.specs.Boards.{state_with}
use Rattle.sched_state.proofs.stepping.kernel_step.Goals as goal

pub returns-in_default : goal.returns-in_default
returns-in_default c = λ session run name args left board.
    let state = state_with left c.args.datasets.now board in
    let none : option_copied c.args.ran ≡ None = ap option_copied c.in_default.is in
    c.goes_on.ensures state ∙ sym (ap (λ (r : Option KernelResult). effect session run (step.Kernel name args) r state) none)
