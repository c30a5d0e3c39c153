use Rattle.std.proofs.Common.{rules, sym, subst}
use Rattle.std.specs.Prelude.{List}
use Rattle.sched_state.specs.declared.entry.DataSet.{DataSet}
use Rattle.lab_kernels.specs.Runs.{HasRun}
use Rattle.lab_kernels.proofs.Later.{on-err}
use Rattle.lab_kernels.proofs.Whole.{has-run, leaves-code}
use Rattle.lab_kernels.proofs.running.run_function.Goals as goal

pub returns-clause-ran : goal.returns-clause-ran
returns-clause-ran c =
    subst
    (λ (l : List DataSet). HasRun c.args.code.now c.args.units c.args.who c.args.of c.args.core.now c.run_lent.new.place (record { outcome = c.in_ok-ran.ran.outcome; sets = l; steps = c.in_ok-ran.ran.steps }))
    (sym c.of.ensures)
    (has-run c.args.who c.args.code.now c.args.of c.args.units (c.args.core.now, c.new-sets.result) (c.run_lent.new.place, c.run_lent.new.kept) c.in_ok-ran.ran.outcome c.in_ok-ran.ran.steps c.in_ok-ran.ensures.ran)

pub returns-in_err-ran-clause-left : goal.returns-in_err-ran-clause-left
returns-in_err-ran-clause-left c =
    on-err _ _ (leaves-code c.args.who c.args.code.now c.args.of c.args.units (c.args.core.now, c.new-sets.result) (c.run_lent.new.place, c.run_lent.new.kept) c.in_err-ran.ensures.left)
