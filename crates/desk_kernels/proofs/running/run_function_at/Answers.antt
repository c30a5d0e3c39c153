use Rattle.std.proofs.Common.{rules, inr, sym, subst}
use Rattle.std.specs.Prelude.{List}
use Rattle.sched_state.specs.declared.entry.DataSet.{DataSet}
use Rattle.desk_kernels.specs.Sessions.{RunsCodeAt}
use Rattle.desk_kernels.proofs.Held.{on-err}
use Rattle.desk_kernels.proofs.Played.{goes-left, goes-ran, knows-goes, later-goes, left-at, ran-at, same-goes}
use Rattle.desk_kernels.proofs.running.run_function_at.Goals as goal

pub returns-clause-same : goal.returns-clause-same
returns-clause-same g c =
    same-goes c.args.desk.now c.args.chair.now c.run_lent.new.place c.requires.at
    (inr (goes-ran c.args.desk.now c.args.code.now c.args.of c.args.units (c.args.chair.now, c.new-sets.result) (c.run_lent.new.place, c.run_lent.new.kept) c.in_ok-ran.ran.outcome c.in_ok-ran.ran.steps c.in_ok-ran.ensures.ran))

pub returns-clause-later : goal.returns-clause-later
returns-clause-later g c =
    later-goes c.args.desk.now c.args.chair.now c.run_lent.new.place c.requires.at
    (inr (goes-ran c.args.desk.now c.args.code.now c.args.of c.args.units (c.args.chair.now, c.new-sets.result) (c.run_lent.new.place, c.run_lent.new.kept) c.in_ok-ran.ran.outcome c.in_ok-ran.ran.steps c.in_ok-ran.ensures.ran))

pub returns-clause-knows : goal.returns-clause-knows
returns-clause-knows g c =
    knows-goes c.args.desk.now c.args.chair.now c.run_lent.new.place c.requires.at
    (inr (goes-ran c.args.desk.now c.args.code.now c.args.of c.args.units (c.args.chair.now, c.new-sets.result) (c.run_lent.new.place, c.run_lent.new.kept) c.in_ok-ran.ran.outcome c.in_ok-ran.ran.steps c.in_ok-ran.ensures.ran))

pub returns-clause-ran : goal.returns-clause-ran
returns-clause-ran g c =
    subst
    (λ (l : List DataSet). RunsCodeAt c.args.code.now c.args.units c.args.of c.args.desk.now.fixed c.args.chair.now c.run_lent.new.place (record { outcome = c.in_ok-ran.ran.outcome; sets = l; steps = c.in_ok-ran.ran.steps }))
    (sym c.of.ensures)
    (ran-at c.args.desk.now c.args.code.now c.args.of c.args.units (c.args.chair.now, c.new-sets.result) (c.run_lent.new.place, c.run_lent.new.kept) c.in_ok-ran.ran.outcome c.in_ok-ran.ran.steps c.in_ok-ran.ensures.ran)

pub returns-in_err-ran-clause-same : goal.returns-in_err-ran-clause-same
returns-in_err-ran-clause-same g c =
    same-goes c.args.desk.now c.args.chair.now c.run_lent.new.place c.requires.at
    (goes-left c.args.desk.now c.args.code.now c.args.of c.args.units (c.args.chair.now, c.new-sets.result) (c.run_lent.new.place, c.run_lent.new.kept) c.in_err-ran.ensures.left)

pub returns-in_err-ran-clause-later : goal.returns-in_err-ran-clause-later
returns-in_err-ran-clause-later g c =
    later-goes c.args.desk.now c.args.chair.now c.run_lent.new.place c.requires.at
    (goes-left c.args.desk.now c.args.code.now c.args.of c.args.units (c.args.chair.now, c.new-sets.result) (c.run_lent.new.place, c.run_lent.new.kept) c.in_err-ran.ensures.left)

pub returns-in_err-ran-clause-knows : goal.returns-in_err-ran-clause-knows
returns-in_err-ran-clause-knows g c =
    knows-goes c.args.desk.now c.args.chair.now c.run_lent.new.place c.requires.at
    (goes-left c.args.desk.now c.args.code.now c.args.of c.args.units (c.args.chair.now, c.new-sets.result) (c.run_lent.new.place, c.run_lent.new.kept) c.in_err-ran.ensures.left)

pub returns-in_err-ran-clause-left : goal.returns-in_err-ran-clause-left
returns-in_err-ran-clause-left g c =
    on-err _ _ (left-at c.args.desk.now c.args.code.now c.args.of c.args.units (c.args.chair.now, c.new-sets.result) (c.run_lent.new.place, c.run_lent.new.kept) c.in_err-ran.ensures.left)
