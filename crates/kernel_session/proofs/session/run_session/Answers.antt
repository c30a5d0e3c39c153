use Rattle.kern_syntax.specs.TreeOf.{tree_of}
use Rattle.kernel_session.proofs.Meant.{has_entry}
use Rattle.kernel_session.proofs.Sessions.{left_err, session_ok, timed_ok}
use Rattle.kernel_session.proofs.session.run_session.Goals as goal

pub run_code-requires : goal.run_code-requires
run_code-requires c =
    has_entry (tree_of c.args.compiled.now.0) c.code.result.now c.code.ensures.does.functions c.args.of.function c.args.of.args c.requires

pub returns-clause-session : goal.returns-clause-session
returns-clause-session c =
    let agrees = c.runs_with_fitting_replies_are_meant.ensures (tree_of c.args.compiled.now.0) c.code.result.now c.code.ensures.does in
    session_ok (tree_of c.args.compiled.now.0) c.code.result.now c.code.ensures.does agrees c.args.units c.args.of c.args.core.now c.run_code.new.core c.run_code.result c.requires c.run_code.ensures.session

pub returns-clause-timed : goal.returns-clause-timed
returns-clause-timed c =
    let agrees = c.runs_with_fitting_replies_are_meant.ensures (tree_of c.args.compiled.now.0) c.code.result.now c.code.ensures.does in
    timed_ok (tree_of c.args.compiled.now.0) c.code.result.now agrees c.args.units c.args.of c.args.core.now c.run_code.new.core c.args.schedule.now c.run_code.new.schedule c.run_code.result c.requires c.run_code.ensures.timed

pub returns-clause-left : goal.returns-clause-left
returns-clause-left c =
    let agrees = c.runs_with_fitting_replies_are_meant.ensures (tree_of c.args.compiled.now.0) c.code.result.now c.code.ensures.does in
    left_err (tree_of c.args.compiled.now.0) c.code.result.now agrees c.args.units c.args.of c.args.core.now c.run_code.new.core c.args.schedule.now c.run_code.result c.requires c.run_code.ensures.left
