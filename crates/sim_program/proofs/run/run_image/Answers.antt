use Rattle.std.proofs.Common.{ap, subst, ◌∙◌}
use Rattle.core_cpu.specs.Standing.{HasEntry}
use Rattle.core_isa.specs.declared.code.Code.{Code}
use Rattle.core_isa.specs.Marks.{HasOrder, Marked}
use Rattle.core_session.specs.Sessions.{beginning_of}
use Rattle.sim_program.specs.Runs.{start_of}
use Rattle.sim_program.proofs.Few.{run-few}
use Rattle.sim_program.proofs.Running.{code-run, has-entry, runs-ended}
use Rattle.sim_program.proofs.run.run_image.Goals as goal

pub run_code-requires : goal.run_code-requires
run_code-requires c =
    has-entry c.args.code.now c.code.result.now c.start_of-of.result c.code.ensures.value c.start_of-of.ensures c.code.ensures.in_range c.code.ensures.main

pub returns-in-Ok-clause-run : goal.returns-in-Ok-clause-run
returns-in-Ok-clause-run c =
    let of_is = c.start_of-of.ensures ∙ ap (λ (k : Code). start_of k.main) c.code.ensures.value in
    let entry : HasEntry c.args.code.now c.start_of-of.result.function c.start_of-of.result.args =
    has-entry c.args.code.now c.code.result.now c.start_of-of.result c.code.ensures.value c.start_of-of.ensures c.code.ensures.in_range c.code.ensures.main
    in
    let script =
    c.runs_have_scripts.ensures c.args.code.now (beginning_of c.start_of-of.result c.args.options.budget c.in_ok-core.core)
    (subst HasOrder c.code.ensures.value c.code.ensures.order) (subst Marked c.code.ensures.value c.code.ensures.marked) entry
    in
    code-run c.args.code.now c.args.options c.start_of-of.result c.in_ok-core.core c.run_code.new.core c.settled.result.core c.run_code.new.schedule
    c.in-Ok.ran.outcome c.settled.result.outcome c.in-Ok.ran.steps c.settled.result.steps
    of_is c.in_ok-core.ensures c.in-Ok.ensures.session script.0 script.1 (c.in-Ok.ensures.timed script.0 script.1) c.in-Ok.ensures.lockstep
    c.settled.ensures.reported c.settled.ensures.outcome c.settled.ensures.steps

pub returns-in-Ok-clause-ended : goal.returns-in-Ok-clause-ended
returns-in-Ok-clause-ended c = runs-ended _ _ _ _ _ _ _ _ c.in-Ok.ensures.session c.settled.ensures.reported.drained

pub returns-in-Ok-clause-few : goal.returns-in-Ok-clause-few
returns-in-Ok-clause-few c = run-few _ _ _ _ _ _ _ _ _ c.in_ok-core.ensures c.in-Ok.ensures.session c.settled.ensures.reported.drained
