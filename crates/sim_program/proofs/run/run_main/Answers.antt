use Rattle.std.proofs.Common.{ap, sym, subst, ◌∙◌}
use Rattle.core_isa.specs.declared.code.Code.{Code}
use Rattle.kern_syntax.specs.TreeOf.{tree_of}
use Rattle.kernel_session.specs.Meant.{TakesArguments}
use Rattle.rtio_core.specs.declared.data.StartOf.{StartOf}
use Rattle.code_law.specs.DoesAs.{DoesAs}
use Rattle.sim_program.specs.Runs.{start_of}
use Rattle.sim_program.proofs.Few.{run-few}
use Rattle.sim_program.proofs.Running.{main-run, main-takes, runs-ended}
use Rattle.sim_program.proofs.run.run_main.Goals as goal

pub run_session-requires : goal.run_session-requires
run_session-requires c =
    let of_is = c.start_of-of.ensures ∙ ap (λ (k : Code). start_of k.main) c.code-2.ensures.value in
    subst (λ (of : StartOf). TakesArguments (tree_of c.args.compiled.now.0) of.function of.args) (sym of_is)
    (main-takes (tree_of c.args.compiled.now.0) c.code.result.now c.code.ensures.does)

pub returns-in-Ok-clause-run : goal.returns-in-Ok-clause-run
returns-in-Ok-clause-run c =
    let of_is = c.start_of-of.ensures ∙ ap (λ (k : Code). start_of k.main) (c.code-2.ensures.value ∙ c.code.ensures.kept) in
    let does = subst (DoesAs (tree_of c.args.compiled.now.0)) c.code.ensures.kept c.code.ensures.does in
    main-run (tree_of c.args.compiled.now.0) c.args.compiled.now.1 c.args.options c.start_of-of.result c.in_ok-core.core c.run_session.new.core c.settled.result.core c.run_session.new.schedule
    c.in-Ok.ran.outcome c.settled.result.outcome c.in-Ok.ran.steps c.settled.result.steps
    does of_is c.in_ok-core.ensures c.in-Ok.ensures.session c.in-Ok.ensures.code c.in-Ok.ensures.timed c.in-Ok.ensures.lockstep
    c.settled.ensures.reported c.settled.ensures.outcome c.settled.ensures.steps

pub returns-in-Ok-clause-ended : goal.returns-in-Ok-clause-ended
returns-in-Ok-clause-ended c = runs-ended _ _ _ _ _ _ _ _ c.in-Ok.ensures.code c.settled.ensures.reported.drained

pub returns-in-Ok-clause-few : goal.returns-in-Ok-clause-few
returns-in-Ok-clause-few c = run-few _ _ _ _ _ _ _ _ _ c.in_ok-core.ensures c.in-Ok.ensures.code c.settled.ensures.reported.drained
