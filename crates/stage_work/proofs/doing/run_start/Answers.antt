use Rattle.std.proofs.Common.{refl, sym, subst}
use Rattle.std.specs.Prelude.{Option, None}
use Rattle.std.proofs.lemmas.List.{length-set}
use Rattle.std.proofs.lemmas.Option.{slice_get-get_or}
use Rattle.rtio_core.specs.declared.data.StartOf.{StartOf}
use Rattle.stage_work.specs.Doing.{HasRun}
use Rattle.stage_work.specs.Starting.{MayStart}
use Rattle.stage_work.proofs.Done.{kernel-cut, kernel-ran, on-err}
use Rattle.stage_work.proofs.doing.run_start.Goals as goal

pub run-requires-clause-may : goal.run-requires-clause-may
run-requires-clause-may g c =
    c.requires.may _ (slice_get-get_or c.args.places.now c.args.pipeline c.index-places-pipeline.result c.requires.there)

pub run-requires-clause-arguments : goal.run-requires-clause-arguments
run-requires-clause-arguments g c = subst (MayStart c.args.kit.now) c.in-Some.is c.requires.start

pub returns-in_ok-result-in-Some-clause-count : goal.returns-in_ok-result-in-Some-clause-count
returns-in_ok-result-in-Some-clause-count g c = length-set c.args.places.now c.args.pipeline c.run.new.place

pub returns-in_ok-result-in-Some-clause-ran : goal.returns-in_ok-result-in-Some-clause-ran
returns-in_ok-result-in-Some-clause-ran g c =
    kernel-ran (g.R.Runner.has_run c.args.runner.now) (g.R.Runner.is_cut c.args.runner.now) c.args.pipeline c.args.kit.now c.args.start c.in-Some.of
    c.args.places.now c.index-places-pipeline.result c.run.new.place c.in-Some.is c.requires.there _ c.in_ok-result-in-Some.ensures.ran

pub returns-in_err-result-in-Some-clause-count : goal.returns-in_err-result-in-Some-clause-count
returns-in_err-result-in-Some-clause-count g c = length-set c.args.places.now c.args.pipeline c.run.new.place

pub returns-in_err-result-in-Some-clause-left : goal.returns-in_err-result-in-Some-clause-left
returns-in_err-result-in-Some-clause-left g c =
    on-err _ _
    (kernel-cut (g.R.Runner.has_run c.args.runner.now) (g.R.Runner.is_cut c.args.runner.now) c.args.pipeline c.args.kit.now c.args.start c.in-Some.of
    c.args.places.now c.index-places-pipeline.result c.run.new.place c.in-Some.is c.requires.there c.in_err-result-in-Some.ensures.cut)

pub returns-in-None-clause-ran : goal.returns-in-None-clause-ran
returns-in-None-clause-ran g c =
    let H : Option StartOf → Type 0 = λ s.
    HasRun (g.R.Runner.has_run c.args.runner.now) c.args.pipeline c.args.kit.now s None c.args.places.now c.args.places.now in
    subst H (sym c.in-None.is) refl
