use Rattle.std.proofs.Common.{◌<◌, List, ap, get_or, length, subst, ◌∙◌}
use Rattle.exp_model.specs.declared.session.Pipeline.{Pipeline}
use Rattle.lab_program.proofs.Cores.{core-more, pipeline-in, settings-in}
use Rattle.lab_program.proofs.opening.open_cores.Goals as goal

pub open_core-requires-clause-settings : goal.open_core-requires-clause-settings
open_core-requires-clause-settings c = settings-in c.args.session.now c.requires

pub open_core-requires-clause-edges : goal.open_core-requires-clause-edges
open_core-requires-clause-edges c =
    let same = c.items-pipeline-items.ensures in
    let within = subst (λ (ps : List Pipeline). c.loop-pipeline.pipeline-index < length ps) same c.loop-pipeline-test.true in
    let is = c.pipeline-item.is ∙ ap (λ (ps : List Pipeline). get_or ps c.loop-pipeline.pipeline-index c.pipeline-item.result) same in
    pipeline-in c.args.session.now c.loop-pipeline.pipeline-index c.pipeline-item.result c.requires within is

pub loop-pipeline-preserved : goal.loop-pipeline-preserved
loop-pipeline-preserved c =
    let same = c.items-pipeline-items.ensures in
    let within = subst (λ (ps : List Pipeline). c.loop-pipeline.pipeline-index < length ps) same c.loop-pipeline-test.true in
    let is = c.pipeline-item.is ∙ ap (λ (ps : List Pipeline). get_or ps c.loop-pipeline.pipeline-index c.pipeline-item.result) same in
    core-more c.args.session.now c.loop-pipeline.pipeline-index c.pipeline-item.result c.loop-pipeline.cores.items c.push.new.self.items c.in_ok-open_core.field-0
    within is c.loop-pipeline.invariant c.in_ok-open_core.ensures c.in_ok-push.ensures.items
