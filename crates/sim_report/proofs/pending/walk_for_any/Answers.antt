use Rattle.std.proofs.Common.{ap, ◌∙◌, ℕ, Bool, List, refl, take}
use Rattle.std.proofs.lemmas.List.{take_all}
use Rattle.rtio_core.specs.declared.data.Entry.{Entry}
use Rattle.sim_report.specs.declared.steps.Step.{Step}
use Rattle.sim_report.specs.Steps.{step_in, still_pends}
use Rattle.sim_report.proofs.Judging.{here}
use Rattle.sim_report.proofs.Beyond.{any_beyond, pends-next, pends-since}
use Rattle.sim_report.proofs.pending.walk_for_any.Goals as goal

pub loop-entry-init : goal.loop-entry-init
loop-entry-init c = refl

pub loop-entry-preserved : goal.loop-entry-preserved
loop-entry-preserved c =
    let at = here c.history-entry-items.result.now c.loop-entry.entry-index c.entry-item.result c.loop-entry-test.true c.entry-item.is in
    c.still_pends-pends.ensures
    ∙ ap (λ (b : Bool). still_pends b c.step_of.result c.counter-counter.result) c.loop-entry.invariant
    ∙ ap (λ (s : Step). still_pends (any_beyond c.args.core.now.config (take c.loop-entry.entry-index c.history-entry-items.result.now) c.args.core.now.counter) s c.counter-counter.result) c.step_of.ensures
    ∙ ap (λ (n : ℕ). still_pends (any_beyond c.args.core.now.config (take c.loop-entry.entry-index c.history-entry-items.result.now) c.args.core.now.counter) (step_in c.entry-item.result.act) n) c.counter-counter.ensures
    ∙ pends-next c.args.core.now.config c.args.core.now.history c.history-entry-items.result.now c.loop-entry.entry-index c.entry-item.result c.args.core.now.counter c.history-entry-items.ensures.value at c.history-entry-items.ensures.core.lawful

pub returns : goal.returns
returns c =
    c.loop-entry.invariant
    ∙ ap (λ (h : List Entry). any_beyond c.args.core.now.config h c.args.core.now.counter) (take_all c.loop-entry.entry-index c.history-entry-items.result.now c.loop-entry-test.false ∙ c.history-entry-items.ensures.value)
    ∙ pends-since c.args.core.now c.history-entry-items.ensures.core
