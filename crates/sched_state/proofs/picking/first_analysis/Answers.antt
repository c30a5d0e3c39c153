use Rattle.std.proofs.Common.{◌≡◌, ◌<◌, ℕ, ◌∙◌, sym, refl, arith}
use Rattle.std.specs.Prelude.{Option, Some, None}
use Rattle.sched_state.specs.Picks.{analyzing}
use Rattle.sched_state.specs.Boards.{state_with}
use Rattle.sched_state.proofs.Firsts.{first-here, first-next}
use Rattle.sched_state.proofs.picking.first_analysis.Goals as goal

none-left : (found : Option ℕ) → ((rid : ℕ) → found ≡ Some rid → ⊥) → found ≡ None
none-left None other = refl
none-left (Some rid) other = absurd (other rid refl)

pub returns-in-Some : goal.returns-in-Some
returns-in-Some c = λ left datasets.
    let choose = analyzing (state_with left datasets c.args.board.now) in
    let within : c.loop-pipeline.pipeline < c.args.pipelines = omega arith in
    sym (first-here choose c.loop-pipeline.pipeline c.args.pipelines c.in-Some.rid within (sym (c.analysis_due.ensures left datasets) ∙ c.in-Some.is)) ∙ c.loop-pipeline.invariant left datasets

pub loop-pipeline-preserved : goal.loop-pipeline-preserved
loop-pipeline-preserved c = λ left datasets.
    let choose = analyzing (state_with left datasets c.args.board.now) in
    let within : c.loop-pipeline.pipeline < c.args.pipelines = omega arith in
    let none : c.analysis_due.result ≡ None = none-left c.analysis_due.result c.in_default.not-Some in
    sym (first-next choose c.loop-pipeline.pipeline c.args.pipelines within (sym (c.analysis_due.ensures left datasets) ∙ none)) ∙ c.loop-pipeline.invariant left datasets
