use Rattle.std.proofs.Common.{◌≡◌, length, sym, ◌∙◌, ap, arith}
use Rattle.std.specs.Prelude.{Option, Some, None, slice_get}
use Rattle.std.specs.Option.{option_copied}
use Rattle.exp_model.specs.declared.step.HostStep.{HostStep}
use Rattle.sched_state.specs.declared.ending.StepEnd.{StepEnd}
use Rattle.sched_state.specs.Boards.{state_of}
use Rattle.sched_state.specs.Reports.{effect, run_effect, run_steps}
use Rattle.sched_state.specs.Stepped.{effect_of}
use Rattle.sched_state.proofs.Numbered.{none-past}
use Rattle.sched_state.proofs.Stepped.{if-map, of-doomed, step-fits, with-step}
use Rattle.sched_state.proofs.board.Board.run_step.Goals as goal

pub returns-in_default-clause-effect : goal.returns-in_default-clause-effect
returns-in_default-clause-effect c =
    let session = c.args.session.now in
    let run = c.args.run.now in
    let state = state_of session.arrivals c.args.datasets.now c.args.self.now in
    let none : slice_get (run_steps session run) c.args.pos ≡ None = sym c.found_step.ensures ∙ ap option_copied c.in_default.is in
    c.goes_on.ensures state ∙ sym (ap (λ (f : Option HostStep). run_effect session run f (option_copied c.args.ran) state) none)

pub returns-then-run-clause-effect : goal.returns-then-run-clause-effect
returns-then-run-clause-effect c =
    let session = c.args.session.now in
    let run = c.args.run.now in
    let state = state_of session.arrivals c.args.datasets.now c.args.self.now in
    let found : slice_get (run_steps session run) c.args.pos ≡ Some c.in-Some.step.now = sym c.found_step.ensures ∙ ap option_copied c.in-Some.is in
    sym (of-doomed session run (slice_get (run_steps session run) c.args.pos) c.in-Some.step.now (option_copied c.args.ran) state found c.if-run.true)

pub do_step-requires-clause-fits : goal.do_step-requires-clause-fits
do_step-requires-clause-fits c =
    let session = c.args.session.now in
    let run = c.args.run.now in
    let found : slice_get (run_steps session run) c.args.pos ≡ Some c.in-Some.step.now = sym c.found_step.ensures ∙ ap option_copied c.in-Some.is in
    step-fits session run c.args.pos c.in-Some.step.now c.requires.session found

pub do_step-requires-clause-new : goal.do_step-requires-clause-new
do_step-requires-clause-new c = let runs = c.args.self.now.runs.runs in none-past 0 runs (length runs) c.requires.numbered (omega arith)

pub returns-clause-effect : goal.returns-clause-effect
returns-clause-effect c =
    let session = c.args.session.now in
    let run = c.args.run.now in
    let ran = option_copied c.args.ran in
    let old = state_of session.arrivals c.args.datasets.now c.args.self.now in
    let new = state_of session.arrivals c.do_step.new.datasets c.do_step.new.self in
    let found : slice_get (run_steps session run) c.args.pos ≡ Some c.in-Some.step.now = sym c.found_step.ensures ∙ ap option_copied c.in-Some.is in
    let what = c.in-Some.step.now in
    let same : run_effect session run (slice_get (run_steps session run) c.args.pos) ran old ≡ effect session run what ran old =
    with-step session run (slice_get (run_steps session run) c.args.pos) what ran old found c.if-run.false in
    let P : StepEnd → Type 0 = λ end. effect_of end new ≡ effect session run c.in-Some.step.now ran old in
    let Q : StepEnd → Type 0 = λ end. effect_of end new ≡ run_effect session run (slice_get (run_steps session run) c.args.pos) ran old in
    if-map P Q c.do_step.result (λ end h. h ∙ sym same) c.do_step.ensures.effect
