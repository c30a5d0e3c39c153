use Rattle.std.proofs.Common.{◌≡◌, true, List, sym, ◌∙◌, ap, subst, inl, inr}
use Rattle.std.specs.Option.{option_copied}
use Rattle.exp_model.specs.declared.arrival.Arrival.{Arrival}
use Rattle.exp_model.specs.declared.step.HostStep.{HostStep}
use Rattle.exp_model.specs.declared.step.HostStep.TheVariants as step
use Rattle.sched_state.specs.declared.ending.StepEnd.{StepEnd}
use Rattle.sched_state.specs.Boards.{state_of}
use Rattle.sched_state.specs.Reports.{effect}
use Rattle.sched_state.specs.Stepped.{effect_of}
use Rattle.sched_state.proofs.Stepped.{if-map, is_stored, stores}
use Rattle.sched_state.proofs.board.Board.do_step.Goals as goal

pub returns-in-Kernel-clause-effect : goal.returns-in-Kernel-clause-effect
returns-in-Kernel-clause-effect c =
    let session = c.args.session.now in
    let run = c.args.run.now in
    let board = c.args.self.now in
    let ran = option_copied c.args.ran in
    let old = state_of session.arrivals c.args.datasets.now board in
    let new = state_of session.arrivals c.kernel_step.new.datasets board in
    let Q : StepEnd → Type 0 = λ end. effect_of end new ≡ effect session run c.args.step.now ran old in
    if-map _ Q c.kernel_step.result
    (λ end h.
    h session run c.in-Kernel.name c.in-Kernel.args _ board
    ∙ sym (ap (λ (s : HostStep). effect session run s ran old) c.in-Kernel.is)) c.kernel_step.ensures

pub returns-in-Submit-clause-effect : goal.returns-in-Submit-clause-effect
returns-in-Submit-clause-effect c =
    let session = c.args.session.now in
    let run = c.args.run.now in
    let ran = option_copied c.args.ran in
    let asked = c.in-Submit.asked in
    let datasets = c.args.datasets.now in
    let board = c.args.self.now in
    let new = c.submit_step.new.self in
    let E : List Arrival → StepEnd → Type 0 = λ arrivals end. effect_of end (state_of arrivals datasets new) ≡ effect session run (step.Submit asked) ran (state_of arrivals datasets board) in
    let Q : StepEnd → Type 0 = λ end. effect_of end (state_of session.arrivals datasets new) ≡ effect session run c.args.step.now ran (state_of session.arrivals datasets board) in
    if-map _ Q c.submit_step.result
    (λ end h.
    subst (λ arrivals. E arrivals end) c.items.ensures (h session run ran datasets)
    ∙ sym (ap (λ (s : HostStep). effect session run s ran (state_of session.arrivals datasets board)) c.in-Submit.is)) c.submit_step.ensures.effect

pub returns-in-Set-clause-effect : goal.returns-in-Set-clause-effect
returns-in-Set-clause-effect c =
    let session = c.args.session.now in
    let run = c.args.run.now in
    let board = c.args.self.now in
    let ran = option_copied c.args.ran in
    let what = c.args.step.now in
    let old = state_of session.arrivals c.args.datasets.now board in
    let new = state_of session.arrivals c.store_step.new.datasets board in
    let stored : is_stored what ≡ true = elim c.in-Set.is [
      | inl w ↦ ap is_stored w.5
      | inr w ↦ elim w [ inl v ↦ ap is_stored v.2 | inr v ↦ ap is_stored v.2 ]
    ] in
    let Q : StepEnd → Type 0 = λ end. effect_of end new ≡ effect session run what ran old in
    if-map _ Q c.store_step.result (λ end h. h _ board ∙ sym (stores session run what ran old stored)) c.store_step.ensures
