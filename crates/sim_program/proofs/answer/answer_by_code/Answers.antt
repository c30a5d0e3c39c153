use Rattle.std.proofs.Common.{refl, length}
use Rattle.sim_program.proofs.Answering.{code-answers}
use Rattle.sim_program.proofs.answer.answer_by_code.Goals as goal

pub returns-in-Refused : goal.returns-in-Refused
returns-in-Refused c =
    let h = rw c.in-Refused.is at c.in_ok-line.ensures in
    (refl, h.0, λ taken. h.1 taken.0 taken.1)

pub returns-in_ok-run-in-Accepted : goal.returns-in_ok-run-in-Accepted
returns-in_ok-run-in-Accepted c =
    let h = rw c.in-Accepted.is at c.in_ok-line.ensures in
    code-answers c.args.options c.args.dma c.args.bytes.now c.in-Accepted.code c.in_ok-run-in-Accepted.run' (length c.args.bytes.now) c.answer_of_run.result
    h.0 h.1 refl c.in_ok-run-in-Accepted.ensures.run c.answer_of_run.ensures
