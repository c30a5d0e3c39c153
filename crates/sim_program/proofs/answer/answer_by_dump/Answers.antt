use Rattle.std.proofs.Common.{refl}
use Rattle.sim_program.proofs.answer.answer_by_dump.Goals as goal

pub returns-in-Refused : goal.returns-in-Refused
returns-in-Refused c =
    let h = rw c.in-Refused.is at c.in_ok-line.ensures in
    (refl, h.0, λ taken. h.1 taken.0 taken.1)
