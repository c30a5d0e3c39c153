use Rattle.sim_program.proofs.answer.answer_to.Goals as goal

pub returns-in-Sim : goal.returns-in-Sim
returns-in-Sim c = let told = rw c.deref.ensures.value at c.answer_by_run.ensures in rw c.in-Sim.is told

pub returns-in-Generated : goal.returns-in-Generated
returns-in-Generated c = let told = rw c.deref-in-Generated.ensures.value at c.answer_by_run-in-Generated.ensures in rw c.in-Generated.is told

pub returns-in-Dump : goal.returns-in-Dump
returns-in-Dump c = let told = rw c.deref-in-Dump.ensures.value at c.answer_by_run-in-Dump.ensures in rw c.in-Dump.is told

pub returns-in-Sat : goal.returns-in-Sat
returns-in-Sat c = let told = rw c.deref-in-Sat.ensures.value at c.answer_by_link.ensures in rw c.in-Sat.is told
