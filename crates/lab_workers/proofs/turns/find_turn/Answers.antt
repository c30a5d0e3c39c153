use Rattle.lab_workers.proofs.Turning.{next-flies, next-is, next-over, next-turn}
use Rattle.lab_workers.proofs.turns.find_turn.Goals as goal

pub task_of-requires-clause-flies : goal.task_of-requires-clause-flies
task_of-requires-clause-flies c =
    next-flies c.args.who c.args.sched.now _ c.next.new.self c.in_ok-next.ensures.ok c.history-known.ensures.sched c.in-Job.job c.in-Job.is

pub task_of-requires-clause-is : goal.task_of-requires-clause-is
task_of-requires-clause-is c =
    next-is c.args.who c.args.sched.now _ c.next.new.self c.in_ok-next.ensures.ok c.history-known.ensures.sched c.in-Job.job c.in-Job.is

pub returns-in-Job-clause-turn : goal.returns-in-Job-clause-turn
returns-in-Job-clause-turn c =
    next-turn c.args.who c.args.sched.now _ c.next.new.self c.in_ok-next.ensures.ok c.history-known.ensures.sched c.in-Job.job c.in-Job.is
    c.task_of.result c.task_of.ensures.name c.task_of.ensures.is

pub returns-in-Job-clause-went : goal.returns-in-Job-clause-went
returns-in-Job-clause-went c =
    let t =
    next-turn c.args.who c.args.sched.now _ c.next.new.self c.in_ok-next.ensures.ok c.history-known.ensures.sched c.in-Job.job c.in-Job.is
    c.task_of.result c.task_of.ensures.name c.task_of.ensures.is in
    (t.acts, t.went)

pub returns-in-Finished-clause-turn : goal.returns-in-Finished-clause-turn
returns-in-Finished-clause-turn c =
    next-over c.args.who c.args.sched.now _ c.next.new.self c.in_ok-next.ensures.ok c.history-known.ensures.sched c.in-Finished.is

pub returns-in-Finished-clause-went : goal.returns-in-Finished-clause-went
returns-in-Finished-clause-went c =
    let t = next-over c.args.who c.args.sched.now _ c.next.new.self c.in_ok-next.ensures.ok c.history-known.ensures.sched c.in-Finished.is in
    (t.acts, t.went)
