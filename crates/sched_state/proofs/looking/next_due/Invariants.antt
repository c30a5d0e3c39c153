use Rattle.std.proofs.Common.{◌≡◌, ℕ, drop, filter, fold, map}
use Rattle.std.specs.Prelude.{Option, Some}
use Rattle.exp_runs.specs.declared.run.Run.{Run}
use Rattle.sched_state.specs.Picks.{earlier, earliest, waits_longer}
use Rattle.sched_state.proofs.looking.next_due.Given as goal

-- the least so far, and what is still to come
abbrev pub invariant-loop-run : goal.invariant-loop-run
invariant-loop-run l =
    fold (λ (so_far : Option ℕ) (date : ℕ). earlier so_far (Some date)) l.least (map (λ (run : Run). run.due) (filter (waits_longer l.clock) (drop l.run-index l.runs)))
    ≡ earliest (map (λ (run : Run). run.due) (filter (waits_longer l.clock) l.runs))
