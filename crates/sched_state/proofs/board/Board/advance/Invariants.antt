use Rattle.std.proofs.Common.{◌≡◌, ◌≤◌, ◌-◌, List, drop, filter, fold, length}
use Rattle.std.specs.Prelude.{not}
use Rattle.exp_model.specs.declared.arrival.Arrival.{Arrival}
use Rattle.dataset_db.specs.Datasets.{Dataset}
use Rattle.sched_state.specs.State.{SchedState}
use Rattle.sched_state.specs.Arrivals.{arrived, at_clock, has_come}
use Rattle.sched_state.specs.Boards.{AreNumbered, state_of, state_with}
use Rattle.sched_state.proofs.board.Board.advance.Given as goal

-- what is still to be taken leads to what the whole leads to
abbrev pub invariant-loop-self : goal.invariant-loop-self
invariant-loop-self l =
    record {
      taken : l.self.taken ≤ length l.arrivals;
      pipelines : l.self.runs.pipelines ≡ l.fn.self.runs.pipelines;
      numbered : AreNumbered l.self.runs.runs;
      rest : filter (λ arrival. not (has_come l.clock arrival)) (drop l.self.taken l.arrivals) ≡ filter (λ arrival. not (has_come l.clock arrival)) (drop l.fn.self.taken l.arrivals);
      state : (datasets : List Dataset) → (let left : List Arrival = filter (λ arrival. not (has_come l.clock arrival)) (drop l.fn.self.taken l.arrivals) in
          fold (λ (before : SchedState) (arrival : Arrival). arrived before arrival.act) (state_with left datasets l.self) (filter (has_come l.clock) (drop l.self.taken l.arrivals))
          ≡ at_clock l.clock (state_of l.arrivals datasets l.fn.self));
    }

abbrev pub decreases-loop-self : goal.decreases-loop-self
decreases-loop-self l = length l.arrivals - l.self.taken
