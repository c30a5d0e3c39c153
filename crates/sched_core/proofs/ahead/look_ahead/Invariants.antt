use Rattle.std.proofs.Common.{◌≡◌, ◌≤◌, ◌-◌, ◌^◌, List, [], length}
use Rattle.dataset_db.specs.Datasets.{Dataset}
use Rattle.sched_state.specs.Boards.{state_of}
use Rattle.sched_state.specs.Looks.{LooksAs}
use Rattle.sched_laws.specs.Sound.{IsSound}
use Rattle.sched_core.specs.Jumps.{JumpsTo}
use Rattle.sched_core.proofs.ahead.look_ahead.Given as goal

-- the clocks so far lead to where the board stands, and the look is one at it
abbrev pub invariant-loop-look : goal.invariant-loop-look
invariant-loop-look l =
    record {
      jumps : (datasets : List Dataset) → JumpsTo l.session (state_of l.session.arrivals datasets l.fn.board) l.clocks.items (state_of l.session.arrivals datasets l.board);
      looks : (datasets : List Dataset) → LooksAs l.session (state_of l.session.arrivals datasets l.board) l.look;
      taken : l.board.taken ≤ length l.session.arrivals;
      pipelines : l.board.runs.pipelines ≡ length l.session.pipelines;
      sound : IsSound l.session (state_of l.session.arrivals [] l.board);
    }

abbrev pub decreases-loop-look : goal.decreases-loop-look
decreases-loop-look l = 2 ^ 62 - l.board.clock
