use Rattle.std.proofs.Common.{◌≡◌, ◌≤◌, ◌<◌, ◌+◌, ℕ, List, [], length, drop, sym, ◌∙◌, ap, arith, subst}
use Rattle.std.specs.Prelude.{slice_index_or}
use Rattle.exp_model.specs.declared.arrival.Arrival.{Arrival}
use Rattle.dataset_db.specs.Datasets.{Dataset}
use Rattle.sched_state.specs.State.{SchedState}
use Rattle.sched_state.specs.Boards.{no_arrival, state_with}
use Rattle.sched_state.proofs.Numbered.{none-past}
use Rattle.sched_state.proofs.Numbers.{Numbers, by-arrival}
use Rattle.sched_state.proofs.Clocked.{come, to_come, taken_in, step-rest, step-state, stop-here, in-order}
use Rattle.sched_state.proofs.board.Board.advance.Goals as goal

pub arrive_at-requires-clause-new : goal.arrive_at-requires-clause-new
arrive_at-requires-clause-new c = none-past 0 c.loop-self.self.runs.runs (length c.loop-self.self.runs.runs) c.loop-self.invariant.numbered (omega arith)

pub loop-self-preserved : goal.loop-self-preserved
loop-self-preserved c =
    let arrivals = c.args.arrivals.now in
    let clock = c.args.clock in
    let t = c.loop-self.self.taken in
    let old = c.loop-self.self in
    let new = c.arrive_at.new.self in
    let what = (slice_index_or arrivals t no_arrival).act in
    let becomes = c.in_ok-arrive_at.ensures in
    let within : t < length arrivals = omega arith in
    let early : (slice_index_or arrivals t no_arrival).at ≤ clock = omega (arith, c.moment_of-at.ensures, c.if-at-clock.false) in
    let left : List Arrival = to_come clock (drop c.args.self.now.taken arrivals) in
    let N : SchedState → Type 0 = Numbers in
    let same : new.taken ≡ t = becomes.taken in
    let R : ℕ → Type 0 = λ n. to_come clock (drop (n + 1) arrivals) ≡ to_come clock (drop c.args.self.now.taken arrivals) in
    let S : List Dataset → ℕ → Type 0 = λ ds n. taken_in (state_with left ds new) (come clock (drop (n + 1) arrivals)) ≡ taken_in (state_with left ds old) (come clock (drop t arrivals)) in
    record {
      taken = omega (arith, within, same);
      pipelines = becomes.pipelines ∙ c.loop-self.invariant.pipelines;
      numbered = subst N (sym (becomes.state [] [])) (by-arrival (state_with [] [] old) what c.loop-self.invariant.numbered);
      rest = subst R (sym same) (step-rest clock t arrivals within early ∙ c.loop-self.invariant.rest);
      state = λ ds. subst (S ds) (sym same) (step-state clock t arrivals (state_with left ds old) (state_with left ds new) within early (becomes.state left ds)) ∙ c.loop-self.invariant.state ds;
    }

pub returns-then-at-clock-clause-state : goal.returns-then-at-clock-clause-state
returns-then-at-clock-clause-state c = λ ds.
    let arrivals = c.args.arrivals.now in
    let clock = c.args.clock in
    let t = c.loop-self.self.taken in
    let within : t < length arrivals = omega arith in
    let late : clock < (slice_index_or arrivals t no_arrival).at = omega (arith, c.moment_of-at.ensures, c.if-at-clock.true) in
    let stop = stop-here clock t arrivals within late (in-order arrivals c.requires.order) in
    let left : List Arrival = to_come clock (drop c.args.self.now.taken arrivals) in
    let same : drop t arrivals ≡ left = sym stop.1 ∙ c.loop-self.invariant.rest in
    ap (λ (ls : List Arrival). state_with ls ds c.loop-self.self) same
    ∙ ap (taken_in (state_with left ds c.loop-self.self)) (sym stop.0) ∙ c.loop-self.invariant.state ds
