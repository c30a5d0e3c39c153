use Rattle.std.proofs.Common.{◌≡◌, ◌+◌, ℕ, List, [], drop, refl, sym, ◌∙◌, ap, subst}
use Rattle.std.specs.List.{AllByRecursion}
use Rattle.exp_model.specs.declared.arrival.Arrival.{Arrival}
use Rattle.sched_state.specs.State.{SchedState, with_run}
use Rattle.sched_state.specs.Arrivals.{at_clock}
use Rattle.sched_state.specs.Boards.{AreNumbered, IsActFor, state_of, state_with}
use Rattle.sched_state.specs.Reports.{moved_on}
use Rattle.sched_state.proofs.Numbered.{changed-numbered}
use Rattle.sched_state.proofs.Numbers.{Numbers, by-clock}
use Rattle.sched_state.proofs.Openings.{session-acts}
use Rattle.sched_state.proofs.board.Board.rise.Goals as goal

pub advance-requires-clause-acts : goal.advance-requires-clause-acts
advance-requires-clause-acts c =
    let P : ℕ → Type 0 = λ n. AllByRecursion (λ (arrival : Arrival). IsActFor n arrival.act) c.args.session.now.arrivals in
    let Q : List Arrival → Type 0 = λ arrivals. AllByRecursion (λ (arrival : Arrival). IsActFor c.args.self.now.runs.pipelines arrival.act) arrivals in
    subst Q (sym c.items.ensures) (subst P (sym c.requires.pipelines) (session-acts c.args.session.now c.requires.session))

pub move_on-requires-clause-numbered : goal.move_on-requires-clause-numbered
move_on-requires-clause-numbered c =
    let arrivals = c.items.result.now in
    let N : SchedState → Type 0 = Numbers in
    subst N (sym (c.in_ok-advance.ensures.state [])) (by-clock (c.args.self.now.clock + 1) (state_of arrivals [] c.args.self.now) c.requires.numbered)

pub returns-clause-state : goal.returns-clause-state
returns-clause-state c = λ datasets.
    let session = c.args.session.now in
    let old = c.args.self.now in
    let mid = c.advance.new.self in
    let new = c.move_on.new.self in
    let b = c.move_on.ensures.change in
    let E : List Arrival → Type 0 = λ arrivals. state_of arrivals datasets mid ≡ at_clock (old.clock + 1) (state_of arrivals datasets old) in
    let risen : E session.arrivals = subst E c.items.ensures (c.in_ok-advance.ensures.state datasets) in
    ap (λ (n : ℕ). state_with (drop n session.arrivals) datasets new) b.taken ∙ b.state (drop mid.taken session.arrivals) datasets
    ∙ ap (with_run moved_on c.args.rid) risen

pub returns-clause-numbered : goal.returns-clause-numbered
returns-clause-numbered c =
    let arrivals = c.items.result.now in
    let mid = c.advance.new.self in
    let N : SchedState → Type 0 = Numbers in
    let was : AreNumbered mid.runs.runs =
    subst N (sym (c.in_ok-advance.ensures.state [])) (by-clock (c.args.self.now.clock + 1) (state_of arrivals [] c.args.self.now) c.requires.numbered) in
    subst N (sym (c.move_on.ensures.change.state [] [])) (changed-numbered moved_on (λ r. refl) c.args.rid 0 mid.runs.runs was)
