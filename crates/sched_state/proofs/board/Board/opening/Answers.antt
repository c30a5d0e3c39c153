use Rattle.std.proofs.Common.{◌≡◌, ℕ, List, [], rules, length, ap, sym, ◌∙◌, subst}
use Rattle.std.specs.List.{AllByRecursion}
use Rattle.exp_runs.specs.Table.{RunTable}
use Rattle.exp_model.specs.declared.arrival.Arrival.{Arrival}
use Rattle.sched_state.specs.Boards.{IsActFor}
use Rattle.sched_state.proofs.Openings.{session-order, session-acts}
use Rattle.sched_state.proofs.board.Board.opening.Goals as goal

pub advance-requires-clause-order : goal.advance-requires-clause-order
advance-requires-clause-order c = rw c.items.ensures (session-order c.args.session.now c.requires.session)

pub advance-requires-clause-acts : goal.advance-requires-clause-acts
advance-requires-clause-acts c =
    let count : length c.args.session.now.pipelines ≡ c.in_ok-new.field-0.pipelines = c.requires.pipelines ∙ sym (ap (λ (t : RunTable). t.pipelines) c.in_ok-new.ensures) in
    let P : ℕ → Type 0 = λ n. AllByRecursion (λ (arrival : Arrival). IsActFor n arrival.act) c.args.session.now.arrivals in
    let Q : List Arrival → Type 0 = λ arrivals. AllByRecursion (λ (arrival : Arrival). IsActFor c.in_ok-new.field-0.pipelines arrival.act) arrivals in
    subst Q (sym c.items.ensures) (subst P count (session-acts c.args.session.now c.requires.session))

pub returns-clause-state : goal.returns-clause-state
returns-clause-state c =
    let h = c.in_ok-advance.ensures.state [] in
    search (rules, h)
