use Rattle.std.proofs.Common.{Bool, ◌∙◌, subst}
use Rattle.sched_state.specs.Boards.{IsStored, state_with}
use Rattle.sched_state.specs.Datasets.{changes_by}
use Rattle.sched_state.proofs.Stepped.{not-stored, stored-at}
use Rattle.sched_state.proofs.stepping.store_step.Goals as goal

pub returns-then-branch : goal.returns-then-branch
returns-then-branch c = λ left board.
    let old = c.args.datasets.now in
    let new = c.store.new.datasets in
    let found = changes_by c.args.step.now old in
    let P : Bool → Type 0 = λ b. IsStored found b old new in
    c.goes_on.ensures (state_with left new board) ∙ stored-at found old new left board (subst P c.if-branch.true c.in_ok-store.ensures)

pub returns-else-branch : goal.returns-else-branch
returns-else-branch c = λ left board.
    let old = c.args.datasets.now in
    let new = c.store.new.datasets in
    let found = changes_by c.args.step.now old in
    let P : Bool → Type 0 = λ b. IsStored found b old new in
    c.fails.ensures (state_with left new board) ∙ not-stored found old new left board (subst P c.if-branch.false c.in_ok-store.ensures)
