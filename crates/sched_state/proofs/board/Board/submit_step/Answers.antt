use Rattle.std.proofs.Common.{◌≡◌, ℕ, true, false, cond, List, [], ◌∷◌, drop, length, sym, ◌∙◌, ap, subst}
use Rattle.std.specs.Prelude.{IsSome}
use Rattle.exp_runs.specs.declared.run.Run.{Run}
use Rattle.exp_runs.specs.Keys.{run_of}
use Rattle.sched_state.specs.declared.entry.StepWord.TheVariants as word
use Rattle.sched_state.specs.State.{SchedState}
use Rattle.sched_state.specs.Arrivals.{new_run, submitted}
use Rattle.sched_state.specs.Reports.{fails, goes_on, is_full_of_runs}
use Rattle.sched_state.specs.Boards.{state_of, state_with}
use Rattle.sched_state.proofs.Stepped.{still-found}
use Rattle.sched_state.proofs.board.Board.submit_step.Goals as goal

pub returns-then-is_full_of_runs-clause-effect : goal.returns-then-is_full_of_runs-clause-effect
returns-then-is_full_of_runs-clause-effect c = λ session run ran datasets.
    let old : SchedState = state_of c.args.arrivals.now datasets c.args.self.now in
    let full : is_full_of_runs old ≡ true = sym (c.is_full_of_runs.ensures datasets) ∙ c.if-is_full_of_runs.true in
    c.fails.ensures old ∙ sym (ap (λ b. cond b (fails word.Failed old) (goes_on (submitted c.args.asked.now old))) full)

pub returns-clause-effect : goal.returns-clause-effect
returns-clause-effect c = λ session run ran datasets.
    let arrivals = c.args.arrivals.now in
    let old : SchedState = state_of arrivals datasets c.args.self.now in
    let new = c.submit.new.self in
    let b = c.in_ok-submit.ensures in
    let room : is_full_of_runs old ≡ false = sym (c.is_full_of_runs.ensures datasets) ∙ c.if-is_full_of_runs.false in
    let becomes : state_of arrivals datasets new ≡ submitted c.args.asked.now old =
    ap (λ (n : ℕ). state_with (drop n arrivals) datasets new) b.taken ∙ b.state (drop c.args.self.now.taken arrivals) datasets in
    c.goes_on.ensures (state_of arrivals datasets new) ∙ ap goes_on becomes
    ∙ sym (ap (λ b. cond b (fails word.Failed old) (goes_on (submitted c.args.asked.now old))) room)

pub returns-clause-known : goal.returns-clause-known
returns-clause-known c = λ rid known.
    let old = c.args.self.now.runs.runs in
    let runs : c.submit.new.self.runs.runs ≡ (submitted c.args.asked.now (state_with [] [] c.args.self.now)).runs =
    ap (λ (s : SchedState). s.runs) (c.in_ok-submit.ensures.state [] []) in
    let P : List Run → Type 0 = λ rs. IsSome (run_of rs rid) in
    subst P (sym runs) (still-found old (new_run (length old) c.args.asked.now ∷ []) rid known)
