use Rattle.std.proofs.Common.{◌≡◌, List, refl, sym, ◌∙◌, ap}
use Rattle.std.specs.Prelude.{Some}
use Rattle.std.specs.Option.{option_copied}
use Rattle.exp_runs.specs.declared.run.Run.{Run}
use Rattle.exp_runs.specs.Keys.{run_of}
use Rattle.exp_runs.specs.Table.{RunTable, changed, with_fields}
use Rattle.sched_state.specs.State.{SchedState}
use Rattle.sched_state.specs.Boards.{state_with}
use Rattle.sched_state.specs.Reports.{moved_on}
use Rattle.sched_state.proofs.Moved.{alike, found-moved}
use Rattle.sched_state.proofs.board.Board.move_on.Goals as goal

pub returns-clause-change : goal.returns-clause-change
returns-clause-change c =
    let old = c.args.self.now in
    let run = c.in-Some.run'.now in
    let moved = c.moved_on-moved.result in
    let there : run_of old.runs.runs c.args.rid ≡ Some run = sym c.get.ensures ∙ ap option_copied c.in-Some.is in
    let fields = with_fields moved.pos moved.terminate moved.doomed in
    let same : changed fields c.args.rid old.runs.runs ≡ changed moved_on c.args.rid old.runs.runs =
    alike fields moved_on c.args.rid 0 old.runs.runs c.requires.numbered
    (λ r found. let own : run ≡ r = cc in ap (λ (m : Run). with_fields m.pos m.terminate m.doomed r) (c.moved_on-moved.ensures ∙ ap moved_on own)) in
    record {
      state = λ left datasets.
          let base : SchedState = state_with left datasets old in
          ap (λ (t : RunTable). record base { runs = t.runs }) c.set_fields.ensures ∙ ap (λ (rs : List Run). record base { runs = rs }) same;
      taken = refl;
      pipelines = ap (λ (t : RunTable). t.pipelines) c.set_fields.ensures;
    }

pub returns-clause-run : goal.returns-clause-run
returns-clause-run c =
    let old = c.args.self.now in
    let run = c.in-Some.run'.now in
    let moved = c.moved_on-moved.result in
    let there : run_of old.runs.runs c.args.rid ≡ Some run = sym c.get.ensures ∙ ap option_copied c.in-Some.is in
    let fields = with_fields moved.pos moved.terminate moved.doomed in
    ap (λ (t : RunTable). run_of t.runs c.args.rid) c.set_fields.ensures ∙ found-moved fields (λ r. refl) c.args.rid old.runs.runs run there
    ∙ ap (λ (m : Run). Some (with_fields m.pos m.terminate m.doomed run)) c.moved_on-moved.ensures ∙ ap Some (sym c.moved_on-moved.ensures)
