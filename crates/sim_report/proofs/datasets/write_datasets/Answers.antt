use Rattle.std.proofs.Common.{◌++◌, ℕ, List, ap, sym, ◌∙◌, option_map, string_bytes}
use Rattle.rtio_types.specs.declared.request.Value.{Value}
use Rattle.sim_report.specs.Datasets.{datasets_of}
use Rattle.sim_report.specs.Lines.{data_line}
use Rattle.sim_report.specs.Places.{set_at}
use Rattle.sim_report.proofs.Joined.{lines-more}
use Rattle.sim_report.proofs.Set.{same-found, some-mapped, told-at}
use Rattle.sim_report.proofs.datasets.write_datasets.Goals as goal

pub unwrap-requires-in-loop-position : goal.unwrap-requires-in-loop-position
unwrap-requires-in-loop-position c =
    let there = sym c.get_index.ensures.entry ∙ ap (option_map (λ p. (p.0.now, p.1.now))) c.unwrap.ensures in
    let told = told-at c.args.history.now c.in_ok-places.places.entries (datasets_of c.args.history.now) c.loop-position.position (c.unwrap.result.0.now, c.unwrap.result.1.now) c.in_ok-places.ensures there in
    some-mapped (λ p. (p.0.now, p.1.now)) c.set_at.result told.dataset (c.set_at.ensures ∙ told.set)

pub loop-position-preserved : goal.loop-position-preserved
loop-position-preserved c =
    let there = sym c.get_index.ensures.entry ∙ ap (option_map (λ p. (p.0.now, p.1.now))) c.unwrap.ensures in
    let told = told-at c.args.history.now c.in_ok-places.places.entries (datasets_of c.args.history.now) c.loop-position.position (c.unwrap.result.0.now, c.unwrap.result.1.now) c.in_ok-places.ensures there in
    let read = sym (ap (option_map (λ p. (p.0.now, p.1.now))) c.unwrap-in-loop-position.ensures) ∙ c.set_at.ensures in
    let same = same-found (set_at c.args.history.now c.unwrap.result.1.now) (c.unwrap-in-loop-position.result.0.now, c.unwrap-in-loop-position.result.1.now) told.dataset read told.set in
    c.in_ok-write_dataset.ensures
    ∙ ap (λ (d : List ℕ × Value). string_bytes c.loop-position.text ++ data_line d) same
    ∙ ap (λ (t : List ℕ). t ++ data_line told.dataset) c.loop-position.invariant
    ∙ lines-more data_line (string_bytes c.args.text.now) (datasets_of c.args.history.now) c.loop-position.position told.dataset told.at
