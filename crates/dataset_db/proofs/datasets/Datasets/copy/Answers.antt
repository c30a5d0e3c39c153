use Rattle.std.proofs.Common.{◌≡◌, Some, ap, rules}
use Rattle.std.specs.Prelude.{slice_get}
use Rattle.dataset_db.proofs.Copied.{copied-step}
use Rattle.dataset_db.proofs.datasets.Datasets.copy.Goals as goal

pub loop-position-preserved : goal.loop-position-preserved
loop-position-preserved c =
    let at : slice_get c.self.inside.entries.entries c.loop-position.position ≡ Some (c.unwrap.result.0.now, c.unwrap.result.1.now) = search rules in
    let items : c.in_ok-from_slice.field-0.items ≡ c.unwrap.result.0.now.items = search rules in
    let value : c.in_ok-copy.field-0 ≡ c.unwrap.result.1.now.value = search rules in
    copied-step c.self.inside.entries.entries c.loop-position.entries.entries c.insert.new.self.entries c.args.self.now c.loop-position.position (c.unwrap.result.0.now, c.unwrap.result.1.now) c.in_ok-from_slice.field-0 (record { name = c.unwrap.result.1.now.name; value = c.in_ok-copy.field-0; flags = c.unwrap.result.1.now.flags }) c.self.invariant c.self.view_is at items (ap (λ v. record { name = c.unwrap.result.1.now.name; value = v; flags = c.unwrap.result.1.now.flags }) value) c.loop-position.invariant c.in_ok-insert.ensures.unique c.in_ok-insert.ensures.entries
