use Rattle.std.proofs.Common.{◌∙◌}
use Rattle.dataset_db.proofs.Entries.{inside-insert, put-view}
use Rattle.dataset_db.proofs.datasets.Datasets.put.Goals as goal

pub invariant_of-self-2 : goal.invariant_of-self-2
invariant_of-self-2 c =
    inside-insert c.self.inside.entries.entries c.insert.new.self.entries c.in-Ok.key (record { name = c.args.name.now; value = c.args.value; flags = c.args.flags }) c.self.invariant c.in_default-insert.ensures.unique c.in_default-insert.ensures.entries (c.in-Ok.ensures.items ∙ c.bytes.ensures.value)

pub returns-clause-ok : goal.returns-clause-ok
returns-clause-ok c =
    put-view c.self.inside.entries.entries c.insert.new.self.entries c.args.self.now c.in-Ok.key (record { name = c.args.name.now; value = c.args.value; flags = c.args.flags }) c.args.name.now c.self.view_is c.self.invariant c.in_default-insert.ensures.entries (c.in-Ok.ensures.items ∙ c.bytes.ensures.value)
