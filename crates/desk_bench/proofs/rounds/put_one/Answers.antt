use Rattle.desk.proofs.Tallies.{grew_by}
use Rattle.desk_bench.proofs.rounds.put_one.Goals as goal

-- what was added is the chair's own
pub put-requires-clause-grew : goal.put-requires-clause-grew
put-requires-clause-grew g c =
    let held = c.take-held.ensures.held.0 in
    rw (held, ← c.value.ensures.value, ← c.number-by.ensures) (grew_by c.add-added.result c.value.result.now c.add-added.new.self c.number-by.result c.args.number c.add-added.ensures.added c.add-added.ensures.same)
