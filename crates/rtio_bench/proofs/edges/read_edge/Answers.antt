use Rattle.rtio_bench.proofs.Passed.{read-passed}
use Rattle.rtio_bench.proofs.edges.read_edge.Goals as goal

pub returns-in-Some-Stamp-clause-passed : goal.returns-in-Some-Stamp-clause-passed
returns-in-Some-Stamp-clause-passed c = read-passed c.from-cycle.result c.args.number c.edge_of-edge.result.channel c.ask_edge.result c.args.inputs.now c.cycle.new.self c.ask_edge.new.self c.from-cycle.ensures c.cycle.ensures.after c.ask_edge.ensures.after

pub returns-clause-passed : goal.returns-clause-passed
returns-clause-passed c = read-passed c.from-cycle.result c.args.number c.edge_of-edge.result.channel c.ask_edge.result c.args.inputs.now c.cycle.new.self c.ask_edge.new.self c.from-cycle.ensures c.cycle.ensures.after c.ask_edge.ensures.after
