use Rattle.std.proofs.Common.{arith}
use Rattle.rtio_input.proofs.Steps.{edges-more}
use Rattle.rtio_input.proofs.channels.pass_edges.Goals as goal

pub loop-edge-preserved : goal.loop-edge-preserved
loop-edge-preserved c =
    edges-more c.args.kept.now c.args.edges.now c.loop-edge.edge-index _ c.args.channels.now c.loop-edge.channels c.pass_edge.new.channels (omega arith)
    c.loop-edge.invariant c.pass_edge.ensures
