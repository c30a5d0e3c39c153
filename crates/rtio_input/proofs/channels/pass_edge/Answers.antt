use Rattle.rtio_input.proofs.Steps.{edge-given}
use Rattle.rtio_input.proofs.channels.pass_edge.Goals as goal

pub returns : goal.returns
returns c =
    edge-given c.args.kept.now c.args.edge.now c.args.channels.now c.index-channels-edge.result c.take_edge.new.self c.requires.eight c.requires.own c.take_edge.ensures
