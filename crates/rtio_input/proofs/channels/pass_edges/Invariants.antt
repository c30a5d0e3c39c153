use Rattle.std.proofs.Common.{◌≡◌, take}
use Rattle.rtio_input.specs.Calls.{after_edges, each_channel}
use Rattle.rtio_input.proofs.channels.pass_edges.Given as goal

abbrev pub invariant-loop-edge : goal.invariant-loop-edge
invariant-loop-edge l = l.channels ≡ each_channel (after_edges l.kept (take l.edge-index l.edges)) l.initial.channels
