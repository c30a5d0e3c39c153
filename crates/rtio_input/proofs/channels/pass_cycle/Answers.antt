use Rattle.std.proofs.Common.{List, ap, ◌∙◌}
use Rattle.rtio_input.specs.Channel.{ChannelState}
use Rattle.rtio_input.specs.Calls.{after_edges, after_events, each_channel}
use Rattle.rtio_input.proofs.Steps.{each-each}
use Rattle.rtio_input.proofs.channels.pass_cycle.Goals as goal

pub returns : goal.returns
returns c =
    c.pass_events.ensures
    ∙ ap (λ (cs : List ChannelState). each_channel (after_events c.args.kept.now) cs) c.pass_edges.ensures
    ∙ each-each (after_edges c.args.kept.now c.args.edges.now) (after_events c.args.kept.now) c.args.channels.now
