use Rattle.std.proofs.Common.{◌≡◌, ℕ, ◌<◌, get_or}
use Rattle.rtio_input.specs.Channel.{closed_channel}
use Rattle.rtio_input.proofs.channels.close_all.Given as goal

abbrev pub invariant-loop-channel : goal.invariant-loop-channel
invariant-loop-channel l = (k : ℕ) → k < l.channel-index → get_or l.channels k closed_channel ≡ closed_channel
