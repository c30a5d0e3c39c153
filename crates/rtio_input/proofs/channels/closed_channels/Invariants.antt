use Rattle.std.proofs.Common.{◌≡◌, replicate}
use Rattle.std.specs.Prelude.{vec_len, vec_capacity}
use Rattle.rtio_input.specs.Channel.{closed_channel}
use Rattle.rtio_input.proofs.channels.closed_channels.Given as goal

abbrev pub invariant-loop-channel : goal.invariant-loop-channel
invariant-loop-channel l =
    (l.channels.items ≡ replicate l._channel closed_channel)
    × (vec_len l.channels ≡ l._channel)
    × (vec_capacity l.channels ≡ 8)
