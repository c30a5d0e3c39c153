use Rattle.std.proofs.Common.{◌≡◌, ◌≤◌, ℕ, length, replicate, ap, ◌∙◌, arith}
use Rattle.rtio_input.specs.Channel.{closed_channel}
use Rattle.rtio_input.proofs.Steps.{all-closed}
use Rattle.rtio_input.proofs.channels.close_all.Goals as goal

pub returns : goal.returns
returns c =
    let eight : length c.loop-channel.channels ≡ 8 = omega (arith, c.requires) in
    let done : length c.loop-channel.channels ≤ c.loop-channel.channel-index = omega arith in
    all-closed c.loop-channel.channels (λ k lt. c.loop-channel.invariant k (omega (arith, lt, done)))
    ∙ ap (λ (n : ℕ). replicate n closed_channel) eight
