use Rattle.std.proofs.Common.{◌++◌, [], ◌∷◌, List, ℕ, ap, ◌∙◌, string_bytes}
use Rattle.core_analyzer.specs.Waveform.{data_line}
use Rattle.core_analyzer.proofs.Written.{line-more}
use Rattle.core_analyzer.proofs.waveform.write_zeros.Goals as goal

pub loop-channel-preserved : goal.loop-channel-preserved
loop-channel-preserved c =
    c.in_ok-write_data.ensures
    ∙ ap (λ (text : List ℕ). text ++ (data_line c.loop-channel.channel 0 ++ (10 ∷ []))) c.loop-channel.invariant
    ∙ line-more (λ channel. data_line channel 0) (string_bytes c.args.text.now) c.loop-channel.channel
