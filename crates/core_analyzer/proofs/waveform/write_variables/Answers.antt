use Rattle.std.proofs.Common.{◌++◌, [], ◌∷◌, List, ℕ, ap, ◌∙◌, string_bytes}
use Rattle.core_analyzer.specs.Waveform.{variable_line}
use Rattle.core_analyzer.proofs.Written.{line-more}
use Rattle.core_analyzer.proofs.waveform.write_variables.Goals as goal

pub loop-channel-preserved : goal.loop-channel-preserved
loop-channel-preserved c =
    c.in_ok-write_variable.ensures
    ∙ ap (λ (text : List ℕ). text ++ (variable_line c.loop-channel.channel ++ (10 ∷ []))) c.loop-channel.invariant
    ∙ line-more variable_line (string_bytes c.args.text.now) c.loop-channel.channel
