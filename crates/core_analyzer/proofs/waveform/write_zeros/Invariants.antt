use Rattle.std.proofs.Common.{◌≡◌, ◌++◌, map, string_bytes}
use Rattle.std.specs.List.{range_with_len}
use Rattle.core_analyzer.specs.Waveform.{data_line, text_of_lines}
use Rattle.core_analyzer.proofs.waveform.write_zeros.Given as goal

-- the lines of the channels so far are written
abbrev pub invariant-loop-channel : goal.invariant-loop-channel
invariant-loop-channel l = string_bytes l.text ≡ string_bytes l.initial.text ++ text_of_lines (map (λ channel. data_line channel 0) (range_with_len 0 l.channel))
