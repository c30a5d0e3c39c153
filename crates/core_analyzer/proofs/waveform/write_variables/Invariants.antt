use Rattle.std.proofs.Common.{◌≡◌, ◌++◌, map, string_bytes}
use Rattle.std.specs.List.{range_with_len}
use Rattle.core_analyzer.specs.Waveform.{text_of_lines, variable_line}
use Rattle.core_analyzer.proofs.waveform.write_variables.Given as goal

-- the lines of the channels so far are written
abbrev pub invariant-loop-channel : goal.invariant-loop-channel
invariant-loop-channel l = string_bytes l.text ≡ string_bytes l.initial.text ++ text_of_lines (map variable_line (range_with_len 0 l.channel))
