-- The slack of an output.
use Rattle.std.specs.Prelude.{ℤ, pos, ◌-ℤ◌}
use Rattle.rtio_types.specs.Time.{reading}
use Rattle.trace_fates.specs.declared.data.TracedOutput.{TracedOutput}

-- how much later (mu) the stamp of an output was than what the counter read at its answer
abbrev pub slack_of : TracedOutput → ℤ
slack_of output = output.event.stamp -ℤ pos (reading output.at)
