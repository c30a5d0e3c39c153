-- How near a CPU is to its next stop.
use Rattle.std.specs.Prelude.{ℕ, ◌+◌, ◌*◌, ◌^◌, if◌then◌else◌, length}
use Rattle.core_isa.specs.Falling.{first_number, second_number}
use Rattle.core_isa.specs.Machine.{Machine}
use Rattle.core_isa.specs.declared.code.Code.{Code}
use Rattle.core_cpu.specs.Moments.{Moment, is_ready}

-- more than the second number of any machine with 64 frames of 255 handlers
abbrev pub heaviest : Code → ℕ
heaviest code = 64 * 256 * 3 ^ length code.lines + 1

-- the two numbers of a machine as one
abbrev pub distance : Code → Machine → ℕ
distance code m = first_number code m * heaviest code + second_number code m

-- how near a moment is to the next stop: a CPU that isn't ready has come to one
abbrev pub nearness : Moment → ℕ
nearness moment = if is_ready moment.phase then distance moment.code moment.machine + 1 else 0
