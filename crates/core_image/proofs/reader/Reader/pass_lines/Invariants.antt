use Rattle.std.proofs.Common.{◌-◌}
use Rattle.core_image.specs.Reading.{line_at, times_at}
use Rattle.core_image.proofs.Loop.{IsLeft}
use Rattle.core_image.proofs.reader.Reader.pass_lines.Given as goal

abbrev pub invariant-loop : goal.invariant-loop
invariant-loop l = IsLeft (times_at line_at (l.count - l.counter) l.self.rest.now) (times_at line_at l.fn.count l.fn.self.rest.now)
