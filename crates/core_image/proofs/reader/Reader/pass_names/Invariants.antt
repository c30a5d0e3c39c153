use Rattle.std.proofs.Common.{◌-◌}
use Rattle.core_image.specs.Reading.{name_at, times_at}
use Rattle.core_image.proofs.Loop.{IsLeft}
use Rattle.core_image.proofs.reader.Reader.pass_names.Given as goal

abbrev pub invariant-loop : goal.invariant-loop
invariant-loop l = IsLeft (times_at name_at (l.count - l.counter) l.self.rest.now) (times_at name_at l.fn.count l.fn.self.rest.now)
