use Rattle.std.proofs.Common.{◌≡◌, ◌-◌}
use Rattle.core_image.specs.Reading.{name_at, times_at}
use Rattle.core_image.proofs.Loop.{with_front}
use Rattle.core_image.proofs.reader.Reader.names.Given as goal

-- what was read so far and what is left to read are all
abbrev pub invariant-loop : goal.invariant-loop
invariant-loop l =
    with_front (l.names.items) (times_at name_at (l.count - l.counter) l.self.rest.now)
    ≡ times_at name_at l.fn.count l.fn.self.rest.now
