use Rattle.std.proofs.Common.{◌≡◌, ◌-◌, map}
use Rattle.core_image.specs.Parts.{parts_of_line}
use Rattle.core_image.specs.Reading.{line_at, times_at}
use Rattle.core_image.proofs.Loop.{with_front}
use Rattle.core_image.proofs.reader.Reader.lines.Given as goal

-- what was read so far and what is left to read are all
abbrev pub invariant-loop : goal.invariant-loop
invariant-loop l =
    with_front (map parts_of_line l.lines.items) (times_at line_at (l.count - l.counter) l.self.rest.now)
    ≡ times_at line_at l.fn.count l.fn.self.rest.now
