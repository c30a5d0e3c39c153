use Rattle.std.proofs.Common.{◌-◌, ◌≤◌}
use Rattle.core_image.specs.Reading.{functions_at}
use Rattle.core_image.proofs.Loop.{IsLeft}
use Rattle.core_image.proofs.reader.Reader.pass_functions.Given as goal

abbrev pub invariant-loop : goal.invariant-loop
invariant-loop l = record {
  left : IsLeft (functions_at (l.count - l.counter) l.least l.most l.lines l.self.rest.now) (functions_at l.fn.count 0 0 l.fn.lines l.fn.self.rest.now);
  most : l.most ≤ l.lines - 1;
}
