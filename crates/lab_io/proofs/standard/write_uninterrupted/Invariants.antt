use Rattle.std.specs.Io.KnownBytes.{Keeps}
use Rattle.lab_io.proofs.standard.write_uninterrupted.Given as goal

-- the interrupted writes left what is held
abbrev pub invariant-loop : goal.invariant-loop
invariant-loop g l = Keeps (g.W.Write.contents l.fn.writer) (g.W.Write.contents l.writer)
