use Rattle.std.specs.Io.KnownBytes.{Keeps}
use Rattle.lab_io.proofs.standard.read_uninterrupted.Given as goal

-- the interrupted reads left the bytes
abbrev pub invariant-loop : goal.invariant-loop
invariant-loop g l = Keeps (g.R.Read.remaining l.fn.reader) (g.R.Read.remaining l.reader)
