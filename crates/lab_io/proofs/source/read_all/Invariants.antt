use Rattle.std.proofs.Common.{◌≡◌, ◌≤◌, ◌-◌, length}
use Rattle.std.specs.Io.KnownBytes.{Consumes}
use Rattle.lab_io.proofs.source.read_all.Given as goal

-- the bytes so far are what the source lost, at most the maximum, and no read has failed
abbrev pub invariant-loop-bytes : goal.invariant-loop-bytes
invariant-loop-bytes g l = record {
  buffer : length l.buf.items ≡ 4096;
  within : length l.bytes.items ≤ l.max;
  taken : Consumes (g.S.Source.left l.fn.source) (g.S.Source.left l.source) l.bytes.items;
  steady : g.S.Source.faults l.source ≡ g.S.Source.faults l.fn.source;
}

-- the bytes that may still come
abbrev pub decreases-loop-bytes : goal.decreases-loop-bytes
decreases-loop-bytes g l = l.max - length l.bytes.items
