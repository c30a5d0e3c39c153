use Rattle.std.proofs.Common.{◌≡◌, take}
use Rattle.rtio_core.specs.Handed.{kept_of}
use Rattle.rtio_core.proofs.one_core.handed_in.Given as goal

abbrev pub invariant-loop-named : goal.invariant-loop-named
invariant-loop-named l = l.store ≡ kept_of (take l.named-index l.kept)
