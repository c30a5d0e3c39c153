use Rattle.core_image.specs.AcceptedTests.{AreGood, start_of}
use Rattle.core_image.proofs.verifying.first_bad.Given as goal

-- the places before the function are good
abbrev pub invariant-loop-index : goal.invariant-loop-index
invariant-loop-index l = AreGood l.code 0 (start_of l.code l.index)
