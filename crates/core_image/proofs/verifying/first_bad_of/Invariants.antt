use Rattle.core_image.specs.AcceptedTests.{AreGood}
use Rattle.core_image.proofs.verifying.first_bad_of.Given as goal

-- the places so far are good
abbrev pub invariant-loop-place : goal.invariant-loop-place
invariant-loop-place l = AreGood l.code l.begin l.place
