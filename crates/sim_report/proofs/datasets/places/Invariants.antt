use Rattle.std.proofs.Common.{take}
use Rattle.sim_report.specs.Datasets.{datasets_of}
use Rattle.sim_report.specs.Places.{ArePlaces}
use Rattle.sim_report.proofs.datasets.places.Given as goal

-- the places of what the entries so far set
abbrev pub invariant-loop-place : goal.invariant-loop-place
invariant-loop-place l = ArePlaces l.history l.places.entries (datasets_of (take l.place l.history))
