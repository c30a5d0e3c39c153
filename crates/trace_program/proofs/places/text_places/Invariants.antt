use Rattle.std.proofs.Common.{◌≡◌, map, take}
use Rattle.trace_program.specs.Places.{text_place}
use Rattle.trace_program.proofs.places.text_places.Given as goal

-- the places so far
abbrev pub invariant-loop-place : goal.invariant-loop-place
invariant-loop-place l = l.all.items ≡ map (text_place l.lines) (take l.place-index l.places)
