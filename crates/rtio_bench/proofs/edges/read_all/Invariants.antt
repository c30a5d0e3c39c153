use Rattle.std.proofs.Common.{◌≡◌, ◌+◌, ◌++◌, List, IsTrue}
use Rattle.rtio_types.specs.declared.event.Edge.{Edge}
use Rattle.rtio_types.specs.declared.event.Event.{Event}
use Rattle.rtio_input.specs.Calls.{passed_before}
use Rattle.rtio_input.specs.Past.{InputStep, InputsStandFor}
use Rattle.rtio_bench.specs.Reading.{cycle_of_edge, reads}
use Rattle.rtio_bench.specs.Sums.{stamps_sum}
use Rattle.rtio_bench.proofs.edges.read_all.Given as goal

-- the edges before the number were read, with this sum, and none is to come before its cycle
abbrev pub invariant-loop-number : goal.invariant-loop-number
invariant-loop-number l =
    (l.sum ≡ stamps_sum l.number)
    × IsTrue (passed_before (cycle_of_edge l.number) l.inputs)
    × ((script : List Edge) (outputs : List Event) (steps : List InputStep) → InputsStandFor l.fn.inputs script outputs steps 1 → InputsStandFor l.inputs script outputs (steps ++ reads l.number) (l.number + 1))
