use Rattle.core_code_names.proofs.Firsts.{AreSlotsTo}
use Rattle.core_code_names.proofs.slotted.SlottedNames.of.Given as goal

abbrev pub invariant-loop-place : goal.invariant-loop-place
invariant-loop-place l = AreSlotsTo l.fn.names l.place l.firsts.items l.slots
